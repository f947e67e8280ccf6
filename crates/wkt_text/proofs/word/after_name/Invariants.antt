use Rattle.std.proofs.Common.{◌≡◌, ◌≤◌, ◌-◌, length, drop}
use Rattle.wkt_text.specs.Words.{after_name}
use Rattle.wkt_text.proofs.word.after_name.Given as goal

abbrev pub invariant-loop-i : goal.invariant-loop-i
invariant-loop-i l = record {
  within : l.i ≤ length l.name;
  inside : l.i ≤ length l.word;
  same : after_name (drop l.i l.name) (drop l.i l.word) ≡ after_name l.name l.word;
}

abbrev pub decreases-loop-i : goal.decreases-loop-i
decreases-loop-i l = length l.name - l.i
