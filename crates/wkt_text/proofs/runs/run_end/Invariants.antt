use Rattle.std.proofs.Common.{◌≡◌, ◌≤◌, ◌-◌, ◌+◌, length, drop}
use Rattle.std.specs.List.{prefix_len}
use Rattle.wkt_text.specs.Bytes.{in_class}
use Rattle.wkt_text.proofs.runs.run_end.Given as goal

abbrev pub invariant-loop-end : goal.invariant-loop-end
invariant-loop-end l = record {
  within : l.end ≤ length l.bytes;
  onward : l.at ≤ l.end;
  same : l.end + prefix_len (in_class l.class) (drop l.end l.bytes) ≡ l.at + prefix_len (in_class l.class) (drop l.at l.bytes);
}

abbrev pub decreases-loop-end : goal.decreases-loop-end
decreases-loop-end l = length l.bytes - l.end
