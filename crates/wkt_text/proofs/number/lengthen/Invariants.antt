use Rattle.std.proofs.Common.{◌≡◌, ◌≤◌, ◌-◌, ◌*◌, ◌^◌}
use Rattle.wkt_text.specs.declared.number.TheConstants.{CAP}
use Rattle.text_laws.specs.Numbers.{capped}
use Rattle.wkt_text.proofs.number.lengthen.Given as goal

abbrev pub invariant-loop-step : goal.invariant-loop-step
invariant-loop-step l = record {
  under : l.size ≤ CAP;
  same : capped CAP (l.size * 10 ^ (l.zeros - l._step)) ≡ capped CAP (l.start * 10 ^ l.zeros);
}
