-- The passes so far are those of the sections so far, and there is room for the rest.
use Rattle.std.proofs.Common.{◌≤◌, ◌*◌, length, take}
use Rattle.fan_order.specs.Passes.{twice, ArePasses}
use Rattle.fan_order.proofs.pass.passes_of.Given as goal

abbrev pub invariant-loop-section : goal.invariant-loop-section
invariant-loop-section l = record {
  passes : ArePasses l.which (twice l.rays) (take l.section-index l.sections) l.passes.items;
  few : length l.passes.items ≤ 2 * l.section-index;
  room : 2 * length l.sections ≤ l.passes.capacity;
}
