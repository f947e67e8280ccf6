-- The node is in with the sections before.
use Rattle.std.proofs.Common.{◌≡◌, take}
use Rattle.node_table.specs.Tables.{with_sections, AreInOrder}
use Rattle.relate_core.proofs.filling.add_all.Given as goal

abbrev pub invariant-loop-section : goal.invariant-loop-section
invariant-loop-section l = record {
  is : l.table ≡ with_sections l.fn.table l.n (take l.section-index l.sections);
  in_order : AreInOrder l.table;
}
