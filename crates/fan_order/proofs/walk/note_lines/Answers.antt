use Rattle.std.proofs.Common.{false, List, IsTrue, ◌↔◌, subst}
use Rattle.std.proofs.lemmas.List.{take_all}
use Rattle.fan_order.specs.declared.section.Section.{Section}
use Rattle.fan_order.specs.Sections.{IsLineAlong}
use Rattle.std.specs.Prelude.{slice_index_or}
use Rattle.fan_order.proofs.Lines.{lines_more}
use Rattle.fan_order.proofs.Places.{some_ray}
use Rattle.fan_order.proofs.walk.note_lines.Goals as goal

pub note_line-requires-clause-along : goal.note_line-requires-clause-along
note_line-requires-clause-along c =
    some_ray c.args.sections.now c.args.rays.now c.requires.rays c.loop-section.section-index c.section-item.result c.loop-section-test.true
    c.section-item.is

pub loop-section-preserved : goal.loop-section-preserved
loop-section-preserved c = record {
  long = c.note_line.ensures.length;
  lines = λ i ray ray_is.
      lines_more c.args.which c.args.sections.now c.loop-section.section-index c.section-item.result ray
      (slice_index_or c.loop-section.lines i false) (slice_index_or c.note_line.new.lines i false) c.loop-section-test.true
      c.section-item.is (c.loop-section.invariant.lines i ray ray_is) (c.note_line.ensures.lines i ray ray_is);
}

pub returns-clause-lines : goal.returns-clause-lines
returns-clause-lines c = λ i ray ray_is.
    subst
    (λ (sections : List Section). IsTrue (slice_index_or c.loop-section.lines i false) ↔ IsLineAlong c.args.which sections ray)
    (take_all c.loop-section.section-index c.args.sections.now c.loop-section-test.false) (c.loop-section.invariant.lines i ray ray_is)
