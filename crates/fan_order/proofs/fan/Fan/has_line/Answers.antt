use Rattle.std.proofs.Common.{false, Bool, List, sym, subst, ◌↔◌, IsTrue}
use Rattle.std.specs.Prelude.{slice_index_or}
use Rattle.fan_order.specs.Sections.{IsLineAlong}
use Rattle.fan_order.proofs.fan.Fan.has_line.Goals as goal

pub returns : goal.returns
returns c = record {
  line = λ ray ray_is.
      subst (λ (lines : List Bool). IsTrue (slice_index_or lines c.args.i false) ↔ IsLineAlong c.args.which c.args.self.now.sections ray)
      (sym c.deref.ensures) (c.walk.ensures.round.lines c.args.i ray ray_is);
}
