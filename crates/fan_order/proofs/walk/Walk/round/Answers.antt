use Rattle.std.proofs.Common.{◌≡◌, ◌↔◌, Bool, false, IsTrue, List, length, sym, ap, ◌∙◌, subst}
use Rattle.std.specs.Prelude.{slice_index_or}
use Rattle.std.specs.List.{refill}
use Rattle.fan_order.specs.Sections.{IsLineAlong}
use Rattle.fan_order.proofs.Lists.{refilled}
use Rattle.fan_order.proofs.walk.Walk.round.Goals as goal

pub returns-clause-round : goal.returns-clause-round
returns-clause-round c =
    let old = c.in_ok-lines.lines.items in
    let new = c.note_lines.new.lines in
    let same : refill (length old) old new ≡ new =
    refilled old new (c.note_lines.ensures.length ∙ sym c.in_ok-lines.ensures.len) in
    record {
      turns = c.in_ok-inside.ensures.turns;
      inside = c.in_ok-inside.ensures.inside;
      rays_all = ap length same ∙ c.note_lines.ensures.length;
      lines = λ i ray ray_is.
          subst (λ (lines : List Bool). IsTrue (slice_index_or lines i false) ↔ IsLineAlong c.args.which c.args.sections.now ray)
          (sym same) (c.note_lines.ensures.lines i ray ray_is);
    }
