use Rattle.std.proofs.Common.{◌+ℤ◌, w64, refl, sym, ◌∙◌}
use Rattle.whole_algebra.proofs.Computed.{read, sum, stored}
use Rattle.ring_sides.proofs.Rays.{turn_of_middle}
use Rattle.ring_sides.proofs.middle.turn_to_middle.Goals as goal

pub returns : goal.returns
returns c = record {
  turn =
      (stored w64
      (sum (read w64 c.turn_of.result c.turn_of.ensures.size refl) (read w64 c.turn_of-2.result c.turn_of-2.ensures.size refl)) refl).is
      ∙ (λ i. c.turn_of.ensures.turn i +ℤ c.turn_of-2.ensures.turn i)
      ∙ sym (turn_of_middle c.args.a c.args.b c.args.edge);
}
