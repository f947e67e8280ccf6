use Rattle.std.proofs.Common.{pos, ◌+ℤ◌, w64, refl, sym, ◌∙◌}
use Rattle.std.specs.Prelude.{int_le}
use lib.IntN.{*ℤ_comm}
use Rattle.whole_algebra.proofs.Laws.{*ℤ_one}
use Rattle.whole_algebra.proofs.Computed.{read, literal, product, sum, stored}
use Rattle.plane_exact.proofs.Laws.{height_size}
use Rattle.ring_sides.proofs.middle.is_low_beside.Goals as goal

pub returns : goal.returns
returns c =
    let twice = stored w64 (product (literal (pos 2)) (read w64 c.args.p.y (height_size c.args.p c.requires.p) refl)) refl in
    let both = stored w64
    (sum (read w64 c.args.edge.a.y (height_size c.args.edge.a c.requires.start) refl)
    (read w64 c.args.edge.b.y (height_size c.args.edge.b c.requires.end) refl)) refl in
    record {
      low = (λ i. int_le (twice.is i) (both.is i))
          ∙ (λ i. int_le (*ℤ_comm (pos 2) c.args.p.y i) (sym (*ℤ_one (c.args.edge.a.y +ℤ c.args.edge.b.y)) i));
    }
