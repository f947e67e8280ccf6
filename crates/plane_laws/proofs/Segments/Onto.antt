-- Onto a segment: what puts a point on it, and the turns of a mix.
use Rattle.std.proofs.Common.{◌≡◌, ℤ, pos, ◌+ℤ◌, ◌-ℤ◌, ◌*ℤ◌, ◌<ℤ◌, ◌≤ℤ◌, [], ◌∷◌, refl}
use Rattle.whole_algebra.proofs.Polynomials.{Poly, var, ◌⊕◌, ◌⊖◌, ◌⊗◌}
use Rattle.whole_algebra.proofs.Certificates.{same, same_from, scaled, ◌⊞◌}
use Rattle.plane_laws.specs.Plane.{Point, IsMix, IsOnSegment, turn, shift, rise}
use Rattle.plane_laws.proofs.Turns.Turns.{turn_p}
use Rattle.whole_algebra.proofs.Signs.{pos_nonzero}
use Rattle.plane_laws.proofs.Segments.On.{are_steps, forward}

abbrev pub shift_p : Poly → Poly → Poly → Poly → Poly
shift_p ax aw bx bw = (bx ⊗ aw) ⊖ (ax ⊗ bw)

-- ---- onto a segment: on its line, and between its ends by abscissa or by height. The weights are the distances to the other end
pub on_segment_by_shift : (a b p : Point) → turn a b p ≡ pos 0 → pos 0 <ℤ shift a b → pos 0 ≤ℤ shift a p → pos 0 ≤ℤ shift p b
    → IsOnSegment a b p
on_segment_by_shift a b p line some first second = forward (are_steps a b p line).0 (pos_nonzero some) first second

pub on_segment_by_rise : (a b p : Point) → turn a b p ≡ pos 0 → pos 0 <ℤ rise a b → pos 0 ≤ℤ rise a p → pos 0 ≤ℤ rise p b
    → IsOnSegment a b p
on_segment_by_rise a b p line some first second = forward (are_steps a b p line).1 (pos_nonzero some) first second

module _ (a b p : Point) (s t : ℤ) (m : IsMix a b p s t) where
  -- the turn of a mix is the mix of the turns
  pub turn-mix : (c d : Point) → m.times *ℤ turn c d p ≡ s *ℤ turn c d a +ℤ t *ℤ turn c d b
  unfolding turn
  turn-mix c d =
      let vs = a.x ∷ a.y ∷ a.w ∷ b.x ∷ b.y ∷ b.w ∷ p.x ∷ p.y ∷ p.w ∷ s ∷ t ∷ m.times ∷ c.x ∷ c.y ∷ c.w ∷ d.x ∷ d.y ∷ d.w ∷ [] in
      let turned = λ (x y w : Poly). turn_p (var 12) (var 13) (var 14) (var 15) (var 16) (var 17) x y w in
      same_from (var 11 ⊗ turned (var 6) (var 7) (var 8))
      (var 9 ⊗ turned (var 0) (var 1) (var 2) ⊕ var 10 ⊗ turned (var 3) (var 4) (var 5)) vs
      (scaled (var 13 ⊗ var 17 ⊖ var 14 ⊗ var 16) (same (var 11 ⊗ var 6) (var 9 ⊗ var 0 ⊕ var 10 ⊗ var 3) m.across)
      ⊞ scaled (var 14 ⊗ var 15 ⊖ var 12 ⊗ var 17) (same (var 11 ⊗ var 7) (var 9 ⊗ var 1 ⊕ var 10 ⊗ var 4) m.above)
      ⊞ scaled (var 12 ⊗ var 16 ⊖ var 13 ⊗ var 15) (same (var 11 ⊗ var 8) (var 9 ⊗ var 2 ⊕ var 10 ⊗ var 5) m.mass)) refl
