-- The sign of the bend of two directions as the code computes it, and what lies strictly between two directions by such signs.
use Rattle.std.proofs.Common.{◌≡◌, ◌⊎◌, pos, ◌-ℤ◌, ◌*ℤ◌, ◌<ℤ◌, ◌≤◌, Bool, true, false, IsTrue, ◌↔◌, not, [], ◌∷◌, unsigned_abs, w64, refl}
use Rattle.std.proofs.Common.{sym, ◌∙◌, arith}
use Rattle.std.proofs.lemmas.Bool.{true≢false}
use Rattle.std.proofs.lemmas.Int.{ints}
use Rattle.whole_algebra.proofs.Computed.{Computes, read, product, difference, stored, narrow}
use Rattle.whole_algebra.proofs.Polynomials.{var, num, ◌⊖◌, ◌⊗◌}
use Rattle.whole_algebra.proofs.Certificates.{positive, less, less_by, ◌⊞◌}
use Rattle.whole_algebra.proofs.Signs.{by_sign}
use Rattle.plane_exact.specs.Orders.{direction_of}
use Rattle.plane_exact.specs.declared.dir.Dir.{Dir}
use Rattle.plane_laws.specs.Directions.{Direction, bend_of, PointSameWay, IsStrictlyWithin}
use Rattle.germ_laws.proofs.Sectors.Germ.{within_left, within_right, within_opposite, within_whole}

-- ---- sizes
across_size : (d : Dir) → unsigned_abs d.dx ≤ 8388608
across_size d = omega (arith, ints, d.way.left, d.way.right)

above_size : (d : Dir) → unsigned_abs d.dy ≤ 8388608
above_size d = omega (arith, ints, d.way.bottom, d.way.top)

-- the two products are exact, and so is their difference
pub bend_computes : (r d : Dir)
    → Computes (narrow (narrow r.dx *ℤ narrow d.dy) -ℤ narrow (narrow r.dy *ℤ narrow d.dx)) (bend_of (direction_of r) (direction_of d))
    140737488355328
unfolding bend_of
bend_computes r d =
    difference (stored w64 (product (read w64 r.dx (across_size r) refl) (read w64 d.dy (above_size d) refl)) refl)
    (stored w64 (product (read w64 r.dy (above_size r) refl) (read w64 d.dx (across_size d) refl)) refl)

-- ---- sectors by signs
-- where r is to the left of s, s is to the right of r
pub turned_bend : (r s : Direction) → pos 0 <ℤ bend_of s r → bend_of r s <ℤ pos 0
unfolding bend_of
turned_bend r s h =
    less_by (var 0 ⊗ var 3 ⊖ var 1 ⊗ var 2) (num (pos 0)) (r.x ∷ r.y ∷ s.x ∷ s.y ∷ [])
    (λ denied. denied ⊞ positive (var 2 ⊗ var 1 ⊖ var 3 ⊗ var 0) h) refl

-- s is to the left of r
pub by_left : {r s d : Direction} {b : Bool} → pos 0 <ℤ bend_of r s
    → (IsTrue b ↔ ((pos 0 <ℤ bend_of r d) × (pos 0 <ℤ bend_of d s))) → (IsTrue b ↔ IsStrictlyWithin r s d)
by_left h decides = (λ t. let both = decides.0 t in within_left h both.0 both.1, λ w. decides.1 (w.left h))

-- s is to the right of r
pub by_right : {r s d : Direction} {b : Bool} → bend_of r s <ℤ pos 0
    → (IsTrue b ↔ ((pos 0 <ℤ bend_of r d) ⊎ (pos 0 <ℤ bend_of d s))) → (IsTrue b ↔ IsStrictlyWithin r s d)
by_right h decides = (λ t. within_right h (decides.0 t), λ w. decides.1 (w.right h))

-- s points r's way
pub by_whole : {r s d : Direction} {b : Bool} → PointSameWay r s → (IsTrue b ↔ (¬ PointSameWay r d)) → (IsTrue b ↔ IsStrictlyWithin r s d)
by_whole same decides = (λ t. within_whole same (decides.0 t), λ w. decides.1 (w.same same))

-- s is opposite to r
pub by_opposite : {r s d : Direction} {b : Bool} → bend_of r s ≡ pos 0 → ¬ PointSameWay r s → (IsTrue b ↔ (pos 0 <ℤ bend_of r d))
    → (IsTrue b ↔ IsStrictlyWithin r s d)
by_opposite z n decides = (λ t. within_opposite z n (decides.0 t), λ w. decides.1 (w.opposite z n))

-- and the other way round
left_bend : (r s : Direction) → bend_of r s <ℤ pos 0 → pos 0 <ℤ bend_of s r
unfolding bend_of
left_bend r s h =
    less_by (num (pos 0)) (var 2 ⊗ var 1 ⊖ var 3 ⊗ var 0) (r.x ∷ r.y ∷ s.x ∷ s.y ∷ [])
    (λ denied. denied ⊞ less (var 0 ⊗ var 3 ⊖ var 1 ⊗ var 2) (num (pos 0)) h) refl

-- neither is to the left of the other
pub level_bend : (r s : Direction) → ¬ (pos 0 <ℤ bend_of r s) → ¬ (pos 0 <ℤ bend_of s r) → bend_of r s ≡ pos 0
level_bend r s n m = by_sign (bend_of r s) (λ h. absurd (m (left_bend r s h))) (λ z. z) (λ h. absurd (n h))

-- ---- tests
-- a test that answered false
pub not_so : {P : Type 0} (b : Bool) → (IsTrue b ↔ P) → b ≡ false → ¬ P
not_so b decides e p = true≢false (sym (decides.1 p) ∙ e)

-- the opposite of a test
pub not_of : {P : Type 0} (b : Bool) → (IsTrue b ↔ P) → (IsTrue (not b) ↔ (¬ P))
not_of true decides = (λ t. cc, λ n. absurd (n (decides.0 refl)))
not_of false decides = (λ _ p. let t = decides.1 p in cc, λ _. refl)
