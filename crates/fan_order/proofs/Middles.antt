-- The middle of a sector lies strictly within it.
use Rattle.std.proofs.Common.{◌≡◌, ℕ, ◌+◌, ◌%◌, ◌<◌, List, length, get_or, Some, ℤ, pos, ◌+ℤ◌, ◌-ℤ◌, ◌*ℤ◌, neg_ℤ, ◌<ℤ◌, ◌≤ℤ◌, [], ◌∷◌, ap}
use Rattle.std.proofs.Common.{refl, sym, ◌∙◌, inl, subst, unsigned_abs, ◌≤◌, w64, arith}
use lib.Signed.{<ℤ_irrefl, <ℤ-≤ℤ_trans}
use Rattle.whole_algebra.proofs.Laws.{linear}
use Rattle.whole_algebra.proofs.Polynomials.{var, num, ◌⊕◌, ◌⊖◌, ◌⊗◌, minus, identity}
use Rattle.whole_algebra.proofs.Computed.{Computes, read, product, sum, difference, stored, narrow}
use Rattle.std.proofs.lemmas.Int.{ints}
use Rattle.std.proofs.lemmas.Option.{slice_get-get_or}
use Rattle.plane_exact.specs.Limits.{spread}
use Rattle.plane_exact.specs.Directions.{IsWay}
use Rattle.fan_order.specs.Rays.{IsShort}
use Rattle.point_set.specs.Sectors.{sectors_of, IsMiddle, IsInSector}
use Rattle.plane_laws.proofs.Directions.Angles.{no_bend}
use Rattle.plane_exact.specs.Orders.{direction_of}
use Rattle.plane_laws.specs.Directions.{bend_of, IsStrictlyWithin, IsMiddleBetween}
use Rattle.plane_exact.specs.declared.dir.Dir.{Dir}
use Rattle.point_set.specs.Validity.{IsAtPlace}
use Rattle.ring_laws.proofs.Germs.Edges.{squares}

clash : {z : ℤ} → pos 0 <ℤ z → z ≤ℤ pos 0 → ⊥
clash h k = <ℤ_irrefl (<ℤ-≤ℤ_trans h k)

-- the sum of two directions, of which the second is to the left of the first
module _ (r s m : Dir) (across : m.dx ≡ r.dx +ℤ s.dx) (above : m.dy ≡ r.dy +ℤ s.dy)
    (h : pos 0 <ℤ bend_of (direction_of r) (direction_of s)) where
  after : bend_of (direction_of r) (direction_of m) ≡ bend_of (direction_of r) (direction_of s)
  unfolding bend_of
  after =
      (λ i. (r.dx *ℤ above i) -ℤ (r.dy *ℤ across i))
      ∙ identity (var 0 ⊗ (var 1 ⊕ var 3) ⊖ var 1 ⊗ (var 0 ⊕ var 2)) (var 0 ⊗ var 3 ⊖ var 1 ⊗ var 2) (r.dx ∷ r.dy ∷ s.dx ∷ s.dy ∷ []) refl

  before : bend_of (direction_of m) (direction_of s) ≡ bend_of (direction_of r) (direction_of s)
  unfolding bend_of
  before =
      (λ i. (across i *ℤ s.dy) -ℤ (above i *ℤ s.dx))
      ∙ identity ((var 0 ⊕ var 2) ⊗ var 3 ⊖ (var 1 ⊕ var 3) ⊗ var 2) (var 0 ⊗ var 3 ⊖ var 1 ⊗ var 2) (r.dx ∷ r.dy ∷ s.dx ∷ s.dy ∷ []) refl

  pub sum_is_within : IsStrictlyWithin (direction_of r) (direction_of s) (direction_of m)
  sum_is_within = record {
    left = λ _. (subst (λ (z : ℤ). pos 0 <ℤ z) (sym after) h, subst (λ (z : ℤ). pos 0 <ℤ z) (sym before) h);
    right = λ k. absurd (clash h (omega (arith, linear, k)));
    opposite = λ e _. absurd (clash h (omega (arith, linear, e)));
    same = λ e _. clash h (let z = no_bend e in omega (arith, linear, z));
  }

-- the sum isn't zero
pub sum_turned : (r s : Dir) → pos 0 <ℤ bend_of (direction_of r) (direction_of s) → ¬ ((r.dx +ℤ s.dx ≡ pos 0) × (r.dy +ℤ s.dy ≡ pos 0))
unfolding bend_of
sum_turned r s h e = clash h (let z : (r.dx *ℤ s.dy) -ℤ (r.dy *ℤ s.dx) ≡ pos 0 = zero in omega (arith, linear, z))
  where
    zero : (r.dx *ℤ s.dy) -ℤ (r.dy *ℤ s.dx) ≡ pos 0
    zero =
        identity (var 0 ⊗ var 3 ⊖ var 1 ⊗ var 2) (var 0 ⊗ (var 1 ⊕ var 3) ⊖ var 1 ⊗ (var 0 ⊕ var 2)) (r.dx ∷ r.dy ∷ s.dx ∷ s.dy ∷ []) refl
        ∙ (λ i. (r.dx *ℤ e.1 i) -ℤ (r.dy *ℤ e.0 i))
        ∙ identity (var 0 ⊗ num (pos 0) ⊖ var 1 ⊗ num (pos 0)) (num (pos 0)) (r.dx ∷ r.dy ∷ []) refl

-- the first direction turned left by a quarter, where the second isn't to its left
module _ (r s m : Dir) (across : m.dx ≡ neg_ℤ r.dy) (above : m.dy ≡ r.dx) (h : bend_of (direction_of r) (direction_of s) ≤ℤ pos 0) where
  after_quarter : pos 0 <ℤ bend_of (direction_of r) (direction_of m)
  unfolding bend_of
  after_quarter =
      subst (λ (z : ℤ). pos 0 <ℤ z)
      (identity (var 0 ⊗ var 0 ⊕ var 1 ⊗ var 1) (var 0 ⊗ var 0 ⊖ var 1 ⊗ minus (var 1)) (r.dx ∷ r.dy ∷ []) refl
      ∙ (λ i. (r.dx *ℤ sym above i) -ℤ (r.dy *ℤ sym across i))) (squares r.dx r.dy r.way.turned)

  pub quarter_is_within : IsStrictlyWithin (direction_of r) (direction_of s) (direction_of m)
  quarter_is_within = record {
    left = λ k. absurd (clash k h);
    right = λ _. inl after_quarter;
    opposite = λ _ _. after_quarter;
    same = λ _ e. clash after_quarter (let z = no_bend e in omega (arith, linear, z));
  }

-- ---- in the list of rays
-- r is the ray at place i, and s the next one
pub record IsAround (rays : List Dir) (i : ℕ) (r s : Dir) : Type 0 where
  pub below : i < length rays
  pub ray_is : IsAtPlace rays i r
  pub next_is : IsAtPlace rays ((i + 1) % length rays) s

pub IsMiddle-around :
    (rays : List Dir) (i : ℕ) (r s m : Dir) → IsAround rays i r s → IsMiddleBetween (direction_of r) (direction_of s) (direction_of m)
    → IsMiddle rays i (direction_of m)
IsMiddle-around [] i r s m h k = absurd (let b = h.below in omega (arith, b))
IsMiddle-around (ray ∷ rays) i r s m h k = record { ray = r; next = s; ray_is = h.ray_is; next_is = h.next_is; holds = k }

pub IsInSector-around :
    (rays : List Dir) (i : ℕ) (r s m : Dir) → IsAround rays i r s → IsStrictlyWithin (direction_of r) (direction_of s) (direction_of m)
    → IsInSector rays i (direction_of m)
IsInSector-around [] i r s m h k = absurd (let b = h.below in omega (arith, b))
IsInSector-around (ray ∷ rays) i r s m h k = record { ray = r; next = s; ray_is = h.ray_is; next_is = h.next_is; holds = k }

below_length : (rays : List Dir) (i : ℕ) → i < sectors_of rays → (length rays ≡ 0 → ⊥) → i < length rays
below_length [] i h n = absurd (n refl)
below_length (ray ∷ rays) i h n = h

at_place : (rays items : List Dir) (i : ℕ) (x r : Dir) → items ≡ rays → i < length rays → x ≡ get_or items i x → r ≡ x → IsAtPlace rays i r
at_place rays items i x r e h k f = slice_get-get_or rays i x h ∙ ap Some (ap (λ l. get_or l i x) (sym e) ∙ sym k ∙ sym f)

-- from what the code reads, behind two borrows of the list
pub around :
    (rays items others : List Dir) (i n : ℕ) (x y r s : Dir) → items ≡ rays → others ≡ rays → n ≡ length rays → (n ≡ 0 → ⊥)
    → i < sectors_of rays → x ≡ get_or items i x → y ≡ get_or others ((i + 1) % n) y → r ≡ x → s ≡ y → IsAround rays i r s
around rays items others i n x y r s e f k z h a b c d =
    let below : i < length rays = below_length rays i h (λ w. z (k ∙ w)) in
    let next : ((i + 1) % length rays) < length rays = omega (arith, below) in
    record {
      below = below;
      ray_is = at_place rays items i x r e below a c;
      next_is = at_place rays others ((i + 1) % length rays) y s f next (b ∙ ap (λ m. get_or others ((i + 1) % m) y) k) d;
    }

-- ---- what the code works out
part : (z : ℤ) → unsigned_abs z ≤ spread → Computes (narrow z) z spread
part z h = read w64 z h refl

pub bend_computes :
    (r s : Dir) → IsShort r → IsShort s
    → Computes (narrow (narrow r.dx *ℤ narrow s.dy) -ℤ narrow (narrow r.dy *ℤ narrow s.dx))
    (bend_of (direction_of r) (direction_of s)) 8796076245000
unfolding bend_of
bend_computes r s h k =
    difference (stored w64 (product (part r.dx h.across) (part s.dy k.above)) refl)
    (stored w64 (product (part r.dy h.above) (part s.dx k.across)) refl)

pub sum_computes : (x y : ℤ) → unsigned_abs x ≤ spread → unsigned_abs y ≤ spread → narrow (narrow x +ℤ narrow y) ≡ x +ℤ y
sum_computes x y h k = (stored w64 (sum (part x h) (part y k)) refl).is

pub IsWay-sum :
    (r s : Dir) → IsShort r → IsShort s → pos 0 <ℤ bend_of (direction_of r) (direction_of s) → IsWay (r.dx +ℤ s.dx) (r.dy +ℤ s.dy)
IsWay-sum r s h k l =
    let a = h.across in
    let b = h.above in
    let c = k.across in
    let d = k.above in
    record {
      left = omega (arith, ints, a, c);
      right = omega (arith, ints, a, c);
      bottom = omega (arith, ints, b, d);
      top = omega
          (arith, ints, b, d);
      turned = sum_turned r s l;
    }
