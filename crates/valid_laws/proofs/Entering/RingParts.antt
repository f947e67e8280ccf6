-- The edges of an area enter a part exactly where those of one of its rings do.
use Rattle.std.proofs.Common.{◌≡◌, ◌⊎◌, inl, inr, ℕ, zero, suc, ◌+◌, Bool, true, false, ◌||◌, List, [], ◌∷◌, ◌++◌, ap, refl, sym, ◌∙◌}
use Rattle.plane_laws.specs.Plane.{Point}
use Rattle.plane_exact.specs.declared.point.Pt.{Pt}
use Rattle.plane_exact.specs.declared.point.Seg.{Seg}
use Rattle.point_set.specs.Rings.{edges_of, is_on_edge, is_on_edges}
use Rattle.point_set.specs.Location.{rings_of, edges_of_rings}
use Rattle.point_set.specs.Validity.{IsAtPlace, SomeRing}
use Rattle.figure_laws.proofs.Lists.Places.{some_same}
use Rattle.valid_laws.specs.Entering.{edges_in, Enters, LawRingEnters}
use Rattle.valid_laws.proofs.Entering.Reach.{in_left, in_right}

split_on : (xs ys : List Seg) (p : Point) → is_on_edges p (xs ++ ys) ≡ true → (is_on_edges p xs ≡ true) ⊎ (is_on_edges p ys ≡ true)
split_on [] ys p on = inr on
split_on (e ∷ xs) ys p on = go (split_on xs ys p) (is_on_edge p e) refl
  where
    left : (is_on_edge p e ≡ true) → is_on_edges p (e ∷ xs) ≡ true
    left h = ap (λ b. b || is_on_edges p xs) h

    right : is_on_edge p e ≡ false → is_on_edges p xs ≡ true → is_on_edges p (e ∷ xs) ≡ true
    right h k = ap (λ b. b || is_on_edges p xs) h ∙ k

    by : is_on_edge p e ≡ false → (is_on_edges p xs ≡ true) ⊎ (is_on_edges p ys ≡ true) → (is_on_edges p (e ∷ xs) ≡ true)
        ⊎ (is_on_edges p ys ≡ true)
    by h (inl k) = inl (right h k)
    by h (inr k) = inr k

    go : (is_on_edges p (xs ++ ys) ≡ true → (is_on_edges p xs ≡ true) ⊎ (is_on_edges p ys ≡ true)) → (b : Bool) → is_on_edge p e ≡ b
        → (is_on_edges p (e ∷ xs) ≡ true) ⊎ (is_on_edges p ys ≡ true)
    go more true h = inl (left h)
    go more false h = by h (more (ap (λ b. b || is_on_edges p (xs ++ ys)) (sym h) ∙ on))

record OnSome (rings : List (List Pt)) (p : Point) : Type 0 where
  k : ℕ
  ring : List Pt
  ring_is : IsAtPlace rings k ring
  on : is_on_edges p (edges_of ring) ≡ true

some_ring : (rings : List (List Pt)) (p : Point) → is_on_edges p (edges_of_rings rings) ≡ true → OnSome rings p
some_ring [] p on = cc
some_ring (ring ∷ rings) p on = go (some_ring rings p) (split_on (edges_of ring) (edges_of_rings rings) p on)
  where
    go : (is_on_edges p (edges_of_rings rings) ≡ true → OnSome rings p) → (is_on_edges p (edges_of ring) ≡ true)
        ⊎ (is_on_edges p (edges_of_rings rings) ≡ true) → OnSome (ring ∷ rings) p
    go more (inl h) = record { k = 0; ring = ring; ring_is = refl; on = h }
    go more (inr h) = let r = more h in record { k = suc r.k; ring = r.ring; ring_is = r.ring_is; on = r.on }

on_rings : (rings : List (List Pt)) (k : ℕ) (ring : List Pt) (p : Point) → IsAtPlace rings k ring → is_on_edges p (edges_of ring) ≡ true
    → is_on_edges p (edges_of_rings rings) ≡ true
on_rings [] k ring p is on = cc
on_rings (r ∷ rings) zero ring p is on = in_left (edges_of r) (edges_of_rings rings) p
    (ap (λ w. is_on_edges p (edges_of w)) (some_same is) ∙ on)
on_rings (r ∷ rings) (suc k) ring p is on = in_right (edges_of r) (edges_of_rings rings) p (on_rings rings k ring p is on)

pub ring_enters : LawRingEnters
ring_enters area other part = (
  λ e. by_ring e (some_ring (rings_of area) e.x e.on),
  λ s. record {
    x = s.is_so.x;
    on = on_rings (rings_of area) s.place s.ring s.is_so.x s.ring_is s.is_so.on;
    lies = s.is_so.lies;
  },
)
  where
    by_ring : (e : Enters (edges_in area) other part) → OnSome (rings_of area) e.x
        → SomeRing (λ ring. Enters (edges_of ring) other part) area
    by_ring e r = record { place = r.k; ring = r.ring; ring_is = r.ring_is; is_so = record { x = e.x; on = r.on; lies = e.lies } }
