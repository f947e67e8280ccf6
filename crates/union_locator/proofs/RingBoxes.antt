-- The least box of a ring's positions holds all that is on its edges or inside of it.
use Rattle.std.proofs.Common.{◌≡◌, pos, negsuc, neg_ℤ, ◌+ℤ◌, ◌-ℤ◌, ◌*ℤ◌, ◌≤ℤ◌, ◌<ℤ◌, Bool, true, false, not, ◌&&◌, List, [], ◌∷◌, refl, sym}
use Rattle.std.proofs.Common.{◌∙◌, arith}
use Rattle.std.specs.Prelude.{Some}
use Rattle.std.specs.List.{AllByRecursion}
use Rattle.std.proofs.lemmas.Bool.{false≢true, or_from, or_left, or_right, false_from_ne_true}
use Rattle.whole_algebra.proofs.Laws.{linear, *ℤ_one, +ℤ-*ℤ, one-*ℤ}
use Rattle.whole_algebra.proofs.Polynomials.{var, num, ◌⊕◌, ◌⊖◌, ◌⊗◌, minus, identity}
use Rattle.whole_algebra.proofs.Signs.{not_<ℤ, scale_≤ℤ_right}
use Rattle.plane_laws.specs.Plane.{Point, turn}
use Rattle.plane_laws.proofs.Near.Parted.{Affine, at_point}
use Rattle.plane_laws.proofs.Points.Same.{same_refl, Decides-is_same_point}
use Rattle.plane_laws.proofs.Segments.On.{Decides-int_le}
use Rattle.plane_exact.specs.Places.{point_of}
use Rattle.plane_exact.specs.Windows.{IsInWindow}
use Rattle.plane_exact.specs.declared.point.Pt.{Pt}
use Rattle.plane_exact.specs.declared.point.Seg.{Seg}
use Rattle.plane_exact.specs.declared.window.Window.{Window}
use Rattle.plane_exact.proofs.Laws.{in_window-mix}
use Rattle.point_set.specs.Extents.{IsEnvelope}
use Rattle.point_set.specs.Lines.{is_at, is_at_some}
use Rattle.point_set.specs.Rings.{is_same_position, edge_before, edges_after, edges_of, is_on_edge, is_on_edges, is_low, crosses}
use Rattle.point_set.specs.Rings.{crosses_from, differ, is_odd, is_inside}
use Rattle.point_set.specs.Shape.{IsClosed}
use Rattle.ring_laws.proofs.Parity.Ring.{inside_stays}
use Rattle.side_laws.proofs.Edges.Places.{off_edge}
use Rattle.side_laws.proofs.Edges.Strip.{positive_between}

-- ---- positions and edges
-- a position is in the box, its sides and corners included
record IsHeld (box : Window) (q : Pt) : Type 0 where
  left : box.low_x ≤ℤ q.x
  right : q.x ≤ℤ box.high_x
  bottom : box.low_y ≤ℤ q.y
  top : q.y ≤ℤ box.high_y

-- as a point that is a position
held : (box : Window) (q : Pt) → IsInWindow box (point_of q) → IsHeld box q
held box q h =
    let left = h.left in
    let right = h.right in
    let bottom = h.bottom in
    let top = h.top in
    record {
      left = omega (arith, linear, left, *ℤ_one box.low_x);
      right = omega (arith, linear, right, *ℤ_one box.high_x);
      bottom = omega (arith, linear, bottom, *ℤ_one box.low_y);
      top = omega (arith, linear, top, *ℤ_one box.high_y);
    }

all_held :
    (box : Window) (ring : List Pt) → ((p : Point) → is_at_some p ring ≡ true → IsInWindow box p) → AllByRecursion (IsHeld box) ring
all_held box [] each = tt
all_held box (q ∷ ring) each = (
  held box q
      (each (point_of q)
      (or_left (is_at (point_of q) q) (is_at_some (point_of q) ring)
      ((Decides-is_same_point (point_of q) (point_of q)).1 (same_refl (point_of q))))),
  all_held box ring (λ p at. each p (or_right (is_at p q) (is_at_some p ring) at)),
)

-- both ends of an edge
abbrev EndsHeld : Window → Seg → Type 0
EndsHeld box e = IsHeld box e.a × IsHeld box e.b

before_held :
    (box : Window) (b : Bool) (p q : Pt) (edges : List Seg) → IsHeld box p → IsHeld box q → AllByRecursion (EndsHeld box) edges
    → AllByRecursion (EndsHeld box) (edge_before b p q edges)
before_held box true p q edges h k all = all
before_held box false p q edges h k all = ((h, k), all)

after_held :
    (box : Window) (p : Pt) (others : List Pt) → IsHeld box p → AllByRecursion (IsHeld box) others
    → AllByRecursion (EndsHeld box) (edges_after p others)
after_held box p [] h all = tt
after_held box p (q ∷ others) h all =
    before_held box (is_same_position p q) p q (edges_after q others) h all.0 (after_held box q others all.0 all.1)

edges_held : (box : Window) (ring : List Pt) → AllByRecursion (IsHeld box) ring → AllByRecursion (EndsHeld box) (edges_of ring)
edges_held box [] all = tt
edges_held box (p ∷ others) all = after_held box p others all.0 all.1

-- a point out of the box is on no edge
off_held : (box : Window) (p : Point) → ¬ IsInWindow box p → (e : Seg) → EndsHeld box e → is_on_edge p e ≡ false
off_held box p out e ends = off_edge e p (λ on. out
    (in_window-mix box e.a e.b p ends.0.left ends.1.left ends.0.right ends.1.right ends.0.bottom ends.1.bottom ends.0.top ends.1.top on))

off_all_held :
    (box : Window) (p : Point) → ¬ IsInWindow box p → (edges : List Seg) → AllByRecursion (EndsHeld box) edges → is_on_edges p edges ≡ false
off_all_held box p out [] all = refl
off_all_held box p out (e ∷ edges) all =
    or_from (is_on_edge p e) (is_on_edges p edges) (off_held box p out e all.0) (off_all_held box p out edges all.1)

-- ---- above the box no edge is crossed
low_held : (box : Window) (p : Point) → (box.high_y *ℤ p.w) <ℤ p.y → (q : Pt) → IsHeld box q → is_low p (point_of q) ≡ true
low_held box p above q h =
    let scaled : (q.y *ℤ p.w) ≤ℤ (box.high_y *ℤ p.w) = scale_≤ℤ_right {c = p.w} (omega (arith, linear, p.heavy)) h.top in
    (Decides-int_le (q.y *ℤ p.w) (p.y *ℤ pos 1)).1 (omega (arith, linear, scaled, above, *ℤ_one p.y))

flat_none : (p : Point) (e : Seg) → is_low p (point_of e.a) ≡ true → is_low p (point_of e.b) ≡ true → crosses p e ≡ false
flat_none p e h k = λ i. crosses_from (h i) (k i) (turn (point_of e.a) (point_of e.b) p)

flat_even :
    (box : Window) (p : Point) → (box.high_y *ℤ p.w) <ℤ p.y → (edges : List Seg) → AllByRecursion (EndsHeld box) edges
    → is_odd p edges ≡ false
flat_even box p above [] all = refl
flat_even box p above (e ∷ edges) all =
    let first = flat_none p e (low_held box p above e.a all.0.0) (low_held box p above e.b all.0.1) in
    let rest = flat_even box p above edges all.1 in
    λ i. differ (first i) (rest i)

-- ---- how far a point lies beyond three sides of the box
abbrev to_left : Window → Affine
to_left box = record { x = negsuc 0; y = pos 0; w = box.low_x }

abbrev to_right : Window → Affine
to_right box = record { x = pos 1; y = pos 0; w = neg_ℤ box.high_x }

abbrev to_bottom : Window → Affine
to_bottom box = record { x = pos 0; y = negsuc 0; w = box.low_y }

left_is : (box : Window) (p : Point) → at_point (to_left box) p ≡ (box.low_x *ℤ p.w) -ℤ p.x
left_is box p =
    identity ((num (negsuc 0) ⊗ var 1 ⊕ num (pos 0) ⊗ var 2) ⊕ var 0 ⊗ var 3) (var 0 ⊗ var 3 ⊖ var 1)
    (box.low_x ∷ p.x ∷ p.y ∷ p.w ∷ []) refl

right_is : (box : Window) (p : Point) → at_point (to_right box) p ≡ p.x -ℤ (box.high_x *ℤ p.w)
right_is box p =
    identity ((num (pos 1) ⊗ var 1 ⊕ num (pos 0) ⊗ var 2) ⊕ minus (var 0) ⊗ var 3) (var 1 ⊖ var 0 ⊗ var 3)
    (box.high_x ∷ p.x ∷ p.y ∷ p.w ∷ []) refl

bottom_is : (box : Window) (p : Point) → at_point (to_bottom box) p ≡ (box.low_y *ℤ p.w) -ℤ p.y
bottom_is box p =
    identity ((num (pos 0) ⊗ var 1 ⊕ num (negsuc 0) ⊗ var 2) ⊕ var 0 ⊗ var 3) (var 0 ⊗ var 3 ⊖ var 2)
    (box.low_y ∷ p.x ∷ p.y ∷ p.w ∷ []) refl

-- the point straight above or below another that is just above the box
abbrev raised : Window → Point → Point
raised box p = record { x = p.x; y = (box.high_y +ℤ pos 1) *ℤ p.w; w = p.w; heavy = p.heavy }

-- the point at the height of another that is just right of the box
abbrev moved : Window → Point → Point
moved box p = record { x = (box.high_x +ℤ pos 1) *ℤ p.w; y = p.y; w = p.w; heavy = p.heavy }

-- ---- a ring in its box
module _ (ring : List Pt) (closed : IsClosed ring) (box : Window) (is : IsEnvelope ring (Some box))
  where
    ends : AllByRecursion (EndsHeld box) (edges_of ring)
    ends = edges_held box ring (all_held box ring is.1.holds)

    -- a point out of the box is on no edge
    pub off_edges : (p : Point) → ¬ IsInWindow box p → is_on_edges p (edges_of ring) ≡ false
    off_edges p out = off_all_held box p out (edges_of ring) ends

    -- of two points beyond a side, both are inside or neither is
    stays :
        (f : Affine) → ((m : Point) → IsInWindow box m → at_point f m ≤ℤ pos 0) → (p q : Point) → pos 0 <ℤ at_point f p
        → pos 0 <ℤ at_point f q → is_inside p ring ≡ is_inside q ring
    stays f behind p q at_p at_q = inside_stays p q ring closed (record {
      off = λ m on. off_edges m (λ inside.
          let ahead = positive_between f at_p at_q on in
          let back = behind m inside in
          omega (arith, linear, ahead, back));
    })

    -- above it nothing is inside
    above_none : (p : Point) → (box.high_y *ℤ p.w) <ℤ p.y → is_inside p ring ≡ false
    above_none p above =
        let off = off_edges p (λ inside. let top = inside.top in omega (arith, linear, top, above)) in
        let even = flat_even box p above (edges_of ring) ends in
        λ i. not (off i) && even i

    -- nor just above it
    raised_none : (p : Point) → is_inside (raised box p) ring ≡ false
    raised_none p =
        above_none (raised box p) (omega (arith, linear, +ℤ-*ℤ box.high_y (pos 1) p.w, one-*ℤ p.w, p.heavy))

    -- so nothing is to the left or to the right
    left_none : (p : Point) → p.x <ℤ (box.low_x *ℤ p.w) → is_inside p ring ≡ false
    left_none p beyond =
        stays (to_left box) (λ m inside. let low = inside.left in omega (arith, linear, left_is box m, low)) p (raised box p)
        (omega (arith, linear, left_is box p, beyond)) (omega (arith, linear, left_is box (raised box p), beyond))
        ∙ raised_none p

    right_none : (p : Point) → (box.high_x *ℤ p.w) <ℤ p.x → is_inside p ring ≡ false
    right_none p beyond =
        stays (to_right box) (λ m inside. let high = inside.right in omega (arith, linear, right_is box m, high)) p (raised box p)
        (omega (arith, linear, right_is box p, beyond)) (omega (arith, linear, right_is box (raised box p), beyond))
        ∙ raised_none p

    -- nor below
    below_none : (p : Point) → p.y <ℤ (box.low_y *ℤ p.w) → is_inside p ring ≡ false
    below_none p beyond =
        stays (to_bottom box) (λ m inside. let low = inside.bottom in omega (arith, linear, bottom_is box m, low)) p (moved box p)
        (omega (arith, linear, bottom_is box p, beyond)) (omega (arith, linear, bottom_is box (moved box p), beyond))
        ∙ right_none (moved box p) (omega (arith, linear, +ℤ-*ℤ box.high_x (pos 1) p.w, one-*ℤ p.w, p.heavy))

    -- what is inside is in the box
    inside_held : (p : Point) → is_inside p ring ≡ true → IsInWindow box p
    inside_held p inside = record {
      left = not_<ℤ p.x (box.low_x *ℤ p.w) (λ beyond. apart (left_none p beyond));
      right = not_<ℤ (box.high_x *ℤ p.w) p.x (λ beyond. apart (right_none p beyond));
      bottom = not_<ℤ p.y (box.low_y *ℤ p.w) (λ beyond. apart (below_none p beyond));
      top = not_<ℤ (box.high_y *ℤ p.w) p.y (λ beyond. apart (above_none p beyond));
    }
      where
        apart : is_inside p ring ≡ false → ⊥
        apart none = false≢true (sym none ∙ inside)

    -- and what isn't in the box is not inside
    pub none_inside : (p : Point) → ¬ IsInWindow box p → is_inside p ring ≡ false
    none_inside p out = false_from_ne_true (is_inside p ring) (λ inside. out (inside_held p inside))
