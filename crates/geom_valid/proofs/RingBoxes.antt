-- What is inside a ring is in each box that holds the ring's positions: so where two boxes are apart, nothing is inside both.
use Rattle.std.proofs.Common.{◌≡◌, ℕ, pos, ◌*ℤ◌, ◌≤ℤ◌, ◌<ℤ◌, Bool, true, false, not, ◌&&◌, List, [], ◌∷◌, refl, sym, ◌∙◌, arith}
use Rattle.std.specs.List.{All}
use Rattle.std.proofs.Math.Bool.{and-false, and-true, not-not}
use Rattle.std.proofs.lemmas.Bool.{and_parts, false≢true}
use Rattle.std.proofs.lemmas.List.Elements.{All-nil, All-cons, All-head, All-tail}
use Rattle.whole_algebra.proofs.Laws.{linear}
use Rattle.whole_algebra.proofs.Signs.{not_<ℤ, neg-*-pos, pos-*-pos, nonpos-*-nonpos, nonneg-*-nonpos, pos_factor, neg_factor}
use Rattle.whole_algebra.proofs.Signs.{scale_≤ℤ_right, <ℤ_weaken}
use Rattle.plane_laws.proofs.Turns.Turns.{turn_swap}
use Rattle.plane_laws.specs.Plane.{Point, turn, rise, shift}
use Rattle.plane_exact.specs.Places.{point_of}
use Rattle.plane_exact.specs.Windows.{IsInWindow, HasCommonPoint}
use Rattle.plane_exact.specs.declared.point.Pt.{Pt}
use Rattle.plane_exact.specs.declared.point.Seg.{Seg}
use Rattle.plane_exact.specs.declared.window.Window.{Window}
use Rattle.plane_exact.proofs.Laws.{shift-to_position, rise-to_position}
use Rattle.point_set.specs.Rings.{is_same_position, edge_before, edges_after, edges_of, is_low, is_on_edges, crosses, crosses_from, differ}
use Rattle.point_set.specs.Rings.{is_odd, is_inside}
use Rattle.point_set.specs.Shape.{IsClosed, IsRingShaped}
use Rattle.point_set.specs.Validity.{IsAtPlace}
use Rattle.figure_laws.proofs.Lists.Places.{all_at}
use Rattle.ring_laws.proofs.Parity.Flip.{HasSign, crosses_by_sign, turn_by_heights}
use Rattle.ring_laws.proofs.Parity.Bands.{Low}
use Rattle.ring_laws.proofs.Parity.OneEdge.{tells_low}
use Rattle.ring_laws.proofs.Parity.Ring.{closed_change, is_odd_change}
use Rattle.valid_laws.specs.Entering.{AreBothInside}
use Rattle.geom_valid.specs.Boxes.{AreRound, IsInBox, IsRoundRing, MeetAt}
use Rattle.geom_valid.proofs.NearPlaces.{meet_at}

-- ---- the ends of a ring's edges
pub record AreEndsIn (box : Window) (e : Seg) : Type 0 where
  pub start : IsInBox box e.a
  pub end : IsInBox box e.b

-- are positions of the ring, so in its box
ends_before : (box : Window) (b : Bool) (p q : Pt) (edges : List Seg) → IsInBox box p → IsInBox box q → All (AreEndsIn box) edges
    → All (AreEndsIn box) (edge_before b p q edges)
ends_before box true p q edges hp hq h = h
ends_before box false p q edges hp hq h = All-cons (AreEndsIn box) (record { a = p; b = q }) edges (record { start = hp; end = hq }) h

ends_after :
    (box : Window) (p : Pt) (others : List Pt) → IsInBox box p → IsRoundRing box others → All (AreEndsIn box) (edges_after p others)
ends_after box p [] hp h = All-nil (AreEndsIn box)
ends_after box p (q ∷ others) hp h =
    let hq = All-head (IsInBox box) q others h in
    ends_before box (is_same_position p q) p q (edges_after q others) hp hq
    (ends_after box q others hq (All-tail (IsInBox box) q others h))

pub ends_in : (box : Window) (ring : List Pt) → IsRoundRing box ring → All (AreEndsIn box) (edges_of ring)
ends_in box [] h = All-nil (AreEndsIn box)
ends_in box (p ∷ others) h = ends_after box p others (All-head (IsInBox box) p others h) (All-tail (IsInBox box) p others h)

-- ---- a ray from outside the box
-- both ends on one side of the point: an edge that goes up has it on the other
turn_of_up : (s : Bool) (a b p : Point) → HasSign s (shift p a) → HasSign s (shift p b) → rise p a ≤ℤ pos 0 → pos 0 <ℤ rise p b
    → HasSign s (turn a b p)
turn_of_up true a b p right_a right_b low high =
    pos_factor p.w (turn a b p) p.heavy
    (omega (arith, linear, turn_by_heights a b p, pos-*-pos right_a high, nonneg-*-nonpos (<ℤ_weaken right_b) low))
turn_of_up false a b p left_a left_b low high =
    neg_factor p.w (turn a b p) p.heavy
    (omega (arith, linear, turn_by_heights a b p, neg-*-pos left_a high, nonpos-*-nonpos (<ℤ_weaken left_b) low))

-- and one that goes down, on the same side
turn_of_down : (s : Bool) (a b p : Point) → HasSign s (shift p a) → HasSign s (shift p b) → pos 0 <ℤ rise p a → rise p b ≤ℤ pos 0
    → HasSign (not s) (turn a b p)
turn_of_down true a b p at_a at_b high low = omega (arith, linear, turn_swap b a p, turn_of_up true b a p at_b at_a low high)
turn_of_down false a b p at_a at_b high low = omega (arith, linear, turn_swap b a p, turn_of_up false b a p at_b at_a low high)

-- so the ray to the right crosses none of the edges that are left of the point, and of those on the right each that has one end below it
crosses_beyond : (s : Bool) (e : Seg) (p : Point) → HasSign s (shift p (point_of e.a)) → HasSign s (shift p (point_of e.b))
    → crosses p e ≡ (differ (is_low p (point_of e.a)) (is_low p (point_of e.b)) && s)
crosses_beyond s e p at_a at_b =
    go (is_low p (point_of e.a)) (is_low p (point_of e.b)) (tells_low p (point_of e.a)) (tells_low p (point_of e.b))
  where
    go : (l m : Bool) → Low l (rise p (point_of e.a)) → Low m (rise p (point_of e.b))
        → crosses_from l m (turn (point_of e.a) (point_of e.b) p) ≡ (differ l m && s)
    go true true h k = refl
    go true false h k =
        crosses_by_sign true false s (turn (point_of e.a) (point_of e.b) p) (turn_of_up s (point_of e.a) (point_of e.b) p at_a at_b h k)
    go false true h k =
        crosses_by_sign false true (not s) (turn (point_of e.a) (point_of e.b) p)
        (turn_of_down s (point_of e.a) (point_of e.b) p at_a at_b h k)
        ∙ not-not s
    go false false h k = refl

-- an edge below the ray, or above it
crosses_level : (e : Seg) (p : Point) (low : Bool) → is_low p (point_of e.a) ≡ low → is_low p (point_of e.b) ≡ low → crosses p e ≡ false
crosses_level e p low ha hb =
    (λ i. crosses_from (ha i) (hb i) (turn (point_of e.a) (point_of e.b) p)) ∙ none low
  where
    none : (b : Bool) → crosses_from b b (turn (point_of e.a) (point_of e.b) p) ≡ false
    none true = refl
    none false = refl

low_true : (p a : Point) → rise p a ≤ℤ pos 0 → is_low p a ≡ true
low_true p a h = go (is_low p a) (tells_low p a)
  where
    go : (b : Bool) → Low b (rise p a) → b ≡ true
    go true k = refl
    go false k = absurd (omega (arith, linear, h, k))

low_false : (p a : Point) → pos 0 <ℤ rise p a → is_low p a ≡ false
low_false p a h = go (is_low p a) (tells_low p a)
  where
    go : (b : Bool) → Low b (rise p a) → b ≡ false
    go true k = absurd (omega (arith, linear, h, k))
    go false k = refl

-- ---- along the edges
none_odd : (p : Point) (box : Window) → ((e : Seg) → AreEndsIn box e → crosses p e ≡ false) → (edges : List Seg) → All (AreEndsIn box) edges
    → is_odd p edges ≡ false
none_odd p box misses [] ends = refl
none_odd p box misses (e ∷ edges) ends =
    let first = misses e (All-head (AreEndsIn box) e edges ends) in
    let rest = none_odd p box misses edges (All-tail (AreEndsIn box) e edges ends) in
    (λ i. differ (first i) (rest i))

odd_changes : (p : Point) (box : Window)
    → ((e : Seg) → AreEndsIn box e → crosses p e ≡ differ (is_low p (point_of e.a)) (is_low p (point_of e.b))) → (edges : List Seg)
    → All (AreEndsIn box) edges → is_odd p edges ≡ is_odd_change (λ v. is_low p (point_of v)) edges
odd_changes p box by_ends [] ends = refl
odd_changes p box by_ends (e ∷ edges) ends =
    let first = by_ends e (All-head (AreEndsIn box) e edges ends) in
    let rest = odd_changes p box by_ends edges (All-tail (AreEndsIn box) e edges ends) in
    (λ i. differ (first i) (rest i))

-- ---- inside the ring, so in the box
-- by the parity of the ray's crossings
odd_inside : (p : Point) (ring : List Pt) → is_inside p ring ≡ true → is_odd p (edges_of ring) ≡ true
odd_inside p ring h = (and_parts (not (is_on_edges p (edges_of ring))) (is_odd p (edges_of ring)) h).1

pub inside_in_box : (box : Window) (ring : List Pt) → IsClosed ring → IsRoundRing box ring → (p : Point) → is_inside p ring ≡ true
    → IsInWindow box p
inside_in_box box ring closed round p inside = record {
  left = not_<ℤ p.x (box.low_x *ℤ p.w) (λ beyond. even (odd_changes p box
      (λ e h. crosses_beyond true e p (past_left e.a h.start beyond) (past_left e.b h.end beyond)
      ∙ and-true (differ (is_low p (point_of e.a)) (is_low p (point_of e.b)))) (edges_of ring) ends
      ∙ closed_change (λ v. is_low p (point_of v)) ring closed));
  right = not_<ℤ (box.high_x *ℤ p.w) p.x (λ beyond. even (none_odd p box
      (λ e h. crosses_beyond false e p (past_right e.a h.start beyond) (past_right e.b h.end beyond)
      ∙ and-false (differ (is_low p (point_of e.a)) (is_low p (point_of e.b)))) (edges_of ring) ends));
  bottom = not_<ℤ p.y (box.low_y *ℤ p.w) (λ beyond. even (none_odd p box
      (λ e h. crosses_level e p false (past_bottom e.a h.start beyond) (past_bottom e.b h.end beyond)) (edges_of ring) ends));
  top = not_<ℤ (box.high_y *ℤ p.w) p.y (λ beyond. even (none_odd p box
      (λ e h. crosses_level e p true (past_top e.a h.start beyond) (past_top e.b h.end beyond)) (edges_of ring) ends));
}
  where
    ends : All (AreEndsIn box) (edges_of ring)
    ends = ends_in box ring round

    even : is_odd p (edges_of ring) ≡ false → ⊥
    even h = false≢true (sym h ∙ odd_inside p ring inside)

    past_left : (v : Pt) → IsInBox box v → p.x <ℤ (box.low_x *ℤ p.w) → pos 0 <ℤ shift p (point_of v)
    past_left v h beyond = omega (arith, linear, shift-to_position p v, beyond, scale_≤ℤ_right (<ℤ_weaken p.heavy) h.left)

    past_right : (v : Pt) → IsInBox box v → (box.high_x *ℤ p.w) <ℤ p.x → shift p (point_of v) <ℤ pos 0
    past_right v h beyond = omega (arith, linear, shift-to_position p v, beyond, scale_≤ℤ_right (<ℤ_weaken p.heavy) h.right)

    past_bottom : (v : Pt) → IsInBox box v → p.y <ℤ (box.low_y *ℤ p.w) → is_low p (point_of v) ≡ false
    past_bottom v h beyond =
        low_false p (point_of v) (omega (arith, linear, rise-to_position p v, beyond, scale_≤ℤ_right (<ℤ_weaken p.heavy) h.bottom))

    past_top : (v : Pt) → IsInBox box v → (box.high_y *ℤ p.w) <ℤ p.y → is_low p (point_of v) ≡ true
    past_top v h beyond =
        low_true p (point_of v) (omega (arith, linear, rise-to_position p v, beyond, scale_≤ℤ_right (<ℤ_weaken p.heavy) h.top))

-- nothing is inside two rings whose boxes are apart
pub boxes_meet :
    (box other_box : Window) (one other : List Pt) → IsClosed one → IsClosed other → IsRoundRing box one → IsRoundRing other_box other
    → (p : Point) → is_inside p one ≡ true → is_inside p other ≡ true → HasCommonPoint box other_box
boxes_meet box other_box one other closed other_closed round other_round p inside other_inside = record {
  point = p;
  here = inside_in_box box one closed round p inside;
  there = inside_in_box other_box other other_closed other_round p other_inside;
}

-- the boxes of holes that overlap meet
pub hole_boxes_meet :
    (holes : List (List Pt)) (boxes : List Window) → AreRound IsRoundRing holes boxes → All IsRingShaped holes → (place k : ℕ)
    (hole one : List Pt) → IsAtPlace holes place hole → IsAtPlace holes k one → AreBothInside one hole → MeetAt boxes k place
hole_boxes_meet holes boxes round shaped place k hole one hole_is one_is both =
    let closed = (all_at IsRingShaped holes k one shaped one_is).closed in
    let other_closed = (all_at IsRingShaped holes place hole shaped hole_is).closed in
    meet_at IsRoundRing holes boxes round place k hole one hole_is one_is (λ box beside here there.
    boxes_meet box beside one hole closed other_closed here there both.p both.in_one both.in_other)
