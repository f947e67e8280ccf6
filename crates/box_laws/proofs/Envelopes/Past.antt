-- Past a line that has all positions of some areas behind it the areas cover nothing; and a point is in the envelope of some
-- positions or past a line that has them all behind it.
use Rattle.std.proofs.Common.{◌≡◌, ◌⊎◌, inl, inr, ℤ, pos, ◌≤ℤ◌, ◌<ℤ◌, ◌-ℤ◌, ◌*ℤ◌, neg_ℤ, Bool, true, false, not, ◌&&◌, List, [], ◌∷◌, ap}
use Rattle.std.proofs.Common.{refl, sym, subst, ◌∙◌, arith, ℕ, ◌+◌, ◌+ℤ◌}
use Rattle.std.specs.Prelude.{Option, Some, None}
use Rattle.std.specs.List.{All, AllByRecursion, list_any}
use Rattle.std.proofs.lemmas.Bool.{true≢false, or_from, false_from_ne_true}
use Rattle.std.proofs.lemmas.Int.{ints}
use Rattle.std.proofs.lemmas.List.Elements.{All-head, All-tail}
use Rattle.whole_algebra.proofs.Laws.{linear, *ℤ_one, +ℤ-*ℤ, one-*ℤ}
use Rattle.whole_algebra.proofs.Signs.{scale_≤ℤ_right}
use Rattle.whole_algebra.proofs.Polynomials.{var, num, ◌⊖◌, ◌⊗◌, minus}
use Rattle.whole_algebra.proofs.Certificates.{at_most, less_from, positive, natural, ◌⊞◌, ◌⊠◌}
use Rattle.plane_laws.specs.Plane.{Point, turn, IsOnSegment}
use Rattle.plane_exact.specs.Places.{point_of}
use Rattle.plane_exact.specs.declared.point.Pt.{Pt}
use Rattle.plane_exact.specs.declared.point.Seg.{Seg}
use Rattle.plane_exact.specs.declared.window.Window.{Window}
use Rattle.im_matrix.specs.declared.Loc.TheVariants.{Exterior}
use Rattle.point_set.specs.declared.figure.Area.{Area}
use Rattle.point_set.specs.Lines.{is_at, is_at_some}
use Rattle.point_set.specs.Location.{location, location_by, is_not_exterior, is_covered_by, edges_of_rings, rings_of}
use Rattle.point_set.specs.Rings.{is_on_edge, is_on_edges, is_low, crosses, crosses_from, differ, is_odd, is_inside, edges_of}
use Rattle.point_set.specs.Shape.{IsAreaShaped}
use Rattle.point_set.specs.Nodes.{positions_of_ways, rings_of_areas}
use Rattle.point_set.specs.Extents.{IsEnvelope}
use Rattle.box_laws.specs.Boxes.{IsInBox}
use Rattle.plane_laws.proofs.Near.Near.{size_of, size_is}
use Rattle.plane_laws.proofs.Near.Parted.{affine_on}
use Rattle.plane_laws.proofs.Points.Same.{same_refl, same_sym, Decides-is_same_point}
use Rattle.plane_laws.proofs.Segments.Mixes.{start_on_segment, segment_same}
use Rattle.plane_laws.proofs.Segments.On.{Decides-int_le, Decides-is_on_segment}
use Rattle.figure_laws.proofs.Edges.Lists.{none_append}
use Rattle.ring_laws.proofs.Germs.Areas.{location_stays}
use Rattle.side_laws.proofs.Edges.Places.{off_edge}
use Rattle.side_laws.proofs.Edges.Strip.{positive_between}
use Rattle.kind_laws.proofs.Location.EdgeRays.{all_split, all_map}
use Rattle.box_laws.proofs.Boxes.Sides.{Side, past, distance, past_is, edge_of, in_not_past, in_or_past}
use Rattle.box_laws.proofs.Boxes.Sides.Side.{ToLeft, ToRight, ToBottom, ToTop}
use Rattle.box_laws.proofs.Envelopes.Ways.{BothEnds, both_of_ways, positions_append, all_by_points}

-- a position isn't beyond a line
abbrev pub IsBehind : Side → ℤ → Pt → Type 0
IsBehind side m q = distance side m (point_of q) ≤ℤ pos 0

-- ---- off the edges
-- a point beyond a line is on no edge with both ends behind it
off_behind :
    (side : Side) (m : ℤ) (p : Point) → pos 0 <ℤ distance side m p → (e : Seg) → BothEnds (IsBehind side m) e → is_on_edge p e ≡ false
off_behind side m p ahead e ends = off_edge e p (λ on.
    let first = ends.0 in
    let second = ends.1 in
    let at_p = affine_on (past side m) on
    (omega (arith, linear, first, past_is side m (point_of e.a))) (omega (arith, linear, second, past_is side m (point_of e.b))) in
    omega (arith, linear, at_p, ahead, past_is side m p))

-- and on none of several
pub off_all_behind :
    (side : Side) (m : ℤ) (p : Point) → pos 0 <ℤ distance side m p → (edges : List Seg) → AllByRecursion (BothEnds (IsBehind side m)) edges
    → is_on_edges p edges ≡ false
off_all_behind side m p ahead [] all = refl
off_all_behind side m p ahead (e ∷ edges) all =
    or_from (is_on_edge p e) (is_on_edges p edges) (off_behind side m p ahead e all.0) (off_all_behind side m p ahead edges all.1)

-- what is between two points beyond a line is beyond it
ahead_between :
    (side : Side) (m : ℤ) (p q x : Point) → pos 0 <ℤ distance side m p → pos 0 <ℤ distance side m q → IsOnSegment p q x
    → pos 0 <ℤ distance side m x
ahead_between side m p q x at_p at_q on =
    subst (λ z. pos 0 <ℤ z) (past_is side m x)
    (positive_between (past side m) (subst (λ z. pos 0 <ℤ z) (sym (past_is side m p)) at_p)
    (subst (λ z. pos 0 <ℤ z) (sym (past_is side m q)) at_q) on)

-- ---- above or below all positions no edge is crossed
-- a position below a line is at most as high as what is above the line
low_behind : (m : ℤ) (p : Point) → pos 0 <ℤ distance ToTop m p → (a : Pt) → IsBehind ToTop m a → is_low p (point_of a) ≡ true
low_behind m p ahead a behind =
    let h : (a.y *ℤ p.w) ≤ℤ (m *ℤ p.w) =
    scale_≤ℤ_right {c = p.w} (omega (arith, linear, p.heavy)) (omega (arith, linear, behind, *ℤ_one m)) in
    (Decides-int_le (a.y *ℤ p.w) (p.y *ℤ pos 1)).1 (omega (arith, linear, h, ahead, *ℤ_one p.y))

-- one above a line is higher than what is below it
high_behind : (m : ℤ) (p : Point) → pos 0 <ℤ distance ToBottom m p → (a : Pt) → IsBehind ToBottom m a → is_low p (point_of a) ≡ false
high_behind m p ahead a behind =
    let h : (m *ℤ p.w) ≤ℤ (a.y *ℤ p.w) =
    scale_≤ℤ_right {c = p.w} (omega (arith, linear, p.heavy)) (omega (arith, linear, behind, *ℤ_one m)) in
    false_from_ne_true (is_low p (point_of a)) (λ e. omega (arith, ints, linear, h, ahead, e, *ℤ_one p.y))

-- an edge with both ends on one side of p's height isn't crossed
flat_none :
    (p : Point) (e : Seg) (b : Bool) → is_low p (point_of e.a) ≡ b → is_low p (point_of e.b) ≡ b → crosses p e ≡ false
flat_none p e b h k = (λ i. crosses_from (h i) (k i) (turn (point_of e.a) (point_of e.b) p)) ∙ by b
  where
    by : (c : Bool) → crosses_from c c (turn (point_of e.a) (point_of e.b) p) ≡ false
    by true = refl
    by false = refl

-- so of such edges an even number, none, is crossed
flat_even :
    (p : Point) (b : Bool) (edges : List Seg) → AllByRecursion (BothEnds (λ a. is_low p (point_of a) ≡ b)) edges
    → is_odd p edges ≡ false
flat_even p b [] all = refl
flat_even p b (e ∷ edges) all = λ i. differ (flat_none p e b all.0.0 all.0.1 i) (flat_even p b edges all.1 i)

-- ---- areas
-- a line above all of some positions
record HasTop (positions : List Pt) : Type 0 where
  m : ℕ
  behind : AllByRecursion (IsBehind ToTop (pos m)) positions

-- by the sum of their sizes
top_of : (positions : List Pt) → HasTop positions
top_of [] = record { m = 0; behind = tt }
top_of (p ∷ positions) =
    let rest = top_of positions in
    let small = (size_is p.y).below in
    record {
      m = size_of p.y + rest.m;
      behind = (
        omega (arith, linear, small, *ℤ_one (pos (size_of p.y + rest.m))),
        all_map (IsBehind ToTop (pos rest.m)) (IsBehind ToTop (pos (size_of p.y + rest.m)))
            (λ q h. omega (arith, linear, h, *ℤ_one (pos rest.m), *ℤ_one (pos (size_of p.y + rest.m)))) positions rest.behind,
      );
    }

-- an area of which no edge holds p, and of whose shell's edges an even number is crossed, is exterior
even_exterior :
    (area : Area) (p : Point) → is_on_edges p (edges_of_rings (rings_of area)) ≡ false → is_odd p (edges_of area.shell) ≡ false
    → location area p ≡ Exterior
even_exterior area p off even =
    let shell = (none_append (is_on_edge p) (edges_of area.shell) (edges_of_rings area.holes) off).0 in
    λ i. location_by (off i) (not (shell i) && even i) (list_any (is_inside p) area.holes)

-- an area with all positions behind a line
module _ (area : Area) (shaped : IsAreaShaped area) (side : Side) (m : ℤ)
    (all : AllByRecursion (IsBehind side m) (positions_of_ways (rings_of area)))
  where
    -- all its edges are behind
    ends_behind : AllByRecursion (BothEnds (IsBehind side m)) (edges_of_rings (rings_of area))
    ends_behind = both_of_ways (IsBehind side m) (rings_of area) all

    -- where that tells the height of all ends, it is exterior
    flat_exterior :
        (p : Point) → pos 0 <ℤ distance side m p → (b : Bool) → ((a : Pt) → IsBehind side m a → is_low p (point_of a) ≡ b)
        → location area p ≡ Exterior
    flat_exterior p ahead b each =
        even_exterior area p (off_all_behind side m p ahead (edges_of_rings (rings_of area)) ends_behind)
        (flat_even p b (edges_of area.shell)
        (all_map (BothEnds (IsBehind side m)) (BothEnds (λ a. is_low p (point_of a) ≡ b))
        (λ e ends. (each e.a ends.0, each e.b ends.1)) (edges_of area.shell)
        (all_split (BothEnds (IsBehind side m)) (edges_of area.shell) (edges_of_rings area.holes) ends_behind).0))

    -- beyond the line the location stays
    stays_beyond : (p q : Point) → pos 0 <ℤ distance side m p → pos 0 <ℤ distance side m q → location area p ≡ location area q
    stays_beyond p q at_p at_q =
        location_stays p q area shaped (record {
          off = λ x on. off_all_behind side m x (ahead_between side m p q x at_p at_q on) (edges_of_rings (rings_of area)) ends_behind;
        })

-- above all it is exterior
above_all :
    (area : Area) → IsAreaShaped area → (m : ℤ) → AllByRecursion (IsBehind ToTop m) (positions_of_ways (rings_of area)) → (p : Point)
    → pos 0 <ℤ distance ToTop m p → location area p ≡ Exterior
above_all area shaped m all p ahead = flat_exterior area shaped ToTop m all p ahead true (low_behind m p ahead)

-- the point straight above or below p that is just above a line
abbrev raised : Point → ℤ → Point
raised p m = record { x = p.x; y = (m +ℤ pos 1) *ℤ p.w; w = p.w; heavy = p.heavy }

-- it is above the line
raised_above : (p : Point) (m : ℤ) → pos 0 <ℤ distance ToTop m (raised p m)
raised_above p m = omega (arith, linear, +ℤ-*ℤ m (pos 1) p.w, one-*ℤ p.w, p.heavy)

-- where it is beyond a line as p is, p is exterior as it is
by_raised :
    (area : Area) → IsAreaShaped area → (side : Side) (m : ℤ) → AllByRecursion (IsBehind side m) (positions_of_ways (rings_of area))
    → (p : Point) → pos 0 <ℤ distance side m p → ((n : ℤ) → pos 0 <ℤ distance side m (raised p n)) → location area p ≡ Exterior
by_raised area shaped side m all p ahead raises = go (top_of (positions_of_ways (rings_of area)))
  where
    go : HasTop (positions_of_ways (rings_of area)) → location area p ≡ Exterior
    go top =
        let q = raised p (pos top.m) in
        stays_beyond area shaped side m all p q ahead (raises (pos top.m))
        ∙ above_all area shaped (pos top.m) top.behind q (raised_above p (pos top.m))

-- so beyond the line the area is exterior on all four sides
area_behind :
    (side : Side) (m : ℤ) (p : Point) → pos 0 <ℤ distance side m p → (area : Area) → IsAreaShaped area
    → AllByRecursion (IsBehind side m) (positions_of_ways (rings_of area)) → location area p ≡ Exterior
area_behind ToTop m p ahead area shaped all = above_all area shaped m all p ahead
area_behind ToBottom m p ahead area shaped all = flat_exterior area shaped ToBottom m all p ahead false (high_behind m p ahead)
area_behind ToLeft m p ahead area shaped all = by_raised area shaped ToLeft m all p ahead (λ n. ahead)
area_behind ToRight m p ahead area shaped all = by_raised area shaped ToRight m all p ahead (λ n. ahead)

-- so the union covers nothing there
pub uncovered_beyond :
    (side : Side) (m : ℤ) (p : Point) → pos 0 <ℤ distance side m p → (areas : List Area) → All IsAreaShaped areas
    → AllByRecursion (IsBehind side m) (positions_of_ways (rings_of_areas areas)) → is_covered_by p areas ≡ false
uncovered_beyond side m p ahead [] shaped all = refl
uncovered_beyond side m p ahead (area ∷ areas) shaped all =
    let both = all_split (IsBehind side m) (positions_of_ways (rings_of area)) (positions_of_ways (rings_of_areas areas))
    (subst (AllByRecursion (IsBehind side m)) (positions_append (rings_of area) (rings_of_areas areas)) all) in
    or_from (is_not_exterior (location area p)) (is_covered_by p areas)
    (ap is_not_exterior (area_behind side m p ahead area (All-head IsAreaShaped area areas shaped) both.0))
    (uncovered_beyond side m p ahead areas (All-tail IsAreaShaped area areas shaped) both.1)

-- ---- positions
-- a point at a position is on the edge that stays there
on_spot : (p : Point) (q : Pt) → is_at p q ≡ true → is_on_edge p (record { a = q; b = q }) ≡ true
on_spot p q at =
    (Decides-is_on_segment (point_of q) (point_of q) p).1
    (segment_same (same_refl (point_of q)) (same_refl (point_of q)) (same_sym ((Decides-is_same_point p (point_of q)).0 at))
    (start_on_segment (point_of q) (point_of q)))

-- so it is at no position behind the line
pub none_at :
    (side : Side) (m : ℤ) (p : Point) → pos 0 <ℤ distance side m p → (positions : List Pt) → AllByRecursion (IsBehind side m) positions
    → is_at_some p positions ≡ false
none_at side m p ahead [] all = refl
none_at side m p ahead (q ∷ positions) all =
    or_from (is_at p q) (is_at_some p positions) (false_from_ne_true (is_at p q) (λ at. apart at)) (none_at side m p ahead positions all.1)
  where
    apart : is_at p q ≡ true → ⊥
    apart at = true≢false (sym (on_spot p q at) ∙ off_behind side m p ahead (record { a = q; b = q }) (all.0, all.0))

-- ---- envelopes
-- all positions are behind each side of their envelope
envelope_behind :
    (positions : List Pt) (box : Window) → IsEnvelope positions (Some box) → (side : Side)
    → AllByRecursion (IsBehind side (edge_of box side)) positions
envelope_behind positions box envelope side =
    all_by_points (IsBehind side (edge_of box side)) positions
    (λ q at. in_not_past box (point_of q) (envelope.1.holds (point_of q) at) side)

-- with no position all is behind every line, and every point is beyond some
none_behind : (positions : List Pt) → positions ≡ [] → (side : Side) (m : ℤ) → AllByRecursion (IsBehind side m) positions
none_behind positions none side m = subst (AllByRecursion (IsBehind side m)) (sym none) tt

-- a point is in the envelope, or beyond a line that has all the positions behind it
pub record IsBeyondAll (positions : List Pt) (p : Point) : Type 0 where
  pub side : Side
  pub m : ℤ
  pub ahead : pos 0 <ℤ distance side m p
  pub behind : AllByRecursion (IsBehind side m) positions

-- a line below p
line_below : (y w s : ℤ) → pos 0 <ℤ w → neg_ℤ s ≤ℤ y → pos 0 ≤ℤ s → pos 0 <ℤ (y -ℤ ((neg_ℤ s -ℤ pos 1) *ℤ w))
line_below y w s hw low hs =
    less_from (num (pos 0)) (var 0 ⊖ (minus (var 2) ⊖ num (pos 1)) ⊗ var 1) (y ∷ w ∷ s ∷ [])
    (at_most (minus (var 2)) (var 0) low ⊞ natural (var 2) hs ⊠ natural (var 1 ⊖ num (pos 1)) (omega (arith, linear, hw))
    ⊞ positive (var 1) hw)
    refl

-- by the sides of the envelope, or a line below p where there is no position
pub in_envelope_or_past :
    (positions : List Pt) (envelope : Option Window) → IsEnvelope positions envelope → (p : Point)
    → IsInBox envelope p ⊎ IsBeyondAll positions p
in_envelope_or_past positions None none p =
    let line = neg_ℤ (pos (size_of p.y)) -ℤ pos 1 in
    inr (record {
      side = ToTop;
      m = line;
      ahead = line_below p.y p.w (pos (size_of p.y)) p.heavy (size_is p.y).above (omega (arith, linear));
      behind = none_behind positions none ToTop line;
    })
in_envelope_or_past positions (Some box) envelope p = elim (in_or_past box p) [
  | inl h ↦ inl (record { box = box; is = refl; within = h })
  | inr h ↦ inr (record {
    side = h.side;
    m = edge_of box h.side;
    ahead = h.beyond;
    behind = envelope_behind positions box envelope h.side;
  })
]
