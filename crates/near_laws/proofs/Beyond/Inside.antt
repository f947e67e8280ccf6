-- Near each position of a ring of a valid figure there is a point at which the ring's area is interior.
use Rattle.std.proofs.Common.{◌≡◌, ◌⊎◌, inl, inr, ℕ, suc, ◌+◌, Bool, true, false, List}
use Rattle.std.proofs.Common.{[], ◌∷◌, ◌++◌, refl, sym, ◌∙◌, subst, arith}
use Rattle.std.specs.Prelude.{Option}
use Rattle.std.specs.List.{AllByRecursion, list_all, list_any}
use Rattle.std.proofs.lemmas.Bool.{true≢false, and_parts, false_from_ne_true}
use Rattle.std.proofs.lemmas.List.Elements.{All-from_recursion}
use Rattle.plane_laws.specs.Plane.{Point, IsSamePoint, IsStrictlyBetween}
use Rattle.plane_laws.specs.Directions.{Direction}
use Rattle.plane_exact.specs.Places.{point_of}
use Rattle.plane_exact.specs.declared.point.Pt.{Pt}
use Rattle.plane_exact.specs.declared.point.Seg.{Seg}
use Rattle.plane_exact.specs.declared.window.Window.{Window}
use Rattle.im_matrix.specs.declared.Loc.TheVariants.{Interior}
use Rattle.point_set.specs.declared.edge.Hand.{Hand}
use Rattle.point_set.specs.declared.figure.Area.{Area}
use Rattle.point_set.specs.declared.figure.Figure.{Figure}
use Rattle.point_set.specs.Edges.{IsOnEdgeAlone}
use Rattle.point_set.specs.Germ.{IsGerm}
use Rattle.point_set.specs.Lines.{is_at_some, is_still}
use Rattle.point_set.specs.Location.{location, edges_of_rings, rings_of}
use Rattle.point_set.specs.Rings.{is_same_position, edges_of, is_on_edge, is_on_edges}
use Rattle.point_set.specs.Shape.{IsWellShaped}
use Rattle.point_set.specs.Sides.{PointsTo}
use Rattle.point_set.specs.Validity.{IsAtPlace, IsOnEdge, IsValid, too_few_points}
use Rattle.point_set.specs.Nodes.{positions_of_ways, rings_of_areas}
use Rattle.point_set.specs.declared.edge.Hand.TheVariants as hand
use Rattle.box_laws.specs.Boxes.{IsInBox}
use Rattle.plane_laws.proofs.Near.Away.{away_point, away_point_is, away_near, far_for}
use Rattle.plane_laws.proofs.Points.Same.{same_sym}
use Rattle.plane_laws.proofs.Segments.Mixes.{on_from_strictly_between}
use Rattle.figure_laws.proofs.Edges.Lists.{none_append}
use Rattle.figure_laws.proofs.Lists.Places.{same_position}
use Rattle.side_laws.proofs.Edges.Germ.{between_not_start, between_not_end}
use Rattle.germ_laws.proofs.Rays.WayTo.{way_to, way_to_is}
use Rattle.germ_laws.proofs.Room.Ways.{left_turn, left_turn_left}
use Rattle.kind_laws.proofs.Hands.InSector.{moving, left_forward, right_backward, way_bound, alone_on_way}
use Rattle.stay_laws.proofs.Even.Germs.{HasAreaHand, edge_hand, edge_at}
use Rattle.near_laws.proofs.Beyond.Kept.{position_on, some_append}
use Rattle.near_laws.proofs.Beyond.Ways.{HasEndWay, end_way}
use Rattle.box_laws.proofs.Boxes.Sides.{HasRoomOff, room_off}
use Rattle.box_laws.proofs.Envelopes.Ways.{positions_append}

-- ---- to a hand of an edge
-- from a point strictly between the ends: to the left of the way to the second end, or of the way to the first
to_hand :
    (e : Seg) (p : Point) → IsStrictlyBetween (point_of e.a) (point_of e.b) p → (side : Hand) → ¬ (side ≡ hand.Line)
    → (d : Direction) × PointsTo side e d
to_hand e p between hand.Left sided =
    let apart : ¬ IsSamePoint p (point_of e.b) = λ same. between_not_end between (same_sym same) in
    let r = way_to p (point_of e.b) apart in (
      left_turn r,
      left_forward e (on_from_strictly_between between) (way_to_is p (point_of e.b) apart) (left_turn r) (left_turn_left r),
    )
to_hand e p between hand.Right sided =
    let apart : ¬ IsSamePoint p (point_of e.a) = λ same. between_not_start between (same_sym same) in
    let r = way_to p (point_of e.a) apart in (
      left_turn r,
      right_backward e (on_from_strictly_between between) (way_to_is p (point_of e.a) apart) (left_turn r) (left_turn_left r),
    )
to_hand e p between hand.Line sided = absurd (sided refl)

-- ---- two lists
-- a test that an item of one of them meets, an item of both together meets
some_of_two :
    {X : Type 0} (test : X → Bool) (xs ys : List X) → (list_any test xs ≡ true) ⊎ (list_any test ys ≡ true)
    → list_any test (xs ++ ys) ≡ true
some_of_two test xs ys some = by (list_any test (xs ++ ys)) refl some
  where
    by :
        (b : Bool) → list_any test (xs ++ ys) ≡ b → (list_any test xs ≡ true) ⊎ (list_any test ys ≡ true) → list_any test (xs ++ ys) ≡ true
    by true e k = e
    by false e (inl h) = absurd (true≢false (sym h ∙ (none_append test xs ys e).0))
    by false e (inr h) = absurd (true≢false (sym h ∙ (none_append test xs ys e).1))

-- ---- an edge of an area, and a near point on it
module _ (f : Figure) (shaped : IsWellShaped f) (valid : IsValid f) (k : ℕ) (area : Area) (is : IsAtPlace f.areas k area) where
  -- a point outside of a box at which the area is interior
  pub record HasInsideOut (w : Option Window) : Type 0 where
    pub t : Point
    pub inside : location area t ≡ Interior
    pub out : ¬ IsInBox w t

  -- from a point v of an edge, outside of the box: a step along the edge, and a shorter one to the hand of its inside
  inside_by :
      (w : Option Window) (v : Point) → ¬ IsInBox w v → (i : ℕ) (e : Seg) → IsAtPlace (edges_of_rings (rings_of area)) i e
      → IsOnEdge e v → HasInsideOut w
  inside_by w v out i e e_is on_v = record {
    t = away_point p to.0 l;
    inside = germ.holds (suc l) (omega arith) (away_point p to.0 l) (away_point_is p to.0 l);
    out = s.off s.n (omega arith) (away_point p to.0 l) (away_near s.n (omega arith) (away_point_is p to.0 l));
  }
    where
      way : HasEndWay e v
      way = end_way e (moving f shaped valid k area is i e e_is) v

      o : HasRoomOff w v
      o = room_off w v out

      n : ℕ
      n = far_for way.d o.n + way_bound f shaped valid k area is e i e_is way.forward v on_v way.d way.toward

      p : Point
      p = away_point v way.d n

      alone : IsOnEdgeAlone area e p
      alone = alone_on_way f shaped valid k area is e i e_is way.forward v on_v way.d way.toward n (omega arith)

      side : HasAreaHand area e
      side = edge_hand f shaped valid k area is i e e_is

      to : (d : Direction) × PointsTo side.side e d
      to = to_hand e p alone.between side.side side.is.sided

      germ : IsGerm area p to.0 Interior
      germ = side.is.inside p alone to.0 to.1

      s : HasRoomOff w p
      s = room_off w p (o.off o.n (omega arith) p (away_near o.n (omega arith) (away_point_is v way.d n)))

      l : ℕ
      l = far_for to.0 s.n + germ.from

  -- ---- positions of rings
  -- no ring of a valid figure's area stays at one position
  equal_all : (p : Pt) (others : List Pt) → list_all (is_same_position p) others ≡ true → AllByRecursion (λ q. (q ≡ p) ⊎ (q ≡ p)) others
  equal_all p [] h = tt
  equal_all p (q ∷ others) h =
      let both = and_parts (is_same_position p q) (list_all (is_same_position p) others) h in
      (inl (sym (same_position p q both.0)), equal_all p others both.1)

  -- so a point at a position of a ring is on one of its edges
  on_ring :
      (j : ℕ) (ring : List Pt) → IsAtPlace (rings_of area) j ring → (m : Point) → is_at_some m ring ≡ true
      → is_on_edges m (edges_of ring) ≡ true
  on_ring j [] ring_is m h = absurd (true≢false (sym h))
  on_ring j (p ∷ others) ring_is m h = position_on m (p ∷ others) (false_from_ne_true (is_still (p ∷ others)) few) h
    where
      few : is_still (p ∷ others) ≡ true → ⊥
      few still = valid k too_few_points (record {
        area = area;
        area_is = is;
        is_so = record {
          place = j;
          ring = p ∷ others;
          ring_is = ring_is;
          is_so = record {
            one = p;
            other = p;
            two_at_most = All-from_recursion (λ q. (q ≡ p) ⊎ (q ≡ p)) (p ∷ others) (inl refl, equal_all p others still);
          };
        };
      })

  -- the same of some rings
  on_rings :
      (rings : List (List Pt)) → ((j : ℕ) (ring : List Pt) → IsAtPlace rings j ring → (m : Point) → is_at_some m ring ≡ true
      → is_on_edges m (edges_of ring) ≡ true) → (m : Point) → is_at_some m (positions_of_ways rings) ≡ true
      → is_on_edges m (edges_of_rings rings) ≡ true
  on_rings [] each m h = absurd (true≢false (sym h))
  on_rings (ring ∷ rings) each m h = elim (some_append m ring (positions_of_ways rings) h) [
    | inl at ↦ some_of_two (is_on_edge m) (edges_of ring) (edges_of_rings rings) (inl (each 0 ring refl m at))
    | inr at ↦
        some_of_two (is_on_edge m) (edges_of ring) (edges_of_rings rings)
        (inr (on_rings rings (λ j other other_is. each (suc j) other other_is) m at))
  ]

  -- a point at a position of the area's rings is on one of its edges
  pub on_area :
      (m : Point) → is_at_some m (positions_of_ways (rings_of area)) ≡ true → is_on_edges m (edges_of_rings (rings_of area)) ≡ true
  on_area m h = on_rings (rings_of area) on_ring m h

  -- so a position outside of the box has a point beside it at which the area is interior
  pub inside_out :
      (w : Option Window) (v : Point) → ¬ IsInBox w v → is_at_some v (positions_of_ways (rings_of area)) ≡ true → HasInsideOut w
  inside_out w v out at =
      let h = edge_at v (edges_of_rings (rings_of area)) (on_area v at) in inside_by w v out h.i h.e h.is h.on

-- ---- the area of a position
-- an area with a ring that has a position at the point
pub record HasAreaAt (areas : List Area) (m : Point) : Type 0 where
  pub k : ℕ
  pub area : Area
  pub is : IsAtPlace areas k area
  pub at : is_at_some m (positions_of_ways (rings_of area)) ≡ true

-- one of them
pub area_at : (areas : List Area) (m : Point) → is_at_some m (positions_of_ways (rings_of_areas areas)) ≡ true → HasAreaAt areas m
area_at [] m h = absurd (true≢false (sym h))
area_at (area ∷ areas) m h =
    by (some_append m (positions_of_ways (rings_of area)) (positions_of_ways (rings_of_areas areas))
    (subst (λ z. is_at_some m z ≡ true) (positions_append (rings_of area) (rings_of_areas areas)) h)) (area_at areas m)
  where
    by :
        (is_at_some m (positions_of_ways (rings_of area)) ≡ true) ⊎ (is_at_some m (positions_of_ways (rings_of_areas areas)) ≡ true)
        → (is_at_some m (positions_of_ways (rings_of_areas areas)) ≡ true → HasAreaAt areas m) → HasAreaAt (area ∷ areas) m
    by (inl at) rest = record { k = 0; area = area; is = refl; at = at }
    by (inr at) rest = let r = rest at in record { k = suc r.k; area = r.area; is = r.is; at = r.at }
