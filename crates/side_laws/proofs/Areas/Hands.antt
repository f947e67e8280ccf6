-- The inside of an area lies on the hand of its shell's inside at the shell's edges, and on the other hand at a hole's edges.
use Rattle.std.proofs.Common.{◌≡◌, ◌⊎◌, inl, inr, ℕ, zero, suc, ◌+◌, ◌<◌, Bool, true, false, List, [], ◌∷◌, ◌++◌, ap, refl, sym, ◌∙◌, subst}
use Rattle.std.proofs.Common.{arith}
use Rattle.std.specs.List.{list_any}
use Rattle.std.specs.Prelude.{slice_get}
use Rattle.std.proofs.lemmas.Bool.{or_parts, or_from, or_left, or_right, cases_eq, cases_order, false_from_ne_true}
use Rattle.im_matrix.specs.declared.Loc.TheVariants.{Exterior}
use Rattle.plane_laws.proofs.Segments.Mixes.{on_from_strictly_between}
use Rattle.plane_laws.specs.Plane.{Point, IsSamePoint}
use Rattle.plane_exact.specs.Places.{point_of}
use Rattle.plane_laws.specs.Directions.{Direction}
use Rattle.plane_exact.specs.declared.point.Pt.{Pt}
use Rattle.plane_exact.specs.declared.point.Seg.{Seg}
use Rattle.point_set.specs.declared.edge.Hand.{Hand}
use Rattle.point_set.specs.declared.edge.Hand.TheVariants as hand
use Rattle.point_set.specs.declared.figure.Area.{Area}
use Rattle.point_set.specs.declared.figure.Figure.{Figure}
use Rattle.point_set.specs.Rings.{edges_of, is_on_edge, is_on_edges, is_inside}
use Rattle.point_set.specs.Location.{location_by, rings_of, edges_of_rings}
use Rattle.point_set.specs.Shape.{IsClosed, IsRingShaped, IsAreaShaped, IsWellShaped}
use Rattle.point_set.specs.Validity.{IsAtPlace, IsOnEdge, ShareSegment, RingsShareSegment, HasHoleOutside, HasHolesThatOverlap, IsValid}
use Rattle.point_set.specs.Validity.{rings_share_edge, hole_outside, holes_overlap}
use Rattle.plane_laws.specs.Along.{IsAway, HoldsAlong}
use Rattle.point_set.specs.Germ.{IsGerm}
use Rattle.point_set.specs.Sides.{slope, PointsTo, other_hand, IsInsideHand}
use Rattle.point_set.specs.Edges.{IsOnEdgeAlone, IsAreaHand}
use Rattle.ring_laws.proofs.Parity.Flip.{HasSign, signed_nonzero}
use Rattle.ring_laws.proofs.Parity.Ring.{Misses, inside_stays}
use Rattle.figure_laws.proofs.Lists.Places.{some_same, all_at}
use Rattle.plane_laws.proofs.Near.Near.{IsNear, near_mix}
use Rattle.ring_laws.proofs.Room.Edges.{HoldBoth, HasRoom, room}
use Rattle.plane_laws.proofs.Near.Away.{away_point, away_point_is, away_near, far_for}
use Rattle.ring_laws.proofs.Germs.Edges.{near_self, on_true}
use Rattle.side_laws.proofs.Edges.Places.{off_by_places, off_edge}
use Rattle.side_laws.proofs.Edges.Germ.{edge_turn, edge_turn_on}
use Rattle.side_laws.proofs.Edges.Beside.{left_way, right_way, left_way_slope, right_way_slope, held_at, side_of}
use Rattle.figure_laws.proofs.Lists.Places.{all_at}

-- ---- near a point that is on no edge of a ring, all points are inside it or none is
none_held : (v m : Point) (edges : List Seg) → is_on_edges v edges ≡ false → HoldBoth v m edges → is_on_edges m edges ≡ false
none_held v m [] off both = refl
none_held v m (e ∷ edges) off both =
    let tests = or_parts (is_on_edge v e) (is_on_edges v edges) off in
    or_from (is_on_edge m e) (is_on_edges m edges) (both.0 tests.0) (none_held v m edges tests.1 both.1)

misses_near : (v p : Point) (edges : List Seg) (r : HasRoom v edges) → is_on_edges v edges ≡ false → IsNear v r.n p → Misses p v edges
misses_near v p edges r off near = record {
  off = λ m on. none_held v m edges off (r.free r.n (omega arith) m (near_mix near (near_self v r.n) on));
}

pub settled_off : (ring : List Pt) → IsClosed ring → (v : Point) → is_on_edges v (edges_of ring) ≡ false → (d : Direction)
    → HoldsAlong (λ q. is_inside q ring ≡ is_inside v ring) v d
settled_off ring closed v off d =
    let r = room v (edges_of ring) in
    record {
      from = far_for d r.n;
      holds = λ n far q away. inside_stays q v ring closed (misses_near v q (edges_of ring) r off (away_near r.n far away));
    }

-- ---- what holds along a direction
along_like : {P Q : Point → Type 0} {v : Point} {d : Direction} → ((q : Point) → P q → Q q) → HoldsAlong P v d → HoldsAlong Q v d
along_like f h = record { from = h.from; holds = λ n far q away. f q (h.holds n far q away) }

pub along_both : {P Q : Point → Type 0} {v : Point} {d : Direction} → HoldsAlong P v d → HoldsAlong Q v d → HoldsAlong (λ q. P q × Q q) v d
along_both h k = record {
  from = h.from + k.from;
  holds = λ n far q away. (h.holds n (omega (arith, far)) q away, k.holds n (omega (arith, far)) q away);
}

-- some point along it
pub record HasPoint (P : Point → Type 0) : Type 0 where
  pub q : Point
  pub is : P q

pub along_some : {P : Point → Type 0} {v : Point} {d : Direction} → HoldsAlong P v d → HasPoint P
along_some {P} {v} {d} h = record
    { q = away_point v d h.from; is = h.holds (suc h.from) (omega arith) (away_point v d h.from) (away_point_is v d h.from) }

-- ---- the places of an area's edges
record HasPlace (edges : List Seg) (e : Seg) : Type 0 where
  place : ℕ
  is : IsAtPlace edges place e

place_left : (xs ys : List Seg) (i : ℕ) (e : Seg) → IsAtPlace xs i e → IsAtPlace (xs ++ ys) i e
place_left [] ys i e is = cc
place_left (x ∷ xs) ys zero e is = is
place_left (x ∷ xs) ys (suc i) e is = place_left xs ys i e is

place_right : (xs ys : List Seg) (i : ℕ) (e : Seg) → IsAtPlace ys i e → HasPlace (xs ++ ys) e
place_right [] ys i e is = record { place = i; is = is }
place_right (x ∷ xs) ys i e is = let h = place_right xs ys i e is in record { place = suc h.place; is = h.is }

edge_of_rings : (rings : List (List Pt)) (k : ℕ) (ring : List Pt) (i : ℕ) (e : Seg) → IsAtPlace rings k ring
    → IsAtPlace (edges_of ring) i e → HasPlace (edges_of_rings rings) e
edge_of_rings [] k ring i e is is_e = cc
edge_of_rings (r ∷ rings) zero ring i e is is_e = record {
  place = i;
  is = place_left (edges_of r) (edges_of_rings rings) i e (subst (λ w. IsAtPlace (edges_of w) i e) (sym (some_same is)) is_e);
}
edge_of_rings (r ∷ rings) (suc k) ring i e is is_e =
    let h = edge_of_rings rings k ring i e is is_e in
    place_right (edges_of r) (edges_of_rings rings) h.place e h.is

-- ---- an area whose rings are clean of each other
pub record AreRingsClean (area : Area) : Type 0 where
  pub shaped : IsAreaShaped area
  pub unshared : ¬ RingsShareSegment area
  pub within : ¬ HasHoleOutside area
  pub unlapped : ¬ HasHolesThatOverlap area

-- a valid figure's areas are so
pub area_shaped : (f : Figure) → IsWellShaped f → (place : ℕ) (area : Area) → IsAtPlace f.areas place area → IsAreaShaped area
area_shaped f shaped place area is = all_at IsAreaShaped f.areas place area shaped.areas is

pub hole_shaped : (area : Area) → IsAreaShaped area → (i : ℕ) (hole : List Pt) → IsAtPlace area.holes i hole → IsRingShaped hole
hole_shaped area shaped i hole is = all_at IsRingShaped area.holes i hole shaped.holes is

pub area_clean : (f : Figure) → IsWellShaped f → IsValid f → (place : ℕ) (area : Area) → IsAtPlace f.areas place area → AreRingsClean area
area_clean f shaped valid place area is = record {
  shaped = area_shaped f shaped place area is;
  unshared = λ h. valid place rings_share_edge (record { area = area; area_is = is; is_so = h });
  within = λ h. valid place hole_outside (record { area = area; area_is = is; is_so = h });
  unlapped = λ h. valid place holes_overlap (record { area = area; area_is = is; is_so = h });
}

-- what one edge shares with another the other shares with it
pub share_back : {e f : Seg} → ShareSegment e f → ShareSegment f e
share_back h = record { a = h.a; b = h.b; apart = h.apart; held = λ p on. let both = h.held p on in (both.1, both.0) }

-- two of its rings have no edges that share a segment
pub rings_unshared : {area : Area} → ¬ RingsShareSegment area → (k l : ℕ) → k < l → (one other : List Pt) → IsAtPlace (rings_of area) k one
    → IsAtPlace (rings_of area) l other → (i j : ℕ) (e f : Seg) → IsAtPlace (edges_of one) i e → IsAtPlace (edges_of other) j f
    → ¬ ShareSegment e f
rings_unshared unshared k l before one other one_is other_is i j e f e_is f_is share = unshared (record {
  i = k;
  j = l;
  earlier = before;
  one = one;
  other = other;
  one_is = one_is;
  other_is = other_is;
  share = record { i = i; j = j; e = e; f = f; e_is = e_is; f_is = f_is; share = share };
})

-- so they have no edge in common
not_in_both : (area : Area) → ¬ RingsShareSegment area → (k l : ℕ) → k < l → (one other : List Pt) → IsAtPlace (rings_of area) k one
    → IsAtPlace (rings_of area) l other → (i j : ℕ) (e : Seg) → IsAtPlace (edges_of one) i e → IsAtPlace (edges_of other) j e
    → ¬ IsSamePoint (point_of e.a) (point_of e.b) → ⊥
not_in_both area unshared k l before one other is_one is_other i j e is_i is_j apart =
    rings_unshared unshared k l before one other is_one is_other i j e e is_i is_j
    (record { a = point_of e.a; b = point_of e.b; apart = apart; held = λ p on. (on, on) })

-- an edge of the ring at a place, and a point of it that is on no other edge of the area
record IsRingEdge (area : Area) (k : ℕ) (ring : List Pt) (i : ℕ) (e : Seg) (v : Point) : Type 0 where
  ring_is : IsAtPlace (rings_of area) k ring
  edge_is : IsAtPlace (edges_of ring) i e
  one : IsOnEdgeAlone area e v

-- such a point is on no edge of another ring
off_ring : {area : Area} {k : ℕ} {ring : List Pt} {i : ℕ} {e : Seg} {v : Point} → ¬ RingsShareSegment area → IsRingEdge area k ring i e v
    → (l : ℕ) (other : List Pt) → IsAtPlace (rings_of area) l other → ¬ (k ≡ l) → is_on_edges v (edges_of other) ≡ false
off_ring {area} {k} {ring} {i} {e} {v} unshared at l other is differ =
    off_by_places v (edges_of other) (λ j f is_f. off_edge f v (λ on.
    let h = edge_of_rings (rings_of area) l other j f is is_f in
    in_both j (subst (λ g. IsAtPlace (edges_of other) j g) (at.one.alone h.place f h.is on) is_f)))
  where
    apart : ¬ IsSamePoint (point_of e.a) (point_of e.b)
    apart = at.one.between.apart

    in_both : (j : ℕ) → IsAtPlace (edges_of other) j e → ⊥
    in_both j is_j = by_order (cases_order k l)
      where
        by_order : (k ≡ l) ⊎ ((k < l) ⊎ (l < k)) → ⊥
        by_order (inl same) = differ same
        by_order (inr (inl before)) = not_in_both area unshared k l before ring other at.ring_is is i j e at.edge_is is_j apart
        by_order (inr (inr after)) = not_in_both area unshared l k after other ring is at.ring_is j i e is_j at.edge_is apart

-- ---- to either side of the edge there is no edge of the area near such a point
clear_beside : (s : Bool) {area : Area} {e : Seg} {v : Point} → IsOnEdgeAlone area e v → (d : Direction) → HasSign s (slope e d)
    → HoldsAlong (λ q. is_on_edges q (edges_of_rings (rings_of area)) ≡ false) v d
clear_beside s {area} {e} {v} one d to = record {
  from = far_for d r.n;
  holds = λ n far q away. off_by_places q edges (λ j f is. by_v n far q away j f is (is_on_edge v f) refl);
}
  where
    edges : List Seg
    edges = edges_of_rings (rings_of area)

    r : HasRoom v edges
    r = room v edges

    off_own : (n : ℕ) → far_for d r.n < n → (q : Point) → IsAway v d n q → IsOnEdge e q → ⊥
    off_own n far q away on =
        signed_nonzero s (edge_turn e q)
        (side_of s e (edge_turn_on e (on_from_strictly_between one.between)) to (omega (arith, far)) away) (edge_turn_on e on)

    by_v : (n : ℕ) → far_for d r.n < n → (q : Point) → IsAway v d n q → (j : ℕ) (f : Seg) → IsAtPlace edges j f → (b : Bool)
        → is_on_edge v f ≡ b → is_on_edge q f ≡ false
    by_v n far q away j f is true on =
        subst (λ g. is_on_edge q g ≡ false) (sym (one.alone j f is (on_true on))) (off_edge e q (off_own n far q away))
    by_v n far q away j f is false off = held_at v q edges (r.free r.n (omega arith) q (away_near r.n far away)) j f is off

-- the sign of a hand
record HasSide (e : Seg) (d : Direction) : Type 0 where
  s : Bool
  to : HasSign s (slope e d)

side_from : (side : Hand) (e : Seg) (d : Direction) → PointsTo side e d → HasSide e d
side_from hand.Left e d to = record { s = true; to = to }
side_from hand.Right e d to = record { s = false; to = to }
side_from hand.Line e d to = absurd to

clear_to : (side : Hand) {area : Area} {e : Seg} {v : Point} → IsOnEdgeAlone area e v → (d : Direction) → PointsTo side e d
    → HoldsAlong (λ q. is_on_edges q (edges_of_rings (rings_of area)) ≡ false) v d
clear_to side {area} {e} {v} one d to = let h = side_from side e d to in clear_beside h.s one d h.to

-- some direction to a hand
pub record HasWay (side : Hand) (e : Seg) : Type 0 where
  pub d : Direction
  pub to : PointsTo side e d

pub some_way : (side : Hand) → ¬ (side ≡ hand.Line) → (e : Seg) → ¬ IsSamePoint (point_of e.a) (point_of e.b) → HasWay side e
some_way hand.Left sided e apart = record { d = left_way e apart; to = left_way_slope e apart }
some_way hand.Right sided e apart = record { d = right_way e apart; to = right_way_slope e apart }
some_way hand.Line sided e apart = absurd (sided refl)

other_sided : (side : Hand) → ¬ (side ≡ hand.Line) → ¬ (other_hand side ≡ hand.Line)
other_sided hand.Left sided e = cc
other_sided hand.Right sided e = cc
other_sided hand.Line sided e = sided e

pub other_twice : (side : Hand) → other_hand (other_hand side) ≡ side
other_twice hand.Left = refl
other_twice hand.Right = refl
other_twice hand.Line = refl

-- ---- lists of holes
any_none : {v : Point} {d : Direction} (holes : List (List Pt))
    → ((k : ℕ) (hole : List Pt) → IsAtPlace holes k hole → HoldsAlong (λ q. is_inside q hole ≡ false) v d)
    → HoldsAlong (λ q. list_any (is_inside q) holes ≡ false) v d
any_none [] h = record { from = 0; holds = λ n far q away. refl }
any_none (hole ∷ holes) h =
    along_like (λ q both. or_from (is_inside q hole) (list_any (is_inside q) holes) both.0 both.1)
    (along_both (h 0 hole refl) (any_none holes (λ k other is. h (suc k) other is)))

any_at : (q : Point) (holes : List (List Pt)) (k : ℕ) (hole : List Pt) → IsAtPlace holes k hole → is_inside q hole ≡ true
    → list_any (is_inside q) holes ≡ true
any_at q [] k hole is h = cc
any_at q (first ∷ holes) zero hole is h = or_left (is_inside q first) (list_any (is_inside q) holes) (ap (is_inside q) (some_same is) ∙ h)
any_at q (first ∷ holes) (suc k) hole is h = or_right (is_inside q first) (list_any (is_inside q) holes) (any_at q holes k hole is h)

-- the location that three tests along a direction give
germ_by : (area : Area) {v : Point} {d : Direction} (shell hole : Bool)
    → HoldsAlong (λ q. is_on_edges q (edges_of_rings (rings_of area)) ≡ false) v d → HoldsAlong (λ q. is_inside q area.shell ≡ shell) v d
    → HoldsAlong (λ q. list_any (is_inside q) area.holes ≡ hole) v d → IsGerm area v d (location_by false shell hole)
germ_by area shell hole off in_shell in_holes =
    along_like (λ q all. λ i. location_by (all.0 i) (all.1.0 i) (all.1.1 i)) (along_both off (along_both in_shell in_holes))

outside_germ : (area : Area) {v : Point} {d : Direction} → HoldsAlong (λ q. is_on_edges q (edges_of_rings (rings_of area)) ≡ false) v d
    → HoldsAlong (λ q. is_inside q area.shell ≡ false) v d → IsGerm area v d Exterior
outside_germ area off in_shell =
    along_like (λ q both. (λ i. location_by (both.0 i) (both.1 i) (list_any (is_inside q) area.holes))) (along_both off in_shell)

in_hole_germ : (area : Area) {v : Point} {d : Direction} → HoldsAlong (λ q. is_on_edges q (edges_of_rings (rings_of area)) ≡ false) v d
    → HoldsAlong (λ q. list_any (is_inside q) area.holes ≡ true) v d → IsGerm area v d Exterior
in_hole_germ area off in_holes =
    along_like (λ q both. (λ i. location_by (both.0 i) (is_inside q area.shell) (both.1 i)) ∙ hidden (is_inside q area.shell))
    (along_both off in_holes)
  where
    hidden : (shell : Bool) → location_by false shell true ≡ Exterior
    hidden true = refl
    hidden false = refl

-- ---- an edge of the shell
-- where its inside lies on a hand, no hole holds the point: else points on the other hand would be in the hole and not in the shell
shell_holes : {area : Area} {i : ℕ} {e : Seg} {v : Point} {side : Hand} → AreRingsClean area → IsInsideHand area.shell side
    → IsRingEdge area 0 area.shell i e v → (k : ℕ) (hole : List Pt) → IsAtPlace area.holes k hole → (d : Direction)
    → HoldsAlong (λ q. is_inside q hole ≡ false) v d
shell_holes {area} {i} {e} {v} {side} clean inside at k hole is d =
    along_like (λ q same. same ∙ outside) (settled_off hole closed v off d)
  where
    closed : IsClosed hole
    closed = (hole_shaped area clean.shaped k hole is).closed

    off : is_on_edges v (edges_of hole) ≡ false
    off = off_ring clean.unshared at (suc k) hole is (λ z. omega (arith, z))

    way : HasWay (other_hand side) e
    way = some_way (other_hand side) (other_sided side inside.sided) e at.one.between.apart

    outside : is_inside v hole ≡ false
    outside = false_from_ne_true (is_inside v hole) (λ held.
        let some = along_some
        (along_both (settled_off hole closed v off way.d) (inside.outside i e at.edge_is v at.one.between way.d way.to)) in
        clean.within (record { i = k; hole = hole; hole_is = is; p = some.q; in_hole = some.is.0 ∙ held; off_shell = some.is.1 }))

pub shell_hand : (area : Area) → AreRingsClean area → (side : Hand) → IsInsideHand area.shell side → (i : ℕ) (e : Seg)
    → IsAtPlace (edges_of area.shell) i e → IsAreaHand area e side
shell_hand area clean side inside i e is = record {
  sided = inside.sided;
  inside = λ v one d to.
      germ_by area true false (clear_to side one d to) (inside.inside i e is v one.between d to)
      (any_none area.holes (λ k hole is_hole. shell_holes clean inside (record { ring_is = refl; edge_is = is; one = one }) k hole is_hole
      d));
  outside = λ v one d to. outside_germ area (clear_to (other_hand side) one d to) (inside.outside i e is v one.between d to);
}

-- ---- an edge of a hole
-- a point of the hole's inside, near the edge
hole_some : {area : Area} {k : ℕ} {hole : List Pt} {i : ℕ} {e : Seg} {v : Point} {side : Hand} → IsInsideHand hole side
    → IsRingEdge area (suc k) hole i e v → (other : List Pt) → IsClosed other → is_on_edges v (edges_of other) ≡ false
    → HasPoint (λ q. (is_inside q other ≡ is_inside v other) × (is_inside q hole ≡ true))
hole_some {area} {k} {hole} {i} {e} {v} {side} inside at other closed off =
    let way = some_way side inside.sided e at.one.between.apart in
    along_some (along_both (settled_off other closed v off way.d) (inside.inside i e at.edge_is v at.one.between way.d way.to))

-- the shell holds the point, since the hole's inside is within the shell
in_shell : {area : Area} {k : ℕ} {hole : List Pt} {i : ℕ} {e : Seg} {v : Point} {side : Hand} → AreRingsClean area
    → IsAtPlace area.holes k hole → IsInsideHand hole side → IsRingEdge area (suc k) hole i e v → (d : Direction)
    → HoldsAlong (λ q. is_inside q area.shell ≡ true) v d
in_shell {area} {k} {hole} {i} {e} {v} {side} clean is inside at d =
    along_like (λ q same. same ∙ by_test (is_inside v area.shell) refl) (settled_off area.shell clean.shaped.shell.closed v off d)
  where
    off : is_on_edges v (edges_of area.shell) ≡ false
    off = off_ring clean.unshared at 0 area.shell refl (λ z. omega (arith, z))

    by_test : (b : Bool) → is_inside v area.shell ≡ b → is_inside v area.shell ≡ true
    by_test true h = h
    by_test false h =
        let some = hole_some inside at area.shell clean.shaped.shell.closed off in
        absurd (clean.within (record { i = k; hole = hole; hole_is = is; p = some.q; in_hole = some.is.1; off_shell = some.is.0 ∙ h }))

-- no point is inside two holes
holes_unlapped : {area : Area} → ¬ HasHolesThatOverlap area → (k l : ℕ) → k < l → (one other : List Pt) → IsAtPlace area.holes k one
    → IsAtPlace area.holes l other → (p : Point) → is_inside p one ≡ true → ¬ (is_inside p other ≡ true)
holes_unlapped unlapped k l before one other one_is other_is p in_one in_other = unlapped (record {
  i = k;
  one = one;
  one_is = one_is;
  j = l;
  other = other;
  other_is = other_is;
  earlier = before;
  p = p;
  in_one = in_one;
  in_other = in_other;
})

-- no other hole holds the point, since the insides of holes don't overlap
in_no_other : {area : Area} {k : ℕ} {hole : List Pt} {i : ℕ} {e : Seg} {v : Point} {side : Hand} → AreRingsClean area
    → IsAtPlace area.holes k hole → IsInsideHand hole side → IsRingEdge area (suc k) hole i e v → (l : ℕ) (other : List Pt)
    → IsAtPlace area.holes l other → ¬ (k ≡ l) → (d : Direction) → HoldsAlong (λ q. is_inside q other ≡ false) v d
in_no_other {area} {k} {hole} {i} {e} {v} {side} clean is inside at l other is_other differ d =
    along_like (λ q same. same ∙ outside) (settled_off other closed v off d)
  where
    closed : IsClosed other
    closed = (hole_shaped area clean.shaped l other is_other).closed

    off : is_on_edges v (edges_of other) ≡ false
    off = off_ring clean.unshared at (suc l) other is_other (λ z. differ (omega (arith, z)))

    outside : is_inside v other ≡ false
    outside = false_from_ne_true (is_inside v other) (λ held.
        let some = hole_some inside at other closed off in
        by_order some (some.is.0 ∙ held) (cases_order k l))
      where
        by_order : (some : HasPoint (λ q. (is_inside q other ≡ is_inside v other) × (is_inside q hole ≡ true)))
            → is_inside some.q other ≡ true → (k ≡ l) ⊎ ((k < l) ⊎ (l < k)) → ⊥
        by_order some held (inl same) = differ same
        by_order some held (inr (inl before)) =
            holes_unlapped clean.unlapped k l before hole other is is_other some.q some.is.1 held
        by_order some held (inr (inr after)) =
            holes_unlapped clean.unlapped l k after other hole is_other is some.q held some.is.1

pub hole_hand : (area : Area) → AreRingsClean area → (k : ℕ) (hole : List Pt) → IsAtPlace area.holes k hole → (side : Hand)
    → IsInsideHand hole side → (i : ℕ) (e : Seg) → IsAtPlace (edges_of hole) i e → IsAreaHand area e (other_hand side)
hole_hand area clean k hole is side inside i e is_e = record {
  sided = other_sided side inside.sided;
  inside = λ v one d to.
      germ_by area true false (clear_to (other_hand side) one d to) (in_shell clean is inside (at v one) d)
      (any_none area.holes (λ l other is_other. by_place v one d to l other is_other (cases_eq k l)));
  outside = λ v one d to.
      let to' = subst (λ (h : Hand). PointsTo h e d) (other_twice side) to in
      in_hole_germ area (clear_to side one d to')
      (along_like (λ q held. any_at q area.holes k hole is held) (inside.inside i e is_e v one.between d to'));
}
  where
    at : (v : Point) → IsOnEdgeAlone area e v → IsRingEdge area (suc k) hole i e v
    at v one = record { ring_is = is; edge_is = is_e; one = one }

    by_place : (v : Point) → IsOnEdgeAlone area e v → (d : Direction) → PointsTo (other_hand side) e d → (l : ℕ) (other : List Pt)
        → IsAtPlace area.holes l other → (k ≡ l) ⊎ (k ≡ l → ⊥) → HoldsAlong (λ q. is_inside q other ≡ false) v d
    by_place v one d to l other is_other (inl same) =
        subst (λ ring. HoldsAlong (λ q. is_inside q ring ≡ false) v d) (some_same (sym is ∙ ap (slice_get area.holes) same ∙ is_other))
        (inside.outside i e is_e v one.between d to)
    by_place v one d to l other is_other (inr differ) = in_no_other clean is inside (at v one) l other is_other differ d
