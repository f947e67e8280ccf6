-- When a figure is valid: eight clauses on its areas, after OGC 06-103r4, 6.1.11.1 and 6.1.14. The clause on cycles of
-- touching rings and the order of the clauses are this project's own.
use Rattle.std.specs.Prelude.{◌≡◌, ℕ, ◌+◌, ◌<◌, ◌⊎◌, ◌≢◌, true, false, List, [], ◌∷◌, length, Some, slice_get}
use Rattle.std.specs.List.{All}
use Rattle.im_matrix.specs.declared.Loc.TheVariants.{Interior}
use Rattle.plane_laws.specs.Plane.{Point, IsSamePoint, IsOnSegment}
use Rattle.plane_exact.specs.Places.{point_of}
use Rattle.plane_exact.specs.declared.point.Pt.{Pt}
use Rattle.plane_exact.specs.declared.point.Seg.{Seg}
use Rattle.point_set.specs.declared.figure.Area.{Area}
use Rattle.point_set.specs.declared.figure.Figure.{Figure}
use Rattle.point_set.specs.Rings.{edges_of, is_on_edges, is_inside}
use Rattle.point_set.specs.Location.{location, rings_of, edges_of_rings}
use Rattle.point_set.specs.Dimension.{HoldsSegment}

-- The item at a place of a list, counted from 0.
abbrev pub IsAtPlace : {T : Type 0} → List T → ℕ → T → Type 0
IsAtPlace items place item = slice_get items place ≡ Some item

-- A point is on an edge: it is a mix of the edge's ends.
abbrev pub IsOnEdge : Seg → Point → Type 0
IsOnEdge e p = IsOnSegment (point_of e.a) (point_of e.b) p

-- Two edges have a common segment with two different ends.
abbrev pub ShareSegment : Seg → Seg → Type 0
ShareSegment e f = HoldsSegment (λ p. IsOnEdge e p × IsOnEdge f p)

-- A ring has fewer than three distinct positions: each of them is one of two.
pub record HasTooFewPoints (ring : List Pt) : Type 0 where
  pub one : Pt
  pub other : Pt
  pub two_at_most : All (λ p. (p ≡ one) ⊎ (p ≡ other)) ring

-- A point is the joint of two neighbouring edges of a ring, of which i is the earlier: the end of edge i where edge i + 1
-- begins, or the start of the first edge where the last one ends.
abbrev pub IsJoint : List Seg → ℕ → ℕ → Seg → Seg → Point → Type 0
IsJoint edges i j e f p =
    ((j ≡ i + 1) × IsSamePoint (point_of f.a) p) ⊎ ((i ≡ 0) × (j + 1 ≡ length edges) × IsSamePoint (point_of e.a) p)

-- A ring crosses or touches itself: a point is on two of its edges and isn't their joint as neighbours.
pub record CrossesItself (ring : List Pt) : Type 0 where
  pub i : ℕ
  pub j : ℕ
  pub earlier : i < j
  pub e : Seg
  pub f : Seg
  pub e_is : IsAtPlace (edges_of ring) i e
  pub f_is : IsAtPlace (edges_of ring) j f
  pub p : Point
  pub on_e : IsOnEdge e p
  pub on_f : IsOnEdge f p
  pub unjoined : ¬ IsJoint (edges_of ring) i j e f p

-- Some ring of the area is so.
pub record SomeRing (IsSo : List Pt → Type 0) (area : Area) : Type 0 where
  pub place : ℕ
  pub ring : List Pt
  pub ring_is : IsAtPlace (rings_of area) place ring
  pub is_so : IsSo ring

-- An edge of one list and an edge of another have a common segment.
pub record EdgesShareSegment (edges others : List Seg) : Type 0 where
  pub i : ℕ
  pub j : ℕ
  pub e : Seg
  pub f : Seg
  pub e_is : IsAtPlace edges i e
  pub f_is : IsAtPlace others j f
  pub share : ShareSegment e f

-- Two rings of the area have a common segment with two different ends.
pub record RingsShareSegment (area : Area) : Type 0 where
  pub i : ℕ
  pub j : ℕ
  pub earlier : i < j
  pub one : List Pt
  pub other : List Pt
  pub one_is : IsAtPlace (rings_of area) i one
  pub other_is : IsAtPlace (rings_of area) j other
  pub share : EdgesShareSegment (edges_of one) (edges_of other)

-- Some point is inside a hole and not inside the shell.
pub record HasHoleOutside (area : Area) : Type 0 where
  pub i : ℕ
  pub hole : List Pt
  pub hole_is : IsAtPlace area.holes i hole
  pub p : Point
  pub in_hole : is_inside p hole ≡ true
  pub off_shell : is_inside p area.shell ≡ false

-- Some point is inside two holes.
pub record HasHolesThatOverlap (area : Area) : Type 0 where
  pub i : ℕ
  pub j : ℕ
  pub earlier : i < j
  pub one : List Pt
  pub other : List Pt
  pub one_is : IsAtPlace area.holes i one
  pub other_is : IsAtPlace area.holes j other
  pub p : Point
  pub in_one : is_inside p one ≡ true
  pub in_other : is_inside p other ≡ true

-- A step of a cycle of touching rings: the place of a ring among the area's rings, and the point at which it touches the
-- next ring of the cycle.
pub record Touch : Type 0 where
  pub place : ℕ
  pub point : Point

-- A point is on an edge of the ring at a place.
pub record IsOnRingAt (area : Area) (place : ℕ) (p : Point) : Type 0 where
  pub ring : List Pt
  pub ring_is : IsAtPlace (rings_of area) place ring
  pub on : is_on_edges p (edges_of ring) ≡ true

-- From each touch to the next, and from the last to the first one: the point is on its own ring and on the next one.
abbrev pub IsTouchChain : Area → Touch → Touch → List Touch → Type 0
IsTouchChain area start touch [] = IsOnRingAt area touch.place touch.point × IsOnRingAt area start.place touch.point
IsTouchChain area start touch (next ∷ others) =
    IsOnRingAt area touch.place touch.point × IsOnRingAt area next.place touch.point
    × IsTouchChain area start next others

-- No two touches of a list have the same ring or the same point.
abbrev pub AreApart : List Touch → Type 0
AreApart [] = Unit {0}
AreApart (touch ∷ others) =
    All (λ other. (touch.place ≢ other.place) × (¬ IsSamePoint touch.point other.point)) others
    × AreApart others

-- The area's rings touch in a cycle of at least two distinct rings at distinct points, so that its interior is cut.
pub record HasTouchCycle (area : Area) : Type 0 where
  pub start : Touch
  pub second : Touch
  pub others : List Touch
  pub apart : AreApart (start ∷ second ∷ others)
  pub chain : IsTouchChain area start start (second ∷ others)

-- An earlier element of the same group of areas is so beside this one.
pub record SomeEarlier (f : Figure) (place : ℕ) (IsSo : Area → Area → Type 0) : Type 0 where
  pub area : Area
  pub area_is : IsAtPlace f.areas place area
  pub before : ℕ
  pub earlier : before < place
  pub other : Area
  pub other_is : IsAtPlace f.areas before other
  pub same_group : area.group ≡ other.group
  pub is_so : IsSo area other

-- An edge of the one area and an edge of the other have a common segment.
abbrev pub AreasShareSegment : Area → Area → Type 0
AreasShareSegment area other = EdgesShareSegment (edges_of_rings (rings_of area)) (edges_of_rings (rings_of other))

-- Some point is interior to both areas.
pub record AreasOverlap (area other : Area) : Type 0 where
  pub p : Point
  pub in_area : location area p ≡ Interior
  pub in_other : location other p ≡ Interior

-- The eight clauses, in the order in which they are tested.
pub data Clause : Type 0 where
  too_few_points : Clause
  ring_cross : Clause
  rings_share_edge : Clause
  hole_outside : Clause
  holes_overlap : Clause
  disconnected : Clause
  elements_share_edge : Clause
  elements_overlap : Clause

-- The place of a clause in that order.
abbrev pub rank_of : Clause → ℕ
rank_of too_few_points = 0
rank_of ring_cross = 1
rank_of rings_share_edge = 2
rank_of hole_outside = 3
rank_of holes_overlap = 4
rank_of disconnected = 5
rank_of elements_share_edge = 6
rank_of elements_overlap = 7

-- An area of a figure, by its place, for which something holds.
pub record SomeArea (f : Figure) (place : ℕ) (IsSo : Area → Type 0) : Type 0 where
  pub area : Area
  pub area_is : IsAtPlace f.areas place area
  pub is_so : IsSo area

-- The area at a place, counted from 0, fails a clause.
abbrev pub Fails : Figure → ℕ → Clause → Type 0
Fails f place too_few_points = SomeArea f place (SomeRing HasTooFewPoints)
Fails f place ring_cross = SomeArea f place (SomeRing CrossesItself)
Fails f place rings_share_edge = SomeArea f place RingsShareSegment
Fails f place hole_outside = SomeArea f place HasHoleOutside
Fails f place holes_overlap = SomeArea f place HasHolesThatOverlap
Fails f place disconnected = SomeArea f place HasTouchCycle
Fails f place elements_share_edge = SomeEarlier f place AreasShareSegment
Fails f place elements_overlap = SomeEarlier f place AreasOverlap

-- A figure is valid where no area fails a clause. Lines and points have no clause.
abbrev pub IsValid : Figure → Type 0
IsValid f = (place : ℕ) → (clause : Clause) → ¬ Fails f place clause

-- The one clause comes before the other: of an earlier area, or earlier in the order at the same area.
abbrev pub ComesBefore : ℕ → Clause → ℕ → Clause → Type 0
ComesBefore place clause other_place other =
    (place < other_place) ⊎ ((place ≡ other_place) × (rank_of clause < rank_of other))

-- The first fault of a figure: the area at this place fails this clause, and nothing that comes before fails. Elements are
-- numbered from 1, so the area at a place is the element of the next number.
pub record IsFirstFault (f : Figure) (place : ℕ) (clause : Clause) : Type 0 where
  pub fails : Fails f place clause
  pub first : (before : ℕ) → (other : Clause) → ComesBefore before other place clause → ¬ Fails f before other
