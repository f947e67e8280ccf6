-- Sets of points near a box that are put into a table of nodes.
use Rattle.std.specs.Prelude.{◌≡◌, ℕ, ◌⊎◌, true, List}
use Rattle.std.specs.List.{All}
use Rattle.plane_laws.specs.Plane.{Point, IsSamePoint}
use Rattle.plane_exact.specs.Places.{IsInLimit, point_of}
use Rattle.plane_exact.specs.declared.point.Pt.{Pt}
use Rattle.plane_exact.specs.declared.point.Seg.{Seg}
use Rattle.plane_exact.specs.declared.window.Window.{Window}
use Rattle.point_set.specs.declared.figure.Figure.{Figure}
use Rattle.point_set.specs.Edges.{edges_of_figure, MeetsAtPlace}
use Rattle.point_set.specs.Nodes.{segs_of, IsOnlyCommonPoint}
use Rattle.point_set.specs.Shape.{has_item}
use Rattle.point_set.specs.Validity.{IsAtPlace}
use Rattle.box_laws.specs.Boxes.{IsNearBox}
use Rattle.node_table.specs.declared.entry.Entry.{Entry}
use Rattle.relate_core.specs.Tables.{IsListed}

-- The points of a set that are near a box have been put in: a point is listed where it was before, or is one of them.
pub record AddsNear (w : Window) (Set : Point → Type 0) (old new : List Entry) : Type 0 where
  pub kept : (v : Point) → IsListed old v → IsListed new v
  pub whole : (v : Point) → Set v → IsNearBox w v → IsListed new v
  pub only : (v : Point) → IsListed new v → IsListed old v ⊎ (Set v × IsNearBox w v)

-- A point is the same as another.
abbrev pub IsAtThe : Point → Point → Type 0
IsAtThe p v = IsSamePoint v p

-- A point is one of the set that belongs to some item of a list.
pub record IsOfSome {T : Type 0} (Set : T → Point → Type 0) (items : List T) (v : Point) : Type 0 where
  pub place : ℕ
  pub item : T
  pub item_is : IsAtPlace items place item
  pub is_of : Set item v

-- A point is at a position.
abbrev pub IsAtPosition : Pt → Point → Type 0
IsAtPosition p v = IsAtThe (point_of p) v

-- A point is at one of some positions.
abbrev pub IsAtOneOf : List Pt → Point → Type 0
IsAtOneOf positions v = IsOfSome IsAtPosition positions v

-- A point is at the first position of a way.
abbrev pub IsAtFirst : List Pt → Point → Type 0
IsAtFirst way v = (p : Pt) × IsAtPlace way 0 p × IsAtPosition p v

-- A point is at the first position of one of some ways.
abbrev pub IsAtStart : List (List Pt) → Point → Type 0
IsAtStart ways v = IsOfSome IsAtFirst ways v

-- A point is at one of the ends of an edge.
abbrev pub IsAtEitherEnd : Seg → Point → Type 0
IsAtEitherEnd e v = IsAtPosition e.a v ⊎ IsAtPosition e.b v

-- A point is at an end of one of some edges.
abbrev pub IsAtEnd : List Seg → Point → Type 0
IsAtEnd edges v = IsOfSome IsAtEitherEnd edges v

-- A point is the only common point of an edge and one of some others.
abbrev pub CrossesOne : Seg → List Seg → Point → Type 0
CrossesOne e others v = IsOfSome (IsOnlyCommonPoint e) others v

-- A point is the only common point of one of some edges and one of some others.
abbrev pub CrossesSome : List Seg → List Seg → Point → Type 0
CrossesSome edges others v = IsOfSome (λ e. CrossesOne e others) edges v

-- A point is the only common point of one of some edges and one of a figure that has areas.
abbrev pub CrossesWithin : List Seg → Figure → Point → Type 0
CrossesWithin edges f v = (has_item f.areas ≡ true) × CrossesSome edges (segs_of f) v

-- A segment has two different ends within the limit, as the edges of a figure have.
pub record HasTwoEnds (e : Seg) : Type 0 where
  pub first : IsInLimit e.a
  pub second : IsInLimit e.b
  pub apart : ¬ (e.a ≡ e.b)

-- These are edges of a figure, and all that meet a box are among them.
pub record AreEdgesNear (w : Window) (f : Figure) (edges : List Seg) : Type 0 where
  pub two_ends : All HasTwoEnds edges
  pub only : (place : ℕ) (e : Seg) → IsAtPlace edges place e → (i : ℕ) × IsAtPlace (segs_of f) i e
  pub whole :
      (place : ℕ) (e : Seg) → IsAtPlace (segs_of f) place e → MeetsAtPlace w (edges_of_figure f) place
      → (i : ℕ) × IsAtPlace edges i e
