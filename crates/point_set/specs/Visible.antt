-- What stays from one point to another, and what nodes see.
use Rattle.std.specs.Prelude.{◌<◌, ◌≡◌, ◌⊎◌, true, false, ℕ, List}
use Rattle.im_matrix.specs.declared.Cell.{Cell}
use Rattle.plane_laws.specs.Plane.{Point, IsSamePoint, IsOnSegment, IsStrictlyBetween}
use Rattle.plane_exact.specs.declared.dir.Dir.{Dir}
use Rattle.plane_exact.specs.declared.point.Seg.{Seg}
use Rattle.plane_laws.specs.Directions.{Direction}
use Rattle.point_set.specs.declared.dim_loc.DimLoc.{DimLoc}
use Rattle.point_set.specs.declared.figure.Figure.{Figure}
use Rattle.point_set.specs.declared.rule.Rule.{Rule}
use Rattle.point_set.specs.Dimension.{HoldsSegment, HoldsTriangle}
use Rattle.plane_laws.specs.Along.{HoldsAlong, IsInCone}
use Rattle.point_set.specs.Germ.{IsPairGerm}
use Rattle.point_set.specs.Location.{IsKind}
use Rattle.point_set.specs.Relation.{IsInCell}
use Rattle.point_set.specs.Rings.{is_on_edges}
use Rattle.point_set.specs.Sectors.{AreRaysAt, IsInSector, sectors_of}
use Rattle.point_set.specs.Shape.{IsWellShaped}
use Rattle.point_set.specs.Validity.{IsAtPlace, IsOnEdge, IsValid}
use Rattle.point_set.specs.Nodes.{IsNode, segs_of_both, RunsFrom}

-- Both figures are well shaped and valid.
pub record AreValid (a b : Figure) : Type 0 where
  pub a_shaped : IsWellShaped a
  pub b_shaped : IsWellShaped b
  pub a_valid : IsValid a
  pub b_valid : IsValid b

-- The same of two figures: a pair germ exists along every direction, at every point.
abbrev pub LawGermExists : Figure → Figure → Rule → Type 0
LawGermExists a b rule = (v : Point) (d : Direction) → (c : Cell) × IsPairGerm a b rule v d c

-- The pair stays along every way that meets no edge and no node.
abbrev pub PairStays : Figure → Figure → Rule → Type 0
PairStays a b rule =
    (p q : Point) → ((m : Point) → IsOnSegment p q m → (is_on_edges m (segs_of_both a b) ≡ false) × (¬ IsNode a b m))
    → (c : Cell) → IsInCell a b rule c p → IsInCell a b rule c q

-- All nodes stand in a finite list.
pub record AreAllNodes (a b : Figure) (nodes : List Point) : Type 0 where
  pub only : (place : ℕ) (v : Point) → IsAtPlace nodes place v → IsNode a b v
  pub whole : (v : Point) → IsNode a b v → (place : ℕ) × (w : Point) × IsAtPlace nodes place w × IsSamePoint v w

-- Every point strictly between v and p has p's pair.
abbrev pub IsSeenFrom : Figure → Figure → Rule → Point → Point → Type 0
IsSeenFrom a b rule v p = (c : Cell) → IsInCell a b rule c p → (q : Point) → IsStrictlyBetween v p q → IsInCell a b rule c q

-- A node on an edge that holds p sees p along it.
pub record IsVisibleOn (a b : Figure) (rule : Rule) (p : Point) : Type 0 where
  pub v : Point
  pub is_node : IsNode a b v
  pub place : ℕ
  pub edge : Seg
  pub edge_is : IsAtPlace (segs_of_both a b) place edge
  pub v_on : IsOnEdge edge v
  pub p_on : IsOnEdge edge p
  pub seen : IsSeenFrom a b rule v p

-- From each point on an edge that is no node, a node is seen along one of the edges that hold the point.
abbrev pub LawVisibleOn : Figure → Figure → Rule → Type 0
LawVisibleOn a b rule = (p : Point) → is_on_edges p (segs_of_both a b) ≡ true → ¬ IsNode a b p → IsVisibleOn a b rule p

-- In one sector of the edges at a point the pair germ is one along all directions, and its cell holds a triangle.
abbrev pub LawSectorIsOne : Figure → Figure → Rule → Type 0
LawSectorIsOne a b rule =
    (v : Point) (rays : List Dir) → AreRaysAt v (segs_of_both a b) rays → (i : ℕ) → i < sectors_of rays
    → (d e : Direction) → IsInSector rays i d → IsInSector rays i e → (c : Cell) → IsPairGerm a b rule v d c
    → IsPairGerm a b rule v e c × HoldsTriangle (IsInCell a b rule c)

-- The cell of a pair germ holds a segment.
abbrev pub LawGermHoldsSegment : Figure → Figure → Rule → Type 0
LawGermHoldsSegment a b rule =
    (v : Point) (d : Direction) (c : Cell) → IsPairGerm a b rule v d c → HoldsSegment (IsInCell a b rule c)

-- A node sees p off the edges: p lies from it along no edge direction.
pub record IsVisibleOff (a b : Figure) (rule : Rule) (p : Point) : Type 0 where
  pub v : Point
  pub is_node : IsNode a b v
  pub d : Direction
  pub toward : IsInCone v d d p
  pub free : ¬ RunsFrom v (segs_of_both a b) d
  pub seen : IsSeenFrom a b rule v p

-- From each point off the edges that is no node, a node is seen; or there is no node at all.
abbrev pub LawVisibleOff : Figure → Figure → Rule → Type 0
LawVisibleOff a b rule =
    (p : Point) → is_on_edges p (segs_of_both a b) ≡ false → ¬ IsNode a b p
    → ((v : Point) → ¬ IsNode a b v) ⊎ IsVisibleOff a b rule p
