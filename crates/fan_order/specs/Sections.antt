-- The sections of a figure at a point, and which sectors their hands say to be inside an area.
use Rattle.std.specs.Prelude.{◌≡◌, ℕ, ◌+◌, ◌-ℤ◌, Bool, true, false, List, [], ◌∷◌, ◌++◌, take, Some, Contains}
use Rattle.std.specs.List.{All, Any}
use Rattle.im_matrix.specs.declared.Which.{Which}
use Rattle.plane_laws.specs.Plane.{Point, IsSamePoint}
use Rattle.plane_exact.specs.Places.{point_of}
use Rattle.plane_exact.specs.Orders.{IsSameDirection}
use Rattle.plane_exact.specs.declared.dir.Dir.{Dir}
use Rattle.point_set.specs.declared.edge.Edge.{Edge}
use Rattle.point_set.specs.declared.edge.Hand.TheVariants as hand
use Rattle.point_set.specs.declared.figure.Figure.{Figure}
use Rattle.point_set.specs.Edges.{OwnedEdge, edges_of_figure, HasHand}
use Rattle.point_set.specs.Validity.{IsAtPlace, IsOnEdge, IsValid}
use Rattle.point_set.specs.Shape.{IsWellShaped}
use Rattle.fan_order.specs.Rays.{AreRaysOf}
use Rattle.fan_order.specs.declared.section.Section.{Section}
use Rattle.point_set.specs.Edges.{far_end, near_end, hand_of_way, area_of}

-- A section is that of an edge, walked forward or backward: its direction is the whole way to the end, and its hand is the edge's hand
-- on the way forward and the other one on the way back.
pub record IsSectionOfEdge (which : Which) (edge : Edge) (forward : Bool) (s : Section) : Type 0 where
  pub which_is : s.which ≡ which
  pub area_is : s.area ≡ area_of edge.owner
  pub across : s.dir.dx ≡ (far_end forward edge.seg).x -ℤ (near_end forward edge.seg).x
  pub above : s.dir.dy ≡ (far_end forward edge.seg).y -ℤ (near_end forward edge.seg).y
  pub hand_is : s.hand ≡ hand_of_way forward edge.hand

-- The sections of an edge towards one of its ends: none where v is that end, else one.
pub record AreToward (which : Which) (edge : Edge) (v : Point) (forward : Bool) (sections : List Section) : Type 0 where
  pub here : IsSamePoint (point_of (far_end forward edge.seg)) v → sections ≡ []
  pub away :
      ¬ IsSamePoint (point_of (far_end forward edge.seg)) v
      → (s : Section) × (sections ≡ s ∷ []) × IsSectionOfEdge which edge forward s

-- The sections of an edge that v is on: first towards its end, and then back towards its start.
pub record AreSectionsOf (which : Which) (edge : Edge) (v : Point) (sections : List Section) : Type 0 where
  pub ahead : List Section
  pub back : List Section
  pub parts : sections ≡ ahead ++ back
  pub are_ahead : AreToward which edge v true ahead
  pub are_back : AreToward which edge v false back

-- A list has grown by the sections of an edge that v is on.
pub record AddsSectionsOf (which : Which) (edge : Edge) (v : Point) (old new : List Section) : Type 0 where
  pub more : List Section
  pub are : AreSectionsOf which edge v more
  pub new_is : new ≡ old ++ more

-- A section is an edge of the figure, walked forward or backward.
pub record IsSectionToward (which : Which) (f : Figure) (edge : OwnedEdge) (forward : Bool) (s : Section) : Type 0 where
  pub which_is : s.which ≡ which
  pub area_is : s.area ≡ area_of edge.owner
  pub across : s.dir.dx ≡ (far_end forward edge.seg).x -ℤ (near_end forward edge.seg).x
  pub above : s.dir.dy ≡ (far_end forward edge.seg).y -ℤ (near_end forward edge.seg).y
  pub side : HasHand f edge.owner edge.seg (hand_of_way forward s.hand)

-- A section is that of an edge that v is on, towards an end that isn't v.
pub record IsSectionAt (which : Which) (f : Figure) (v : Point) (s : Section) : Type 0 where
  pub place : ℕ
  pub edge : OwnedEdge
  pub edge_is : IsAtPlace (edges_of_figure f) place edge
  pub on : IsOnEdge edge.seg v
  pub forward : Bool
  pub away : ¬ IsSamePoint (point_of (far_end forward edge.seg)) v
  pub toward : IsSectionToward which f edge forward s

-- The sections of a figure in the list are exactly those at v. A section may stand there more than once.
pub record AreSectionsAt (which : Which) (f : Figure) (v : Point) (sections : List Section) : Type 0 where
  pub only : All (λ s. s.which ≡ which → IsSectionAt which f v s) sections
  pub whole :
      (place : ℕ) (edge : OwnedEdge) → IsAtPlace (edges_of_figure f) place edge → IsOnEdge edge.seg v → (forward : Bool)
      → ¬ IsSamePoint (point_of (far_end forward edge.seg)) v → Any (IsSectionToward which f edge forward) sections

-- A line of a figure runs along a ray.
pub record IsLineAlong (which : Which) (sections : List Section) (ray : Dir) : Type 0 where
  pub s : Section
  pub there : Contains sections s
  pub which_is : s.which ≡ which
  pub of_line : s.hand ≡ hand.Line
  pub along : IsSameDirection s.dir ray

-- A section of an area of a figure runs along a ray.
pub record IsAreaAlong (which : Which) (area : ℕ) (ray : Dir) (s : Section) : Type 0 where
  pub which_is : s.which ≡ which
  pub area_is : s.area ≡ Some area
  pub along : IsSameDirection s.dir ray

-- At a ray with a section of the area, whether the area is on the left of it; at any other ray as before.
pub record IsStep (which : Which) (area : ℕ) (sections : List Section) (ray : Dir) (before after : Bool) : Type 0 where
  pub left :
      (s : Section) → Contains sections s → s.which ≡ which → s.area ≡ Some area → IsSameDirection s.dir ray → s.hand ≡ hand.Left
      → after ≡ true
  pub right :
      (s : Section) → Contains sections s → s.which ≡ which → s.area ≡ Some area → IsSameDirection s.dir ray → s.hand ≡ hand.Right
      → after ≡ false
  pub bare :
      ((s : Section) → Contains sections s → s.which ≡ which → s.area ≡ Some area → ¬ IsSameDirection s.dir ray) → after ≡ before

-- Along rays in order.
abbrev pub IsWalk : Which → ℕ → List Section → List Dir → Bool → Bool → Type 0
IsWalk which area sections [] before after = before ≡ after
IsWalk which area sections (ray ∷ rays) before after =
    (mid : Bool) × IsStep which area sections ray before mid × IsWalk which area sections rays mid after

-- By the hands, sector i is inside an area: after one whole turn, and on to the sector, the walk is inside.
pub record IsSectorInside (which : Which) (sections : List Section) (rays : List Dir) (i : ℕ) : Type 0 where
  pub area : ℕ
  pub s : Section
  pub there : Contains sections s
  pub which_is : s.which ≡ which
  pub area_is : s.area ≡ Some area
  pub walk : IsWalk which area sections (rays ++ take (i + 1) rays) false true

-- Sections of one area of a figure along one way have one hand; so have those of its lines.
pub record AreHandsAlike (which : Which) (sections : List Section) : Type 0 where
  pub alike :
      (s t : Section) → Contains sections s → Contains sections t → s.which ≡ which → t.which ≡ which → s.area ≡ t.area
      → IsSameDirection s.dir t.dir → s.hand ≡ t.hand

-- Each section of an area of a figure has the area on one side.
pub record AreSided (which : Which) (sections : List Section) : Type 0 where
  pub sided : (s : Section) → Contains sections s → s.which ≡ which → (area : ℕ) → s.area ≡ Some area → ¬ (s.hand ≡ hand.Line)

-- All sections of a valid figure at v, and rays that are those of the list. The list may hold sections of the other figure too.
pub record IsFanOf (which : Which) (f : Figure) (v : Point) (sections : List Section) (rays : List Dir) : Type 0 where
  pub shaped : IsWellShaped f
  pub valid : IsValid f
  pub are_sections : AreSectionsAt which f v sections
  pub are_rays : AreRaysOf sections rays
