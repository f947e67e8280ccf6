-- A list of segments, and a tree with a leaf for each of them.
use Rattle.std.specs.Prelude.{◌≡◌, ℕ, ◌<◌, ◌≤◌, List, length, slice_get, Some, All, Contains}
use Rattle.std.specs.List.Sorted.{IsStrictlyIncreasing}
use Rattle.plane_exact.specs.Places.{point_of}
use Rattle.plane_laws.specs.Plane.{IsOnSegment}
use Rattle.plane_exact.specs.Windows.{IsLeastWindow, HasCommonPoint}
use Rattle.plane_exact.specs.declared.point.Seg.{Seg}
use Rattle.plane_exact.specs.declared.window.Window.{Window}
use Rattle.edge_index.specs.declared.boxes.BoxRow.{BoxRow}
use Rattle.edge_index.specs.Trees.{IsRowAt, inner_count}

-- A box is the window of a segment: the least whole box that holds it.
abbrev pub IsWindowOf : Seg → Window → Type 0
IsWindowOf seg box = IsLeastWindow (IsOnSegment (point_of seg.a) (point_of seg.b)) box

-- The window of a segment has a common point with a window.
pub record MeetsWindow (w : Window) (seg : Seg) : Type 0 where
  pub box : Window
  pub least : IsWindowOf seg box
  pub common : HasCommonPoint box w

-- The segment at a place of a list meets a window.
pub record MeetsAtPlace (w : Window) (segs : List Seg) (place : ℕ) : Type 0 where
  pub seg : Seg
  pub seg_is : slice_get segs place ≡ Some seg
  pub meets : MeetsWindow w seg

-- Exactly the places of the segments that meet a window, ascending.
pub record ArePlacesIn (w : Window) (segs : List Seg) (places : List ℕ) : Type 0 where
  pub ascending : IsStrictlyIncreasing places
  pub meet : All (MeetsAtPlace w segs) places
  pub whole : (place : ℕ) → MeetsAtPlace w segs place → Contains places place

-- The first place at which two lists differ, or at which the shorter of them ends.
pub record IsFirstDifference (segs others : List Seg) (place : ℕ) : Type 0 where
  pub same : (earlier : ℕ) → earlier < place → slice_get segs earlier ≡ slice_get others earlier
  pub differ : ¬ (slice_get segs place ≡ slice_get others place)

-- A row has the window of a segment of the list, and the segment's place as its item.
pub record IsLeafOf (segs : List Seg) (row : BoxRow) : Type 0 where
  pub seg : Seg
  pub seg_is : slice_get segs row.item ≡ Some seg
  pub least : IsWindowOf seg row.window

-- A leaf has a place as its item.
pub record SomeLeaf (rows : List BoxRow) (item : ℕ) : Type 0 where
  pub place : ℕ
  pub row : BoxRow
  pub is_leaf : inner_count rows ≤ place
  pub is_row : IsRowAt rows place row
  pub is_item : row.item ≡ item

-- Each leaf is that of a segment, and each segment has a leaf.
pub record AreLeavesOf (segs : List Seg) (rows : List BoxRow) : Type 0 where
  pub each : (place : ℕ) (row : BoxRow) → inner_count rows ≤ place → IsRowAt rows place row → IsLeafOf segs row
  pub whole : (place : ℕ) → place < length segs → SomeLeaf rows place
