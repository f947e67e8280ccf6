-- Pairs of edges that clash: near each other, with a common point that isn't their joint, or with a common segment.
use Rattle.std.specs.Prelude.{ℕ, ◌<◌, List, Contains}
use Rattle.plane_exact.specs.declared.point.Seg.{Seg}
use Rattle.plane_exact.specs.declared.window.Window.{Window}
use Rattle.edge_index.specs.Segments.{IsWindowOf, ArePlacesIn}
use Rattle.point_set.specs.Validity.{IsAtPlace, ShareSegment}
use Rattle.ring_faults.specs.declared.part.PartEdge.{PartEdge}
use Rattle.ring_faults.specs.declared.clash.Clash.{Clash}
use Rattle.ring_faults.specs.declared.clash.Clash.TheVariants.{Crossing, Sharing}
use Rattle.ring_faults.specs.Joints.{HasUnjoinedPoint}
use Rattle.ring_faults.specs.Parts.{segs_of}

-- The places of exactly the edges whose windows meet the window of an edge, ascending.
pub record AreNearPlaces (e : Seg) (segs : List Seg) (places : List ℕ) : Type 0 where
  pub window : Window
  pub least : IsWindowOf e window
  pub places_in : ArePlacesIn window segs places

-- The edges at two places, of which i is the earlier, have a common point that isn't their joint.
pub record CrossAt (edges : List PartEdge) (i j : ℕ) : Type 0 where
  pub earlier : i < j
  pub e : PartEdge
  pub f : PartEdge
  pub e_is : IsAtPlace edges i e
  pub f_is : IsAtPlace edges j f
  pub unjoined : HasUnjoinedPoint (segs_of edges) i j e.seg f.seg

-- The edges at two places, of which that at i is of the earlier part, have a common segment.
pub record ShareAt (edges : List PartEdge) (i j : ℕ) : Type 0 where
  pub e : PartEdge
  pub f : PartEdge
  pub e_is : IsAtPlace edges i e
  pub f_is : IsAtPlace edges j f
  pub earlier : e.part < f.part
  pub share : ShareSegment e.seg f.seg

-- The edges at two places clash so.
abbrev pub ClashAt : Clash → List PartEdge → ℕ → ℕ → Type 0
ClashAt Crossing edges i j = CrossAt edges i j
ClashAt Sharing edges i j = ShareAt edges i j

-- The edge at a place clashes so with that at one of some places.
pub record ClashesWithSome (clash : Clash) (edges : List PartEdge) (i : ℕ) (places : List ℕ) : Type 0 where
  pub place : ℕ
  pub there : Contains places place
  pub clash_at : ClashAt clash edges i place

-- Some two of the edges clash so.
pub record SomeClash (clash : Clash) (edges : List PartEdge) : Type 0 where
  pub i : ℕ
  pub j : ℕ
  pub clash_at : ClashAt clash edges i j
