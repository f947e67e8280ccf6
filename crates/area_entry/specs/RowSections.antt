-- The sections of rows at a point.
use Rattle.std.specs.Prelude.{◌≡◌, ◌≢◌, ℕ, List, [], ◌∷◌, ◌++◌, Some, map}
use Rattle.std.specs.List.{All}
use Rattle.im_matrix.specs.declared.Which.TheVariants.{A}
use Rattle.plane_exact.specs.Places.{IsInLimit}
use Rattle.plane_exact.specs.declared.point.Seg.{Seg}
use Rattle.plane_exact.specs.Windows.{IsLeastWindow}
use Rattle.plane_exact.specs.declared.window.Window.{Window}
use Rattle.plane_laws.specs.Plane.{Point}
use Rattle.point_set.specs.declared.edge.Edge.{Edge}
use Rattle.point_set.specs.Edges.{area_of}
use Rattle.point_set.specs.Validity.{IsOnEdge}
use Rattle.edge_index.specs.Segments.{ArePlacesIn}
use Rattle.fan_order.specs.declared.section.Section.{Section}
use Rattle.fan_order.specs.Sections.{AreSectionsOf}

-- Each row's edge has two different ends within the limit.
pub record IsRowSound (row : Edge) : Type 0 where
  pub start : IsInLimit row.seg.a
  pub end : IsInLimit row.seg.b
  pub moves : row.seg.a ≢ row.seg.b

-- The rows belong to the rings of one area.
pub record AreOfOneArea (rows : List Edge) : Type 0 where
  pub place : ℕ
  pub owned : All (λ row. area_of row.owner ≡ Some place) rows

-- The edges of rows, in order.
abbrev pub segs_of_rows : List Edge → List Seg
segs_of_rows rows = map (λ row. row.seg) rows

-- The places of exactly the rows whose windows meet the least window round some points, ascending.
pub record AreNear (Points : Point → Type 0) (rows : List Edge) (places : List ℕ) : Type 0 where
  pub window : Window
  pub least : IsLeastWindow Points window
  pub places_in : ArePlacesIn window (segs_of_rows rows) places

-- The sections of one row at a point: where its edge holds the point, one towards each end that isn't the point; else none.
pub record AreSectionsOfRow (v : Point) (row : Edge) (sections : List Section) : Type 0 where
  pub on : IsOnEdge row.seg v → AreSectionsOf A row v sections
  pub off : ¬ IsOnEdge row.seg v → sections ≡ []

-- A list has grown by the sections of one row at a point.
pub record AddsSectionsOfRow (v : Point) (row : Edge) (old new : List Section) : Type 0 where
  pub more : List Section
  pub are : AreSectionsOfRow v row more
  pub new_is : new ≡ old ++ more

-- The sections of rows at a point, row by row: each exactly once, and no others.
abbrev pub AreSectionsOfRows : Point → List Edge → List Section → Type 0
AreSectionsOfRows v [] sections = sections ≡ []
AreSectionsOfRows v (row ∷ rows) sections =
    (first rest : List Section) × (sections ≡ first ++ rest) × AreSectionsOfRow v row first × AreSectionsOfRows v rows rest
