-- The places of rows that meet a window, as an index of their segments finds them.
use Rattle.std.proofs.Common.{◌≡◌, ℕ, zero, suc, List, [], ◌∷◌, ap, refl, sym, ◌∙◌, subst}
use Rattle.std.specs.Prelude.{map}
use Rattle.std.specs.Option.{option_map}
use Rattle.std.proofs.lemmas.List.Elements.{All-weaker}
use Rattle.std.proofs.lemmas.Option.{slice_get-map}
use Rattle.plane_exact.specs.declared.window.Window.{Window}
use Rattle.edge_index.specs.Segments.{ArePlacesIn as AreSegPlacesIn, MeetsAtPlace as SegMeetsAtPlace}
use Rattle.point_set.specs.declared.edge.Edge.{Edge}
use Rattle.point_set.specs.Edges.{OwnedEdge, MeetsWindow, MeetsAtPlace, ArePlacesIn}
use Rattle.point_set.specs.Validity.{IsAtPlace}
use Rattle.figure_laws.proofs.Lists.Places.{some_same}
use Rattle.ring_sides.specs.Rows.{owned_edge, owned_edges}
use Rattle.union_locator.specs.Plains.{segs_of}

-- ---- a list and its images under a function
-- what a function gives of the item at a place has the same place
pub image_at : {X Y : Type 0} (g : X → Y) (xs : List X) (place : ℕ) (x : X) → IsAtPlace xs place x → IsAtPlace (map g xs) place (g x)
image_at g xs place x is = slice_get-map g xs place ∙ ap (option_map g) is

-- the item of an image
pub record HasSource {X Y : Type 0} (g : X → Y) (xs : List X) (place : ℕ) (y : Y) : Type 0 where
  pub item : X
  pub is : IsAtPlace xs place item
  pub same : g item ≡ y

-- each image at a place comes from the item at this place
pub source_at : {X Y : Type 0} (g : X → Y) (xs : List X) (place : ℕ) (y : Y) → IsAtPlace (map g xs) place y → HasSource g xs place y
source_at g [] place y is = cc
source_at g (x ∷ xs) zero y is = record { item = x; is = refl; same = some_same is }
source_at g (x ∷ xs) (suc place) y is =
    let s = source_at g xs place y is in
    record { item = s.item; is = s.is; same = s.same }

-- ---- rows and their segments
module _ (w : Window) (rows : List Edge) (place : ℕ) where
  -- where the segment meets the window, the row does
  row_meets : SegMeetsAtPlace w (segs_of rows) place → MeetsAtPlace w (owned_edges rows) place
  row_meets m =
      let s = source_at (λ (row : Edge). row.seg) rows place m.seg m.seg_is in
      record {
        edge = owned_edge s.item;
        edge_is = image_at owned_edge rows place s.item s.is;
        meets = subst (MeetsWindow w) (sym s.same) (record { box = m.meets.box; least = m.meets.least; common = m.meets.common });
      }

  -- and the other way round
  seg_meets : MeetsAtPlace w (owned_edges rows) place → SegMeetsAtPlace w (segs_of rows) place
  seg_meets m =
      let s = source_at owned_edge rows place m.edge m.edge_is in
      let own : MeetsWindow w s.item.seg = subst (λ (z : OwnedEdge). MeetsWindow w z.seg) (sym s.same) m.meets in
      record {
        seg = s.item.seg;
        seg_is = image_at (λ (row : Edge). row.seg) rows place s.item s.is;
        meets = record { box = own.box; least = own.least; common = own.common };
      }

-- the places of the segments in a window are those of the rows
pub places_of_rows : (w : Window) (rows : List Edge) (places : List ℕ) → AreSegPlacesIn w (segs_of rows) places
    → ArePlacesIn w (owned_edges rows) places
places_of_rows w rows places h = record {
  ascending = h.ascending;
  meet =
      All-weaker (SegMeetsAtPlace w (segs_of rows)) (MeetsAtPlace w (owned_edges rows)) (λ place m. row_meets w rows place m) places h.meet;
  whole = λ place m. h.whole place (seg_meets w rows place m);
}
