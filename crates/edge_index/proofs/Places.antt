-- From the items of a walk to the places of segments, and where two lists first differ.
use Rattle.std.proofs.Common.{◌≡◌, ℕ, List, sym, subst}
use Rattle.std.specs.Prelude.{slice_get, Some}
use Rattle.std.proofs.lemmas.List.Elements.{All-weaker}
use Rattle.std.proofs.lemmas.Option.{slice_get_within}
use Rattle.plane_exact.specs.Windows.{HasCommonPoint}
use Rattle.plane_exact.specs.declared.point.Seg.{Seg}
use Rattle.plane_exact.specs.declared.window.Window.{Window}
use Rattle.edge_index.specs.declared.boxes.BoxRow.{BoxRow}
use Rattle.edge_index.specs.Segments.{IsWindowOf, MeetsAtPlace, ArePlacesIn, AreLeavesOf}
use Rattle.edge_index.specs.Trees.{IsItemIn, AreItemsIn}
use Rattle.plane_exact.proofs.Laws.{within_holds}

-- the windows of a segment meet what one of them meets
window_meets :
    (w : Window) (seg : Seg) (box other : Window) → IsWindowOf seg box → IsWindowOf seg other → HasCommonPoint box w
    → HasCommonPoint other w
window_meets w seg box other least least' h =
    record { point = h.point; here = within_holds (least.least other least'.holds) h.point h.here; there = h.there }

-- an item of a leaf that meets is the place of a segment that does
item_meets :
    (w : Window) (segs : List Seg) (rows : List BoxRow) → AreLeavesOf segs rows → (item : ℕ) → IsItemIn w rows item
    → MeetsAtPlace w segs item
item_meets w segs rows leaves item is =
    let leaf = leaves.each is.place is.row is.is_leaf is.is_row in
    record {
      seg = leaf.seg;
      seg_is = subst (λ (place : ℕ). slice_get segs place ≡ Some leaf.seg) is.is_item leaf.seg_is;
      meets = record { box = is.row.window; least = leaf.least; common = is.common };
    }

-- and the other way round
place_meets :
    (w : Window) (segs : List Seg) (rows : List BoxRow) → AreLeavesOf segs rows → (place : ℕ) → MeetsAtPlace w segs place
    → IsItemIn w rows place
place_meets w segs rows leaves place meets =
    let some = leaves.whole place (slice_get_within segs place meets.seg meets.seg_is) in
    let leaf = leaves.each some.place some.row some.is_leaf some.is_row in
    let there = subst (λ (item : ℕ). slice_get segs item ≡ Some leaf.seg) some.is_item leaf.seg_is in
    let same : meets.seg ≡ leaf.seg = cc in
    let here : IsWindowOf meets.seg some.row.window = subst (λ (seg : Seg). IsWindowOf seg some.row.window) (sym same) leaf.least in
    let common = window_meets w meets.seg meets.meets.box some.row.window meets.meets.least here meets.meets.common in
    record { place = some.place; row = some.row; is_leaf = some.is_leaf; is_row = some.is_row; is_item = some.is_item; common = common }

-- the items of a walk are the places
pub places_from_items :
    (w : Window) (segs : List Seg) (rows : List BoxRow) (items : List ℕ) → AreLeavesOf segs rows → AreItemsIn w rows items
    → ArePlacesIn w segs items
places_from_items w segs rows items leaves found = record {
  ascending = found.ascending;
  meet = All-weaker (IsItemIn w rows) (MeetsAtPlace w segs) (item_meets w segs rows leaves) items found.meet;
  whole = λ place meets. found.whole place (place_meets w segs rows leaves place meets);
}
