-- Rows of edges have a common segment exactly where one of them has it with a row near it.
use Rattle.std.proofs.Common.{◌≡◌, ℕ, ◌<◌, List, length, get_or, sym, subst, subst₂}
use Rattle.std.specs.List.{All}
use Rattle.std.proofs.lemmas.Option.{slice_get-get_or}
use Rattle.plane_laws.proofs.Segments.Mixes.{start_on_segment}
use Rattle.plane_exact.specs.declared.point.Seg.{Seg}
use Rattle.point_set.specs.declared.edge.Edge.{Edge}
use Rattle.point_set.specs.Validity.{EdgesShareSegment, IsAtPlace, IsOnEdge, ShareSegment}
use Rattle.area_entry.specs.RowSections.{AreNear, segs_of_rows}
use Rattle.area_entry.proofs.Laws.{near_row, places_within, row_of_seg, seg_there}
use Rattle.geom_valid.specs.Sharing.{SharesAtSome, SharesWithRow}

-- the places near an edge are those of rows
pub near_within : (e : Seg) (rows : List Edge) (places : List ℕ) → AreNear (IsOnEdge e) rows places
    → All (λ place. place < length rows) places
near_within e rows places near = places_within near.window rows places near.places_in

-- a row with which an edge has a common segment is near the edge
pub some_near : (rows : List Edge) (row : Edge) (places : List ℕ) → AreNear (IsOnEdge row.seg) rows places → SharesWithRow rows row
    → SharesAtSome row.seg rows places
some_near rows row places near h =
    let other = h.at in
    let s = other.share in
    let both = s.held s.a (start_on_segment s.a s.b) in
    record { place = h.place; there = near_row row.seg rows places near h.place other.row other.row_is s.a both.0 both.1; at = other }

-- ---- two lists of rows
-- a row that was read in the one and has a common segment with some row of the other
pub rows_share_at :
    (one other items : List Edge) → items ≡ one → (i : ℕ) (d : Edge) → i < length items → SharesWithRow other (get_or items i d)
    → EdgesShareSegment (segs_of_rows one) (segs_of_rows other)
rows_share_at one other items same i d below h = record {
  i = i;
  j = h.place;
  e = (get_or items i d).seg;
  f = h.at.row.seg;
  e_is = seg_there one i (get_or items i d)
      (subst (λ (rows : List Edge). IsAtPlace rows i (get_or items i d)) same (slice_get-get_or items i d below));
  f_is = seg_there other h.place h.at.row h.at.row_is;
  share = h.at.share;
}

-- there is one where they have a common segment
pub no_rows_share : (one other : List Edge) → ((i : ℕ) (row : Edge) → IsAtPlace one i row → SharesWithRow other row → ⊥)
    → EdgesShareSegment (segs_of_rows one) (segs_of_rows other) → ⊥
no_rows_share one other none h =
    let row = row_of_seg one h.i h.e h.e_is in
    let beside = row_of_seg other h.j h.f h.f_is in
    none h.i row.row row.is (record {
      place = h.j;
      at = record {
        row = beside.row;
        row_is = beside.is;
        share = subst₂ (λ (e f : Seg). ShareSegment e f) (sym row.same) (sym beside.same) h.share;
      };
    })
