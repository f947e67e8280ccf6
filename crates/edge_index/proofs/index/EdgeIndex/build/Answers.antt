use Rattle.std.proofs.Common.{◌<◌, length, ℕ, List, subst, subst₂, sym}
use Rattle.std.specs.Prelude.{All}
use Rattle.plane_exact.specs.declared.point.Seg.{Seg}
use Rattle.edge_index.specs.Rows.{AreAllPlaces}
use Rattle.edge_index.proofs.IndexRows.{places_within}
use Rattle.edge_index.proofs.index.EdgeIndex.build.Goals as goal

pub inner_windows-requires : goal.inner_windows-requires
inner_windows-requires c =
    let all = subst
    (λ (segs : List Seg). AreAllPlaces segs c.in_ok-leaves.leaves.items) c.as_slice.ensures.items c.in_ok-leaves.ensures.places in
    record {
      places = subst₂ (λ (leaves : List ℕ) (segs : List Seg). All (λ (place : ℕ). place < length segs) leaves)
          (sym c.deref.ensures.value) (sym c.as_slice-2.ensures.items) (places_within c.args.segs _ all);
    }
