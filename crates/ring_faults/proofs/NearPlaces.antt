-- The places of the edges near an edge: each is one of the row, and each edge with a common point is among them.
use Rattle.std.proofs.Common.{ℕ, ◌<◌, List, length, refl, subst}
use Rattle.std.specs.List.{All, Contains}
use Rattle.std.proofs.lemmas.List.{length-map}
use Rattle.std.proofs.lemmas.List.Elements.{All-weaker}
use Rattle.std.proofs.lemmas.Option.{slice_get_within}
use Rattle.plane_laws.specs.Plane.{Point}
use Rattle.plane_exact.specs.declared.point.Seg.{Seg}
use Rattle.plane_exact.proofs.Laws.{least_of_ends}
use Rattle.edge_index.specs.Rows.{window_of}
use Rattle.edge_index.specs.Segments.{MeetsAtPlace}
use Rattle.point_set.specs.Validity.{IsAtPlace, IsOnEdge}
use Rattle.ring_faults.specs.declared.part.PartEdge.{PartEdge}
use Rattle.ring_faults.specs.Clashes.{AreNearPlaces}
use Rattle.ring_faults.specs.Parts.{segs_of}
use Rattle.ring_faults.proofs.PartEdges.{seg_at}

-- an edge with a common point is near
pub near_common :
    (e : Seg) (segs : List Seg) (places : List ℕ) → AreNearPlaces e segs places → (place : ℕ) (f : Seg) → IsAtPlace segs place f
    → (p : Point) → IsOnEdge e p → IsOnEdge f p → Contains places place
near_common e segs places near place f f_is p on_e on_f =
    let least = least_of_ends (window_of f) f.a f.b refl refl refl refl in
    near.places_in.whole place (record {
      seg = f;
      seg_is = f_is;
      meets = record {
        box = window_of f;
        least = least;
        common = record { point = p; here = least.holds p on_f; there = near.least.holds p on_e };
      };
    })

-- the same of edges with their parts
pub near_edge :
    (e : Seg) (edges : List PartEdge) (places : List ℕ) → AreNearPlaces e (segs_of edges) places → (place : ℕ) (f : PartEdge)
    → IsAtPlace edges place f → (p : Point) → IsOnEdge e p → IsOnEdge f.seg p → Contains places place
near_edge e edges places near place f f_is = near_common e (segs_of edges) places near place f.seg (seg_at edges place f f_is)

-- the places are those of edges
pub near_within : (e : Seg) (edges : List PartEdge) (places : List ℕ) → AreNearPlaces e (segs_of edges) places
    → All (λ place. place < length edges) places
near_within e edges places near =
    All-weaker (MeetsAtPlace near.window (segs_of edges)) (λ place. place < length edges)
    (λ place m. subst (λ n. place < n) (length-map edges (λ (x : PartEdge). x.seg))
    (slice_get_within (segs_of edges) place m.seg m.seg_is)) places
    near.places_in.meet
