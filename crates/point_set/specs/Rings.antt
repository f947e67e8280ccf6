-- Edges and rings: what is on a way, and what is inside a ring (OGC 06-103r4, 6.1.11).
use Rattle.std.specs.Prelude.{ℤ, pos, ◌*ℤ◌, Bool, true, false, not, ◌&&◌, List, [], ◌∷◌, int_le, int_lt}
use Rattle.std.specs.Ordering.{int_eq}
use Rattle.std.specs.List.{list_any}
use Rattle.plane_laws.specs.Plane.{Point, turn, is_on_segment}
use Rattle.plane_exact.specs.Places.{point_of}
use Rattle.plane_exact.specs.declared.point.Pt.{Pt}
use Rattle.plane_exact.specs.declared.point.Seg.{Seg}

-- Whether two positions are equal.
abbrev pub is_same_position : Pt → Pt → Bool
is_same_position p q = int_eq p.x q.x && int_eq p.y q.y

-- The segment from p to q in front of further edges, left out where the two positions are equal.
abbrev pub edge_before : Bool → Pt → Pt → List Seg → List Seg
edge_before true p q edges = edges
edge_before false p q edges = record { a = p; b = q } ∷ edges

-- The edges of a way that goes on from p.
abbrev pub edges_after : Pt → List Pt → List Seg
edges_after p [] = []
edges_after p (q ∷ others) = edge_before (is_same_position p q) p q (edges_after q others)

-- The edges of a line or a ring: the segments between neighbouring positions that differ.
abbrev pub edges_of : List Pt → List Seg
edges_of [] = []
edges_of (p ∷ others) = edges_after p others

-- Whether a point is on an edge.
abbrev pub is_on_edge : Point → Seg → Bool
is_on_edge p e = is_on_segment (point_of e.a) (point_of e.b) p

-- Whether a point is on one of the edges.
abbrev pub is_on_edges : Point → List Seg → Bool
is_on_edges p edges = list_any (is_on_edge p) edges

-- Whether the point a is at most as high as p.
abbrev pub is_low : Point → Point → Bool
is_low p a = int_le (a.y *ℤ p.w) (p.y *ℤ a.w)

-- The ray to the right of p crosses the edge from a to b: exactly one end is at most as high as p, and at p's height p is
-- strictly left of the edge. So p is on the left of an edge that goes up, and on the right of one that goes down.
abbrev pub crosses_from : Bool → Bool → ℤ → Bool
crosses_from true false side = int_lt (pos 0) side
crosses_from false true side = int_lt side (pos 0)
crosses_from true true side = false
crosses_from false false side = false

-- Whether the ray to the right of p crosses an edge.
abbrev pub crosses : Point → Seg → Bool
crosses p e = crosses_from (is_low p (point_of e.a)) (is_low p (point_of e.b)) (turn (point_of e.a) (point_of e.b) p)

-- Exactly one of the two.
abbrev pub differ : Bool → Bool → Bool
differ true b = not b
differ false b = b

-- Whether the ray to the right of p crosses an odd number of the edges.
abbrev pub is_odd : Point → List Seg → Bool
is_odd p [] = false
is_odd p (e ∷ edges) = differ (crosses p e) (is_odd p edges)

-- A point is inside a ring where it is on no edge and its ray crosses an odd number of edges.
abbrev pub is_inside : Point → List Pt → Bool
is_inside p ring = not (is_on_edges p (edges_of ring)) && is_odd p (edges_of ring)
