-- Edges of several parts, as the rings of an area or two areas: each edge with the number of its part.
use Rattle.std.specs.Prelude.{◌≡◌, ◌≢◌, ℕ, ◌+◌, List, [], ◌∷◌, ◌++◌, map, Contains}
use Rattle.std.specs.List.{All}
use Rattle.plane_exact.specs.Places.{IsInLimit}
use Rattle.plane_laws.specs.Plane.{Point}
use Rattle.plane_exact.specs.declared.point.Seg.{Seg}
use Rattle.point_set.specs.Validity.{IsOnEdge}
use Rattle.ring_faults.specs.declared.part.PartEdge.{PartEdge}

-- An edge has two different ends within the limit.
pub record IsEdgeSound (e : Seg) : Type 0 where
  pub start : IsInLimit e.a
  pub end : IsInLimit e.b
  pub moves : e.a ≢ e.b

-- Each of the edges has.
abbrev pub AreEdgesSound : List PartEdge → Type 0
AreEdgesSound edges = All (λ edge. IsEdgeSound edge.seg) edges

-- An edge of a part.
abbrev pub part_edge : ℕ → Seg → PartEdge
part_edge part seg = record { seg = seg; part = part }

-- The edges of one part.
abbrev pub of_part : ℕ → List Seg → List PartEdge
of_part part segs = map (part_edge part) segs

-- The edges of parts in order; the first part has the given number.
abbrev pub edges_of_parts : ℕ → List (List Seg) → List PartEdge
edges_of_parts part [] = []
edges_of_parts part (segs ∷ parts) = of_part part segs ++ edges_of_parts (part + 1) parts

-- The edges without their parts.
abbrev pub segs_of : List PartEdge → List Seg
segs_of edges = map (λ edge. edge.seg) edges

-- A point is on an edge of a part.
pub record IsOnPart (edges : List PartEdge) (part : ℕ) (p : Point) : Type 0 where
  pub edge : PartEdge
  pub there : Contains edges edge
  pub part_is : edge.part ≡ part
  pub on : IsOnEdge edge.seg p
