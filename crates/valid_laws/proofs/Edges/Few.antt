-- A ring or an area with no more positions than a figure can have has no more edges.
use Rattle.std.proofs.Common.{◌≡◌, ℕ, ◌+◌, ◌≤◌, List, [], ◌∷◌, ◌++◌, length, length-append, refl, arith}
use Rattle.std.proofs.lemmas.List.{length-map}
use Rattle.std.proofs.lemmas.List.Elements.{All-nil, All-cons}
use Rattle.std.proofs.lemmas.List.Sums.{sum_by-cons}
use Rattle.plane_exact.specs.Places.{IsInLimit}
use Rattle.plane_exact.specs.declared.point.Pt.{Pt}
use Rattle.plane_exact.specs.declared.point.Seg.{Seg}
use Rattle.point_set.specs.declared.edge.Owner.{Owner}
use Rattle.point_set.specs.declared.edge.Owner.TheVariants.{Line, Ring}
use Rattle.point_set.specs.declared.figure.Area.{Area}
use Rattle.point_set.specs.declared.figure.Figure.{Figure}
use Rattle.point_set.specs.Edges.{OwnedEdge, owned_by, edges_of_area_rings, edges_of_lines}
use Rattle.point_set.specs.Location.{edges_of_rings, rings_of}
use Rattle.point_set.specs.Rings.{edges_of}
use Rattle.point_set.specs.Shape.{IsAreaShaped, IsLineShaped, IsRingShaped, IsWellShaped, positions_of_area}
use Rattle.figure_laws.proofs.Edges.Limits.{few_edges}
use Rattle.valid_laws.specs.Entering.{edges_in}

-- with an owner there are as many edges
count_owned : (owner : Owner) (edges : List Seg) → length (owned_by owner edges) ≡ length edges
count_owned owner edges = length-map edges (λ (seg : Seg). let edge : OwnedEdge = record { seg = seg; owner = owner } in edge)

-- the figure of the ring alone, read as a line, is well shaped
pub few_ring_edges : (ring : List Pt) → IsRingShaped ring → length ring ≤ 1048576 → length (edges_of ring) ≤ 1048576
few_ring_edges ring shaped few =
    omega (
      arith,
      few_edges figure well,
      count_owned (Line 0) (edges_of ring),
      length-append (owned_by (Line 0) (edges_of ring)) [],
      length-append (edges_of_lines 0 (ring ∷ [])) [],
    )
  where
    figure : Figure
    figure = record { points = []; lines = ring ∷ []; areas = [] }

    line : IsLineShaped ring
    line = let long = shaped.long in record { within = shaped.within; long = omega (arith, long) }

    well : IsWellShaped figure
    well = record {
      points = All-nil IsInLimit;
      lines = All-cons IsLineShaped ring [] line (All-nil IsLineShaped);
      areas = All-nil IsAreaShaped;
      few = omega (arith, few, sum_by-cons length ring []);
    }

-- and so is that of the area alone
pub few_area_edges : (area : Area) → IsAreaShaped area → positions_of_area area ≤ 1048576 → length (edges_in area) ≤ 1048576
few_area_edges area shaped few =
    omega (
      arith,
      few_edges figure well,
      count_rings 0 (rings_of area),
      length-append (edges_of_area_rings 0 0 (rings_of area)) [],
    )
  where
    figure : Figure
    figure = record { points = []; lines = []; areas = area ∷ [] }

    well : IsWellShaped figure
    well = record {
      points = All-nil IsInLimit;
      lines = All-nil IsLineShaped;
      areas = All-cons IsAreaShaped area [] shaped (All-nil IsAreaShaped);
      few = omega (arith, few, sum_by-cons positions_of_area area []);
    }

    count_rings : (first : ℕ) (rings : List (List Pt)) → length (edges_of_area_rings 0 first rings) ≡ length (edges_of_rings rings)
    count_rings first [] = refl
    count_rings first (ring ∷ rings) =
        omega (
          arith,
          length-append (owned_by (Ring 0 first) (edges_of ring)) (edges_of_area_rings 0 (first + 1) rings),
          count_owned (Ring 0 first) (edges_of ring),
          length-append (edges_of ring) (edges_of_rings rings),
          count_rings (first + 1) rings,
        )
