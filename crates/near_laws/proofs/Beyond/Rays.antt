-- At each point the rays along which edges of a figure's areas run; each direction is along such an edge or lies in a sector between them.
use Rattle.std.proofs.Common.{◌≡◌, ◌⊎◌, inl, inr, ℕ, Bool, true, false, List, [], ap, refl, sym, ◌∙◌, arith}
use Rattle.std.proofs.lemmas.Bool.{true≢false}
use Rattle.std.proofs.lemmas.List.Elements.{All-nil}
use Rattle.plane_laws.specs.Plane.{Point, IsOnSegment}
use Rattle.plane_laws.specs.Directions.{Direction}
use Rattle.plane_laws.specs.Along.{HoldsAlong, IsInCone}
use Rattle.plane_exact.specs.Orders.{direction_of}
use Rattle.plane_exact.specs.Places.{point_of, IsInLimit}
use Rattle.plane_exact.specs.declared.dir.Dir.{Dir}
use Rattle.plane_exact.specs.declared.point.Seg.{Seg}
use Rattle.point_set.specs.declared.edge.Owner.TheVariants.{Ring}
use Rattle.point_set.specs.declared.figure.Area.{Area}
use Rattle.point_set.specs.declared.figure.Figure.{Figure}
use Rattle.point_set.specs.Edges.{edges_of_figure}
use Rattle.point_set.specs.Location.{areas_alone, edges_of_rings, rings_of}
use Rattle.point_set.specs.Nodes.{RunsFrom, rings_of_areas, segs_of, segs_of_both}
use Rattle.point_set.specs.Rings.{is_on_edge, is_on_edges}
use Rattle.point_set.specs.Sectors.{AreRaysAt}
use Rattle.point_set.specs.Shape.{IsLineShaped, IsWellShaped}
use Rattle.point_set.specs.Validity.{IsAtPlace, IsValid, SomeArea, SomeEarlier, too_few_points, ring_cross, rings_share_edge, hole_outside}
use Rattle.point_set.specs.Validity.{holes_overlap, disconnected, elements_share_edge, elements_overlap}
use Rattle.plane_laws.proofs.Segments.Mixes.{start_on_segment, end_on_segment}
use Rattle.figure_laws.proofs.Edges.Lists.{none_joined, segs_are}
use Rattle.figure_laws.proofs.Edges.Owners.{area_edge}
use Rattle.figure_laws.proofs.Lists.Items.{place_left}
use Rattle.figure_laws.proofs.Valid.Alone.{alone_shaped, alone_valid}
use Rattle.figure_laws.proofs.Valid.Pairs.{are_valid}
use Rattle.ring_laws.proofs.Germs.Areas.{edge_along}
use Rattle.ring_laws.proofs.Germs.Edges.{Decides-is_toward}
use Rattle.germ_laws.proofs.Rays.Ways.{place_of_seg}
use Rattle.kind_laws.proofs.Cover.Inside.{on_some_edge}
use Rattle.cell_laws.proofs.Directions.Exist.{HasDirections, HasSector, directions_exist, run_at, sector_of_direction}

-- ---- along an edge
-- where an edge runs along a direction, points along it are on the edges
run_along : (v : Point) (edges : List Seg) (d : Direction) → RunsFrom v edges d → HoldsAlong (λ p. is_on_edges p edges ≡ true) v d
run_along v edges d run = by run.leads
  where
    to_end : (a : Point) → IsOnSegment (point_of run.edge.a) (point_of run.edge.b) a → IsInCone v d d a
        → HoldsAlong (λ p. is_on_edges p edges ≡ true) v d
    to_end a on c =
        let held = edge_along v d run.edge run.holds a on ((Decides-is_toward v d a).1 c) in
        record {
          from = held.from;
          holds = λ n far p away. on_some_edge edges run.place run.edge p run.edge_is (held.holds n far p away);
        }

    by :
        IsInCone v d d (point_of run.edge.a) ⊎ IsInCone v d d (point_of run.edge.b)
        → HoldsAlong (λ p. is_on_edges p edges ≡ true) v d
    by (inl c) = to_end (point_of run.edge.a) (start_on_segment (point_of run.edge.a) (point_of run.edge.b)) c
    by (inr c) = to_end (point_of run.edge.b) (end_on_segment (point_of run.edge.a) (point_of run.edge.b)) c

-- ---- the rays
-- points along a direction are on edges of the areas
abbrev pub IsAlongAreas : Figure → Point → Direction → Type 0
IsAlongAreas f v d = HoldsAlong (λ p. is_on_edges p (edges_of_rings (rings_of_areas f.areas)) ≡ true) v d

-- the rays of the areas' edges at a point
pub record HasAreaDirections (f : Figure) (v : Point) : Type 0 where
  pub rays : List Dir
  pub at : (k : ℕ) (area : Area) → IsAtPlace f.areas k area → AreRaysAt v (edges_of_rings (rings_of area)) rays
  pub runs : (i : ℕ) (ray : Dir) → IsAtPlace rays i ray → IsAlongAreas f v (direction_of ray)
  pub sector : (d : Direction) → IsAlongAreas f v d ⊎ HasSector rays d

-- the edge directions of the areas alone
pub area_directions : (f : Figure) → IsWellShaped f → IsValid f → (v : Point) → HasAreaDirections f v
area_directions f shaped valid v = record {
  rays = found.rays;
  at = λ k area is. record {
    ascending = found.are.rays_at.ascending;
    whole = λ place e e_is on t toward.
        let o = area_edge alone k area is place e e_is in
        found.are.rays_at.whole o.place e
        (place_left (segs_of alone) (segs_of alone) o.place e
        (place_of_seg (edges_of_figure alone) o.place (record { seg = e; owner = Ring k o.ring }) o.is))
        on t toward;
  };
  runs = λ i ray is. along (direction_of ray) (run_at v (segs_of_both alone alone) found.rays found.are i ray is);
  sector = λ d. by d (sector_of_direction v (segs_of_both alone alone) found.rays found.are d);
}
  where
    alone : Figure
    alone = areas_alone f

    found : HasDirections alone alone v
    found =
        let alone_is = alone_shaped f shaped in
        let stays = alone_valid f valid in
        directions_exist alone alone (are_valid alone_is stays alone_is stays) v

    on_areas :
        (p : Point) → is_on_edges p (segs_of_both alone alone) ≡ true → is_on_edges p (edges_of_rings (rings_of_areas f.areas)) ≡ true
    on_areas p on = by_test (is_on_edges p (edges_of_rings (rings_of_areas f.areas))) refl
      where
        by_test :
            (b : Bool) → is_on_edges p (edges_of_rings (rings_of_areas f.areas)) ≡ b
            → is_on_edges p (edges_of_rings (rings_of_areas f.areas)) ≡ true
        by_test true h = h
        by_test false h =
            let off : is_on_edges p (segs_of alone) ≡ false = ap (is_on_edges p) (segs_are alone) ∙ h in
            absurd (true≢false (sym on ∙ none_joined (is_on_edge p) (segs_of alone) (segs_of alone) off off))

    along : (d : Direction) → RunsFrom v (segs_of_both alone alone) d → IsAlongAreas f v d
    along d run =
        let held = run_along v (segs_of_both alone alone) d run in
        record { from = held.from; holds = λ n far p away. on_areas p (held.holds n far p away) }

    by : (d : Direction) → RunsFrom v (segs_of_both alone alone) d ⊎ HasSector found.rays d → IsAlongAreas f v d ⊎ HasSector found.rays d
    by d (inl run) = inl (along d run)
    by d (inr s) = inr s
