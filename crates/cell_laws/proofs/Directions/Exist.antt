-- At each point the edge directions of two figures are some list, and each direction is one of them or lies in a sector.
use Rattle.std.proofs.Common.{◌≡◌, ◌⊎◌, inl, inr, ℕ, zero, suc, ◌<◌, Bool, true, false, List, []}
use Rattle.std.proofs.Common.{◌∷◌, refl, sym, ◌∙◌, subst}
use Rattle.std.specs.List.{All, AllByRecursion}
use Rattle.std.proofs.lemmas.Bool.{true≢false, false_from_ne_true}
use Rattle.std.proofs.lemmas.List.Elements.{All-head, All-tail, All-append, All-map, All-weaker, All-from_recursion}
use Rattle.plane_laws.specs.Plane.{Point, IsSamePoint}
use Rattle.plane_laws.specs.Directions.{Direction, PointSameWay}
use Rattle.plane_laws.specs.Along.{IsInCone}
use Rattle.plane_exact.specs.Orders.{direction_of}
use Rattle.plane_exact.specs.Places.{point_of}
use Rattle.plane_exact.specs.declared.dir.Dir.{Dir}
use Rattle.plane_exact.specs.declared.point.Seg.{Seg}
use Rattle.point_set.specs.declared.figure.Figure.{Figure}
use Rattle.point_set.specs.Edges.{OwnedEdge, edges_of_figure}
use Rattle.point_set.specs.Nodes.{segs_of, segs_of_both, RunsFrom, AreEdgeDirections}
use Rattle.point_set.specs.Rings.{is_on_edge, is_same_position}
use Rattle.point_set.specs.Sectors.{IsInSector, IsLowest, sectors_of}
use Rattle.point_set.specs.Shape.{IsWellShaped}
use Rattle.point_set.specs.Validity.{IsAtPlace, IsOnEdge}
use Rattle.point_set.specs.Visible.{AreValid}
use Rattle.plane_laws.proofs.Directions.Angles.{joined_ways}
use Rattle.plane_laws.proofs.Points.Same.{same_sym}
use Rattle.plane_laws.proofs.Segments.Mixes.{segment_flip}
use Rattle.figure_laws.proofs.Edges.Limits.{IsOwnedProper, proper_figure}
use Rattle.figure_laws.proofs.Lists.Places.{some_same, same_position, all_at}
use Rattle.ring_laws.proofs.Germs.Edges.{on_true}
use Rattle.germ_laws.proofs.Rays.Around.{Around, on_ray, in_sector, around}
use Rattle.germ_laws.proofs.Rays.Ways.{HasRay, one_way, ray_of_any, way_cone}
use Rattle.germ_laws.proofs.Room.Starry.{not_here}
use Rattle.germ_laws.proofs.Room.Ways.{cone_way}
use Rattle.kind_laws.proofs.Location.EdgeRays.{IsFit, swapped, swapped_fit, way_of}
use Rattle.kind_laws.proofs.Location.RayLists.{HasWay, IsRayIn, AreAscending, HasInserted, inserted, ascending_pairs, some_way}
use Rattle.meeting_laws.proofs.Ways.OneLine.{same_or_not}
use Rattle.cell_laws.proofs.Directions.Lowest.{HasLowest, lowest_of}

-- ---- rays for the directions that are wanted
-- rays in order and in lowest terms: one for each direction that is wanted, and no others
pub record AreRaysFor (Wanted : Direction → Type 0) (rays : List Dir) : Type 0 where
  pub ascending : AreAscending rays
  pub whole : (t : Direction) → Wanted t → HasWay t rays
  pub only : (x : Dir) → IsRayIn x rays → Wanted (direction_of x)
  pub lowest : (x : Dir) → IsRayIn x rays → IsLowest x

-- some rays are these
pub record HasRaysFor (Wanted : Direction → Type 0) : Type 0 where
  pub rays : List Dir
  pub are : AreRaysFor Wanted rays

-- where nothing is wanted, there are none
no_rays : (Wanted : Direction → Type 0) → ((t : Direction) → ¬ Wanted t) → HasRaysFor Wanted
no_rays Wanted none = record {
  rays = [];
  are = record { ascending = tt; whole = λ t h. none t h; only = λ x k. absurd k; lowest = λ x k. absurd k };
}

-- the same directions have the same rays
alike_rays :
    (Wanted More : Direction → Type 0) → ((t : Direction) → Wanted t → More t) → ((t : Direction) → More t → Wanted t)
    → HasRaysFor Wanted → HasRaysFor More
alike_rays Wanted More more back h = record {
  rays = h.rays;
  are = record {
    ascending = h.are.ascending;
    whole = λ t k. h.are.whole t (back t k);
    only = λ x k. more (direction_of x) (h.are.only x k);
    lowest = h.are.lowest;
  };
}

-- where one more way is wanted, there is one more ray
more_rays :
    (Wanted More : Direction → Type 0) (d : Dir) → ((t : Direction) → Wanted t → More t)
    → ((t : Direction) → PointSameWay (direction_of d) t → More t)
    → ((t : Direction) → More t → Wanted t ⊎ PointSameWay t (direction_of d)) → HasRaysFor Wanted → HasRaysFor More
more_rays Wanted More d more added back h = record {
  rays = put.list;
  are = record {
    ascending = put.ascending;
    whole = λ t k. by_kind t (back t k);
    only = λ x k. wanted x (put.only x k);
    lowest = λ x k. low x (put.only x k);
  };
}
  where
    new : HasLowest d
    new = lowest_of d

    put : HasInserted new.ray h.rays
    put = inserted new.ray h.rays h.are.ascending

    by_kind : (t : Direction) → Wanted t ⊎ PointSameWay t (direction_of d) → HasWay t put.list
    by_kind t (inl k) = put.keeps t (h.are.whole t k)
    by_kind t (inr q) = put.has t (joined_ways q new.same)

    wanted : (x : Dir) → (x ≡ new.ray) ⊎ IsRayIn x h.rays → More (direction_of x)
    wanted x (inl e) = subst (λ (z : Dir). More (direction_of z)) (sym e) (added (direction_of new.ray) new.same)
    wanted x (inr k) = more (direction_of x) (h.are.only x k)

    low : (x : Dir) → (x ≡ new.ray) ⊎ IsRayIn x h.rays → IsLowest x
    low x (inl e) = subst (λ (z : Dir). IsLowest z) (sym e) new.lowest
    low x (inr k) = h.are.lowest x k

-- ---- one end of an edge
-- v is on an edge: the direction from v to its second end is wanted too, where there is one
module _ (v : Point) (e : Seg) (fit : IsFit e) (on : IsOnEdge e v) (Wanted : Direction → Type 0) where
  -- what was wanted, and what leads to that end
  abbrev WithEnd : Direction → Type 0
  WithEnd t = Wanted t ⊎ IsInCone v t t (point_of e.b)

  -- v is the end
  end_here : IsSamePoint (point_of e.b) v → HasRaysFor Wanted → HasRaysFor WithEnd
  end_here same = alike_rays Wanted WithEnd (λ t k. inl k) back
    where
      back : (t : Direction) → WithEnd t → Wanted t
      back t (inl k) = k
      back t (inr c) = absurd (not_here c (same_sym same))

  -- from elsewhere the end lies the way of the edge
  ahead : ¬ IsSamePoint (point_of e.b) v → IsInCone v (direction_of (way_of e fit)) (direction_of (way_of e fit)) (point_of e.b)
  unfolding way_of
  ahead apart = way_cone e.a e.b v on apart (direction_of (way_of e fit)) refl refl

  -- v isn't the end
  end_apart : ¬ IsSamePoint (point_of e.b) v → HasRaysFor Wanted → HasRaysFor WithEnd
  end_apart apart = more_rays Wanted WithEnd (way_of e fit) (λ t k. inl k) (λ t w. inr (cone_way w (ahead apart))) back
    where
      back : (t : Direction) → WithEnd t → Wanted t ⊎ PointSameWay t (direction_of (way_of e fit))
      back t (inl k) = inl k
      back t (inr c) = inr (one_way v t (direction_of (way_of e fit)) (point_of e.b) c (ahead apart))

  -- either way
  end_rays : HasRaysFor Wanted → HasRaysFor WithEnd
  end_rays h = by_point (same_or_not (point_of e.b) v)
    where
      by_point : IsSamePoint (point_of e.b) v ⊎ (¬ IsSamePoint (point_of e.b) v) → HasRaysFor WithEnd
      by_point (inl same) = end_here same h
      by_point (inr apart) = end_apart apart h

-- ---- edge by edge
-- an edge of the rest is one of the whole
later_run : {v : Point} {e : Seg} {edges : List Seg} {t : Direction} → RunsFrom v edges t → RunsFrom v (e ∷ edges) t
later_run r = record { place = suc r.place; edge = r.edge; edge_is = r.edge_is; holds = r.holds; leads = r.leads }

-- an edge runs from v along t
abbrev RunsAlong : Point → Direction → Seg → Type 0
RunsAlong v t e = (is_on_edge v e ≡ true) × (IsInCone v t t (point_of e.a) ⊎ IsInCone v t t (point_of e.b))

-- from v the first edge runs along t, or one of the rest does
first_run : (v : Point) (e : Seg) (edges : List Seg) (t : Direction) → RunsFrom v (e ∷ edges) t → RunsFrom v edges t ⊎ RunsAlong v t e
first_run v e edges t r = go r.place r.edge r.edge_is r.holds r.leads
  where
    go :
        (place : ℕ) (f : Seg) → IsAtPlace (e ∷ edges) place f → is_on_edge v f ≡ true
        → IsInCone v t t (point_of f.a) ⊎ IsInCone v t t (point_of f.b) → RunsFrom v edges t ⊎ RunsAlong v t e
    go zero f is on c = inr (subst (RunsAlong v t) (sym (some_same is)) (on, c))
    go (suc place) f is on c = inl (record { place = place; edge = f; edge_is = is; holds = on; leads = c })

-- the rays of the rest, and those of the first edge
edge_rays : (v : Point) (e : Seg) (edges : List Seg) → IsFit e → HasRaysFor (RunsFrom v edges) → HasRaysFor (RunsFrom v (e ∷ edges))
unfolding swapped
edge_rays v e edges fit h = by_test (is_on_edge v e) refl
  where
    by_test : (b : Bool) → is_on_edge v e ≡ b → HasRaysFor (RunsFrom v (e ∷ edges))
    by_test false off =
        alike_rays (RunsFrom v edges) (RunsFrom v (e ∷ edges)) (λ t k. later_run k) (λ t k. back t (first_run v e edges t k)) h
      where
        back : (t : Direction) → RunsFrom v edges t ⊎ RunsAlong v t e → RunsFrom v edges t
        back t (inl k) = k
        back t (inr k) = absurd (true≢false (sym k.0 ∙ off))
    by_test true on =
        alike_rays Both (RunsFrom v (e ∷ edges)) more (λ t k. back t (first_run v e edges t k))
        (end_rays v e fit here First
        (end_rays v (swapped e) (swapped_fit e fit) (segment_flip here) (RunsFrom v edges) h))
      where
        here : IsOnEdge e v
        here = on_true on

        First : Direction → Type 0
        First t = RunsFrom v edges t ⊎ IsInCone v t t (point_of e.a)

        Both : Direction → Type 0
        Both t = First t ⊎ IsInCone v t t (point_of e.b)

        more : (t : Direction) → Both t → RunsFrom v (e ∷ edges) t
        more t (inl (inl k)) = later_run k
        more t (inl (inr c)) = record { place = 0; edge = e; edge_is = refl; holds = on; leads = inl c }
        more t (inr c) = record { place = 0; edge = e; edge_is = refl; holds = on; leads = inr c }

        back : (t : Direction) → RunsFrom v edges t ⊎ RunsAlong v t e → Both t
        back t (inl k) = inl (inl k)
        back t (inr (_, inl c)) = inl (inr c)
        back t (inr (_, inr c)) = inr c

-- the rays of a list of edges
rays_at : (v : Point) (edges : List Seg) → All IsFit edges → HasRaysFor (RunsFrom v edges)
rays_at v [] fit = no_rays (RunsFrom v []) (λ t r. let is = r.edge_is in cc)
rays_at v (e ∷ edges) fit = edge_rays v e edges (All-head IsFit e edges fit) (rays_at v edges (All-tail IsFit e edges fit))

-- ---- the edge directions
-- what holds of each ray of a list
each_ray : (P : Dir → Type 0) (rays : List Dir) → ((x : Dir) → IsRayIn x rays → P x) → AllByRecursion P rays
each_ray P [] h = tt
each_ray P (ray ∷ rays) h = (h ray (inl refl), each_ray P rays (λ x k. h x (inr k)))

-- rays for all directions in which an edge runs are the edge directions
are_directions : (v : Point) (edges : List Seg) (rays : List Dir) → AreRaysFor (RunsFrom v edges) rays → AreEdgeDirections v edges rays
are_directions v edges rays are = record {
  rays_at = record {
    ascending = ascending_pairs rays are.ascending;
    whole = λ place f is on t c.
        some_way t rays (are.whole t (record { place = place; edge = f; edge_is = is; holds = on; leads = c }));
  };
  only =
      All-from_recursion (λ ray. RunsFrom v edges (direction_of ray)) rays
      (each_ray (λ ray. RunsFrom v edges (direction_of ray)) rays are.only);
  lowest = All-from_recursion IsLowest rays (each_ray IsLowest rays are.lowest);
}

-- the ends of each edge of a figure are within the limit, and differ
fit_segs : (f : Figure) → IsWellShaped f → All IsFit (segs_of f)
fit_segs f shaped =
    All-map IsFit (λ edge. edge.seg) (edges_of_figure f)
    (All-weaker IsOwnedProper (λ edge. IsFit edge.seg) fit (edges_of_figure f) (proper_figure f shaped))
  where
    fit : (edge : OwnedEdge) → IsOwnedProper edge → IsFit edge.seg
    fit edge proper = record {
      first = proper.first;
      second = proper.second;
      apart =
          false_from_ne_true (is_same_position edge.seg.a edge.seg.b)
          (λ h. proper.apart (same_position edge.seg.a edge.seg.b h));
    }

-- the edge directions of two figures at a point
pub record HasDirections (a b : Figure) (v : Point) : Type 0 where
  pub rays : List Dir
  pub are : AreEdgeDirections v (segs_of_both a b) rays

-- they are some list
pub directions_exist : (a b : Figure) → AreValid a b → (v : Point) → HasDirections a b v
directions_exist a b valid v =
    let h = rays_at v (segs_of_both a b)
    (All-append IsFit (segs_of a) (segs_of b) (fit_segs a valid.a_shaped) (fit_segs b valid.b_shaped)) in
    record { rays = h.rays; are = are_directions v (segs_of_both a b) h.rays h.are }

-- ---- each direction
-- an edge runs along each way of an edge direction
run_turned : (v : Point) (edges : List Seg) (t d : Direction) → PointSameWay t d → RunsFrom v edges t → RunsFrom v edges d
run_turned v edges t d q r = record { place = r.place; edge = r.edge; edge_is = r.edge_is; holds = r.holds; leads = turned r.leads }
  where
    turned :
        IsInCone v t t (point_of r.edge.a) ⊎ IsInCone v t t (point_of r.edge.b)
        → IsInCone v d d (point_of r.edge.a) ⊎ IsInCone v d d (point_of r.edge.b)
    turned (inl c) = inl (cone_way q c)
    turned (inr c) = inr (cone_way q c)

-- an edge runs along the edge direction at a place
pub run_at :
    (v : Point) (edges : List Seg) (rays : List Dir) → AreEdgeDirections v edges rays → (i : ℕ) (ray : Dir) → IsAtPlace rays i ray
    → RunsFrom v edges (direction_of ray)
run_at v edges rays are i ray is = all_at (λ r. RunsFrom v edges (direction_of r)) rays i ray are.only is

-- where an edge runs there is an edge direction
pub ray_at_run :
    (v : Point) (edges : List Seg) (rays : List Dir) → AreEdgeDirections v edges rays → (d : Direction) → RunsFrom v edges d
    → HasRay rays d
ray_at_run v edges rays are d run = ray_of_any rays d (are.rays_at.whole run.place run.edge run.edge_is run.holds d run.leads)

-- a direction lies strictly within one of the sectors
pub record HasSector (rays : List Dir) (d : Direction) : Type 0 where
  pub i : ℕ
  pub below : i < sectors_of rays
  pub within : IsInSector rays i d

-- each direction is one of an edge, or lies in a sector
pub sector_of_direction :
    (v : Point) (edges : List Seg) (rays : List Dir) → AreEdgeDirections v edges rays → (d : Direction)
    → RunsFrom v edges d ⊎ HasSector rays d
sector_of_direction v edges rays are d = by_case (around rays are.rays_at.ascending d)
  where
    by_case : Around rays d → RunsFrom v edges d ⊎ HasSector rays d
    by_case (on_ray i ray is q) = inl (run_turned v edges (direction_of ray) d q (run_at v edges rays are i ray is))
    by_case (in_sector i below is) = inr (record { i = i; below = below; within = is })
