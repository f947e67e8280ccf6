-- The rays of all sections of two figures at a point are the edge directions of both figures there.
use Rattle.std.proofs.Common.{◌≡◌, ◌⊎◌, inl, inr, Bool, true, false, List, refl}
use Rattle.std.specs.List.{Any, Contains}
use Rattle.std.proofs.lemmas.List.Elements.{All-contains, All-weaker}
use Rattle.im_matrix.specs.declared.Which.{Which}
use Rattle.im_matrix.specs.declared.Which.TheVariants.{A, B}
use Rattle.plane_laws.proofs.Segments.On.{Decides-is_on_segment}
use Rattle.plane_laws.specs.Along.{IsInCone}
use Rattle.plane_laws.specs.Directions.{Direction, PointSameWay}
use Rattle.plane_laws.specs.Plane.{Point}
use Rattle.plane_exact.specs.Orders.{direction_of}
use Rattle.plane_exact.specs.Places.{point_of}
use Rattle.plane_exact.specs.declared.dir.Dir.{Dir}
use Rattle.plane_exact.specs.declared.point.Seg.{Seg}
use Rattle.point_set.specs.declared.figure.Figure.{Figure}
use Rattle.point_set.specs.Edges.{edges_of_figure, far_end}
use Rattle.point_set.specs.Nodes.{segs_of, segs_of_both, RunsFrom, AreEdgeDirections}
use Rattle.point_set.specs.Rings.{is_on_edge}
use Rattle.point_set.specs.Sectors.{AreRaysAt, IsLowest}
use Rattle.figure_laws.proofs.Lists.Items.{each_both, some_left, some_right}
use Rattle.figure_laws.proofs.Lists.Least.{SomeItem}
use Rattle.germ_laws.proofs.Rays.Ways.{place_of_seg}
use Rattle.germ_laws.proofs.Room.Ways.{cone_way}
use Rattle.fan_order.specs.declared.section.Section.{Section}
use Rattle.fan_order.specs.Rays.{AreRaysOf, IsRayOf}
use Rattle.fan_order.specs.Sections.{IsSectionAt, AreSectionsAt}
use Rattle.fan_laws.proofs.Fans.Rays.{section_cone, rays_of_sections}

-- an edge holds v and runs from it in a direction
record IsRunning (v : Point) (d : Direction) (e : Seg) : Type 0 where
  holds : is_on_edge v e ≡ true
  leads : IsInCone v d d (point_of e.a) ⊎ IsInCone v d d (point_of e.b)

-- one of a list does
run_from : (v : Point) (d : Direction) (edges : List Seg) → SomeItem (IsRunning v d) edges → RunsFrom v edges d
run_from v d edges h = record {
  place = h.place;
  edge = h.item;
  edge_is = h.item_is;
  holds = h.is_so.holds;
  leads = h.is_so.leads;
}

-- the edge of a section runs in each direction that points the section's way
running : (which : Which) (f : Figure) (v : Point) (s : Section) → IsSectionAt which f v s → (ray : Dir)
    → PointSameWay (direction_of s.dir) (direction_of ray) → SomeItem (IsRunning v (direction_of ray)) (segs_of f)
running which f v s x ray same = record {
  place = x.place;
  item = x.edge.seg;
  item_is = place_of_seg (edges_of_figure f) x.place x.edge x.edge_is;
  is_so = record {
    holds = (Decides-is_on_segment (point_of x.edge.seg.a) (point_of x.edge.seg.b) v).1 x.on;
    leads = by_end x.forward (cone_way same (section_cone which f x.edge v x.on x.forward x.away s x.toward));
  };
}
  where
    by_end : (forward : Bool) → IsInCone v (direction_of ray) (direction_of ray) (point_of (far_end forward x.edge.seg))
        → IsInCone v (direction_of ray) (direction_of ray) (point_of x.edge.seg.a)
        ⊎ IsInCone v (direction_of ray) (direction_of ray) (point_of x.edge.seg.b)
    by_end true c = inr c
    by_end false c = inl c

module _ (a b : Figure) (v : Point) (sections : List Section) (rays : List Dir) (of_a : AreSectionsAt A a v sections)
    (of_b : AreSectionsAt B b v sections) (are : AreRaysOf sections rays) where
  -- each edge of either figure that v is on runs along one of the rays
  rays_at : AreRaysAt v (segs_of_both a b) rays
  rays_at = record {
    ascending = are.ascending;
    whole =
        each_both
        (λ e. is_on_edge v e ≡ true → (t : Direction) → IsInCone v t t (point_of e.a) ⊎ IsInCone v t t (point_of e.b)
        → Any (λ ray. PointSameWay t (direction_of ray)) rays)
        (segs_of a) (segs_of b) (rays_of_sections A a v sections rays of_a are).whole (rays_of_sections B b v sections rays of_b are).whole;
  }

  -- and along each ray an edge runs: that of its section
  runs : (ray : Dir) → Any (λ s. IsRayOf s.dir ray) sections → RunsFrom v (segs_of_both a b) (direction_of ray)
  runs ray h = by_which s.which refl
    where
      s : Section
      s = h.1

      there : Contains sections s
      there = (h.0, h.2, h.3)

      by_which : (which : Which) → s.which ≡ which → RunsFrom v (segs_of_both a b) (direction_of ray)
      by_which A e =
          run_from v (direction_of ray) (segs_of_both a b) (some_left (IsRunning v (direction_of ray)) (segs_of a) (segs_of b)
          (running A a v s (All-contains (λ s. s.which ≡ A → IsSectionAt A a v s) sections s of_a.only there e) ray h.4.same))
      by_which B e =
          run_from v (direction_of ray) (segs_of_both a b) (some_right (IsRunning v (direction_of ray)) (segs_of a) (segs_of b)
          (running B b v s (All-contains (λ s. s.which ≡ B → IsSectionAt B b v s) sections s of_b.only there e) ray h.4.same))

  -- so these are the edge directions
  pub edge_directions : AreEdgeDirections v (segs_of_both a b) rays
  edge_directions = record {
    rays_at = rays_at;
    only =
        All-weaker (λ ray. Any (λ s. IsRayOf s.dir ray) sections) (λ ray. RunsFrom v (segs_of_both a b) (direction_of ray)) runs rays
        are.only;
    lowest = All-weaker (λ ray. Any (λ s. IsRayOf s.dir ray) sections) IsLowest (λ ray h. h.4.lowest) rays are.only;
  }
