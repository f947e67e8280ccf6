-- From sections to rays: the rays of all sections of a figure at a point are those of all its edges there, so each area's edges keep
-- out of the sectors.
use Rattle.std.proofs.Common.{◌≡◌, ◌⊎◌, inl, inr, ℕ, ◌+◌, ◌%◌, Bool, true, false}
use Rattle.std.proofs.Common.{Some, List, length, ap, refl, sym, ◌∙◌, subst}
use Rattle.std.specs.List.{Any, Contains}
use Rattle.std.proofs.lemmas.Option.{slice_get_read}
use Rattle.std.proofs.lemmas.List.Elements.{All-contains}
use Rattle.im_matrix.specs.declared.Which.{Which}
use Rattle.plane_laws.proofs.Segments.Mixes.{segment_flip}
use Rattle.plane_laws.proofs.Points.Same.{same_sym}
use Rattle.plane_laws.specs.Plane.{Point, IsSamePoint}
use Rattle.plane_exact.specs.Places.{point_of}
use Rattle.plane_laws.specs.Directions.{Direction, PointSameWay}
use Rattle.plane_exact.specs.Orders.{direction_of}
use Rattle.plane_exact.specs.declared.dir.Dir.{Dir}
use Rattle.plane_exact.specs.declared.point.Seg.{Seg}
use Rattle.point_set.specs.declared.edge.Owner.{Owner}
use Rattle.point_set.specs.declared.edge.Owner.TheVariants.{Line, Ring}
use Rattle.point_set.specs.declared.figure.Area.{Area}
use Rattle.point_set.specs.declared.figure.Figure.{Figure}
use Rattle.point_set.specs.Edges.{OwnedEdge, edges_of_figure, HasHand, IsAreaHand, far_end, hand_of_way, area_of}
use Rattle.plane_laws.specs.Along.{IsInCone}
use Rattle.point_set.specs.Location.{edges_of_rings, rings_of}
use Rattle.point_set.specs.Rings.{is_on_edge}
use Rattle.point_set.specs.Sectors.{AreRaysAt, HasNoEdgeWithin}
use Rattle.point_set.specs.Validity.{IsAtPlace, IsOnEdge}
use Rattle.ring_laws.proofs.Germs.Edges.{on_true}
use Rattle.figure_laws.proofs.Lists.Places.{some_same}
use Rattle.germ_laws.proofs.Sectors.Rays.{none_within}
use Rattle.fan_order.specs.declared.section.Section.{Section}
use Rattle.fan_order.specs.Rays.{AreRaysOf, IsRayOf}
use Rattle.fan_order.specs.Sections.{IsSectionToward, IsSectionAt, AreSectionsAt, IsFanOf}
use Rattle.germ_laws.proofs.Room.Starry.{not_here}
use Rattle.figure_laws.proofs.Edges.Owners.{HasPlace, IsEdgeOf, IsRingEdge, edge_of_owner, ring_edge, area_edge}
use Rattle.germ_laws.proofs.Rays.Ways.{one_way, way_cone, HasRay, any_ray, segs, IsSegOf, seg_of, place_of_seg}

-- so for the end to which a section leads
pub section_cone : (which : Which) (f : Figure) (edge : OwnedEdge) (v : Point) → IsOnEdge edge.seg v → (forward : Bool)
    → ¬ IsSamePoint (point_of (far_end forward edge.seg)) v → (s : Section) → IsSectionToward which f edge forward s
    → IsInCone v (direction_of s.dir) (direction_of s.dir) (point_of (far_end forward edge.seg))
section_cone which f edge v on true away s toward = way_cone edge.seg.a edge.seg.b v on away (direction_of s.dir) toward.across toward.above
section_cone which f edge v on false away s toward =
    way_cone edge.seg.b edge.seg.a v (segment_flip on) away (direction_of s.dir) toward.across toward.above

-- each section has one
pub ray_of_section : (sections : List Section) (rays : List Dir) → AreRaysOf sections rays → (s : Section) → Contains sections s
    → HasRay rays (direction_of s.dir)
ray_of_section sections rays are s there =
    let a = All-contains (λ s. Any (IsRayOf s.dir) rays) sections s are.whole there in
    record { place = a.0; ray = a.1; is = slice_get_read rays (length rays) a.0 a.1 refl a.2 (sym a.3); same = a.4.same }

-- the rays of all sections at v are the rays of all edges there
pub rays_of_sections : (which : Which) (f : Figure) (v : Point) (sections : List Section) (rays : List Dir)
    → AreSectionsAt which f v sections → AreRaysOf sections rays → AreRaysAt v (segs (edges_of_figure f)) rays
rays_of_sections which f v sections rays are are_rays = record {
  ascending = are_rays.ascending;
  whole = λ place e is on t c. by_end (seg_of (edges_of_figure f) place e is) on t c;
}
  where
    toward : (place : ℕ) (edge : OwnedEdge) → IsAtPlace (edges_of_figure f) place edge → IsOnEdge edge.seg v → (forward : Bool)
        → (t : Direction) → IsInCone v t t (point_of (far_end forward edge.seg)) → Any (λ ray. PointSameWay t (direction_of ray)) rays
    toward place edge is on forward t c =
        let away : ¬ IsSamePoint (point_of (far_end forward edge.seg)) v = λ alike. not_here c (same_sym alike) in
        let a = are.whole place edge is on forward away in
        let k = section_cone which f edge v on forward away a.1 a.4 in
        any_ray rays t (direction_of a.1.dir) (one_way v t (direction_of a.1.dir) (point_of (far_end forward edge.seg)) c k)
        (ray_of_section sections rays are_rays a.1 (a.0, a.2, a.3))

    by_end : {place : ℕ} {e : Seg} → IsSegOf (edges_of_figure f) place e → is_on_edge v e ≡ true → (t : Direction)
        → IsInCone v t t (point_of e.a) ⊎ IsInCone v t t (point_of e.b) → Any (λ ray. PointSameWay t (direction_of ray)) rays
    by_end {place} {e} r on t (inl c) =
        toward place r.edge r.is (on_true {p = v} {f = r.edge.seg} (ap (is_on_edge v) r.same ∙ on)) false t
        (subst (λ (g : Seg). IsInCone v t t (point_of g.a)) (sym r.same) c)
    by_end {place} {e} r on t (inr c) =
        toward place r.edge r.is (on_true {p = v} {f = r.edge.seg} (ap (is_on_edge v) r.same ∙ on)) true t
        (subst (λ (g : Seg). IsInCone v t t (point_of g.b)) (sym r.same) c)

-- and so they are for the edges of each area
pub rays_of_part : (f : Figure) (v : Point) (rays : List Dir) → AreRaysAt v (segs (edges_of_figure f)) rays → (k : ℕ) (area : Area)
    → IsAtPlace f.areas k area → AreRaysAt v (edges_of_rings (rings_of area)) rays
rays_of_part f v rays are k area area_is = record {
  ascending = are.ascending;
  whole = λ place e is on t c.
      let r = area_edge f k area area_is place e is in
      are.whole r.place e (place_of_seg (edges_of_figure f) r.place (record { seg = e; owner = Ring k r.ring }) r.is) on t c;
}

-- ---- the edge of a section
pub record IsSectionOf (area : Area) (v : Point) (s : Section) : Type 0 where
  pub e : Seg
  pub place : ℕ
  pub is : IsAtPlace (edges_of_rings (rings_of area)) place e
  pub on : IsOnEdge e v
  pub forward : Bool
  pub cone : IsInCone v (direction_of s.dir) (direction_of s.dir) (point_of (far_end forward e))
  pub side : IsAreaHand area e (hand_of_way forward s.hand)

-- an owner with an area is a ring of it
pub record IsRing (owner : Owner) (k : ℕ) : Type 0 where
  pub ring : ℕ
  pub is : owner ≡ Ring k ring

-- since a line has none
pub ring_owner : (owner : Owner) (k : ℕ) → area_of owner ≡ Some k → IsRing owner k
ring_owner (Line place) k e = cc
ring_owner (Ring place ring) k e = record { ring = ring; is = ap (λ z. Ring z ring) (some_same e) }

-- a section of an area is one of an edge of that area, with the hand of its way
pub section_of_area : (which : Which) (f : Figure) (v : Point) (sections : List Section) → AreSectionsAt which f v sections → (k : ℕ)
    (area : Area) → IsAtPlace f.areas k area → (s : Section) → Contains sections s → s.which ≡ which → s.area ≡ Some k
    → IsSectionOf area v s
section_of_area which f v sections are k area area_is s there which_is s_area = record {
  e = x.edge.seg;
  place = here.place;
  is = here.is;
  on = x.on;
  forward = x.forward;
  cone = section_cone which f x.edge v x.on x.forward x.away s x.toward;
  side = subst (λ o. HasHand f o x.edge.seg (hand_of_way x.forward s.hand)) owner.is x.toward.side area area_is;
}
  where
    x : IsSectionAt which f v s
    x = All-contains (λ s. s.which ≡ which → IsSectionAt which f v s) sections s are.only there which_is

    owner : IsRing x.edge.owner k
    owner = ring_owner x.edge.owner k (sym x.toward.area_is ∙ s_area)

    of_ring : IsRingEdge f.areas k owner.ring x.edge.seg
    of_ring = subst (λ o. IsEdgeOf f o x.edge.seg) owner.is (edge_of_owner f x.edge (record { place = x.place; is = x.edge_is }))

    here : HasPlace (edges_of_rings (rings_of area)) x.edge.seg
    here =
        subst (λ (a : Area). HasPlace (edges_of_rings (rings_of a)) x.edge.seg) (some_same (sym of_ring.area_is ∙ area_is))
        (ring_edge (rings_of of_ring.area) owner.ring x.edge.seg of_ring.edge_is)

-- ---- a fan's sectors are free of each area's edges
module _ (which : Which) (f : Figure) (v : Point) (sections : List Section) (rays : List Dir) (fan : IsFanOf which f v sections rays) where
  -- the rays are those of all edges
  pub figure_rays : AreRaysAt v (segs (edges_of_figure f)) rays
  figure_rays = rays_of_sections which f v sections rays fan.are_sections fan.are_rays

  -- and of each area's edges
  pub area_rays : (k : ℕ) (area : Area) → IsAtPlace f.areas k area → AreRaysAt v (edges_of_rings (rings_of area)) rays
  area_rays k area is = rays_of_part f v rays figure_rays k area is

  -- so no edge of an area runs within a sector
  pub free_sector : (k : ℕ) (area : Area) → IsAtPlace f.areas k area → (i : ℕ) (r s : Dir) → IsAtPlace rays i r
      → IsAtPlace rays ((i + 1) % length rays) s → HasNoEdgeWithin area v (direction_of r) (direction_of s)
  free_sector k area is i r s r_is s_is = none_within area v rays (area_rays k area is) i r s r_is s_is
