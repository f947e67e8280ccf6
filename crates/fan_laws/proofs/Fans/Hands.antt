-- The hands of a fan's sections: which germs they give in the sectors beside their rays, that they are alike along one ray, and that an
-- area whose boundary holds the point has a section.
use Rattle.std.proofs.Common.{◌≡◌, ◌⊎◌, inl, inr, ℕ, suc, ◌+◌, ◌%◌, Bool, true, false, ◌||◌, Option, Some, None}
use Rattle.std.proofs.Common.{List, [], ◌∷◌, length, refl, sym, ◌∙◌, subst, arith}
use Rattle.std.specs.List.{Any, Contains, list_any}
use Rattle.std.proofs.lemmas.Bool.Decides.{not_from_Decides}
use Rattle.std.proofs.lemmas.Option.{slice_get_within}
use Rattle.std.proofs.lemmas.List.Elements.{All-contains}
use Rattle.std.proofs.Math.Nat.{mod-lt}
use Rattle.im_matrix.specs.declared.Loc.TheVariants.{Interior, Boundary, Exterior}
use Rattle.im_matrix.specs.declared.Which.{Which}
use Rattle.plane_laws.proofs.Directions.Angles.{joined_ways}
use Rattle.plane_laws.proofs.Points.Same.{same_sym, same_trans, Decides-is_same_point}
use Rattle.plane_laws.specs.Plane.{Point, IsSamePoint, is_same_point}
use Rattle.plane_exact.specs.Places.{point_of}
use Rattle.plane_laws.specs.Directions.{Direction}
use Rattle.plane_exact.specs.Orders.{direction_of, IsSameDirection}
use Rattle.plane_exact.specs.declared.dir.Dir.{Dir}
use Rattle.plane_exact.specs.declared.point.Seg.{Seg}
use Rattle.point_set.specs.declared.edge.Hand.{Hand}
use Rattle.point_set.specs.declared.edge.Hand.TheVariants as hand
use Rattle.point_set.specs.declared.edge.Owner.{Owner}
use Rattle.point_set.specs.declared.edge.Owner.TheVariants.{Line, Ring}
use Rattle.point_set.specs.declared.figure.Area.{Area}
use Rattle.point_set.specs.declared.figure.Figure.{Figure}
use Rattle.point_set.specs.Edges.{OwnedEdge, HasHand, far_end, hand_of_way, area_of}
use Rattle.point_set.specs.Germ.{IsGerm}
use Rattle.plane_laws.specs.Along.{IsInCone}
use Rattle.point_set.specs.Location.{location, location_by, edges_of_rings, rings_of}
use Rattle.point_set.specs.Rings.{is_on_edge, is_on_edges, is_inside}
use Rattle.point_set.specs.Shape.{IsAreaShaped}
use Rattle.point_set.specs.Validity.{IsAtPlace, IsOnEdge}
use Rattle.ring_laws.proofs.Germs.Areas.{germ_one}
use Rattle.ring_laws.proofs.Germs.Edges.{on_true}
use Rattle.germ_laws.proofs.Sectors.Rays.{turned_way}
use Rattle.side_laws.proofs.Areas.Hands.{area_shaped}
use Rattle.fan_order.specs.declared.section.Section.{Section}
use Rattle.fan_order.specs.Sections.{IsSectionToward, IsSectionAt, IsAreaAlong, AreHandsAlike, AreSided, IsFanOf}
use Rattle.germ_laws.proofs.Room.Starry.{not_here}
use Rattle.germ_laws.proofs.Rays.Places.{item_at}
use Rattle.germ_laws.proofs.Room.Ways.{cone_way}
use Rattle.germ_laws.proofs.Sectors.BesideRay.{IsBare}
use Rattle.kind_laws.proofs.Hands.InSector.{hand_in_sector, moving}
use Rattle.kind_laws.proofs.Hands.BeforeRay.{hand_before_ray}
use Rattle.figure_laws.proofs.Edges.Owners.{IsEdgeOf, IsRingEdge, edge_of_owner, IsOwnedBy, area_edge}
use Rattle.germ_laws.proofs.Rays.Ways.{one_way, HasRay}
use Rattle.fan_laws.proofs.Fans.Rays.{section_cone, ray_of_section, IsRing, ring_owner, IsSectionOf, section_of_area, free_sector}
use Rattle.figure_laws.proofs.Lists.Search.{HasSome}
use Rattle.germ_laws.proofs.Rays.Neighbours.{within_sector, IsBetween, within_from}

-- ---- hands of edges of lines and of areas
pub line_hand : (forward : Bool) (side : Hand) → side ≡ hand.Line → hand_of_way forward side ≡ hand.Line
line_hand true side e = e
line_hand false hand.Line e = refl
line_hand false hand.Left e = cc
line_hand false hand.Right e = cc

-- the way back: seen along its way a hand is Line only where it is Line
pub hand_line : (forward : Bool) (side : Hand) → hand_of_way forward side ≡ hand.Line → side ≡ hand.Line
hand_line true side e = e
hand_line false hand.Line e = refl
hand_line false hand.Left e = cc
hand_line false hand.Right e = cc

-- a section has an area or none
none_or_some : (a : Option ℕ) → (a ≡ None) ⊎ ((k : ℕ) × (a ≡ Some k))
none_or_some None = inl refl
none_or_some (Some k) = inr (k, refl)

-- without an area the owner is a line
line_owner : (f : Figure) (owner : Owner) (e : Seg) (side : Hand) → area_of owner ≡ None → HasHand f owner e side → side ≡ hand.Line
line_owner f (Line place) e side none h = h
line_owner f (Ring place ring) e side none h = cc

-- ---- an edge that holds a point, and an end of it that isn't the point
pub record HasEdge (edges : List Seg) (v : Point) : Type 0 where
  pub place : ℕ
  pub e : Seg
  pub is : IsAtPlace edges place e
  pub on : is_on_edge v e ≡ true

-- a point on the edges is on one of them
pub edge_that_holds : (edges : List Seg) (v : Point) → is_on_edges v edges ≡ true → HasEdge edges v
edge_that_holds [] v h = cc
edge_that_holds (e ∷ edges) v h = go (is_on_edge v e) refl h (edge_that_holds edges v)
  where
    go : (b : Bool) → is_on_edge v e ≡ b → (b || is_on_edges v edges) ≡ true → (is_on_edges v edges ≡ true → HasEdge edges v)
        → HasEdge (e ∷ edges) v
    go true on h rest = record { place = 0; e = e; is = refl; on = on }
    go false off h rest = let r = rest h in record { place = suc r.place; e = r.e; is = r.is; on = r.on }

-- the boundary of an area is its edges
on_edges_from : (area : Area) (v : Point) → location area v ≡ Boundary → is_on_edges v (edges_of_rings (rings_of area)) ≡ true
on_edges_from area v = go (is_on_edges v (edges_of_rings (rings_of area))) (is_inside v area.shell) (list_any (is_inside v) area.holes)
  where
    go : (b s h : Bool) → location_by b s h ≡ Boundary → b ≡ true
    go true s h e = refl
    go false true true e = cc
    go false true false e = cc
    go false false h e = cc

-- an end that isn't v
pub record HasAway (e : Seg) (v : Point) : Type 0 where
  pub forward : Bool
  pub away : ¬ IsSamePoint (point_of (far_end forward e)) v

-- of an edge that moves one end isn't v
pub away_end : (e : Seg) (v : Point) → ¬ IsSamePoint (point_of e.a) (point_of e.b) → HasAway e v
away_end e v moves = go (is_same_point (point_of e.b) v) refl
  where
    go : (b : Bool) → is_same_point (point_of e.b) v ≡ b → HasAway e v
    go true h = record {
      forward = false;
      away = λ k. moves (same_trans k (same_sym ((Decides-is_same_point (point_of e.b) v).0 h)));
    }
    go false h = record {
      forward = true;
      away = not_from_Decides (is_same_point (point_of e.b) v) (Decides-is_same_point (point_of e.b) v) h;
    }

module _ (which : Which) (f : Figure) (v : Point) (sections : List Section) (rays : List Dir) (fan : IsFanOf which f v sections rays) where
  -- a section of the figure is one at v
  pub at_point : (s : Section) → Contains sections s → s.which ≡ which → IsSectionAt which f v s
  at_point s there which_is = All-contains (λ s. s.which ≡ which → IsSectionAt which f v s) sections s fan.are_sections.only there which_is

  -- the area of a section
  pub record HasArea (k : ℕ) : Type 0 where
    pub area : Area
    pub is : IsAtPlace f.areas k area

  -- it is that of its edge's owner
  pub area_of_section : (s : Section) → Contains sections s → s.which ≡ which → (k : ℕ) → s.area ≡ Some k → HasArea k
  area_of_section s there which_is k e = record { area = edge.area; is = edge.area_is }
    where
      x : IsSectionAt which f v s
      x = at_point s there which_is

      owner : IsRing x.edge.owner k
      owner = ring_owner x.edge.owner k (sym x.toward.area_is ∙ e)

      edge : IsRingEdge f.areas k owner.ring x.edge.seg
      edge = subst (λ o. IsEdgeOf f o x.edge.seg) owner.is (edge_of_owner f x.edge (record { place = x.place; is = x.edge_is }))

  -- ---- one area
  module _ (k : ℕ) (area : Area) (is : IsAtPlace f.areas k area) where
    pub shape : IsAreaShaped area
    shape = area_shaped f fan.shaped k area is

    -- a section of this area, with its edge
    of_area : (s : Section) → Contains sections s → s.which ≡ which → s.area ≡ Some k → IsSectionOf area v s
    of_area = section_of_area which f v sections fan.are_sections k area is

    -- the hand of an area's section isn't Line
    sided_area : (s : Section) → Contains sections s → s.which ≡ which → s.area ≡ Some k → ¬ (s.hand ≡ hand.Line)
    sided_area s there which_is area_is line = let x = of_area s there which_is area_is in x.side.sided (line_hand x.forward s.hand line)

    -- the sector after a section's ray is inside where the hand is Left, and outside where it is Right
    pub hand_after : (ray : Dir) (h : HasSome (IsAreaAlong which k ray) sections) (j : ℕ) → IsAtPlace rays j ray → (d : Direction)
        → IsBetween rays j d → (h.item.hand ≡ hand.Left → IsGerm area v d Interior) × (h.item.hand ≡ hand.Right → IsGerm area v d Exterior)
    hand_after ray h j ray_is d b =
        let x = of_area h.item h.there h.holds.which_is h.holds.area_is in
        hand_in_sector f fan.shaped fan.valid k area is x.e x.place x.is x.forward v x.on (direction_of ray) (cone_way h.holds.along x.cone)
        h.item.hand x.side (direction_of b.next) (free_sector which f v sections rays fan k area is j ray b.next ray_is b.next_is) d
        (within_from rays j ray b.next ray_is b.next_is d b)

    -- and of the sector that ends at the ray
    pub hand_before : (ray : Dir) (h : HasSome (IsAreaAlong which k ray) sections) (p : ℕ) → IsAtPlace rays ((p + 1) % length rays) ray
        → (d : Direction) → IsBetween rays p d
        → (h.item.hand ≡ hand.Left → IsGerm area v d Exterior) × (h.item.hand ≡ hand.Right → IsGerm area v d Interior)
    hand_before ray h p ray_is d b =
        let x = of_area h.item h.there h.holds.which_is h.holds.area_is in
        hand_before_ray f fan.shaped fan.valid k area is x.e x.place x.is x.forward v x.on (direction_of ray)
        (cone_way h.holds.along x.cone)
        h.item.hand x.side (direction_of b.ray) (free_sector which f v sections rays fan k area is p b.ray ray b.ray_is ray_is) d
        (within_from rays p b.ray ray b.ray_is ray_is d b)

    -- a section towards an end of an edge of the area
    record HasToward (e : Seg) (forward : Bool) : Type 0 where
      s : Section
      there : Contains sections s
      which_is : s.which ≡ which
      area_is : s.area ≡ Some k
      cone : IsInCone v (direction_of s.dir) (direction_of s.dir) (point_of (far_end forward e))

    -- each end that isn't v has one
    toward_end : (place : ℕ) (e : Seg) → IsAtPlace (edges_of_rings (rings_of area)) place e → IsOnEdge e v → (forward : Bool)
        → ¬ IsSamePoint (point_of (far_end forward e)) v → HasToward e forward
    toward_end place e e_is on forward away = record {
      s = a.1;
      there = (a.0, a.2, a.3);
      which_is = a.4.which_is;
      area_is = a.4.area_is;
      cone = section_cone which f edge v on forward away a.1 a.4;
    }
      where
        r : IsOwnedBy f k e
        r = area_edge f k area is place e e_is

        edge : OwnedEdge
        edge = record { seg = e; owner = Ring k r.ring }

        a : Any (IsSectionToward which f edge forward) sections
        a = fan.are_sections.whole r.place edge r.is on forward away

    -- a ray along which no section of the area runs is bare of its edges
    pub bare_along : (ray : Dir) → ((s : Section) → Contains sections s → IsAreaAlong which k ray s → ⊥)
        → IsBare area shape v (direction_of ray)
    bare_along ray none place e e_is on = (λ c. at_end false c, λ c. at_end true c)
      where
        at_end : (forward : Bool) → IsInCone v (direction_of ray) (direction_of ray) (point_of (far_end forward e)) → ⊥
        at_end forward c =
            let h = toward_end place e e_is (on_true {p = v} {f = e} on) forward (λ alike. not_here c (same_sym alike)) in
            none h.s h.there (record {
              which_is = h.which_is;
              area_is = h.area_is;
              along = one_way v (direction_of h.s.dir) (direction_of ray) (point_of (far_end forward e)) h.cone c;
            })

    -- where v is on the boundary, a section of the area runs along one of the rays
    pub record HasAreaRay : Type 0 where
      pub place : ℕ
      pub ray : Dir
      pub ray_is : IsAtPlace rays place ray
      pub section : HasSome (IsAreaAlong which k ray) sections

    -- that of an edge that holds v
    pub boundary_section : location area v ≡ Boundary → HasAreaRay
    boundary_section h = record {
      place = ray.place;
      ray = ray.ray;
      ray_is = ray.is;
      section = record { item = t.s; there = t.there; holds = record { which_is = t.which_is; area_is = t.area_is; along = ray.same } };
    }
      where
        edge : HasEdge (edges_of_rings (rings_of area)) v
        edge = edge_that_holds (edges_of_rings (rings_of area)) v (on_edges_from area v h)

        away : HasAway edge.e v
        away = away_end edge.e v (moving f fan.shaped fan.valid k area is edge.place edge.e edge.is)

        t : HasToward edge.e away.forward
        t = toward_end edge.place edge.e edge.is (on_true {p = v} {f = edge.e} edge.on) away.forward away.away

        ray : HasRay rays (direction_of t.s.dir)
        ray = ray_of_section sections rays fan.are_rays t.s t.there

  -- each section of an area has it on one side
  pub sided : AreSided which sections
  sided = record {
    sided = λ s there which_is k area_is.
        let a = area_of_section s there which_is k area_is in sided_area k a.area a.is s there which_is area_is;
  }

  -- ---- sections of one area along one way have one hand
  -- not Left and Right at once
  apart : (k : ℕ) (area : Area) → IsAtPlace f.areas k area → (ray : Dir) (s t : HasSome (IsAreaAlong which k ray) sections) (j : ℕ)
      → IsAtPlace rays j ray → (d : Direction) → IsBetween rays j d → s.item.hand ≡ hand.Left → t.item.hand ≡ hand.Right → ⊥
  apart k area is ray s t j ray_is d b l r =
      let left = (hand_after k area is ray s j ray_is d b).0 l in
      let one = germ_one area v d Interior Exterior left ((hand_after k area is ray t j ray_is d b).1 r) in
      cc

  -- so both Left, or both Right
  alike_in_area : (k : ℕ) (area : Area) → IsAtPlace f.areas k area → (ray : Dir) (s t : HasSome (IsAreaAlong which k ray) sections)
      (j : ℕ) → IsAtPlace rays j ray → (d : Direction) → IsBetween rays j d → (a b : Hand) → s.item.hand ≡ a → t.item.hand ≡ b
      → s.item.hand ≡ t.item.hand
  alike_in_area k area is ray s t j ray_is d w hand.Left hand.Left e g = e ∙ sym g
  alike_in_area k area is ray s t j ray_is d w hand.Right hand.Right e g = e ∙ sym g
  alike_in_area k area is ray s t j ray_is d w hand.Left hand.Right e g = absurd (apart k area is ray s t j ray_is d w e g)
  alike_in_area k area is ray s t j ray_is d w hand.Right hand.Left e g = absurd (apart k area is ray t s j ray_is d w g e)
  alike_in_area k area is ray s t j ray_is d w hand.Line b e g =
      absurd (sided.sided s.item s.there s.holds.which_is k s.holds.area_is e)
  alike_in_area k area is ray s t j ray_is d w a hand.Line e g =
      absurd (sided.sided t.item t.there t.holds.which_is k t.holds.area_is g)

  -- lines have the hand Line; of an area two hands would make one sector both inside and outside
  pub hands_alike : AreHandsAlike which sections
  hands_alike = record {
    alike = λ s t s_there t_there s_which t_which area way.
        by_area s t s_there t_there s_which t_which area way (none_or_some s.area);
  }
    where
      of_line : (s : Section) → Contains sections s → s.which ≡ which → s.area ≡ None → s.hand ≡ hand.Line
      of_line s there which_is e =
          let x = at_point s there which_is in
          hand_line x.forward s.hand
          (line_owner f x.edge.owner x.edge.seg (hand_of_way x.forward s.hand) (sym x.toward.area_is ∙ e) x.toward.side)

      by_area : (s t : Section) → Contains sections s → Contains sections t → s.which ≡ which → t.which ≡ which → s.area ≡ t.area
          → IsSameDirection s.dir t.dir → (s.area ≡ None) ⊎ ((k : ℕ) × (s.area ≡ Some k)) → s.hand ≡ t.hand
      by_area s t s_there t_there s_which t_which area way (inl e) =
          of_line s s_there s_which e ∙ sym (of_line t t_there t_which (sym area ∙ e))
      by_area s t s_there t_there s_which t_which area way (inr h) =
          let a = area_of_section s s_there s_which h.0 h.1 in
          let r = ray_of_section sections rays fan.are_rays s s_there in
          let below = slice_get_within rays r.place r.ray r.is in
          let n = item_at rays ((r.place + 1) % length rays) (mod-lt (r.place + 1) (omega (arith, below))) in
          let w = within_sector (direction_of r.ray) (direction_of n.item) in
          alike_in_area h.0 a.area a.is r.ray
          (record { item = s; there = s_there; holds = record { which_is = s_which; area_is = h.1; along = r.same } })
          (record {
            item = t;
            there = t_there;
            holds = record { which_is = t_which; area_is = sym area ∙ h.1; along = joined_ways (turned_way way) r.same };
          })
          r.place r.is w.d (record { ray = r.ray; next = n.item; ray_is = r.is; next_is = n.is; within = w.within })
          s.hand t.hand refl refl
