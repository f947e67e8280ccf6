-- The labels of sectors and rays: in which part of the figure the near points lie, along each direction of a sector and along a ray.
use Rattle.std.proofs.Common.{◌≡◌, ◌⊎◌, inl, inr, ℕ, ◌+◌, ◌%◌, ◌<◌, true, false, List, length, ap, refl, sym, ◌∙◌, subst, arith}
use Rattle.std.proofs.lemmas.Option.{slice_get_within}
use Rattle.std.proofs.Math.Nat.{mod-lt}
use Rattle.im_matrix.specs.declared.Cell.{Cell}
use Rattle.im_matrix.specs.declared.Loc.{Loc}
use Rattle.im_matrix.specs.declared.Loc.TheVariants.{Interior, Boundary, Exterior}
use Rattle.im_matrix.specs.declared.Which.{Which}
use Rattle.im_matrix.specs.declared.Which.TheVariants.{A, B}
use Rattle.plane_laws.specs.Plane.{Point}
use Rattle.plane_laws.specs.Directions.{Direction}
use Rattle.plane_exact.specs.Orders.{direction_of}
use Rattle.plane_exact.specs.declared.dir.Dir.{Dir}
use Rattle.point_set.specs.declared.dim_loc.DimLoc.{DimLoc}
use Rattle.point_set.specs.declared.dim_loc.DimLoc.TheVariants as kind
use Rattle.point_set.specs.declared.figure.Figure.{Figure}
use Rattle.point_set.specs.declared.rule.Rule.{Rule}
use Rattle.point_set.specs.declared.rule.Rule.TheVariants.{Mod2, Endpoint, Multivalent, Monovalent}
use Rattle.plane_laws.specs.Along.{HoldsAlong}
use Rattle.point_set.specs.Germ.{IsPairGerm}
use Rattle.point_set.specs.Lines.{is_boundary_count}
use Rattle.point_set.specs.Location.{is_covered, is_on_line, IsAreaInterior, IsKind, IsLocation}
use Rattle.point_set.specs.Sectors.{IsInSector, sectors_of, sector_before}
use Rattle.point_set.specs.Validity.{IsAtPlace}
use Rattle.figure_laws.proofs.Points.Kinds.{one_kind}
use Rattle.fan_order.specs.declared.section.Section.{Section}
use Rattle.fan_order.specs.Sections.{IsSectorInside, IsLineAlong, IsFanOf}
use Rattle.fan_laws.specs.Parts.{IsSectorFull, IsSectorPart, IsRayPart}
use Rattle.kind_laws.proofs.Cover.BesideRay.{interior_is_open}
use Rattle.germ_laws.proofs.Room.Lonely.{points_off, ends_off}
use Rattle.fan_laws.proofs.Labels.LineGerms.{no_line_in_sector, no_line_on_ray, line_on_ray, line_or_not}
use Rattle.germ_laws.proofs.Rays.Neighbours.{before_below, HasWithin, within_sector}
use Rattle.fan_laws.proofs.Labels.OnRays.{interior_on_ray, boundary_after, boundary_before, bare_on_ray}
use Rattle.kind_laws.proofs.Cover.Inside.{IsNoAreaInteriorAt, interior_of_one}
use Rattle.fan_laws.proofs.Walks.SectorHands.{IsFull, IsEmptySector, full_or_empty}
use Rattle.germ_laws.proofs.Rays.Places.{HasItem, item_at, in_sector_of}

-- no rule makes a point without a line's end boundary
pub no_rule_of_none : (rule : Rule) → is_boundary_count rule 0 ≡ false
no_rule_of_none Mod2 = refl
no_rule_of_none Endpoint = refl
no_rule_of_none Multivalent = refl
no_rule_of_none Monovalent = refl

-- the parts of two figures give the pair
pub pair_of_parts : (a b : Figure) (rule : Rule) (v : Point) (d : Direction) (pair : Cell)
    → HoldsAlong (λ q. IsLocation a rule q pair.a) v d → HoldsAlong (λ q. IsLocation b rule q pair.b) v d → IsPairGerm a b rule v d pair
pair_of_parts a b rule v d pair h k = record {
  from = h.from + k.from;
  holds = λ n far q away. record { in_a = h.holds n (omega (arith, far)) q away; in_b = k.holds n (omega (arith, far)) q away };
}

-- three things that each hold along a direction hold together
along_all : {P Q R : Point → Type 0} {v : Point} {d : Direction} → HoldsAlong P v d → HoldsAlong Q v d → HoldsAlong R v d
    → HoldsAlong (λ q. P q × Q q × R q) v d
along_all h k l = record {
  from = (h.from + k.from) + l.from;
  holds =
      λ n far q away. (h.holds n (omega (arith, far)) q away, k.holds n (omega (arith, far)) q away, l.holds n (omega (arith, far)) q away);
}

-- ---- parts of near points
module _ (f : Figure) (rule : Rule) (v : Point) (d : Direction) where
  -- the near points lie in a part of the figure
  abbrev pub IsPart : Loc → Type 0
  IsPart part = HoldsAlong (λ q. IsLocation f rule q part) v d

  -- what the areas, lines and points are along d gives the part
  interior_part : HoldsAlong (λ q. IsAreaInterior f q) v d → IsPart Interior
  interior_part h = record {
    from = h.from;
    holds = λ n far q away. record { decided_by = kind.AreaInterior; decides = h.holds n far q away; gives = refl };
  }

  -- covered and not interior is boundary
  boundary_part : HoldsAlong (λ q. (is_covered f q ≡ true) × (¬ IsAreaInterior f q)) v d → IsPart Boundary
  boundary_part h = record {
    from = h.from;
    holds = λ n far q away. record { decided_by = kind.AreaBoundary; decides = h.holds n far q away; gives = refl };
  }

  -- on a line where no line ends is interior
  line_part : HoldsAlong (λ q. is_covered f q ≡ false) v d → HoldsAlong (λ q. is_on_line f q ≡ true) v d → IsPart Interior
  line_part h k =
      let all = along_all h k (ends_off f v d) in
      record {
        from = all.from;
        holds = λ n far q away.
            let at = all.holds n far q away in record {
              decided_by = kind.LineInterior;
              decides = (at.0, at.1, ap (is_boundary_count rule) at.2 ∙ no_rule_of_none rule);
              gives = refl;
            };
      }

  -- and off areas, lines and points is exterior
  empty_part : HoldsAlong (λ q. is_covered f q ≡ false) v d → HoldsAlong (λ q. is_on_line f q ≡ false) v d → IsPart Exterior
  empty_part h k =
      let all = along_all h k (points_off f v d) in
      record {
        from = all.from;
        holds = λ n far q away. record { decided_by = kind.Exterior; decides = all.holds n far q away; gives = refl };
      }

-- ---- the kind of the node
area_interior_or_not : (at : DimLoc) → (at ≡ kind.AreaInterior) ⊎ (¬ (at ≡ kind.AreaInterior))
area_interior_or_not kind.AreaInterior = inl refl
area_interior_or_not kind.AreaBoundary = inr (λ e. cc)
area_interior_or_not kind.LineInterior = inr (λ e. cc)
area_interior_or_not kind.LineBoundary = inr (λ e. cc)
area_interior_or_not kind.PointInterior = inr (λ e. cc)
area_interior_or_not kind.Exterior = inr (λ e. cc)

module _ (which : Which) (f : Figure) (rule : Rule) (v : Point) (at : DimLoc) (sections : List Section) (rays : List Dir)
    (fan : IsFanOf which f v sections rays) (at_is : IsKind f rule v at) where
  -- where the node isn't interior to the areas, no area has it inside
  none_inside : ¬ (at ≡ kind.AreaInterior) → IsNoAreaInteriorAt f v
  none_inside n place area is inside =
      n (one_kind f rule v at kind.AreaInterior at_is (interior_of_one f fan.shaped place area is v inside))

  -- and else it is interior
  node_interior : at ≡ kind.AreaInterior → IsAreaInterior f v
  node_interior e = subst (λ k. IsKind f rule v k) e at_is

  -- then a sector is full by the hands alone
  not_full : ¬ (at ≡ kind.AreaInterior) → (j : ℕ) → ¬ IsSectorInside which sections rays j → ¬ IsSectorFull at which sections rays j
  not_full n j out (inl e) = n e
  not_full n j out (inr h) = out h

  -- ---- sectors
  pub sector_label : (i : ℕ) → i < sectors_of rays → (d : Direction) → IsInSector rays i d → (part : Loc)
      → IsSectorPart at which sections rays i part → HoldsAlong (λ q. IsLocation f rule q part) v d
  sector_label i below d in_d part is = by_kind (area_interior_or_not at)
    where
      part_is : (p : Loc) → part ≡ p → IsPart f rule v d p → IsPart f rule v d part
      part_is p e h = subst (λ z. IsPart f rule v d z) (sym e) h

      by_sector : ¬ (at ≡ kind.AreaInterior) → IsFull which f v sections rays fan i below d in_d
          ⊎ IsEmptySector which f v sections rays fan i below d in_d → IsPart f rule v d part
      by_sector n (inl h) = part_is Interior (is.full (inr h.0)) (interior_part f rule v d h.1)
      by_sector n (inr h) =
          part_is Exterior (is.bare (not_full n i h.0)) (empty_part f rule v d h.1 (no_line_in_sector which f v sections rays fan i d in_d))

      by_kind : (at ≡ kind.AreaInterior) ⊎ (¬ (at ≡ kind.AreaInterior)) → IsPart f rule v d part
      by_kind (inl e) = part_is Interior (is.full (inl e)) (interior_part f rule v d (interior_is_open f fan.shaped v (node_interior e) d))
      by_kind (inr n) = by_sector n (full_or_empty which f v sections rays fan i below d in_d (none_inside n))

  -- whether the hands say that a sector is inside
  inside_or_not : IsNoAreaInteriorAt f v → (i : ℕ) → i < length rays
      → IsSectorInside which sections rays i ⊎ (¬ IsSectorInside which sections rays i)
  inside_or_not none i below = go (full_or_empty which f v sections rays fan i in_d.0 w.d in_d.1 none)
    where
      r : HasItem rays i
      r = item_at rays i below

      s : HasItem rays ((i + 1) % length rays)
      s = item_at rays ((i + 1) % length rays) (mod-lt (i + 1) (omega (arith, below)))

      w : HasWithin (direction_of r.item) (direction_of s.item)
      w = within_sector (direction_of r.item) (direction_of s.item)

      in_d : (i < sectors_of rays) × IsInSector rays i w.d
      in_d = in_sector_of rays i r.item s.item w.d r.is s.is w.within

      go : IsFull which f v sections rays fan i in_d.0 w.d in_d.1 ⊎ IsEmptySector which f v sections rays fan i in_d.0 w.d in_d.1
          → IsSectorInside which sections rays i ⊎ (¬ IsSectorInside which sections rays i)
      go (inl h) = inl h.0
      go (inr h) = inr h.0

  -- ---- rays
  pub ray_label : (i : ℕ) (ray : Dir) → IsAtPlace rays i ray → (part : Loc) → IsRayPart at which sections rays i ray part
      → HoldsAlong (λ q. IsLocation f rule q part) v (direction_of ray)
  ray_label i ray ray_is part is = by_kind (area_interior_or_not at)
    where
      d : Direction
      d = direction_of ray

      p : ℕ
      p = sector_before (length rays) i

      part_is : (g : Loc) → part ≡ g → IsPart f rule v d g → IsPart f rule v d part
      part_is g e h = subst (λ z. IsPart f rule v d z) (sym e) h

      by_sectors : (n : ¬ (at ≡ kind.AreaInterior)) → IsSectorInside which sections rays i ⊎ (¬ IsSectorInside which sections rays i)
          → IsSectorInside which sections rays p ⊎ (¬ IsSectorInside which sections rays p)
          → IsLineAlong which sections ray ⊎ (¬ IsLineAlong which sections ray) → IsPart f rule v d part
      by_sectors n (inl h) (inl k) l =
          part_is Interior (is.both (inr h) (inr k))
          (interior_part f rule v d (interior_on_ray which f v sections rays fan i ray ray_is h k))
      by_sectors n (inl h) (inr k) l =
          part_is Boundary (is.after (inr h) (not_full n p k))
          (boundary_part f rule v d (boundary_after which f v sections rays fan i ray ray_is (none_inside n) h k))
      by_sectors n (inr h) (inl k) l =
          part_is Boundary (is.before (not_full n i h) (inr k))
          (boundary_part f rule v d (boundary_before which f v sections rays fan i ray ray_is (none_inside n) h k))
      by_sectors n (inr h) (inr k) (inl l) =
          part_is Interior (is.line (not_full n i h) (not_full n p k) l)
          (line_part f rule v d (bare_on_ray which f v sections rays fan i ray ray_is (none_inside n) h k)
          (line_on_ray which f v sections rays fan ray l))
      by_sectors n (inr h) (inr k) (inr l) =
          part_is Exterior (is.bare (not_full n i h) (not_full n p k) l)
          (empty_part f rule v d (bare_on_ray which f v sections rays fan i ray ray_is (none_inside n) h k)
          (no_line_on_ray which f v sections rays fan ray l))

      by_kind : (at ≡ kind.AreaInterior) ⊎ (¬ (at ≡ kind.AreaInterior)) → IsPart f rule v d part
      by_kind (inl e) =
          part_is Interior (is.both (inl e) (inl e)) (interior_part f rule v d (interior_is_open f fan.shaped v (node_interior e) d))
      by_kind (inr n) =
          let below = slice_get_within rays i ray ray_is in
          by_sectors n (inside_or_not (none_inside n) i below) (inside_or_not (none_inside n) p (before_below (length rays) i below))
          (line_or_not which sections ray)

-- ---- both figures of a pair, by one fan
module _ (a b : Figure) (rule : Rule) (v : Point) (at_a at_b : DimLoc) (sections : List Section) (rays : List Dir)
    (fan_a : IsFanOf A a v sections rays) (fan_b : IsFanOf B b v sections rays) (a_is : IsKind a rule v at_a) (b_is : IsKind b rule v at_b)
    (pair : Cell) where
  -- the pair of a sector's parts is the germ along each of its directions
  pub sector_pair : (i : ℕ) → i < sectors_of rays → (d : Direction) → IsInSector rays i d → IsSectorPart at_a A sections rays i pair.a
      → IsSectorPart at_b B sections rays i pair.b → IsPairGerm a b rule v d pair
  sector_pair i below d in_d part_a part_b =
      pair_of_parts a b rule v d pair (sector_label A a rule v at_a sections rays fan_a a_is i below d in_d pair.a part_a)
      (sector_label B b rule v at_b sections rays fan_b b_is i below d in_d pair.b part_b)

  -- and the pair of a ray's parts is the germ along the ray
  pub ray_pair : (i : ℕ) (ray : Dir) → IsAtPlace rays i ray → IsRayPart at_a A sections rays i ray pair.a
      → IsRayPart at_b B sections rays i ray pair.b → IsPairGerm a b rule v (direction_of ray) pair
  ray_pair i ray ray_is part_a part_b =
      pair_of_parts a b rule v (direction_of ray) pair (ray_label A a rule v at_a sections rays fan_a a_is i ray ray_is pair.a part_a)
      (ray_label B b rule v at_b sections rays fan_b b_is i ray ray_is pair.b part_b)
