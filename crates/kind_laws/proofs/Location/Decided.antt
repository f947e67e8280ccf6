-- The kind of a point's location in a figure is decided: area interior by one direction in each sector. No validity is needed.
use Rattle.std.proofs.Common.{Bool, ◌≡◌, ◌⊎◌, inl, inr, ℕ, zero, suc, ◌+◌, ◌%◌, ◌<◌, pos, true, false, List, [], ◌∷◌, length, ap, sym, ◌∙◌}
use Rattle.std.proofs.Common.{subst}
use Rattle.std.proofs.Common.{arith}
use Rattle.std.proofs.lemmas.Bool.{true≢false, cases_eq, cases_Bool}
use Rattle.whole_algebra.proofs.Laws.{linear}
use Rattle.whole_algebra.proofs.Signs.{<ℤ_apart}
use Rattle.plane_laws.specs.Plane.{Point}
use Rattle.plane_laws.specs.Directions.{Direction, bend_of}
use Rattle.plane_exact.specs.Orders.{direction_of}
use Rattle.plane_exact.specs.declared.dir.Dir.{Dir}
use Rattle.point_set.specs.declared.dim_loc.DimLoc.{DimLoc}
use Rattle.point_set.specs.declared.dim_loc.DimLoc.TheVariants as kind
use Rattle.point_set.specs.declared.figure.Area.{Area}
use Rattle.point_set.specs.declared.figure.Figure.{Figure}
use Rattle.point_set.specs.declared.rule.Rule.{Rule}
use Rattle.plane_laws.specs.Along.{HoldsAlong}
use Rattle.point_set.specs.Location.{is_not_exterior, is_covered, IsAreaInterior, IsKind, edges_of_rings, rings_of}
use Rattle.point_set.specs.Sectors.{IsInSector, AreRaysAt, sectors_of}
use Rattle.point_set.specs.Shape.{IsWellShaped}
use Rattle.point_set.specs.Validity.{IsAtPlace}
use Rattle.plane_laws.proofs.Near.Away.{away_point, away_point_is}
use Rattle.ring_laws.proofs.Germs.Areas.{germ_exists}
use Rattle.figure_laws.proofs.Points.Kinds.{uncovered_kind, kind_of_uncovered}
use Rattle.germ_laws.proofs.Sectors.Rays.{none_within, same_between_rays}
use Rattle.plane_laws.proofs.Near.Near.{size_of}
use Rattle.side_laws.proofs.Areas.Hands.{area_shaped}
use Rattle.germ_laws.proofs.Sectors.Closed.{just_left}
use Rattle.kind_laws.proofs.Cover.Neighbourhood.{around_from_interior}
use Rattle.kind_laws.proofs.Cover.Germs.{HasCover, cover_or_none}
use Rattle.germ_laws.proofs.Room.TwoSteps.{both_ways}
use Rattle.kind_laws.proofs.Cover.Sectors.{covered_at, interior_from_sectors}
use Rattle.germ_laws.proofs.Rays.Places.{HasItem, item_at, in_sector_of}
use Rattle.germ_laws.proofs.Room.Ways.{left_turn, left_turn_left}
use Rattle.kind_laws.proofs.Location.EdgeRays.{HasAreaRays, area_rays}

-- ---- a direction in each sector
-- straight to the right
rightward : Direction
rightward = record { x = pos 1; y = pos 0; moves = λ z. let e = z.0 in omega (arith, linear, e) }

-- a direction strictly within a sector
pub record HasSectorWay (rays : List Dir) (i : ℕ) : Type 0 where
  pub d : Direction
  pub within : IsInSector rays i d

-- just to the left of the sector's first ray
pub sector_way : (rays : List Dir) (i : ℕ) → i < sectors_of rays → HasSectorWay rays i
sector_way [] i below = record { d = rightward; within = tt }
sector_way (ray ∷ rays) i below =
    go (item_at (ray ∷ rays) i below) (item_at (ray ∷ rays) ((i + 1) % length (ray ∷ rays)) (omega (arith, below)))
  where
    go : HasItem (ray ∷ rays) i → HasItem (ray ∷ rays) ((i + 1) % length (ray ∷ rays)) → HasSectorWay (ray ∷ rays) i
    go first next =
        let r = direction_of first.item in
        let t = left_turn r in
        let bent : ¬ (bend_of r t ≡ pos 0) = λ z. <ℤ_apart (left_turn_left r) (sym z) in
        let l = size_of (bend_of t (direction_of next.item)) in
        let e = both_ways r t bent 0 l in
        record {
          d = e;
          within =
              (in_sector_of (ray ∷ rays) i first.item next.item e first.is next.is
              (just_left r (direction_of next.item) t (left_turn_left r) bent 0 l (omega (arith, linear)))).1;
        }

-- ---- all below a bound, or one that isn't so
-- each number below n is so, or the other thing holds
all_or_other : (P : ℕ → Type 0) (Q : Type 0) (n : ℕ) → ((i : ℕ) → i < n → P i ⊎ Q) → ((i : ℕ) → i < n → P i) ⊎ Q
all_or_other P Q zero each = inl (λ i below. absurd (omega (arith, below)))
all_or_other P Q (suc n) each = joined (all_or_other P Q n (λ i below. each i (omega (arith, below)))) (each n (omega arith))
  where
    joined : ((i : ℕ) → i < n → P i) ⊎ Q → P n ⊎ Q → ((i : ℕ) → i < suc n → P i) ⊎ Q
    joined (inr q) last = inr q
    joined (inl all) (inr q) = inr q
    joined (inl all) (inl p) = inl (λ i below. by_place i below (cases_eq i n))
      where
        by_place : (i : ℕ) → i < suc n → (i ≡ n) ⊎ (i ≡ n → ⊥) → P i
        by_place i below (inl e) = subst P (sym e) p
        by_place i below (inr apart) = all i (omega (arith, below, apart))

-- ---- in a sector the union covers along each direction, or along none
-- along each direction of sector i the union covers, or along none
abbrev pub IsSectorAlike : Figure → Point → List Dir → ℕ → Bool → Type 0
IsSectorAlike f v rays i b = (d : Direction) → IsInSector rays i d → HoldsAlong (λ q. is_covered f q ≡ b) v d

-- a test that holds far in along a direction doesn't fail there
never_both :
    (test : Point → Bool) (v : Point) (d : Direction) → HoldsAlong (λ q. test q ≡ true) v d → HoldsAlong (λ q. test q ≡ false) v d → ⊥
never_both test v d h k =
    let n = h.from + k.from in
    let q = away_point v d n in
    true≢false (sym (h.holds (suc n) (omega arith) q (away_point_is v d n)) ∙ k.holds (suc n) (omega arith) q (away_point_is v d n))

module _ (f : Figure) (shaped : IsWellShaped f) (v : Point) (rays : List Dir)
    (at : (k : ℕ) (area : Area) → IsAtPlace f.areas k area → AreRaysAt v (edges_of_rings (rings_of area)) rays) where
  -- what is covered along one direction of a sector is covered along all
  cover_spreads : (i : ℕ) (e : Direction) → IsInSector rays i e → HasCover f.areas v e → IsSectorAlike f v rays i true
  cover_spreads i e within c d within_d =
      let sh = area_shaped f shaped c.place c.area c.is in
      let g = germ_exists c.area sh v d in
      let one = same_between_rays c.area sh v rays (at c.place c.area c.is) i e d within within_d c.germ g.germ c.germ_is g.is in
      record {
        from = g.is.from;
        holds = λ n far q away. covered_at f.areas c.place c.area c.is q
            (ap is_not_exterior (g.is.holds n far q away ∙ sym one) ∙ c.covers);
      }

  -- and so what is bare along one is bare along all
  bare_spreads :
      (i : ℕ) (e : Direction) → IsInSector rays i e → HoldsAlong (λ q. is_covered f q ≡ false) v e → IsSectorAlike f v rays i false
  bare_spreads i e within bare d within_d = by_cover (cover_or_none f.areas shaped.areas v d)
    where
      by_cover : HasCover f.areas v d ⊎ HoldsAlong (λ q. is_covered f q ≡ false) v d → HoldsAlong (λ q. is_covered f q ≡ false) v d
      by_cover (inl c) = absurd (never_both (is_covered f) v e (cover_spreads i d within_d c e within) bare)
      by_cover (inr b) = b

  -- each sector is of one of the two kinds: one direction decides
  pub sector_alike : (i : ℕ) → i < sectors_of rays → IsSectorAlike f v rays i true ⊎ IsSectorAlike f v rays i false
  sector_alike i below = go (sector_way rays i below)
    where
      go : HasSectorWay rays i → IsSectorAlike f v rays i true ⊎ IsSectorAlike f v rays i false
      go w = by_cover (cover_or_none f.areas shaped.areas v w.d)
        where
          by_cover :
              HasCover f.areas v w.d ⊎ HoldsAlong (λ q. is_covered f q ≡ false) v w.d
              → IsSectorAlike f v rays i true ⊎ IsSectorAlike f v rays i false
          by_cover (inl c) = inl (cover_spreads i w.d w.within c)
          by_cover (inr b) = inr (bare_spreads i w.d w.within b)

-- ---- area interior is decided
module _ (f : Figure) (shaped : IsWellShaped f) (v : Point) where
  -- rays for all areas
  fan : HasAreaRays f
  fan = area_rays f shaped

  -- where a sector is bare the point isn't interior
  bare_not_interior : (i : ℕ) → i < sectors_of fan.rays → IsSectorAlike f v fan.rays i false → ¬ IsAreaInterior f v
  bare_not_interior i below bare inside =
      let w = sector_way fan.rays i below in
      never_both (is_covered f) v w.d ((around_from_interior f v inside).along w.d) (bare w.d w.within)

  -- the point is interior to the union or it isn't
  pub interior_decided : IsAreaInterior f v ⊎ (¬ IsAreaInterior f v)
  interior_decided = by_sectors (all_or_other (λ i. IsSectorAlike f v fan.rays i true) (¬ IsAreaInterior f v) (sectors_of fan.rays) decided)
    where
      decided : (i : ℕ) → i < sectors_of fan.rays → IsSectorAlike f v fan.rays i true ⊎ (¬ IsAreaInterior f v)
      decided i below = go (sector_alike f shaped v fan.rays (fan.at v) i below)
        where
          go :
              IsSectorAlike f v fan.rays i true ⊎ IsSectorAlike f v fan.rays i false
              → IsSectorAlike f v fan.rays i true ⊎ (¬ IsAreaInterior f v)
          go (inl h) = inl h
          go (inr h) = inr (bare_not_interior i below h)

      by_sectors :
          ((i : ℕ) → i < sectors_of fan.rays → IsSectorAlike f v fan.rays i true) ⊎ (¬ IsAreaInterior f v)
          → IsAreaInterior f v ⊎ (¬ IsAreaInterior f v)
      by_sectors (inl all) =
          inl (interior_from_sectors f shaped v fan.rays fan.ascending
          (λ k area is i s t s_is t_is. none_within area v fan.rays (fan.at v k area is) i s t s_is t_is)
          all rightward)
      by_sectors (inr n) = inr n

  -- ---- the kind
  -- so one of the six kinds holds
  pub kind_exists : (rule : Rule) → (k : DimLoc) × IsKind f rule v k
  kind_exists rule = by_cover (cases_Bool (is_covered f v))
    where
      by_interior : is_covered f v ≡ true → IsAreaInterior f v ⊎ (¬ IsAreaInterior f v) → (k : DimLoc) × IsKind f rule v k
      by_interior on (inl inside) = (kind.AreaInterior, inside)
      by_interior on (inr not_inside) = (kind.AreaBoundary, (on, not_inside))

      by_cover : (is_covered f v ≡ true) ⊎ (is_covered f v ≡ false) → (k : DimLoc) × IsKind f rule v k
      by_cover (inl on) = by_interior on interior_decided
      by_cover (inr off) = (uncovered_kind f rule v, kind_of_uncovered f rule v off)

-- in the words of the claim
pub kind_is_decided : (f : Figure) → IsWellShaped f → (rule : Rule) (p : Point) → (k : DimLoc) × IsKind f rule p k
kind_is_decided f shaped rule p = kind_exists f shaped p rule
