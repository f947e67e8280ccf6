-- Where every sector is covered, the point is interior to the union of the areas.
use Rattle.std.proofs.Common.{◌≡◌, ℕ, zero, suc, ◌+◌, ◌%◌, pos, Bool, true, false, List, [], ◌∷◌, length, ap, refl, sym, ◌∙◌}
use Rattle.std.proofs.Common.{subst, arith}
use Rattle.std.specs.List.{AllPairs}
use Rattle.std.specs.declared.cmp.Ordering.TheVariants.{Less}
use Rattle.std.proofs.lemmas.Bool.{true≢false, or_left, or_right}
use Rattle.std.proofs.lemmas.Option.{slice_get_within}
use Rattle.im_matrix.specs.declared.Loc.{Loc}
use Rattle.im_matrix.specs.declared.Loc.TheVariants.{Interior, Boundary, Exterior}
use Rattle.whole_algebra.proofs.Laws.{linear}
use Rattle.whole_algebra.proofs.Signs.{<ℤ_apart}
use Rattle.plane_laws.specs.Plane.{Point}
use Rattle.plane_laws.specs.Directions.{Direction, bend_of, PointSameWay, IsStrictlyWithin}
use Rattle.plane_exact.specs.Orders.{direction_of, compare_angles}
use Rattle.plane_exact.specs.declared.dir.Dir.{Dir}
use Rattle.point_set.specs.declared.figure.Area.{Area}
use Rattle.point_set.specs.declared.figure.Figure.{Figure}
use Rattle.plane_laws.specs.Along.{HoldsAlong}
use Rattle.point_set.specs.Germ.{IsGerm}
use Rattle.point_set.specs.Location.{location, is_not_exterior, is_covered_by, is_covered, IsAreaInterior}
use Rattle.point_set.specs.Sectors.{HasNoEdgeWithin}
use Rattle.point_set.specs.Shape.{IsAreaShaped, IsWellShaped}
use Rattle.point_set.specs.Validity.{IsAtPlace}
use Rattle.figure_laws.proofs.Lists.Places.{some_same}
use Rattle.plane_laws.proofs.Near.Near.{size_of}
use Rattle.ring_laws.proofs.Germs.Areas.{germ_exists, germ_one}
use Rattle.side_laws.proofs.Areas.Hands.{area_shaped}
use Rattle.kind_laws.proofs.Cover.Neighbourhood.{interior_from_around}
use Rattle.germ_laws.proofs.Rays.Around.{Around, on_ray, in_sector, around}
use Rattle.germ_laws.proofs.Room.TwoSteps.{both_ways}
use Rattle.germ_laws.proofs.Sectors.Closed.{just_left, settled, off_edges, sector_is_closed}
use Rattle.kind_laws.proofs.Cover.Germs.{HasCover, cover_of}
use Rattle.point_set.specs.Cover.{AreSectorsCovered}
use Rattle.germ_laws.proofs.Room.Ways.{germ_of_way, left_turn, left_turn_left}
use Rattle.germ_laws.proofs.Rays.Places.{HasItem, item_at, in_sector_of}

-- ---- one area covers for all
pub covered_at : (areas : List Area) (place : ℕ) (area : Area) → IsAtPlace areas place area → (q : Point)
    → is_not_exterior (location area q) ≡ true → is_covered_by q areas ≡ true
covered_at [] place area is q h = cc
covered_at (first ∷ areas) zero area is q h = or_left (is_not_exterior (location first q)) (is_covered_by q areas)
    (subst (λ (a : Area). is_not_exterior (location a q) ≡ true) (sym (some_same is)) h)
covered_at (first ∷ areas) (suc place) area is q h = or_right (is_not_exterior (location first q)) (is_covered_by q areas)
    (covered_at areas place area is q h)

pub is_exterior : (g : Loc) → is_not_exterior g ≡ false → g ≡ Exterior
is_exterior Interior h = cc
is_exterior Boundary h = cc
is_exterior Exterior h = refl

pub not_exterior : {g : Loc} → is_not_exterior g ≡ true → g ≡ Exterior → ⊥
not_exterior h e = true≢false (sym h ∙ ap is_not_exterior e)

module _ (f : Figure) (shaped : IsWellShaped f) (v : Point) (rays : List Dir) (ascending : AllPairs (λ d e. compare_angles d e ≡ Less) rays)
    (clear : (place : ℕ) (area : Area) → IsAtPlace f.areas place area → (i : ℕ) (r s : Dir) → IsAtPlace rays i r
    → IsAtPlace rays ((i + 1) % length rays) s → HasNoEdgeWithin area v (direction_of r) (direction_of s))
    (sectors : AreSectorsCovered f v rays) where
  along_ray : (i : ℕ) (ray : Dir) → IsAtPlace rays i ray → (d : Direction) → PointSameWay (direction_of ray) d
      → HoldsAlong (λ q. is_covered f q ≡ true) v d
  along_ray i ray is d q = by_next
      (item_at rays ((i + 1) % length rays) (let below = slice_get_within rays i ray is in omega (arith, below)))
    where
      r : Direction
      r = direction_of ray

      t : Direction
      t = left_turn r

      bent : ¬ (bend_of r t ≡ pos 0)
      bent z = <ℤ_apart (left_turn_left r) (sym z)

      by_cover : (s : Dir) → IsAtPlace rays ((i + 1) % length rays) s → (e : Direction) → IsStrictlyWithin r (direction_of s) e
          → (c : HasCover f.areas v e) → (k : Loc) → IsGerm c.area v r k → (b : Bool) → is_not_exterior k ≡ b
          → HoldsAlong (λ p. is_covered f p ≡ true) v d
      by_cover s s_is e w c k k_is true h =
          let on = germ_of_way c.area (area_shaped f shaped c.place c.area c.is) v r d q k k_is in
          record {
            from = on.from;
            holds = λ n far p away. covered_at f.areas c.place c.area c.is p
                (ap is_not_exterior (on.holds n far p away) ∙ h);
          }
      by_cover s s_is e w c k k_is false h =
          absurd (not_exterior c.covers
          (sector_is_closed c.area (area_shaped f shaped c.place c.area c.is) v r (direction_of s)
          (clear c.place c.area c.is i ray s is s_is) t (left_turn_left r)
          (subst (λ g. IsGerm c.area v r g) (is_exterior k h) k_is) e w c.germ c.germ_is))

      by_next : HasItem rays ((i + 1) % length rays) → HoldsAlong (λ p. is_covered f p ≡ true) v d
      by_next next =
          let l = size_of (bend_of t (direction_of next.item)) in
          let e = both_ways r t bent 0 l in
          let w = just_left r (direction_of next.item) t (left_turn_left r) bent 0 l (omega (arith, linear)) in
          let within = in_sector_of rays i ray next.item e is next.is w in
          let c = cover_of f.areas shaped.areas v e (sectors i within.0 e within.1) in
          let k = germ_exists c.area (area_shaped f shaped c.place c.area c.is) v r in
          by_cover next.item next.is e w c k.germ k.is (is_not_exterior k.germ) refl

  along : (d : Direction) → HoldsAlong (λ q. is_covered f q ≡ true) v d
  along d = go (around rays ascending d)
    where
      go : Around rays d → HoldsAlong (λ q. is_covered f q ≡ true) v d
      go (on_ray i ray is q) = along_ray i ray is d q
      go (in_sector i below within) = sectors i below d within

  here : (d : Direction) → is_covered f v ≡ true
  here d = by_test (is_not_exterior (location c.area v)) refl
    where
      c : HasCover f.areas v d
      c = cover_of f.areas shaped.areas v d (along d)

      sh : IsAreaShaped c.area
      sh = area_shaped f shaped c.place c.area c.is

      by_test : (b : Bool) → is_not_exterior (location c.area v) ≡ b → is_covered f v ≡ true
      by_test true h = covered_at f.areas c.place c.area c.is v h
      by_test false h =
          let out = is_exterior (location c.area v) h in
          absurd (not_exterior c.covers
          (germ_one c.area v d c.germ (location c.area v) c.germ_is (settled c.area sh v (off_edges c.area v out) d) ∙ out))

  pub interior_from_sectors : Direction → IsAreaInterior f v
  interior_from_sectors d = interior_from_around f shaped v (record { here = here d; along = along })
