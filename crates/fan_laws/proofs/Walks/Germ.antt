-- A walk once round the rays, and on to a sector, ends inside exactly where the area is inside there.
use Rattle.std.proofs.Common.{◌≡◌, ◌⊎◌, inl, inr, ℕ, zero, suc, ◌+◌, ◌%◌, ◌<◌, Bool, true, false}
use Rattle.std.proofs.Common.{List, [], ◌∷◌, ◌++◌, length, take, ap, refl, sym, ◌∙◌, subst, arith}
use Rattle.std.specs.List.{Contains}
use Rattle.std.proofs.lemmas.Bool.{true≢false}
use Rattle.std.proofs.lemmas.Option.{slice_get_within}
use Rattle.std.proofs.Math.Nat.{mod_self, mod-eq_of_lt}
use Rattle.im_matrix.specs.declared.Loc.{Loc}
use Rattle.im_matrix.specs.declared.Loc.TheVariants.{Interior, Boundary, Exterior}
use Rattle.im_matrix.specs.declared.Which.{Which}
use Rattle.plane_laws.specs.Plane.{Point}
use Rattle.plane_laws.specs.Directions.{Direction}
use Rattle.plane_exact.specs.Orders.{direction_of}
use Rattle.plane_exact.specs.declared.dir.Dir.{Dir}
use Rattle.point_set.specs.declared.edge.Hand.{Hand}
use Rattle.point_set.specs.declared.edge.Hand.TheVariants as hand
use Rattle.point_set.specs.declared.figure.Area.{Area}
use Rattle.point_set.specs.declared.figure.Figure.{Figure}
use Rattle.point_set.specs.Germ.{IsGerm}
use Rattle.point_set.specs.Location.{location}
use Rattle.point_set.specs.Sectors.{IsInSector, sector_before}
use Rattle.point_set.specs.Validity.{IsAtPlace}
use Rattle.ring_laws.proofs.Germs.Areas.{HasGerm, germ_exists, germ_one}
use Rattle.point_set.specs.Shape.{IsAreaShaped}
use Rattle.figure_laws.proofs.Lists.Places.{some_same}
use Rattle.fan_order.specs.declared.section.Section.{Section}
use Rattle.fan_order.specs.Sections.{IsStep, IsWalk, IsFanOf, IsAreaAlong}
use Rattle.germ_laws.proofs.Rays.Places.{HasItem, item_at}
use Rattle.germ_laws.proofs.Sectors.BesideRay.{IsBare, bare_after, bare_before}
use Rattle.fan_laws.proofs.Fans.Rays.{free_sector}
use Rattle.fan_laws.proofs.Fans.Hands.{shape, sided, hand_after, bare_along, HasAreaRay, boundary_section}
use Rattle.figure_laws.proofs.Lists.Search.{HasSome}
use Rattle.fan_order.proofs.Laws.{find_along, walk_parts}
use Rattle.germ_laws.proofs.Rays.Neighbours.{before_below, next_of_before, one_before, HasWithin, within_sector, IsBetween, between_rays}
use Rattle.germ_laws.proofs.Rays.Neighbours.{within_from, take_at, take_long}

module _ (which : Which) (f : Figure) (v : Point) (sections : List Section) (rays : List Dir) (fan : IsFanOf which f v sections rays)
    (k : ℕ) (area : Area) (is : IsAtPlace f.areas k area) where
  -- what a state of the walk says of sector j
  abbrev pub IsRightAt : Bool → ℕ → Type 0
  IsRightAt b j =
      (d : Direction) → IsBetween rays j d → (b ≡ true → IsGerm area v d Interior) × (b ≡ false → IsGerm area v d Exterior)

  -- the area has a ring's shape throughout
  sh : IsAreaShaped area
  sh = shape which f v sections rays fan k area is

  -- ---- one step
  -- at a ray with a section of the area the hand decides, whatever the state was
  step_at_section : (j : ℕ) (ray : Dir) → IsAtPlace rays j ray → HasSome (IsAreaAlong which k ray) sections → (before after : Bool)
      → IsStep which k sections ray before after → IsRightAt after j
  step_at_section j ray ray_is h before after step d b = by_hand h.item.hand refl
    where
      ways : (h.item.hand ≡ hand.Left → IsGerm area v d Interior) × (h.item.hand ≡ hand.Right → IsGerm area v d Exterior)
      ways = hand_after which f v sections rays fan k area is ray h j ray_is d b

      by_hand : (side : Hand) → h.item.hand ≡ side → (after ≡ true → IsGerm area v d Interior) × (after ≡ false → IsGerm area v d Exterior)
      by_hand hand.Left e =
          let on = step.left h.item h.there h.holds.which_is h.holds.area_is h.holds.along e in
          (λ _. ways.0 e, λ off. absurd (true≢false (sym on ∙ off)))
      by_hand hand.Right e =
          let off = step.right h.item h.there h.holds.which_is h.holds.area_is h.holds.along e in
          (λ on. absurd (true≢false (sym on ∙ off)), λ _. ways.1 e)
      by_hand hand.Line e =
          absurd ((sided which f v sections rays fan).sided h.item h.there h.holds.which_is k h.holds.area_is e)

  -- at a ray without one the state stays, and so does the germ
  step_at_bare : (j : ℕ) (ray : Dir) → IsAtPlace rays j ray → ((s : Section) → Contains sections s → IsAreaAlong which k ray s → ⊥)
      → (before after : Bool) → IsStep which k sections ray before after → IsRightAt before (sector_before (length rays) j)
      → IsRightAt after j
  step_at_bare j ray ray_is none before after step right d b = (
    λ on. germ_of Interior (λ e e_in. (right e e_in).0 (sym stays ∙ on)),
    λ off. germ_of Exterior (λ e e_in. (right e e_in).1 (sym stays ∙ off)),
  )
    where
      p : ℕ
      p = sector_before (length rays) j

      stays : after ≡ before
      stays = step.bare (λ s there which_is area_is along. none s there (record { which_is = which_is; area_is = area_is; along = along }))

      bare : IsBare area sh v (direction_of ray)
      bare = bare_along which f v sections rays fan k area is ray none

      here : j < length rays
      here = slice_get_within rays j ray ray_is

      q : HasItem rays p
      q = item_at rays p (before_below (length rays) j here)

      ray_next : IsAtPlace rays ((p + 1) % length rays) ray
      ray_next = subst (λ (m : ℕ). IsAtPlace rays m ray) (sym (next_of_before (length rays) j here)) ray_is

      g : HasGerm area v (direction_of ray)
      g = germ_exists area sh v (direction_of ray)

      w : HasWithin (direction_of q.item) (direction_of ray)
      w = within_sector (direction_of q.item) (direction_of ray)

      germ_of : (h : Loc) → ((e : Direction) → IsBetween rays p e → IsGerm area v e h) → IsGerm area v d h
      germ_of h at =
          let earlier = at w.d (record { ray = q.item; next = ray; ray_is = q.is; next_is = ray_next; within = w.within }) in
          let free = free_sector which f v sections rays fan k area is p q.item ray q.is ray_next in
          let along = bare_before area sh v (direction_of ray) bare (direction_of q.item) free g.germ g.is w.d w.within in
          let free' = free_sector which f v sections rays fan k area is j ray b.next ray_is b.next_is in
          let within = within_from rays j ray b.next ray_is b.next_is d b in
          subst (λ z. IsGerm area v d z) (germ_one area v w.d g.germ h along earlier)
          (bare_after area sh v (direction_of ray) bare (direction_of b.next) free' g.germ g.is d within)

  -- at any ray
  step_on : (j : ℕ) (ray : Dir) → IsAtPlace rays j ray → (before after : Bool) → IsStep which k sections ray before after
      → IsRightAt before (sector_before (length rays) j) → IsRightAt after j
  step_on j ray ray_is before after step right = go (find_along which k ray sections)
    where
      go : HasSome (IsAreaAlong which k ray) sections ⊎ ((s : Section) → Contains sections s → IsAreaAlong which k ray s → ⊥)
          → IsRightAt after j
      go (inl h) = step_at_section j ray ray_is h before after step
      go (inr none) = step_at_bare j ray ray_is none before after step right

  -- ---- a walk along rays in order
  -- the state is right in the sector that ends at ray j; after the last ray that is the first one again
  abbrev IsRightUpTo : Bool → ℕ → Type 0
  IsRightUpTo b j = (p : ℕ) → p < length rays → (p + 1) % length rays ≡ j % length rays → IsRightAt b p

  -- the rays of the list are those from place j on
  abbrev AreFrom : List Dir → ℕ → Type 0
  AreFrom xs j = (m : ℕ) (ray : Dir) → IsAtPlace xs m ray → IsAtPlace rays (j + m) ray

  -- the same of the list without its first, and of its first
  from_rest : (x : Dir) (xs : List Dir) (j : ℕ) → AreFrom (x ∷ xs) j → AreFrom xs (j + 1)
  from_rest x xs j from m ray ray_is = subst (λ (i : ℕ). IsAtPlace rays i ray) (omega arith) (from (suc m) ray ray_is)

  -- its first
  from_first : (x : Dir) (xs : List Dir) (j : ℕ) → AreFrom (x ∷ xs) j → IsAtPlace rays j x
  from_first x xs j from = subst (λ (i : ℕ). IsAtPlace rays i x) (omega arith) (from 0 x refl)

  -- what is right in sector j is so up to ray j + 1; and what is so up to ray j is right in the sector before
  up_to_next : (b : Bool) (j : ℕ) → j < length rays → IsRightAt b j → IsRightUpTo b (j + 1)
  up_to_next b j below right p p_below e = subst (λ (i : ℕ). IsRightAt b i) (sym (one_before (length rays) p j p_below below e)) right

  -- and back, at the sector before
  up_to_here : (b : Bool) (j : ℕ) → j < length rays → IsRightUpTo b j → IsRightAt b (sector_before (length rays) j)
  up_to_here b j below right =
      right (sector_before (length rays) j) (before_below (length rays) j below)
      (next_of_before (length rays) j below ∙ sym (mod-eq_of_lt below))

  -- what was right at the start is right at the end
  walk_on : (xs : List Dir) (j : ℕ) → AreFrom xs j → (before after : Bool) → IsWalk which k sections xs before after
      → IsRightUpTo before j → IsRightUpTo after (j + length xs)
  walk_on [] j from before after w right =
      subst (λ (i : ℕ). IsRightUpTo after i) (omega arith) (subst (λ b. IsRightUpTo b j) w right)
  walk_on (x ∷ xs) j from before after w right =
      let x_is = from_first x xs j from in
      let below = slice_get_within rays j x x_is in
      let next = up_to_next w.0 j below (step_on j x x_is before w.0 w.1 (up_to_here before j below right)) in
      subst (λ (i : ℕ). IsRightUpTo after i) (omega arith) (walk_on xs (j + 1) (from_rest x xs j from) w.0 after w.2 next)

  -- once a section of the area was passed the state is right
  walk_past : (xs : List Dir) (j : ℕ) → AreFrom xs j → (before after : Bool) → IsWalk which k sections xs before after → (m : ℕ)
      (ray : Dir) → IsAtPlace xs m ray → HasSome (IsAreaAlong which k ray) sections → IsRightUpTo after (j + length xs)
  walk_past [] j from before after w m ray ray_is h = cc
  walk_past (x ∷ xs) j from before after w zero ray ray_is h =
      let x_is = from_first x xs j from in
      let below = slice_get_within rays j x x_is in
      let here = subst (λ (z : Dir). HasSome (IsAreaAlong which k z) sections) (sym (some_same ray_is)) h in
      let next = up_to_next w.0 j below (step_at_section j x x_is here before w.0 w.1) in
      subst (λ (i : ℕ). IsRightUpTo after i) (omega arith) (walk_on xs (j + 1) (from_rest x xs j from) w.0 after w.2 next)
  walk_past (x ∷ xs) j from before after w (suc m) ray ray_is h =
      subst (λ (i : ℕ). IsRightUpTo after i) (omega arith) (walk_past xs (j + 1) (from_rest x xs j from) w.0 after w.2 m ray ray_is h)

  -- ---- once round, and on to sector i
  pub walk_right : location area v ≡ Boundary → (i : ℕ) → i < length rays → (before after : Bool)
      → IsWalk which k sections (rays ++ take (i + 1) rays) before after → IsRightAt after i
  walk_right on i below before after w = last i below (ap (λ (z : ℕ). z % length rays) (omega (arith, long)))
    where
      long : length (take (i + 1) rays) ≡ i + 1
      long = take_long rays (i + 1) (omega (arith, below))

      parts : (mid : Bool) × IsWalk which k sections rays before mid × IsWalk which k sections (take (i + 1) rays) mid after
      parts = walk_parts which k sections rays (take (i + 1) rays) before after w

      r : HasAreaRay which f v sections rays fan k area is
      r = boundary_section which f v sections rays fan k area is on

      round : IsRightUpTo parts.0 (0 + length rays)
      round =
          walk_past rays 0 (λ m ray ray_is. subst (λ (z : ℕ). IsAtPlace rays z ray) (omega arith) ray_is) before parts.0 parts.1
          r.place r.ray r.ray_is r.section

      start : IsRightUpTo parts.0 0
      start p p_below e =
          let zero_is : 0 % length rays ≡ 0 = mod-eq_of_lt (let h : 0 < length rays = omega (arith, below) in h) in
          let n_is : (0 + length rays) % length rays ≡ 0 = ap (λ (z : ℕ). z % length rays) (omega arith) ∙ mod_self (length rays) in
          round p p_below (e ∙ zero_is ∙ sym n_is)

      last : IsRightUpTo after (0 + length (take (i + 1) rays))
      last =
          walk_on (take (i + 1) rays) 0
          (λ m ray ray_is. subst (λ (z : ℕ). IsAtPlace rays z ray) (omega arith) (take_at rays (i + 1) m ray ray_is))
          parts.0 after parts.2 start

  -- the same of directions in sector i
  pub walk_is_germ : location area v ≡ Boundary → (i : ℕ) → i < length rays → (before after : Bool)
      → IsWalk which k sections (rays ++ take (i + 1) rays) before after → (d : Direction) → IsInSector rays i d
      → (after ≡ true → IsGerm area v d Interior) × (after ≡ false → IsGerm area v d Exterior)
  walk_is_germ on i below before after w d in_d = walk_right on i below before after w d (between_rays rays i d (omega (arith, below)) in_d)
