-- The places of neighbours among rays, and a direction in each sector.
use Rattle.std.proofs.Common.{◌≡◌, ◌⊎◌, inl, inr, ℕ, zero, suc, ◌+◌, ◌-◌, ◌%◌, ◌<◌, ◌≤◌, pos, List, [], ◌∷◌, length, take}
use Rattle.std.proofs.Common.{ap, refl, sym, ◌∙◌, subst, arith}
use Rattle.std.proofs.Math.Nat.{mod_self, mod-eq_of_lt, mod-lt, add-mod_right}
use Rattle.std.proofs.lemmas.Bool.{cases_eq}
use Rattle.whole_algebra.proofs.Laws.{linear}
use Rattle.whole_algebra.proofs.Signs.{<ℤ_apart}
use Rattle.plane_laws.specs.Directions.{Direction, bend_of, IsStrictlyWithin}
use Rattle.plane_exact.specs.Orders.{direction_of}
use Rattle.plane_exact.specs.declared.dir.Dir.{Dir}
use Rattle.point_set.specs.Sectors.{IsInSector, sectors_of, sector_before}
use Rattle.point_set.specs.Validity.{IsAtPlace}
use Rattle.plane_laws.proofs.Near.Near.{size_of}
use Rattle.germ_laws.proofs.Sectors.Rays.{one_at}
use Rattle.germ_laws.proofs.Room.TwoSteps.{both_ways}
use Rattle.germ_laws.proofs.Sectors.Closed.{just_left}
use Rattle.germ_laws.proofs.Room.Ways.{left_turn, left_turn_left}

-- ---- the sector before a ray
pub before_below : (n i : ℕ) → i < n → sector_before n i < n
before_below n i h = mod-lt (i + (n - 1)) (omega (arith, h))

-- the ray after it is the ray itself
pub next_of_before : (n i : ℕ) → i < n → (sector_before n i + 1) % n ≡ i
next_of_before n zero h =
    let last : (n - 1) < n = omega (arith, h) in
    let here : sector_before n 0 ≡ n - 1 = ap (λ z. z % n) (omega arith) ∙ mod-eq_of_lt last in
    ap (λ z. (z + 1) % n) here ∙ ap (λ z. z % n) (omega (arith, h)) ∙ mod_self n
next_of_before n (suc i) h =
    let low : i < n = omega (arith, h) in
    let above : (i + 1) < n = omega (arith, h) in
    let here : sector_before n (suc i) ≡ i = ap (λ z. z % n) (omega (arith, h)) ∙ add-mod_right i n ∙ mod-eq_of_lt low in
    ap (λ z. (z + 1) % n) here ∙ mod-eq_of_lt above ∙ omega arith

-- the next place is that of one sector only
pub one_before : (n p q : ℕ) → p < n → q < n → (p + 1) % n ≡ (q + 1) % n → p ≡ q
one_before n p q hp hq e = go (cases_eq (p + 1) n) (cases_eq (q + 1) n)
  where
    wrapped : (z : ℕ) → z + 1 ≡ n → (z + 1) % n ≡ 0
    wrapped z h = ap (λ y. y % n) h ∙ mod_self n

    plain : (z : ℕ) → z < n → (z + 1 ≡ n → ⊥) → (z + 1) % n ≡ z + 1
    plain z h m = let k : (z + 1) < n = omega (arith, h, m) in mod-eq_of_lt k

    go : (p + 1 ≡ n) ⊎ (p + 1 ≡ n → ⊥) → (q + 1 ≡ n) ⊎ (q + 1 ≡ n → ⊥) → p ≡ q
    go (inl h) (inl k) = omega (arith, h, k)
    go (inl h) (inr m) = let z = sym (wrapped p h) ∙ e ∙ plain q hq m in absurd (omega (arith, z))
    go (inr m) (inl k) = let z = sym (wrapped q k) ∙ sym e ∙ plain p hp m in absurd (omega (arith, z))
    go (inr m) (inr m') = let z = sym (plain p hp m) ∙ e ∙ plain q hq m' in omega (arith, z)

-- ---- each sector has a direction
pub record HasWithin (r s : Direction) : Type 0 where
  pub d : Direction
  pub within : IsStrictlyWithin r s d

-- just to the left of its first ray
pub within_sector : (r s : Direction) → HasWithin r s
within_sector r s =
    let t = left_turn r in
    let bent : ¬ (bend_of r t ≡ pos 0) = λ z. <ℤ_apart (left_turn_left r) (sym z) in
    let l = size_of (bend_of t s) in
    record { d = both_ways r t bent 0 l; within = just_left r s t (left_turn_left r) bent 0 l (omega (arith, linear)) }

-- ---- a direction in a sector lies between the ray and the next one
pub record IsBetween (rays : List Dir) (i : ℕ) (d : Direction) : Type 0 where
  pub ray : Dir
  pub next : Dir
  pub ray_is : IsAtPlace rays i ray
  pub next_is : IsAtPlace rays ((i + 1) % length rays) next
  pub within : IsStrictlyWithin (direction_of ray) (direction_of next) d

-- each direction of a sector lies so
pub between_rays : (rays : List Dir) (i : ℕ) (d : Direction) → 0 < length rays → IsInSector rays i d → IsBetween rays i d
between_rays [] i d h is = absurd (omega (arith, h))
between_rays (r ∷ rays) i d h is = record { ray = is.ray; next = is.next; ray_is = is.ray_is; next_is = is.next_is; within = is.holds }

-- the rays beside a sector are one pair
pub within_from : (rays : List Dir) (i : ℕ) (r s : Dir) → IsAtPlace rays i r → IsAtPlace rays ((i + 1) % length rays) s → (d : Direction)
    → IsBetween rays i d → IsStrictlyWithin (direction_of r) (direction_of s) d
within_from rays i r s r_is s_is d b =
    let j = (i + 1) % length rays in
    subst (λ (z : Dir). IsStrictlyWithin (direction_of z) (direction_of s) d) (one_at rays i i b.ray r refl b.ray_is r_is)
    (subst (λ (z : Dir). IsStrictlyWithin (direction_of b.ray) (direction_of z) d) (one_at rays j j b.next s refl b.next_is s_is) b.within)

-- where there is a ray, sectors are as many as rays
pub sectors_some : (rays : List Dir) → 0 < length rays → sectors_of rays ≡ length rays
sectors_some [] h = absurd (omega (arith, h))
sectors_some (ray ∷ rays) h = refl

-- the first places of a list
pub take_at : (rays : List Dir) (n m : ℕ) (ray : Dir) → IsAtPlace (take n rays) m ray → IsAtPlace rays m ray
take_at rays zero m ray is = cc
take_at [] (suc n) m ray is = cc
take_at (r ∷ rays) (suc n) zero ray is = is
take_at (r ∷ rays) (suc n) (suc m) ray is = take_at rays n m ray is

-- and how many they are
pub take_long : (rays : List Dir) (n : ℕ) → n ≤ length rays → length (take n rays) ≡ n
take_long rays zero h = refl
take_long [] (suc n) h = absurd (omega (arith, h))
take_long (r ∷ rays) (suc n) h = ap suc (take_long rays n (omega (arith, h)))
