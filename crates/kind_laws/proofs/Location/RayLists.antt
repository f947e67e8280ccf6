-- Directions can be put in the order of their angles, each way once.
use Rattle.std.proofs.Common.{◌≡◌, ◌⊎◌, inl, inr, suc, List, [], ◌∷◌, ap, refl, ◌∙◌, arith}
use Rattle.std.proofs.Common.{Less, Equal, Greater, Ordering}
use Rattle.std.specs.List.{AllByRecursion, AllPairs, Any}
use Rattle.std.specs.Ordering.{ordering_reverse}
use Rattle.std.proofs.lemmas.List.Elements.{All-from_recursion}
use Rattle.std.proofs.lemmas.List.Kept.{AllPairs-cons}
use Rattle.plane_exact.proofs.Laws.{compare_angles_total, same_compare_angles}
use Rattle.plane_laws.proofs.Directions.Angles.{joined_ways}
use Rattle.plane_laws.specs.Directions.{Direction, PointSameWay}
use Rattle.plane_exact.specs.Orders.{direction_of, compare_angles}
use Rattle.plane_exact.specs.declared.dir.Dir.{Dir}

-- one of the rays points the same way
abbrev pub HasWay : Direction → List Dir → Type 0
HasWay t [] = ⊥
HasWay t (ray ∷ rays) = PointSameWay t (direction_of ray) ⊎ HasWay t rays

-- a ray is before all of a list
abbrev pub IsBeforeAll : Dir → List Dir → Type 0
IsBeforeAll d rays = AllByRecursion (λ ray. compare_angles d ray ≡ Less) rays

-- each ray is before all later ones
abbrev pub AreAscending : List Dir → Type 0
AreAscending [] = Unit {0}
AreAscending (ray ∷ rays) = IsBeforeAll ray rays × AreAscending rays

-- what is before a ray is before all that the ray is before
before_all : (d r : Dir) → compare_angles d r ≡ Less → (rays : List Dir) → IsBeforeAll r rays → IsBeforeAll d rays
before_all d r h [] all = tt
before_all d r h (s ∷ rays) all = (compare_angles_total.trans d r s h all.0, before_all d r h rays all.1)

-- the same as a fact about places
pub ascending_pairs : (rays : List Dir) → AreAscending rays → AllPairs (λ d e. compare_angles d e ≡ Less) rays
ascending_pairs [] h = λ i j d before below. absurd (omega (arith, below))
ascending_pairs (ray ∷ rays) h =
    AllPairs-cons (λ d e. compare_angles d e ≡ Less) ray rays
    (All-from_recursion (λ e. compare_angles ray e ≡ Less) rays h.0) (ascending_pairs rays h.1)

-- one of them at some place
pub some_way : (t : Direction) (rays : List Dir) → HasWay t rays → Any (λ ray. PointSameWay t (direction_of ray)) rays
some_way t [] h = absurd h
some_way t (ray ∷ rays) (inl h) = (0, ray, omega arith, refl, h)
some_way t (ray ∷ rays) (inr h) = let a = some_way t rays h in (suc a.0, a.1, let below = a.2 in omega (arith, below), a.3, a.4)

-- ---- one more direction
-- a ray is one of a list
abbrev pub IsRayIn : Dir → List Dir → Type 0
IsRayIn x [] = ⊥
IsRayIn x (ray ∷ rays) = (x ≡ ray) ⊎ IsRayIn x rays

-- a list in order that has one direction more, and no others
pub record HasInserted (d : Dir) (rays : List Dir) : Type 0 where
  pub list : List Dir
  pub ascending : AreAscending list
  pub only : (x : Dir) → IsRayIn x list → (x ≡ d) ⊎ IsRayIn x rays
  pub before : (x : Dir) → compare_angles x d ≡ Less → IsBeforeAll x rays → IsBeforeAll x list
  pub has : (t : Direction) → PointSameWay t (direction_of d) → HasWay t list
  pub keeps : (t : Direction) → HasWay t rays → HasWay t list

-- put in front of the first ray after it, left out where a ray points the same way
pub inserted : (d : Dir) (rays : List Dir) → AreAscending rays → HasInserted d rays
inserted d [] h = record {
  list = d ∷ [];
  ascending = (tt, tt);
  only = λ x k. k;
  before = λ x k all. (k, tt);
  has = λ t w. inl w;
  keeps = λ t w. absurd w;
}
inserted d (r ∷ rays) h = by_order (compare_angles d r) refl (inserted d rays h.1)
  where
    by_order : (o : Ordering) → compare_angles d r ≡ o → HasInserted d rays → HasInserted d (r ∷ rays)
    by_order Less e rest = record {
      list = d ∷ r ∷ rays;
      ascending = ((e, before_all d r e rays h.0), h);
      only = λ x k. k;
      before = λ x k all. (k, all);
      has = λ t w. inl w;
      keeps = λ t w. inr w;
    }
    by_order Equal e rest = record {
      list = r ∷ rays;
      ascending = h;
      only = λ x k. inr k;
      before = λ x k all. all;
      has = λ t w. inl (joined_ways w (same_compare_angles d r e));
      keeps = λ t w. w;
    }
    by_order Greater e rest = record {
      list = r ∷ rest.list;
      ascending = (rest.before r (compare_angles_total.antisymm r d ∙ ap ordering_reverse e) h.0, rest.ascending);
      only = λ x k. from x rest k;
      before = λ x k all. (all.0, rest.before x k all.1);
      has = λ t w. inr (rest.has t w);
      keeps = λ t w. kept t w rest;
    }
      where
        kept : (t : Direction) → HasWay t (r ∷ rays) → (rest : HasInserted d rays) → HasWay t (r ∷ rest.list)
        kept t (inl w) rest = inl w
        kept t (inr w) rest = inr (rest.keeps t w)

        from : (x : Dir) (rest : HasInserted d rays) → IsRayIn x (r ∷ rest.list) → (x ≡ d) ⊎ IsRayIn x (r ∷ rays)
        from x rest (inl e) = inr (inl e)
        from x rest (inr k) = by_case (rest.only x k)
          where
            by_case : (x ≡ d) ⊎ IsRayIn x rays → (x ≡ d) ⊎ IsRayIn x (r ∷ rays)
            by_case (inl e) = inl e
            by_case (inr k) = inr (inr k)
