-- Walks round the rays exist: along each ray either a section of the area runs, and its hand decides, or none does.
use Rattle.std.proofs.Common.{◌≡◌, ◌⊎◌, inl, inr, ℕ, Bool, true, false, Option, Some, None, Less, Equal, Greater, Ordering}
use Rattle.std.proofs.Common.{List, [], ◌∷◌, ◌++◌, IsTrue, ◌↔◌, ap, refl, sym, ◌∙◌, subst}
use Rattle.std.specs.List.{Contains}
use Rattle.std.proofs.lemmas.Bool.{cases_eq}
use Rattle.im_matrix.specs.declared.Which.{Which}
use Rattle.im_matrix.specs.declared.Which.TheVariants.{A, B}
use Rattle.plane_laws.proofs.Directions.Angles.{joined_ways}
use Rattle.plane_laws.specs.Directions.{Direction, PointSameWay}
use Rattle.plane_exact.proofs.Laws.{compare_angles-same, same_compare_angles}
use Rattle.plane_exact.specs.Orders.{compare_angles, IsSameDirection}
use Rattle.plane_exact.specs.declared.dir.Dir.{Dir}
use Rattle.point_set.specs.declared.edge.Hand.{Hand}
use Rattle.point_set.specs.declared.edge.Hand.TheVariants as hand
use Rattle.figure_laws.proofs.Lists.Places.{some_same}
use Rattle.fan_order.specs.declared.section.Section.{Section}
use Rattle.fan_order.specs.Sections.{IsAreaAlong, IsStep, IsWalk, AreHandsAlike, AreSided}
use Rattle.figure_laws.proofs.Lists.Search.{HasSome, search_for}

-- two directions along one ray point the same way
pub ways_along : {d e ray : Direction} → PointSameWay d ray → PointSameWay e ray → PointSameWay d e
ways_along h k =
    joined_ways h (record { m = k.n; n = k.m; some = k.other; other = k.some; across = sym k.across; above = sym k.above })

-- ---- whether a section is one of the area and runs along the ray: each of the three parts can be tested
pub same_which : (a b : Which) → (a ≡ b) ⊎ (a ≡ b → ⊥)
same_which A A = inl refl
same_which A B = inr (λ e. cc)
same_which B A = inr (λ e. cc)
same_which B B = inl refl

-- the area
same_area : (a : Option ℕ) (k : ℕ) → (a ≡ Some k) ⊎ (a ≡ Some k → ⊥)
same_area None k = inr (λ e. cc)
same_area (Some j) k = go (cases_eq j k)
  where
    go : (j ≡ k) ⊎ (j ≡ k → ⊥) → (Some j ≡ Some k) ⊎ (Some j ≡ Some k → ⊥)
    go (inl e) = inl (ap (λ (z : ℕ). Some z) e)
    go (inr n) = inr (λ e. n (some_same e))

-- the direction
pub same_direction : (d e : Dir) → IsSameDirection d e ⊎ (IsSameDirection d e → ⊥)
same_direction d e = go (compare_angles d e) refl
  where
    go : (o : Ordering) → compare_angles d e ≡ o → IsSameDirection d e ⊎ (IsSameDirection d e → ⊥)
    go Less h = inr (λ q. let l = sym h ∙ compare_angles-same d e q in cc)
    go Equal h = inl (same_compare_angles d e h)
    go Greater h = inr (λ q. let l = sym h ∙ compare_angles-same d e q in cc)

-- and so all three
pub area_along : (which : Which) (k : ℕ) (ray : Dir) (s : Section) → IsAreaAlong which k ray s ⊎ (IsAreaAlong which k ray s → ⊥)
area_along which k ray s = go (same_which s.which which) (same_area s.area k) (same_direction s.dir ray)
  where
    go : (s.which ≡ which) ⊎ (s.which ≡ which → ⊥) → (s.area ≡ Some k) ⊎ (s.area ≡ Some k → ⊥)
        → IsSameDirection s.dir ray ⊎ (IsSameDirection s.dir ray → ⊥) → IsAreaAlong which k ray s ⊎ (IsAreaAlong which k ray s → ⊥)
    go (inl a) (inl b) (inl c) = inl (record { which_is = a; area_is = b; along = c })
    go (inr n) b c = inr (λ h. n h.which_is)
    go (inl a) (inr n) c = inr (λ h. n h.area_is)
    go (inl a) (inl b) (inr n) = inr (λ h. n h.along)

-- a section of the area along the ray, or none
pub find_along : (which : Which) (k : ℕ) (ray : Dir) (sections : List Section)
    → HasSome (IsAreaAlong which k ray) sections ⊎ ((s : Section) → Contains sections s → IsAreaAlong which k ray s → ⊥)
find_along which k ray sections = search_for (IsAreaAlong which k ray) (area_along which k ray) sections

-- ---- a step, and a walk
-- what isn't true is false
not_true : (b : Bool) → ¬ IsTrue b → b ≡ false
not_true true n = absurd (n refl)
not_true false n = refl

-- a state after a step
pub record HasStep (which : Which) (k : ℕ) (sections : List Section) (ray : Dir) (before : Bool) : Type 0 where
  pub after : Bool
  pub step : IsStep which k sections ray before after

-- a section of the area along the ray decides
pub step_found : (which : Which) (k : ℕ) (sections : List Section) → AreHandsAlike which sections → AreSided which sections → (ray : Dir)
    (before after : Bool) (h : HasSome (IsAreaAlong which k ray) sections) → (IsTrue after ↔ (h.item.hand ≡ hand.Left))
    → IsStep which k sections ray before after
step_found which k sections alike sided ray before after h decides = by_hand h.item.hand refl
  where
    alike_to : (t : Section) → Contains sections t → t.which ≡ which → t.area ≡ Some k → IsSameDirection t.dir ray → h.item.hand ≡ t.hand
    alike_to t t_there t_which t_area t_along =
        alike.alike h.item t h.there t_there h.holds.which_is t_which (h.holds.area_is ∙ sym t_area) (ways_along h.holds.along t_along)

    by_hand : (side : Hand) → h.item.hand ≡ side → IsStep which k sections ray before after
    by_hand hand.Left e = record {
      left = λ t there which_is area_is along left. decides.1 e;
      right = λ t there which_is area_is along right. let z = sym e ∙ alike_to t there which_is area_is along ∙ right in cc;
      bare = λ none. absurd (none h.item h.there h.holds.which_is h.holds.area_is h.holds.along);
    }
    by_hand hand.Right e = record {
      left = λ t there which_is area_is along left. let z = sym e ∙ alike_to t there which_is area_is along ∙ left in cc;
      right = λ t there which_is area_is along right. not_true after (λ h. let z = sym e ∙ decides.0 h in cc);
      bare = λ none. absurd (none h.item h.there h.holds.which_is h.holds.area_is h.holds.along);
    }
    by_hand hand.Line e = absurd (sided.sided h.item h.there h.holds.which_is k h.holds.area_is e)

-- and where none runs along it the state stays
pub step_bare : (which : Which) (k : ℕ) (sections : List Section) (ray : Dir) (before : Bool)
    → ((s : Section) → Contains sections s → IsAreaAlong which k ray s → ⊥) → IsStep which k sections ray before before
step_bare which k sections ray before none = record {
  left = λ t there which_is area_is along left. absurd (here t there which_is area_is along);
  right = λ t there which_is area_is along right. absurd (here t there which_is area_is along);
  bare = λ _. refl;
}
  where
    here : (t : Section) → Contains sections t → t.which ≡ which → t.area ≡ Some k → IsSameDirection t.dir ray → ⊥
    here t there which_is area_is along = none t there (record { which_is = which_is; area_is = area_is; along = along })

-- so there is a state after each step
step_exists : (which : Which) (k : ℕ) (sections : List Section) → AreHandsAlike which sections → AreSided which sections → (ray : Dir)
    (before : Bool) → HasStep which k sections ray before
step_exists which k sections alike sided ray before = by_search (find_along which k ray sections)
  where
    by_hand : (h : HasSome (IsAreaAlong which k ray) sections) (side : Hand) → h.item.hand ≡ side → HasStep which k sections ray before
    by_hand h hand.Left e = record {
      after = true;
      step = step_found which k sections alike sided ray before true h (λ _. e, λ _. refl);
    }
    by_hand h hand.Right e = record {
      after = false;
      step = step_found which k sections alike sided ray before false h (λ z. cc, λ z. let w = sym e ∙ z in cc);
    }
    by_hand h hand.Line e = absurd (sided.sided h.item h.there h.holds.which_is k h.holds.area_is e)

    by_search : HasSome (IsAreaAlong which k ray) sections ⊎ ((s : Section) → Contains sections s → IsAreaAlong which k ray s → ⊥)
        → HasStep which k sections ray before
    by_search (inl h) = by_hand h h.item.hand refl
    by_search (inr none) = record { after = before; step = step_bare which k sections ray before none }

-- a state after a walk
pub record HasWalk (which : Which) (k : ℕ) (sections : List Section) (rays : List Dir) (before : Bool) : Type 0 where
  pub after : Bool
  pub walk : IsWalk which k sections rays before after

-- step by step
pub walk_exists : (which : Which) (k : ℕ) (sections : List Section) → AreHandsAlike which sections → AreSided which sections
    → (rays : List Dir) (before : Bool) → HasWalk which k sections rays before
walk_exists which k sections alike sided [] before = record { after = before; walk = refl }
walk_exists which k sections alike sided (ray ∷ rays) before =
    let first = step_exists which k sections alike sided ray before in
    let rest = walk_exists which k sections alike sided rays first.after in
    record { after = rest.after; walk = (first.after, first.step, rest.walk) }

-- a walk over two lists is a walk over the one and then over the other
pub walk_parts : (which : Which) (k : ℕ) (sections : List Section) (xs ys : List Dir) (before after : Bool)
    → IsWalk which k sections (xs ++ ys) before after
    → (mid : Bool) × IsWalk which k sections xs before mid × IsWalk which k sections ys mid after
walk_parts which k sections [] ys before after w = (before, refl, w)
walk_parts which k sections (x ∷ xs) ys before after w =
    let r = walk_parts which k sections xs ys w.0 after w.2 in
    (r.0, (w.0, w.1, r.1), r.2)

-- and the other way round
pub walk_joined : (which : Which) (k : ℕ) (sections : List Section) (xs ys : List Dir) (before mid after : Bool)
    → IsWalk which k sections xs before mid → IsWalk which k sections ys mid after → IsWalk which k sections (xs ++ ys) before after
walk_joined which k sections [] ys before mid after w u = subst (λ b. IsWalk which k sections ys b after) (sym w) u
walk_joined which k sections (x ∷ xs) ys before mid after w u = (w.0, w.1, walk_joined which k sections xs ys w.0 mid after w.2 u)

-- ---- a walk has one end
-- without the side of each section, a step past a section of the hand Line would be open
pub step_unique : (which : Which) (k : ℕ) (sections : List Section) → AreSided which sections → (ray : Dir) (before one other : Bool)
    → IsStep which k sections ray before one → IsStep which k sections ray before other → one ≡ other
step_unique which k sections sided ray before one other s t = by_search (find_along which k ray sections)
  where
    by_hand : (h : HasSome (IsAreaAlong which k ray) sections) (side : Hand) → h.item.hand ≡ side → one ≡ other
    by_hand h hand.Left e =
        s.left h.item h.there h.holds.which_is h.holds.area_is h.holds.along e
        ∙ sym (t.left h.item h.there h.holds.which_is h.holds.area_is h.holds.along e)
    by_hand h hand.Right e =
        s.right h.item h.there h.holds.which_is h.holds.area_is h.holds.along e
        ∙ sym (t.right h.item h.there h.holds.which_is h.holds.area_is h.holds.along e)
    by_hand h hand.Line e = absurd (sided.sided h.item h.there h.holds.which_is k h.holds.area_is e)

    by_search : HasSome (IsAreaAlong which k ray) sections ⊎ ((s : Section) → Contains sections s → IsAreaAlong which k ray s → ⊥)
        → one ≡ other
    by_search (inl h) = by_hand h h.item.hand refl
    by_search (inr none) =
        s.bare (λ x there which_is area_is along. none x there (record { which_is = which_is; area_is = area_is; along = along }))
        ∙ sym (t.bare (λ x there which_is area_is along. none x there (record { which_is = which_is; area_is = area_is; along = along })))

-- so has each walk
pub walk_unique : (which : Which) (k : ℕ) (sections : List Section) → AreSided which sections → (rays : List Dir)
    (before one other : Bool) → IsWalk which k sections rays before one → IsWalk which k sections rays before other → one ≡ other
walk_unique which k sections sided [] before one other w u = sym w ∙ u
walk_unique which k sections sided (ray ∷ rays) before one other w u =
    let same = step_unique which k sections sided ray before w.0 u.0 w.1 u.1 in
    walk_unique which k sections sided rays u.0 one other (subst (λ b. IsWalk which k sections rays b one) same w.2) u.2
