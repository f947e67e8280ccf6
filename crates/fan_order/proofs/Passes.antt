-- A sector is inside an area by the hands exactly where the passes of a walk twice round the rays leave some area open.
use Rattle.std.proofs.Common.{◌≡◌, ◌⊎◌, inl, inr, ℕ, zero, suc, ◌+◌, ◌<◌, ◌≤◌, Bool, true, false, IsTrue, ◌↔◌}
use Rattle.std.proofs.Common.{List, [], ◌∷◌, ◌++◌, length, length-append, take, ap, refl, sym, ◌∙◌, subst, arith}
use Rattle.std.proofs.Common.{Option, Some, None}
use Rattle.std.specs.Prelude.{slice_get}
use Rattle.std.specs.List.{Any, Contains}
use Rattle.std.proofs.Math.Seq.{take-append-add}
use Rattle.std.proofs.lemmas.Bool.{cases_eq, false≢true}
use Rattle.std.proofs.lemmas.List.{take_more}
use Rattle.std.proofs.lemmas.Option.{slice_get-get_or, slice_get_within, get_or_from_slice_get}
use Rattle.figure_laws.proofs.Lists.Places.{some_same, all_at}
use Rattle.figure_laws.proofs.Lists.Search.{HasSome}
use Rattle.im_matrix.specs.declared.Which.{Which}
use Rattle.plane_exact.specs.declared.dir.Dir.{Dir}
use Rattle.point_set.specs.declared.edge.Hand.{Hand}
use Rattle.point_set.specs.declared.edge.Hand.TheVariants as hand
use Rattle.point_set.specs.Validity.{IsAtPlace}
use Rattle.fan_order.specs.declared.pass.Pass.{Pass}
use Rattle.fan_order.specs.declared.section.Section.{Section}
use Rattle.fan_order.specs.Passes.{twice, IsPassOf, ArePasses, IsUntil, IsOpened, IsOpenAt}
use Rattle.fan_order.specs.Sections.{IsAreaAlong, IsStep, IsWalk, IsSectorInside, AreHandsAlike, AreSided}
use Rattle.fan_order.proofs.Searches.{LastSo, last_so, HasItem, item_at}
use Rattle.fan_order.proofs.Walks.{ways_along, find_along, walk_exists, walk_parts}

-- ---- the order of passes
-- a pass isn't after another one: its area isn't, and within one area its place isn't
pub record IsUpTo (a b : Pass) : Type 0 where
  pub area : a.area ≤ b.area
  pub place : a.area ≡ b.area → a.place ≤ b.place

-- each pass is up to all later ones
abbrev pub AreInOrder : List Pass → Type 0
AreInOrder passes = (i j : ℕ) (a b : Pass) → i ≤ j → IsAtPlace passes i a → IsAtPlace passes j b → IsUpTo a b

-- ---- the last section of an area that a walk passes on the front of a way has the area on its left
pub record EntersLast (which : Which) (k : ℕ) (sections : List Section) (way : List Dir) (m : ℕ) : Type 0 where
  pub place : ℕ
  pub below : place < m
  pub ray : Dir
  pub ray_is : IsAtPlace way place ray
  pub s : Section
  pub there : Contains sections s
  pub along : IsAreaAlong which k ray s
  pub left : s.hand ≡ hand.Left
  pub none :
      (q : ℕ) (r : Dir) (t : Section) → place < q → q < m → IsAtPlace way q r → Contains sections t → IsAreaAlong which k r t → ⊥

module _ (which : Which) (sections : List Section) (alike : AreHandsAlike which sections) (sided : AreSided which sections)
    (way : List Dir) where
  -- sections of one area along one ray have one hand
  one_hand : (k : ℕ) (r u : Dir) (s t : Section) → r ≡ u → Contains sections s → Contains sections t → IsAreaAlong which k r s
      → IsAreaAlong which k u t → s.hand ≡ t.hand
  one_hand k r u s t same s_there t_there a b =
      let b' : IsAreaAlong which k r t = subst (λ (d : Dir). IsAreaAlong which k d t) (sym same) b in
      alike.alike s t s_there t_there a.which_is b.which_is (a.area_is ∙ sym b.area_is) (ways_along a.along b'.along)

  -- the same section, on a shorter or a longer front
  last_moved : (k m n : ℕ) (l : EntersLast which k sections way m) → l.place < n
      → ((q : ℕ) (r : Dir) (t : Section) → l.place < q → q < n → IsAtPlace way q r → Contains sections t → IsAreaAlong which k r t → ⊥)
      → EntersLast which k sections way n
  last_moved k m n l below none =
      record { place = _; below = below; ray = _; ray_is = l.ray_is; s = _; there = l.there; along = l.along; left = l.left; none = none }

  -- one ray more
  last_more : (k m : ℕ) (ray : Dir) → IsAtPlace way m ray → (mid b : Bool) → IsStep which k sections ray mid b
      → (IsTrue mid ↔ EntersLast which k sections way m) → (IsTrue b ↔ EntersLast which k sections way (m + 1))
  last_more k m ray ray_is mid b step before = by_search (find_along which k ray sections)
    where
      Here : Type 0
      Here = EntersLast which k sections way (m + 1)

      by_hand : (h : HasSome (IsAreaAlong which k ray) sections) (side : Hand) → h.item.hand ≡ side → IsTrue b ↔ Here
      by_hand h hand.Line e = absurd (sided.sided h.item h.there h.holds.which_is k h.holds.area_is e)
      by_hand h hand.Left e = (
        λ _. record {
          place = m;
          below = omega arith;
          ray = ray;
          ray_is = ray_is;
          s = h.item;
          there = h.there;
          along = h.holds;
          left = e;
          none = λ q r t low high _ _ _. absurd (omega (arith, low, high));
        },
        λ _. step.left h.item h.there h.holds.which_is h.holds.area_is h.holds.along e,
      )
      by_hand h hand.Right e = (
        λ is. absurd (false≢true (sym (step.right h.item h.there h.holds.which_is h.holds.area_is h.holds.along e) ∙ is)),
        λ l. absurd (clash l (cases_eq l.place m)),
      )
        where
          clash : (l : Here) → (l.place ≡ m) ⊎ (l.place ≡ m → ⊥) → ⊥
          clash l (inl same) =
              let ray_same : ray ≡ l.ray = some_same (sym ray_is ∙ ap (λ (q : ℕ). slice_get way q) (sym same) ∙ l.ray_is) in
              let z = sym e ∙ one_hand k ray l.ray h.item l.s ray_same h.there l.there h.holds l.along ∙ l.left in
              cc
          clash l (inr apart) =
              let low = l.below in
              l.none m ray h.item (omega (arith, low, apart)) (omega arith) ray_is h.there h.holds

      bare : ((s : Section) → Contains sections s → IsAreaAlong which k ray s → ⊥) → b ≡ mid
      bare none =
          step.bare
          (λ t there which_is area_is along. none t there (record { which_is = which_is; area_is = area_is; along = along }))

      longer : ((s : Section) → Contains sections s → IsAreaAlong which k ray s → ⊥) → EntersLast which k sections way m → Here
      longer none l =
          last_moved k m (m + 1) l (let low = l.below in omega (arith, low))
          (λ q r t low high r_is t_there t_along. past q r t low high r_is t_there t_along (cases_eq q m))
        where
          past : (q : ℕ) (r : Dir) (t : Section) → l.place < q → q < m + 1 → IsAtPlace way q r → Contains sections t
              → IsAreaAlong which k r t → (q ≡ m) ⊎ (q ≡ m → ⊥) → ⊥
          past q r t low high r_is t_there t_along (inl same) =
              let ray_same : r ≡ ray = some_same (sym r_is ∙ ap (λ (p : ℕ). slice_get way p) same ∙ ray_is) in
              none t t_there (subst (λ (d : Dir). IsAreaAlong which k d t) ray_same t_along)
          past q r t low high r_is t_there t_along (inr apart) =
              l.none q r t low (omega (arith, high, apart)) r_is t_there t_along

      shorter : ((s : Section) → Contains sections s → IsAreaAlong which k ray s → ⊥) → (l : Here)
          → (l.place ≡ m) ⊎ (l.place ≡ m → ⊥) → EntersLast which k sections way m
      shorter none l (inl same) =
          let ray_same : l.ray ≡ ray = some_same (sym l.ray_is ∙ ap (λ (p : ℕ). slice_get way p) same ∙ ray_is) in
          absurd (none l.s l.there (subst (λ (d : Dir). IsAreaAlong which k d l.s) ray_same l.along))
      shorter none l (inr apart) =
          last_moved k (m + 1) m l (let low = l.below in omega (arith, low, apart))
          (λ q r t low high r_is t_there t_along. l.none q r t low (omega (arith, high)) r_is t_there t_along)

      by_search : HasSome (IsAreaAlong which k ray) sections ⊎ ((s : Section) → Contains sections s → IsAreaAlong which k ray s → ⊥)
          → IsTrue b ↔ Here
      by_search (inl h) = by_hand h h.item.hand refl
      by_search (inr none) = (
        λ is. longer none (before.0 (sym (bare none) ∙ is)),
        λ l. bare none ∙ before.1 (shorter none l (cases_eq l.place m)),
      )

  -- so a walk from outside ends inside exactly where the last section that it passes has the area on its left
  pub walk_by_last : (k m : ℕ) → m ≤ length way → (b : Bool) → IsWalk which k sections (take m way) false b
      → (IsTrue b ↔ EntersLast which k sections way m)
  walk_by_last k zero within b w = (
    λ is. absurd (false≢true (w ∙ is)),
    λ l. absurd (let low = l.below in omega (arith, low)),
  )
  walk_by_last k (suc m) within b w =
      subst (λ (n : ℕ). IsTrue b ↔ EntersLast which k sections way n) (let e : m + 1 ≡ suc m = omega arith in e)
      (last_more k m here.item here.is parts.0 b step (walk_by_last k m (omega (arith, within)) parts.0 parts.1))
    where
      here : HasItem way m
      here = item_at way m (omega (arith, within))

      front : take (suc m) way ≡ take m way ++ here.item ∷ []
      front =
          ap (λ (n : ℕ). take n way) (let e : suc m ≡ m + 1 = omega arith in e)
          ∙ take_more way m here.item (omega (arith, within))
          ∙ ap (λ (x : Dir). take m way ++ x ∷ []) (get_or_from_slice_get way m here.item here.item here.is)

      parts : (mid : Bool) × IsWalk which k sections (take m way) false mid × IsWalk which k sections (here.item ∷ []) mid b
      parts =
          walk_parts which k sections (take m way) (here.item ∷ []) false b
          (subst (λ (rays : List Dir). IsWalk which k sections rays false b) front w)

      step : IsStep which k sections here.item parts.0 b
      step = subst (λ (after : Bool). IsStep which k sections here.item parts.0 after) parts.2.2 parts.2.1

  -- ---- the passes
  module _ (passes : List Pass) (are : ArePasses which way sections passes) (up : AreInOrder passes) where
    -- a pass and its section
    record OfPass (pass : Pass) : Type 0 where
      pub s : Section
      pub there : Contains sections s
      pub is : IsPassOf which way s pass

    of_pass : (i : ℕ) (pass : Pass) → IsAtPlace passes i pass → OfPass pass
    of_pass i pass is =
        let a = all_at (λ (p : Pass). Any (λ s. IsPassOf which way s p) sections) passes i pass are.only is in
        record { s = a.1; there = (a.0, a.2, a.3); is = a.4 }

    -- a pass of an area at a place, with its own place in the list
    record HasPass (k place : ℕ) : Type 0 where
      pub i : ℕ
      pub pass : Pass
      pub is : IsAtPlace passes i pass
      pub area_is : pass.area ≡ k
      pub place_is : pass.place ≡ place

    has_pass : (k place : ℕ) (ray : Dir) → IsAtPlace way place ray → (s : Section) → Contains sections s → IsAreaAlong which k ray s
        → HasPass k place
    has_pass k place ray ray_is s there along =
        let p = are.whole s there place ray ray_is k along in
        record {
          i = p.there.0;
          pass = p.pass;
          is = slice_get-get_or passes p.there.0 p.pass p.there.1 ∙ ap (λ (x : Pass). Some x) p.there.2;
          area_is = p.area_is;
          place_is = p.place_is;
        }

    -- ---- from an open area to the walk
    pub last_of_open : (x : ℕ) (o : IsOpenAt passes (length way) x) → EntersLast which o.opened.pass.area sections way (x + 1)
    last_of_open x o = record {
      place = o.opened.pass.place;
      below = let e = o.opened.place_is in let low = o.before in omega (arith, e, low);
      ray = p.is.ray;
      ray_is = p.is.ray_is;
      s = p.s;
      there = p.there;
      along = p.is.along;
      left = p.is.enters.0 o.opened.enters;
      none = λ q r t low high r_is t_there t_along.
          let g = has_pass k q r r_is t t_there t_along in
          by_order q low high g (cases_le g.i o.i);
    }
      where
        k : ℕ
        k = o.opened.pass.area

        p : OfPass o.opened.pass
        p = of_pass o.i o.opened.pass o.opened.pass_is

        cases_le : (i j : ℕ) → (i ≤ j) ⊎ (j + 1 ≤ i)
        cases_le i j = grind arith

        by_order : (q : ℕ) → o.opened.pass.place < q → q < x + 1 → (g : HasPass k q) → (g.i ≤ o.i) ⊎ (o.i + 1 ≤ g.i) → ⊥
        by_order q low high g (inl le) =
            let u = (up g.i o.i g.pass o.opened.pass le g.is o.opened.pass_is).place g.area_is in
            let e = g.place_is in
            omega (arith, u, low, e)
        by_order q low high g (inr lt) =
            let n = item_at passes (o.i + 1) (let w = slice_get_within passes g.i g.pass g.is in omega (arith, w, lt)) in
            let u = up o.i (o.i + 1) o.opened.pass n.item (omega arith) o.opened.pass_is n.is in
            let v = up (o.i + 1) g.i n.item g.pass lt n.is g.is in
            let u_area = u.area in
            let v_area = v.area in
            let g_area = g.area_is in
            let same : n.item.area ≡ k = omega (arith, u_area, v_area, g_area) in
            let until = o.opened.until_is.next o.opened.pass n.item o.opened.pass_is n.is same in
            let far = o.opened.far in
            let v_place = v.place (same ∙ sym g_area) in
            let g_place = g.place_is in
            omega (arith, until, far, v_place, g_place, high)

    -- ---- and from the walk to an open area
    -- a pass of the area up to the place
    record IsOfUpTo (k x : ℕ) (pass : Pass) : Type 0 where
      pub area_is : pass.area ≡ k
      pub up_to : pass.place ≤ x

    of_up_to : (k x : ℕ) (pass : Pass) → IsOfUpTo k x pass ⊎ (IsOfUpTo k x pass → ⊥)
    of_up_to k x pass = go (cases_eq pass.area k) (cases_le pass.place x)
      where
        cases_le : (i j : ℕ) → (i ≤ j) ⊎ (i ≤ j → ⊥)
        cases_le i j = grind arith

        go : (pass.area ≡ k) ⊎ (pass.area ≡ k → ⊥) → (pass.place ≤ x) ⊎ (pass.place ≤ x → ⊥)
            → IsOfUpTo k x pass ⊎ (IsOfUpTo k x pass → ⊥)
        go (inl a) (inl b) = inl (record { area_is = a; up_to = b })
        go (inr n) b = inr (λ h. n h.area_is)
        go (inl a) (inr n) = inr (λ h. n h.up_to)

    pub open_of_last : (k x : ℕ) → x < length way → EntersLast which k sections way (x + 1) → IsOpenAt passes (length way) x
    open_of_last k x x_below l = record {
      i = last.place;
      start = last.item.place;
      before = last.holds.up_to;
      opened = by_next (slice_get passes (last.place + 1)) refl;
    }
      where
        g : HasPass k l.place
        g = has_pass k l.place l.ray l.ray_is l.s l.there l.along

        last : LastSo (IsOfUpTo k x) passes g.i
        last =
            last_so (IsOfUpTo k x) (of_up_to k x) passes g.i g.pass g.is
            (record { area_is = g.area_is; up_to = let e = g.place_is in let b = l.below in omega (arith, e, b) })

        p : OfPass last.item
        p = of_pass last.place last.item last.is

        low : l.place ≤ last.item.place
        low =
            let u = (up g.i last.place g.pass last.item last.from g.is last.is).place (g.area_is ∙ sym last.holds.area_is) in
            let e = g.place_is in
            omega (arith, u, e)

        along : IsAreaAlong which k p.is.ray p.s
        along = subst (λ (n : ℕ). IsAreaAlong which n p.is.ray p.s) last.holds.area_is p.is.along

        same_place : (last.item.place ≡ l.place) ⊎ (last.item.place ≡ l.place → ⊥) → last.item.place ≡ l.place
        same_place (inl same) = same
        same_place (inr apart) =
            absurd
            (l.none last.item.place p.is.ray p.s (omega (arith, low, apart)) (let u = last.holds.up_to in omega (arith, u)) p.is.ray_is
            p.there along)

        enters : IsTrue last.item.enters
        enters =
            let same = same_place (cases_eq last.item.place l.place) in
            let ray_same : p.is.ray ≡ l.ray = some_same (sym p.is.ray_is ∙ ap (λ (q : ℕ). slice_get way q) same ∙ l.ray_is) in
            p.is.enters.1 (one_hand k p.is.ray l.ray p.s l.s ray_same p.there l.there along l.along ∙ l.left)

        Opened : Type 0
        Opened = IsOpened passes (length way) last.place last.item.place x

        opened : (until : ℕ) → IsUntil passes (length way) last.place until → x < until → Opened
        opened until until_is far = record {
          pass = last.item;
          pass_is = last.is;
          enters = enters;
          place_is = refl;
          until = until;
          until_is = until_is;
          far = far;
        }

        at_end : ((next : Pass) → IsAtPlace passes (last.place + 1) next → ¬ (next.area ≡ last.item.area)) → Opened
        at_end none =
            opened (length way)
            (record {
              next = λ pass next pass_is next_is same.
                  let e : last.item ≡ pass = some_same (sym last.is ∙ pass_is) in
                  absurd (none next next_is (same ∙ ap (λ (z : Pass). z.area) (sym e)));
              last = λ _ _ _. refl;
            })
            x_below

        at_next : (next : Pass) → IsAtPlace passes (last.place + 1) next → (next.area ≡ last.item.area) ⊎ (next.area ≡ last.item.area → ⊥)
            → Opened
        at_next next next_is (inl same) =
            opened next.place
            (record {
              next = λ pass other pass_is other_is _. ap (λ (z : Pass). z.place) (some_same (sym next_is ∙ other_is));
              last = λ pass pass_is none.
                  let e : last.item ≡ pass = some_same (sym last.is ∙ pass_is) in
                  absurd (none next next_is (same ∙ ap (λ (z : Pass). z.area) e));
            })
            (by_place (λ le. last.next next next_is (record { area_is = same ∙ last.holds.area_is; up_to = le })))
          where
            by_place : (next.place ≤ x → ⊥) → x < next.place
            by_place n = grind (arith, n)
        at_next next next_is (inr apart) =
            at_end (λ other other_is same. apart (ap (λ (z : Pass). z.area) (some_same (sym next_is ∙ other_is)) ∙ same))

        by_next : (o : Option Pass) → slice_get passes (last.place + 1) ≡ o → Opened
        by_next None e = at_end (λ other other_is _. let z = sym e ∙ other_is in cc)
        by_next (Some next) e = at_next next e (cases_eq next.area last.item.area)

-- ---- a sector is inside an area exactly where some area is open on the second turn
pub inside_by_passes : (which : Which) (sections : List Section) → AreHandsAlike which sections → AreSided which sections
    → (rays : List Dir) (passes : List Pass) → ArePasses which (twice rays) sections passes → AreInOrder passes → (i : ℕ)
    → i < length rays → (IsOpenAt passes (length (twice rays)) (length rays + i) ↔ IsSectorInside which sections rays i)
inside_by_passes which sections alike sided rays passes are up i below = (inside, outside)
  where
    x : ℕ
    x = length rays + i

    long : x + 1 ≤ length (twice rays)
    long = omega (arith, below, length-append rays rays)

    front : take (x + 1) (twice rays) ≡ rays ++ take (i + 1) rays
    front =
        ap (λ (n : ℕ). take n (twice rays)) (let e : x + 1 ≡ length rays + (i + 1) = omega arith in e)
        ∙ take-append-add rays rays (i + 1)

    inside : IsOpenAt passes (length (twice rays)) x → IsSectorInside which sections rays i
    inside o =
        let l = last_of_open which sections alike sided (twice rays) passes are up x o in
        let w = walk_exists which o.opened.pass.area sections alike sided (rays ++ take (i + 1) rays) false in
        let ends : w.after ≡ true =
        (walk_by_last which sections alike sided (twice rays) o.opened.pass.area (x + 1) long w.after
        (subst (λ (ds : List Dir). IsWalk which o.opened.pass.area sections ds false w.after) (sym front) w.walk)).1 l in
        record {
          area = o.opened.pass.area;
          s = l.s;
          there = l.there;
          which_is = l.along.which_is;
          area_is = l.along.area_is;
          walk = subst (λ (b : Bool). IsWalk which o.opened.pass.area sections (rays ++ take (i + 1) rays) false b) ends w.walk;
        }

    outside : IsSectorInside which sections rays i → IsOpenAt passes (length (twice rays)) x
    outside h =
        open_of_last which sections alike sided (twice rays) passes are up h.area x (omega (arith, long))
        ((walk_by_last which sections alike sided (twice rays) h.area (x + 1) long true
        (subst (λ (ds : List Dir). IsWalk which h.area sections ds false true) (sym front) h.walk)).0 refl)
