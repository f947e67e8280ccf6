-- Lists of passes: those of one section, of sections one after another, and in another order.
use Rattle.std.proofs.Common.{◌≡◌, ◌⊎◌, inl, inr, ℕ, zero, suc, ◌+◌, ◌<◌, ◌≤◌, false, Less, Equal, Greater, Ordering, Some}
use Rattle.std.proofs.Common.{List, [], ◌∷◌, ◌++◌, ◌*◌, length, length-append, get_or, take, ap, refl, sym, ◌∙◌, subst, arith}
use Rattle.std.specs.Prelude.{slice_get}
use Rattle.std.specs.Ordering.{ordering_then, nat_cmp, bool_cmp, is_lt}
use Rattle.std.specs.List.{All, Any, Contains}
use Rattle.std.specs.List.Sorted.{IsPermutation, IsSorted}
use Rattle.std.proofs.lemmas.Bool.Decides.{nat_tests}
use Rattle.std.proofs.lemmas.List.{take_more}
use Rattle.std.proofs.lemmas.List.Elements.{All-nil, All-cons, All-append, All-weaker}
use Rattle.std.proofs.lemmas.List.Elements.{Contains-append_left, Contains-append_right, Contains-append_cases}
use Rattle.std.proofs.lemmas.List.Sorted.{All-permutation, Contains-permutation}
use Rattle.std.proofs.lemmas.Option.{slice_get_within, get_or_from_slice_get}
use Rattle.figure_laws.proofs.Lists.Items.{place_left}
use Rattle.figure_laws.proofs.Lists.Places.{some_same}
use Rattle.figure_laws.proofs.Lists.Search.{any_left, any_right}
use Rattle.im_matrix.specs.declared.Which.{Which}
use Rattle.plane_exact.specs.declared.dir.Dir.{Dir}
use Rattle.point_set.specs.Validity.{IsAtPlace}
use Rattle.fan_order.specs.declared.pass.Pass.{Pass}
use Rattle.fan_order.specs.declared.section.Section.{Section}
use Rattle.fan_order.specs.Passes.{twice, IsPassOf, IsPassedAt, ArePasses, AddsPasses}
use Rattle.fan_order.specs.Sections.{IsAreaAlong}
use Rattle.fan_order.proofs.Passes.{IsUpTo, AreInOrder}
use Rattle.fan_order.proofs.Places.{Ascend, one_place}
use Rattle.fan_order.proofs.Searches.{HasItem, item_at}

-- ---- lists of passes
-- of no section
pub passes_of_none : (which : Which) (way : List Dir) → ArePasses which way [] []
passes_of_none which way = record {
  only = All-nil (λ pass. Any (λ s. IsPassOf which way s pass) []);
  whole = λ s there _ _ _ _ _. absurd (let below = there.1 in omega (arith, below));
}

-- of sections one after another
passes_joined : (which : Which) (way : List Dir) (ss ts : List Section) (ps qs : List Pass) → ArePasses which way ss ps
    → ArePasses which way ts qs → ArePasses which way (ss ++ ts) (ps ++ qs)
passes_joined which way ss ts ps qs a b = record {
  only =
      All-append (λ pass. Any (λ s. IsPassOf which way s pass) (ss ++ ts)) ps qs
      (All-weaker (λ pass. Any (λ s. IsPassOf which way s pass) ss) (λ pass. Any (λ s. IsPassOf which way s pass) (ss ++ ts))
      (λ pass h. any_left (λ s. IsPassOf which way s pass) ss ts h) ps a.only)
      (All-weaker (λ pass. Any (λ s. IsPassOf which way s pass) ts) (λ pass. Any (λ s. IsPassOf which way s pass) (ss ++ ts))
      (λ pass h. any_right (λ s. IsPassOf which way s pass) ss ts h) qs b.only);
  whole = λ s there place ray ray_is area along. by_part s place ray ray_is area along (Contains-append_cases ss ts s there);
}
  where
    by_part : (s : Section) (place : ℕ) (ray : Dir) → IsAtPlace way place ray → (area : ℕ) → IsAreaAlong which area ray s
        → Contains ss s ⊎ Contains ts s → IsPassedAt (ps ++ qs) area place
    by_part s place ray ray_is area along (inl there) =
        let p = a.whole s there place ray ray_is area along in
        record { pass = p.pass; there = Contains-append_left ps qs p.pass p.there; area_is = p.area_is; place_is = p.place_is }
    by_part s place ray ray_is area along (inr there) =
        let p = b.whole s there place ray ray_is area along in
        record { pass = p.pass; there = Contains-append_right ps qs p.pass p.there; area_is = p.area_is; place_is = p.place_is }

-- and of one section more
pub passes_more : (which : Which) (way : List Dir) (sections : List Section) (i : ℕ) (s : Section) (old new : List Pass)
    → i < length sections → s ≡ get_or sections i s → ArePasses which way (take i sections) old → AddsPasses which way s old new
    → ArePasses which way (take (i + 1) sections) new
passes_more which way sections i s old new below is are adds =
    subst (λ (ps : List Pass). ArePasses which way (take (i + 1) sections) ps) (sym adds.new_is)
    (subst (λ (ss : List Section). ArePasses which way ss (old ++ adds.more))
    (sym (take_more sections i s below ∙ ap (λ z. take i sections ++ z ∷ []) (sym is)))
    (passes_joined which way (take i sections) (s ∷ []) old adds.more are adds.are))

-- in another order
pub passes_moved : (which : Which) (way : List Dir) (sections : List Section) (old new : List Pass) → IsPermutation old new
    → ArePasses which way sections old → ArePasses which way sections new
passes_moved which way sections old new moved are = record {
  only = All-permutation (λ pass. Any (λ s. IsPassOf which way s pass) sections) old new moved are.only;
  whole = λ s there place ray ray_is area along.
      let p = are.whole s there place ray ray_is area along in
      record { pass = p.pass; there = Contains-permutation old new p.pass moved p.there; area_is = p.area_is; place_is = p.place_is };
}

-- each lies within the two turns
pub passes_below : (which : Which) (rays : List Dir) (sections : List Section) (passes : List Pass)
    → ArePasses which (twice rays) sections passes → All (λ pass. pass.place < 2 * length rays) passes
passes_below which rays sections passes are =
    All-weaker (λ pass. Any (λ s. IsPassOf which (twice rays) s pass) sections) (λ pass. pass.place < 2 * length rays)
    (λ pass h. let w = slice_get_within (twice rays) pass.place h.4.ray h.4.ray_is in omega (arith, w, length-append rays rays))
    passes are.only

-- ---- the passes of one section
-- a place of the second of two lists is one of both
place_right : {X : Type 0} (xs ys : List X) (i : ℕ) (x : X) → IsAtPlace ys i x → IsAtPlace (xs ++ ys) (i + length xs) x
place_right [] ys i x e = subst (λ (n : ℕ). slice_get ys n ≡ Some x) (let z : i ≡ i + 0 = omega arith in z) e
place_right (y ∷ xs) ys i x e =
    subst (λ (n : ℕ). slice_get (y ∷ (xs ++ ys)) n ≡ Some x) (let z : suc (i + length xs) ≡ i + length (y ∷ xs) = omega arith in z)
    (place_right xs ys i x e)

-- and the other way round
record IsPlaceOfSecond {X : Type 0} (xs ys : List X) (i : ℕ) (x : X) : Type 0 where
  pub j : ℕ
  pub is : IsAtPlace ys j x
  pub sum : i ≡ j + length xs

place_of_either : {X : Type 0} (xs ys : List X) (i : ℕ) (x : X) → IsAtPlace (xs ++ ys) i x
    → IsAtPlace xs i x ⊎ IsPlaceOfSecond xs ys i x
place_of_either [] ys i x e = inr (record { j = i; is = e; sum = omega arith })
place_of_either (y ∷ xs) ys zero x e = inl e
place_of_either {X} (y ∷ xs) ys (suc i) x e = go (place_of_either xs ys i x e)
  where
    go : IsAtPlace xs i x ⊎ IsPlaceOfSecond xs ys i x → IsAtPlace (y ∷ xs) (suc i) x ⊎ IsPlaceOfSecond (y ∷ xs) ys (suc i) x
    go (inl h) = inl h
    go (inr h) = inr (record { j = h.j; is = h.is; sum = let e = h.sum in omega (arith, e) })

-- a list of one item has this item
pub only_item : {X : Type 0} (x y : X) → Contains (x ∷ []) y → x ≡ y
only_item {X} x y there = go there.0 there.1 there.2
  where
    go : (i : ℕ) → i < length (x ∷ []) → get_or (x ∷ []) i y ≡ y → x ≡ y
    go zero below e = e
    go (suc i) below e = absurd (omega (arith, below))

-- the pass in the second turn
abbrev pub second : List Dir → Pass → Pass
second rays pass = record { area = pass.area; place = pass.place + length rays; enters = pass.enters }

-- a section of an area is passed once in each turn
pub passes_of_section : (which : Which) (rays : List Dir) (s : Section) (pass : Pass) → Ascend rays → IsPassOf which rays s pass
    → ArePasses which (twice rays) (s ∷ []) (pass ∷ second rays pass ∷ [])
passes_of_section which rays s pass up is = record {
  only =
      All-cons (λ p. Any (λ t. IsPassOf which (twice rays) t p) (s ∷ [])) pass (second rays pass ∷ []) (of_s pass first)
      (All-cons (λ p. Any (λ t. IsPassOf which (twice rays) t p) (s ∷ [])) (second rays pass) [] (of_s (second rays pass) later)
      (All-nil (λ p. Any (λ t. IsPassOf which (twice rays) t p) (s ∷ []))));
  whole = λ t there place ray ray_is area along.
      by_turn place ray area (subst (λ (u : Section). IsAreaAlong which area ray u) (sym (only_item s t there)) along)
      (place_of_either rays rays place ray ray_is);
}
  where
    of_s : (p : Pass) → IsPassOf which (twice rays) s p → Any (λ t. IsPassOf which (twice rays) t p) (s ∷ [])
    of_s p h = (0, s, omega arith, refl, h)

    first : IsPassOf which (twice rays) s pass
    first = record { ray = is.ray; ray_is = place_left rays rays pass.place is.ray is.ray_is; along = is.along; enters = is.enters }

    later : IsPassOf which (twice rays) s (second rays pass)
    later = record { ray = is.ray; ray_is = place_right rays rays pass.place is.ray is.ray_is; along = is.along; enters = is.enters }

    same_place : (j : ℕ) (ray : Dir) (area : ℕ) → IsAtPlace rays j ray → IsAreaAlong which area ray s → pass.place ≡ j
    same_place j ray area ray_is along =
        one_place rays up pass.place j is.ray ray s.dir is.ray_is ray_is is.along.along along.along

    by_turn : (place : ℕ) (ray : Dir) (area : ℕ) → IsAreaAlong which area ray s
        → IsAtPlace rays place ray ⊎ IsPlaceOfSecond rays rays place ray
        → IsPassedAt (pass ∷ second rays pass ∷ []) area place
    by_turn place ray area along (inl ray_is) = record {
      pass = pass;
      there = (0, omega arith, refl);
      area_is = some_same (sym is.along.area_is ∙ along.area_is);
      place_is = same_place place ray area ray_is along;
    }
    by_turn place ray area along (inr h) = record {
      pass = second rays pass;
      there = (1, omega arith, refl);
      area_is = some_same (sym is.along.area_is ∙ along.area_is);
      place_is = ap (λ (n : ℕ). n + length rays) (same_place h.j ray area h.is along) ∙ sym h.sum;
    }

-- another one isn't passed
pub passes_of_other : (which : Which) (way : List Dir) (s : Section)
    → ((area : ℕ) → s.which ≡ which → ¬ (s.area ≡ Some area)) → ArePasses which way (s ∷ []) []
passes_of_other which way s not = record {
  only = All-nil (λ pass. Any (λ t. IsPassOf which way t pass) (s ∷ []));
  whole = λ t there _ ray _ area along.
      let here : IsAreaAlong which area ray s = subst (λ (u : Section). IsAreaAlong which area ray u) (sym (only_item s t there)) along in
      absurd (not area here.which_is here.area_is);
}

-- ---- the order
-- the order by which the code sorts
abbrev pub compare_passes : Pass → Pass → Ordering
compare_passes a b =
    ordering_then (nat_cmp a.area b.area) (ordering_then (nat_cmp a.place b.place) (bool_cmp a.enters b.enters))

-- a pass that isn't less is up to the other
up_to : (a b : Pass) → is_lt (compare_passes b a) ≡ false → IsUpTo a b
up_to a b not = by_area (nat_cmp b.area a.area) refl
  where
    not_less : (o p : Ordering) → nat_cmp b.area a.area ≡ o → nat_cmp b.place a.place ≡ p
        → is_lt (ordering_then o (ordering_then p (bool_cmp b.enters a.enters))) ≡ false
    not_less o p e f =
        subst (λ (q : Ordering). is_lt (ordering_then o (ordering_then q (bool_cmp b.enters a.enters))) ≡ false) f
        (subst (λ (q : Ordering). is_lt (ordering_then q (ordering_then (nat_cmp b.place a.place) (bool_cmp b.enters a.enters))) ≡ false) e
        not)

    by_area : (o : Ordering) → nat_cmp b.area a.area ≡ o → IsUpTo a b
    by_area Less e = absurd (let z = not_less Less (nat_cmp b.place a.place) e refl in cc)
    by_area Greater e =
        let more : a.area < b.area = grind (arith, nat_tests, e) in
        record { area = omega (arith, more); place = λ same. absurd (omega (arith, more, same)) }
    by_area Equal e =
        let same : b.area ≡ a.area = grind (arith, nat_tests, e) in
        record { area = omega (arith, same); place = λ _. by_place (nat_cmp b.place a.place) refl }
      where
        by_place : (o : Ordering) → nat_cmp b.place a.place ≡ o → a.place ≤ b.place
        by_place Less f =
            absurd (let z = not_less Equal Less e f in cc)
        by_place Equal f = grind (arith, nat_tests, f)
        by_place Greater f = grind (arith, nat_tests, f)

-- one after another
up_to_joined : (a b c : Pass) → IsUpTo a b → IsUpTo b c → IsUpTo a c
up_to_joined a b c h k = record {
  area = let x = h.area in let y = k.area in omega (arith, x, y);
  place = λ same.
      let x = h.area in
      let y = k.area in
      let p = h.place (omega (arith, x, y, same)) in
      let q = k.place (omega (arith, x, y, same)) in
      omega (arith, p, q);
}

-- a pass and one d places later
in_order_by : (passes : List Pass) → IsSorted compare_passes passes → (d i : ℕ) (a b : Pass) → IsAtPlace passes i a
    → IsAtPlace passes (i + d) b → IsUpTo a b
in_order_by passes sorted zero i a b a_is b_is =
    let same : a ≡ b = some_same (sym a_is ∙ ap (λ (n : ℕ). slice_get passes n) (let z : i ≡ i + 0 = omega arith in z) ∙ b_is) in
    record {
      area = subst (λ (x : Pass). a.area ≤ x.area) same (omega arith);
      place = λ _. subst (λ (x : Pass). a.place ≤ x.place) same (omega arith);
    }
in_order_by passes sorted (suc d) i a b a_is b_is =
    let b_is' : IsAtPlace passes (i + d + 1) b =
    subst (λ (n : ℕ). IsAtPlace passes n b) (let z : i + suc d ≡ i + d + 1 = omega arith in z) b_is in
    let below : i + d + 1 < length passes = slice_get_within passes (i + d + 1) b b_is' in
    let mid : HasItem passes (i + d) = item_at passes (i + d) (omega (arith, below)) in
    let first : IsUpTo a mid.item = in_order_by passes sorted d i a mid.item a_is mid.is in
    let next : IsUpTo mid.item b =
    up_to mid.item b
    (subst (λ (x : Pass). is_lt (compare_passes b x) ≡ false) (get_or_from_slice_get passes (i + d) mid.item a mid.is)
    (subst (λ (x : Pass). is_lt (compare_passes x (get_or passes (i + d) a)) ≡ false) (get_or_from_slice_get passes (i + d + 1) b a b_is')
    (sorted (i + d) a (omega arith) below))) in
    up_to_joined a mid.item b first next

-- sorted passes are in order
pub in_order : (passes : List Pass) → IsSorted compare_passes passes → AreInOrder passes
in_order passes sorted i j a b le a_is b_is = go (j_after i j le)
  where
    j_after : (i j : ℕ) → i ≤ j → (d : ℕ) × (j ≡ i + d)
    j_after zero j le = (j, omega arith)
    j_after (suc i) zero le = absurd (omega (arith, le))
    j_after (suc i) (suc j) le = let h = j_after i j (omega (arith, le)) in (h.0, let e = h.1 in omega (arith, e))

    go : (d : ℕ) × (j ≡ i + d) → IsUpTo a b
    go h = in_order_by passes sorted h.0 i a b a_is (subst (λ (n : ℕ). IsAtPlace passes n b) h.1 b_is)
