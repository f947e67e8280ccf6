-- How far areas stay open from each place of a way, and which places are reached over.
use Rattle.std.proofs.Common.{◌≡◌, ◌⊎◌, inl, inr, ℕ, ◌+◌, ◌<◌, ◌≤◌, Bool, false, IsTrue, ◌↔◌, Option, Some, None, max}
use Rattle.std.proofs.Common.{List, [], ◌∷◌, ◌++◌, length, set, ap, refl, sym, ◌∙◌, subst, arith, get_or-set_same, get_or-set_other}
use Rattle.std.specs.Prelude.{slice_get, slice_index, slice_index_or}
use Rattle.std.proofs.Math.Seq.{get_or-append_seam}
use Rattle.std.specs.Ordering.{nat_cmp, ord_max}
use Rattle.std.proofs.lemmas.Bool.Decides.{nat_tests}
use Rattle.std.proofs.lemmas.Bool.{cases_eq, false≢true}
use Rattle.std.proofs.lemmas.List.{get_or_append_left}
use Rattle.std.proofs.lemmas.Option.{slice_get_within}
use Rattle.figure_laws.proofs.Lists.Places.{some_same}
use Rattle.point_set.specs.Validity.{IsAtPlace}
use Rattle.fan_order.specs.declared.pass.Pass.{Pass}
use Rattle.fan_order.specs.Passes.{IsUntil, IsOpened, IsReachedOver}

-- nothing changes up to one place only
until_one : (passes : List Pass) (end i : ℕ) (pass : Pass) → IsAtPlace passes i pass → (one other : ℕ) → IsUntil passes end i one
    → IsUntil passes end i other → one ≡ other
until_one passes end i pass pass_is one other a b = by_next (slice_get passes (i + 1)) refl
  where
    at_end : ((next : Pass) → IsAtPlace passes (i + 1) next → ¬ (next.area ≡ pass.area)) → one ≡ other
    at_end none = a.last pass pass_is none ∙ sym (b.last pass pass_is none)

    at_next : (next : Pass) → IsAtPlace passes (i + 1) next → (next.area ≡ pass.area) ⊎ (next.area ≡ pass.area → ⊥) → one ≡ other
    at_next next next_is (inl same) = a.next pass next pass_is next_is same ∙ sym (b.next pass next pass_is next_is same)
    at_next next next_is (inr not) =
        at_end (λ x x_is same. not (ap (λ (z : Pass). z.area) (some_same (sym next_is ∙ x_is)) ∙ same))

    by_next : (o : Option Pass) → slice_get passes (i + 1) ≡ o → one ≡ other
    by_next None e = at_end (λ x x_is _. let z = sym e ∙ x_is in cc)
    by_next (Some next) e = at_next next e (cases_eq next.area pass.area)

-- ---- a pass raises the reach of its place
-- where it enters
pub raised : (reach : List ℕ) (passes : List Pass) (i : ℕ) (pass : Pass) → IsAtPlace passes i pass → IsTrue pass.enters
    → pass.place < length reach → (until : ℕ) → IsUntil passes (length reach) i until → (place beyond : ℕ)
    → (beyond < slice_index (set reach pass.place (max (slice_index reach pass.place) until)) place
    ↔ ((beyond < slice_index reach place) ⊎ IsOpened passes (length reach) i place beyond))
raised reach passes i pass pass_is enters within until until_is place beyond = go (cases_eq place pass.place)
  where
    new : List ℕ
    new = set reach pass.place (max (slice_index reach pass.place) until)

    Raised : ℕ → Type 0
    Raised n = beyond < n ↔ ((beyond < slice_index reach place) ⊎ IsOpened passes (length reach) i place beyond)

    farther : (a b : ℕ) → beyond < max a b → (beyond < a) ⊎ (beyond < b)
    farther a b h = grind (arith, h)

    by_part : (place ≡ pass.place) → (beyond < slice_index reach pass.place) ⊎ (beyond < until)
        → (beyond < slice_index reach place) ⊎ IsOpened passes (length reach) i place beyond
    by_part same (inl far) = inl (subst (λ (p : ℕ). beyond < slice_index reach p) (sym same) far)
    by_part same (inr far) = inr (record {
      pass = pass;
      pass_is = pass_is;
      enters = enters;
      place_is = sym same;
      until = until;
      until_is = until_is;
      far = far;
    })

    back : (place ≡ pass.place) → (beyond < slice_index reach place) ⊎ IsOpened passes (length reach) i place beyond
        → beyond < max (slice_index reach pass.place) until
    back same (inl far) =
        let far' : beyond < slice_index reach pass.place = subst (λ (p : ℕ). beyond < slice_index reach p) same far in
        omega (arith, far')
    back same (inr o) =
        let e = until_one passes (length reach) i pass pass_is o.until until o.until_is until_is in
        let far = o.far in
        omega (arith, e, far)

    go : (place ≡ pass.place) ⊎ (place ≡ pass.place → ⊥) → Raised (slice_index new place)
    go (inl same) =
        subst Raised
        (sym (ap (λ (p : ℕ). slice_index new p) same
        ∙ get_or-set_same reach pass.place (max (slice_index reach pass.place) until) 0 within))
        (λ h. by_part same (farther (slice_index reach pass.place) until h), back same)
    go (inr not) =
        subst Raised
        (sym (get_or-set_other reach pass.place place (max (slice_index reach pass.place) until) 0 not))
        (inl, λ h. kept h)
      where
        kept : (beyond < slice_index reach place) ⊎ IsOpened passes (length reach) i place beyond → beyond < slice_index reach place
        kept (inl far) = far
        kept (inr o) =
            absurd (not (sym o.place_is ∙ ap (λ (z : Pass). z.place) (some_same (sym o.pass_is ∙ pass_is))))

-- and where it doesn't nothing is to be raised
pub not_raised : (reach : List ℕ) (passes : List Pass) (i : ℕ) (pass : Pass) → IsAtPlace passes i pass → pass.enters ≡ false
    → (place beyond : ℕ)
    → (beyond < slice_index reach place ↔ ((beyond < slice_index reach place) ⊎ IsOpened passes (length reach) i place beyond))
not_raised reach passes i pass pass_is leaves place beyond = (inl, kept)
  where
    kept : (beyond < slice_index reach place) ⊎ IsOpened passes (length reach) i place beyond → beyond < slice_index reach place
    kept (inl far) = far
    kept (inr o) =
        absurd (false≢true
        (sym leaves ∙ ap (λ (z : Pass). z.enters) (some_same (sym pass_is ∙ o.pass_is)) ∙ o.enters))

-- ---- the passes before place n of their list
abbrev pub AreOpenedBefore : List Pass → ℕ → ℕ → ℕ → ℕ → Type 0
AreOpenedBefore passes end n place beyond = (i : ℕ) × (i < n) × IsOpened passes end i place beyond

-- and one more
pub opened_more : (passes : List Pass) (end n place beyond old new : ℕ) → (beyond < old ↔ AreOpenedBefore passes end n place beyond)
    → (beyond < new ↔ ((beyond < old) ⊎ IsOpened passes end n place beyond))
    → (beyond < new ↔ AreOpenedBefore passes end (n + 1) place beyond)
opened_more passes end n place beyond old new before more = (λ h. fore (more.0 h), λ o. back o (cases_eq o.0 n))
  where
    fore : (beyond < old) ⊎ IsOpened passes end n place beyond → AreOpenedBefore passes end (n + 1) place beyond
    fore (inl far) = let o = before.0 far in (o.0, let low = o.1 in omega (arith, low), o.2)
    fore (inr o) = (n, omega arith, o)

    back : (o : AreOpenedBefore passes end (n + 1) place beyond) → (o.0 ≡ n) ⊎ (o.0 ≡ n → ⊥) → beyond < new
    back o (inl same) = more.1 (inr (subst (λ (i : ℕ). IsOpened passes end i place beyond) same o.2))
    back o (inr not) = more.1 (inl (before.1 (o.0, let low = o.1 in omega (arith, low, not), o.2)))

-- and at the end of the list all
pub opened_all : (passes : List Pass) (end other n place beyond far : ℕ) → other ≡ end → length passes ≤ n
    → (beyond < far ↔ AreOpenedBefore passes end n place beyond)
    → (beyond < far ↔ ((i : ℕ) × IsOpened passes other i place beyond))
opened_all passes end other n place beyond far same all before =
    subst (λ (e : ℕ). beyond < far ↔ ((i : ℕ) × IsOpened passes e i place beyond)) (sym same) (
      λ h. let o = before.0 h in (o.0, o.2),
      λ o. before.1 (o.0, let low = slice_get_within passes o.0 o.1.pass o.1.pass_is in omega (arith, low, all), o.1),
    )

-- ---- places that are reached over
-- how far the places before place n reach
abbrev pub IsFarthest : List ℕ → ℕ → ℕ → Type 0
IsFarthest reach n far = (x : ℕ) → (x < far ↔ ((p : ℕ) × (p < n) × (x < slice_index reach p)))

-- and one more
farthest_more : (reach : List ℕ) (n far : ℕ) → IsFarthest reach n far → IsFarthest reach (n + 1) (max far (slice_index reach n))
farthest_more reach n far before x = (λ h. fore (farther far (slice_index reach n) h), λ o. back o (cases_eq o.0 n))
  where
    farther : (a b : ℕ) → x < max a b → (x < a) ⊎ (x < b)
    farther a b h = grind (arith, h)

    fore : (x < far) ⊎ (x < slice_index reach n) → (p : ℕ) × (p < n + 1) × (x < slice_index reach p)
    fore (inl h) = let o = (before x).0 h in (o.0, let low = o.1 in omega (arith, low), o.2)
    fore (inr h) = (n, omega arith, h)

    back : (o : (p : ℕ) × (p < n + 1) × (x < slice_index reach p)) → (o.0 ≡ n) ⊎ (o.0 ≡ n → ⊥) → x < max far (slice_index reach n)
    back o (inl same) = let h : x < slice_index reach n = subst (λ (p : ℕ). x < slice_index reach p) same o.2 in omega (arith, h)
    back o (inr not) =
        let h = (before x).1 (o.0, let low = o.1 in omega (arith, low, not), o.2) in
        omega (arith, h)

-- by the greater of two numbers as the code takes it
pub farthest_next : (reach : List ℕ) (n far new : ℕ) → IsFarthest reach n far → new ≡ ord_max nat_cmp far (slice_index reach n)
    → IsFarthest reach (n + 1) new
farthest_next reach n far new before is =
    subst (IsFarthest reach (n + 1)) (sym (is ∙ greater far (slice_index reach n))) (farthest_more reach n far before)
  where
    greater : (a b : ℕ) → ord_max nat_cmp a b ≡ max a b
    greater a b = grind (arith, nat_tests)

-- the first n flags say which places are reached over
abbrev pub AreOpened : List ℕ → ℕ → List Bool → Type 0
AreOpened reach n flags = (place : ℕ) → place < n → (IsTrue (slice_index_or flags place false) ↔ IsReachedOver reach place)

-- and one more
pub flags_more : (reach : List ℕ) (n far : ℕ) (flags : List Bool) (flag : Bool) → length flags ≡ n → AreOpened reach n flags
    → IsFarthest reach (n + 1) far → (IsTrue flag ↔ (n < far)) → AreOpened reach (n + 1) (flags ++ flag ∷ [])
flags_more reach n far flags flag count before farthest flag_is place below = go (cases_eq place n)
  where
    IsFlag : Bool → Type 0
    IsFlag b = IsTrue b ↔ IsReachedOver reach place

    go : (place ≡ n) ⊎ (place ≡ n → ⊥) → IsFlag (slice_index_or (flags ++ flag ∷ []) place false)
    go (inl same) =
        subst IsFlag
        (sym (ap (λ (p : ℕ). slice_index_or (flags ++ flag ∷ []) p false) (same ∙ sym count) ∙ get_or-append_seam flags flag [] false)) (
          λ t. let o = (farthest n).0 (flag_is.0 t) in record {
            start = o.0;
            before = let low = o.1 in omega (arith, low, same);
            far = subst (λ (q : ℕ). q < slice_index reach o.0) (sym same) o.2;
          },
          λ r. flag_is.1
              ((farthest n).1
              (r.start, let low = r.before in omega (arith, low, same), subst (λ (q : ℕ). q < slice_index reach r.start) same r.far)),
        )
    go (inr not) =
        let earlier : place < n = omega (arith, below, not) in
        subst IsFlag (sym (get_or_append_left flags (flag ∷ []) false place (omega (arith, earlier, count)))) (before place earlier)
