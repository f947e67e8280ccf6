-- The boxes of the shells of areas, as a pass over the areas collects them.
use Rattle.std.proofs.Common.{◌≡◌, ◌⊎◌, inl, inr, ℕ, zero, suc, ◌+◌, List, [], ◌∷◌, ◌++◌, length, take, ap, refl, sym, ◌∙◌, subst, arith}
use Rattle.std.proofs.Common.{length-append}
use Rattle.std.proofs.lemmas.List.{take_more}
use Rattle.std.proofs.lemmas.Option.{slice_get_within, get_or_from_slice_get}
use Rattle.plane_exact.specs.declared.window.Window.{Window}
use Rattle.point_set.specs.declared.figure.Area.{Area}
use Rattle.point_set.specs.Validity.{IsAtPlace}
use Rattle.figure_laws.proofs.Lists.Places.{some_same}
use Rattle.union_locator.specs.Shells.{IsShellBox, AreShellBoxes}

-- an item is the last of a list, or it stands before
record IsLast {X : Type 0} (xs : List X) (x z : X) (place : ℕ) : Type 0 where
  here : place ≡ length xs
  same : x ≡ z

before_or_last :
    {X : Type 0} (xs : List X) (x z : X) (place : ℕ) → IsAtPlace (xs ++ x ∷ []) place z → IsAtPlace xs place z ⊎ IsLast xs x z place
before_or_last [] x z zero at = inr (record { here = refl; same = some_same at })
before_or_last [] x z (suc place) at = cc
before_or_last (y ∷ xs) x z zero at = inl at
before_or_last (y ∷ xs) x z (suc place) at = elim (before_or_last xs x z place at) [
  | inl h ↦ inl h
  | inr h ↦ inr (record { here = ap (λ n. suc n) h.here; same = h.same })
]

-- one area more
pub box_more :
    (areas : List Area) (boxes : List Window) (area : Area) (box : Window) → AreShellBoxes areas boxes → IsShellBox area box
    → AreShellBoxes (areas ++ area ∷ []) (boxes ++ box ∷ [])
box_more areas boxes area box before is = record {
  count =
      let old = before.count in
      omega (arith, old, length-append boxes (box ∷ []), length-append areas (area ∷ []));
  each = λ place a b at at_b. by place a b (before_or_last areas area a place at) (before_or_last boxes box b place at_b);
}
  where
    by :
        (place : ℕ) (a : Area) (b : Window) → IsAtPlace areas place a ⊎ IsLast areas area a place
        → IsAtPlace boxes place b ⊎ IsLast boxes box b place → IsShellBox a b
    by place a b (inl at) (inl at_b) = before.each place a b at at_b
    by place a b (inl at) (inr last) =
        let below = slice_get_within areas place a at in
        let here = last.here in
        let old = before.count in
        absurd (omega (arith, below, here, old))
    by place a b (inr last) (inl at_b) =
        let below = slice_get_within boxes place b at_b in
        let here = last.here in
        let old = before.count in
        absurd (omega (arith, below, here, old))
    by place a b (inr last) (inr last_b) =
        subst (λ z. IsShellBox z b) last.same (subst (λ z. IsShellBox area z) last_b.same is)

-- among the first areas of a list
pub next_box :
    (areas : List Area) (boxes : List Window) (k : ℕ) (area : Area) (box : Window) → AreShellBoxes (take k areas) boxes
    → IsAtPlace areas k area → IsShellBox area box → AreShellBoxes (take (k + 1) areas) (boxes ++ box ∷ [])
next_box areas boxes k area box before at is =
    subst (λ xs. AreShellBoxes xs (boxes ++ box ∷ []))
    (ap (λ z. take k areas ++ z ∷ []) (sym (get_or_from_slice_get areas k area area at))
    ∙ sym (take_more areas k area (slice_get_within areas k area at)))
    (box_more (take k areas) boxes area box before is)
