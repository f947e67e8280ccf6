-- Arrays that are made of an array by a function.
use Prim.Native.Nat.{zero}
use Rattle.std.proofs.Common.{◌≡◌, ◌+◌, ◌<◌, ◌∙◌, ℕ, suc, List, [], ◌∷◌, length, get_or, map, sym, ap, subst, arith}
use Rattle.std.specs.Array.{IsMapOf, MapsFrom}
use Rattle.std.specs.Fn.{Called}
use denote.Param.Members.{Mut}
use Rattle.std.proofs.lemmas.List.{same_lists, get_or-map, length-map}

-- each call of a function that stays as it is gives h of its argument, and so the array is h of each element
pub mapped_by :
    {F A B : Type 0} (g : Mut F (A × Unit {0}) B) (h : A → B) (f : F) (xs : List A) (ys : List B)
    → ((x : A) (y : B) (q : F) → Called g f (x, tt) y q → (q ≡ f) × (y ≡ h x)) → IsMapOf g f xs ys (length xs) → ys ≡ map h xs
mapped_by {F} {A} {B} g h f xs ys gives is =
    let same_length : length ys ≡ length (map h xs) = is.long ∙ sym (length-map xs h) in
    same_lists ys (map h xs) same_length
    (λ k e below.
    let within : k < length xs = omega (arith, below, is.long) in
    let d : A = some xs k within in
    let here : 0 + k ≡ k = omega arith in
    subst (λ (j : ℕ). get_or ys j e ≡ h (get_or xs j d)) here (at_each (length xs) 0 is.each k within d e)
    ∙ sym (get_or-map h xs k d e within))
  where
    some : (zs : List A) (k : ℕ) → k < length zs → A
    some [] k below = absurd (omega (arith, below))
    some (z ∷ zs) k below = z

    at_each : (n i : ℕ) → MapsFrom g f xs ys i n → (k : ℕ) → k < n → (d : A) (e : B) → get_or ys (i + k) e ≡ h (get_or xs (i + k) d)
    at_each zero i m k below d e = absurd (omega (arith, below))
    at_each (suc n) i m zero below d e =
        let here : i + 0 ≡ i = omega arith in
        subst (λ (j : ℕ). get_or ys j e ≡ h (get_or xs j d)) (sym here) (m.4.1 e ∙ (gives m.1 m.2 m.0 m.5).1 ∙ ap h (sym (m.3.1 d)))
    at_each (suc n) i m (suc k) below d e =
        let there : (i + 1) + k ≡ i + suc k = omega arith in
        let rest : MapsFrom g f xs ys (i + 1) n = subst (λ (q : F). MapsFrom g q xs ys (i + 1) n) (gives m.1 m.2 m.0 m.5).0 m.6 in
        subst (λ (j : ℕ). get_or ys j e ≡ h (get_or xs j d)) there (at_each n (i + 1) rest k (omega (arith, below)) d e)
