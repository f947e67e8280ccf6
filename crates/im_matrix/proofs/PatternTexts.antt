-- Texts, character by character.
use Prim.Native.Nat.{zero}
use Rattle.std.proofs.Common.{◌≡◌, ℕ, suc, ◌≤◌, ◌∙◌, Some, List, [], ◌∷◌, length, drop, sym, ap}
use Rattle.std.specs.Prelude.{slice_get}
use Rattle.std.proofs.lemmas.List.{drop_all}

-- from a place on the text has these characters, and no more
abbrev pub HasFrom : List ℕ → ℕ → List ℕ → Type 0
HasFrom text place [] = length text ≤ place
HasFrom text place (x ∷ xs) = (slice_get text place ≡ Some x) × HasFrom text (suc place) xs

-- one character of it
drop-here : (text : List ℕ) (place x : ℕ) → slice_get text place ≡ Some x → drop place text ≡ x ∷ drop (suc place) text
drop-here [] place x h = cc
drop-here (t ∷ text) zero x h = let same : t ≡ x = cc in ap (λ (z : ℕ). z ∷ text) same
drop-here (t ∷ text) (suc place) x h = drop-here text place x h

-- so these characters are its rest
pub rest_is : (text : List ℕ) (place : ℕ) (xs : List ℕ) → HasFrom text place xs → xs ≡ drop place text
rest_is text place [] h = sym (drop_all place text h)
rest_is text place (x ∷ xs) h = ap (λ (z : List ℕ). x ∷ z) (rest_is text (suc place) xs h.1) ∙ sym (drop-here text place x h.0)
