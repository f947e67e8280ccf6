-- The front of a list that passes a test.
use Rattle.std.proofs.Common.{◌≡◌, ℕ, suc, ◌+◌, ◌-◌, Bool, true, false, cond, List, [], ◌∷◌, length, take, drop, refl, ◌∙◌, ap, arith}
use Rattle.std.proofs.lemmas.Bool.{and_parts, and_from}
use Rattle.std.proofs.lemmas.List.{take_all, take_rest, drop-drop}
use Rattle.std.specs.List.{list_all, prefix_len}
use Rattle.std.proofs.Math.Numerals.{one-add, add-one}

front_by : (p : ℕ → Bool) (x : ℕ) (xs : List ℕ) (b : Bool) → p x ≡ b → list_all p (take (prefix_len p xs) xs) ≡ true →
    list_all p (take (cond b (1 + prefix_len p xs) 0) (x ∷ xs)) ≡ true
front_by p x xs true e h = rw (one-add (prefix_len p xs)) (and_from (p x) _ e h)
front_by p x xs false e h = refl

-- The front that passes a test passes it.
pub list_all-prefix : (p : ℕ → Bool) (xs : List ℕ) → list_all p (take (prefix_len p xs) xs) ≡ true
list_all-prefix p [] = refl
list_all-prefix p (x ∷ xs) = front_by p x xs (p x) refl (list_all-prefix p xs)

-- A list all of which is the front that passes.
pub list_all-whole : (p : ℕ → Bool) (xs : List ℕ) → prefix_len p xs ≡ length xs → list_all p xs ≡ true
list_all-whole p xs e = rw (e, take_all (length xs) xs (omega arith)) at (list_all-prefix p xs)

-- Where all pass, the front that passes is the whole list.
pub prefix_len-all : (p : ℕ → Bool) (xs : List ℕ) → list_all p xs ≡ true → prefix_len p xs ≡ length xs
prefix_len-all p [] h = refl
prefix_len-all p (x ∷ xs) h =
    let (first, rest) = and_parts (p x) (list_all p xs) h in
    rw first (one-add (prefix_len p xs) ∙ ap suc (prefix_len-all p xs rest))

-- What comes after the first of the rest.
pub rest_after : (m r : List ℕ) (n k : ℕ) → r ≡ drop n m → n ≡ k → take (length r - 1) (drop 1 r) ≡ drop (suc k) m
rest_after m r n k e f = rw (take_rest r 1, e, drop-drop 1 n m, f, add-one k) refl
