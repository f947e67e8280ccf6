-- Parts of lists by the places at which they begin and end.
use Rattle.std.proofs.Common.{◌≡◌, ℕ, suc, ◌+◌, ◌-◌, ◌<◌, ◌≤◌, List, [], ◌∷◌, ◌++◌, length, get_or, take, drop, ap, sym, ◌∙◌, subst, arith}
use Rattle.std.proofs.Common.{length-take, length-drop, get_or-take, get_or-drop}
use Rattle.std.specs.Prelude.{Some, slice_get, slice_range}
use Rattle.std.specs.List.{All}
use Rattle.std.proofs.Math.Seq.{take-add}
use Rattle.std.proofs.lemmas.List.{drop-drop, drop_more, take_all}
use Rattle.std.proofs.lemmas.Option.{slice_get_within, get_or_from_slice_get}

module _ {X : Type 0} (xs : List X) where
  -- what stands from a place on, where it is known
  drop_at_item : (m : ℕ) (root : X) → slice_get xs m ≡ Some root → drop m xs ≡ root ∷ drop (m + 1) xs
  drop_at_item m root is = drop_more xs m root (slice_get_within xs m root is)
      ∙ ap (λ x. x ∷ drop (m + 1) xs) (get_or_from_slice_get xs m root root is)

  take_some : (n : ℕ) (x : X) (ys : List X) → 0 < n → take n (x ∷ ys) ≡ x ∷ take (n - 1) ys
  take_some n x ys h = ap (λ k. take k (x ∷ ys)) (let e : n ≡ suc (n - 1) = omega arith in e)

  -- a part with a root: what stands before the root, the root, and what stands after it
  pub slice_split : (i m j : ℕ) (root : X) → i ≤ m → m < j → slice_get xs m ≡ Some root →
      slice_range xs i j ≡ slice_range xs i m ++ root ∷ slice_range xs (m + 1) j
  slice_split i m j root low high is =
      ap (λ n. take n (drop i xs)) (let e : j - i ≡ (m - i) + (j - m) = omega arith in e)
      ∙ take-add (m - i) (j - m) (drop i xs)
      ∙ ap (λ ys. take (m - i) (drop i xs) ++ take (j - m) ys)
      (drop-drop (m - i) i xs ∙ ap (λ n. drop n xs) (let e : i + (m - i) ≡ m = omega arith in e) ∙ drop_at_item m root is)
      ∙ ap (λ ys. take (m - i) (drop i xs) ++ ys) (take_some (j - m) root (drop (m + 1) xs) (omega arith)
      ∙ ap (λ n. root ∷ take n (drop (m + 1) xs)) (let e : j - m - 1 ≡ j - (m + 1) = omega arith in e))

  -- a part that ends where it begins, and the part that is the whole list
  pub slice_none : (i j : ℕ) → j ≤ i → slice_range xs i j ≡ []
  slice_none i j h = ap (λ n. take n (drop i xs)) (let e : j - i ≡ 0 = omega arith in e)

  pub slice_all : slice_range xs 0 (length xs) ≡ xs
  slice_all = ap (λ n. take n xs) (let e : length xs - 0 ≡ length xs = omega arith in e) ∙ take_all (length xs) xs (omega arith)

  pub length-slice_range : (i j : ℕ) → j ≤ length xs → length (slice_range xs i j) ≡ j - i
  length-slice_range i j h = simp (length-take, length-drop) (omega arith)

  pub get_or-slice_range : (i j k : ℕ) (d : X) → k < j - i → get_or (slice_range xs i j) k d ≡ get_or xs (i + k) d
  get_or-slice_range i j k d h = get_or-take (j - i) (drop i xs) k d h ∙ get_or-drop i xs k d

  -- what holds at each place of a part holds of all its items, and the other way round
  pub All-slice_range : (P : X → Type 0) (i j : ℕ) → j ≤ length xs → ((k : ℕ) (d : X) → i ≤ k → k < j → P (get_or xs k d)) →
      All P (slice_range xs i j)
  All-slice_range P i j h each k d below =
      let within : k < j - i = omega (arith, below, length-slice_range i j h) in
      subst P (sym (get_or-slice_range i j k d within)) (each (i + k) d (omega arith) (omega (arith, within)))

  pub at_slice_range : (P : X → Type 0) (i j : ℕ) → j ≤ length xs → All P (slice_range xs i j) → (k : ℕ) (d : X) → i ≤ k → k < j →
      P (get_or xs k d)
  at_slice_range P i j h all k d low high =
      let within : k - i < j - i = omega (arith, low, high) in
      subst P (get_or-slice_range i j (k - i) d within ∙ ap (λ n. get_or xs n d) (let e : i + (k - i) ≡ k = omega (arith, low) in e))
      (all (k - i) d (omega (arith, within, length-slice_range i j h)))
