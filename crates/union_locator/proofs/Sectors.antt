-- A test of all sectors in order.
use Rattle.std.proofs.Common.{◌≡◌, ℕ, ◌-◌, ◌<◌, Bool, true, false, length, get_or, refl, ◌∙◌, subst, arith}
use Rattle.std.specs.Prelude.{MatchBool, IsTrue, ◌↔◌}
use Rattle.std.specs.List.{HoldsAt, AllWithin, range_with_len}
use Rattle.std.proofs.lemmas.Bool.{false≢true}
use Rattle.std.proofs.lemmas.List.FromFn.{length-range_with_len, get_or-range_with_len}

-- a test that stops at the first number for which P fails says whether P holds of all below n
pub all_below : (P : ℕ → Type 0) (b : Bool) (n m : ℕ) → n ≡ m
    → MatchBool b (AllWithin P (range_with_len 0 (n - 0)) 0 (length (range_with_len 0 (n - 0))))
    ((k : ℕ) × (k < length (range_with_len 0 (n - 0))) × HoldsAt (λ i. P i → IsTrue false) (range_with_len 0 (n - 0)) k)
    → IsTrue b ↔ ((i : ℕ) → i < m → P i)
all_below P true n m same h = (λ _ i below. holds i below, λ _. refl)
  where
    holds : (i : ℕ) → i < m → P i
    holds i below =
        let within : i < n - 0 = omega (arith, same, below) in
        subst P (get_or-range_with_len 0 (n - 0) i 0 within ∙ omega arith)
        (h i 0 (omega arith) (omega (arith, within, length-range_with_len 0 (n - 0))))
all_below P false n m same h = (λ e. absurd (false≢true e), λ all. fails all)
  where
    fails : ((i : ℕ) → i < m → P i) → IsTrue false
    fails all =
        let within : h.0 < n - 0 = (let below = h.1 in omega (arith, below, length-range_with_len 0 (n - 0))) in
        let k = get_or (range_with_len 0 (n - 0)) h.0 0 in
        let same_k : k ≡ h.0 = get_or-range_with_len 0 (n - 0) h.0 0 within ∙ omega arith in
        h.2 0 (all k (omega (arith, same, within, same_k)))
