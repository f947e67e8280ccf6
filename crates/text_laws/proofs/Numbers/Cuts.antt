-- Digits in two parts that are cut, and the value that is found in steps.
use Rattle.std.proofs.Common.{◌≡◌, ℕ, ◌+◌, ◌-◌, ◌*◌, ◌^◌, ◌≤◌, min, true, false, List, ◌++◌, inl, inr, Some, None, length, take, drop, refl}
use Rattle.std.proofs.Common.{sym, ◌∙◌, ap, arith}
use Rattle.std.proofs.lemmas.Bool.{cases_lt}
use Rattle.std.proofs.lemmas.List.{take_all, drop_all, take-append-le, drop-append-le, append-nil}
use Rattle.std.proofs.lemmas.List.Sums.{fold-append}
use Rattle.std.proofs.lemmas.List.Folds.{list_all-append}
use Rattle.std.proofs.Math.Seq.{take-append-add, drop-append-add}
use Rattle.std.specs.List.{list_all}
use Rattle.text_laws.specs.Numbers.{read_on, capped, is_zero, kept_value}
use Rattle.text_laws.proofs.Numbers.Capped.{capped-read_on-min, zeros-grow, capped_below, capped_above}

-- ---- two lists of digits, one after the other

cut_past : {X : Type 0} (w f : List X) (kept n : ℕ) → kept ≡ length w + n →
    (take kept (w ++ f) ≡ take (min kept (length w)) w ++ take (kept - min kept (length w)) f)
    × (drop kept (w ++ f) ≡ drop (min kept (length w)) w ++ drop (kept - min kept (length w)) f)
cut_past w f kept n k =
    let e : min kept (length w) ≡ length w = omega arith in
    let z : kept - length w ≡ n = omega arith in (
      rw (e, z, k, take-append-add w f n, take_all (length w) w (omega arith)) refl,
      rw (e, z, k, drop-append-add w f n, drop_all (length w) w (omega arith)) refl,
    )

-- Where a list of two parts is cut, each part is cut.
pub cut_parts : {X : Type 0} (w f : List X) (kept : ℕ) → kept ≤ length w + length f →
    (take kept (w ++ f) ≡ take (min kept (length w)) w ++ take (kept - min kept (length w)) f)
    × (drop kept (w ++ f) ≡ drop (min kept (length w)) w ++ drop (kept - min kept (length w)) f)
cut_parts w f kept fits = elim (cases_lt (length w) kept) [
  | inr within ↦ (
      let e : min kept (length w) ≡ kept = omega arith in
      let z : kept - kept ≡ 0 = omega arith in
      (rw (e, z, take-append-le kept w f within, append-nil (take kept w)) refl, rw (e, z, drop-append-le kept w f within) refl))
  | inl past ↦ cut_past w f kept (kept - length w) (omega arith)
]

-- All zeros in two parts.
zeros_both : (x y : List ℕ) → list_all is_zero x ≡ true → list_all is_zero y ≡ true → list_all is_zero (x ++ y) ≡ true
zeros_both x y a b = rw (list_all-append is_zero x y, a, b) refl

zeros_not_second : (x y : List ℕ) → list_all is_zero x ≡ true → list_all is_zero y ≡ false → list_all is_zero (x ++ y) ≡ false
zeros_not_second x y a b = rw (list_all-append is_zero x y, a, b) refl

-- Numbers that are cut off at the cap on the way.
capped_cut : (cap n : ℕ) → capped cap n ≡ min n cap
capped_cut cap n = elim (cases_lt n cap) [
  | inl below ↦ capped_below cap n below ∙ omega arith
  | inr above ↦ capped_above cap n above ∙ omega arith
]

capped-zeros : (cap n k : ℕ) → capped cap (capped cap n * 10 ^ k) ≡ capped cap (n * 10 ^ k)
capped-zeros cap n k = elim (cases_lt n cap) [
  | inl below ↦ ap (λ m. capped cap (m * 10 ^ k)) (capped_below cap n below)
  | inr above ↦ ap (λ m. capped cap (m * 10 ^ k)) (capped_above cap n above)
      ∙ capped_above cap (cap * 10 ^ k) (zeros-grow cap k)
      ∙ sym (capped_above cap (n * 10 ^ k) (omega (arith, zeros-grow n k)))
]

capped_in_steps : (cap : ℕ) (x y : List ℕ) (k : ℕ) →
    capped cap (capped cap (read_on (capped cap (read_on 0 x)) y) * 10 ^ k) ≡ capped cap (read_on 0 (x ++ y) * 10 ^ k)
capped_in_steps cap x y k =
    ap (λ m. capped cap (capped cap (read_on m y) * 10 ^ k)) (capped_cut cap (read_on 0 x))
    ∙ ap (λ m. capped cap (m * 10 ^ k)) (capped-read_on-min cap (read_on 0 x) y)
    ∙ capped-zeros cap (read_on (read_on 0 x) y) k
    ∙ ap (λ m. capped cap (m * 10 ^ k)) (sym (fold-append (λ m b. m * 10 + (b - 48)) 0 x y))

-- The four parts of two lists of digits that are cut.
pub record IsCut (digits : List ℕ) (kept : ℕ) (w₁ w₂ f₁ f₂ : List ℕ) : Type 0 where
  pub front : take kept digits ≡ w₁ ++ f₁
  pub back : drop kept digits ≡ w₂ ++ f₂

pub cut : (w f w₁ w₂ f₁ f₂ : List ℕ) (kept split : ℕ) → kept ≤ length w + length f → split ≡ min kept (length w) →
    w₁ ≡ take split w → w₂ ≡ drop split w → f₁ ≡ take (kept - split) f → f₂ ≡ drop (kept - split) f →
    IsCut (w ++ f) kept w₁ w₂ f₁ f₂
cut w f w₁ w₂ f₁ f₂ kept split fits s a b d e =
    rw (a, b, d, e, s) (record { front = (cut_parts w f kept fits).0; back = (cut_parts w f kept fits).1 })

module _ {digits : List ℕ} {kept : ℕ} {w₁ w₂ f₁ f₂ : List ℕ} (cap zeros : ℕ) (c : IsCut digits kept w₁ w₂ f₁ f₂) where
  pub kept_value_not_second : list_all is_zero w₂ ≡ true → list_all is_zero f₂ ≡ false → kept_value cap digits kept zeros ≡ None
  kept_value_not_second a b = rw (c.back, zeros_not_second w₂ f₂ a b) refl

  pub kept_value_some : (first second size : ℕ) → list_all is_zero w₂ ≡ true → list_all is_zero f₂ ≡ true →
      first ≡ capped cap (read_on 0 w₁) → second ≡ capped cap (read_on first f₁) →
      size ≡ capped cap (second * 10 ^ zeros) →
      kept_value cap digits kept zeros ≡ Some size
  kept_value_some first second size a b e g h =
      rw (c.back, zeros_both w₂ f₂ a b, c.front)
      (ap Some (sym (h ∙ ap (λ n. capped cap (n * 10 ^ zeros)) (g ∙ ap (λ n. capped cap (read_on n f₁)) e)
      ∙ capped_in_steps cap w₁ f₁ zeros)))
