-- The parts of a formed number.
use Rattle.std.proofs.Common.{◌≡◌, ℕ, ◌+◌, Bool, true, ◌&&◌, nat_lt, List, ◌++◌, length, refl}
use Rattle.std.proofs.lemmas.Bool.{and_parts, and_from}
use Rattle.std.proofs.lemmas.List.Folds.{list_all-append}
use Rattle.std.specs.List.{list_all}
use Rattle.std.specs.Char.{is_ascii_digit}
use Rattle.text_laws.specs.Numbers.{unsigned, mantissa, after_mantissa, whole_part, fraction_part, is_formed, is_mantissa, is_exponent}

-- The digits before and after the point.
pub digits_both : (w f : List ℕ) (b : Bool) → list_all is_ascii_digit w ≡ true → (list_all is_ascii_digit f && b) ≡ true →
    list_all is_ascii_digit (w ++ f) ≡ true
digits_both w f b h k = rw (list_all-append is_ascii_digit w f, h, (and_parts (list_all is_ascii_digit f) b k).0) refl

-- A text whose parts are those of a number has its form.
pub formed_by : (text m x w f : List ℕ) →
    m ≡ mantissa (unsigned text) → x ≡ after_mantissa (unsigned text) → w ≡ whole_part m → f ≡ fraction_part m →
    (list_all is_ascii_digit f && nat_lt 0 (length w + length f)) ≡ true → is_exponent x ≡ true → is_formed text ≡ true
formed_by text m x w f e₁ e₂ e₃ e₄ h k = and_from (is_mantissa (mantissa (unsigned text))) _ (rw (e₃, e₄, e₁) at h) (rw e₂ at k)
