-- Tests on whole numbers and what they tell, and the laws of 'exactly one of the two'.
use Rattle.std.proofs.Common.{◌≡◌, ℤ, ◌<ℤ◌, ◌≤ℤ◌, Bool, true, false, ap, refl, sym, ◌∙◌, arith}
use Rattle.std.specs.Prelude.{int_le, int_lt}
use Rattle.std.specs.Bool.{MatchBool}
use Rattle.std.proofs.lemmas.Int.{ints}
use Rattle.std.proofs.Math.Bool.{not-not}
use Rattle.point_set.specs.Rings.{differ}

-- ---- tests and what they tell
tells : (b : Bool) (P Q : Type 0) → (b ≡ true → P) → (b ≡ false → Q) → MatchBool b P Q
tells true P Q f g = f refl
tells false P Q f g = g refl

pub tells_lt : (x y : ℤ) → MatchBool (int_lt x y) (x <ℤ y) (y ≤ℤ x)
tells_lt x y = tells (int_lt x y) (x <ℤ y) (y ≤ℤ x) (λ e. omega (arith, ints, e)) (λ e. omega (arith, ints, e))

pub tells_le : (x y : ℤ) → MatchBool (int_le x y) (x ≤ℤ y) (y <ℤ x)
tells_le x y = tells (int_le x y) (x ≤ℤ y) (y <ℤ x) (λ e. omega (arith, ints, e)) (λ e. omega (arith, ints, e))

pub same_tests : (b c : Bool) {P Q R S : Type 0} → MatchBool b P Q → MatchBool c R S → (P → S → ⊥) → (Q → R → ⊥) → b ≡ c
same_tests true true h k f g = refl
same_tests true false h k f g = absurd (f h k)
same_tests false true h k f g = absurd (g h k)
same_tests false false h k f g = refl

-- ---- exactly one of the two
pub differ_none : (b : Bool) → differ b false ≡ b
differ_none true = refl
differ_none false = refl

pub differ_self : (b : Bool) → differ b b ≡ false
differ_self true = refl
differ_self false = refl

pub differ_comm : (b c : Bool) → differ b c ≡ differ c b
differ_comm true true = refl
differ_comm true false = refl
differ_comm false true = refl
differ_comm false false = refl

pub differ_assoc : (b c d : Bool) → differ (differ b c) d ≡ differ b (differ c d)
differ_assoc true true d = sym (not-not d)
differ_assoc true false d = refl
differ_assoc false c d = refl

differ_left_comm : (b c d : Bool) → differ b (differ c d) ≡ differ c (differ b d)
differ_left_comm b c d = sym (differ_assoc b c d) ∙ ap (λ z. differ z d) (differ_comm b c) ∙ differ_assoc c b d

pub differ_mix : (a b c d : Bool) → differ (differ a b) (differ c d) ≡ differ (differ a c) (differ b d)
differ_mix a b c d = differ_assoc a b (differ c d) ∙ ap (differ a) (differ_left_comm b c d) ∙ sym (differ_assoc a c (differ b d))

pub differ_join : (a b c : Bool) → differ (differ a b) (differ b c) ≡ differ a c
differ_join a b c = differ_assoc a b (differ b c) ∙ ap (differ a) (sym (differ_assoc b b c) ∙ ap (λ z. differ z c) (differ_self b))
