use Rattle.std.proofs.Common.{◌≡◌, ℕ, ◌<◌, unsigned_abs, sym, subst, subst₂, arith}
use Rattle.std.specs.Int.{◌∣◌}
use Rattle.std.proofs.lemmas.Int.{ints}
use Rattle.std.proofs.lemmas.Nat.Gcd.{dvd_trans}
use Rattle.std.proofs.Math.Nat.{pos_of_dvd_of_pos}
use Rattle.whole_algebra.proofs.Computed.{wide}
use Rattle.plane_exact.proofs.divisors.common_divisor.Goals as goal

-- what the calls gave, in terms of the three numbers
size : (c : goal.After-from) → unsigned_abs (wide c.from.result) ≡ c.greatest_divisor.result
size c = omega (arith, ints)

first : (c : goal.After-from) → c.unsigned_abs.result ≡ unsigned_abs c.args.x
first c = omega (arith, ints)

second : (c : goal.After-from) → c.unsigned_abs-2.result ≡ unsigned_abs c.args.y
second c = omega (arith, ints)

third : (c : goal.After-from) → unsigned_abs (wide c.args.w) ≡ unsigned_abs c.args.w
third c = omega (arith, ints)

pub returns-clause-positive : goal.returns-clause-positive
returns-clause-positive c =
    let h = c.greatest_divisor-of_two.ensures.greatest in
    let k = c.greatest_divisor.ensures.greatest in
    let some : 0 < unsigned_abs (wide c.args.w) = omega (arith, ints) in
    let positive : 0 < c.greatest_divisor.result = pos_of_dvd_of_pos (dvd_trans c.greatest_divisor.result k.0 h.0) some in
    omega (arith, ints)

pub returns-clause-x : goal.returns-clause-x
returns-clause-x c =
    subst₂ (λ (a b : ℕ). a ∣ b) (sym (size c)) (first c)
    (dvd_trans c.greatest_divisor.result c.greatest_divisor.ensures.greatest.0 c.greatest_divisor-of_two.ensures.greatest.1)

pub returns-clause-y : goal.returns-clause-y
returns-clause-y c = subst₂ (λ (a b : ℕ). a ∣ b) (sym (size c)) (second c) c.greatest_divisor.ensures.greatest.1

pub returns-clause-w : goal.returns-clause-w
returns-clause-w c =
    subst₂ (λ (a b : ℕ). a ∣ b) (sym (size c)) (third c)
    (dvd_trans c.greatest_divisor.result c.greatest_divisor.ensures.greatest.0 c.greatest_divisor-of_two.ensures.greatest.0)

pub returns-clause-greatest : goal.returns-clause-greatest
returns-clause-greatest c = λ d x y w.
    let divides = λ (n : ℕ). d ∣ n in
    let two = c.greatest_divisor-of_two.ensures.greatest.2 d (subst divides (sym (third c)) w) (subst divides (sym (first c)) x) in
    subst divides (sym (size c)) (c.greatest_divisor.ensures.greatest.2 d two (subst divides (sym (second c)) y))
