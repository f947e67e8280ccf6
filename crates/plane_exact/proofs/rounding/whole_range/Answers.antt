use Rattle.std.proofs.Common.{◌≡◌, ℤ, pos, ◌<ℤ◌, w64, refl, sym, subst, subst₂, arith}
use Rattle.std.proofs.lemmas.Int.{ints, quot-rem}
use Rattle.std.specs.Int.RustNames.{int_div, int_rem}
use Rattle.whole_algebra.proofs.Computed.{sum, difference, literal, stored, fits, wide}
use Rattle.plane_exact.specs.Nodes.{IsRange}
use Rattle.plane_exact.proofs.Ranges.{range_below, range_exact, range_above, quotient, rest, rest_size}
use Rattle.plane_exact.proofs.rounding.whole_range.Goals as goal

pub overflow_add-result : goal.overflow_add-result
overflow_add-result c =
    let q = quotient c.args.x c.args.w c.requires.fraction c.ranges.x c.ranges.w in fits w64
    (sum (stored w64 q refl) (literal (pos 1))) refl

pub returns-then-rest-lt0 : goal.returns-then-rest-lt0
returns-then-rest-lt0 c =
    let x = c.args.x in
    let w = c.args.w in
    let q = stored w64 (quotient x w c.requires.fraction c.ranges.x c.ranges.w) refl in
    let passed : wide (int_rem (wide x) (wide w)) <ℤ pos 0 = omega (arith, ints) in
    let less : int_rem x w <ℤ pos 0 = subst (λ (z : ℤ). z <ℤ pos 0) (rest x w c.requires.fraction c.ranges.x c.ranges.w) passed in
    record {
      range = subst₂ (IsRange x w) (sym (stored w64 (difference q (literal (pos 1))) refl).is) (sym q.is)
          (range_below x w (int_div x w) (int_rem x w) c.requires.fraction.heavy (quot-rem x w) less
          (rest_size x w c.requires.fraction c.ranges.x c.ranges.w).0);
    }

pub returns-else-rest-gt0 : goal.returns-else-rest-gt0
returns-else-rest-gt0 c =
    let x = c.args.x in
    let w = c.args.w in
    let q = stored w64 (quotient x w c.requires.fraction c.ranges.x c.ranges.w) refl in
    let passed : wide (int_rem (wide x) (wide w)) ≡ pos 0 = omega (arith, ints) in
    let none : int_rem x w ≡ pos 0 = subst (λ (z : ℤ). z ≡ pos 0) (rest x w c.requires.fraction c.ranges.x c.ranges.w) passed in
    record {
      range = subst₂ (IsRange x w) (sym q.is) (sym q.is)
          (range_exact x w (int_div x w) (int_rem x w) c.requires.fraction.heavy (quot-rem x w) none);
    }

pub returns-then-rest-gt0 : goal.returns-then-rest-gt0
returns-then-rest-gt0 c =
    let x = c.args.x in
    let w = c.args.w in
    let q = stored w64 (quotient x w c.requires.fraction c.ranges.x c.ranges.w) refl in
    let passed : pos 0 <ℤ wide (int_rem (wide x) (wide w)) = omega (arith, ints) in
    let more : pos 0 <ℤ int_rem x w = subst (λ (z : ℤ). pos 0 <ℤ z) (rest x w c.requires.fraction c.ranges.x c.ranges.w) passed in
    record {
      range = subst₂ (IsRange x w) (sym q.is) (sym (stored w64 (sum q (literal (pos 1))) refl).is)
          (range_above x w (int_div x w) (int_rem x w) c.requires.fraction.heavy (quot-rem x w) more
          (rest_size x w c.requires.fraction c.ranges.x c.ranges.w).1);
    }
