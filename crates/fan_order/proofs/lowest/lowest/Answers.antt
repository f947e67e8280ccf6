use Rattle.std.proofs.Common.{arith}
use Rattle.std.proofs.lemmas.Int.{ints}
use Rattle.fan_order.proofs.Quotients.{parts_of, gcd_of, some_of, size_of, first_fits, second_fits, quotients_of, quotient_sizes}
use Rattle.fan_order.proofs.Quotients.{IsWay-quotient, IsRayOf-quotient}
use Rattle.fan_order.proofs.lowest.lowest.Goals as goal

pub overflow_cast-divisor : goal.overflow_cast-divisor
overflow_cast-divisor c =
    let gcd = c.greatest_divisor-divisor.ensures.greatest in
    let p = parts_of c.args.dir.way c.unsigned_abs.ensures.value c.unsigned_abs-2.ensures.value gcd in
    let h = size_of p in
    omega (arith, ints, h)

pub nonzero_div-result : goal.nonzero_div-result
nonzero_div-result c =
    let gcd = c.greatest_divisor-divisor.ensures.greatest in
    let p = parts_of c.args.dir.way c.unsigned_abs.ensures.value c.unsigned_abs-2.ensures.value gcd in
    (some_of p, first_fits p)

pub nonzero_div-result-2 : goal.nonzero_div-result-2
nonzero_div-result-2 c =
    let gcd = c.greatest_divisor-divisor.ensures.greatest in
    let p = parts_of c.args.dir.way c.unsigned_abs.ensures.value c.unsigned_abs-2.ensures.value gcd in
    (some_of p, second_fits p)

pub invariant_of-result : goal.invariant_of-result
invariant_of-result c =
    let gcd = c.greatest_divisor-divisor.ensures.greatest in
    let p = parts_of c.args.dir.way c.unsigned_abs.ensures.value c.unsigned_abs-2.ensures.value gcd in
    record { way = IsWay-quotient c.args.dir.way (quotients_of p) }

pub returns-clause-ray : goal.returns-clause-ray
returns-clause-ray c =
    let gcd = c.greatest_divisor-divisor.ensures.greatest in
    let p = parts_of c.args.dir.way c.unsigned_abs.ensures.value c.unsigned_abs-2.ensures.value gcd in
    IsRayOf-quotient c.args.dir _ c.greatest_divisor-divisor.result (quotients_of p) (gcd_of p)

pub returns-clause-across : goal.returns-clause-across
returns-clause-across c =
    let gcd = c.greatest_divisor-divisor.ensures.greatest in
    let p = parts_of c.args.dir.way c.unsigned_abs.ensures.value c.unsigned_abs-2.ensures.value gcd in
    (quotient_sizes (quotients_of p)).0

pub returns-clause-above : goal.returns-clause-above
returns-clause-above c =
    let gcd = c.greatest_divisor-divisor.ensures.greatest in
    let p = parts_of c.args.dir.way c.unsigned_abs.ensures.value c.unsigned_abs-2.ensures.value gcd in
    (quotient_sizes (quotients_of p)).1
