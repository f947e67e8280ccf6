use Rattle.std.proofs.Common.{◌≡◌, pos, ◌-ℤ◌, ◌*ℤ◌, [], ◌∷◌, ◌<ℤ◌, refl, ◌∙◌, ap, arith}
use Rattle.whole_algebra.proofs.Polynomials.{var, num, ◌⊖◌, ◌⊗◌, identity}
use Rattle.std.specs.Ordering.{int_cmp}
use Rattle.std.proofs.lemmas.Int.{ints}
use mir.Syntax.{w128}
use Rattle.whole_algebra.proofs.Computed.{read, product, stored}
use Rattle.whole_algebra.proofs.Comparisons.{same_int_cmp}
use Rattle.plane_exact.proofs.Sizes.{numerator_size, weight_size}
use Rattle.plane_exact.proofs.orders.cmp_fractions.Goals as goal

pub returns-then-w-v : goal.returns-then-w-v
returns-then-w-v c =
    let a = c.args in
    let f = c.requires.first in
    let s = c.requires.second in
    let x = read w128 a.x (numerator_size a.x a.w f) refl in
    let u = read w128 a.u (numerator_size a.u a.v s) refl in
    let same : a.w ≡ a.v = omega (arith, ints) in
    let scaled : a.w *ℤ (a.u -ℤ a.x) ≡ pos 1 *ℤ (a.u *ℤ a.w -ℤ a.x *ℤ a.w) = identity (var 0 ⊗ (var 1 ⊖ var 2))
    (num (pos 1) ⊗ (var 1 ⊗ var 0 ⊖ var 2 ⊗ var 0)) (a.w ∷ a.u ∷ a.x ∷ []) refl in
    let one : pos 0 <ℤ pos 1 = record { lt = tt } in
    record {
      order = c.cmp.ensures ∙ (λ i. int_cmp (x.is i) (u.is i))
          ∙ same_int_cmp a.x a.u (a.x *ℤ a.v) (a.u *ℤ a.w) a.w (pos 1) f.heavy one
          (scaled ∙ ap (λ z. pos 1 *ℤ (a.u *ℤ a.w -ℤ a.x *ℤ z)) same);
    }

pub returns-else-w-v : goal.returns-else-w-v
returns-else-w-v c =
    let a = c.args in
    let f = c.requires.first in
    let s = c.requires.second in
    let left = stored w128 (product (read w128 a.x (numerator_size a.x a.w f) refl) (read w128 a.v (weight_size a.u a.v s) refl)) refl in
    let right = stored w128 (product (read w128 a.u (numerator_size a.u a.v s) refl) (read w128 a.w (weight_size a.x a.w f) refl)) refl in
    record { order = c.cmp-else-w-v.ensures ∙ (λ i. int_cmp (left.is i) (right.is i)) }
