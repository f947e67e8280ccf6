-- Sizes of numbers, from the limit on coordinates: what `Computed` is told of parameters.
use Rattle.std.proofs.Common.{◌≡◌, ◌≤◌, ℤ, ◌-ℤ◌, ◌*ℤ◌, unsigned_abs, w64, refl, arith}
use Rattle.std.proofs.lemmas.Int.{ints}
use mir.Syntax.{w128}
use Rattle.whole_algebra.proofs.Computed.{Computes, read, difference, product, stored}
use Rattle.plane_exact.specs.Limits.{limit, spread, widest, heaviest, largest, longest, farthest}
use Rattle.plane_exact.specs.Directions.{IsWay}
use Rattle.plane_exact.specs.Nodes.{IsFraction}
use Rattle.plane_exact.specs.Places.{IsInLimit}
use Rattle.plane_exact.specs.declared.point.Pt.{Pt}
use Rattle.whole_algebra.proofs.Computed.{narrow, wide}

pub abscissa_size : (p : Pt) → IsInLimit p → unsigned_abs p.x ≤ limit
abscissa_size p h = omega (arith, ints, h.left, h.right)

pub height_size : (p : Pt) → IsInLimit p → unsigned_abs p.y ≤ limit
height_size p h = omega (arith, ints, h.bottom, h.top)

-- the difference of two coordinates
pub step : (x y : ℤ) → unsigned_abs x ≤ limit → unsigned_abs y ≤ limit → Computes (narrow y -ℤ narrow x) (y -ℤ x) spread
step x y h k = difference (read w64 y k refl) (read w64 x h refl)

-- the way from one position to another
pub across : (a b : Pt) → IsInLimit a → IsInLimit b → Computes (narrow (narrow b.x -ℤ narrow a.x)) (b.x -ℤ a.x) spread
across a b h k = stored w64 (step a.x b.x (abscissa_size a h) (abscissa_size b k)) refl

pub upward : (a b : Pt) → IsInLimit a → IsInLimit b → Computes (narrow (narrow b.y -ℤ narrow a.y)) (b.y -ℤ a.y) spread
upward a b h k = stored w64 (step a.y b.y (height_size a h) (height_size b k)) refl

-- the cross product of two ways from one position
pub turned :
    (a b c : Pt) → IsInLimit a → IsInLimit b → IsInLimit c
    → Computes
    (narrow (narrow b.x -ℤ narrow a.x) *ℤ narrow (narrow c.y -ℤ narrow a.y) -ℤ narrow (narrow b.y -ℤ narrow a.y) *ℤ narrow
    (narrow c.x -ℤ narrow a.x)) ((b.x -ℤ a.x) *ℤ (c.y -ℤ a.y) -ℤ (b.y -ℤ a.y) *ℤ (c.x -ℤ a.x)) widest
turned a b c h k l = difference (product (across a b h k) (upward a c h l)) (product (upward a b h k) (across a c h l))

-- the numbers of a fraction
pub numerator_size : (x w : ℤ) → IsFraction x w → unsigned_abs x ≤ largest
numerator_size x w f = omega (arith, ints, f.light, f.low, f.high)

pub weight_size : (x w : ℤ) → IsFraction x w → unsigned_abs w ≤ heaviest
weight_size x w f = omega (arith, ints, f.heavy, f.light)

-- how far a fraction is beyond a coordinate
pub gap : (x w k : ℤ) → IsFraction x w → unsigned_abs k ≤ limit → Computes (wide x -ℤ narrow k *ℤ wide w) (x -ℤ k *ℤ w) longest
gap x w k f h = difference (read w128 x (numerator_size x w f) refl) (product (read w64 k h refl) (read w128 w (weight_size x w f) refl))

-- the numbers of a fraction, as read
pub plain_numerator : (x w : ℤ) → IsFraction x w → wide x ≡ x
plain_numerator x w f = (read w128 x (numerator_size x w f) refl).is

pub plain_weight : (x w : ℤ) → IsFraction x w → wide w ≡ w
plain_weight x w f = (read w128 w (weight_size x w f) refl).is

pub plain_product : (k x w : ℤ) → unsigned_abs k ≤ limit → IsFraction x w → narrow k *ℤ wide w ≡ k *ℤ w
plain_product k x w h f = (product (read w64 k h refl) (read w128 w (weight_size x w f) refl)).is

-- the parts of a direction
pub way_size_across : (dx dy : ℤ) → IsWay dx dy → unsigned_abs dx ≤ farthest
way_size_across dx dy h = omega (arith, ints, h.left, h.right)

pub way_size_above : (dx dy : ℤ) → IsWay dx dy → unsigned_abs dy ≤ farthest
way_size_above dx dy h = omega (arith, ints, h.bottom, h.top)
