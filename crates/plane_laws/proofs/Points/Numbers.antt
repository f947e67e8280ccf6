-- Points as values: a point is its three numbers.
use Rattle.std.proofs.Common.{◌≡◌, ℤ, pos, ◌<ℤ◌, ap, subst}
use lib.Dec.{T_prop}
use Rattle.plane_laws.specs.Plane.{Point}

abbrev numbered : (x y w : ℤ) → pos 0 <ℤ w → Point
numbered x y w h = record { x = x; y = y; w = w; heavy = h }

-- two points with the same three numbers are one value
pub same_numbers : (p q : Point) → p.x ≡ q.x → p.y ≡ q.y → p.w ≡ q.w → p ≡ q
same_numbers p q ex ey ew =
    subst (λ (w : ℤ). (h : pos 0 <ℤ w) → p ≡ numbered q.x q.y w h) ew
    (λ h. subst (λ (x : ℤ). p ≡ numbered x q.y p.w h) ex
    (subst (λ (y : ℤ). p ≡ numbered p.x y p.w h) ey
    (let one : IsProp (pos 0 <ℤ p.w) = hlevel T_prop in ap (λ (k : pos 0 <ℤ p.w). numbered p.x p.y p.w k) (one p.heavy h))))
    q.heavy
