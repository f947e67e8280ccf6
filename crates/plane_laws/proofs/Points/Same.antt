-- The same point: an equivalence, and the test of it.
use Rattle.std.proofs.Common.{◌≡◌, ℤ, pos, ◌*ℤ◌, ◌<ℤ◌, [], ◌∷◌, ap, refl, sym, ◌∙◌}
use Rattle.std.specs.Bool.{Decides}
use Rattle.std.specs.Ordering.{int_eq}
use Rattle.std.proofs.lemmas.Bool.Decides.{Decides-int_eq, Decides-and, Decides-like, same_from_decides}
use Rattle.whole_algebra.proofs.Polynomials.{var, ◌⊗◌, identity}
use Rattle.whole_algebra.proofs.Signs.{cancel_≡, pos_nonzero}
use Rattle.plane_laws.specs.Plane.{Point, IsSamePoint, is_same_point}

-- two equal fractions, and the second equal to a third
carried : (a b c d e f : ℤ) → pos 0 <ℤ d → a *ℤ d ≡ c *ℤ b → c *ℤ f ≡ e *ℤ d → a *ℤ f ≡ e *ℤ b
carried a b c d e f heavy h k =
    let vs = a ∷ b ∷ c ∷ d ∷ e ∷ f ∷ [] in
    cancel_≡ d (a *ℤ f) (e *ℤ b) (pos_nonzero heavy)
    (identity (var 3 ⊗ (var 0 ⊗ var 5)) (var 0 ⊗ var 3 ⊗ var 5) vs refl
    ∙ ap (λ z. z *ℤ f) h
    ∙ identity (var 2 ⊗ var 1 ⊗ var 5) (var 2 ⊗ var 5 ⊗ var 1) vs refl
    ∙ ap (λ z. z *ℤ b) k
    ∙ identity (var 4 ⊗ var 3 ⊗ var 1) (var 3 ⊗ (var 4 ⊗ var 1)) vs refl)

pub same_refl : (p : Point) → IsSamePoint p p
same_refl p = record { across = refl; above = refl }

pub same_sym : {p q : Point} → IsSamePoint p q → IsSamePoint q p
same_sym h = record { across = sym h.across; above = sym h.above }

pub same_trans : {p q r : Point} → IsSamePoint p q → IsSamePoint q r → IsSamePoint p r
same_trans {p} {q} {r} h k = record {
  across = carried p.x p.w q.x q.w r.x r.w q.heavy h.across k.across;
  above = carried p.y p.w q.y q.w r.y r.w q.heavy h.above k.above;
}

pub Decides-is_same_point : (p q : Point) → Decides (is_same_point p q) (IsSamePoint p q)
Decides-is_same_point p q =
    Decides-like (is_same_point p q) (λ h. record { across = h.0; above = h.1 }) (λ h. (h.across, h.above))
    (Decides-and (int_eq (p.x *ℤ q.w) (q.x *ℤ p.w)) (int_eq (p.y *ℤ q.w) (q.y *ℤ p.w))
    (Decides-int_eq (p.x *ℤ q.w) (q.x *ℤ p.w)) (Decides-int_eq (p.y *ℤ q.w) (q.y *ℤ p.w)))

-- the test gives the same answer at the same points
pub same_test : {p p' q q' : Point} → IsSamePoint p p' → IsSamePoint q q' → is_same_point p q ≡ is_same_point p' q'
same_test {p} {p'} {q} {q'} h k =
    same_from_decides (is_same_point p q) (is_same_point p' q') (Decides-is_same_point p q)
    (Decides-like (is_same_point p' q') (λ e. same_trans h (same_trans e (same_sym k))) (λ e. same_trans (same_sym h) (same_trans e k))
    (Decides-is_same_point p' q'))
