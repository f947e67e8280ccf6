-- Greatest common divisors over ℤ: each is a whole combination of its numbers (Bezout), and a reduced triple is the one triple
-- of its proportion. So a point (x, y, w) that stands for (x/w, y/w) with w > 0 is one value per point once it is divided by
-- its greatest common divisor:
--
--     reduced_same x y w x' y' w' reduced reduced' positive positive' ex ey : (x ≡ x') × (y ≡ y') × (w ≡ w')
--
-- where ex : x *ℤ w' ≡ x' *ℤ w, and ey likewise. `reduced_from_IsGcd` and `reduced_quotients` give what it asks for, from
-- Euclid's algorithm by std's `IsGcd`.
use Rattle.std.proofs.Common.{ℕ, zero, suc, ◌≡◌, ◌+◌, ◌*◌, ◌<◌, ◌≤◌, ◌/◌, ◌%◌, [], ◌∷◌, ℤ, pos, negsuc, ◌+ℤ◌, ◌-ℤ◌, ◌*ℤ◌, nat_abs, ◌<ℤ◌}
use Rattle.std.proofs.Common.{◌≤ℤ◌, int_div, int_rem, ap, refl, sym, ◌∙◌, subst, div-add-mod', mod-lt, one-mul, arith}
use Prim.Native.Nat.{◌∣◌}
use Rattle.std.specs.Int.{IsGcd}
use Rattle.std.proofs.lemmas.Nat.Gcd.{dvd_trans, mod-eq-zero_of_dvd, IsGcd-from_zero, IsGcd-from_mod}
use Rattle.std.proofs.lemmas.Int.{quot-rem, unsigned_abs-mul}
use native.Mathlib.Nat.{mul-dvd-mul_right, dvd_of_mul-dvd-mul_right, eq-one_of_dvd-one}
use lib.IntN.{+ℤ_idr, neg_ℤ}
use Rattle.whole_algebra.proofs.Laws.{linear, one-*ℤ, *ℤ_one, minus_one-*ℤ}
use Rattle.whole_algebra.proofs.Polynomials.{var, num, ◌⊕◌, ◌⊖◌, ◌⊗◌, minus, identity}
use Rattle.whole_algebra.proofs.Certificates.{same, same_from, scaled, ◌⊞◌}
use Rattle.whole_algebra.proofs.Signs.{cancel_≡_right, pos_nonzero, pos_factor, scale_≤ℤ, <ℤ_weaken, ≤ℤ_antisymm}

-- ---- Bezout, by Euclid's algorithm
pub record Bezout (a b : ℕ) : Type 0 where
  pub divisor : ℕ
  pub is_gcd : IsGcd a b divisor
  pub s : ℤ
  pub t : ℤ
  pub is : s *ℤ pos a +ℤ t *ℤ pos b ≡ pos divisor

bezout_zero : (a b : ℕ) → b ≡ 0 → Bezout a b
bezout_zero a b e = record {
  divisor = a;
  is_gcd = IsGcd-from_zero a b e;
  s = pos 1;
  t = pos 0;
  is =
      identity (num (pos 1) ⊗ var 0 ⊕ num (pos 0) ⊗ var 1) (var 0) (pos a ∷ pos b ∷ []) refl;
}

-- from a remainder r of a by b, with the quotient q
bezout_up : (a b q r : ℕ) → q * b + r ≡ a → (d : Bezout b r) → IsGcd a b d.divisor → Bezout a b
bezout_up a b q r e d h = record { divisor = d.divisor; is_gcd = h; s = d.t; t = d.s -ℤ d.t *ℤ pos q; is = turned }
  where
    turned : d.t *ℤ pos a +ℤ (d.s -ℤ d.t *ℤ pos q) *ℤ pos b ≡ pos d.divisor
    turned =
        let vs = pos a ∷ pos b ∷ pos q ∷ pos r ∷ d.s ∷ d.t ∷ pos d.divisor ∷ [] in
        let division : pos a ≡ pos q *ℤ pos b +ℤ pos r = ap pos (sym e) in
        same_from (var 5 ⊗ var 0 ⊕ (var 4 ⊖ var 5 ⊗ var 2) ⊗ var 1) (var 6) vs
        (same (var 4 ⊗ var 1 ⊕ var 5 ⊗ var 3) (var 6) d.is ⊞ scaled (var 5) (same (var 0) (var 2 ⊗ var 1 ⊕ var 3) division)) refl

bezout_within : (n a b : ℕ) → b ≤ n → Bezout a b
bezout_within zero a b h = bezout_zero a b (omega arith)
bezout_within (suc n) a zero h = bezout_zero a zero refl
bezout_within (suc n) a (suc b) h =
    let some : 0 < suc b = omega arith in
    let below : a % suc b ≤ n = omega (arith, mod-lt a some) in
    let d = bezout_within n (suc b) (a % suc b) below in
    bezout_up a (suc b) (a / suc b) (a % suc b) (div-add-mod' a (suc b)) d (IsGcd-from_mod a (suc b) d.divisor d.is_gcd)

pub bezout : (a b : ℕ) → Bezout a b
bezout a b = bezout_within b a b (omega arith)

-- ---- reduced triples
abbrev pub Reduced : ℤ → ℤ → ℤ → Type 0
Reduced x y w = (d : ℕ) → d ∣ nat_abs x → d ∣ nat_abs y → d ∣ nat_abs w → d ∣ 1

pub reduced_from_IsGcd : (x y w : ℤ) (g : ℕ) → IsGcd (nat_abs x) (nat_abs y) g → IsGcd g (nat_abs w) 1 → Reduced x y w
reduced_from_IsGcd x y w g h k d p q r = k.2 d (h.2 d p q) r

-- `/` is exact at a divisor
pub exact_quotient : (z : ℤ) (g : ℕ) → g ∣ nat_abs z → int_div z (pos g) *ℤ pos g ≡ z
exact_quotient z g h = sym (+ℤ_idr (int_div z (pos g) *ℤ pos g)) ∙ ap (λ r. int_div z (pos g) *ℤ pos g +ℤ r) (sym (no_rest z h))
    ∙ quot-rem z (pos g)
  where
    no_rest : (z : ℤ) → g ∣ nat_abs z → int_rem z (pos g) ≡ pos 0
    no_rest (pos n) k = ap pos (mod-eq-zero_of_dvd g k)
    no_rest (negsuc n) k = ap (λ m. neg_ℤ (pos m)) (mod-eq-zero_of_dvd g k)

-- the quotients of three numbers by their greatest common divisor g, found from that of the first two
pub reduced_quotients : (x y w : ℤ) (h g : ℕ) → 0 < g → IsGcd (nat_abs x) (nat_abs y) h → IsGcd h (nat_abs w) g
    → Reduced (int_div x (pos g)) (int_div y (pos g)) (int_div w (pos g))
reduced_quotients x y w h g some first second d p q r =
    dvd_of_mul-dvd-mul_right d some
    (subst (λ n. d * g ∣ n) (sym (one-mul g))
    (second.2 (d * g) (first.2 (d * g) (multiple x (dvd_trans _ second.0 first.0) p) (multiple y (dvd_trans _ second.0 first.1) q))
    (multiple w second.1 r)))
  where
    multiple : (z : ℤ) → g ∣ nat_abs z → d ∣ nat_abs (int_div z (pos g)) → d * g ∣ nat_abs z
    multiple z k o = subst (λ n. d * g ∣ n) (sym (unsigned_abs-mul (int_div z (pos g)) (pos g)) ∙ ap nat_abs (exact_quotient z g k))
        (mul-dvd-mul_right d o g)

-- ---- a reduced triple has a combination of 1
pub record Combination (x y w : ℤ) : Type 0 where
  pub a : ℤ
  pub b : ℤ
  pub c : ℤ
  pub is : a *ℤ x +ℤ b *ℤ y +ℤ c *ℤ w ≡ pos 1

-- a number's absolute value is the number times 1 or -1
unit : ℤ → ℤ
unit (pos n) = pos 1
unit (negsuc n) = negsuc 0

unit-* : (z : ℤ) → unit z *ℤ z ≡ pos (nat_abs z)
unfolding unit
unit-* (pos n) = one-*ℤ (pos n)
unit-* (negsuc n) = minus_one-*ℤ (negsuc n)

pub combination : (x y w : ℤ) → Reduced x y w → Combination x y w
combination x y w reduced = record { a = e.s *ℤ d.s *ℤ unit x; b = e.s *ℤ d.t *ℤ unit y; c = e.t *ℤ unit w; is = joined }
  where
    d : Bezout (nat_abs x) (nat_abs y)
    d = bezout (nat_abs x) (nat_abs y)

    e : Bezout d.divisor (nat_abs w)
    e = bezout d.divisor (nat_abs w)

    one : e.divisor ≡ 1
    one = eq-one_of_dvd-one (reduced e.divisor (dvd_trans _ e.is_gcd.0 d.is_gcd.0) (dvd_trans _ e.is_gcd.0 d.is_gcd.1) e.is_gcd.1)

    joined : e.s *ℤ d.s *ℤ unit x *ℤ x +ℤ e.s *ℤ d.t *ℤ unit y *ℤ y +ℤ e.t *ℤ unit w *ℤ w ≡ pos 1
    joined =
        let vs = x ∷ y ∷ w ∷ unit x ∷ unit y ∷ unit w ∷ d.s ∷ d.t ∷ e.s ∷ e.t ∷ pos d.divisor ∷ pos e.divisor ∷ pos (nat_abs x) ∷ pos
        (nat_abs y) ∷ pos (nat_abs w) ∷ [] in
        let last : pos e.divisor ≡ pos 1 = ap pos one in
        same_from (var 8 ⊗ var 6 ⊗ var 3 ⊗ var 0 ⊕ var 8 ⊗ var 7 ⊗ var 4 ⊗ var 1 ⊕ var 9 ⊗ var 5 ⊗ var 2) (num (pos 1)) vs
        (scaled (var 8 ⊗ var 6) (same (var 3 ⊗ var 0) (var 12) (unit-* x))
        ⊞ scaled (var 8 ⊗ var 7) (same (var 4 ⊗ var 1) (var 13) (unit-* y))
        ⊞ scaled (var 9) (same (var 5 ⊗ var 2) (var 14) (unit-* w))
        ⊞ scaled (var 8) (same (var 6 ⊗ var 12 ⊕ var 7 ⊗ var 13) (var 10) d.is)
        ⊞ same (var 8 ⊗ var 10 ⊕ var 9 ⊗ var 14) (var 11) e.is
        ⊞ same (var 11) (num (pos 1)) last) refl

-- ---- and is alone in its proportion
-- w' is w times a whole number, so it is not less
not_less : (x y w x' y' w' : ℤ) → Reduced x y w → pos 0 <ℤ w → pos 0 <ℤ w' → x *ℤ w' ≡ x' *ℤ w → y *ℤ w' ≡ y' *ℤ w → w ≤ℤ w'
not_less x y w x' y' w' reduced positive positive' ex ey = subst (λ z. w ≤ℤ z) multiple
    (omega (arith, linear, scale_≤ℤ (<ℤ_weaken positive) one_or_more, *ℤ_one w))
  where
    k : Combination x y w
    k = combination x y w reduced

    multiple : w *ℤ (k.a *ℤ x' +ℤ k.b *ℤ y' +ℤ k.c *ℤ w') ≡ w'
    multiple =
        let vs = x ∷ y ∷ w ∷ x' ∷ y' ∷ w' ∷ k.a ∷ k.b ∷ k.c ∷ [] in
        same_from (var 2 ⊗ (var 6 ⊗ var 3 ⊕ var 7 ⊗ var 4 ⊕ var 8 ⊗ var 5)) (var 5) vs
        (scaled (minus (var 6)) (same (var 0 ⊗ var 5) (var 3 ⊗ var 2) ex)
        ⊞ scaled (minus (var 7)) (same (var 1 ⊗ var 5) (var 4 ⊗ var 2) ey)
        ⊞ scaled (var 5) (same (var 6 ⊗ var 0 ⊕ var 7 ⊗ var 1 ⊕ var 8 ⊗ var 2) (num (pos 1)) k.is)) refl

    one_or_more : pos 1 ≤ℤ (k.a *ℤ x' +ℤ k.b *ℤ y' +ℤ k.c *ℤ w')
    one_or_more = let h : pos 0 <ℤ (k.a *ℤ x' +ℤ k.b *ℤ y' +ℤ k.c *ℤ w') =
        pos_factor w (k.a *ℤ x' +ℤ k.b *ℤ y' +ℤ k.c *ℤ w') positive (subst (λ z. pos 0 <ℤ z) (sym multiple) positive') in
        omega (arith, linear, h)

pub reduced_same : (x y w x' y' w' : ℤ) → Reduced x y w → Reduced x' y' w' → pos 0 <ℤ w → pos 0 <ℤ w' → x *ℤ w' ≡ x' *ℤ w
    → y *ℤ w' ≡ y' *ℤ w → (x ≡ x') × (y ≡ y') × (w ≡ w')
reduced_same x y w x' y' w' reduced reduced' positive positive' ex ey = (at_one_weight x x' ex, at_one_weight y y' ey, same_weight)
  where
    same_weight : w ≡ w'
    same_weight = ≤ℤ_antisymm (not_less x y w x' y' w' reduced positive positive' ex ey)
        (not_less x' y' w' x y w reduced' positive' positive (sym ex) (sym ey))

    at_one_weight : (u v : ℤ) → u *ℤ w' ≡ v *ℤ w → u ≡ v
    at_one_weight u v e = cancel_≡_right w u v (pos_nonzero positive) (ap (λ z. u *ℤ z) same_weight ∙ e)
