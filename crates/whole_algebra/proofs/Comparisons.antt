-- Comparing whole numbers and fractions: what decides an answer, and the order of fractions.
use Rattle.std.proofs.Common.{◌≡◌, Bool, true, false, ◌⊎◌, inl, inr, ℤ, pos, ◌-ℤ◌, ◌*ℤ◌, ◌<ℤ◌, Ordering, Less, Equal, Greater, cond, refl}
use Rattle.std.proofs.Common.{sym, ◌∙◌, ap, subst, arith}
use Rattle.std.specs.Ordering.{ordering_then, int_cmp}
use Rattle.std.specs.Int.RustNames.{int_lt}
use Rattle.whole_algebra.proofs.Laws.{linear}
use Rattle.whole_algebra.proofs.Signs.{by_order, pos-*-pos, pos-*-neg, pos_factor, neg_factor, zero_factor, pos_nonzero}
use lib.IntN.{*ℤ-zero}

pub int_cmp_less : (a b : ℤ) → a <ℤ b → int_cmp a b ≡ Less
int_cmp_less a b h = let e : true ≡ int_lt a b = omega (arith, linear, h) in
    ap (λ (t : Bool). cond t Less (cond (int_lt b a) Greater Equal)) (sym e)

pub int_cmp_greater : (a b : ℤ) → b <ℤ a → int_cmp a b ≡ Greater
int_cmp_greater a b h =
    let e : false ≡ int_lt a b = omega (arith, linear, h) in
    let f : true ≡ int_lt b a = omega (arith, linear, h) in
    λ i. cond (sym e i) Less (cond (sym f i) Greater Equal)

pub int_cmp_equal : (a b : ℤ) → a ≡ b → int_cmp a b ≡ Equal
int_cmp_equal a b h =
    let e : false ≡ int_lt a b = omega (arith, linear, h) in
    let f : false ≡ int_lt b a = omega (arith, linear, h) in
    λ i. cond (sym e i) Less (cond (sym f i) Greater Equal)

-- two answers are the same where the differences are positive multiples of one number
pub same_int_cmp : (a b c d k l : ℤ) → pos 0 <ℤ k → pos 0 <ℤ l → k *ℤ (b -ℤ a) ≡ l *ℤ (d -ℤ c) → int_cmp a b ≡ int_cmp c d
same_int_cmp a b c d k l hk hl e = by_order a b
    (λ h. int_cmp_less a b h ∙ sym (int_cmp_less c d (omega (arith, linear, grows h))))
    (λ h. int_cmp_equal a b h ∙ sym (int_cmp_equal c d (omega (arith, linear, stays h))))
    (λ h. int_cmp_greater a b h ∙ sym (int_cmp_greater c d (omega (arith, linear, falls h))))
  where
    grows : a <ℤ b → pos 0 <ℤ (d -ℤ c)
    grows h = let p : pos 0 <ℤ (b -ℤ a) = omega (arith, linear, h) in pos_factor l (d -ℤ c) hl (subst (λ z. pos 0 <ℤ z) e (pos-*-pos hk p))

    falls : b <ℤ a → (d -ℤ c) <ℤ pos 0
    falls h = let p : (b -ℤ a) <ℤ pos 0 = omega (arith, linear, h) in neg_factor l (d -ℤ c) hl (subst (λ z. z <ℤ pos 0) e (pos-*-neg hk p))

    stays : a ≡ b → d -ℤ c ≡ pos 0
    stays h = let p : b -ℤ a ≡ pos 0 = omega (arith, linear, h) in
        zero_factor l (d -ℤ c) (pos_nonzero hl) (sym e ∙ ap (λ z. k *ℤ z) p ∙ *ℤ-zero k)

-- an answer is one of the three only
Less≢Equal : ¬ (Less ≡ Equal)
Less≢Equal e = cc

Less≢Greater : ¬ (Less ≡ Greater)
Less≢Greater e = cc

Equal≢Greater : ¬ (Equal ≡ Greater)
Equal≢Greater e = cc

-- what an answer says of the two numbers
pub less_int_cmp : (a b : ℤ) → int_cmp a b ≡ Less → a <ℤ b
less_int_cmp a b e = by_order a b (λ h. h) (λ h. absurd (Less≢Equal (sym e ∙ int_cmp_equal a b h)))
    (λ h. absurd (Less≢Greater (sym e ∙ int_cmp_greater a b h)))

pub greater_int_cmp : (a b : ℤ) → int_cmp a b ≡ Greater → b <ℤ a
greater_int_cmp a b e = by_order a b (λ h. absurd (Less≢Greater (sym (int_cmp_less a b h) ∙ e)))
    (λ h. absurd (Equal≢Greater (sym (int_cmp_equal a b h) ∙ e))) (λ h. h)

pub equal_int_cmp : (a b : ℤ) → int_cmp a b ≡ Equal → a ≡ b
equal_int_cmp a b e = by_order a b (λ h. absurd (Less≢Equal (sym (int_cmp_less a b h) ∙ e))) (λ h. h)
    (λ h. absurd (Equal≢Greater (sym e ∙ int_cmp_greater a b h)))

-- ---- one comparison, and another where it leaves the two equal
pub then_first : (o p r : Ordering) → r ≡ o → ¬ (r ≡ Equal) → r ≡ ordering_then o p
then_first Less p r e n = e
then_first Equal p r e n = absurd (n e)
then_first Greater p r e n = e

pub then_second : (o p : Ordering) → o ≡ Equal → ordering_then o p ≡ p
then_second Less p e = cc
then_second Equal p e = refl
then_second Greater p e = cc

-- where one after the other leaves two equal, each does
pub then_gives_equal : (o p : Ordering) → ordering_then o p ≡ Equal → (o ≡ Equal) × (p ≡ Equal)
then_gives_equal Less p e = cc
then_gives_equal Equal p e = (refl, e)
then_gives_equal Greater p e = cc

pub then_less_from : (a b c d : ℤ) → (a <ℤ b) ⊎ ((a ≡ b) × (c <ℤ d)) → ordering_then (int_cmp a b) (int_cmp c d) ≡ Less
then_less_from a b c d (inl h) = ap (λ o. ordering_then o (int_cmp c d)) (int_cmp_less a b h)
then_less_from a b c d (inr h) = then_second (int_cmp a b) (int_cmp c d) (int_cmp_equal a b h.0) ∙ int_cmp_less c d h.1

pub then_less_gives : (a b c d : ℤ) → ordering_then (int_cmp a b) (int_cmp c d) ≡ Less → (a <ℤ b) ⊎ ((a ≡ b) × (c <ℤ d))
then_less_gives a b c d e = by_order a b inl
    (λ h. inr (h, less_int_cmp c d (sym (then_second (int_cmp a b) (int_cmp c d) (int_cmp_equal a b h)) ∙ e)))
    (λ h. absurd (Less≢Greater (sym e ∙ ap (λ o. ordering_then o (int_cmp c d)) (int_cmp_greater a b h))))

pub then_equal_from : (a b c d : ℤ) → a ≡ b → c ≡ d → ordering_then (int_cmp a b) (int_cmp c d) ≡ Equal
then_equal_from a b c d e f = then_second (int_cmp a b) (int_cmp c d) (int_cmp_equal a b e) ∙ int_cmp_equal c d f

pub then_equal_gives : (a b c d : ℤ) → ordering_then (int_cmp a b) (int_cmp c d) ≡ Equal → (a ≡ b) × (c ≡ d)
then_equal_gives a b c d e =
    let both = then_gives_equal (int_cmp a b) (int_cmp c d) e in
    (equal_int_cmp a b both.0, equal_int_cmp c d both.1)
