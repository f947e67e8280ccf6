-- Signs of sums and products over ℤ, products along an order, and cases by sign or by order. The names say what they are given:
-- `pos-*-neg` is a positive number times a negative one.
--
--     apart : (a b : ℤ) → ¬ (a ≡ b) → pos 0 <ℤ ((a -ℤ b) *ℤ (a -ℤ b))
--     apart a b n = square_pos (a -ℤ b) (λ e. n (omega (arith, linear, e)))
use Rattle.std.proofs.Common.{◌≡◌, ◌*◌, ◌⊎◌, inl, inr, ℤ, pos, negsuc, ◌+ℤ◌, ◌-ℤ◌, ◌*ℤ◌, neg_ℤ, ◌<ℤ◌, ◌≤ℤ◌, ap, sym, ◌∙◌, lt→ltb, ltb→lt}
use Rattle.std.proofs.Common.{mul-pos, arith}
use Rattle.std.proofs.lemmas.Int.{by_lt_z}
use lib.IntN.{*ℤ_comm, zero-*ℤ}
use lib.Signed.{<ℤ_irrefl, <ℤ-≤ℤ_trans}
use Rattle.whole_algebra.proofs.Laws.{linear, *ℤ--ℤ, neg-*ℤ, *ℤ-neg}

-- ---- cases
pub by_order {ℓ} : {P : Type ℓ} (a b : ℤ) → (a <ℤ b → P) → (a ≡ b → P) → (b <ℤ a → P) → P
by_order {P = P} a b f g h = go (three a b)
  where
    three : (a b : ℤ) → (a <ℤ b) ⊎ ((a ≡ b) ⊎ (b <ℤ a))
    three a b = by_lt_z a b inl (λ p. by_lt_z b a (λ q. inr (inr q)) (λ q. inr (inl (omega (arith, linear, p, q)))))

    go : (a <ℤ b) ⊎ ((a ≡ b) ⊎ (b <ℤ a)) → P
    go (inl p) = f p
    go (inr (inl e)) = g e
    go (inr (inr q)) = h q

pub by_sign {ℓ} : {P : Type ℓ} (a : ℤ) → (a <ℤ pos 0 → P) → (a ≡ pos 0 → P) → (pos 0 <ℤ a → P) → P
by_sign a = by_order a (pos 0)

pub sign_of : (a : ℤ) → (a <ℤ pos 0) ⊎ ((a ≡ pos 0) ⊎ (pos 0 <ℤ a))
sign_of a = by_sign a inl (λ e. inr (inl e)) (λ h. inr (inr h))

-- ---- the order
pub <ℤ_weaken : {a b : ℤ} → a <ℤ b → a ≤ℤ b
<ℤ_weaken {a} {b} h = omega (arith, linear, h)

pub <ℤ_trans : {a b c : ℤ} → a <ℤ b → b <ℤ c → a <ℤ c
<ℤ_trans {a} {b} {c} h k = omega (arith, linear, h, k)

pub ≤ℤ_trans : {a b c : ℤ} → a ≤ℤ b → b ≤ℤ c → a ≤ℤ c
≤ℤ_trans {a} {b} {c} h k = omega (arith, linear, h, k)

pub ≤ℤ-<ℤ_trans : {a b c : ℤ} → a ≤ℤ b → b <ℤ c → a <ℤ c
≤ℤ-<ℤ_trans {a} {b} {c} h k = omega (arith, linear, h, k)

pub ≤ℤ_antisymm : {a b : ℤ} → a ≤ℤ b → b ≤ℤ a → a ≡ b
≤ℤ_antisymm {a} {b} h k = omega (arith, linear, h, k)

pub <ℤ_apart : {a b : ℤ} → a <ℤ b → ¬ (a ≡ b)
<ℤ_apart {a} {b} h e = omega (arith, linear, h, e)

pub not_<ℤ : (a b : ℤ) → ¬ (a <ℤ b) → b ≤ℤ a
not_<ℤ a b n = by_lt_z a b (λ h. absurd (n h)) (λ h. h)

pub not_≤ℤ : (a b : ℤ) → ¬ (a ≤ℤ b) → b <ℤ a
not_≤ℤ a b n = by_lt_z b a (λ h. h) (λ h. absurd (n h))

-- ---- sums
pub pos-+-pos : {a b : ℤ} → pos 0 <ℤ a → pos 0 <ℤ b → pos 0 <ℤ (a +ℤ b)
pos-+-pos {a} {b} h k = omega (arith, linear, h, k)

pub pos-+-nonneg : {a b : ℤ} → pos 0 <ℤ a → pos 0 ≤ℤ b → pos 0 <ℤ (a +ℤ b)
pos-+-nonneg {a} {b} h k = omega (arith, linear, h, k)

pub nonneg-+-pos : {a b : ℤ} → pos 0 ≤ℤ a → pos 0 <ℤ b → pos 0 <ℤ (a +ℤ b)
nonneg-+-pos {a} {b} h k = omega (arith, linear, h, k)

pub nonneg-+-nonneg : {a b : ℤ} → pos 0 ≤ℤ a → pos 0 ≤ℤ b → pos 0 ≤ℤ (a +ℤ b)
nonneg-+-nonneg {a} {b} h k = omega (arith, linear, h, k)

-- two numbers of at least 0 with the sum 0
pub sum_zero : (a b : ℤ) → pos 0 ≤ℤ a → pos 0 ≤ℤ b → a +ℤ b ≡ pos 0 → (a ≡ pos 0) × (b ≡ pos 0)
sum_zero a b h k e = (omega (arith, linear, h, k, e), omega (arith, linear, h, k, e))

-- ---- products
pub pos-*-pos : {a b : ℤ} → pos 0 <ℤ a → pos 0 <ℤ b → pos 0 <ℤ (a *ℤ b)
pos-*-pos {a = pos a} {b = pos b} h k = record { lt = lt→ltb 0 (a * b) (mul-pos (ltb→lt 0 a h.lt) (ltb→lt 0 b k.lt)) }
pos-*-pos {a = pos a} {b = negsuc b} h k = absurd k.lt
pos-*-pos {a = negsuc a} {b} h k = absurd h.lt

turned : {a : ℤ} → a <ℤ pos 0 → pos 0 <ℤ neg_ℤ a
turned {a} h = omega (arith, linear, h)

pub pos-*-neg : {a b : ℤ} → pos 0 <ℤ a → b <ℤ pos 0 → (a *ℤ b) <ℤ pos 0
pos-*-neg {a} {b} h k = omega (arith, linear, pos-*-pos h (turned k), *ℤ-neg a b)

pub neg-*-pos : {a b : ℤ} → a <ℤ pos 0 → pos 0 <ℤ b → (a *ℤ b) <ℤ pos 0
neg-*-pos {a} {b} h k = omega (arith, linear, pos-*-pos (turned h) k, neg-*ℤ a b)

pub neg-*-neg : {a b : ℤ} → a <ℤ pos 0 → b <ℤ pos 0 → pos 0 <ℤ (a *ℤ b)
neg-*-neg {a} {b} h k = omega (arith, linear, neg-*-pos h (turned k), *ℤ-neg a b)

pub nonneg-*-nonneg : {a b : ℤ} → pos 0 ≤ℤ a → pos 0 ≤ℤ b → pos 0 ≤ℤ (a *ℤ b)
nonneg-*-nonneg {a = pos a} {b = pos b} h k = omega (arith, linear)
nonneg-*-nonneg {a = pos a} {b = negsuc b} h k = absurd k.le
nonneg-*-nonneg {a = negsuc a} {b} h k = absurd h.le

turned' : {a : ℤ} → a ≤ℤ pos 0 → pos 0 ≤ℤ neg_ℤ a
turned' {a} h = omega (arith, linear, h)

pub nonneg-*-nonpos : {a b : ℤ} → pos 0 ≤ℤ a → b ≤ℤ pos 0 → (a *ℤ b) ≤ℤ pos 0
nonneg-*-nonpos {a} {b} h k = omega (arith, linear, nonneg-*-nonneg h (turned' k), *ℤ-neg a b)

pub nonpos-*-nonneg : {a b : ℤ} → a ≤ℤ pos 0 → pos 0 ≤ℤ b → (a *ℤ b) ≤ℤ pos 0
nonpos-*-nonneg {a} {b} h k = omega (arith, linear, nonneg-*-nonneg (turned' h) k, neg-*ℤ a b)

pub nonpos-*-nonpos : {a b : ℤ} → a ≤ℤ pos 0 → b ≤ℤ pos 0 → pos 0 ≤ℤ (a *ℤ b)
nonpos-*-nonpos {a} {b} h k = omega (arith, linear, nonpos-*-nonneg h (turned' k), *ℤ-neg a b)

-- ---- squares
pub square_pos : (a : ℤ) → ¬ (a ≡ pos 0) → pos 0 <ℤ (a *ℤ a)
square_pos a n = by_sign a (λ h. neg-*-neg h h) (λ e. absurd (n e)) (λ h. pos-*-pos h h)

pub square_nonneg : (a : ℤ) → pos 0 ≤ℤ (a *ℤ a)
square_nonneg a = by_lt_z a (pos 0) (λ h. <ℤ_weaken (neg-*-neg h h)) (λ h. nonneg-*-nonneg h h)

-- ---- from a product to its factors
pub product_nonzero : (a b : ℤ) → ¬ (a ≡ pos 0) → ¬ (b ≡ pos 0) → ¬ (a *ℤ b ≡ pos 0)
product_nonzero a b m n e = by_sign a
    (λ h. by_sign b (λ k. <ℤ_apart (neg-*-neg h k) (sym e)) n (λ k. <ℤ_apart (neg-*-pos h k) e))
    m
    (λ h. by_sign b (λ k. <ℤ_apart (pos-*-neg h k) e) n (λ k. <ℤ_apart (pos-*-pos h k) (sym e)))

pub square_zero : (a : ℤ) → a *ℤ a ≡ pos 0 → a ≡ pos 0
square_zero a e = by_sign a (λ h. absurd (<ℤ_apart (neg-*-neg h h) (sym e))) (λ z. z) (λ h. absurd (<ℤ_apart (pos-*-pos h h) (sym e)))

-- the sign of a number, from that of its product with a positive one
pub pos_factor : (a b : ℤ) → pos 0 <ℤ a → pos 0 <ℤ (a *ℤ b) → pos 0 <ℤ b
pos_factor a b h p = by_lt_z (pos 0) b (λ k. k) (λ k. absurd (<ℤ_irrefl (<ℤ-≤ℤ_trans p (nonneg-*-nonpos (<ℤ_weaken h) k))))

pub neg_factor : (a b : ℤ) → pos 0 <ℤ a → (a *ℤ b) <ℤ pos 0 → b <ℤ pos 0
neg_factor a b h p = by_lt_z b (pos 0) (λ k. k) (λ k. absurd (<ℤ_irrefl (<ℤ-≤ℤ_trans p (nonneg-*-nonneg (<ℤ_weaken h) k))))

pub nonneg_factor : (a b : ℤ) → pos 0 <ℤ a → pos 0 ≤ℤ (a *ℤ b) → pos 0 ≤ℤ b
nonneg_factor a b h p = by_lt_z b (pos 0) (λ k. absurd (<ℤ_irrefl (<ℤ-≤ℤ_trans (pos-*-neg h k) p))) (λ k. k)

pub nonpos_factor : (a b : ℤ) → pos 0 <ℤ a → (a *ℤ b) ≤ℤ pos 0 → b ≤ℤ pos 0
nonpos_factor a b h p = by_lt_z (pos 0) b (λ k. absurd (<ℤ_irrefl (<ℤ-≤ℤ_trans (pos-*-pos h k) p))) (λ k. k)

pub zero_factor : (a b : ℤ) → ¬ (a ≡ pos 0) → a *ℤ b ≡ pos 0 → b ≡ pos 0
zero_factor a b n e = by_sign b (λ k. absurd (product_nonzero a b n (<ℤ_apart k) e)) (λ z. z)
    (λ k. absurd (product_nonzero a b n (λ z. <ℤ_apart k (sym z)) e))

-- ---- a factor on both sides of an order
pub scale_<ℤ : {a b c : ℤ} → pos 0 <ℤ c → a <ℤ b → (c *ℤ a) <ℤ (c *ℤ b)
scale_<ℤ {a} {b} {c} h k = let d : pos 0 <ℤ (b -ℤ a) = omega (arith, linear, k) in omega (arith, linear, pos-*-pos h d, *ℤ--ℤ c b a)

pub scale_≤ℤ : {a b c : ℤ} → pos 0 ≤ℤ c → a ≤ℤ b → (c *ℤ a) ≤ℤ (c *ℤ b)
scale_≤ℤ {a} {b} {c} h k = let d : pos 0 ≤ℤ (b -ℤ a) = omega (arith, linear, k) in omega (arith, linear, nonneg-*-nonneg h d, *ℤ--ℤ c b a)

pub scale_<ℤ_right : {a b c : ℤ} → pos 0 <ℤ c → a <ℤ b → (a *ℤ c) <ℤ (b *ℤ c)
scale_<ℤ_right {a} {b} {c} h k = omega (arith, linear, scale_<ℤ h k, *ℤ_comm a c, *ℤ_comm b c)

pub scale_≤ℤ_right : {a b c : ℤ} → pos 0 ≤ℤ c → a ≤ℤ b → (a *ℤ c) ≤ℤ (b *ℤ c)
scale_≤ℤ_right {a} {b} {c} h k = omega (arith, linear, scale_≤ℤ h k, *ℤ_comm a c, *ℤ_comm b c)

-- a negative factor turns the order round
pub flip_<ℤ : {a b c : ℤ} → c <ℤ pos 0 → a <ℤ b → (c *ℤ b) <ℤ (c *ℤ a)
flip_<ℤ {a} {b} {c} h k = let d : pos 0 <ℤ (b -ℤ a) = omega (arith, linear, k) in omega (arith, linear, neg-*-pos h d, *ℤ--ℤ c b a)

pub product_≤ℤ : {a b c d : ℤ} → pos 0 ≤ℤ a → a ≤ℤ b → pos 0 ≤ℤ c → c ≤ℤ d → (a *ℤ c) ≤ℤ (b *ℤ d)
product_≤ℤ {a} {b} {c} {d} h k l m = ≤ℤ_trans (scale_≤ℤ_right l k) (scale_≤ℤ (≤ℤ_trans h k) m)

-- ---- and off both sides
pub cancel_<ℤ : (c a b : ℤ) → pos 0 <ℤ c → (c *ℤ a) <ℤ (c *ℤ b) → a <ℤ b
cancel_<ℤ c a b h p = by_lt_z a b (λ k. k) (λ k. absurd (<ℤ_irrefl (<ℤ-≤ℤ_trans p (scale_≤ℤ (<ℤ_weaken h) k))))

pub cancel_≤ℤ : (c a b : ℤ) → pos 0 <ℤ c → (c *ℤ a) ≤ℤ (c *ℤ b) → a ≤ℤ b
cancel_≤ℤ c a b h p = by_lt_z b a (λ k. absurd (<ℤ_irrefl (<ℤ-≤ℤ_trans (scale_<ℤ h k) p))) (λ k. k)

pub cancel_≡ : (c a b : ℤ) → ¬ (c ≡ pos 0) → c *ℤ a ≡ c *ℤ b → a ≡ b
cancel_≡ c a b n e = let z : a -ℤ b ≡ pos 0 = zero_factor c (a -ℤ b) n (omega (arith, linear, *ℤ--ℤ c a b, e)) in omega (arith, linear, z)

pub cancel_<ℤ_right : (c a b : ℤ) → pos 0 <ℤ c → (a *ℤ c) <ℤ (b *ℤ c) → a <ℤ b
cancel_<ℤ_right c a b h p = cancel_<ℤ c a b h (omega (arith, linear, p, *ℤ_comm a c, *ℤ_comm b c))

pub cancel_≤ℤ_right : (c a b : ℤ) → pos 0 <ℤ c → (a *ℤ c) ≤ℤ (b *ℤ c) → a ≤ℤ b
cancel_≤ℤ_right c a b h p = cancel_≤ℤ c a b h (omega (arith, linear, p, *ℤ_comm a c, *ℤ_comm b c))

pub cancel_≡_right : (c a b : ℤ) → ¬ (c ≡ pos 0) → a *ℤ c ≡ b *ℤ c → a ≡ b
cancel_≡_right c a b n e = cancel_≡ c a b n (*ℤ_comm c a ∙ e ∙ *ℤ_comm b c)

-- a positive number is not 0, for the lemmas that ask for that alone
pub pos_nonzero : {a : ℤ} → pos 0 <ℤ a → ¬ (a ≡ pos 0)
pos_nonzero h e = <ℤ_apart h (sym e)
