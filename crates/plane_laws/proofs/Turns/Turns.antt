-- The turn of three points: its symmetries, and that it keeps its sign from one triple to another of the same point.
use Rattle.std.proofs.Common.{◌≤ℤ◌, zero, negsuc, arith, ◌↔◌, ◌<ℤ◌, ◌-ℤ◌, subst, ◌≡◌, ℕ, suc, ℤ, pos, ◌*ℤ◌, neg_ℤ, List, [], ◌∷◌, ap, refl}
use Rattle.std.proofs.Common.{sym, ◌∙◌}
use Rattle.std.specs.Int.{int_signum}
use lib.Signed.{<ℤ_irrefl}
use lib.IntN.{zero-*ℤ, *ℤ_comm}
use Rattle.whole_algebra.proofs.Polynomials.{Poly, ◌⊕◌, var, num, ◌⊖◌, ◌⊗◌, minus, identity}
use Rattle.whole_algebra.proofs.Certificates.{same, same_from, scaled, ◌⊞◌}
use Rattle.whole_algebra.proofs.Laws.{linear, *ℤ_assoc}
use Rattle.whole_algebra.proofs.Signs.{not_<ℤ, by_sign, zero_factor, pos_nonzero, pos_factor, neg_factor, pos-*-pos, neg-*-pos}
use Rattle.plane_laws.specs.Plane.{Point, IsSamePoint, turn, shift, rise}

-- the determinant over polynomials, for identities
abbrev pub turn_p : Poly → Poly → Poly → Poly → Poly → Poly → Poly → Poly → Poly → Poly
turn_p ax ay aw bx by bw cx cy cw = ((ax ⊗ ((by ⊗ cw) ⊖ (bw ⊗ cy))) ⊖ (ay ⊗ ((bx ⊗ cw) ⊖ (bw ⊗ cx)))) ⊕ (aw ⊗ ((bx ⊗ cy) ⊖ (by ⊗ cx)))

infixr 5 ◌then◌
-- a point over polynomials: three variables in a row
pub record PolyPoint : Type 0 where
  pub x : Poly
  pub y : Poly
  pub w : Poly

abbrev pub point_at : ℕ → PolyPoint
point_at n = record { x = var n; y = var (suc n); w = var (suc (suc n)) }

abbrev pub turn_poly : PolyPoint → PolyPoint → PolyPoint → Poly
turn_poly a b c = turn_p a.x a.y a.w b.x b.y b.w c.x c.y c.w

-- the values of a point's variables, before further values
abbrev pub ◌then◌ : Point → List ℤ → List ℤ
p then vs = p.x ∷ p.y ∷ p.w ∷ vs

pub turn_cycle : (a b c : Point) → turn a b c ≡ turn b c a
unfolding turn
turn_cycle a b c =
    identity (turn_poly (point_at 0) (point_at 3) (point_at 6)) (turn_poly (point_at 3) (point_at 6) (point_at 0))
    (a then b then c then []) refl

pub turn_swap : (a b c : Point) → turn b a c ≡ neg_ℤ (turn a b c)
unfolding turn
turn_swap a b c =
    identity (turn_poly (point_at 3) (point_at 0) (point_at 6)) (minus (turn_poly (point_at 0) (point_at 3) (point_at 6)))
    (a then b then c then []) refl

pub turn_twice : (a c : Point) → turn a a c ≡ pos 0
unfolding turn
turn_twice a c = identity (turn_poly (point_at 0) (point_at 0) (point_at 3)) (num (pos 0)) (a then c then []) refl

-- two triples of one point give turns that are each a positive multiple of the other
pub turn_same_first : (b c : Point) {a a' : Point} → IsSamePoint a a' → turn a b c *ℤ a'.w ≡ turn a' b c *ℤ a.w
unfolding turn
turn_same_first b c {a} {a'} h =
    let pa = point_at 0 in
    let pa' = point_at 3 in
    let pb = point_at 6 in
    let pc = point_at 9 in
    same_from (turn_poly pa pb pc ⊗ pa'.w) (turn_poly pa' pb pc ⊗ pa.w) (a then a' then b then c then [])
    (scaled (pb.y ⊗ pc.w ⊖ pb.w ⊗ pc.y) (same (pa.x ⊗ pa'.w) (pa'.x ⊗ pa.w) h.across)
    ⊞ scaled (minus (pb.x ⊗ pc.w ⊖ pb.w ⊗ pc.x)) (same (pa.y ⊗ pa'.w) (pa'.y ⊗ pa.w) h.above))
    refl

pub turn_same_second : (a c : Point) {b b' : Point} → IsSamePoint b b' → turn a b c *ℤ b'.w ≡ turn a b' c *ℤ b.w
turn_same_second a c {b} {b'} h =
    ap (λ z. z *ℤ b'.w) (turn_cycle a b c) ∙ turn_same_first c a h ∙ ap (λ z. z *ℤ b.w) (sym (turn_cycle a b' c))

pub turn_same_third : (a b : Point) {c c' : Point} → IsSamePoint c c' → turn a b c *ℤ c'.w ≡ turn a b c' *ℤ c.w
turn_same_third a b {c} {c'} h =
    ap (λ z. z *ℤ c'.w) (sym (turn_cycle c a b)) ∙ turn_same_first a b h ∙ ap (λ z. z *ℤ c.w) (turn_cycle c' a b)

-- ---- one sign
-- a positive multiple of the one number is a positive multiple of the other
pub record OneSign (u v : ℤ) : Type 0 where
  pub m : ℤ
  pub n : ℤ
  pub some_m : pos 0 <ℤ m
  pub some_n : pos 0 <ℤ n
  pub level : u *ℤ m ≡ v *ℤ n

OneSign-trans : {u v z : ℤ} → OneSign u v → OneSign v z → OneSign u z
OneSign-trans {u} {v} {z} h k = record {
  m = h.m *ℤ k.m;
  n = k.n *ℤ h.n;
  some_m = pos-*-pos h.some_m k.some_m;
  some_n = pos-*-pos k.some_n h.some_n;
  level = sym (*ℤ_assoc u h.m k.m) ∙ ap (λ y. y *ℤ k.m) h.level ∙ swapped v h.n k.m ∙ ap (λ y. y *ℤ h.n) k.level ∙ *ℤ_assoc z k.n h.n;
}
  where
    swapped : (x y y' : ℤ) → (x *ℤ y) *ℤ y' ≡ (x *ℤ y') *ℤ y
    swapped x y y' = identity (var 0 ⊗ var 1 ⊗ var 2) (var 0 ⊗ var 2 ⊗ var 1) (x ∷ y ∷ y' ∷ []) refl

OneSign-sym : {u v : ℤ} → OneSign u v → OneSign v u
OneSign-sym h = record { m = h.n; n = h.m; some_m = h.some_n; some_n = h.some_m; level = sym h.level }

pos_on : {u v : ℤ} → OneSign u v → pos 0 <ℤ u → pos 0 <ℤ v
pos_on {u} {v} h k = pos_factor h.n v h.some_n (subst (λ z. pos 0 <ℤ z) (h.level ∙ *ℤ_comm v h.n) (pos-*-pos k h.some_m))

neg_on : {u v : ℤ} → OneSign u v → u <ℤ pos 0 → v <ℤ pos 0
neg_on {u} {v} h k = neg_factor h.n v h.some_n (subst (λ z. z <ℤ pos 0) (h.level ∙ *ℤ_comm v h.n) (neg-*-pos k h.some_m))

zero_on : {u v : ℤ} → OneSign u v → u ≡ pos 0 → v ≡ pos 0
zero_on {u} {v} h k =
    zero_factor h.n v (pos_nonzero h.some_n) (*ℤ_comm h.n v ∙ sym h.level ∙ ap (λ z. z *ℤ h.m) k ∙ zero-*ℤ h.m)

pub OneSign-pos : {u v : ℤ} → OneSign u v → (pos 0 <ℤ u) ↔ (pos 0 <ℤ v)
OneSign-pos h = (pos_on h, pos_on (OneSign-sym h))

pub OneSign-neg : {u v : ℤ} → OneSign u v → (u <ℤ pos 0) ↔ (v <ℤ pos 0)
OneSign-neg h = (neg_on h, neg_on (OneSign-sym h))

pub OneSign-zero : {u v : ℤ} → OneSign u v → (u ≡ pos 0) ↔ (v ≡ pos 0)
OneSign-zero h = (zero_on h, zero_on (OneSign-sym h))

pub OneSign-nonneg : {u v : ℤ} → OneSign u v → (pos 0 ≤ℤ u) ↔ (pos 0 ≤ℤ v)
OneSign-nonneg {u} {v} h =
    (λ k. not_<ℤ v (pos 0) (λ l. below k (neg_on (OneSign-sym h) l)), λ k. not_<ℤ u (pos 0) (λ l. below k (neg_on h l)))
  where
    below : {z : ℤ} → pos 0 ≤ℤ z → ¬ (z <ℤ pos 0)
    below {z} k l = omega (arith, linear, k, l)

signum_pos : {z : ℤ} → pos 0 <ℤ z → int_signum z ≡ pos 1
signum_pos {z = pos zero} h = absurd (<ℤ_irrefl h)
signum_pos {z = pos (suc n)} h = ap pos (omega arith)
signum_pos {z = negsuc n} h = absurd h.lt

signum_neg : {z : ℤ} → z <ℤ pos 0 → int_signum z ≡ negsuc 0
signum_neg {z = pos n} h = absurd (non_negative h)
  where
    non_negative : ¬ (pos n <ℤ pos 0)
    non_negative k = omega (arith, linear, k)
signum_neg {z = negsuc n} h = refl

pub OneSign-int_signum : {u v : ℤ} → OneSign u v → int_signum u ≡ int_signum v
OneSign-int_signum {u} {v} h = by_sign u
    (λ k. signum_neg k ∙ sym (signum_neg (neg_on h k)))
    (λ e. ap int_signum (e ∙ sym (zero_on h e)))
    (λ k. signum_pos k ∙ sym (signum_pos (pos_on h k)))

pub turn_same : {a a' b b' c c' : Point} → IsSamePoint a a' → IsSamePoint b b' → IsSamePoint c c' → OneSign (turn a b c) (turn a' b' c')
turn_same {a} {a'} {b} {b'} {c} {c'} ha hb hc =
    OneSign-trans (record { m = a'.w; n = a.w; some_m = a'.heavy; some_n = a.heavy; level = turn_same_first b c ha })
    (OneSign-trans (record { m = b'.w; n = b.w; some_m = b'.heavy; some_n = b.heavy; level = turn_same_second a' c hb })
    (record { m = c'.w; n = c.w; some_m = c'.heavy; some_n = c.heavy; level = turn_same_third a' b' hc }))

-- ---- how far one coordinate of a point is beyond that of another, cleared of denominators
gap_same_first : (a v a' v' b w : ℤ) → a *ℤ v' ≡ a' *ℤ v → (b *ℤ v -ℤ a *ℤ w) *ℤ v' ≡ (b *ℤ v' -ℤ a' *ℤ w) *ℤ v
gap_same_first a v a' v' b w h =
    let vs = a ∷ v ∷ a' ∷ v' ∷ b ∷ w ∷ [] in
    same_from ((var 4 ⊗ var 1 ⊖ var 0 ⊗ var 5) ⊗ var 3) ((var 4 ⊗ var 3 ⊖ var 2 ⊗ var 5) ⊗ var 1) vs
    (scaled (minus (var 5)) (same (var 0 ⊗ var 3) (var 2 ⊗ var 1) h)) refl

gap_same_second : (a v b w b' w' : ℤ) → b *ℤ w' ≡ b' *ℤ w → (b *ℤ v -ℤ a *ℤ w) *ℤ w' ≡ (b' *ℤ v -ℤ a *ℤ w') *ℤ w
gap_same_second a v b w b' w' h =
    let vs = a ∷ v ∷ b ∷ w ∷ b' ∷ w' ∷ [] in
    same_from ((var 2 ⊗ var 1 ⊖ var 0 ⊗ var 3) ⊗ var 5) ((var 4 ⊗ var 1 ⊖ var 0 ⊗ var 5) ⊗ var 3) vs
    (scaled (var 1) (same (var 2 ⊗ var 5) (var 4 ⊗ var 3) h)) refl

-- the same of both points
gap_same : (a v a' v' b w b' w' : ℤ) → pos 0 <ℤ v → pos 0 <ℤ v' → pos 0 <ℤ w → pos 0 <ℤ w' → a *ℤ v' ≡ a' *ℤ v
    → b *ℤ w' ≡ b' *ℤ w → OneSign (b *ℤ v -ℤ a *ℤ w) (b' *ℤ v' -ℤ a' *ℤ w')
gap_same a v a' v' b w b' w' hv hv' hw hw' e f =
    OneSign-trans (record { m = v'; n = v; some_m = hv'; some_n = hv; level = gap_same_first a v a' v' b w e })
    (record { m = w'; n = w; some_m = hw'; some_n = hw; level = gap_same_second a' v' b w b' w' f })

pub shift_same : {a a' b b' : Point} → IsSamePoint a a' → IsSamePoint b b' → OneSign (shift a b) (shift a' b')
unfolding shift
shift_same {a} {a'} {b} {b'} ha hb = gap_same a.x a.w a'.x a'.w b.x b.w b'.x b'.w a.heavy a'.heavy b.heavy b'.heavy ha.across hb.across

pub rise_same : {a a' b b' : Point} → IsSamePoint a a' → IsSamePoint b b' → OneSign (rise a b) (rise a' b')
unfolding rise
rise_same {a} {a'} {b} {b'} ha hb = gap_same a.y a.w a'.y a'.w b.y b.w b'.y b'.w a.heavy a'.heavy b.heavy b'.heavy ha.above hb.above

-- points of which two are the same are on one line
pub turn_of_same : (c : Point) {a b : Point} → IsSamePoint a b → turn a b c ≡ pos 0
turn_of_same c {a} {b} h =
    zero_factor a.w (turn a b c) (pos_nonzero a.heavy)
    (*ℤ_comm a.w (turn a b c) ∙ sym (turn_same_second a c h) ∙ ap (λ z. z *ℤ b.w) (turn_twice a c) ∙ zero-*ℤ b.w)
