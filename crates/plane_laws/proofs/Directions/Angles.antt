-- The order of directions by their angle: equal exactly at one way, and a total order.
use Rattle.std.proofs.Common.{◌≡◌, ◌⊎◌, inl, inr, Bool, true, false, zero, suc, ℤ, pos, negsuc, ◌-ℤ◌, ◌*ℤ◌, neg_ℤ, ◌<ℤ◌, Ordering, Less}
use Rattle.std.proofs.Common.{Equal, Greater, [], ◌∷◌, refl, sym, ◌∙◌, ap, subst, arith}
use Rattle.std.specs.Ordering.{bool_cmp, int_cmp, ordering_then, ordering_reverse}
use Rattle.std.specs.Cmp.{IsTotalOrder, bool_cmp_total}
use Rattle.std.proofs.lemmas.Bool.{false≢true}
use Rattle.std.proofs.lemmas.Cmp.{int_cmp_total}
use Rattle.whole_algebra.proofs.Laws.{linear}
use Rattle.whole_algebra.proofs.Polynomials.{var, num, ◌⊖◌, ◌⊗◌, minus, identity}
use Rattle.whole_algebra.proofs.Certificates.{same, same_from, scaled, vanishing, positive, less_by, impossible_by, ◌⊞◌, ◌⊠◌}
use Rattle.whole_algebra.proofs.Signs.{by_sign, pos-*-pos, pos-*-neg, pos_factor, neg_factor, zero_factor, pos_nonzero}
use lib.IntN.{*ℤ_comm, *ℤ-zero}
use Rattle.plane_laws.specs.Directions.{Direction, past_half, bend_of, compare_ways, PointSameWay}
use Rattle.whole_algebra.proofs.Comparisons.{int_cmp_less, int_cmp_equal, less_int_cmp, equal_int_cmp, same_int_cmp}
use Rattle.whole_algebra.proofs.Comparisons.{then_second, then_gives_equal}

-- ---- the halves
half_up : (dx dy : ℤ) → pos 0 <ℤ dy → past_half dx dy ≡ false
half_up dx (pos zero) h = absurd h.lt
half_up dx (pos (suc n)) h = refl
half_up dx (negsuc n) h = absurd h.lt

half_down : (dx dy : ℤ) → dy <ℤ pos 0 → past_half dx dy ≡ true
half_down dx (pos zero) h = absurd h.lt
half_down dx (pos (suc n)) h = absurd (omega (arith, linear, h))
half_down dx (negsuc n) h = refl

half_right : (dx dy : ℤ) → dy ≡ pos 0 → pos 0 <ℤ dx → past_half dx dy ≡ false
half_right dx dy e h = ap (past_half dx) e ∙ right dx h
  where
    right : (x : ℤ) → pos 0 <ℤ x → past_half x (pos zero) ≡ false
    right (pos m) k = refl
    right (negsuc m) k = absurd k.lt

half_left : (dx dy : ℤ) → dy ≡ pos 0 → dx <ℤ pos 0 → past_half dx dy ≡ true
half_left dx dy e h = ap (past_half dx) e ∙ left dx h
  where
    left : (x : ℤ) → x <ℤ pos 0 → past_half x (pos zero) ≡ true
    left (pos zero) k = absurd k.lt
    left (pos (suc m)) k = absurd (omega (arith, linear, k))
    left (negsuc m) k = refl

-- a direction of the first half points up, or to the right; one of the second down, or to the left
first_half : (d : Direction) → past_half d.x d.y ≡ false → (pos 0 <ℤ d.y) ⊎ ((d.y ≡ pos 0) × (pos 0 <ℤ d.x))
first_half d e = by_sign d.y
    (λ h. absurd (false≢true (sym e ∙ half_down d.x d.y h)))
    (λ z. by_sign d.x (λ h. absurd (false≢true (sym e ∙ half_left d.x d.y z h))) (λ y. absurd (d.moves (y, z))) (λ h. inr (z, h)))
    inl

second_half : (d : Direction) → past_half d.x d.y ≡ true → (d.y <ℤ pos 0) ⊎ ((d.y ≡ pos 0) × (d.x <ℤ pos 0))
second_half d e = by_sign d.y
    inl
    (λ z. by_sign d.x (λ h. inr (z, h)) (λ y. absurd (d.moves (y, z))) (λ h. absurd (false≢true (sym (half_right d.x d.y z h) ∙ e))))
    (λ h. absurd (false≢true (sym (half_up d.x d.y h) ∙ e)))

-- ---- one way
-- two directions of one half whose cross product is 0 point the same way
aligned_up : (dx dy ex ey : ℤ) → (pos 0 <ℤ dy) ⊎ ((dy ≡ pos 0) × (pos 0 <ℤ dx)) → (pos 0 <ℤ ey) ⊎ ((ey ≡ pos 0) × (pos 0 <ℤ ex))
    → dx *ℤ ey -ℤ dy *ℤ ex ≡ pos 0 → (m : ℤ) × (n : ℤ) × (pos 0 <ℤ m) × (pos 0 <ℤ n) × (m *ℤ dx ≡ n *ℤ ex) × (m *ℤ dy ≡ n *ℤ ey)
aligned_up dx dy ex ey (inl h) (inl k) e = (ey, dy, k, h, omega (arith, linear, e, *ℤ_comm ey dx), *ℤ_comm ey dy)
aligned_up dx dy ex ey (inl h) (inr k) e =
    impossible_by (dx ∷ dy ∷ ex ∷ ey ∷ [])
    (positive (var 1) h ⊠ positive (var 2) k.1 ⊞ vanishing (var 0 ⊗ var 3 ⊖ var 1 ⊗ var 2) e
    ⊞ scaled (minus (var 0)) (vanishing (var 3) k.0)) refl
aligned_up dx dy ex ey (inr h) (inl k) e =
    impossible_by (dx ∷ dy ∷ ex ∷ ey ∷ [])
    (positive (var 3) k ⊠ positive (var 0) h.1 ⊞ scaled (num (negsuc 0)) (vanishing (var 0 ⊗ var 3 ⊖ var 1 ⊗ var 2) e)
    ⊞ scaled (minus (var 2)) (vanishing (var 1) h.0)) refl
aligned_up dx dy ex ey (inr h) (inr k) e =
    (ex, dx, k.1, h.1, *ℤ_comm ex dx, (λ i. ex *ℤ h.0 i) ∙ *ℤ-zero ex ∙ sym (*ℤ-zero dx) ∙ (λ i. dx *ℤ sym k.0 i))

turned_back : (d : Direction) → (d.y <ℤ pos 0) ⊎ ((d.y ≡ pos 0) × (d.x <ℤ pos 0)) → (pos 0 <ℤ neg_ℤ d.y)
    ⊎ ((neg_ℤ d.y ≡ pos 0) × (pos 0 <ℤ neg_ℤ d.x))
turned_back d (inl h) = inl (omega (arith, linear, h))
turned_back d (inr h) = inr (omega (arith, linear, h.0), omega (arith, linear, h.1))

opposite : (m n x y : ℤ) → m *ℤ neg_ℤ x ≡ n *ℤ neg_ℤ y → m *ℤ x ≡ n *ℤ y
opposite m n x y e = same_from (var 0 ⊗ var 2) (var 1 ⊗ var 3) (m ∷ n ∷ x ∷ y ∷ [])
    (scaled (num (negsuc 0)) (same (var 0 ⊗ minus (var 2)) (var 1 ⊗ minus (var 3)) e)) refl

pub same_way_from : (d e : Direction) → past_half d.x d.y ≡ past_half e.x e.y → bend_of d e ≡ pos 0 → PointSameWay d e
unfolding bend_of
same_way_from d e h z = go (past_half d.x d.y) refl
  where
    go : (t : Bool) → past_half d.x d.y ≡ t → PointSameWay d e
    go false p = let r = aligned_up d.x d.y e.x e.y (first_half d p) (first_half e (sym h ∙ p)) z in
        record { m = r.0; n = r.1; some = r.2; other = r.3; across = r.4; above = r.5 }
    go true p =
        let back : neg_ℤ d.x *ℤ neg_ℤ e.y -ℤ neg_ℤ d.y *ℤ neg_ℤ e.x ≡ pos 0 =
        identity (minus (var 0) ⊗ minus (var 3) ⊖ minus (var 1) ⊗ minus (var 2)) (var 0 ⊗ var 3 ⊖ var 1 ⊗ var 2)
        (d.x ∷ d.y ∷ e.x ∷ e.y ∷ []) refl ∙ z in
        let r = aligned_up (neg_ℤ d.x) (neg_ℤ d.y) (neg_ℤ e.x) (neg_ℤ e.y) (turned_back d (second_half d p))
        (turned_back e (second_half e (sym h ∙ p))) back in
        record { m = r.0; n = r.1; some = r.2; other = r.3; across = opposite r.0 r.1 d.x e.x r.4; above = opposite r.0 r.1 d.y e.y r.5 }

-- directions that point the same way don't bend
pub no_bend : {u v : Direction} → PointSameWay u v → bend_of u v ≡ pos 0
unfolding bend_of
no_bend {u} {v} s =
    zero_factor s.m (u.x *ℤ v.y -ℤ u.y *ℤ v.x) (pos_nonzero s.some)
    (same_from (var 0 ⊗ (var 2 ⊗ var 5 ⊖ var 3 ⊗ var 4)) (num (pos 0)) (s.m ∷ s.n ∷ u.x ∷ u.y ∷ v.x ∷ v.y ∷ [])
    (scaled (var 5) (same (var 0 ⊗ var 2) (var 1 ⊗ var 4) s.across)
    ⊞ scaled (minus (var 4)) (same (var 0 ⊗ var 3) (var 1 ⊗ var 5) s.above)) refl)

pub joined_ways : {u w z : Direction} → PointSameWay u w → PointSameWay w z → PointSameWay u z
joined_ways {u} {w} {z} h k = record {
  m = k.m *ℤ h.m;
  n = h.n *ℤ k.n;
  some = pos-*-pos k.some h.some;
  other = pos-*-pos h.other k.other;
  across = go h.m h.n k.m k.n u.x w.x z.x h.across k.across;
  above = go h.m h.n k.m k.n u.y w.y z.y h.above k.above;
}
  where
    go : (m n k l x y z : ℤ) → m *ℤ x ≡ n *ℤ y → k *ℤ y ≡ l *ℤ z → (k *ℤ m) *ℤ x ≡ (n *ℤ l) *ℤ z
    go m n k l x y z e f =
        same_from ((var 2 ⊗ var 0) ⊗ var 4) ((var 1 ⊗ var 3) ⊗ var 6) (m ∷ n ∷ k ∷ l ∷ x ∷ y ∷ z ∷ [])
        (scaled (var 2) (same (var 0 ⊗ var 4) (var 1 ⊗ var 5) e) ⊞ scaled (var 1) (same (var 2 ⊗ var 5) (var 3 ⊗ var 6) f)) refl

module _ (m n x y : ℤ) (hm : pos 0 <ℤ m) (hn : pos 0 <ℤ n) (e : m *ℤ x ≡ n *ℤ y) where
  multiple_pos : pos 0 <ℤ x → pos 0 <ℤ y
  multiple_pos h = pos_factor n y hn (subst (λ z. pos 0 <ℤ z) e (pos-*-pos hm h))

  multiple_neg : x <ℤ pos 0 → y <ℤ pos 0
  multiple_neg h = neg_factor n y hn (subst (λ z. z <ℤ pos 0) e (pos-*-neg hm h))

  multiple_zero : x ≡ pos 0 → y ≡ pos 0
  multiple_zero h = zero_factor n y (pos_nonzero hn) (sym e ∙ (λ i. m *ℤ h i) ∙ *ℤ-zero m)

-- and they are of one half
pub half-same_way : (d e : Direction) → PointSameWay d e → past_half d.x d.y ≡ past_half e.x e.y
half-same_way d e s = by_sign d.y
    (λ h. half_down d.x d.y h ∙ sym (half_down e.x e.y (multiple_neg s.m s.n d.y e.y s.some s.other s.above h)))
    (λ z. let w = multiple_zero s.m s.n d.y e.y s.some s.other s.above z in by_sign d.x
    (λ h. half_left d.x d.y z h ∙ sym (half_left e.x e.y w (multiple_neg s.m s.n d.x e.x s.some s.other s.across h)))
    (λ y. absurd (d.moves (y, z)))
    (λ h. half_right d.x d.y z h ∙ sym (half_right e.x e.y w (multiple_pos s.m s.n d.x e.x s.some s.other s.across h))))
    (λ h. half_up d.x d.y h ∙ sym (half_up e.x e.y (multiple_pos s.m s.n d.y e.y s.some s.other s.above h)))

-- ---- answers
bool_cmp-equal : (p q : Bool) → p ≡ q → bool_cmp p q ≡ Equal
bool_cmp-equal true q e = ap (bool_cmp true) (sym e)
bool_cmp-equal false q e = ap (bool_cmp false) (sym e)

equal_bool_cmp : (p q : Bool) → bool_cmp p q ≡ Equal → p ≡ q
equal_bool_cmp true true e = refl
equal_bool_cmp true false e = cc
equal_bool_cmp false true e = cc
equal_bool_cmp false false e = refl

pub compare_ways-same : (d e : Direction) → PointSameWay d e → compare_ways d e ≡ Equal
compare_ways-same d e s =
    then_second (bool_cmp (past_half d.x d.y) (past_half e.x e.y)) (int_cmp (pos 0) (bend_of d e))
    (bool_cmp-equal (past_half d.x d.y) (past_half e.x e.y) (half-same_way d e s))
    ∙ int_cmp_equal (pos 0) (bend_of d e) (sym (no_bend s))

pub same_compare_ways : (d e : Direction) → compare_ways d e ≡ Equal → PointSameWay d e
same_compare_ways d e h =
    let both = then_gives_equal (bool_cmp (past_half d.x d.y) (past_half e.x e.y)) (int_cmp (pos 0) (bend_of d e)) h in
    same_way_from d e (equal_bool_cmp (past_half d.x d.y) (past_half e.x e.y) both.0) (sym (equal_int_cmp (pos 0) (bend_of d e) both.1))

-- ---- a total order
then_gives_less : (o p : Ordering) → ordering_then o p ≡ Less → (o ≡ Less) ⊎ ((o ≡ Equal) × (p ≡ Less))
then_gives_less Less p e = inl refl
then_gives_less Equal p e = inr (refl, e)
then_gives_less Greater p e = cc

reverse_then : (o p : Ordering) → ordering_reverse (ordering_then o p) ≡ ordering_then (ordering_reverse o) (ordering_reverse p)
reverse_then Less p = refl
reverse_then Equal p = refl
reverse_then Greater p = refl

-- the cross products of three directions that point up, or to the right: the middle one's height times the outer product is a
-- sum of the others
upward_trans : (dx dy ex ey fx fy : ℤ) → (pos 0 <ℤ dy) ⊎ ((dy ≡ pos 0) × (pos 0 <ℤ dx)) → (pos 0 <ℤ ey) ⊎ ((ey ≡ pos 0) × (pos 0 <ℤ ex))
    → (pos 0 <ℤ fy) ⊎ ((fy ≡ pos 0) × (pos 0 <ℤ fx)) → pos 0 <ℤ (dx *ℤ ey -ℤ dy *ℤ ex) → pos 0 <ℤ (ex *ℤ fy -ℤ ey *ℤ fx)
    → pos 0 <ℤ (dx *ℤ fy -ℤ dy *ℤ fx)
upward_trans dx dy ex ey fx fy (inl d) (inl e) (inl f) h k =
    let p = var 0 ⊗ var 3 ⊖ var 1 ⊗ var 2 in
    let q = var 2 ⊗ var 5 ⊖ var 3 ⊗ var 4 in
    less_by (num (pos 0)) (var 0 ⊗ var 5 ⊖ var 1 ⊗ var 4) (dx ∷ dy ∷ ex ∷ ey ∷ fx ∷ fy ∷ [])
    (λ denied. denied ⊠ positive (var 3) e ⊞ positive (var 5) f ⊠ positive p h ⊞ positive (var 1) d ⊠ positive q k) refl
upward_trans dx dy ex ey fx fy d (inl e) (inr f) h k =
    impossible_by (dx ∷ dy ∷ ex ∷ ey ∷ fx ∷ fy ∷ [])
    (positive (var 2 ⊗ var 5 ⊖ var 3 ⊗ var 4) k ⊞ positive (var 3) e ⊠ positive (var 4) f.1
    ⊞ scaled (minus (var 2)) (vanishing (var 5) f.0)) refl
upward_trans dx dy ex ey fx fy (inl d) (inr e) f h k =
    impossible_by (dx ∷ dy ∷ ex ∷ ey ∷ fx ∷ fy ∷ [])
    (positive (var 0 ⊗ var 3 ⊖ var 1 ⊗ var 2) h ⊞ positive (var 1) d ⊠ positive (var 2) e.1
    ⊞ scaled (minus (var 0)) (vanishing (var 3) e.0)) refl
upward_trans dx dy ex ey fx fy (inr d) (inl e) (inl f) h k =
    less_by (num (pos 0)) (var 0 ⊗ var 5 ⊖ var 1 ⊗ var 4) (dx ∷ dy ∷ ex ∷ ey ∷ fx ∷ fy ∷ [])
    (λ denied. denied ⊞ positive (var 0) d.1 ⊠ positive (var 5) f ⊞ scaled (minus (var 4)) (vanishing (var 1) d.0)) refl
upward_trans dx dy ex ey fx fy (inr d) (inr e) f h k =
    impossible_by (dx ∷ dy ∷ ex ∷ ey ∷ fx ∷ fy ∷ [])
    (positive (var 0 ⊗ var 3 ⊖ var 1 ⊗ var 2) h ⊞ scaled (minus (var 0)) (vanishing (var 3) e.0)
    ⊞ scaled (var 2) (vanishing (var 1) d.0)) refl

bend_trans : (d e f : Direction) → past_half d.x d.y ≡ past_half e.x e.y → past_half e.x e.y ≡ past_half f.x f.y → pos 0 <ℤ bend_of d e
    → pos 0 <ℤ bend_of e f → pos 0 <ℤ bend_of d f
unfolding bend_of
bend_trans d e f h k p q = go (past_half e.x e.y) refl
  where
    back : (a b x y : ℤ) → neg_ℤ a *ℤ neg_ℤ y -ℤ neg_ℤ b *ℤ neg_ℤ x ≡ a *ℤ y -ℤ b *ℤ x
    back a b x y = identity (minus (var 0) ⊗ minus (var 3) ⊖ minus (var 1) ⊗ minus (var 2)) (var 0 ⊗ var 3 ⊖ var 1 ⊗ var 2)
        (a ∷ b ∷ x ∷ y ∷ []) refl

    go : (t : Bool) → past_half e.x e.y ≡ t → pos 0 <ℤ (d.x *ℤ f.y -ℤ d.y *ℤ f.x)
    go false z = upward_trans d.x d.y e.x e.y f.x f.y (first_half d (h ∙ z)) (first_half e z) (first_half f (sym k ∙ z)) p q
    go true z =
        let over = λ (a : ℤ). pos 0 <ℤ a in
        subst over (back d.x d.y f.x f.y)
        (upward_trans (neg_ℤ d.x) (neg_ℤ d.y) (neg_ℤ e.x) (neg_ℤ e.y) (neg_ℤ f.x) (neg_ℤ f.y) (turned_back d (second_half d (h ∙ z)))
        (turned_back e (second_half e z)) (turned_back f (second_half f (sym k ∙ z)))
        (subst over (sym (back d.x d.y e.x e.y)) p) (subst over (sym (back e.x e.y f.x f.y)) q))

bend-swap : (d e : Direction) → bend_of e d ≡ neg_ℤ (bend_of d e)
unfolding bend_of
bend-swap d e = identity (var 2 ⊗ var 1 ⊖ var 3 ⊗ var 0) (minus (var 0 ⊗ var 3 ⊖ var 1 ⊗ var 2)) (d.x ∷ d.y ∷ e.x ∷ e.y ∷ []) refl

bend_reverse : (d e : Direction) → int_cmp (pos 0) (bend_of d e) ≡ ordering_reverse (int_cmp (pos 0) (bend_of e d))
bend_reverse d e =
    int_cmp_total.antisymm (pos 0) (bend_of d e)
    ∙ ap ordering_reverse
    (same_int_cmp (bend_of d e) (pos 0) (pos 0) (bend_of e d) (pos 1) (pos 1) (record { lt = tt }) (record { lt = tt })
    (identity (num (pos 1) ⊗ (num (pos 0) ⊖ var 0)) (num (pos 1) ⊗ (minus (var 0) ⊖ num (pos 0))) (bend_of d e ∷ []) refl
    ∙ ap (λ z. pos 1 *ℤ (z -ℤ pos 0)) (sym (bend-swap d e))))

bend_congr : (d e f : Direction) → PointSameWay d e → int_cmp (pos 0) (bend_of d f) ≡ int_cmp (pos 0) (bend_of e f)
unfolding bend_of
bend_congr d e f s =
    same_int_cmp (pos 0) (d.x *ℤ f.y -ℤ d.y *ℤ f.x) (pos 0) (e.x *ℤ f.y -ℤ e.y *ℤ f.x) s.m s.n s.some s.other
    (same_from (var 0 ⊗ (var 2 ⊗ var 7 ⊖ var 3 ⊗ var 6 ⊖ num (pos 0))) (var 1 ⊗ (var 4 ⊗ var 7 ⊖ var 5 ⊗ var 6 ⊖ num (pos 0)))
    (s.m ∷ s.n ∷ d.x ∷ d.y ∷ e.x ∷ e.y ∷ f.x ∷ f.y ∷ [])
    (scaled (var 7) (same (var 0 ⊗ var 2) (var 1 ⊗ var 4) s.across)
    ⊞ scaled (minus (var 6)) (same (var 0 ⊗ var 3) (var 1 ⊗ var 5) s.above)) refl)

abbrev half_cmp : Direction → Direction → Ordering
half_cmp d e = bool_cmp (past_half d.x d.y) (past_half e.x e.y)

half_trans : (d e f : Direction) → half_cmp d e ≡ Less → half_cmp e f ≡ Less → half_cmp d f ≡ Less
half_trans d e f = bool_cmp_total.trans (past_half d.x d.y) (past_half e.x e.y) (past_half f.x f.y)

angles_trans : (d e f : Direction) → compare_ways d e ≡ Less → compare_ways e f ≡ Less → compare_ways d f ≡ Less
angles_trans d e f h k = go (then_gives_less (half_cmp d e) (int_cmp (pos 0) (bend_of d e)) h)
    (then_gives_less (half_cmp e f) (int_cmp (pos 0) (bend_of e f)) k)
  where
    earlier : half_cmp d f ≡ Less → compare_ways d f ≡ Less
    earlier e = ap (λ o. ordering_then o (int_cmp (pos 0) (bend_of d f))) e

    go : (half_cmp d e ≡ Less) ⊎ ((half_cmp d e ≡ Equal) × (int_cmp (pos 0) (bend_of d e) ≡ Less)) → (half_cmp e f ≡ Less)
        ⊎ ((half_cmp e f ≡ Equal) × (int_cmp (pos 0) (bend_of e f) ≡ Less)) → compare_ways d f ≡ Less
    go (inl p) (inl q) = earlier (half_trans d e f p q)
    go (inl p) (inr q) = earlier (ap (bool_cmp (past_half d.x d.y)) (sym (equal_bool_cmp (past_half e.x e.y) (past_half f.x f.y) q.0)) ∙ p)
    go (inr p) (inl q) = earlier (ap (λ t. bool_cmp t (past_half f.x f.y)) (equal_bool_cmp (past_half d.x d.y) (past_half e.x e.y) p.0) ∙ q)
    go (inr p) (inr q) =
        let one = equal_bool_cmp (past_half d.x d.y) (past_half e.x e.y) p.0 in
        let two = equal_bool_cmp (past_half e.x e.y) (past_half f.x f.y) q.0 in
        then_second (half_cmp d f) (int_cmp (pos 0) (bend_of d f)) (bool_cmp-equal (past_half d.x d.y) (past_half f.x f.y) (one ∙ two))
        ∙ int_cmp_less (pos 0) (bend_of d f)
        (bend_trans d e f one two (less_int_cmp (pos 0) (bend_of d e) p.1) (less_int_cmp (pos 0) (bend_of e f) q.1))

pub compare_ways_total : IsTotalOrder compare_ways
compare_ways_total = record {
  antisymm = λ d e. (λ i. ordering_then (bool_cmp_total.antisymm (past_half d.x d.y) (past_half e.x e.y) i) (bend_reverse d e i))
      ∙ sym (reverse_then (half_cmp e d) (int_cmp (pos 0) (bend_of e d)));
  trans = angles_trans;
  congr = λ d e f h. let s = same_compare_ways d e h in λ i. ordering_then (bool_cmp (half-same_way d e s i) (past_half f.x f.y))
      (bend_congr d e f s i);
}
