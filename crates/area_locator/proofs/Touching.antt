-- What an edge does to a ray, by the side of the edge on which the point is and the heights of its ends.
use Rattle.std.proofs.Common.{◌≡◌, zero, suc, ℤ, pos, negsuc, ◌*ℤ◌, ◌<ℤ◌, ◌≤ℤ◌, Bool, true, false, not, ◌&&◌, ◌||◌, List, ◌∷◌, ap, refl}
use Rattle.std.proofs.Common.{◌∙◌, arith}
use Rattle.std.specs.Prelude.{int_le, int_lt}
use Rattle.std.specs.Ordering.{int_eq}
use Rattle.std.proofs.lemmas.Int.{ints}
use Rattle.std.proofs.lemmas.Bool.Decides.{same_from_decides, Decides-like}
use Rattle.std.proofs.Math.Bool.{and-false}
use Rattle.whole_algebra.proofs.Laws.{linear, *ℤ_one}
use Rattle.whole_algebra.proofs.Signs.{not_≤ℤ, pos_nonzero, <ℤ_apart}
use Rattle.plane_laws.proofs.Segments.On.{Decides-int_le, Decides-is_on_segment}
use Rattle.plane_exact.proofs.Laws.{zero_sign}
use Rattle.plane_laws.specs.Plane.{Point, IsOnSegment, turn, rise, shift, is_same_way}
use Rattle.plane_exact.specs.Places.{point_of}
use Rattle.plane_exact.specs.Signs.{sign_of}
use Rattle.plane_exact.specs.declared.point.Pt.{Pt}
use Rattle.plane_exact.specs.declared.point.Seg.{Seg}
use Rattle.plane_exact.specs.declared.sign.Sign.TheVariants.{Minus, Zero, Plus}
use Rattle.point_set.specs.Rings.{is_on_edge, is_on_edges, is_low, is_odd, is_same_position, differ, crosses, crosses_from, edges_after}
use Rattle.point_set.specs.Rings.{edge_before}
use Rattle.ring_laws.proofs.Parity.Flip.{crosses_none}
use Rattle.area_locator.specs.Touches.{touch_by, touch_of}
use Rattle.area_locator.specs.declared.touch.Touch.TheVariants.{Holds, Crosses, Misses}
use Rattle.y_index.specs.Levels.{IsLevel}

-- ---- heights
pub low_is : {p : Point} {f c : ℤ} → IsLevel p f c → (a : Pt) → is_low p (point_of a) ≡ int_le a.y f
low_is {p} {f} {c} h a =
    same_from_decides (is_low p (point_of a)) (int_le a.y f)
    (Decides-like (is_low p (point_of a)) (λ k. (h.low a.y).1 (omega (arith, linear, k, *ℤ_one p.y)))
    (λ k. let l = (h.low a.y).0 k in omega (arith, linear, l, *ℤ_one p.y)) (Decides-int_le (a.y *ℤ p.w) (p.y *ℤ pos 1)))
    (Decides-int_le a.y f)

-- ---- by the sign of the turn
int_eq_not : (t : ℤ) → ¬ (t ≡ pos 0) → int_eq t (pos 0) ≡ false
int_eq_not t n = grind (arith, ints)

lt_yes : (a b : ℤ) → a <ℤ b → int_lt a b ≡ true
lt_yes a b h = grind (arith, ints)

lt_not : (a b : ℤ) → b ≤ℤ a → int_lt a b ≡ false
lt_not a b h = grind (arith, ints)

plus_is : (t : ℤ) → sign_of t ≡ Plus → pos 0 <ℤ t
plus_is (pos zero) e = cc
plus_is (pos (suc n)) e = omega (arith, ints)
plus_is (negsuc n) e = cc

minus_is : (t : ℤ) → sign_of t ≡ Minus → t <ℤ pos 0
minus_is (pos zero) e = cc
minus_is (pos (suc n)) e = cc
minus_is (negsuc n) e = omega (arith, ints)

crosses_plus : (l m : Bool) (t : ℤ) → pos 0 <ℤ t → crosses_from l m t ≡ (l && not m)
crosses_plus true true t h = refl
crosses_plus true false t h = lt_yes (pos 0) t h
crosses_plus false true t h = lt_not t (pos 0) (omega (arith, linear, h))
crosses_plus false false t h = refl

crosses_minus : (l m : Bool) (t : ℤ) → t <ℤ pos 0 → crosses_from l m t ≡ (m && not l)
crosses_minus true true t h = refl
crosses_minus true false t h = lt_not (pos 0) t (omega (arith, linear, h))
crosses_minus false true t h = lt_yes t (pos 0) h
crosses_minus false false t h = refl

abbrev turned : Point → Pt → Pt → ℤ
turned p a b = turn (point_of a) (point_of b) p

off_line : (p : Point) (a b : Pt) → ¬ (turned p a b ≡ pos 0) → is_on_edge p (record { a = a; b = b }) ≡ false
off_line p a b n =
    ap (λ z. z && (is_same_way (shift (point_of a) p) (shift p (point_of b)) && is_same_way (rise (point_of a) p) (rise p (point_of b))))
    (int_eq_not (turned p a b) n)

pub touch_left :
    {p : Point} {f c : ℤ} → IsLevel p f c → (a b : Pt) → sign_of (turned p a b) ≡ Plus
    → touch_of false p a b ≡ touch_by false (int_le a.y f && not (int_le b.y f))
touch_left {p} {f} {c} h a b e =
    let t : pos 0 <ℤ turned p a b = plus_is (turned p a b) e in
    (λ i. touch_by (off_line p a b (pos_nonzero t) i) (crosses_plus (is_low p (point_of a)) (is_low p (point_of b)) (turned p a b) t i))
    ∙ (λ i. touch_by false (low_is h a i && not (low_is h b i)))

pub touch_right :
    {p : Point} {f c : ℤ} → IsLevel p f c → (a b : Pt) → sign_of (turned p a b) ≡ Minus
    → touch_of false p a b ≡ touch_by false (int_le b.y f && not (int_le a.y f))
touch_right {p} {f} {c} h a b e =
    let t : turned p a b <ℤ pos 0 = minus_is (turned p a b) e in
    (λ i. touch_by (off_line p a b (<ℤ_apart t) i) (crosses_minus (is_low p (point_of a)) (is_low p (point_of b)) (turned p a b) t i))
    ∙ (λ i. touch_by false (low_is h b i && not (low_is h a i)))

pub touch_on_line :
    (p : Point) (a b : Pt) → sign_of (turned p a b) ≡ Zero → touch_of false p a b ≡ touch_by (is_on_edge p (record { a = a; b = b })) false
touch_on_line p a b e =
    ap (touch_by (is_on_edge p (record { a = a; b = b })))
    (crosses_none (is_low p (point_of a)) (is_low p (point_of b)) (turned p a b) (zero_sign (turned p a b) e))

pub on_edge : (p : Point) (a b : Pt) → IsOnSegment (point_of a) (point_of b) p → is_on_edge p (record { a = a; b = b }) ≡ true
on_edge p a b h = (Decides-is_on_segment (point_of a) (point_of b) p).1 h

-- ---- by the heights of the ends
rises_apart : (u v : ℤ) → u <ℤ pos 0 → pos 0 <ℤ v → is_same_way u v ≡ false
rises_apart u v h k = grind (arith, ints)

falls_apart : (u v : ℤ) → pos 0 <ℤ u → v <ℤ pos 0 → is_same_way u v ≡ false
falls_apart u v h k = grind (arith, ints)

misses :
    (same : Bool) (p : Point) (a b : Pt) → is_same_way (rise (point_of a) p) (rise p (point_of b)) ≡ false
    → crosses p (record { a = a; b = b }) ≡ false → touch_of same p a b ≡ Misses
misses true p a b h k = refl
misses false p a b h k = (λ i. touch_by (off i) (k i))
  where
    off : is_on_edge p (record { a = a; b = b }) ≡ false
    off = (λ i. int_eq (turned p a b) (pos 0) && (is_same_way (shift (point_of a) p) (shift p (point_of b)) && h i))
        ∙ (λ i. int_eq (turned p a b) (pos 0) && and-false (is_same_way (shift (point_of a) p) (shift p (point_of b))) i)
        ∙ and-false (int_eq (turned p a b) (pos 0))

le_not : (a b : ℤ) → b <ℤ a → int_le a b ≡ false
le_not a b h = grind (arith, ints)

le_yes : (a b : ℤ) → a ≤ℤ b → int_le a b ≡ true
le_yes a b h = grind (arith, ints)

-- both ends are higher than the point
pub misses_below : {p : Point} {f c : ℤ} → IsLevel p f c → (same : Bool) (a b : Pt) → f <ℤ a.y → f <ℤ b.y → touch_of same p a b ≡ Misses
unfolding rise
misses_below {p} {f} {c} h same a b l m =
    misses same p a b
    (rises_apart (rise (point_of a) p) (rise p (point_of b)) (let k = higher a l in omega (arith, linear, k, *ℤ_one p.y))
    (let k = higher b m in omega (arith, linear, k, *ℤ_one p.y, *ℤ_one p.w)))
    (λ i. crosses_from ((low_is h a ∙ le_not a.y f l) i) ((low_is h b ∙ le_not b.y f m) i) (turned p a b))
  where
    higher : (q : Pt) → f <ℤ q.y → p.y <ℤ (q.y *ℤ p.w)
    higher q n = not_≤ℤ (q.y *ℤ p.w) p.y (λ k. let g : q.y ≤ℤ f = (h.low q.y).1 k in omega (arith, linear, g, n))

-- both ends are lower than the point
pub misses_above : {p : Point} {f c : ℤ} → IsLevel p f c → (same : Bool) (a b : Pt) → a.y <ℤ c → b.y <ℤ c → touch_of same p a b ≡ Misses
unfolding rise
misses_above {p} {f} {c} h same a b l m =
    misses same p a b
    (falls_apart (rise (point_of a) p) (rise p (point_of b)) (let k = lower a l in omega (arith, linear, k, *ℤ_one p.y))
    (let k = lower b m in omega (arith, linear, k, *ℤ_one p.y, *ℤ_one p.w))) (λ i. crosses_from (low a l i) (low b m i) (turned p a b))
  where
    lower : (q : Pt) → q.y <ℤ c → (q.y *ℤ p.w) <ℤ p.y
    lower q n = not_≤ℤ p.y (q.y *ℤ p.w) (λ k. let g : c ≤ℤ q.y = (h.high q.y).1 k in omega (arith, linear, g, n))

    low : (q : Pt) → q.y <ℤ c → is_low p (point_of q) ≡ true
    low q n = let k = lower q n in le_yes (q.y *ℤ p.w) (p.y *ℤ pos 1) (omega (arith, linear, k, *ℤ_one p.y))

-- ---- what a touch says of the tests along the ring
holds_by : (on cr : Bool) → touch_by on cr ≡ Holds → on ≡ true
holds_by true cr e = refl
holds_by false true e = cc
holds_by false false e = cc

crosses_by : (on cr : Bool) → touch_by on cr ≡ Crosses → (on ≡ false) × (cr ≡ true)
crosses_by true cr e = cc
crosses_by false true e = (refl, refl)
crosses_by false false e = cc

pub misses_by : (on cr : Bool) → touch_by on cr ≡ Misses → (on ≡ false) × (cr ≡ false)
misses_by true cr e = cc
misses_by false true e = cc
misses_by false false e = (refl, refl)

pub after_holds :
    (same : Bool) (p : Point) (a b : Pt) (edges : List Seg) → touch_of same p a b ≡ Holds
    → is_on_edges p (edge_before same a b edges) ≡ true
after_holds true p a b edges e = cc
after_holds false p a b edges e =
    ap (λ z. z || is_on_edges p edges) (holds_by (is_on_edge p (record { a = a; b = b })) (crosses p (record { a = a; b = b })) e)

pub after_crosses :
    (same : Bool) (p : Point) (a b : Pt) (edges : List Seg) → touch_of same p a b ≡ Crosses
    → (is_on_edges p (edge_before same a b edges) ≡ is_on_edges p edges) × (is_odd p (edge_before same a b edges) ≡ not (is_odd p edges))
after_crosses true p a b edges e = cc
after_crosses false p a b edges e =
    let k = crosses_by (is_on_edge p (record { a = a; b = b })) (crosses p (record { a = a; b = b })) e in
    (ap (λ z. z || is_on_edges p edges) k.0, ap (λ z. differ z (is_odd p edges)) k.1)

pub after_misses :
    (same : Bool) (p : Point) (a b : Pt) (edges : List Seg) → touch_of same p a b ≡ Misses
    → (is_on_edges p (edge_before same a b edges) ≡ is_on_edges p edges) × (is_odd p (edge_before same a b edges) ≡ is_odd p edges)
after_misses true p a b edges e = (refl, refl)
after_misses false p a b edges e =
    let k = misses_by (is_on_edge p (record { a = a; b = b })) (crosses p (record { a = a; b = b })) e in
    (ap (λ z. z || is_on_edges p edges) k.0, ap (λ z. differ z (is_odd p edges)) k.1)

-- ---- along the ring
-- of the positions from `first` on, those behind `last` are left: no edge so far holds p, and `odd` tells whether the ray crosses an
-- odd number of them
pub record IsSoFar (p : Point) (first : Pt) (others : List Pt) (last : Pt) (rest : List Pt) (odd : Bool) : Type 0 where
  pub on : is_on_edges p (edges_after first others) ≡ is_on_edges p (edges_after last rest)
  pub odd_is : is_odd p (edges_after first others) ≡ differ odd (is_odd p (edges_after last rest))

differ-not : (a b : Bool) → differ a (not b) ≡ differ (not a) b
differ-not true true = refl
differ-not true false = refl
differ-not false b = refl

pub step_crosses :
    {p : Point} {first : Pt} {others : List Pt} {last : Pt} {q : Pt} {rest : List Pt} {odd : Bool}
    → IsSoFar p first others last (q ∷ rest) odd → touch_of (is_same_position last q) p last q ≡ Crosses
    → IsSoFar p first others q rest (not odd)
step_crosses {p} {first} {others} {last} {q} {rest} {odd} h e =
    let k = after_crosses (is_same_position last q) p last q (edges_after q rest) e in
    record { on = h.on ∙ k.0; odd_is = h.odd_is ∙ ap (differ odd) k.1 ∙ differ-not odd (is_odd p (edges_after q rest)) }

pub step_misses :
    {p : Point} {first : Pt} {others : List Pt} {last : Pt} {q : Pt} {rest : List Pt} {odd : Bool}
    → IsSoFar p first others last (q ∷ rest) odd → touch_of (is_same_position last q) p last q ≡ Misses → IsSoFar p first others q rest odd
step_misses {p} {first} {others} {last} {q} {rest} {odd} h e =
    let k = after_misses (is_same_position last q) p last q (edges_after q rest) e in
    record { on = h.on ∙ k.0; odd_is = h.odd_is ∙ ap (differ odd) k.1 }

pub found :
    {p : Point} {first : Pt} {others : List Pt} {last : Pt} {q : Pt} {rest : List Pt} {odd : Bool}
    → IsSoFar p first others last (q ∷ rest) odd → touch_of (is_same_position last q) p last q ≡ Holds
    → is_on_edges p (edges_after first others) ≡ true
found {p} {first} {others} {last} {q} {rest} {odd} h e = h.on ∙ after_holds (is_same_position last q) p last q (edges_after q rest) e
