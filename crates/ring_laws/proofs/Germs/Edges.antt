-- Germs and edges: which edges through v come between two directions, and that what lies between two directions free of them is
-- met by no edge near v.
use Rattle.std.proofs.Common.{◌≡◌, ℕ, ◌+◌, ◌<◌, ℤ, pos, ◌+ℤ◌, ◌-ℤ◌, ◌*ℤ◌, neg_ℤ, ◌<ℤ◌, ◌≤ℤ◌, Bool, true, false, ◌&&◌, List, [], ◌∷◌, ap}
use Rattle.std.proofs.Common.{refl, sym, ◌∙◌, arith}
use Rattle.std.specs.Prelude.{int_lt}
use Rattle.std.specs.Bool.{Decides}
use Rattle.std.specs.Ordering.{int_eq}
use Rattle.std.proofs.lemmas.Bool.{or_from, false_from_ne_true}
use Rattle.std.proofs.lemmas.Bool.Decides.{Decides-int_eq, Decides-and, Decides-like}
use lib.IntN.{*ℤ-zero, zero-*ℤ}
use Rattle.whole_algebra.proofs.Laws.{linear}
use Rattle.whole_algebra.proofs.Polynomials.{var, num, ◌⊕◌, ◌⊖◌, ◌⊗◌, minus, identity}
use Rattle.whole_algebra.proofs.Certificates.{positive, same, same_from, less_by, scaled, ◌⊞◌, ◌⊠◌}
use Rattle.whole_algebra.proofs.Signs.{by_sign, <ℤ_weaken, pos-*-pos, nonneg-*-nonneg, zero_factor, pos_nonzero, square_pos, square_nonneg}
use Rattle.whole_algebra.proofs.Signs.{<ℤ_apart, pos-+-nonneg, nonneg-+-pos}
use Rattle.plane_laws.proofs.Segments.On.{Decides-is_on_segment, Decides-int_lt}
use Rattle.plane_laws.specs.Plane.{Point, IsOnSegment, rise, shift}
use Rattle.plane_exact.specs.Places.{point_of}
use Rattle.plane_laws.specs.Directions.{Direction}
use Rattle.plane_exact.specs.declared.point.Seg.{Seg}
use Rattle.point_set.specs.Rings.{is_on_edge, is_on_edges}
use Rattle.plane_laws.specs.Along.{IsAway, IsInCone}
use Rattle.ring_laws.proofs.Parity.Ring.{Misses}
use Rattle.ring_laws.proofs.Room.Edges.{HoldBoth, room}
use Rattle.plane_laws.proofs.Near.Near.{IsNear, near_mix, shift_mix, rise_mix}
use Rattle.plane_laws.proofs.Near.Away.{away_near, far_for, between_in_cone, some_weight}

-- ---- where a point of an edge through v lies between two directions, so does one of the edge's ends
pub shift_self : (v : Point) → shift v v ≡ pos 0
unfolding shift
shift_self v = omega (arith, linear)

pub rise_self : (v : Point) → rise v v ≡ pos 0
unfolding rise
rise_self v = omega (arith, linear)

-- a point is near itself
pub near_self : (v : Point) (n : ℕ) → IsNear v n v
near_self v n =
    let still_x : pos n *ℤ shift v v ≡ pos 0 = ap (λ z. pos n *ℤ z) (shift_self v) ∙ *ℤ-zero (pos n) in
    let still_y : pos n *ℤ rise v v ≡ pos 0 = ap (λ z. pos n *ℤ z) (rise_self v) ∙ *ℤ-zero (pos n) in
    let heavy : pos 0 <ℤ (v.w *ℤ v.w) = pos-*-pos v.heavy v.heavy in
    record {
      left = omega (arith, linear, still_x, heavy);
      right = omega (arith, linear, still_x, heavy);
      bottom = omega (arith, linear, still_y, heavy);
      top = omega (arith, linear, still_y, heavy);
    }

-- the edge's weights of v are s and t, those of m are u and w; x and y are the steps from v to the ends, z is that to m
to_first : (s t u w k x y z c r : ℤ) → (s *ℤ x) +ℤ (t *ℤ y) ≡ pos 0 → k *ℤ z ≡ (u *ℤ x) +ℤ (w *ℤ y) → c *ℤ z ≡ r
    → (((u *ℤ t) -ℤ (w *ℤ s)) *ℤ c) *ℤ x ≡ (t *ℤ k) *ℤ r
to_first s t u w k x y z c r e f g =
    same_from (((var 2 ⊗ var 1 ⊖ var 3 ⊗ var 0) ⊗ var 8) ⊗ var 5) ((var 1 ⊗ var 4) ⊗ var 9) (s ∷ t ∷ u ∷ w ∷ k ∷ x ∷ y ∷ z ∷ c ∷ r ∷ [])
    (scaled (minus (var 3 ⊗ var 8)) (same (var 0 ⊗ var 5 ⊕ var 1 ⊗ var 6) (num (pos 0)) e)
    ⊞ scaled (minus (var 1 ⊗ var 8)) (same (var 4 ⊗ var 7) (var 2 ⊗ var 5 ⊕ var 3 ⊗ var 6) f)
    ⊞ scaled (var 1 ⊗ var 4) (same (var 8 ⊗ var 7) (var 9) g)) refl

to_second : (s t u w k x y z c r : ℤ) → (s *ℤ x) +ℤ (t *ℤ y) ≡ pos 0 → k *ℤ z ≡ (u *ℤ x) +ℤ (w *ℤ y) → c *ℤ z ≡ r
    → (neg_ℤ ((u *ℤ t) -ℤ (w *ℤ s)) *ℤ c) *ℤ y ≡ (s *ℤ k) *ℤ r
to_second s t u w k x y z c r e f g =
    same_from ((minus (var 2 ⊗ var 1 ⊖ var 3 ⊗ var 0) ⊗ var 8) ⊗ var 6) ((var 0 ⊗ var 4) ⊗ var 9)
    (s ∷ t ∷ u ∷ w ∷ k ∷ x ∷ y ∷ z ∷ c ∷ r ∷ [])
    (scaled (minus (var 2 ⊗ var 8)) (same (var 0 ⊗ var 5 ⊕ var 1 ⊗ var 6) (num (pos 0)) e)
    ⊞ scaled (minus (var 0 ⊗ var 8)) (same (var 4 ⊗ var 7) (var 2 ⊗ var 5 ⊕ var 3 ⊗ var 6) f)
    ⊞ scaled (var 0 ⊗ var 4) (same (var 8 ⊗ var 7) (var 9) g)) refl

-- a cone holds what lies at a positive multiple of a step to one of its points
longer : {v : Point} {d e : Direction} {m : Point} (c : IsInCone v d e m) (a : Point) (more f : ℤ) → pos 0 <ℤ more → pos 0 <ℤ f
    → (more *ℤ c.times) *ℤ shift v a ≡ f *ℤ ((c.i *ℤ d.x) +ℤ (c.j *ℤ e.x))
    → (more *ℤ c.times) *ℤ rise v a ≡ f *ℤ ((c.i *ℤ d.y) +ℤ (c.j *ℤ e.y)) → IsInCone v d e a
longer {v} {d} {e} {m} c a more f hm hf across above = record {
  i = f *ℤ c.i;
  j = f *ℤ c.j;
  first = nonneg-*-nonneg (<ℤ_weaken hf) c.first;
  second = nonneg-*-nonneg (<ℤ_weaken hf) c.second;
  some = grown f c.i c.j hf c.some;
  times = more *ℤ c.times;
  positive = pos-*-pos hm c.positive;
  across = across ∙ spread f c.i d.x c.j e.x;
  above = above ∙ spread f c.i d.y c.j e.y;
}
  where
    spread : (f i x j y : ℤ) → f *ℤ ((i *ℤ x) +ℤ (j *ℤ y)) ≡ ((f *ℤ i) *ℤ x) +ℤ ((f *ℤ j) *ℤ y)
    spread f i x j y = identity (var 0 ⊗ (var 1 ⊗ var 2 ⊕ var 3 ⊗ var 4)) ((var 0 ⊗ var 1) ⊗ var 2 ⊕ (var 0 ⊗ var 3) ⊗ var 4)
        (f ∷ i ∷ x ∷ j ∷ y ∷ []) refl

    grown : (f i j : ℤ) → pos 0 <ℤ f → pos 0 <ℤ (i +ℤ j) → pos 0 <ℤ ((f *ℤ i) +ℤ (f *ℤ j))
    grown f i j hf h =
        less_by (num (pos 0)) (var 0 ⊗ var 1 ⊕ var 0 ⊗ var 2) (f ∷ i ∷ j ∷ [])
        (λ denied. denied ⊞ positive (var 0) hf ⊠ positive (var 1 ⊕ var 2) h) refl

-- a point to which the steps are those to a point between two directions lies between them
pub cone_moved : {v : Point} {d e : Direction} {p q : Point} (c : IsInCone v d e p) → c.times *ℤ shift v q ≡ (c.i *ℤ d.x) +ℤ (c.j *ℤ e.x)
    → c.times *ℤ rise v q ≡ (c.i *ℤ d.y) +ℤ (c.j *ℤ e.y) → IsInCone v d e q
cone_moved c across above = record {
  i = c.i;
  j = c.j;
  first = c.first;
  second = c.second;
  some = c.some;
  times = c.times;
  positive = c.positive;
  across = across;
  above = above;
}

-- neither end of the edge lies between the directions
pub record AreEndsClear (v : Point) (d e : Direction) (a b : Point) : Type 0 where
  pub first : ¬ IsInCone v d e a
  pub second : ¬ IsInCone v d e b

weight_above : (s t u w : ℤ) → pos 0 ≤ℤ t → pos 0 ≤ℤ w → pos 0 ≤ℤ s → pos 0 <ℤ ((u *ℤ t) -ℤ (w *ℤ s)) → pos 0 <ℤ t
weight_above s t u w ht hw hs h = by_sign t (λ k. absurd (clash k)) (λ z. absurd (zero z)) (λ k. k)
  where
    clash : t <ℤ pos 0 → ⊥
    clash k = omega (arith, linear, k, ht)

    zero : t ≡ pos 0 → ⊥
    zero z = omega (arith, linear, h, ap (λ y. u *ℤ y) z, *ℤ-zero u, nonneg-*-nonneg hw hs)

pub ends_decide : (v : Point) (d e : Direction) (a b m : Point) → ¬ IsInCone v d e v → IsOnSegment a b v → IsOnSegment a b m
    → AreEndsClear v d e a b → IsInCone v d e m → ⊥
ends_decide v d e a b m pointed on_v on_m clear c = by_sign turned (λ h. clear.second (to_b h)) (λ z. pointed (at_v z))
    (λ h. clear.first (to_a h))
  where
    turned : ℤ
    turned = (on_m.s *ℤ on_v.t) -ℤ (on_m.t *ℤ on_v.s)

    still_x : (on_v.s *ℤ shift v a) +ℤ (on_v.t *ℤ shift v b) ≡ pos 0
    still_x = sym (shift_mix v on_v.mix) ∙ ap (λ z. on_v.mix.times *ℤ z) (shift_self v) ∙ *ℤ-zero on_v.mix.times

    still_y : (on_v.s *ℤ rise v a) +ℤ (on_v.t *ℤ rise v b) ≡ pos 0
    still_y = sym (rise_mix v on_v.mix) ∙ ap (λ z. on_v.mix.times *ℤ z) (rise_self v) ∙ *ℤ-zero on_v.mix.times

    to_a : pos 0 <ℤ turned → IsInCone v d e a
    to_a h = longer c a turned (on_v.t *ℤ on_m.mix.times) h
        (pos-*-pos (weight_above on_v.s on_v.t on_m.s on_m.t on_v.mix.second on_m.mix.second on_v.mix.first h) on_m.mix.some)
        (to_first on_v.s on_v.t on_m.s on_m.t on_m.mix.times (shift v a) (shift v b) (shift v m) c.times
        ((c.i *ℤ d.x) +ℤ (c.j *ℤ e.x)) still_x (shift_mix v on_m.mix) c.across)
        (to_first on_v.s on_v.t on_m.s on_m.t on_m.mix.times (rise v a) (rise v b) (rise v m) c.times
        ((c.i *ℤ d.y) +ℤ (c.j *ℤ e.y)) still_y (rise_mix v on_m.mix) c.above)

    to_b : turned <ℤ pos 0 → IsInCone v d e b
    to_b h = longer c b (neg_ℤ turned) (on_v.s *ℤ on_m.mix.times) (omega (arith, linear, h))
        (pos-*-pos (weight_above on_v.t on_v.s on_m.t on_m.s on_v.mix.first on_m.mix.first on_v.mix.second (omega (arith, linear, h)))
        on_m.mix.some)
        (to_second on_v.s on_v.t on_m.s on_m.t on_m.mix.times (shift v a) (shift v b) (shift v m) c.times
        ((c.i *ℤ d.x) +ℤ (c.j *ℤ e.x)) still_x (shift_mix v on_m.mix) c.across)
        (to_second on_v.s on_v.t on_m.s on_m.t on_m.mix.times (rise v a) (rise v b) (rise v m) c.times
        ((c.i *ℤ d.y) +ℤ (c.j *ℤ e.y)) still_y (rise_mix v on_m.mix) c.above)

    none_by : (s t k r : ℤ) → pos 0 ≤ℤ s → pos 0 ≤ℤ t → pos 0 <ℤ (s +ℤ t) → pos 0 <ℤ k → (s *ℤ k) *ℤ r ≡ pos 0 → (t *ℤ k) *ℤ r ≡ pos 0
        → r ≡ pos 0
    none_by s t k r hs ht h hk f g =
        zero_factor ((s +ℤ t) *ℤ k) r (pos_nonzero (pos-*-pos h hk))
        (same_from (((var 0 ⊕ var 1) ⊗ var 2) ⊗ var 3) (num (pos 0)) (s ∷ t ∷ k ∷ r ∷ [])
        (same ((var 0 ⊗ var 2) ⊗ var 3) (num (pos 0)) f ⊞ same ((var 1 ⊗ var 2) ⊗ var 3) (num (pos 0)) g) refl)

    none_left : (c x : ℤ) → turned ≡ pos 0 → (turned *ℤ c) *ℤ x ≡ pos 0
    none_left c x z = ap (λ y. (y *ℤ c) *ℤ x) z ∙ ap (λ y. y *ℤ x) (zero-*ℤ c) ∙ zero-*ℤ x

    none_right : (c x : ℤ) → turned ≡ pos 0 → (neg_ℤ turned *ℤ c) *ℤ x ≡ pos 0
    none_right c x z = ap (λ y. (neg_ℤ y *ℤ c) *ℤ x) z ∙ ap (λ y. y *ℤ x) (zero-*ℤ c) ∙ zero-*ℤ x

    -- where both ends give the cone no weight, a coordinate of its way is 0
    none_at : turned ≡ pos 0 → (x y z r : ℤ) → (on_v.s *ℤ x) +ℤ (on_v.t *ℤ y) ≡ pos 0
        → on_m.mix.times *ℤ z ≡ (on_m.s *ℤ x) +ℤ (on_m.t *ℤ y) → c.times *ℤ z ≡ r → r ≡ pos 0
    none_at level x y z r still mixed step =
        none_by on_v.s on_v.t on_m.mix.times r on_v.mix.first on_v.mix.second (some_weight on_v.mix) on_m.mix.some
        (sym (to_second on_v.s on_v.t on_m.s on_m.t on_m.mix.times x y z c.times r still mixed step) ∙ none_right c.times y level)
        (sym (to_first on_v.s on_v.t on_m.s on_m.t on_m.mix.times x y z c.times r still mixed step) ∙ none_left c.times x level)

    at_v : turned ≡ pos 0 → IsInCone v d e v
    at_v z =
        let zero_x = none_at z (shift v a) (shift v b) (shift v m) ((c.i *ℤ d.x) +ℤ (c.j *ℤ e.x)) still_x (shift_mix v on_m.mix) c.across in
        let zero_y = none_at z (rise v a) (rise v b) (rise v m) ((c.i *ℤ d.y) +ℤ (c.j *ℤ e.y)) still_y (rise_mix v on_m.mix) c.above in
        cone_moved c (ap (λ y. c.times *ℤ y) (shift_self v) ∙ *ℤ-zero c.times ∙ sym zero_x)
        (ap (λ y. c.times *ℤ y) (rise_self v) ∙ *ℤ-zero c.times ∙ sym zero_y)

-- a single direction has no way back
pub direction_pointed : (v : Point) (d : Direction) → ¬ IsInCone v d d v
direction_pointed v d c = d.moves (none d.x (shift v v) (shift_self v) c.across, none d.y (rise v v) (rise_self v) c.above)
  where
    none : (x z : ℤ) → z ≡ pos 0 → c.times *ℤ z ≡ (c.i *ℤ x) +ℤ (c.j *ℤ x) → x ≡ pos 0
    none x z still e =
        zero_factor (c.i +ℤ c.j) x (pos_nonzero c.some)
        (identity ((var 0 ⊕ var 1) ⊗ var 2) (var 0 ⊗ var 2 ⊕ var 1 ⊗ var 2) (c.i ∷ c.j ∷ x ∷ []) refl
        ∙ sym e ∙ ap (λ y. c.times *ℤ y) still ∙ *ℤ-zero c.times)

-- ---- near v, between two directions free of edges
-- of each edge that holds v, neither end lies between the directions
abbrev pub AreClear : Point → Direction → Direction → List Seg → Type 0
AreClear v d e [] = Unit {0}
AreClear v d e (f ∷ edges) = (is_on_edge v f ≡ true → AreEndsClear v d e (point_of f.a) (point_of f.b)) × AreClear v d e edges

pub on_true : {p : Point} {f : Seg} → is_on_edge p f ≡ true → IsOnSegment (point_of f.a) (point_of f.b) p
on_true {p} {f} h = (Decides-is_on_segment (point_of f.a) (point_of f.b) p).0 h

missed_between : (v : Point) (d e : Direction) → ¬ IsInCone v d e v → (m : Point) → IsInCone v d e m → (edges : List Seg)
    → AreClear v d e edges → HoldBoth v m edges → is_on_edges m edges ≡ false
missed_between v d e pointed m c [] clear near = refl
missed_between v d e pointed m c (f ∷ edges) clear near =
    or_from (is_on_edge m f) (is_on_edges m edges) (by_v (is_on_edge v f) refl) (missed_between v d e pointed m c edges clear.1 near.1)
  where
    by_v : (b : Bool) → is_on_edge v f ≡ b → is_on_edge m f ≡ false
    by_v true h = false_from_ne_true (is_on_edge m f)
        (λ k. ends_decide v d e (point_of f.a) (point_of f.b) m pointed (on_true h) (on_true k) (clear.0 h) c)
    by_v false h = near.0 h

-- from some n on, the segments between the points v + d/n and the points v + e/n meet no edge
pub record AreJoined (v : Point) (d e : Direction) (edges : List Seg) : Type 0 where
  pub from : ℕ
  pub free : (n l : ℕ) → from < n → from < l → (p q : Point) → IsAway v d n p → IsAway v e l q → Misses p q edges

pub joined_between : (v : Point) (d e : Direction) → ¬ IsInCone v d e v → (edges : List Seg) → AreClear v d e edges → AreJoined v d e edges
joined_between v d e pointed edges clear =
    let r = room v edges in
    record {
      from = far_for d r.n + far_for e r.n;
      free = λ n l far far' p q away away'.
          record {
            off = λ m on.
                missed_between v d e pointed m (between_in_cone (omega arith) (omega arith) away away' on) edges clear
                (r.free r.n (omega arith) m (near_mix (away_near r.n (omega arith) away) (away_near r.n (omega arith) away') on));
          };
    }

-- ---- whether an edge runs from v along a direction
unfoldable pub cross_of : Point → Direction → Point → ℤ
cross_of v d a = (d.x *ℤ rise v a) -ℤ (d.y *ℤ shift v a)

unfoldable pub dot_of : Point → Direction → Point → ℤ
dot_of v d a = (d.x *ℤ shift v a) +ℤ (d.y *ℤ rise v a)

pub is_toward : Point → Direction → Point → Bool
is_toward v d a = int_eq (cross_of v d a) (pos 0) && int_lt (pos 0) (dot_of v d a)

pub squares : (x y : ℤ) → ¬ ((x ≡ pos 0) × (y ≡ pos 0)) → pos 0 <ℤ ((x *ℤ x) +ℤ (y *ℤ y))
squares x y moves = by_sign x
    (λ h. pos-+-nonneg (square_pos x (<ℤ_apart h)) (square_nonneg y))
    (λ z. nonneg-+-pos (square_nonneg x) (square_pos y (λ k. moves (z, k))))
    (λ h. pos-+-nonneg (square_pos x (pos_nonzero h)) (square_nonneg y))

pub moving : (d : Direction) → pos 0 <ℤ ((d.x *ℤ d.x) +ℤ (d.y *ℤ d.y))
moving d = squares d.x d.y d.moves

pub cone_toward : (v : Point) (d : Direction) (a : Point) → cross_of v d a ≡ pos 0 → pos 0 <ℤ dot_of v d a → IsInCone v d d a
unfolding cross_of dot_of
cone_toward v d a z h = record {
  i = (d.x *ℤ shift v a) +ℤ (d.y *ℤ rise v a);
  j = pos 0;
  first = <ℤ_weaken h;
  second = omega (arith, linear);
  some = omega (arith, linear, h);
  times = (d.x *ℤ d.x) +ℤ (d.y *ℤ d.y);
  positive = moving d;
  across = along d.x d.y (shift v a) (rise v a) z;
  above = along' d.x d.y (shift v a) (rise v a) z;
}
  where
    along : (x y s r : ℤ) → (x *ℤ r) -ℤ (y *ℤ s) ≡ pos 0 → ((x *ℤ x) +ℤ (y *ℤ y)) *ℤ s ≡ (((x *ℤ s) +ℤ (y *ℤ r)) *ℤ x) +ℤ (pos 0 *ℤ x)
    along x y s r e =
        same_from ((var 0 ⊗ var 0 ⊕ var 1 ⊗ var 1) ⊗ var 2) ((var 0 ⊗ var 2 ⊕ var 1 ⊗ var 3) ⊗ var 0 ⊕ num (pos 0) ⊗ var 0)
        (x ∷ y ∷ s ∷ r ∷ [])
        (scaled (minus (var 1)) (same (var 0 ⊗ var 3 ⊖ var 1 ⊗ var 2) (num (pos 0)) e)) refl

    along' : (x y s r : ℤ) → (x *ℤ r) -ℤ (y *ℤ s) ≡ pos 0 → ((x *ℤ x) +ℤ (y *ℤ y)) *ℤ r ≡ (((x *ℤ s) +ℤ (y *ℤ r)) *ℤ y) +ℤ (pos 0 *ℤ y)
    along' x y s r e =
        same_from ((var 0 ⊗ var 0 ⊕ var 1 ⊗ var 1) ⊗ var 3) ((var 0 ⊗ var 2 ⊕ var 1 ⊗ var 3) ⊗ var 1 ⊕ num (pos 0) ⊗ var 1)
        (x ∷ y ∷ s ∷ r ∷ [])
        (scaled (var 0) (same (var 0 ⊗ var 3 ⊖ var 1 ⊗ var 2) (num (pos 0)) e)) refl

toward_cone : (v : Point) (d : Direction) (a : Point) → IsInCone v d d a → (cross_of v d a ≡ pos 0) × (pos 0 <ℤ dot_of v d a)
unfolding cross_of dot_of
toward_cone v d a c =
    (level d.x d.y (shift v a) (rise v a) c.across c.above, ahead d.x d.y (shift v a) (rise v a) c.across c.above (moving d))
  where
    level : (x y s r : ℤ) → c.times *ℤ s ≡ (c.i *ℤ x) +ℤ (c.j *ℤ x) → c.times *ℤ r ≡ (c.i *ℤ y) +ℤ (c.j *ℤ y) → (x *ℤ r) -ℤ (y *ℤ s) ≡ pos 0
    level x y s r e f =
        zero_factor c.times ((x *ℤ r) -ℤ (y *ℤ s)) (pos_nonzero c.positive)
        (same_from (var 0 ⊗ (var 3 ⊗ var 6 ⊖ var 4 ⊗ var 5)) (num (pos 0)) (c.times ∷ c.i ∷ c.j ∷ x ∷ y ∷ s ∷ r ∷ [])
        (scaled (var 3) (same (var 0 ⊗ var 6) (var 1 ⊗ var 4 ⊕ var 2 ⊗ var 4) f)
        ⊞ scaled (minus (var 4)) (same (var 0 ⊗ var 5) (var 1 ⊗ var 3 ⊕ var 2 ⊗ var 3) e)) refl)

    ahead : (x y s r : ℤ) → c.times *ℤ s ≡ (c.i *ℤ x) +ℤ (c.j *ℤ x) → c.times *ℤ r ≡ (c.i *ℤ y) +ℤ (c.j *ℤ y)
        → pos 0 <ℤ ((x *ℤ x) +ℤ (y *ℤ y)) → pos 0 <ℤ ((x *ℤ s) +ℤ (y *ℤ r))
    ahead x y s r e f h =
        less_by (num (pos 0)) (var 3 ⊗ var 5 ⊕ var 4 ⊗ var 6) (c.times ∷ c.i ∷ c.j ∷ x ∷ y ∷ s ∷ r ∷ [])
        (λ denied. denied ⊠ positive (var 0) c.positive ⊞ positive (var 1 ⊕ var 2) c.some ⊠ positive (var 3 ⊗ var 3 ⊕ var 4 ⊗ var 4) h
        ⊞ scaled (var 3) (same (var 0 ⊗ var 5) (var 1 ⊗ var 3 ⊕ var 2 ⊗ var 3) e)
        ⊞ scaled (var 4) (same (var 0 ⊗ var 6) (var 1 ⊗ var 4 ⊕ var 2 ⊗ var 4) f)) refl

pub Decides-is_toward : (v : Point) (d : Direction) (a : Point) → Decides (is_toward v d a) (IsInCone v d d a)
unfolding is_toward
Decides-is_toward v d a =
    Decides-like (int_eq (cross_of v d a) (pos 0) && int_lt (pos 0) (dot_of v d a)) (λ h. cone_toward v d a h.0 h.1) (toward_cone v d a)
    (Decides-and (int_eq (cross_of v d a) (pos 0)) (int_lt (pos 0) (dot_of v d a)) (Decides-int_eq (cross_of v d a) (pos 0))
    (Decides-int_lt (pos 0) (dot_of v d a)))
