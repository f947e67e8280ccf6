-- Two segments without a common point are parted by an affine function with whole coefficients, or all four ends are on one line.
use Rattle.std.proofs.Common.{◌≡◌, ◌⊎◌, inl, inr, ℤ, pos, ◌-ℤ◌, ◌*ℤ◌, neg_ℤ, ◌<ℤ◌, ◌≤ℤ◌, [], ◌∷◌, refl, sym, arith}
use Rattle.std.proofs.lemmas.Int.{by_lt_z}
use Rattle.whole_algebra.proofs.Laws.{linear}
use Rattle.whole_algebra.proofs.Polynomials.{var, num, ◌⊕◌, ◌⊖◌, ◌⊗◌, minus, identity}
use Rattle.whole_algebra.proofs.Certificates.{natural, positive, at_most, same, impossible_by, whole, ◌⊞◌, ◌⊠◌}
use Rattle.whole_algebra.proofs.Signs.{by_sign, <ℤ_weaken}
use Rattle.plane_laws.proofs.Segments.Mixes.{segment_flip}
use Rattle.plane_laws.proofs.Turns.Turns.{◌then◌, turn_swap}
use Rattle.plane_laws.specs.Plane.{Point, turn}
use Rattle.plane_exact.specs.Places.{point_of}
use Rattle.plane_exact.specs.declared.point.Seg.{Seg}
use Rattle.ring_laws.proofs.Parity.OneEdge.{AreApart, no_weights}
use Rattle.ring_laws.proofs.Parity.Flip.{turn_weights}
use Rattle.plane_laws.proofs.Near.Parted.{Affine, at_point, turn_by, turn_by_is, turn_ends}

-- an affine function is positive at v and w and at most 0 at a and b
pub record ArePartedFrom (v w a b : Point) : Type 0 where
  pub by : Affine
  pub at_first : pos 0 <ℤ at_point by v
  pub at_second : pos 0 <ℤ at_point by w
  pub first : at_point by a ≤ℤ pos 0
  pub second : at_point by b ≤ℤ pos 0

parted_ends : {v w a b : Point} → ArePartedFrom v w a b → ArePartedFrom v w b a
parted_ends h = record { by = h.by; at_first = h.at_first; at_second = h.at_second; first = h.second; second = h.first }

-- 1 less a turn, and 1 more
less_turn : Affine → Affine
less_turn f = record { x = neg_ℤ f.x; y = neg_ℤ f.y; w = pos 1 -ℤ f.w }

less_turn_is : (f : Affine) (p : Point) → at_point (less_turn f) p ≡ p.w -ℤ at_point f p
unfolding less_turn
less_turn_is f p =
    identity ((minus (var 0) ⊗ var 3 ⊕ minus (var 1) ⊗ var 4) ⊕ (num (pos 1) ⊖ var 2) ⊗ var 5)
    (var 5 ⊖ ((var 0 ⊗ var 3 ⊕ var 1 ⊗ var 4) ⊕ var 2 ⊗ var 5)) (f.x ∷ f.y ∷ f.w ∷ (p then [])) refl

-- positions have the weight 1
record IsWhole (p : Point) : Type 0 where
  one : p.w ≡ pos 1

parted_left : (v w a b : Point) → IsWhole a → IsWhole b → pos 0 <ℤ turn v w a → pos 0 <ℤ turn v w b → ArePartedFrom v w a b
parted_left v w a b ha hb h k = record {
  by = less_turn (turn_by v w);
  at_first = omega (arith, linear, less_turn_is (turn_by v w) v, turn_by_is v w v, (turn_ends v w).0, v.heavy);
  at_second = omega (arith, linear, less_turn_is (turn_by v w) w, turn_by_is v w w, (turn_ends v w).1, w.heavy);
  first = omega (arith, linear, less_turn_is (turn_by v w) a, turn_by_is v w a, ha.one, h);
  second = omega (arith, linear, less_turn_is (turn_by v w) b, turn_by_is v w b, hb.one, k);
}

parted_turned : {v w a b : Point} → ArePartedFrom w v a b → ArePartedFrom v w a b
parted_turned h = record { by = h.by; at_first = h.at_second; at_second = h.at_first; first = h.first; second = h.second }

parted_right : (v w a b : Point) → IsWhole a → IsWhole b → turn v w a <ℤ pos 0 → turn v w b <ℤ pos 0 → ArePartedFrom v w a b
parted_right v w a b ha hb h k =
    parted_turned (parted_left w v a b ha hb (omega (arith, linear, h, turn_swap v w a)) (omega (arith, linear, k, turn_swap v w b)))

parted_by_edge : (v w a b : Point) → pos 0 <ℤ turn a b v → pos 0 <ℤ turn a b w → ArePartedFrom v w a b
parted_by_edge v w a b h k = record {
  by = turn_by a b;
  at_first = omega (arith, linear, turn_by_is a b v, h);
  at_second = omega (arith, linear, turn_by_is a b w, k);
  first = omega (arith, linear, turn_by_is a b a, (turn_ends a b).0);
  second = omega (arith, linear, turn_by_is a b b, (turn_ends a b).1);
}

parted_by_edge' : (v w a b : Point) → turn a b v <ℤ pos 0 → turn a b w <ℤ pos 0 → ArePartedFrom v w a b
parted_by_edge' v w a b h k =
    parted_ends (parted_by_edge v w b a (omega (arith, linear, h, turn_swap a b v)) (omega (arith, linear, k, turn_swap a b w)))

-- the turns can't part so
opposed {ℓ} : {P : Type ℓ} (sa sb tp tq a b v w : ℤ) → sa ≤ℤ pos 0 → pos 0 ≤ℤ sb → pos 0 <ℤ (sb -ℤ sa) → tp ≤ℤ pos 0 → pos 0 ≤ℤ tq
    → pos 0 <ℤ a → pos 0 <ℤ b → pos 0 <ℤ v → pos 0 <ℤ w → (sb *ℤ a) -ℤ (sa *ℤ b) ≡ (tp *ℤ w) -ℤ (tq *ℤ v) → P
opposed {P = P} sa sb tp tq a b v w h k some l m ha hb hv hw e =
    impossible_by {P = P} (sa ∷ sb ∷ tp ∷ tq ∷ a ∷ b ∷ v ∷ w ∷ [])
    (positive (var 1 ⊖ var 0) some
    ⊞ natural (var 1) k ⊠ whole (positive (var 4) ha) ⊞ at_most (var 0) (num (pos 0)) h ⊠ whole (positive (var 5) hb)
    ⊞ at_most (var 2) (num (pos 0)) l ⊠ positive (var 7) hw ⊞ natural (var 3) m ⊠ positive (var 6) hv
    ⊞ same (var 2 ⊗ var 7 ⊖ var 3 ⊗ var 6) (var 1 ⊗ var 4 ⊖ var 0 ⊗ var 5) (sym e)) refl

-- a is at most to the right of the line through v and w, and b at least to its left
parted_across : (v w a b : Point) → AreApart a b v w → turn v w a ≤ℤ pos 0 → pos 0 ≤ℤ turn v w b → pos 0 <ℤ (turn v w b -ℤ turn v w a)
    → ArePartedFrom v w a b
parted_across v w a b apart h k some = by_sign (turn a b v)
    (λ l. by_lt_z (turn a b w) (pos 0) (λ m. parted_by_edge' v w a b l m) (λ m. crossed (<ℤ_weaken l) m))
    (λ l. by_lt_z (pos 0) (turn a b w) (λ m. crossed (omega (arith, linear, l)) (<ℤ_weaken m)) (λ m. met (omega (arith, linear, l)) m))
    (λ l. by_lt_z (pos 0) (turn a b w) (λ m. parted_by_edge v w a b l m) (λ m. met (<ℤ_weaken l) m))
  where
    crossed : turn a b v ≤ℤ pos 0 → pos 0 ≤ℤ turn a b w → ArePartedFrom v w a b
    crossed l m = opposed (turn v w a) (turn v w b) (turn a b v) (turn a b w) a.w b.w v.w w.w h k some l m a.heavy b.heavy v.heavy w.heavy
        (turn_weights a b v w)

    met : pos 0 ≤ℤ turn a b v → turn a b w ≤ℤ pos 0 → ArePartedFrom v w a b
    met l m = absurd ((no_weights a b v w apart).one
        (record { first = h; second = k; third = l; fourth = m; some = omega (arith, linear, some, l, m) }))

flipped_apart : {a b v w : Point} → AreApart a b v w → AreApart b a v w
flipped_apart apart = record { none = λ m h k. apart.none m (segment_flip h) k }

-- both ends are on the line through v and w
pub record AreOnLine (v w a b : Point) : Type 0 where
  pub first : turn v w a ≡ pos 0
  pub second : turn v w b ≡ pos 0

parted : (v w a b : Point) → IsWhole a → IsWhole b → AreApart a b v w → ArePartedFrom v w a b ⊎ AreOnLine v w a b
parted v w a b ha hb apart = by_sign (turn v w a)
    (λ h. by_lt_z (turn v w b) (pos 0) (λ k. inl (parted_right v w a b ha hb h k))
    (λ k. inl (parted_across v w a b apart (<ℤ_weaken h) k (omega (arith, linear, h, k)))))
    (λ h. by_sign (turn v w b)
    (λ k. inl (parted_ends
    (parted_across v w b a (flipped_apart apart) (<ℤ_weaken k) (omega (arith, linear, h)) (omega (arith, linear, h, k)))))
    (λ k. inr (record { first = h; second = k }))
    (λ k. inl (parted_across v w a b apart (omega (arith, linear, h)) (<ℤ_weaken k) (omega (arith, linear, h, k)))))
    (λ h. by_lt_z (pos 0) (turn v w b) (λ k. inl (parted_left v w a b ha hb h k))
    (λ k. inl (parted_ends (parted_across v w b a (flipped_apart apart) k (<ℤ_weaken h) (omega (arith, linear, h, k))))))

pub edge_parted : (v w : Point) (e : Seg) → AreApart (point_of e.a) (point_of e.b) v w → ArePartedFrom v w (point_of e.a) (point_of e.b)
    ⊎ AreOnLine v w (point_of e.a) (point_of e.b)
edge_parted v w e = parted v w (point_of e.a) (point_of e.b) (record { one = refl }) (record { one = refl })
