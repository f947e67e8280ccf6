-- Just to the right of a ray one is strictly within the sector that ends at it, also where that sector is a half turn or a whole one.
use Rattle.std.proofs.Common.{◌≡◌, inr, ℕ, suc, ℤ, pos, ◌+ℤ◌, ◌-ℤ◌, ◌*ℤ◌, neg_ℤ, ◌<ℤ◌, ◌≤ℤ◌}
use Rattle.std.proofs.Common.{[], ◌∷◌, refl, sym, subst, arith}
use Rattle.whole_algebra.proofs.Laws.{linear}
use Rattle.whole_algebra.proofs.Polynomials.{var, num, ◌⊕◌, ◌⊖◌, ◌⊗◌, minus, identity}
use Rattle.whole_algebra.proofs.Certificates.{natural, positive, at_most, vanishing, less, less_by, whole, scaled, ◌⊞◌, ◌⊠◌}
use Rattle.whole_algebra.proofs.Signs.{by_sign, <ℤ_apart}
use Rattle.plane_laws.proofs.Directions.Angles.{no_bend, joined_ways}
use Rattle.plane_laws.specs.Directions.{Direction, bend_of, PointSameWay, IsStrictlyWithin}
use Rattle.plane_laws.proofs.Near.Near.{size_of, size_is}
use Rattle.ring_laws.proofs.Germs.Edges.{squares}
use Rattle.germ_laws.proofs.Sectors.Germ.{dot_of_ways, level_same}
use Rattle.germ_laws.proofs.Sectors.Rays.{turned_way}
use Rattle.germ_laws.proofs.Room.TwoSteps.{both_ways}

-- ---- the quarter turn to the right
pub right_turn : Direction → Direction
right_turn d = record { x = d.y; y = neg_ℤ d.x; moves = λ z. d.moves (let e = z.1 in omega (arith, linear, e), z.0) }

-- it is to the right
pub right_turn_right : (d : Direction) → pos 0 <ℤ bend_of (right_turn d) d
unfolding bend_of right_turn
right_turn_right d =
    subst (λ (z : ℤ). pos 0 <ℤ z)
    (identity (var 0 ⊗ var 0 ⊕ var 1 ⊗ var 1) (var 1 ⊗ var 1 ⊖ minus (var 0) ⊗ var 0) (d.x ∷ d.y ∷ []) refl) (squares d.x d.y d.moves)

-- to the right is not to the left, nor ahead
pub right_bent : (r t : Direction) → pos 0 <ℤ bend_of t r → ¬ (bend_of r t ≡ pos 0)
unfolding bend_of
right_bent r t h z = go r.x r.y t.x t.y h z
  where
    go : (rx ry tx ty : ℤ) → pos 0 <ℤ ((tx *ℤ ry) -ℤ (ty *ℤ rx)) → ¬ ((rx *ℤ ty) -ℤ (ry *ℤ tx) ≡ pos 0)
    go rx ry tx ty h z =
        <ℤ_apart (less_by (num (pos 0)) (num (pos 0)) (rx ∷ ry ∷ tx ∷ ty ∷ [])
        (λ denied. denied ⊞ positive (var 2 ⊗ var 1 ⊖ var 3 ⊗ var 0) h ⊞ vanishing (var 0 ⊗ var 3 ⊖ var 1 ⊗ var 2) z) refl) refl

-- ---- the signs of the sum of a long step along r and a short one along t
-- r is to the left of the sum
left_of_end : (rx ry tx ty n l : ℤ) → pos 0 <ℤ n → pos 0 <ℤ ((tx *ℤ ry) -ℤ (ty *ℤ rx))
    → pos 0 <ℤ ((((l *ℤ rx) +ℤ (n *ℤ tx)) *ℤ ry) -ℤ (((l *ℤ ry) +ℤ (n *ℤ ty)) *ℤ rx))
left_of_end rx ry tx ty n l hn h =
    less_by (num (pos 0)) ((var 5 ⊗ var 0 ⊕ var 4 ⊗ var 2) ⊗ var 1 ⊖ (var 5 ⊗ var 1 ⊕ var 4 ⊗ var 3) ⊗ var 0)
    (rx ∷ ry ∷ tx ∷ ty ∷ n ∷ l ∷ [])
    (λ denied. denied ⊞ positive (var 4) hn ⊠ positive (var 2 ⊗ var 1 ⊖ var 3 ⊗ var 0) h) refl

-- where r is to the left of q, so is the sum, if l is large enough
left_of_start : (qx qy rx ry tx ty n l size : ℤ) → pos 0 ≤ℤ n → pos 0 ≤ℤ l → (n *ℤ size) <ℤ l → pos 0 <ℤ ((qx *ℤ ry) -ℤ (qy *ℤ rx))
    → neg_ℤ size ≤ℤ ((qx *ℤ ty) -ℤ (qy *ℤ tx)) → pos 0 <ℤ ((qx *ℤ ((l *ℤ ry) +ℤ (n *ℤ ty))) -ℤ (qy *ℤ ((l *ℤ rx) +ℤ (n *ℤ tx))))
left_of_start qx qy rx ry tx ty n l size hn hl far h k =
    less_by (num (pos 0)) (var 0 ⊗ (var 7 ⊗ var 3 ⊕ var 6 ⊗ var 5) ⊖ var 1 ⊗ (var 7 ⊗ var 2 ⊕ var 6 ⊗ var 4))
    (qx ∷ qy ∷ rx ∷ ry ∷ tx ∷ ty ∷ n ∷ l ∷ size ∷ [])
    (λ denied. denied ⊞ natural (var 7) hl ⊠ whole (positive (var 0 ⊗ var 3 ⊖ var 1 ⊗ var 2) h)
    ⊞ natural (var 6) hn ⊠ at_most (minus (var 8)) (var 0 ⊗ var 5 ⊖ var 1 ⊗ var 4) k
    ⊞ less (var 6 ⊗ var 8) (var 7) far) refl

-- where r is opposite to q, what is to the right of r is to the left of q
left_of_opposite : (qx qy rx ry tx ty n l : ℤ) → pos 0 <ℤ n → (qx *ℤ ry) -ℤ (qy *ℤ rx) ≡ pos 0 → ((qx *ℤ rx) +ℤ (qy *ℤ ry)) <ℤ pos 0
    → pos 0 <ℤ ((rx *ℤ rx) +ℤ (ry *ℤ ry)) → pos 0 <ℤ ((tx *ℤ ry) -ℤ (ty *ℤ rx))
    → pos 0 <ℤ ((qx *ℤ ((l *ℤ ry) +ℤ (n *ℤ ty))) -ℤ (qy *ℤ ((l *ℤ rx) +ℤ (n *ℤ tx))))
left_of_opposite qx qy rx ry tx ty n l hn z h moves k =
    less_by (num (pos 0)) (var 0 ⊗ (var 7 ⊗ var 3 ⊕ var 6 ⊗ var 5) ⊖ var 1 ⊗ (var 7 ⊗ var 2 ⊕ var 6 ⊗ var 4))
    (qx ∷ qy ∷ rx ∷ ry ∷ tx ∷ ty ∷ n ∷ l ∷ [])
    (λ denied. denied ⊠ positive (var 2 ⊗ var 2 ⊕ var 3 ⊗ var 3) moves
    ⊞ positive (var 6) hn ⊠ less (var 0 ⊗ var 2 ⊕ var 1 ⊗ var 3) (num (pos 0)) h ⊠ positive (var 4 ⊗ var 3 ⊖ var 5 ⊗ var 2) k
    ⊞ scaled (var 7 ⊗ (var 2 ⊗ var 2 ⊕ var 3 ⊗ var 3) ⊕ var 6 ⊗ (var 2 ⊗ var 4 ⊕ var 3 ⊗ var 5))
    (vanishing (var 0 ⊗ var 3 ⊖ var 1 ⊗ var 2) z)) refl

-- directions without a bend that don't point the same way are opposite
pub opposite_ways : (q r : Direction) → bend_of q r ≡ pos 0 → ¬ PointSameWay q r → dot_of_ways q r <ℤ pos 0
unfolding dot_of_ways bend_of
opposite_ways q r z n =
    by_sign (dot_of_ways q r) (λ h. h)
    (λ e. absurd (<ℤ_apart (flat q.x q.y r.x r.y z e (squares q.x q.y q.moves) (squares r.x r.y r.moves)) refl))
    (λ h. absurd (n (level_same q r z h)))
  where
    flat : (qx qy rx ry : ℤ) → (qx *ℤ ry) -ℤ (qy *ℤ rx) ≡ pos 0 → (qx *ℤ rx) +ℤ (qy *ℤ ry) ≡ pos 0 → pos 0 <ℤ ((qx *ℤ qx) +ℤ (qy *ℤ qy))
        → pos 0 <ℤ ((rx *ℤ rx) +ℤ (ry *ℤ ry)) → pos 0 <ℤ pos 0
    flat qx qy rx ry z e hq hr =
        less_by (num (pos 0)) (num (pos 0)) (qx ∷ qy ∷ rx ∷ ry ∷ [])
        (λ denied. denied ⊞ positive (var 0 ⊗ var 0 ⊕ var 1 ⊗ var 1) hq ⊠ positive (var 2 ⊗ var 2 ⊕ var 3 ⊗ var 3) hr
        ⊞ scaled (minus (var 0 ⊗ var 3 ⊖ var 1 ⊗ var 2)) (vanishing (var 0 ⊗ var 3 ⊖ var 1 ⊗ var 2) z)
        ⊞ scaled (minus (var 0 ⊗ var 2 ⊕ var 1 ⊗ var 3)) (vanishing (var 0 ⊗ var 2 ⊕ var 1 ⊗ var 3) e)) refl

-- the sum is strictly within the sector that ends at r
pub just_right : (q r t : Direction) (h : pos 0 <ℤ bend_of t r) (bent : ¬ (bend_of r t ≡ pos 0)) (n l : ℕ)
    → (pos (suc n) *ℤ pos (size_of (bend_of q t))) <ℤ pos (suc l) → IsStrictlyWithin q r (both_ways r t bent n l)
unfolding bend_of both_ways dot_of_ways
just_right q r t h bent n l far = record {
  left = λ k. (
    left_of_start q.x q.y r.x r.y t.x t.y (pos (suc n)) (pos (suc l)) (pos (size_of (bend_of q t)))
        (omega (arith, linear)) (omega (arith, linear)) far k (size_is (bend_of q t)).above,
    ahead,
  );
  right = λ _. inr ahead;
  opposite = λ z n'. left_of_opposite q.x q.y r.x r.y t.x t.y (pos (suc n)) (pos (suc l)) (omega (arith, linear)) z (opposite_ways q r z n')
      (squares r.x r.y r.moves) h;
  same = λ w w'. <ℤ_apart ahead (sym (no_bend (joined_ways (turned_way w') w)));
}
  where
    ahead : pos 0 <ℤ bend_of (both_ways r t bent n l) r
    ahead = left_of_end r.x r.y t.x t.y (pos (suc n)) (pos (suc l)) (omega (arith, linear)) h
