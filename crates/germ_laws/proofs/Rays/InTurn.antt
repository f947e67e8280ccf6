-- Three directions in the order of their angles are in turn: at least two of them are to the left of the one before.
use Rattle.std.proofs.Common.{◌≡◌, ◌⊎◌, inl, inr, zero, suc, ℤ, pos, negsuc, ◌-ℤ◌, ◌*ℤ◌, neg_ℤ, ◌<ℤ◌, ◌≤ℤ◌, Bool, true, false, Less, []}
use Rattle.std.proofs.Common.{◌∷◌, refl, sym, ◌∙◌, arith}
use Rattle.std.specs.Ordering.{ordering_then, bool_cmp, int_cmp}
use Rattle.std.proofs.lemmas.Bool.{true≢false}
use Rattle.std.proofs.lemmas.Int.{by_lt_z}
use Rattle.whole_algebra.proofs.Laws.{linear}
use Rattle.whole_algebra.proofs.Polynomials.{var, num, ◌⊖◌, ◌⊗◌, minus}
use Rattle.whole_algebra.proofs.Certificates.{positive, at_most, vanishing, less_by, impossible_by, scaled, ◌⊞◌, ◌⊠◌}
use Rattle.whole_algebra.proofs.Comparisons.{less_int_cmp}
use Rattle.plane_laws.specs.Directions.{Direction, past_half, bend_of}
use Rattle.plane_exact.specs.Orders.{direction_of, bend, compare_angles}
use Rattle.plane_exact.specs.declared.dir.Dir.{Dir}

-- ---- halves
-- up, or straight to the right
abbrev pub IsUp : ℤ → ℤ → Type 0
IsUp x y = (pos 0 <ℤ y) ⊎ ((y ≡ pos 0) × (pos 0 <ℤ x))

pub up_from : (x y : ℤ) → ¬ ((x ≡ pos 0) × (y ≡ pos 0)) → past_half x y ≡ false → IsUp x y
up_from x (pos (suc n)) m e = inl (omega (arith, linear))
up_from (pos (suc k)) (pos zero) m e = inr (refl, omega (arith, linear))
up_from (pos zero) (pos zero) m e = absurd (m (refl, refl))
up_from (negsuc k) (pos zero) m e = cc
up_from x (negsuc n) m e = cc

pub down_from : (x y : ℤ) → past_half x y ≡ true → IsUp (neg_ℤ x) (neg_ℤ y)
down_from x (pos (suc n)) e = cc
down_from (pos k) (pos zero) e = cc
down_from (negsuc k) (pos zero) e = inr (refl, omega (arith, linear))
down_from x (negsuc n) e = inl (omega (arith, linear))

-- a and b point up, b is to the left of a, and c points down and isn't to the left of b: then a is to the left of c
up_up_down : (ax ay bx by cx cy : ℤ) → IsUp ax ay → IsUp bx by → IsUp (neg_ℤ cx) (neg_ℤ cy) → pos 0 <ℤ ((ax *ℤ by) -ℤ (ay *ℤ bx))
    → ((bx *ℤ cy) -ℤ (by *ℤ cx)) ≤ℤ pos 0 → pos 0 <ℤ ((cx *ℤ ay) -ℤ (cy *ℤ ax))
up_up_down ax ay bx by cx cy a (inl b) (inr c) h k =
    impossible_by (ax ∷ ay ∷ bx ∷ by ∷ cx ∷ cy ∷ [])
    (at_most (var 2 ⊗ var 5 ⊖ var 3 ⊗ var 4) (num (pos 0)) k ⊞ positive (var 3) b ⊠ positive (minus (var 4)) c.1
    ⊞ scaled (minus (var 2)) (vanishing (minus (var 5)) c.0)) refl
up_up_down ax ay bx by cx cy (inl a) (inl b) (inl c) h k =
    less_by (num (pos 0)) (var 4 ⊗ var 1 ⊖ var 5 ⊗ var 0) (ax ∷ ay ∷ bx ∷ by ∷ cx ∷ cy ∷ [])
    (λ denied. denied ⊠ positive (var 3) b ⊞ positive (minus (var 5)) c ⊠ positive (var 0 ⊗ var 3 ⊖ var 1 ⊗ var 2) h
    ⊞ positive (var 1) a ⊠ at_most (var 2 ⊗ var 5 ⊖ var 3 ⊗ var 4) (num (pos 0)) k) refl
up_up_down ax ay bx by cx cy (inr a) (inl b) (inl c) h k =
    less_by (num (pos 0)) (var 4 ⊗ var 1 ⊖ var 5 ⊗ var 0) (ax ∷ ay ∷ bx ∷ by ∷ cx ∷ cy ∷ [])
    (λ denied. denied ⊞ positive (var 0) a.1 ⊠ positive (minus (var 5)) c ⊞ scaled (var 4) (vanishing (var 1) a.0)) refl
up_up_down ax ay bx by cx cy (inl a) (inr b) c h k =
    impossible_by (ax ∷ ay ∷ bx ∷ by ∷ cx ∷ cy ∷ [])
    (positive (var 0 ⊗ var 3 ⊖ var 1 ⊗ var 2) h ⊞ positive (var 1) a ⊠ positive (var 2) b.1
    ⊞ scaled (minus (var 0)) (vanishing (var 3) b.0)) refl
up_up_down ax ay bx by cx cy (inr a) (inr b) c h k =
    impossible_by (ax ∷ ay ∷ bx ∷ by ∷ cx ∷ cy ∷ [])
    (positive (var 0 ⊗ var 3 ⊖ var 1 ⊗ var 2) h ⊞ scaled (minus (var 0)) (vanishing (var 3) b.0) ⊞ scaled (var 2) (vanishing (var 1) a.0))
    refl

-- a points up, and b and c down, b isn't to the left of a, and c is to the left of b: then a is to the left of c
up_down_down : (ax ay bx by cx cy : ℤ) → IsUp ax ay → IsUp (neg_ℤ bx) (neg_ℤ by) → IsUp (neg_ℤ cx) (neg_ℤ cy)
    → ((ax *ℤ by) -ℤ (ay *ℤ bx)) ≤ℤ pos 0 → pos 0 <ℤ ((bx *ℤ cy) -ℤ (by *ℤ cx)) → pos 0 <ℤ ((cx *ℤ ay) -ℤ (cy *ℤ ax))
up_down_down ax ay bx by cx cy (inr a) b (inl c) h k =
    less_by (num (pos 0)) (var 4 ⊗ var 1 ⊖ var 5 ⊗ var 0) (ax ∷ ay ∷ bx ∷ by ∷ cx ∷ cy ∷ [])
    (λ denied. denied ⊞ positive (var 0) a.1 ⊠ positive (minus (var 5)) c ⊞ scaled (var 4) (vanishing (var 1) a.0)) refl
up_down_down ax ay bx by cx cy (inl a) (inl b) (inl c) h k =
    less_by (num (pos 0)) (var 4 ⊗ var 1 ⊖ var 5 ⊗ var 0) (ax ∷ ay ∷ bx ∷ by ∷ cx ∷ cy ∷ [])
    (λ denied. denied ⊠ positive (minus (var 3)) b ⊞ positive (var 1) a ⊠ positive (var 2 ⊗ var 5 ⊖ var 3 ⊗ var 4) k
    ⊞ positive (minus (var 5)) c ⊠ at_most (var 0 ⊗ var 3 ⊖ var 1 ⊗ var 2) (num (pos 0)) h) refl
up_down_down ax ay bx by cx cy (inl a) (inr b) (inl c) h k =
    impossible_by (ax ∷ ay ∷ bx ∷ by ∷ cx ∷ cy ∷ [])
    (at_most (var 0 ⊗ var 3 ⊖ var 1 ⊗ var 2) (num (pos 0)) h ⊞ positive (var 1) a ⊠ positive (minus (var 2)) b.1
    ⊞ scaled (minus (var 0)) (vanishing (minus (var 3)) b.0)) refl
up_down_down ax ay bx by cx cy a (inl b) (inr c) h k =
    impossible_by (ax ∷ ay ∷ bx ∷ by ∷ cx ∷ cy ∷ [])
    (positive (var 2 ⊗ var 5 ⊖ var 3 ⊗ var 4) k ⊞ positive (minus (var 3)) b ⊠ positive (minus (var 4)) c.1
    ⊞ scaled (var 2) (vanishing (minus (var 5)) c.0)) refl
up_down_down ax ay bx by cx cy a (inr b) (inr c) h k =
    impossible_by (ax ∷ ay ∷ bx ∷ by ∷ cx ∷ cy ∷ [])
    (positive (var 2 ⊗ var 5 ⊖ var 3 ⊗ var 4) k ⊞ scaled (var 2) (vanishing (minus (var 5)) c.0)
    ⊞ scaled (minus (var 4)) (vanishing (minus (var 3)) b.0)) refl

-- ---- three directions in their order around
-- counter-clockwise b comes after a, c after b and a after c, in one turn: at least two of them are to the left of the one before
pub data AreInTurn (a b c : Direction) : Type 0 where
  around_a : pos 0 <ℤ bend_of c a → pos 0 <ℤ bend_of a b → AreInTurn a b c
  around_b : pos 0 <ℤ bend_of a b → pos 0 <ℤ bend_of b c → AreInTurn a b c
  around_c : pos 0 <ℤ bend_of b c → pos 0 <ℤ bend_of c a → AreInTurn a b c

-- the same three, from the next one on
pub turn_on : {a b c : Direction} → AreInTurn a b c → AreInTurn b c a
turn_on (around_a h k) = around_c h k
turn_on (around_b h k) = around_a h k
turn_on (around_c h k) = around_b h k

-- ---- the order of directions
-- e is of the second half and d of the first, or e is of d's half and to the left of d
abbrev pub IsAhead : Direction → Direction → Type 0
IsAhead d e =
    ((past_half d.x d.y ≡ false) × (past_half e.x e.y ≡ true))
    ⊎ ((past_half d.x d.y ≡ past_half e.x e.y) × (pos 0 <ℤ bend_of d e))

-- what the order of angles says
pub ahead_from : (d e : Dir) → compare_angles d e ≡ Less → IsAhead (direction_of d) (direction_of e)
unfolding bend_of
ahead_from d e h = go (past_half d.dx d.dy) (past_half e.dx e.dy) h
  where
    go : (p q : Bool) → ordering_then (bool_cmp p q) (int_cmp (pos 0) (bend d e)) ≡ Less → ((p ≡ false) × (q ≡ true))
        ⊎ ((p ≡ q) × (pos 0 <ℤ bend d e))
    go false true k = inl (refl, refl)
    go false false k = inr (refl, less_int_cmp (pos 0) (bend d e) k)
    go true true k = inr (refl, less_int_cmp (pos 0) (bend d e) k)
    go true false k = cc

-- three directions, each ahead of the one before, are in turn
pub in_turn : (a b c : Direction) → IsAhead a b → IsAhead b c → AreInTurn a b c
unfolding bend_of
in_turn a b c = go
  where
    up_first : (d : Direction) → past_half d.x d.y ≡ false → IsUp d.x d.y
    up_first d e = up_from d.x d.y d.moves e

    go : IsAhead a b → IsAhead b c → AreInTurn a b c
    go (inl p) (inl q) = absurd (true≢false (sym p.1 ∙ q.0))
    go (inl p) (inr q) =
        by_lt_z (pos 0) (bend_of a b) (λ l. around_b l q.1)
        (λ n. around_c q.1 (up_down_down a.x a.y b.x b.y c.x c.y (up_first a p.0) (down_from b.x b.y p.1)
        (down_from c.x c.y (sym q.0 ∙ p.1)) n q.1))
    go (inr p) (inl q) =
        by_lt_z (pos 0) (bend_of b c) (λ l. around_b p.1 l)
        (λ n. around_a (up_up_down a.x a.y b.x b.y c.x c.y (up_first a (p.0 ∙ q.0)) (up_first b q.0) (down_from c.x c.y q.1) p.1 n) p.1)
    go (inr p) (inr q) = around_b p.1 q.1
