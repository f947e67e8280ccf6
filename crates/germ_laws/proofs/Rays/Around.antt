-- Every direction points along one of the rays in order, or lies strictly within one of their sectors.
use Rattle.std.proofs.Common.{◌≡◌, inl, inr, ℕ, zero, suc, ◌+◌, ◌%◌, ◌<◌, ℤ, pos, negsuc, ◌*ℤ◌, neg_ℤ, ◌<ℤ◌, Bool, true, false, Less, List}
use Rattle.std.proofs.Common.{[], ◌∷◌, length, ap, refl, sym, ◌∙◌, subst, arith}
use Rattle.std.specs.List.{AllPairs}
use Rattle.std.proofs.Math.Nat.{mod_self, mod-eq_of_lt}
use Rattle.std.proofs.lemmas.Option.{slice_get_within, get_or_from_slice_get}
use Rattle.whole_algebra.proofs.Laws.{linear}
use Rattle.whole_algebra.proofs.Polynomials.{var, num, ◌⊖◌, ◌⊗◌, minus}
use Rattle.whole_algebra.proofs.Certificates.{positive, vanishing, same, less, less_by, impossible_by, scaled, ◌⊞◌, ◌⊠◌}
use Rattle.whole_algebra.proofs.Signs.{by_sign, <ℤ_apart}
use Rattle.plane_laws.proofs.Directions.Angles.{no_bend, same_way_from}
use Rattle.germ_laws.proofs.Rays.InTurn.{IsUp, up_from, down_from, AreInTurn, around_a, around_b, around_c, turn_on, IsAhead, ahead_from}
use Rattle.germ_laws.proofs.Rays.InTurn.{in_turn}
use Rattle.germ_laws.proofs.Sectors.Rays.{opposed, turned_way, way_to_left}
use Rattle.plane_laws.specs.Directions.{Direction, past_half, bend_of, PointSameWay, IsStrictlyWithin}
use Rattle.plane_exact.specs.Orders.{direction_of, compare_angles}
use Rattle.plane_exact.specs.declared.dir.Dir.{Dir}
use Rattle.point_set.specs.Sectors.{IsInSector, sectors_of}
use Rattle.point_set.specs.Validity.{IsAtPlace}
use Rattle.figure_laws.proofs.Lists.Places.{some_same}

-- ---- the order of directions
less_bend : (d e : Direction) → bend_of d e <ℤ pos 0 → pos 0 <ℤ bend_of e d
unfolding bend_of
less_bend d e n = less_by (num (pos 0)) (var 2 ⊗ var 1 ⊖ var 3 ⊗ var 0) (d.x ∷ d.y ∷ e.x ∷ e.y ∷ [])
    (λ denied. denied ⊞ less (var 0 ⊗ var 3 ⊖ var 1 ⊗ var 2) (num (pos 0)) n) refl

bend_less : (d e : Direction) → pos 0 <ℤ bend_of e d → bend_of d e <ℤ pos 0
unfolding bend_of
bend_less d e n = less_by (var 0 ⊗ var 3 ⊖ var 1 ⊗ var 2) (num (pos 0)) (d.x ∷ d.y ∷ e.x ∷ e.y ∷ [])
    (λ denied. denied ⊞ positive (var 2 ⊗ var 1 ⊖ var 3 ⊗ var 0) n) refl

up_down : (rx ry dx dy m n : ℤ) → pos 0 <ℤ m → pos 0 <ℤ n → m *ℤ rx ≡ n *ℤ dx → m *ℤ ry ≡ n *ℤ dy → IsUp rx ry
    → IsUp (neg_ℤ dx) (neg_ℤ dy) → ⊥
up_down rx ry dx dy m n hm hn e f (inl h) (inl k) =
    impossible_by (rx ∷ ry ∷ dx ∷ dy ∷ m ∷ n ∷ [])
    (positive (var 4) hm ⊠ positive (var 1) h ⊞ positive (var 5) hn ⊠ positive (minus (var 3)) k
    ⊞ scaled (num (negsuc 0)) (same (var 4 ⊗ var 1) (var 5 ⊗ var 3) f)) refl
up_down rx ry dx dy m n hm hn e f (inl h) (inr k) =
    impossible_by (rx ∷ ry ∷ dx ∷ dy ∷ m ∷ n ∷ [])
    (positive (var 4) hm ⊠ positive (var 1) h ⊞ scaled (num (negsuc 0)) (same (var 4 ⊗ var 1) (var 5 ⊗ var 3) f)
    ⊞ scaled (var 5) (vanishing (minus (var 3)) k.0)) refl
up_down rx ry dx dy m n hm hn e f (inr h) (inl k) =
    impossible_by (rx ∷ ry ∷ dx ∷ dy ∷ m ∷ n ∷ [])
    (positive (var 5) hn ⊠ positive (minus (var 3)) k ⊞ scaled (num (negsuc 0)) (same (var 4 ⊗ var 1) (var 5 ⊗ var 3) f)
    ⊞ scaled (var 4) (vanishing (var 1) h.0)) refl
up_down rx ry dx dy m n hm hn e f (inr h) (inr k) =
    impossible_by (rx ∷ ry ∷ dx ∷ dy ∷ m ∷ n ∷ [])
    (positive (var 4) hm ⊠ positive (var 0) h.1 ⊞ positive (var 5) hn ⊠ positive (minus (var 2)) k.1
    ⊞ scaled (num (negsuc 0)) (same (var 4 ⊗ var 0) (var 5 ⊗ var 2) e)) refl

-- one of two directions is ahead of the other, or they point the same way
data Order (d e : Direction) : Type 0 where
  is_before : IsAhead d e → Order d e
  is_same : PointSameWay d e → Order d e
  is_after : IsAhead e d → Order d e

order_of : (d e : Direction) → Order d e
order_of d e = go (past_half d.x d.y) (past_half e.x e.y) refl refl
  where
    level : past_half d.x d.y ≡ past_half e.x e.y → Order d e
    level h = by_sign (bend_of d e) (λ n. is_after (inr (sym h, turned_bend n))) (λ z. is_same (same_way_from d e h z))
        (λ p. is_before (inr (h, p)))
      where
        turned_bend : bend_of d e <ℤ pos 0 → pos 0 <ℤ bend_of e d
        turned_bend n = less_bend d e n

    go : (p q : Bool) → past_half d.x d.y ≡ p → past_half e.x e.y ≡ q → Order d e
    go false true h k = is_before (inl (h, k))
    go true false h k = is_after (inl (k, h))
    go false false h k = level (h ∙ sym k)
    go true true h k = level (h ∙ sym k)

-- ---- in turn is strictly within
in_turn_within : (r d s : Direction) → AreInTurn r d s → ¬ PointSameWay r d → IsStrictlyWithin r s d
in_turn_within r d s (around_a h k) n = record
    { left = λ l. absurd (opposed r s l h); right = λ _. inl k; opposite = λ _ _. k; same = λ _. n }
in_turn_within r d s (around_b h k) n = record { left = λ l. (h, k); right = λ _. inl h; opposite = λ _ _. h; same = λ _. n }
in_turn_within r d s (around_c h k) n = record
    { left = λ l. absurd (opposed r s l k); right = λ _. inr h; opposite = λ z _. absurd (bent z k); same = λ _. n }
  where
    bent : bend_of r s ≡ pos 0 → pos 0 <ℤ bend_of s r → ⊥
    bent z k = <ℤ_apart (subst (λ (y : ℤ). y <ℤ pos 0) refl (bend_less r s k)) z

ahead_apart : (r d : Direction) → IsAhead r d → ¬ PointSameWay r d
ahead_apart r d (inr h) q = <ℤ_apart h.1 (sym (no_bend q))
ahead_apart r d (inl h) q = up_down r.x r.y d.x d.y q.m q.n q.some q.other q.across q.above (up_from r.x r.y r.moves h.0)
    (down_from d.x d.y h.1)

-- ---- the place of a direction among rays
pub data Found (rays : List Dir) (d : Direction) : Type 0 where
  on : (i : ℕ) (ray : Dir) → IsAtPlace rays i ray → PointSameWay (direction_of ray) d → Found rays d
  first : ((ray : Dir) → IsAtPlace rays 0 ray → IsAhead d (direction_of ray)) → Found rays d
  between : (i : ℕ) (r s : Dir) → IsAtPlace rays i r → IsAtPlace rays (suc i) s → IsAhead (direction_of r) d → IsAhead d (direction_of s)
      → Found rays d
  last : (i : ℕ) (r : Dir) → IsAtPlace rays i r → suc i ≡ length rays → IsAhead (direction_of r) d → Found rays d

pub find : (rays : List Dir) (d : Direction) → Found rays d
find [] d = first (λ ray is. cc)
find (r ∷ rays) d = by_first (order_of (direction_of r) d) (find rays d)
  where
    after_first : (rest : List Dir) → IsAhead (direction_of r) d → ((ray : Dir) → IsAtPlace rest 0 ray → IsAhead d (direction_of ray))
        → Found (r ∷ rest) d
    after_first [] h k = last 0 r refl refl h
    after_first (s ∷ rest) h k = between 0 r s refl refl h (k s refl)

    by_rest : IsAhead (direction_of r) d → Found rays d → Found (r ∷ rays) d
    by_rest h (on i ray is q) = on (suc i) ray is q
    by_rest h (first k) = after_first rays h k
    by_rest h (between i a b a_is b_is k l) = between (suc i) a b a_is b_is k l
    by_rest h (last i a a_is e k) = last (suc i) a a_is (ap suc e) k

    only_first : IsAhead d (direction_of r) → (ray : Dir) → IsAtPlace (r ∷ rays) 0 ray → IsAhead d (direction_of ray)
    only_first h ray is = subst (λ (z : Dir). IsAhead d (direction_of z)) (some_same is) h

    by_first : Order (direction_of r) d → Found rays d → Found (r ∷ rays) d
    by_first (is_before h) k = by_rest h k
    by_first (is_same q) k = on 0 r refl q
    by_first (is_after h) k = first (only_first h)

itself : (d : Direction) → PointSameWay d d
itself d = record { m = pos 1; n = pos 1; some = omega (arith, linear); other = omega (arith, linear); across = refl; above = refl }

-- ahead, and again ahead, is another way
in_turn_apart : (a b c : Direction) → IsAhead a b → IsAhead b c → ¬ PointSameWay a c
in_turn_apart a b c h k q = go (in_turn a b c h k)
  where
    bent : pos 0 <ℤ bend_of c a → ⊥
    bent l = <ℤ_apart l (sym (no_bend (turned_way q)))

    both : pos 0 <ℤ bend_of a b → pos 0 <ℤ bend_of b c → PointSameWay a c → ⊥
    both l m q = opposed a b l (way_to_left b q m)

    go : AreInTurn a b c → ⊥
    go (around_a l m) = bent l
    go (around_b l m) = both l m q
    go (around_c l m) = bent m

record HasLast (rays : List Dir) : Type 0 where
  place : ℕ
  ray : Dir
  is : IsAtPlace rays place ray
  last : suc place ≡ length rays

last_of : (r : Dir) (rays : List Dir) → HasLast (r ∷ rays)
last_of r [] = record { place = 0; ray = r; is = refl; last = refl }
last_of r (s ∷ rays) = let h = last_of s rays in record { place = suc h.place; ray = h.ray; is = h.is; last = ap suc h.last }

-- ---- each direction is on a ray or in a sector
pub data Around (rays : List Dir) (d : Direction) : Type 0 where
  on_ray : (i : ℕ) (ray : Dir) → IsAtPlace rays i ray → PointSameWay (direction_of ray) d → Around rays d
  in_sector : (i : ℕ) → i < sectors_of rays → IsInSector rays i d → Around rays d

module _ (r₀ : Dir) (others : List Dir) (ascending : AllPairs (λ d e. compare_angles d e ≡ Less) (r₀ ∷ others)) (d : Direction) where
  abbrev Rays : List Dir
  Rays = r₀ ∷ others

  in_order : (i j : ℕ) (a b : Dir) → i < j → IsAtPlace Rays i a → IsAtPlace Rays j b → IsAhead (direction_of a) (direction_of b)
  in_order i j a b h a_is b_is =
      let one = sym (get_or_from_slice_get Rays i a a a_is) in
      let two = sym (get_or_from_slice_get Rays j b a b_is) in
      ahead_from a b ((λ z. compare_angles (one z) (two z)) ∙ ascending i j a h (slice_get_within Rays j b b_is))

  -- after the last ray the first one comes
  wrapped : (i : ℕ) → suc i ≡ length Rays → IsAtPlace Rays ((i + 1) % length Rays) r₀
  wrapped i e =
      let same : i + 1 ≡ length Rays = omega (arith, e) in
      subst (λ (j : ℕ). IsAtPlace Rays j r₀) (sym (ap (λ (n : ℕ). n % length Rays) same ∙ mod_self (length Rays))) refl

  sector : (i : ℕ) (r s : Dir) → IsAtPlace Rays i r → IsAtPlace Rays ((i + 1) % length Rays) s
      → IsStrictlyWithin (direction_of r) (direction_of s) d → Around Rays d
  sector i r s r_is s_is w = in_sector i (slice_get_within Rays i r r_is)
      (record { ray = r; next = s; ray_is = r_is; next_is = s_is; holds = w })

  next_place : {i : ℕ} → suc i < length Rays → (i + 1) % length Rays ≡ suc i
  next_place {i} h = let k : (i + 1) < length Rays = omega (arith, h) in mod-eq_of_lt k ∙ omega arith

  around_between : (i : ℕ) (r s : Dir) → IsAtPlace Rays i r → IsAtPlace Rays (suc i) s → IsAhead (direction_of r) d
      → IsAhead d (direction_of s) → Around Rays d
  around_between i r s r_is s_is h k =
      let below = slice_get_within Rays (suc i) s s_is in
      let here : (i + 1) % length Rays ≡ suc i = next_place below in
      sector i r s r_is (subst (λ (j : ℕ). IsAtPlace Rays j s) (sym here) s_is)
      (in_turn_within (direction_of r) d (direction_of s) (in_turn (direction_of r) d (direction_of s) h k)
      (ahead_apart (direction_of r) d h))

  -- a single ray leaves the whole turn
  alone : (direction_of r₀ ≡ direction_of r₀ → ¬ PointSameWay (direction_of r₀) d) → IsStrictlyWithin (direction_of r₀) (direction_of r₀) d
  alone n = record {
    left = λ l. absurd (opposed (direction_of r₀) (direction_of r₀) l l);
    right = λ l. absurd (opposed (direction_of r₀) (direction_of r₀) (less_bend (direction_of r₀) (direction_of r₀) l)
        (less_bend (direction_of r₀) (direction_of r₀) l));
    opposite = λ _ m. absurd (m (itself (direction_of r₀)));
    same = λ _. n refl;
  }

  at_last : (i : ℕ) (r : Dir) → IsAtPlace Rays i r → suc i ≡ length Rays → ¬ PointSameWay (direction_of r) d
      → (0 < i → AreInTurn (direction_of r) d (direction_of r₀)) → Around Rays d
  at_last zero r r_is e n turned =
      let one : r₀ ≡ r = some_same r_is in
      sector 0 r₀ r₀ refl (wrapped 0 e) (alone (λ _. subst (λ (z : Dir). ¬ PointSameWay (direction_of z) d) (sym one) n))
  at_last (suc i) r r_is e n turned = sector (suc i) r r₀ r_is (wrapped (suc i) e)
      (in_turn_within (direction_of r) d (direction_of r₀) (turned (omega arith)) n)

  around_found : Found Rays d → HasLast Rays → Around Rays d
  around_found (on i ray is q) l = on_ray i ray is q
  around_found (between i r s r_is s_is h k) l = around_between i r s r_is s_is h k
  around_found (first h) l =
      let ahead = h r₀ refl in
      let behind = last_ahead l.place l.ray l.is ahead in
      at_last l.place l.ray l.is l.last behind
      (λ some. turn_on (turn_on (in_turn d (direction_of r₀) (direction_of l.ray) ahead (in_order 0 l.place r₀ l.ray some refl l.is))))
    where
      last_ahead : (i : ℕ) (r : Dir) → IsAtPlace Rays i r → IsAhead d (direction_of r₀) → ¬ PointSameWay (direction_of r) d
      last_ahead zero r is a q = ahead_apart d (direction_of r₀) a
          (turned_way (subst (λ (z : Dir). PointSameWay (direction_of z) d) (sym (some_same is)) q))
      last_ahead (suc i) r is a q =
          in_turn_apart d (direction_of r₀) (direction_of r) a (in_order 0 (suc i) r₀ r (omega arith) refl is) (turned_way q)
  around_found (last i r is e h) l = at_last i r is e (ahead_apart (direction_of r) d h)
      (λ some. turn_on (in_turn (direction_of r₀) (direction_of r) d (in_order 0 i r₀ r some refl is) h))

pub around : (rays : List Dir) → AllPairs (λ d e. compare_angles d e ≡ Less) rays → (d : Direction) → Around rays d
around [] ascending d = in_sector 0 (omega arith) tt
around (r ∷ rays) ascending d = around_found r rays ascending d (find (r ∷ rays) d) (last_of r rays)
