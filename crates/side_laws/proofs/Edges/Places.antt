-- The edges of a ring by their places: neighbours join, and no other two edges have a common point.
use Rattle.std.proofs.Common.{◌≡◌, ◌⊎◌, inl, inr, ℕ, zero, suc, ◌<◌, Bool, true, false, List, [], ◌∷◌, ◌++◌, take, drop, length, ap, refl}
use Rattle.std.proofs.Common.{sym, ◌∙◌, subst, arith}
use Rattle.std.specs.Ordering.{int_eq}
use Rattle.std.proofs.lemmas.Bool.{or_from, true≢false, and_from, false_from_ne_true, cases_order}
use Rattle.std.proofs.lemmas.Bool.Decides.{Decides-int_eq}
use Rattle.std.proofs.lemmas.Option.{slice_get_within}
use Rattle.std.proofs.Math.Numerals.{add-one}
use Rattle.whole_algebra.proofs.Laws.{*ℤ_one}
use Rattle.plane_laws.proofs.Segments.Mixes.{end_on_segment}
use Rattle.plane_laws.proofs.Segments.On.{Decides-is_on_segment}
use Rattle.plane_laws.specs.Plane.{Point, IsSamePoint}
use Rattle.plane_exact.specs.Places.{point_of}
use Rattle.plane_exact.specs.declared.point.Pt.{Pt}
use Rattle.plane_exact.specs.declared.point.Seg.{Seg}
use Rattle.point_set.specs.Rings.{is_same_position, edge_before, edges_after, edges_of, is_on_edge, is_on_edges}
use Rattle.point_set.specs.Lines.{last_after}
use Rattle.point_set.specs.Shape.{IsClosed}
use Rattle.point_set.specs.Validity.{IsAtPlace, IsOnEdge, IsJoint, CrossesItself}
use Rattle.figure_laws.proofs.Lists.Places.{same_position, some_same}
use Rattle.ring_laws.proofs.Parity.Ring.{closed_last}

-- ---- the chain of edges
-- each edge begins where the one before it ends, the first at p; the last ends at q
abbrev IsChain : Pt → List Seg → Pt → Type 0
IsChain p [] q = p ≡ q
IsChain p (e ∷ edges) q = (e.a ≡ p) × (is_same_position e.a e.b ≡ false) × IsChain e.b edges q

chain_before : (same : Bool) (p q last : Pt) (edges : List Seg) → is_same_position p q ≡ same → IsChain q edges last
    → IsChain p (edge_before same p q edges) last
chain_before true p q last edges h chain = subst (λ v. IsChain v edges last) (sym (same_position p q h)) chain
chain_before false p q last edges h chain = (refl, h, chain)

chain_after : (p : Pt) (others : List Pt) → IsChain p (edges_after p others) (last_after p others)
chain_after p [] = refl
chain_after p (q ∷ others) = chain_before (is_same_position p q) p q (last_after q others) (edges_after q others) refl
    (chain_after q others)

chain_first : (p q : Pt) (edges : List Seg) (e : Seg) → IsChain p edges q → IsAtPlace edges 0 e → e.a ≡ p
chain_first p q [] e chain is = cc
chain_first p q (f ∷ edges) e chain is = ap (λ g. g.a) (sym (some_same is)) ∙ chain.0

-- the first edge begins at the first position
pub first_begins : (p : Pt) (others : List Pt) (e : Seg) → IsAtPlace (edges_after p others) 0 e → e.a ≡ p
first_begins p others e is = chain_first p (last_after p others) (edges_after p others) e (chain_after p others) is

chain_next : (p q : Pt) (edges : List Seg) (i : ℕ) (e f : Seg) → IsChain p edges q → IsAtPlace edges i e → IsAtPlace edges (suc i) f
    → f.a ≡ e.b
chain_next p q [] i e f chain is_e is_f = cc
chain_next p q (g ∷ edges) zero e f chain is_e is_f = chain_first g.b q edges f chain.2 is_f ∙ ap (λ h. h.b) (some_same is_e)
chain_next p q (g ∷ edges) (suc i) e f chain is_e is_f = chain_next g.b q edges i e f chain.2 is_e is_f

chain_last : (p q : Pt) (edges : List Seg) (n : ℕ) (e : Seg) → IsChain p edges q → suc n ≡ length edges → IsAtPlace edges n e → e.b ≡ q
chain_last p q [] n e chain long is = cc
chain_last p q (g ∷ []) zero e chain long is = ap (λ h. h.b) (sym (some_same is)) ∙ chain.2
chain_last p q (g ∷ f ∷ edges) zero e chain long is = absurd (too_long (length edges) long)
  where
    too_long : (n : ℕ) → 1 ≡ suc (suc n) → ⊥
    too_long n h = omega (arith, h)
chain_last p q (g ∷ edges) (suc n) e chain long is = chain_last g.b q edges n e chain.2 (omega (arith, long)) is

chain_moves : (p q : Pt) (edges : List Seg) (i : ℕ) (e : Seg) → IsChain p edges q → IsAtPlace edges i e → is_same_position e.a e.b ≡ false
chain_moves p q [] i e chain is = cc
chain_moves p q (g ∷ edges) zero e chain is = ap (λ h. is_same_position h.a h.b) (sym (some_same is)) ∙ chain.1
chain_moves p q (g ∷ edges) (suc i) e chain is = chain_moves g.b q edges i e chain.2 is

-- positions are the same where their points are
pub same_positions : (p q : Pt) → IsSamePoint (point_of p) (point_of q) → is_same_position p q ≡ true
same_positions p q h =
    and_from (int_eq p.x q.x) (int_eq p.y q.y)
    ((Decides-int_eq p.x q.x).1 (sym (*ℤ_one p.x) ∙ h.across ∙ *ℤ_one q.x))
    ((Decides-int_eq p.y q.y).1 (sym (*ℤ_one p.y) ∙ h.above ∙ *ℤ_one q.y))

-- ---- a ring that neither crosses nor touches itself, by its edges
pub record IsSimple (edges : List Seg) : Type 0 where
  pub chained : (i : ℕ) (e f : Seg) → IsAtPlace edges i e → IsAtPlace edges (suc i) f → f.a ≡ e.b
  pub closed : (n : ℕ) (e f : Seg) → suc n ≡ length edges → IsAtPlace edges n e → IsAtPlace edges 0 f → f.a ≡ e.b
  pub moving : (i : ℕ) (e : Seg) → IsAtPlace edges i e → ¬ IsSamePoint (point_of e.a) (point_of e.b)
  pub simple : (i j : ℕ) (e f : Seg) → i < j → IsAtPlace edges i e → IsAtPlace edges j f → (p : Point) → IsOnEdge e p → IsOnEdge f p
      → ¬ IsJoint edges i j e f p → ⊥

simple_from : (p q : Pt) (edges : List Seg) → IsChain p edges q → q ≡ p
    → ((i j : ℕ) (e f : Seg) → i < j → IsAtPlace edges i e → IsAtPlace edges j f → (v : Point) → IsOnEdge e v → IsOnEdge f v
    → ¬ IsJoint edges i j e f v → ⊥) → IsSimple edges
simple_from p q edges chain closed simple = record {
  chained = λ i e f is_e is_f. chain_next p q edges i e f chain is_e is_f;
  closed = λ n e f long is_e is_f. chain_first p q edges f chain is_f ∙ sym (chain_last p q edges n e chain long is_e ∙ closed);
  moving = λ i e is same. true≢false (sym (same_positions e.a e.b same) ∙ chain_moves p q edges i e chain is);
  simple = simple;
}

pub ring_is_simple : (ring : List Pt) → IsClosed ring → ¬ CrossesItself ring → IsSimple (edges_of ring)
ring_is_simple [] closed uncrossed = record {
  chained = λ i e f is_e is_f. cc;
  closed = λ n e f long is_e is_f. cc;
  moving = λ i e is. cc;
  simple = λ i j e f before is_e is_f p on_e on_f unjoined. cc;
}
ring_is_simple (p ∷ others) closed uncrossed =
    simple_from p (last_after p others) (edges_after p others) (chain_after p others) (closed_last p others closed)
    (λ i j e f before is_e is_f v on_e on_f unjoined.
    uncrossed (record {
      i = i;
      j = j;
      earlier = before;
      e = e;
      f = f;
      e_is = is_e;
      f_is = is_f;
      p = v;
      on_e = on_e;
      on_f =
          on_f;
      unjoined = unjoined;
    }))

-- ---- where edges of such a ring meet
at_start : (u w : Pt) (p : Point) → u ≡ w → IsSamePoint (point_of u) p → IsSamePoint (point_of w) p
at_start u w p h = subst (λ v. IsSamePoint (point_of v) p) h

-- a point of an edge that is neither of its ends is on no other edge
pub alone_within : {edges : List Seg} → IsSimple edges → (i j : ℕ) (e f : Seg) → ¬ (i ≡ j) → IsAtPlace edges i e → IsAtPlace edges j f
    → (p : Point) → ¬ IsSamePoint (point_of e.a) p → ¬ IsSamePoint (point_of e.b) p → IsOnEdge e p → IsOnEdge f p → ⊥
alone_within {edges} s i j e f apart is_e is_f p not_a not_b on_e on_f = go (cases_order i j)
  where
    earlier : IsJoint edges i j e f p → ⊥
    earlier (inl h) = not_b (at_start f.a e.b p (s.chained i e f is_e (subst (λ k. IsAtPlace edges k f) (h.0 ∙ add-one i) is_f)) h.1)
    earlier (inr h) = not_a h.2

    later : IsJoint edges j i f e p → ⊥
    later (inl h) = not_a h.1
    later (inr h) = not_b (at_start f.a e.b p (s.closed i e f (sym (add-one i) ∙ h.1) is_e (subst (λ k. IsAtPlace edges k f) h.0 is_f)) h.2)

    go : (i ≡ j) ⊎ ((i < j) ⊎ (j < i)) → ⊥
    go (inl h) = apart h
    go (inr (inl h)) = s.simple i j e f h is_e is_f p on_e on_f earlier
    go (inr (inr h)) = s.simple j i f e h is_f is_e p on_f on_e later

-- no third edge has the joint of two neighbours
pub alone_at_joint : {edges : List Seg} → IsSimple edges → (i j : ℕ) (e f g : Seg) → ¬ (i ≡ j) → ¬ (suc i ≡ j) → IsAtPlace edges i e
    → IsAtPlace edges (suc i) f → IsAtPlace edges j g → IsOnEdge g (point_of e.b) → ⊥
alone_at_joint {edges} s i j e f g apart apart' is_e is_f is_g on_g = go (cases_order i j)
  where
    earlier : IsJoint edges i j e g (point_of e.b) → ⊥
    earlier (inl h) = apart' (sym (add-one i) ∙ sym h.0)
    earlier (inr h) = s.moving i e is_e h.2

    later : IsJoint edges j i g e (point_of e.b) → ⊥
    later (inl h) = s.moving i e is_e h.1
    later (inr h) = let w : suc i < length edges = slice_get_within edges (suc i) f is_f in omega (arith, w, h.1)

    go : (i ≡ j) ⊎ ((i < j) ⊎ (j < i)) → ⊥
    go (inl h) = apart h
    go (inr (inl h)) = s.simple i j e g h is_e is_g (point_of e.b) (end_on_segment (point_of e.a) (point_of e.b)) on_g earlier
    go (inr (inr h)) = s.simple j i g e h is_g is_e (point_of e.b) on_g (end_on_segment (point_of e.a) (point_of e.b)) later

-- ---- lists of edges by places
pub off_by_places : (p : Point) (edges : List Seg) → ((i : ℕ) (e : Seg) → IsAtPlace edges i e → is_on_edge p e ≡ false)
    → is_on_edges p edges ≡ false
off_by_places p [] h = refl
off_by_places p (e ∷ edges) h = or_from (is_on_edge p e) (is_on_edges p edges) (h 0 e refl)
    (off_by_places p edges (λ i f is. h (suc i) f is))

pub off_others_by_places : (p : Point) (edges : List Seg) (i : ℕ)
    → ((j : ℕ) (e : Seg) → ¬ (i ≡ j) → IsAtPlace edges j e → is_on_edge p e ≡ false)
    → is_on_edges p (take i edges ++ drop (suc i) edges) ≡ false
off_others_by_places p [] zero h = refl
off_others_by_places p [] (suc i) h = refl
off_others_by_places p (e ∷ edges) zero h = off_by_places p edges (λ j f is. h (suc j) f (λ z. omega (arith, z)) is)
off_others_by_places p (e ∷ edges) (suc i) h =
    or_from (is_on_edge p e) (is_on_edges p (take i edges ++ drop (suc i) edges)) (h 0 e (λ z. omega (arith, z)) refl)
    (off_others_by_places p edges i (λ j f apart is. h (suc j) f (λ z. apart (omega (arith, z))) is))

pub split_at_place : (edges : List Seg) (i : ℕ) (e : Seg) → IsAtPlace edges i e → edges ≡ take i edges ++ e ∷ drop (suc i) edges
split_at_place [] i e is = cc
split_at_place (f ∷ edges) zero e is = ap (λ g. g ∷ edges) (some_same is)
split_at_place (f ∷ edges) (suc i) e is = ap (λ rest. f ∷ rest) (split_at_place edges i e is)

pub off_edge : (e : Seg) (p : Point) → (IsOnEdge e p → ⊥) → is_on_edge p e ≡ false
off_edge e p off = false_from_ne_true (is_on_edge p e) (λ h. off ((Decides-is_on_segment (point_of e.a) (point_of e.b) p).0 h))
