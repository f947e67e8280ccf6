-- Crossing parity along a ring: the ends beside a segment cancel, so the number of edges that the ray of p crosses is odd
-- exactly where that of q is, but for the edges that the segment from p to q cuts.
use Rattle.std.proofs.Common.{◌≡◌, ℕ, suc, ◌-◌, ℤ, pos, ◌≤ℤ◌, ◌<ℤ◌, Bool, true, false, not, List, [], ◌∷◌, ◌++◌, length, ◌⊎◌, inl, inr}
use Rattle.std.proofs.Common.{◌&&◌, ap, refl, sym, ◌∙◌, subst, arith}
use Rattle.std.specs.Prelude.{Some, slice_get}
use Rattle.std.proofs.lemmas.Int.{by_lt_z}
use Rattle.std.proofs.lemmas.Bool.{or_parts, or_from, true≢false, false_from_ne_true}
use Rattle.std.proofs.lemmas.List.Folds.{list_any-append}
use Rattle.std.proofs.Math.Bool.{not-not}
use Rattle.whole_algebra.proofs.Signs.{pos_nonzero, <ℤ_apart}
use Rattle.plane_laws.proofs.Segments.Mixes.{segment_flip, start_on_segment, end_on_segment}
use Rattle.plane_laws.proofs.Segments.On.{Decides-is_on_segment, mix_turn}
use Rattle.plane_laws.specs.Plane.{Point, IsOnSegment, IsStrictlyBetween, turn, rise}
use Rattle.plane_exact.specs.Places.{point_of}
use Rattle.plane_exact.specs.declared.point.Pt.{Pt}
use Rattle.plane_exact.specs.declared.point.Seg.{Seg}
use Rattle.point_set.specs.Rings.{is_same_position, edge_before, edges_after, edges_of, is_on_edge, is_on_edges, crosses, differ, is_odd}
use Rattle.point_set.specs.Rings.{is_inside}
use Rattle.point_set.specs.Lines.{last_after}
use Rattle.point_set.specs.Shape.{IsClosed}
use Rattle.ring_laws.proofs.Parity.Tests.{differ_none, differ_self, differ_mix, differ_join}
use Rattle.ring_laws.proofs.Parity.OneEdge.{AreApart, is_beside, parity}
use Rattle.ring_laws.proofs.Parity.Flip.{IsCut, flip, swapped_cut, turned_rise, cut_from_meet}
use Rattle.figure_laws.proofs.Lists.Places.{some_same, same_position}

-- ---- a test on positions changes evenly often along a closed ring
-- exactly one end of an odd number of the edges passes the test
abbrev pub is_odd_change : (Pt → Bool) → List Seg → Bool
is_odd_change test [] = false
is_odd_change test (e ∷ edges) = differ (differ (test e.a) (test e.b)) (is_odd_change test edges)

change_before : (test : Pt → Bool) (same : Bool) (p q : Pt) (edges : List Seg) (last : Bool) → is_same_position p q ≡ same
    → is_odd_change test edges ≡ differ (test q) last → is_odd_change test (edge_before same p q edges) ≡ differ (test p) last
change_before test true p q edges last h e = e ∙ ap (λ z. differ (test z) last) (sym (same_position p q h))
change_before test false p q edges last h e = ap (differ (differ (test p) (test q))) e ∙ differ_join (test p) (test q) last

pub change_along : (test : Pt → Bool) (p : Pt) (others : List Pt)
    → is_odd_change test (edges_after p others) ≡ differ (test p) (test (last_after p others))
change_along test p [] = sym (differ_self (test p))
change_along test p (q ∷ others) =
    change_before test (is_same_position p q) p q (edges_after q others) (test (last_after q others)) refl (change_along test q others)

last_item : (p : Pt) (others : List Pt) → slice_get (p ∷ others) (length others) ≡ Some (last_after p others)
last_item p [] = refl
last_item p (q ∷ others) = last_item q others

pub closed_last : (p : Pt) (others : List Pt) → IsClosed (p ∷ others) → last_after p others ≡ p
closed_last p others closed = sym (some_same (closed ∙ ap (slice_get (p ∷ others)) (less_one (length others)) ∙ last_item p others))
  where
    less_one : (n : ℕ) → suc n - 1 ≡ n
    less_one n = omega arith

pub closed_change : (test : Pt → Bool) (ring : List Pt) → IsClosed ring → is_odd_change test (edges_of ring) ≡ false
closed_change test [] closed = refl
closed_change test (p ∷ others) closed =
    change_along test p others ∙ ap (λ z. differ (test p) (test z)) (closed_last p others closed) ∙ differ_self (test p)

-- ---- the count of crossings along a list of edges
-- the ray of p crosses the edges as often as that of q, or once more or less, but for the ends beside the segment
pub record Turns (once_more : Bool) (p q : Point) (edges : List Seg) : Type 0 where
  pub counts : is_odd p edges ≡ differ once_more (differ (is_odd q edges) (is_odd_change (λ v. is_beside p q (point_of v)) edges))

pub turns_none : (p q : Point) → Turns false p q []
turns_none p q = record { counts = refl }

joined : (k l x y c d u v : Bool) → x ≡ differ k (differ c d) → y ≡ differ l (differ u v)
    → differ x y ≡ differ (differ k l) (differ (differ c u) (differ d v))
joined k l x y c d u v h e =
    (λ i. differ (h i) (e i)) ∙ differ_mix k (differ c d) l (differ u v) ∙ ap (differ (differ k l)) (differ_mix c d u v)

pub turns_more : (k l : Bool) (p q : Point) (e : Seg) (edges : List Seg)
    → crosses p e ≡ differ k (differ (crosses q e) (differ (is_beside p q (point_of e.a)) (is_beside p q (point_of e.b))))
    → Turns l p q edges → Turns (differ k l) p q (e ∷ edges)
turns_more k l p q e edges one more = record {
  counts = joined k l (crosses p e) (is_odd p edges) (crosses q e) (differ (is_beside p q (point_of e.a)) (is_beside p q (point_of e.b)))
      (is_odd q edges) (is_odd_change (λ v. is_beside p q (point_of v)) edges) one more.counts;
}

-- no point of the segment is on one of the edges
pub record Misses (p q : Point) (edges : List Seg) : Type 0 where
  pub off : (m : Point) → IsOnSegment p q m → is_on_edges m edges ≡ false

pub misses_first : {p q : Point} {e : Seg} {edges : List Seg} → Misses p q (e ∷ edges) → AreApart (point_of e.a) (point_of e.b) p q
misses_first {p} {q} {e} {edges} miss = record {
  none = λ m on_edge on_way.
      let tests = or_parts (is_on_edge m e) (is_on_edges m edges) (miss.off m on_way) in
      true≢false (sym ((Decides-is_on_segment (point_of e.a) (point_of e.b) m).1 on_edge) ∙ tests.0);
}

pub misses_rest : {p q : Point} {e : Seg} {edges : List Seg} → Misses p q (e ∷ edges) → Misses p q edges
misses_rest {p} {q} {e} {edges} miss = record { off = λ m on_way. (or_parts (is_on_edge m e) (is_on_edges m edges) (miss.off m on_way)).1 }

pub turns_missed : (p q : Point) → pos 0 ≤ℤ rise p q → (edges : List Seg) → Misses p q edges → Turns false p q edges
turns_missed p q level [] miss = turns_none p q
turns_missed p q level (e ∷ edges) miss =
    turns_more false false p q e edges (parity (point_of e.a) (point_of e.b) p q level (misses_first miss))
    (turns_missed p q level edges (misses_rest miss))

-- ---- along a segment that meets no edge of a ring
level_or_not {ℓ} : {P : Type ℓ} (p q : Point) → (pos 0 ≤ℤ rise p q → P) → (pos 0 ≤ℤ rise q p → P) → P
level_or_not {P = P} p q f g = go (three (rise p q))
  where
    three : (z : ℤ) → (pos 0 ≤ℤ z) ⊎ (z <ℤ pos 0)
    three z = by_lt_z z (pos 0) inr inl

    go : (pos 0 ≤ℤ rise p q) ⊎ (rise p q <ℤ pos 0) → P
    go (inl h) = f h
    go (inr h) = g (turned_rise p q h)

pub misses_turned : {p q : Point} {edges : List Seg} → Misses p q edges → Misses q p edges
misses_turned miss = record { off = λ m on. miss.off m (segment_flip on) }

closed_counts : (more : Bool) (p q : Point) (ring : List Pt) → IsClosed ring → Turns more p q (edges_of ring)
    → is_odd p (edges_of ring) ≡ differ more (is_odd q (edges_of ring))
closed_counts more p q ring closed turns =
    turns.counts ∙ ap (λ z. differ more (differ (is_odd q (edges_of ring)) z)) (closed_change (λ v. is_beside p q (point_of v)) ring closed)
    ∙ ap (differ more) (differ_none (is_odd q (edges_of ring)))

pub odd_stays : (p q : Point) (ring : List Pt) → IsClosed ring → Misses p q (edges_of ring)
    → is_odd p (edges_of ring) ≡ is_odd q (edges_of ring)
odd_stays p q ring closed miss = level_or_not p q
    (λ level. closed_counts false p q ring closed (turns_missed p q level (edges_of ring) miss))
    (λ level. sym (closed_counts false q p ring closed (turns_missed q p level (edges_of ring) (misses_turned miss))))

pub misses_start : {p q : Point} {edges : List Seg} → Misses p q edges → is_on_edges p edges ≡ false
misses_start {p} {q} miss = miss.off p (start_on_segment p q)

pub misses_end : {p q : Point} {edges : List Seg} → Misses p q edges → is_on_edges q edges ≡ false
misses_end {p} {q} miss = miss.off q (end_on_segment p q)

pub inside_stays : (p q : Point) (ring : List Pt) → IsClosed ring → Misses p q (edges_of ring) → is_inside p ring ≡ is_inside q ring
inside_stays p q ring closed miss =
    (λ i. not (misses_start miss i) && odd_stays p q ring closed miss i)
    ∙ sym (ap (λ z. not z && is_odd q (edges_of ring)) (misses_end miss))

-- ---- across exactly one edge
pub turns_across : (s : Bool) (p q : Point) → pos 0 ≤ℤ rise p q → (before : List Seg) (e : Seg) (after : List Seg)
    → IsCut s (point_of e.a) (point_of e.b) p q → Misses p q before → Misses p q after → Turns true p q (before ++ e ∷ after)
turns_across s p q level [] e after cut miss_before miss_after =
    turns_more true false p q e after (flip s (point_of e.a) (point_of e.b) p q level cut) (turns_missed p q level after miss_after)
turns_across s p q level (f ∷ before) e after cut miss_before miss_after =
    turns_more false true p q f (before ++ e ∷ after) (parity (point_of f.a) (point_of f.b) p q level (misses_first miss_before))
    (turns_across s p q level before e after cut (misses_rest miss_before) miss_after)

pub odd_flips : (s : Bool) (p q : Point) (ring : List Pt) → IsClosed ring → (before : List Seg) (e : Seg) (after : List Seg)
    → edges_of ring ≡ before ++ e ∷ after → IsCut s (point_of e.a) (point_of e.b) p q → Misses p q before → Misses p q after
    → is_odd p (edges_of ring) ≡ not (is_odd q (edges_of ring))
odd_flips s p q ring closed before e after is cut miss_before miss_after = level_or_not p q
    (λ level. closed_counts true p q ring closed (at_ring p q (turns_across s p q level before e after cut miss_before miss_after)))
    (λ level. sym (turned (closed_counts true q p ring closed
    (at_ring q p (turns_across (not s) q p level before e after (swapped_cut s cut) (misses_turned miss_before)
    (misses_turned miss_after))))))
  where
    at_ring : (v w : Point) → Turns true v w (before ++ e ∷ after) → Turns true v w (edges_of ring)
    at_ring v w = subst (Turns true v w) (sym is)

    turned : is_odd q (edges_of ring) ≡ not (is_odd p (edges_of ring)) → not (is_odd q (edges_of ring)) ≡ is_odd p (edges_of ring)
    turned h = ap not h ∙ not-not (is_odd p (edges_of ring))

pub misses_left : {p q : Point} (xs ys : List Seg) → Misses p q (xs ++ ys) → Misses p q xs
misses_left xs ys miss = record {
  off = λ m on. (or_parts (is_on_edges m xs) (is_on_edges m ys) (sym (list_any-append (is_on_edge m) xs ys) ∙ miss.off m on)).0;
}

pub misses_right : {p q : Point} (xs ys : List Seg) → Misses p q (xs ++ ys) → Misses p q ys
misses_right xs ys miss = record {
  off = λ m on. (or_parts (is_on_edges m xs) (is_on_edges m ys) (sym (list_any-append (is_on_edge m) xs ys) ∙ miss.off m on)).1;
}

off_line : (e : Seg) (p : Point) → ¬ (turn (point_of e.a) (point_of e.b) p ≡ pos 0) → is_on_edge p e ≡ false
off_line e p off = false_from_ne_true (is_on_edge p e)
    (λ h. off (mix_turn ((Decides-is_on_segment (point_of e.a) (point_of e.b) p).0 h).mix))

off_all : (before : List Seg) (e : Seg) (after : List Seg) (p : Point) → is_on_edges p before ≡ false → is_on_edge p e ≡ false
    → is_on_edges p after ≡ false → is_on_edges p (before ++ e ∷ after) ≡ false
off_all before e after p h k l =
    list_any-append (is_on_edge p) before (e ∷ after)
    ∙ or_from (is_on_edges p before) (is_on_edges p (e ∷ after)) h (or_from (is_on_edge p e) (is_on_edges p after) k l)

pub inside_flips : (ring : List Pt) → IsClosed ring → (before : List Seg) (e : Seg) (after : List Seg) → edges_of ring ≡ before
    ++ e ∷ after → (p q m : Point) → pos 0 <ℤ turn (point_of e.a) (point_of e.b) p → turn (point_of e.a) (point_of e.b) q <ℤ pos 0
    → IsStrictlyBetween (point_of e.a) (point_of e.b) m → IsOnSegment p q m → Misses p q (before ++ after)
    → is_inside p ring ≡ not (is_inside q ring)
inside_flips ring closed before e after is p q m left right between on miss =
    ap (λ z. not z && is_odd p (edges_of ring)) (off p (misses_start before_missed) (misses_start after_missed) (pos_nonzero left))
    ∙ odd_flips true p q ring closed before e after is (cut_from_meet (point_of e.a) (point_of e.b) p q m left right between on)
    before_missed after_missed
    ∙ ap not (sym (ap (λ z. not z && is_odd q (edges_of ring))
    (off q (misses_end before_missed) (misses_end after_missed) (<ℤ_apart right))))
  where
    before_missed : Misses p q before
    before_missed = misses_left before after miss

    after_missed : Misses p q after
    after_missed = misses_right before after miss

    off : (v : Point) → is_on_edges v before ≡ false → is_on_edges v after ≡ false → ¬ (turn (point_of e.a) (point_of e.b) v ≡ pos 0)
        → is_on_edges v (edges_of ring) ≡ false
    off v h k l = ap (is_on_edges v) is ∙ off_all before e after v h (off_line e v l) k
