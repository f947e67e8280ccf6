-- A ring whose positions are reversed: the same inside, and the other hand.
use Rattle.std.proofs.Common.{◌≡◌, ℕ, zero, suc, neg_ℤ, Bool, true, false, not, ◌&&◌, ◌||◌, List, [], ◌∷◌, ◌++◌, reverse, ap, refl, sym}
use Rattle.std.proofs.Common.{◌∙◌, subst, arith}
use Rattle.std.specs.Bool.{Decides}
use Rattle.std.specs.Ordering.{int_eq}
use Rattle.std.proofs.lemmas.Bool.Decides.{Decides-int_eq, Decides-and, Decides-like, same_from_decides}
use Rattle.std.proofs.Math.Bool.{or_comm}
use Rattle.std.proofs.lemmas.List.{reverse-append, append_assoc}
use Rattle.std.proofs.lemmas.List.Folds.{list_any-append}
use Rattle.whole_algebra.proofs.Laws.{linear}
use Rattle.whole_algebra.proofs.Polynomials.{var, ◌⊖◌, ◌⊗◌, minus, identity}
use Rattle.plane_laws.proofs.Segments.Mixes.{segment_flip}
use Rattle.plane_laws.proofs.Segments.On.{Decides-is_on_segment}
use Rattle.plane_laws.specs.Plane.{Point}
use Rattle.plane_exact.specs.Places.{point_of}
use Rattle.plane_laws.specs.Directions.{Direction}
use Rattle.plane_exact.specs.declared.point.Pt.{Pt}
use Rattle.plane_exact.specs.declared.point.Seg.{Seg}
use Rattle.point_set.specs.declared.edge.Hand.TheVariants as hand
use Rattle.point_set.specs.Rings.{is_same_position, edge_before, edges_after, edges_of, is_on_edge, is_on_edges, crosses, differ, is_odd}
use Rattle.point_set.specs.Rings.{is_inside}
use Rattle.point_set.specs.Validity.{IsAtPlace}
use Rattle.point_set.specs.declared.edge.Hand.{Hand}
use Rattle.point_set.specs.Sides.{slope, PointsTo, other_hand, HoldsBeside, IsInsideHand}
use Rattle.ring_laws.proofs.Parity.OneEdge.{crosses_swap}
use Rattle.ring_laws.proofs.Parity.Tests.{differ_assoc, differ_comm, differ_none}
use Rattle.figure_laws.proofs.Lists.Places.{some_same}
use Rattle.side_laws.proofs.Rings.Joint.{between_flip}
use Rattle.ring_sides.proofs.Counting.{odd_before}

-- ---- the last edge of a way
before_append : (same : Bool) (p q : Pt) (edges more : List Seg) → edge_before same p q edges ++ more ≡ edge_before same p q (edges ++ more)
before_append true p q edges more = refl
before_append false p q edges more = refl

last_edge : Pt → Pt → List Seg
last_edge q p = edge_before (is_same_position q p) q p []

after_last :
    (x : Pt) (others : List Pt) (q p : Pt) → edges_after x (others ++ q ∷ p ∷ []) ≡ edges_after x (others ++ q ∷ []) ++ last_edge q p
unfolding last_edge
after_last x [] q p = sym (before_append (is_same_position x q) x q [] (edge_before (is_same_position q p) q p []))
after_last x (y ∷ others) q p =
    ap (edge_before (is_same_position x y) x y) (after_last y others q p)
    ∙ sym (before_append (is_same_position x y) x y (edges_after y (others ++ q ∷ [])) (edge_before (is_same_position q p) q p []))

of_last : (others : List Pt) (q p : Pt) → edges_of (others ++ q ∷ p ∷ []) ≡ edges_of (others ++ q ∷ []) ++ last_edge q p
unfolding last_edge
of_last [] q p = refl
of_last (x ∷ others) q p = after_last x others q p

reverse_first : (p : Pt) (others : List Pt) → reverse (p ∷ others) ≡ reverse others ++ p ∷ []
reverse_first p others = reverse-append (p ∷ []) others

turned_edges : (p q : Pt) (others : List Pt) → edges_of (reverse (p ∷ q ∷ others)) ≡ edges_of (reverse (q ∷ others)) ++ last_edge q p
turned_edges p q others =
    ap edges_of
    (reverse_first p (q ∷ others) ∙ ap (λ xs. xs ++ p ∷ []) (reverse_first q others) ∙ append_assoc (reverse others) (q ∷ []) (p ∷ []))
    ∙ of_last (reverse others) q p
    ∙ ap (λ xs. edges_of xs ++ last_edge q p) (sym (reverse_first q others))

-- ---- the same inside
odd_append : (v : Point) (edges more : List Seg) → is_odd v (edges ++ more) ≡ differ (is_odd v edges) (is_odd v more)
odd_append v [] more = refl
odd_append v (e ∷ edges) more =
    ap (differ (crosses v e)) (odd_append v edges more) ∙ sym (differ_assoc (crosses v e) (is_odd v edges) (is_odd v more))

last_odd : (v : Point) (q p : Pt) → is_odd v (last_edge q p) ≡ crosses v (record { a = p; b = q })
unfolding last_edge
last_odd v q p =
    odd_before v (is_same_position q p) q p [] refl ∙ differ_none (crosses v (record { a = q; b = p }))
    ∙ crosses_swap v (point_of p) (point_of q)

turned_odd : (v : Point) (ring : List Pt) → is_odd v (edges_of (reverse ring)) ≡ is_odd v (edges_of ring)
turned_odd v [] = refl
turned_odd v (p ∷ []) = refl
turned_odd v (p ∷ q ∷ others) =
    ap (is_odd v) (turned_edges p q others) ∙ odd_append v (edges_of (reverse (q ∷ others))) (last_edge q p)
    ∙ (λ i. differ (turned_odd v (q ∷ others) i) (last_odd v q p i))
    ∙ differ_comm (is_odd v (edges_after q others)) (crosses v (record { a = p; b = q }))
    ∙ sym (odd_before v (is_same_position p q) p q (edges_after q others) refl)

same_swap : (p q : Pt) → is_same_position p q ≡ is_same_position q p
same_swap p q =
    same_from_decides (is_same_position p q) (is_same_position q p) (decides p q)
    (Decides-like (is_same_position q p) (λ h. (sym h.0, sym h.1)) (λ h. (sym h.0, sym h.1)) (decides q p))
  where
    decides : (p q : Pt) → Decides (is_same_position p q) ((p.x ≡ q.x) × (p.y ≡ q.y))
    decides p q = Decides-and (int_eq p.x q.x) (int_eq p.y q.y) (Decides-int_eq p.x q.x) (Decides-int_eq p.y q.y)

on_swap : (v : Point) (p q : Pt) → is_on_edge v (record { a = q; b = p }) ≡ is_on_edge v (record { a = p; b = q })
on_swap v p q =
    same_from_decides (is_on_edge v (record { a = q; b = p })) (is_on_edge v (record { a = p; b = q }))
    (Decides-is_on_segment (point_of q) (point_of p) v)
    (Decides-like (is_on_edge v (record { a = p; b = q })) segment_flip segment_flip (Decides-is_on_segment (point_of p) (point_of q) v))

on_before :
    (v : Point) (same : Bool) (p q : Pt) (edges : List Seg)
    → (is_on_edges v edges || is_on_edges v (edge_before same q p [])) ≡ is_on_edges v (edge_before same p q edges)
on_before v true p q edges = or_comm (is_on_edges v edges) false
on_before v false p q edges =
    ap (λ z. is_on_edges v edges || (z || false)) (on_swap v p q)
    ∙ or_comm (is_on_edges v edges) (is_on_edge v (record { a = p; b = q }) || false)
    ∙ ap (λ z. z || is_on_edges v edges) (or_comm (is_on_edge v (record { a = p; b = q })) false)

turned_on : (v : Point) (ring : List Pt) → is_on_edges v (edges_of (reverse ring)) ≡ is_on_edges v (edges_of ring)
unfolding last_edge
turned_on v [] = refl
turned_on v (p ∷ []) = refl
turned_on v (p ∷ q ∷ others) =
    ap (is_on_edges v) (turned_edges p q others) ∙ list_any-append (is_on_edge v) (edges_of (reverse (q ∷ others))) (last_edge q p)
    ∙ ap (λ z. z || is_on_edges v (last_edge q p)) (turned_on v (q ∷ others))
    ∙ ap (λ z. is_on_edges v (edges_after q others) || is_on_edges v (edge_before z q p [])) (same_swap q p)
    ∙ on_before v (is_same_position p q) p q (edges_after q others)

pub turned_inside : (v : Point) (ring : List Pt) → is_inside v (reverse ring) ≡ is_inside v ring
turned_inside v ring = λ i. not (turned_on v ring i) && turned_odd v ring i

-- ---- every edge turned round
flipped : Seg → Seg
flipped e = record { a = e.b; b = e.a }

abbrev EachEdge : (Seg → Type 0) → List Seg → Type 0
EachEdge P [] = Unit {0}
EachEdge P (e ∷ edges) = P e × EachEdge P edges

each_append : (P : Seg → Type 0) (edges more : List Seg) → EachEdge P edges → EachEdge P more → EachEdge P (edges ++ more)
each_append P [] more h k = k
each_append P (e ∷ edges) more h k = (h.0, each_append P edges more h.1 k)

each_last :
    (P : Seg → Type 0) (same : Bool) (p q : Pt) (edges : List Seg) → EachEdge (λ e. P (flipped e)) (edge_before same p q edges)
    → EachEdge P (edge_before same q p []) × EachEdge (λ e. P (flipped e)) edges
unfolding flipped
each_last P true p q edges h = (tt, h)
each_last P false p q edges h = ((h.0, tt), h.1)

each_turned : (P : Seg → Type 0) (ring : List Pt) → EachEdge (λ e. P (flipped e)) (edges_of ring) → EachEdge P (edges_of (reverse ring))
unfolding last_edge
each_turned P [] h = tt
each_turned P (p ∷ []) h = tt
each_turned P (p ∷ q ∷ others) h =
    let parts = each_last P (is_same_position p q) p q (edges_after q others) h in
    subst (EachEdge P) (sym (turned_edges p q others))
    (each_append P (edges_of (reverse (q ∷ others))) (last_edge q p) (each_turned P (q ∷ others) parts.1)
    (subst (λ z. EachEdge P (edge_before z q p [])) (same_swap p q) parts.0))

each_from : (P : Seg → Type 0) (edges : List Seg) → ((place : ℕ) (e : Seg) → IsAtPlace edges place e → P e) → EachEdge P edges
each_from P [] h = tt
each_from P (e ∷ edges) h = (h 0 e refl, each_from P edges (λ place f is. h (suc place) f is))

each_at : (P : Seg → Type 0) (edges : List Seg) → EachEdge P edges → (place : ℕ) (e : Seg) → IsAtPlace edges place e → P e
each_at P [] h place e is = cc
each_at P (f ∷ edges) h zero e is = subst P (some_same is) h.0
each_at P (f ∷ edges) h (suc place) e is = each_at P edges h.1 place e is

-- ---- the other hand
slope_flip : (e : Seg) (d : Direction) → slope (flipped e) d ≡ neg_ℤ (slope e d)
unfolding flipped
slope_flip e d =
    identity ((var 0 ⊖ var 2) ⊗ var 5 ⊖ (var 1 ⊖ var 3) ⊗ var 4) (minus ((var 2 ⊖ var 0) ⊗ var 5 ⊖ (var 3 ⊖ var 1) ⊗ var 4))
    (e.a.x ∷ e.a.y ∷ e.b.x ∷ e.b.y ∷ d.x ∷ d.y ∷ []) refl

-- what points to one hand of an edge points to the other hand of the edge turned round
to_other : (side : Hand) (e : Seg) (d : Direction) → PointsTo (other_hand side) (flipped e) d → PointsTo side e d
to_other hand.Left e d to = omega (arith, linear, slope_flip e d, to)
to_other hand.Right e d to = omega (arith, linear, slope_flip e d, to)
to_other hand.Line e d to = to

beside_other :
    (side : Hand) (ring : List Pt) (b : Bool) (e : Seg) → HoldsBeside (λ q. is_inside q ring ≡ b) e side
    → HoldsBeside (λ q. is_inside q (reverse ring) ≡ b) (flipped e) (other_hand side)
unfolding flipped
beside_other side ring b e h p between d to =
    let along = h p (between_flip between) d (to_other side e d to) in
    record { from = along.from; holds = λ n far q away. turned_inside q ring ∙ along.holds n far q away }

right_not_line : ¬ (hand.Right ≡ hand.Line)
right_not_line e = cc

pub turned_hand : (ring : List Pt) → IsInsideHand ring hand.Left → IsInsideHand (reverse ring) hand.Right
turned_hand ring h = record {
  sided = right_not_line;
  inside = each_at (λ e. HoldsBeside (λ q. is_inside q (reverse ring) ≡ true) e hand.Right) (edges_of (reverse ring))
      (each_turned (λ e. HoldsBeside (λ q. is_inside q (reverse ring) ≡ true) e hand.Right) ring
      (each_from (λ e. HoldsBeside (λ q. is_inside q (reverse ring) ≡ true) (flipped e) hand.Right) (edges_of ring)
      (λ place e is. beside_other hand.Left ring true e (h.inside place e is))));
  outside = each_at (λ e. HoldsBeside (λ q. is_inside q (reverse ring) ≡ false) e hand.Left) (edges_of (reverse ring))
      (each_turned (λ e. HoldsBeside (λ q. is_inside q (reverse ring) ≡ false) e hand.Left) ring
      (each_from (λ e. HoldsBeside (λ q. is_inside q (reverse ring) ≡ false) (flipped e) hand.Left) (edges_of ring)
      (λ place e is. beside_other hand.Right ring false e (h.outside place e is))));
}
