-- The law of the visible node on an edge: the nearest node along an edge sees the point.
use Rattle.std.proofs.Common.{◌≡◌, ℕ, zero, suc, ℤ, pos, ◌*ℤ◌, neg_ℤ, ◌<ℤ◌, ◌≤ℤ◌, Bool, true, false, List, [], ◌∷◌, ◌++◌, refl, sym, ◌∙◌}
use Rattle.std.proofs.Common.{subst}
use Rattle.std.proofs.lemmas.Bool.{true≢false}
use Rattle.whole_algebra.proofs.Polynomials.{var, num, ◌⊗◌, minus}
use Rattle.whole_algebra.proofs.Certificates.{natural, positive, square, same, at_most_by, scaled, ◌⊞◌, ◌⊠◌}
use Rattle.whole_algebra.proofs.Signs.{≤ℤ_antisymm, square_nonneg, square_zero}
use Rattle.plane_laws.proofs.Segments.Mixes.{start_on_segment, end_on_segment, segment_flip, segment_same, on_from_strictly_between}
use Rattle.plane_laws.proofs.Segments.On.{Decides-is_on_segment, same_from_steps, mix_shift_start, mix_shift_end, mix_rise_start}
use Rattle.plane_laws.proofs.Segments.On.{mix_rise_end}
use Rattle.plane_laws.proofs.Points.Same.{same_refl, same_sym, same_trans}
use Rattle.plane_laws.specs.Plane.{Point, IsSamePoint, IsOnSegment, IsStrictlyBetween, shift, rise, is_on_segment}
use Rattle.plane_exact.specs.Places.{point_of}
use Rattle.point_set.specs.declared.figure.Figure.{Figure}
use Rattle.point_set.specs.declared.rule.Rule.{Rule}
use Rattle.point_set.specs.Validity.{IsAtPlace, IsOnEdge}
use Rattle.ring_laws.proofs.Germs.Areas.{segment_within}
use Rattle.figure_laws.proofs.Lists.Places.{some_same}
use Rattle.side_laws.proofs.Edges.Germ.{between_not_start}
use Rattle.kind_laws.proofs.Hands.InSector.{shift_back, rise_back}
use Rattle.point_set.specs.Nodes.{all_positions, segs_of_both, IsNode, position}
use Rattle.node_laws.proofs.Nodes.Finite.{nodes_are_finite}
use Rattle.point_set.specs.Visible.{AreValid, AreAllNodes, IsVisibleOn, LawVisibleOn}
use Rattle.kind_laws.proofs.Location.EdgeRays.{all_place}
use Rattle.stay_laws.proofs.Edges.Ends.{HasEndsIn, ends_in_both}
use Rattle.stay_laws.proofs.Even.Germs.{HasEdgeAt, edge_at}
use Rattle.stay_laws.proofs.Stays.OnEdge.{pair_stays_on_edge}

-- ---- two points, each on the way from p to the other, are one
-- k of u are t of w, k of the step are s of w, l of the step back are r of u: no step
no_way :
    (k s t l r u w d back : ℤ) → pos 0 <ℤ k → pos 0 <ℤ l → pos 0 ≤ℤ s → pos 0 ≤ℤ t → pos 0 ≤ℤ r → k *ℤ u ≡ t *ℤ w → k *ℤ d ≡ s *ℤ w
    → l *ℤ back ≡ r *ℤ u → back ≡ neg_ℤ d → d ≡ pos 0
no_way k s t l r u w d back hk hl hs ht hr e f g b = square_zero d (≤ℤ_antisymm under (square_nonneg d))
  where
    under : (d *ℤ d) ≤ℤ pos 0
    under =
        at_most_by (var 7 ⊗ var 7) (num (pos 0)) (k ∷ s ∷ t ∷ l ∷ r ∷ u ∷ w ∷ d ∷ back ∷ [])
        (λ denied. denied ⊠ positive (var 0) hk ⊠ positive (var 0) hk ⊠ positive (var 3) hl
        ⊞ natural (var 1) hs ⊠ natural (var 4) hr ⊠ natural (var 2) ht ⊠ square (var 6)
        ⊞ scaled (minus ((var 0 ⊗ var 3) ⊗ var 7)) (same (var 0 ⊗ var 7) (var 1 ⊗ var 6) f)
        ⊞ scaled ((var 0 ⊗ var 1) ⊗ var 6) (same (var 3 ⊗ var 8) (var 4 ⊗ var 5) g)
        ⊞ scaled (minus (((var 0 ⊗ var 1) ⊗ var 6) ⊗ var 3)) (same (var 8) (minus (var 7)) b)
        ⊞ scaled ((var 1 ⊗ var 4) ⊗ var 6) (same (var 0 ⊗ var 5) (var 2 ⊗ var 6) e)) refl

-- u is on the way to w and w on the way to u
pub on_both : {p u w : Point} → IsOnSegment p w u → IsOnSegment p u w → IsSamePoint u w
on_both {p} {u} {w} g h =
    same_from_steps u w
    (no_way g.mix.times g.s g.t h.mix.times h.s (shift p u) (shift p w) (shift u w) (shift w u) g.mix.some h.mix.some g.mix.first
    g.mix.second h.mix.first
    (mix_shift_start g.mix) (mix_shift_end g.mix) (mix_shift_end h.mix) (shift_back u w))
    (no_way g.mix.times g.s g.t h.mix.times h.s (rise p u) (rise p w) (rise u w) (rise w u) g.mix.some h.mix.some g.mix.first g.mix.second
    h.mix.first
    (mix_rise_start g.mix) (mix_rise_end g.mix) (mix_rise_end h.mix) (rise_back u w))

-- ---- the nearest of some points on the way from p to an end
-- a point of the kind asked for, on the way to an end, and none of the points is on the way to it but itself
pub record HasNearest (Is : Point → Type 0) (p end : Point) (points : List Point) : Type 0 where
  pub w : Point
  pub is : Is w
  pub on : IsOnSegment p end w
  pub nearest : (j : ℕ) (u : Point) → IsAtPlace points j u → IsOnSegment p w u → IsSamePoint u w

-- one point at a time: it takes the place of the nearest so far where it is on the way to that
pub nearest_of :
    (Is : Point → Type 0) (p end : Point) → Is end → (points : List Point) → ((j : ℕ) (u : Point) → IsAtPlace points j u → Is u)
    → HasNearest Is p end points
nearest_of Is p end end_is [] each = record { w = end; is = end_is; on = end_on_segment p end; nearest = λ j u is on. cc }
nearest_of Is p end end_is (x ∷ points) each = by_rest (nearest_of Is p end end_is points (λ j u is. each (suc j) u is))
  where
    by_rest : HasNearest Is p end points → HasNearest Is p end (x ∷ points)
    by_rest rest = by_test (is_on_segment p rest.w x) refl
      where
        kept :
            is_on_segment p rest.w x ≡ false → (j : ℕ) (u : Point) → IsAtPlace (x ∷ points) j u → IsOnSegment p rest.w u
            → IsSamePoint u rest.w
        kept off zero u is on =
            absurd (true≢false (sym ((Decides-is_on_segment p rest.w x).1
            (subst (λ (y : Point). IsOnSegment p rest.w y) (sym (some_same is)) on)) ∙ off))
        kept off (suc j) u is on = rest.nearest j u is on

        nearer : IsOnSegment p rest.w x → (j : ℕ) (u : Point) → IsAtPlace (x ∷ points) j u → IsOnSegment p x u → IsSamePoint u x
        nearer on_x zero u is on = subst (λ (y : Point). IsSamePoint y x) (some_same is) (same_refl x)
        nearer on_x (suc j) u is on =
            let one = rest.nearest j u is (segment_within (start_on_segment p rest.w) on_x on) in
            same_trans one (same_sym (on_both on_x (segment_same (same_refl p) (same_refl x) one on)))

        by_test : (b : Bool) → is_on_segment p rest.w x ≡ b → HasNearest Is p end (x ∷ points)
        by_test false off = record { w = rest.w; is = rest.is; on = rest.on; nearest = kept off }
        by_test true t =
            let on_x = (Decides-is_on_segment p rest.w x).0 t in
            record { w = x; is = each 0 x refl; on = segment_within (start_on_segment p end) rest.on on_x; nearest = nearer on_x }

-- ---- the law
module _ (a b : Figure) (valid : AreValid a b) (rule : Rule) where
  nodes : List Point
  nodes = (nodes_are_finite a b).0

  all : AreAllNodes a b nodes
  unfolding nodes
  all = (nodes_are_finite a b).1

  -- from p to a point strictly before the nearest node there is no node
  none_before :
      (p end : Point) (r : HasNearest (IsNode a b) p end nodes) → ¬ IsNode a b p → (q : Point) → IsStrictlyBetween r.w p q → (m : Point)
      → IsOnSegment p q m → ¬ IsNode a b m
  none_before p end r free q between m on is_node =
      let found = all.whole m is_node in
      let on_q : IsOnSegment p r.w q = segment_flip (on_from_strictly_between between) in
      let on_m : IsOnSegment p r.w m = segment_within (start_on_segment p r.w) on_q on in
      let one : IsSamePoint m r.w = same_trans found.3
      (r.nearest found.0 found.1 found.2 (segment_same (same_refl p) (same_refl r.w) found.3 on_m)) in
      between_not_start between (same_sym (on_both on_q (segment_same (same_refl p) (same_refl q) one on)))

  -- the nearest node from p towards the first end of an edge that holds p
  pub visible_on : LawVisibleOn a b rule
  visible_on p on free = by_edge (edge_at p (segs_of_both a b) on)
    where
      by_edge : HasEdgeAt (segs_of_both a b) p → IsVisibleOn a b rule p
      by_edge e =
          let ends = all_place (HasEndsIn (all_positions a ++ all_positions b)) (segs_of_both a b) (ends_in_both a b) e.i e.e e.is in
          let end = point_of e.e.a in
          let r = nearest_of (IsNode a b) p end (position ends.first) nodes all.only in
          let on_v : IsOnEdge e.e r.w = segment_within e.on (start_on_segment end (point_of e.e.b)) r.on in
          record {
            v = r.w;
            is_node = r.is;
            place = e.i;
            edge = e.e;
            edge_is = e.is;
            v_on = on_v;
            p_on = e.on;
            seen = λ c in_cell q between.
                pair_stays_on_edge a b valid rule e.i e.e e.is p q e.on (segment_within on_v e.on (on_from_strictly_between between))
                (none_before p end r free q between) c in_cell;
          }
