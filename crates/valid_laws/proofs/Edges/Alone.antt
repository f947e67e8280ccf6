-- Along an edge of a clean area, near any of its points, no other edge is met.
use Rattle.std.proofs.Common.{◌≡◌, ◌⊎◌, inl, inr, ℕ, zero, suc, ◌+◌, ◌<◌, ℤ, pos, ◌*ℤ◌, ◌<ℤ◌, Bool, true, false, List, [], ◌∷◌, ap, refl}
use Rattle.std.proofs.Common.{sym, ◌∙◌, subst, arith}
use Rattle.std.proofs.lemmas.Bool.{true≢false, cases_eq, cases_order}
use Rattle.std.specs.Prelude.{slice_get}
use lib.IntN.{zero-*ℤ}
use lib.Signed.{<ℤ_irrefl, <ℤ-≤ℤ_trans}
use Rattle.whole_algebra.proofs.Signs.{by_sign, zero_factor, pos_nonzero}
use Rattle.plane_laws.proofs.Segments.Mixes.{start_on_segment, end_on_segment, segment_same}
use Rattle.plane_laws.proofs.Segments.On.{same_from_steps, mix_shift_start, mix_shift_end, mix_rise_start, mix_rise_end}
use Rattle.plane_laws.proofs.Segments.On.{Decides-is_on_segment, on_segment_of_same}
use Rattle.plane_laws.proofs.Points.Same.{same_refl, same_sym, same_trans, Decides-is_same_point}
use Rattle.plane_laws.specs.Plane.{Point, IsOnSegment, IsStrictlyBetween, IsSamePoint, is_same_point, rise, shift}
use Rattle.plane_exact.specs.Places.{point_of}
use Rattle.plane_laws.specs.Directions.{Direction}
use Rattle.plane_exact.specs.declared.point.Pt.{Pt}
use Rattle.plane_exact.specs.declared.point.Seg.{Seg}
use Rattle.point_set.specs.declared.figure.Area.{Area}
use Rattle.point_set.specs.Rings.{edges_of, is_on_edge}
use Rattle.point_set.specs.Location.{rings_of}
use Rattle.point_set.specs.Shape.{IsRingShaped}
use Rattle.plane_laws.specs.Along.{IsAway, IsInCone, HoldsAlong}
use Rattle.point_set.specs.Edges.{IsOnEdgeAlone}
use Rattle.point_set.specs.Validity.{IsAtPlace, IsOnEdge, CrossesItself, ShareSegment}
use Rattle.figure_laws.proofs.Lists.Places.{some_same}
use Rattle.ring_laws.proofs.Room.Edges.{HoldBoth, HasRoom, room}
use Rattle.plane_laws.proofs.Near.Near.{size_of}
use Rattle.plane_laws.proofs.Near.Away.{away_near, far_for}
use Rattle.ring_laws.proofs.Germs.Edges.{on_true, direction_pointed}
use Rattle.ring_laws.proofs.Germs.Areas.{segment_within, toward_on}
use Rattle.side_laws.proofs.Edges.Places.{IsSimple, ring_is_simple, alone_within}
use Rattle.side_laws.proofs.Edges.Beside.{held_at}
use Rattle.side_laws.proofs.Areas.Hands.{hole_shaped, rings_unshared, share_back}
use Rattle.valid_laws.specs.Entering.{edges_in, IsClean, RunsAlong, LawAlone}
use Rattle.valid_laws.proofs.Entering.Walk.{cone_mix, away_cone}
use Rattle.figure_laws.proofs.Edges.Owners.{HasRing, ring_of}
use Rattle.valid_laws.proofs.Edges.Moving.{moving}
use Rattle.figure_laws.proofs.Lists.Places.{all_at}

-- a point of a segment that isn't one of its ends is strictly between them
between_from : {a b p : Point} → ¬ IsSamePoint a b → IsOnSegment a b p → ¬ IsSamePoint a p → ¬ IsSamePoint b p → IsStrictlyBetween a b p
between_from {a} {b} {p} apart on not_a not_b = record {
  s = on.s;
  t = on.t;
  mix = on.mix;
  some_first = by_sign on.s (λ h. absurd (<ℤ_irrefl (<ℤ-≤ℤ_trans h on.mix.first)))
      (λ z. absurd (not_b (same_sym
      (same_from_steps p b (none on.mix.times on.s (shift p b) (shift a b) on.mix.some z (mix_shift_end on.mix))
      (none on.mix.times on.s (rise p b) (rise a b) on.mix.some z (mix_rise_end on.mix))))))
      (λ h. h);
  some_second = by_sign on.t (λ h. absurd (<ℤ_irrefl (<ℤ-≤ℤ_trans h on.mix.second)))
      (λ z. absurd (not_a (same_from_steps a p (none on.mix.times on.t (shift a p) (shift a b) on.mix.some z (mix_shift_start on.mix))
      (none on.mix.times on.t (rise a p) (rise a b) on.mix.some z (mix_rise_start on.mix)))))
      (λ h. h);
  apart = apart;
}
  where
    none : (k s z y : ℤ) → pos 0 <ℤ k → s ≡ pos 0 → k *ℤ z ≡ s *ℤ y → z ≡ pos 0
    none k s z y hk e f = zero_factor k z (pos_nonzero hk) (f ∙ ap (λ r. r *ℤ y) e ∙ zero-*ℤ y)

not_start : (v : Point) (d : Direction) (n : ℕ) → 0 < n → (p : Point) → IsAway v d n p → ¬ IsSamePoint v p
not_start v d n some p away one =
    let c = away_cone some away in
    direction_pointed v d (cone_mix c c (segment_same (same_refl p) (same_refl p) (same_sym one) (start_on_segment p p)))

-- near v, but not at v, no point is at a position
not_at : (v : Point) (d : Direction) (w : Pt) → HoldsAlong (λ p. ¬ IsSamePoint (point_of w) p) v d
not_at v d w = go (is_same_point v (point_of w)) refl
  where
    dot : Seg
    dot = record { a = w; b = w }

    r : HasRoom v (dot ∷ [])
    r = room v (dot ∷ [])

    on_dot : (p : Point) → IsSamePoint (point_of w) p → is_on_edge p dot ≡ true
    on_dot p one = (Decides-is_on_segment (point_of w) (point_of w) p).1
        (segment_same (same_refl (point_of w)) (same_refl (point_of w)) one (start_on_segment (point_of w) (point_of w)))

    off_dot : is_same_point v (point_of w) ≡ false → (b : Bool) → is_on_edge v dot ≡ b → is_on_edge v dot ≡ false
    off_dot h false e = e
    off_dot h true e = absurd (true≢false (sym ((Decides-is_same_point v (point_of w)).1 (same_sym (at_dot (on_true e)))) ∙ h))
      where
        at_dot : IsOnSegment (point_of w) (point_of w) v → IsSamePoint (point_of w) v
        at_dot on = on_segment_of_same (same_refl (point_of w)) on

    go : (b : Bool) → is_same_point v (point_of w) ≡ b → HoldsAlong (λ p. ¬ IsSamePoint (point_of w) p) v d
    go true h = record {
      from = 0;
      holds = λ n far p away one. not_start v d n far p away (same_trans ((Decides-is_same_point v (point_of w)).0 h) one);
    }
    go false h = record {
      from = far_for d r.n;
      holds = λ n far p away one. true≢false
          (sym (on_dot p one) ∙ (r.free r.n (omega arith) p (away_near r.n far away)).0 (off_dot h (is_on_edge v dot) refl));
    }

along_edge : (v : Point) (d : Direction) (e : Seg) → RunsAlong v d e → HoldsAlong (λ p. IsOnEdge e p) v d
along_edge v d e runs = go runs.end
  where
    go : IsInCone v d d (point_of e.a) ⊎ IsInCone v d d (point_of e.b) → HoldsAlong (λ p. IsOnEdge e p) v d
    go (inl c) = record {
      from = size_of ((c.times *ℤ v.w) *ℤ (point_of e.a).w);
      holds = λ n far p away.
          segment_within (on_true runs.on) (start_on_segment (point_of e.a) (point_of e.b)) (toward_on v d (point_of e.a) c n p far away);
    }
    go (inr c) = record {
      from = size_of ((c.times *ℤ v.w) *ℤ (point_of e.b).w);
      holds = λ n far p away.
          segment_within (on_true runs.on) (end_on_segment (point_of e.a) (point_of e.b)) (toward_on v d (point_of e.b) c n p far away);
    }

-- two edges of a clean area that share a segment, of which a point is strictly within the first, are one
one_edge : (area : Area) → IsClean area → (e g : Seg) → HasRing (rings_of area) e → HasRing (rings_of area) g → ShareSegment e g
    → (p : Point) → IsOnEdge e p → IsOnEdge g p → ¬ IsSamePoint (point_of e.a) p → ¬ IsSamePoint (point_of e.b) p → g ≡ e
one_edge area clean e g x y share p on_e on_g not_a not_b = by_ring (cases_order x.k y.k)
  where
    shaped_at : (k : ℕ) (ring : List Pt) → IsAtPlace (rings_of area) k ring → IsRingShaped ring
    shaped_at zero ring is = subst IsRingShaped (some_same is) clean.shaped.shell
    shaped_at (suc k) ring is = hole_shaped area clean.shaped k ring is

    simple : IsSimple (edges_of x.ring)
    simple = ring_is_simple x.ring (shaped_at x.k x.ring x.ring_is).closed
        (all_at (λ w. ¬ CrossesItself w) (rings_of area) x.k x.ring clean.simple x.ring_is)

    by_place : IsAtPlace (edges_of x.ring) y.i g → (x.i ≡ y.i) ⊎ (x.i ≡ y.i → ⊥) → g ≡ e
    by_place is (inl one) = some_same (sym is ∙ ap (slice_get (edges_of x.ring)) (sym one) ∙ x.is)
    by_place is (inr differ) = absurd (alone_within simple x.i y.i e g differ x.is is p not_a not_b on_e on_g)

    by_ring : (x.k ≡ y.k) ⊎ ((x.k < y.k) ⊎ (y.k < x.k)) → g ≡ e
    by_ring (inl one) =
        let ring : y.ring ≡ x.ring = some_same (sym y.ring_is ∙ ap (slice_get (rings_of area)) (sym one) ∙ x.ring_is) in
        by_place (subst (λ w. IsAtPlace (edges_of w) y.i g) ring y.is) (cases_eq x.i y.i)
    by_ring (inr (inl less)) = absurd
        (rings_unshared clean.unshared x.k y.k less x.ring y.ring x.ring_is y.ring_is x.i y.i e g x.is y.is share)
    by_ring (inr (inr more)) = absurd
        (rings_unshared clean.unshared y.k x.k more y.ring x.ring y.ring_is x.ring_is y.i x.i g e y.is x.is (share_back share))

pub alone : LawAlone
alone area clean i e is v d runs = record {
  from = ((along.from + off_a.from) + off_b.from) + far_for d r.n;
  holds = λ n far p away. holds_at n far p away (along.holds n (omega (arith, far)) p away) (off_a.holds n (omega (arith, far)) p away)
      (off_b.holds n (omega (arith, far)) p away);
}
  where
    along : HoldsAlong (λ p. IsOnEdge e p) v d
    along = along_edge v d e runs

    off_a : HoldsAlong (λ p. ¬ IsSamePoint (point_of e.a) p) v d
    off_a = not_at v d e.a

    off_b : HoldsAlong (λ p. ¬ IsSamePoint (point_of e.b) p) v d
    off_b = not_at v d e.b

    r : HasRoom v (edges_in area)
    r = room v (edges_in area)

    through : (p : Point) → HoldBoth v p (edges_in area) → (j : ℕ) (g : Seg) → IsAtPlace (edges_in area) j g → IsOnEdge g p → (b : Bool)
        → is_on_edge v g ≡ b → is_on_edge v g ≡ true
    through p held j g is_g on true h = h
    through p held j g is_g on false h = absurd
        (true≢false (sym ((Decides-is_on_segment (point_of g.a) (point_of g.b) p).1 on) ∙ held_at v p (edges_in area) held j g is_g h))

    holds_at : (n : ℕ) → ((along.from + off_a.from) + off_b.from) + far_for d r.n < n → (p : Point) → IsAway v d n p → IsOnEdge e p
        → ¬ IsSamePoint (point_of e.a) p → ¬ IsSamePoint (point_of e.b) p → IsOnEdgeAlone area e p
    holds_at n far p away on_e not_a not_b = record {
      between = between_from (moving area i e is) on_e not_a not_b;
      alone = λ j g is_g on_g.
          let v_g = on_true (through p (r.free r.n (omega (arith)) p (away_near r.n (omega (arith, far)) away)) j g is_g on_g
          (is_on_edge v g) refl) in
          one_edge area clean e g (ring_of (rings_of area) i e is) (ring_of (rings_of area) j g is_g)
          (record {
            a = v;
            b = p;
            apart = not_start v d n (omega (arith, far)) p away;
            held = λ m on. (segment_within (on_true runs.on) on_e on, segment_within v_g on_g on);
          })
          p on_e on_g not_a not_b;
    }
