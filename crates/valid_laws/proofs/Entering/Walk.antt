-- Along a ring.
use Rattle.std.proofs.Common.{◌||◌, ◌≡◌, ◌≢◌, ◌⊎◌, inl, inr, ℕ, zero, suc, ◌+◌, ◌<◌, ℤ, pos, ◌+ℤ◌, ◌-ℤ◌, ◌*ℤ◌, ◌<ℤ◌, ◌≤ℤ◌, Bool, true}
use Rattle.std.proofs.Common.{false, List, [], ◌∷◌, ap, refl, sym, ◌∙◌, subst, arith}
use Rattle.std.proofs.lemmas.Bool.{true≢false, false_from_ne_true}
use Rattle.im_matrix.specs.declared.Loc.{Loc}
use Rattle.im_matrix.specs.declared.Loc.TheVariants.{Boundary}
use Rattle.whole_algebra.proofs.Laws.{linear}
use Rattle.whole_algebra.proofs.Polynomials.{var, num, ◌⊕◌, ◌⊖◌, ◌⊗◌}
use Rattle.whole_algebra.proofs.Certificates.{positive, same, same_from, scaled, ◌⊞◌}
use Rattle.whole_algebra.proofs.Signs.{<ℤ_weaken, pos-*-pos, nonneg-*-nonneg, by_sign, zero_factor, pos_nonzero}
use lib.IntN.{zero-*ℤ}
use Rattle.plane_laws.proofs.Segments.Mixes.{start_on_segment, end_on_segment, segment_flip, segment_same}
use Rattle.plane_laws.proofs.Points.Same.{same_refl, same_sym}
use Rattle.plane_laws.proofs.Segments.On.{Decides-is_on_segment, same_from_steps, mix_shift_start, mix_shift_end, mix_rise_start}
use Rattle.plane_laws.proofs.Segments.On.{mix_rise_end}
use Rattle.figure_laws.proofs.Points.Same.{is_on_edges-same}
use Rattle.plane_laws.specs.Plane.{Point, IsOnSegment, IsSamePoint, rise, shift}
use Rattle.plane_exact.specs.Places.{point_of}
use Rattle.plane_laws.specs.Directions.{Direction}
use Rattle.plane_exact.specs.declared.point.Seg.{Seg}
use Rattle.point_set.specs.declared.figure.Area.{Area}
use Rattle.point_set.specs.Rings.{edges_of, is_on_edge, is_on_edges, is_inside}
use Rattle.point_set.specs.Location.{location, location_by}
use Rattle.point_set.specs.Shape.{IsAreaShaped}
use Rattle.plane_laws.specs.Along.{IsAway, IsInCone}
use Rattle.point_set.specs.Germ.{IsGerm}
use Rattle.point_set.specs.Validity.{IsAtPlace}
use Rattle.side_laws.proofs.Edges.Places.{IsSimple, ring_is_simple}
use Rattle.ring_laws.proofs.Germs.Areas.{segment_within, location_stays, toward_on}
use Rattle.ring_laws.proofs.Germs.Edges.{on_true, direction_pointed}
use Rattle.plane_laws.proofs.Near.Away.{some_weight, between_in_cone}
use Rattle.plane_laws.proofs.Near.Near.{size_of}
use Rattle.std.specs.List.{list_any}
use lib.Signed.{<ℤ_irrefl, <ℤ-≤ℤ_trans}
use Rattle.meeting_laws.proofs.Meetings.FirstOfOne.{meeting}
use Rattle.valid_laws.specs.Entering.{edges_in, LawWalk}
pub use Rattle.germ_laws.proofs.Room.Germs.{cone_mix}
use Rattle.germ_laws.proofs.Rays.WayTo.{way_to, way_to_is}
use Rattle.meeting_laws.specs.Meetings.{IsFirstMeeting, LawFirstMeeting}

-- k·x is s·a + t·b and l·q is u·x + w·a; so q, x and b are in this order
order_sum : (k s t l u w a b x q : ℤ) → k *ℤ x ≡ (s *ℤ a) +ℤ (t *ℤ b) → l *ℤ q ≡ (u *ℤ x) +ℤ (w *ℤ a)
    → ((u *ℤ s) +ℤ (w *ℤ k)) *ℤ x ≡ ((s *ℤ l) *ℤ q) +ℤ ((w *ℤ t) *ℤ b)
order_sum k s t l u w a b x q e f =
    same_from ((var 4 ⊗ var 1 ⊕ var 5 ⊗ var 0) ⊗ var 8) ((var 1 ⊗ var 3) ⊗ var 9 ⊕ (var 5 ⊗ var 2) ⊗ var 7)
    (k ∷ s ∷ t ∷ l ∷ u ∷ w ∷ a ∷ b ∷ x ∷ q ∷ [])
    (scaled (var 5) (same (var 0 ⊗ var 8) (var 1 ⊗ var 6 ⊕ var 2 ⊗ var 7) e)
    ⊞ scaled (num (pos 0) ⊖ var 1) (same (var 3 ⊗ var 9) (var 4 ⊗ var 8 ⊕ var 5 ⊗ var 6) f)) refl

-- where x is between a and b, and q between x and a, then x is between q and b
pub seen_back : {a b x q : Point} (on_x : IsOnSegment a b x) (on_q : IsOnSegment x a q) → pos 0 <ℤ on_x.s → IsOnSegment q b x
seen_back {a} {b} {x} {q} on_x on_q some =
    let m = on_x.mix in
    let n = on_q.mix in
    record {
      s = on_x.s *ℤ n.times;
      t = on_q.t *ℤ on_x.t;
      mix = record {
        first = nonneg-*-nonneg m.first (<ℤ_weaken n.some);
        second = nonneg-*-nonneg n.second m.second;
        times = (on_q.s *ℤ on_x.s) +ℤ (on_q.t *ℤ m.times);
        some = weighed on_q.s on_q.t on_x.s m.times n.first n.second (some_weight n) some m.some;
        across = order_sum m.times on_x.s on_x.t n.times on_q.s on_q.t a.x b.x x.x q.x m.across n.across;
        above = order_sum m.times on_x.s on_x.t n.times on_q.s on_q.t a.y b.y x.y q.y m.above n.above;
        mass = order_sum m.times on_x.s on_x.t n.times on_q.s on_q.t a.w b.w x.w q.w m.mass n.mass;
      };
    }
  where
    weighed : (u w s k : ℤ) → pos 0 ≤ℤ u → pos 0 ≤ℤ w → pos 0 <ℤ (u +ℤ w) → pos 0 <ℤ s → pos 0 <ℤ k → pos 0 <ℤ ((u *ℤ s) +ℤ (w *ℤ k))
    weighed u w s k hu hw h hs hk = by_sign u (λ less. absurd (<ℤ_irrefl (<ℤ-≤ℤ_trans less hu))) none some_first
      where
        none : u ≡ pos 0 → pos 0 <ℤ ((u *ℤ s) +ℤ (w *ℤ k))
        none z =
            let some_w : pos 0 <ℤ w = omega (arith, linear, h, z) in
            let both = pos-*-pos some_w hk in
            let left = nonneg-*-nonneg hu (<ℤ_weaken hs) in
            omega (arith, linear, both, left)

        some_first : pos 0 <ℤ u → pos 0 <ℤ ((u *ℤ s) +ℤ (w *ℤ k))
        some_first more =
            let both = pos-*-pos more hs in
            let right = nonneg-*-nonneg hw (<ℤ_weaken hk) in
            omega (arith, linear, both, right)

-- x is between q and b, also where it is b
back_always : {a b x q : Point} → IsOnSegment a b x → IsOnSegment x a q → IsOnSegment q b x
back_always {a} {b} {x} {q} on_x on_q = by_sign on_x.s (λ less. absurd (<ℤ_irrefl (<ℤ-≤ℤ_trans less on_x.mix.first))) at_end
    (λ more. seen_back on_x on_q more)
  where
    none : (k s z y : ℤ) → pos 0 <ℤ k → s ≡ pos 0 → k *ℤ z ≡ s *ℤ y → z ≡ pos 0
    none k s z y hk e f = zero_factor k z (pos_nonzero hk) (f ∙ ap (λ r. r *ℤ y) e ∙ zero-*ℤ y)

    at_end : on_x.s ≡ pos 0 → IsOnSegment q b x
    at_end z =
        let m = on_x.mix in
        let same_end : IsSamePoint x b = same_from_steps x b (none m.times on_x.s (shift x b) (shift a b) m.some z (mix_shift_end m))
        (none m.times on_x.s (rise x b) (rise a b) m.some z (mix_rise_end m)) in
        segment_same (same_refl q) (same_refl b) (same_sym same_end) (end_on_segment q b)

-- the points v + d/n lie from v along d
pub away_cone : {v : Point} {d : Direction} {n : ℕ} {p : Point} → 0 < n → IsAway v d n p → IsInCone v d d p
away_cone {v} {d} {n} {p} some away = between_in_cone some some away away (start_on_segment p p)

-- ---- one edge of a ring
module _ (first : LawFirstMeeting) (area : Area) (shaped : IsAreaShaped area) (part : Loc) (inner : part ≢ Boundary) where
  off_part : (x : Point) → location area x ≡ part → is_on_edges x (edges_in area) ≡ false
  off_part x lies = false_from_ne_true (is_on_edges x (edges_in area)) (λ on. inner (sym lies ∙ boundary on))
    where
      boundary : is_on_edges x (edges_in area) ≡ true → location area x ≡ Boundary
      boundary on = ap (λ z. location_by z (is_inside x area.shell) (list_any (is_inside x) area.holes)) on

  -- from the first meeting q on the way back, the germ towards x is the part
  germ_back : (x a q : Point) → location area x ≡ part → IsFirstMeeting (edges_in area) x a q → (d : Direction) → IsInCone q d d x
      → IsGerm area q d part
  germ_back x a q lies meeting d c = record {
    from = size_of ((c.times *ℤ q.w) *ℤ x.w);
    holds = λ n far p away.
        let on = toward_on q d x c n p far away in
        location_stays p x area shaped (record { off = λ m within. free n p far away on m within }) ∙ lies;
  }
    where
      free : (n : ℕ) (p : Point) → size_of ((c.times *ℤ q.w) *ℤ x.w) < n → IsAway q d n p → IsOnSegment q x p → (m : Point)
          → IsOnSegment p x m → is_on_edges m (edges_in area) ≡ false
      free n p far away on m within = false_from_ne_true (is_on_edges m (edges_in area))
          (λ held. at_start n p far away on m within (meeting.first m (segment_flip (segment_within on (end_on_segment q x) within)) held))
        where
          at_start : (n : ℕ) (p : Point) → size_of ((c.times *ℤ q.w) *ℤ x.w) < n → IsAway q d n p → IsOnSegment q x p → (m : Point)
              → IsOnSegment p x m → IsSamePoint m q → ⊥
          at_start n p far away on m within same_q =
              direction_pointed q d
              (cone_mix (away_cone (omega (arith, far)) away) c (segment_same (same_refl p) (same_refl x) same_q within))

  along_edge : (e : Seg) → location area (point_of e.a) ≢ part
      → ((v : Point) → is_on_edge v e ≡ true → is_on_edges v (edges_in area) ≡ true → (d : Direction) → IsInCone v d d (point_of e.b)
      → ¬ IsGerm area v d part) → (x : Point) → is_on_edge x e ≡ true → location area x ≢ part
  unfolding way_to
  along_edge e start held x on lies = go (first (edges_in area) x (point_of e.a) (off_part x lies))
    where
      go : ((m : Point) → IsOnSegment x (point_of e.a) m → is_on_edges m (edges_in area) ≡ false)
          ⊎ ((q : Point) × IsFirstMeeting (edges_in area) x (point_of e.a) q) → ⊥
      go (inl free) = start (sym (location_stays x (point_of e.a) area shaped (record { off = free })) ∙ lies)
      go (inr (q, meeting)) = held q on_q meeting.on d to_b (germ_back x (point_of e.a) q lies meeting d to_x)
        where
          on_q : is_on_edge q e ≡ true
          on_q = (Decides-is_on_segment (point_of e.a) (point_of e.b) q).1
              (segment_within (on_true on) (start_on_segment (point_of e.a) (point_of e.b)) meeting.on_way)

          apart : ¬ IsSamePoint q x
          apart same = true≢false (sym meeting.on ∙ is_on_edges-same same (edges_in area) ∙ off_part x lies)

          d : Direction
          d = way_to q x apart

          to_x : IsInCone q d d x
          to_x = way_to_is q x apart

          o : IsOnSegment q (point_of e.b) x
          o = back_always (on_true on) meeting.on_way

          with_none : (k z : ℤ) → k ≡ (k +ℤ z) -ℤ z
          with_none k z = omega (arith, linear)

          reached : (k t z y : ℤ) → k *ℤ z ≡ t *ℤ y → t *ℤ y ≡ (k *ℤ z) +ℤ (pos 0 *ℤ z)
          reached k t z y h = same_from (var 1 ⊗ var 3) (var 0 ⊗ var 2 ⊕ num (pos 0) ⊗ var 2) (k ∷ t ∷ z ∷ y ∷ [])
              (scaled (num (pos 0) ⊖ num (pos 1)) (same (var 0 ⊗ var 2) (var 1 ⊗ var 3) h)) refl

          still : (k t z y : ℤ) → pos 0 <ℤ k → t ≡ pos 0 → k *ℤ z ≡ t *ℤ y → z ≡ pos 0
          still k t z y hk h f = zero_factor k z (pos_nonzero hk) (f ∙ ap (λ r. r *ℤ y) h ∙ zero-*ℤ y)

          to_b : IsInCone q d d (point_of e.b)
          to_b = record {
            i = o.mix.times;
            j = pos 0;
            first = <ℤ_weaken o.mix.some;
            second = omega (arith, linear);
            some = (let k = o.mix.some in omega (arith, linear, k));
            times = o.t;
            positive = by_sign o.t (λ less. absurd (<ℤ_irrefl (<ℤ-≤ℤ_trans less o.mix.second)))
                (λ z. absurd (d.moves (
                  still o.mix.times o.t (shift q x) (shift q (point_of e.b)) o.mix.some z (mix_shift_start o.mix),
                  still o.mix.times o.t (rise q x) (rise q (point_of e.b)) o.mix.some z (mix_rise_start o.mix),
                ))) (λ more. more);
            across = reached o.mix.times o.t (shift q x) (shift q (point_of e.b)) (mix_shift_start o.mix);
            above = reached o.mix.times o.t (rise q x) (rise q (point_of e.b)) (mix_rise_start o.mix);
          }

-- ---- along the ring
place_before : (edges : List Seg) (i : ℕ) (e : Seg) → IsAtPlace edges (suc i) e → (f : Seg) × IsAtPlace edges i f
place_before [] i e is = cc
place_before (f ∷ edges) zero e is = (f, refl)
place_before (f ∷ edges) (suc i) e is = place_before edges i e is

abbrev pub Placed : List Seg → Point → Type 0
Placed edges x = (i : ℕ) × (e : Seg) × IsAtPlace edges i e × (is_on_edge x e ≡ true)

pub some_place : (edges : List Seg) (x : Point) → is_on_edges x edges ≡ true → Placed edges x
some_place [] x on = cc
some_place (e ∷ edges) x on = go (some_place edges x) (is_on_edge x e) refl
  where
    go : (is_on_edges x edges ≡ true → Placed edges x) → (b : Bool) → is_on_edge x e ≡ b → Placed (e ∷ edges) x
    go more true h = (0, e, refl, h)
    go more false h =
        let rest = more (ap (λ b. b || is_on_edges x edges) (sym h) ∙ on) in
        (suc rest.0, rest.1, rest.2, rest.3)

module _ (edges : List Seg) (chained : (i : ℕ) (e f : Seg) → IsAtPlace edges i e → IsAtPlace edges (suc i) f → f.a ≡ e.b)
    (Clean : Point → Type 0)
    (carry : (i : ℕ) (e : Seg) → IsAtPlace edges i e → Clean (point_of e.a) → (x : Point) → is_on_edge x e ≡ true → Clean x)
    (start : (e : Seg) → IsAtPlace edges 0 e → Clean (point_of e.a)) where
  begins_at : (i : ℕ) (e : Seg) → IsAtPlace edges i e → Clean (point_of e.a)
  begins_at zero e is = start e is
  begins_at (suc i) e is =
      let before = place_before edges i e is in
      subst (λ p. Clean (point_of p)) (sym (chained i before.0 e before.1 is))
      (carry i before.0 before.1 (begins_at i before.0 before.1) (point_of before.0.b)
      ((Decides-is_on_segment (point_of before.0.a) (point_of before.0.b) (point_of before.0.b)).1
      (end_on_segment (point_of before.0.a) (point_of before.0.b))))

walk_where : LawFirstMeeting → LawWalk
walk_where first ring area ring_ok shaped part inner start held enters = by_place (some_place (edges_of ring) enters.x enters.on)
  where
    simple : IsSimple (edges_of ring)
    simple = ring_is_simple ring ring_ok.shaped.closed ring_ok.simple

    clean_edge : (i : ℕ) (e : Seg) → IsAtPlace (edges_of ring) i e → location area (point_of e.a) ≢ part → (x : Point)
        → is_on_edge x e ≡ true → location area x ≢ part
    clean_edge i e is begins = along_edge first area shaped part inner e begins (λ v on_v on_area d c. held i e is v on_v on_area d c)

    begins : (i : ℕ) (e : Seg) → IsAtPlace (edges_of ring) i e → location area (point_of e.a) ≢ part
    begins = begins_at (edges_of ring) simple.chained (λ x. location area x ≢ part) clean_edge start

    by_place : Placed (edges_of ring) enters.x → ⊥
    by_place (i, e, is, on) = clean_edge i e is (begins i e is) enters.x on enters.lies

pub walk : LawWalk
walk = walk_where meeting
