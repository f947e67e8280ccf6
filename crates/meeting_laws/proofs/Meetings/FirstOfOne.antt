-- The first meeting of a segment with one edge.
use Rattle.std.proofs.Common.{◌≡◌, ◌⊎◌, inl, inr, ℤ, pos, ◌-ℤ◌, ◌*ℤ◌, neg_ℤ, ◌<ℤ◌, ◌≤ℤ◌, Bool, true, false, [], ◌∷◌, ap, refl, sym}
use Rattle.std.proofs.Common.{◌∙◌, subst, arith}
use Rattle.whole_algebra.proofs.Laws.{linear}
use Rattle.whole_algebra.proofs.Signs.{by_sign, <ℤ_weaken, zero_factor, pos_nonzero}
use Rattle.whole_algebra.proofs.Polynomials.{var, num, minus, ◌⊖◌, ◌⊗◌}
use Rattle.whole_algebra.proofs.Certificates.{positive, at_most, same, same_from, less_by, vanishing, less, impossible_by, scaled}
use Rattle.whole_algebra.proofs.Certificates.{◌⊞◌, ◌⊠◌}
use lib.Signed.{<ℤ_irrefl, <ℤ-≤ℤ_trans}
use Rattle.ring_laws.proofs.Germs.Areas.{segment_within}
use Rattle.plane_laws.specs.Plane.{IsAt, Point, IsOnSegment, IsSamePoint, is_on_segment, is_same_point, turn}
use Rattle.plane_laws.proofs.Segments.Mixes.{start_on_segment, end_on_segment, segment_flip, segment_same}
use Rattle.plane_laws.proofs.Segments.On.{mix_turn, Decides-is_on_segment, on_segment_of_same}
use Rattle.plane_laws.proofs.Segments.Lines.{AtMost, on_segment-AtMost, on_segment-from_AtMost, three_on_line}
use Rattle.plane_laws.proofs.Points.Order.{compare_points_total, same_compare_points}
use Rattle.plane_laws.specs.Orders.{compare_points, IsBefore}
use Rattle.std.specs.Ordering.{ordering_reverse}
use Rattle.std.specs.declared.cmp.Ordering.{Ordering}
use Rattle.std.specs.declared.cmp.Ordering.TheVariants.{Less, Equal, Greater}
use Rattle.plane_laws.proofs.Turns.Turns.{turn_swap}
use Rattle.plane_laws.proofs.Points.Same.{same_refl, same_sym, Decides-is_same_point}
use Rattle.plane_exact.specs.Places.{point_of}
use Rattle.point_set.specs.Rings.{is_on_edge, is_on_edges}
use Rattle.ring_laws.proofs.Germs.Edges.{on_true}
use Rattle.plane_laws.proofs.Near.Parted.{turn_ends}
use Rattle.std.proofs.lemmas.Bool.{true≢false, false_from_ne_true, or_left}
use Rattle.meeting_laws.specs.Meetings.{IsFirstMeeting, LawFirstOfOne, LawFirstMeeting}
use Rattle.meeting_laws.proofs.Meetings.FirstMeeting.{first_meeting, of_one}
use Rattle.meeting_laws.proofs.Ways.PointsInOrder.{at_most_or, before_at_most, not_before, both_at_most, before_then, at_most_trans}
use Rattle.meeting_laws.proofs.Ways.PointsInOrder.{at_most_before}
use Rattle.plane_laws.proofs.Segments.Crossings.{apart_left, apart_right, crossing_w, on_first, on_second, only}

-- nothing of the way from p to t is between c and d, or q is the first that is
abbrev pub Nearest : Point → Point → Point → Point → Type 0
Nearest c d p t =
    ((m : Point) → IsOnSegment p t m → ¬ IsOnSegment c d m)
    ⊎ ((q : Point) × IsOnSegment p t q × IsOnSegment c d q × ((m : Point) → IsOnSegment p q m → IsOnSegment c d m → IsSamePoint m q))

turned : {c d p t : Point} → Nearest d c p t → Nearest c d p t
turned (inl none) = inl (λ m on held. none m on (segment_flip held))
turned (inr (q, on, held, first)) = inr (q, on, segment_flip held, λ m within on_m. first m within (segment_flip on_m))

-- the lines cross, and p is to the right of the way from c to d or t to its left
crossed : (c d p t : Point) → pos 0 <ℤ ((turn c d t *ℤ p.w) -ℤ (turn c d p *ℤ t.w)) → Nearest c d p t
crossed c d p t some = by_sign (turn c d p) low low_level high
  where
    w : ℤ
    w = (turn c d t *ℤ p.w) -ℤ (turn c d p *ℤ t.w)

    q : Point
    q = record { x = (turn c d t *ℤ p.x) -ℤ (turn c d p *ℤ t.x); y = (turn c d t *ℤ p.y) -ℤ (turn c d p *ℤ t.y); w = w; heavy = some }

    at : IsAt q ((turn c d t *ℤ p.x) -ℤ (turn c d p *ℤ t.x)) ((turn c d t *ℤ p.y) -ℤ (turn c d p *ℤ t.y))
        ((turn c d t *ℤ p.w) -ℤ (turn c d p *ℤ t.w))
    at = record { across = refl; above = refl }

    found : turn c d p ≤ℤ pos 0 → pos 0 ≤ℤ turn c d t → turn p t d ≤ℤ pos 0 → pos 0 ≤ℤ turn p t c → Nearest c d p t
    found h k l n = inr (
      q,
      on_first p t c d q at some h k,
      on_second p t c d q at some l n,
      λ m within held. only p t c d q at some m (within_way (on_first p t c d q at some h k) within) held,
    )
      where
        within_way : {p t q m : Point} → IsOnSegment p t q → IsOnSegment p q m → IsOnSegment p t m
        within_way {p} {t} on within = segment_within (start_on_segment p t) on within

    difference : (turn p t c *ℤ d.w) -ℤ (turn p t d *ℤ c.w) ≡ w
    difference = sym (crossing_w p t c d)

    -- both ends of the edge on one side of the way
    by_ends : turn c d p ≤ℤ pos 0 → pos 0 ≤ℤ turn c d t → Nearest c d p t
    by_ends h k = by_sign (turn p t c) first_right first_on first_left
      where
        no_second : turn p t c ≤ℤ pos 0 → turn p t d <ℤ pos 0
        no_second l = by_sign (turn p t d) (λ r. r)
            (λ z. absurd (impossible_by (turn p t c ∷ turn p t d ∷ d.w ∷ c.w ∷ w ∷ [])
            (positive (var 4) some ⊞ same (var 0 ⊗ var 2 ⊖ var 1 ⊗ var 3) (var 4) difference ⊞ at_most (var 0) (num (pos 0)) l
            ⊠ positive (var 2) d.heavy ⊞ scaled (var 3) (vanishing (var 1) z)) refl))
            (λ r. absurd (impossible_by (turn p t c ∷ turn p t d ∷ d.w ∷ c.w ∷ w ∷ [])
            (positive (var 4) some ⊞ same (var 0 ⊗ var 2 ⊖ var 1 ⊗ var 3) (var 4) difference ⊞ at_most (var 0) (num (pos 0)) l
            ⊠ positive (var 2) d.heavy ⊞ positive (var 1) r ⊠ positive (var 3) c.heavy) refl))

        first_right : turn p t c <ℤ pos 0 → Nearest c d p t
        first_right l = inl (λ m on held. apart_right p t c d m l (no_second (<ℤ_weaken l)) held (mix_turn on.mix))

        first_on : turn p t c ≡ pos 0 → Nearest c d p t
        first_on z = found h k (<ℤ_weaken (no_second (subst (λ x. x ≤ℤ pos 0) (sym z) (omega (arith, linear)))))
            (subst (λ x. pos 0 ≤ℤ x) (sym z) (omega (arith, linear)))

        first_left : pos 0 <ℤ turn p t c → Nearest c d p t
        first_left l = by_sign (turn p t d) (λ r. found h k (<ℤ_weaken r) (<ℤ_weaken l))
            (λ z. found h k (subst (λ x. x ≤ℤ pos 0) (sym z) (omega (arith, linear))) (<ℤ_weaken l))
            (λ r. inl (λ m on held. apart_left p t c d m l r held (mix_turn on.mix)))

    at_t : turn c d p ≤ℤ pos 0 → Nearest c d p t
    at_t h = by_sign (turn c d t) (both_right h) (λ z. by_ends h (subst (λ x. pos 0 ≤ℤ x) (sym z) (omega (arith, linear))))
        (λ r. by_ends h (<ℤ_weaken r))
      where
        both_right : turn c d p ≤ℤ pos 0 → turn c d t <ℤ pos 0 → Nearest c d p t
        both_right h r = by_sign (turn c d p)
            (λ l. inl (λ m on held. apart_right c d p t m l r on (mix_turn held.mix)))
            (λ z. absurd (impossible_by (turn c d t ∷ turn c d p ∷ p.w ∷ t.w ∷ [])
            (positive (var 0 ⊗ var 2 ⊖ var 1 ⊗ var 3) some ⊞ less (var 0) (num (pos 0)) r ⊠ positive (var 2) p.heavy
            ⊞ scaled (var 3) (vanishing (var 1) z)) refl))
            (λ l. absurd (<ℤ_irrefl (<ℤ-≤ℤ_trans l h)))

    low : turn c d p <ℤ pos 0 → Nearest c d p t
    low l = at_t (<ℤ_weaken l)

    low_level : turn c d p ≡ pos 0 → Nearest c d p t
    low_level z = at_t (subst (λ x. x ≤ℤ pos 0) (sym z) (omega (arith, linear)))

    high : pos 0 <ℤ turn c d p → Nearest c d p t
    high l = inl (λ m on held. apart_left c d p t m l more on (mix_turn held.mix))
      where
        more : pos 0 <ℤ turn c d t
        more = by_sign (turn c d t)
            (λ r. absurd (impossible_by (turn c d t ∷ turn c d p ∷ p.w ∷ t.w ∷ [])
            (positive (var 0 ⊗ var 2 ⊖ var 1 ⊗ var 3) some ⊞ less (var 0) (num (pos 0)) r ⊠ positive (var 2) p.heavy ⊞ positive (var 1) l
            ⊠ positive (var 3) t.heavy) refl))
            (λ z. absurd (impossible_by (turn c d t ∷ turn c d p ∷ p.w ∷ t.w ∷ [])
            (positive (var 0 ⊗ var 2 ⊖ var 1 ⊗ var 3) some ⊞ scaled (minus (var 2)) (vanishing (var 0) z) ⊞ positive (var 1) l
            ⊠ positive (var 3) t.heavy) refl))
            (λ r. r)

-- ---- three points of one line
-- the edge from c to d, c before d, on the line of the way
module _ (c d p t : Point) (up : IsBefore c d) (at_p : turn c d p ≡ pos 0) (off : ¬ IsOnSegment c d p) where
  -- between its ends
  parts : (m : Point) → IsOnSegment c d m → AtMost c m × AtMost m d
  parts m on = on_segment-AtMost c d m up on

  -- the way goes ahead
  ahead_level : IsBefore p t → turn p t c ≡ pos 0 → Nearest c d p t
  ahead_level before level = go (at_most_or c p) (at_most_or c t)
    where
      way : (m : Point) → IsOnSegment p t m → AtMost p m × AtMost m t
      way m on = on_segment-AtMost p t m before on

      behind : AtMost c p → (m : Point) → IsOnSegment p t m → ¬ IsOnSegment c d m
      behind h m on held = off (on_segment-from_AtMost c d p up at_p h (at_most_trans p m d (way m on).0 (parts m held).1))

      go : AtMost c p ⊎ IsBefore p c → AtMost c t ⊎ IsBefore t c → Nearest c d p t
      go (inl h) s = inl (behind h)
      go (inr h) (inl k) = inr (
        c,
        on_segment-from_AtMost p t c before level (before_at_most p c h) k,
        start_on_segment c d,
        λ m within held. both_at_most m c (on_segment-AtMost p c m h within).1 (parts m held).0,
      )
      go (inr h) (inr k) = inl (λ m on held. not_before c m (parts m held).0 (at_most_before m t c (way m on).1 k))

  -- the way goes back
  back_level : IsBefore t p → turn t p d ≡ pos 0 → Nearest c d p t
  back_level before level = go (at_most_or p d) (at_most_or t d)
    where
      way : (m : Point) → IsOnSegment p t m → AtMost t m × AtMost m p
      way m on = on_segment-AtMost t p m before (segment_flip on)

      beyond : AtMost p d → (m : Point) → IsOnSegment p t m → ¬ IsOnSegment c d m
      beyond h m on held = off (on_segment-from_AtMost c d p up at_p (at_most_trans c m p (parts m held).0 (way m on).1) h)

      go : AtMost p d ⊎ IsBefore d p → AtMost t d ⊎ IsBefore d t → Nearest c d p t
      go (inl h) s = inl (beyond h)
      go (inr h) (inl k) = inr (
        d,
        segment_flip (on_segment-from_AtMost t p d before level k (before_at_most d p h)),
        end_on_segment c d,
        λ m within held. both_at_most m d (parts m held).1 (on_segment-AtMost d p m h (segment_flip within)).0,
      )
      go (inr h) (inr k) = inl (λ m on held. not_before m d (parts m held).1 (before_then d t m k (way m on).0))

-- ---- an edge that is one point
one_point : (c d p t : Point) → IsSamePoint c d → (b : Bool) → is_on_segment p t c ≡ b → Nearest c d p t
one_point c d p t same true h = inr (
  c,
  (Decides-is_on_segment p t c).0 h,
  start_on_segment c d,
  λ m within held. same_sym (on_segment_of_same same held),
)
one_point c d p t same false h = inl (λ m on held. true≢false
    (sym ((Decides-is_on_segment p t c).1 (segment_same (same_refl p) (same_refl t) (same_sym (on_segment_of_same same held)) on)) ∙ h))

-- ---- all cases
level_edge : (c d p t : Point) → turn p t c ≡ pos 0 → turn p t d ≡ pos 0 → turn c d p ≡ pos 0 → ¬ IsOnSegment c d p → Nearest c d p t
level_edge c d p t level_c level_d at_p off = by_way (compare_points p t) refl (compare_points c d) refl
  where
    none : IsSamePoint p t → (m : Point) → IsOnSegment p t m → ¬ IsOnSegment c d m
    none same m on held = off (segment_same (same_refl c) (same_refl d) (same_sym (on_segment_of_same same on)) held)

    back : (x : Point) → turn p t x ≡ pos 0 → turn t p x ≡ pos 0
    back x h = turn_swap p t x ∙ ap neg_ℤ h

    at_p' : turn d c p ≡ pos 0
    at_p' = turn_swap c d p ∙ ap neg_ℤ at_p

    off' : ¬ IsOnSegment d c p
    off' on = off (segment_flip on)

    flip_before : (x y : Point) → compare_points x y ≡ Greater → IsBefore y x
    flip_before x y e = compare_points_total.antisymm y x ∙ ap ordering_reverse e

    by_way : (o : Ordering) → compare_points p t ≡ o → (r : Ordering) → compare_points c d ≡ r → Nearest c d p t
    by_way Equal e r f = inl (none (same_compare_points p t e))
    by_way Less e Less f = ahead_level c d p t f at_p off e level_c
    by_way Less e Greater f = turned (ahead_level d c p t (flip_before c d f) at_p' off' e level_d)
    by_way Less e Equal f = one_point c d p t (same_compare_points c d f) (is_on_segment p t c) refl
    by_way Greater e Less f = back_level c d p t f at_p off (flip_before p t e) (back d level_d)
    by_way Greater e Greater f = turned (back_level d c p t (flip_before c d f) at_p' off' (flip_before p t e) (back c level_c))
    by_way Greater e Equal f = one_point c d p t (same_compare_points c d f) (is_on_segment p t c) refl

nearest : (c d p t : Point) → ¬ IsOnSegment c d p → Nearest c d p t
nearest c d p t off = by_sign ((turn c d t *ℤ p.w) -ℤ (turn c d p *ℤ t.w)) against parallel (crossed c d p t)
  where
    against : ((turn c d t *ℤ p.w) -ℤ (turn c d p *ℤ t.w)) <ℤ pos 0 → Nearest c d p t
    against h = turned (crossed d c p t (less_by (num (pos 0)) (var 4 ⊗ var 2 ⊖ var 5 ⊗ var 3)
        (turn c d t ∷ turn c d p ∷ p.w ∷ t.w ∷ turn d c t ∷ turn d c p ∷ [])
        (λ denied. denied ⊞ less (var 0 ⊗ var 2 ⊖ var 1 ⊗ var 3) (num (pos 0)) h
        ⊞ scaled (var 2) (same (var 4) (minus (var 0)) (turn_swap c d t))
        ⊞ scaled (minus (var 3)) (same (var 5) (minus (var 1)) (turn_swap c d p))) refl))

    parallel : (turn c d t *ℤ p.w) -ℤ (turn c d p *ℤ t.w) ≡ pos 0 → Nearest c d p t
    parallel z = by_sign (turn c d p) (λ h. inl (λ m on held. apart_right c d p t m h (below h) on (mix_turn held.mix))) level
        (λ h. inl (λ m on held. apart_left c d p t m h (above h) on (mix_turn held.mix)))
      where
        above : pos 0 <ℤ turn c d p → pos 0 <ℤ turn c d t
        above h = by_sign (turn c d t)
            (λ r. absurd (impossible_by (turn c d t ∷ turn c d p ∷ p.w ∷ t.w ∷ [])
            (less (var 0) (num (pos 0)) r ⊠ positive (var 2) p.heavy ⊞ positive (var 1) h ⊠ positive (var 3) t.heavy
            ⊞ vanishing (var 0 ⊗ var 2 ⊖ var 1 ⊗ var 3) z) refl))
            (λ r. absurd (impossible_by (turn c d t ∷ turn c d p ∷ p.w ∷ t.w ∷ [])
            (scaled (minus (var 2)) (vanishing (var 0) r) ⊞ positive (var 1) h ⊠ positive (var 3) t.heavy
            ⊞ vanishing (var 0 ⊗ var 2 ⊖ var 1 ⊗ var 3) z) refl))
            (λ r. r)

        below : turn c d p <ℤ pos 0 → turn c d t <ℤ pos 0
        below h = by_sign (turn c d t)
            (λ r. r)
            (λ r. absurd (impossible_by (turn c d t ∷ turn c d p ∷ p.w ∷ t.w ∷ [])
            (scaled (var 2) (vanishing (var 0) r) ⊞ less (var 1) (num (pos 0)) h ⊠ positive (var 3) t.heavy
            ⊞ scaled (num (pos 0) ⊖ num (pos 1)) (vanishing (var 0 ⊗ var 2 ⊖ var 1 ⊗ var 3) z)) refl))
            (λ r. absurd (impossible_by (turn c d t ∷ turn c d p ∷ p.w ∷ t.w ∷ [])
            (positive (var 0) r ⊠ positive (var 2) p.heavy ⊞ less (var 1) (num (pos 0)) h ⊠ positive (var 3) t.heavy
            ⊞ scaled (num (pos 0) ⊖ num (pos 1)) (vanishing (var 0 ⊗ var 2 ⊖ var 1 ⊗ var 3) z)) refl))

        level : turn c d p ≡ pos 0 → Nearest c d p t
        level h = by_points (is_same_point c d) refl
          where
            at_t : turn c d t ≡ pos 0
            at_t = zero_factor p.w (turn c d t) (pos_nonzero p.heavy)
                (same_from (var 2 ⊗ var 0) (num (pos 0)) (turn c d t ∷ turn c d p ∷ p.w ∷ t.w ∷ [])
                (vanishing (var 0 ⊗ var 2 ⊖ var 1 ⊗ var 3) z ⊞ scaled (var 3) (vanishing (var 1) h)) refl)

            by_points : (b : Bool) → is_same_point c d ≡ b → Nearest c d p t
            by_points false e =
                let apart : ¬ IsSamePoint c d = λ same. true≢false (sym ((Decides-is_same_point c d).1 same) ∙ e) in
                level_edge c d p t (three_on_line c d p t c apart h at_t (turn_ends c d).0)
                (three_on_line c d p t d apart h at_t (turn_ends c d).1) h off
            by_points true e = one_point c d p t ((Decides-is_same_point c d).0 e) (is_on_segment p t c) refl

pub first_of_one : LawFirstOfOne
first_of_one e p t off = go (nearest (point_of e.a) (point_of e.b) p t
    (λ on. true≢false (sym ((Decides-is_on_segment (point_of e.a) (point_of e.b) p).1 on) ∙ off)))
  where
    here : (m : Point) → IsOnSegment (point_of e.a) (point_of e.b) m → is_on_edges m (e ∷ []) ≡ true
    here m on = or_left (is_on_edge m e) (is_on_edges m []) ((Decides-is_on_segment (point_of e.a) (point_of e.b) m).1 on)

    go : Nearest (point_of e.a) (point_of e.b) p t → ((m : Point) → IsOnSegment p t m → is_on_edge m e ≡ false)
        ⊎ ((q : Point) × IsFirstMeeting (e ∷ []) p t q)
    go (inl none) = inl (λ m on. false_from_ne_true (is_on_edge m e) (λ held. none m on (on_true held)))
    go (inr (q, on, held, first)) = inr (
      q,
      record {
        on_way = on;
        on = here q held;
        first = λ m within on_m. first m within
            (on_true (of_one e m on_m));
      },
    )

-- the first meeting with several edges
pub meeting : LawFirstMeeting
meeting = first_meeting first_of_one
