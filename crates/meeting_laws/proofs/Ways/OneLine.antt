-- Two segments on one line with a common point inside have another; two points of two segments put both on one line.
use Rattle.std.proofs.Common.{◌≡◌, ◌⊎◌, inl, inr, ℤ, pos, neg_ℤ, Bool, true, false, ap, refl, sym, ◌∙◌}
use Rattle.std.specs.Ordering.{ordering_reverse}
use Rattle.std.specs.declared.cmp.Ordering.{Ordering}
use Rattle.std.specs.declared.cmp.Ordering.TheVariants.{Less, Equal, Greater}
use Rattle.std.proofs.lemmas.Bool.{true≢false}
use Rattle.whole_algebra.proofs.Signs.{by_sign, <ℤ_apart, pos_nonzero}
use Rattle.plane_laws.proofs.Segments.Lines.{on_segment-AtMost, on_segment-from_AtMost, three_on_line}
use Rattle.plane_laws.proofs.Segments.Mixes.{start_on_segment, segment_flip}
use Rattle.plane_laws.proofs.Segments.On.{mix_turn, on_segment_of_same}
use Rattle.plane_laws.proofs.Points.Same.{same_sym, same_trans, Decides-is_same_point}
use Rattle.plane_laws.proofs.Turns.Turns.{turn_swap}
use Rattle.plane_laws.proofs.Points.Order.{compare_points_total, same_compare_points}
use Rattle.plane_laws.specs.Orders.{compare_points, IsBefore}
use Rattle.plane_laws.specs.Plane.{Point, IsSamePoint, IsOnSegment, is_same_point, turn}
use Rattle.plane_laws.proofs.Near.Parted.{turn_ends}
use Rattle.meeting_laws.proofs.Ways.PointsInOrder.{at_most_or, before_at_most, at_most_trans}

-- ---- decided
-- whether two points are the same
pub same_or_not : (p q : Point) → IsSamePoint p q ⊎ (¬ IsSamePoint p q)
same_or_not p q = go (is_same_point p q) refl
  where
    go : (b : Bool) → is_same_point p q ≡ b → IsSamePoint p q ⊎ (¬ IsSamePoint p q)
    go true e = inl ((Decides-is_same_point p q).0 e)
    go false e = inr (λ h. true≢false (sym ((Decides-is_same_point p q).1 h) ∙ e))

-- whether a number is 0
pub zero_or_not : (z : ℤ) → (z ≡ pos 0) ⊎ (¬ (z ≡ pos 0))
zero_or_not z = by_sign z (λ h. inr (<ℤ_apart h)) inl (λ h. inr (pos_nonzero h))

-- ---- another common point
-- a point of both segments that isn't h
pub record Another (c d p h : Point) : Type 0 where
  pub m : Point
  pub on_first : IsOnSegment c d m
  pub on_second : IsOnSegment p h m
  pub apart : ¬ IsSamePoint m h

-- the other way round
swapped : {c d p h : Point} → Another d c p h → Another c d p h
swapped a = record { m = a.m; on_first = segment_flip a.on_first; on_second = a.on_second; apart = a.apart }

-- it may be p, where the segment holds p
at_point : (c d p h : Point) → IsOnSegment c d p → ¬ IsSamePoint p h → Another c d p h
at_point c d p h on apart = record { m = p; on_first = on; on_second = start_on_segment p h; apart = apart }

-- or an end of the segment
at_end : {c d p h : Point} (m : Point) → IsOnSegment c d m → IsOnSegment p h m → ¬ IsSamePoint h m → Another c d p h
at_end m on_first on_second apart = record { m = m; on_first = on_first; on_second = on_second; apart = λ s. apart (same_sym s) }

-- one or the other
at_point_or_end : {A B : Type 0} {c d p h : Point} (m : Point) → A ⊎ B → ¬ IsSamePoint p h → (A → IsOnSegment c d p) → IsOnSegment c d m
    → (B → IsOnSegment p h m) → ¬ IsSamePoint h m → Another c d p h
at_point_or_end {c} {d} {p} {h} m (inl a) not_p on_p on_m within apart = at_point c d p h (on_p a) not_p
at_point_or_end m (inr b) not_p on_p on_m within apart = at_end m on_m (within b) apart

-- h is inside the segment from c to d, which goes ahead; p is on its line, before h
ahead : (c d p h : Point) → IsBefore c d → IsBefore p h → IsOnSegment c d h → ¬ IsSamePoint h c → ¬ IsSamePoint p h → turn c d p ≡ pos 0
    → turn p h c ≡ pos 0 → Another c d p h
ahead c d p h up before on not_c not_p level line =
    let ends = on_segment-AtMost c d h up on in
    at_point_or_end c (at_most_or c p) not_p
    (λ k. on_segment-from_AtMost c d p up level k (at_most_trans p h d (before_at_most p h before) ends.1)) (start_on_segment c d)
    (λ k. on_segment-from_AtMost p h c before line (before_at_most p c k) ends.0) not_c

-- the same with p behind h
behind : (c d p h : Point) → IsBefore c d → IsBefore h p → IsOnSegment c d h → ¬ IsSamePoint h d → ¬ IsSamePoint p h → turn c d p ≡ pos 0
    → turn h p d ≡ pos 0 → Another c d p h
behind c d p h up before on not_d not_p level line =
    let ends = on_segment-AtMost c d h up on in
    at_point_or_end d (at_most_or p d) not_p
    (λ k. on_segment-from_AtMost c d p up level (at_most_trans c h p ends.0 (before_at_most h p before)) k)
    (segment_flip (start_on_segment d c))
    (λ k. segment_flip (on_segment-from_AtMost h p d before line ends.1 (before_at_most d p k))) not_d

-- what is after is before, the other way round
greater_before : (x y : Point) → compare_points x y ≡ Greater → IsBefore y x
greater_before x y e = compare_points_total.antisymm y x ∙ ap ordering_reverse e

-- h is inside the segment from c to d, and p is another point of its line: the segments have a point that isn't h
pub another : (c d p h : Point) → IsOnSegment c d h → ¬ IsSamePoint h c → ¬ IsSamePoint h d → ¬ IsSamePoint p h → turn c d p ≡ pos 0
    → Another c d p h
another c d p h on not_c not_d not_p level = by_way (compare_points c d) refl
  where
    apart : ¬ IsSamePoint c d
    apart s = not_c (same_sym (on_segment_of_same s on))

    level_back : turn d c p ≡ pos 0
    level_back = turn_swap c d p ∙ ap neg_ℤ level

    line : (q r s : Point) → turn c d q ≡ pos 0 → turn c d r ≡ pos 0 → turn c d s ≡ pos 0 → turn q r s ≡ pos 0
    line q r s = three_on_line c d q r s apart

    at_h : turn c d h ≡ pos 0
    at_h = mix_turn on.mix

    up : IsBefore c d → (o : Ordering) → compare_points p h ≡ o → Another c d p h
    up k Less e = ahead c d p h k e on not_c not_p level (line p h c level at_h (turn_ends c d).0)
    up k Equal e = absurd (not_p (same_compare_points p h e))
    up k Greater e = behind c d p h k (greater_before p h e) on not_d not_p level (line h p d at_h level (turn_ends c d).1)

    down : IsBefore d c → (o : Ordering) → compare_points p h ≡ o → Another c d p h
    down k Less e = swapped (ahead d c p h k e (segment_flip on) not_d not_p level_back (line p h d level at_h (turn_ends c d).1))
    down k Equal e = absurd (not_p (same_compare_points p h e))
    down k Greater e = swapped (behind d c p h k (greater_before p h e) (segment_flip on) not_c not_p level_back
        (line h p c at_h level (turn_ends c d).0))

    by_way : (o : Ordering) → compare_points c d ≡ o → Another c d p h
    by_way Less e = up e (compare_points p h) refl
    by_way Equal e = absurd (apart (same_compare_points c d e))
    by_way Greater e = down (greater_before c d e) (compare_points p h) refl

-- ---- one line
-- segments with two different common points lie on one line
pub one_line : (c d e f p q : Point) → ¬ IsSamePoint p q → IsOnSegment c d p → IsOnSegment c d q → IsOnSegment e f p → IsOnSegment e f q
    → (turn c d e ≡ pos 0) × (turn c d f ≡ pos 0)
one_line c d e f p q apart cd_p cd_q ef_p ef_q = (of_end e (turn_ends e f).0, of_end f (turn_ends e f).1)
  where
    moving : (u v : Point) → IsOnSegment u v p → IsOnSegment u v q → ¬ IsSamePoint u v
    moving u v on_p on_q s = apart (same_trans (same_sym (on_segment_of_same s on_p)) (on_segment_of_same s on_q))

    through : (u v x : Point) → IsOnSegment u v p → IsOnSegment u v q → turn u v x ≡ pos 0 → turn p q x ≡ pos 0
    through u v x on_p on_q z = three_on_line u v p q x (moving u v on_p on_q) (mix_turn on_p.mix) (mix_turn on_q.mix) z

    of_end : (x : Point) → turn e f x ≡ pos 0 → turn c d x ≡ pos 0
    of_end x z = three_on_line p q c d x apart (through c d c cd_p cd_q (turn_ends c d).0) (through c d d cd_p cd_q (turn_ends c d).1)
        (through e f x ef_p ef_q z)
