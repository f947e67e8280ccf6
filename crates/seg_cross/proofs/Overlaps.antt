-- The common points of two segments of one line, by the order of their ends.
use Rattle.std.proofs.Common.{◌≡◌, ◌≢◌, ◌⊎◌, inl, inr, false, pos, ◌+ℤ◌, ◌*ℤ◌, Ordering, Less, Equal, Greater, refl, sym, ◌∙◌, ap, subst}
use Rattle.std.proofs.Common.{subst₂}
use Rattle.std.specs.Ordering.{is_gt, ordering_reverse}
use Rattle.std.proofs.lemmas.Cmp.{upto, tied_itself}
use lib.IntN.{*ℤ-zero}
use Rattle.whole_algebra.proofs.Laws.{*ℤ_one}
use Rattle.whole_algebra.proofs.Signs.{zero_factor, pos_nonzero}
use Rattle.plane_laws.specs.Orders.{compare_points, IsBefore}
use Rattle.plane_exact.specs.Places.{point_of}
use Rattle.plane_laws.specs.Plane.{Point, IsSamePoint, IsOnSegment, turn}
use Rattle.plane_exact.specs.declared.point.Pt.{Pt}
use Rattle.plane_exact.specs.declared.point.Seg.{Seg}
use Rattle.plane_laws.proofs.Segments.Lines.{AtMost, on_segment-AtMost, on_segment-from_AtMost, three_on_line}
use Rattle.plane_laws.proofs.Segments.Mixes.{segment_flip, start_on_segment, end_on_segment}
use Rattle.plane_laws.proofs.Segments.On.{mix_turn}
use Rattle.plane_laws.proofs.Points.Order.{compare_points_total, compare_points_same, same_compare_points}
use Rattle.plane_laws.proofs.Segments.Onto.{turn-mix}
use Rattle.seg_cross.specs.Meets.{IsOn, IsCommon, IsOnlyCommon, IsOverlap, AreOnOneLine}

-- ---- the order of points
not_greater : (o : Ordering) → ¬ (o ≡ Greater) → is_gt o ≡ false
not_greater Less n = refl
not_greater Equal n = refl
not_greater Greater n = absurd (n refl)

is_not_greater : (o : Ordering) → is_gt o ≡ false → ¬ (o ≡ Greater)
is_not_greater Less e h = cc
is_not_greater Equal e h = cc
is_not_greater Greater e h = cc

AtMost-trans : (p q r : Point) → AtMost p q → AtMost q r → AtMost p r
AtMost-trans p q r h k =
    is_not_greater (compare_points p r)
    (upto compare_points_total p q r (not_greater (compare_points p q) h) (not_greater (compare_points q r) k))

AtMost-refl : (p : Point) → AtMost p p
AtMost-refl p e = clash (sym (tied_itself compare_points_total p) ∙ e)
  where
    clash : Equal ≡ Greater → ⊥
    clash h = cc

AtMost-from_not_before : (p q : Point) → ¬ IsBefore q p → AtMost p q
AtMost-from_not_before p q n e = n (compare_points_total.antisymm q p ∙ ap ordering_reverse e)

AtMost-from_before : (p q : Point) → IsBefore p q → AtMost p q
AtMost-from_before p q h e = clash (sym h ∙ e)
  where
    clash : Less ≡ Greater → ⊥
    clash k = cc

decide_before : (p q : Point) → IsBefore p q ⊎ (¬ IsBefore p q)
decide_before p q = go (compare_points p q) refl
  where
    go : (o : Ordering) → compare_points p q ≡ o → IsBefore p q ⊎ (¬ IsBefore p q)
    go Less e = inl e
    go Equal e = inr (λ h. equal_less (sym e ∙ h))
      where
        equal_less : Equal ≡ Less → ⊥
        equal_less k = cc
    go Greater e = inr (λ h. greater_less (sym e ∙ h))
      where
        greater_less : Greater ≡ Less → ⊥
        greater_less k = cc

-- at most each other: the same point
same_from_AtMost : (p q : Point) → AtMost p q → AtMost q p → IsSamePoint p q
same_from_AtMost p q h k = go (compare_points p q) refl
  where
    go : (o : Ordering) → compare_points p q ≡ o → IsSamePoint p q
    go Less e = absurd (k (compare_points_total.antisymm q p ∙ ap ordering_reverse e))
    go Equal e = same_compare_points p q e
    go Greater e = absurd (h e)

-- not before each other and not the same: after
before_from_apart : (p q : Point) → ¬ IsBefore p q → ¬ IsSamePoint p q → IsBefore q p
before_from_apart p q n apart = go (compare_points p q) refl
  where
    go : (o : Ordering) → compare_points p q ≡ o → IsBefore q p
    go Less e = absurd (n e)
    go Equal e = absurd (apart (same_compare_points p q e))
    go Greater e = compare_points_total.antisymm q p ∙ ap ordering_reverse e

-- positions at one point are one position
pub same_position : (p q : Pt) → IsSamePoint (point_of p) (point_of q) → p ≡ q
same_position p q s =
    let ex : p.x ≡ q.x = sym (*ℤ_one p.x) ∙ s.across ∙ *ℤ_one q.x in
    let ey : p.y ≡ q.y = sym (*ℤ_one p.y) ∙ s.above ∙ *ℤ_one q.y in
    λ i. record { x = ex i; y = ey i }

-- positions of which neither is before the other are one
pub one_position : (p q : Pt) → ¬ IsBefore (point_of p) (point_of q) → ¬ IsBefore (point_of q) (point_of p) → p ≡ q
one_position p q n m =
    same_position p q
    (same_from_AtMost (point_of p) (point_of q) (AtMost-from_not_before (point_of p) (point_of q) m)
    (AtMost-from_not_before (point_of q) (point_of p) n))

-- ---- the earlier and the later of two positions
-- z is x where p is before q, and else y
pub record IsByOrder (p q x y z : Pt) : Type 0 where
  pub first : IsBefore (point_of p) (point_of q) → z ≡ x
  pub second : ¬ IsBefore (point_of p) (point_of q) → z ≡ y

abbrev pub IsEarlier : Pt → Pt → Pt → Type 0
IsEarlier p q low = IsByOrder p q p q low

abbrev pub IsLater : Pt → Pt → Pt → Type 0
IsLater p q high = IsByOrder p q q p high

-- what holds of x and of y, each where it is taken, holds of z
chosen_has :
    (P : Pt → Type 0) (p q x y z : Pt) → IsByOrder p q x y z → (IsBefore (point_of p) (point_of q) → P x)
    → (¬ IsBefore (point_of p) (point_of q) → P y) → P z
chosen_has P p q x y z e hx hy = go (decide_before (point_of p) (point_of q))
  where
    go : IsBefore (point_of p) (point_of q) ⊎ (¬ IsBefore (point_of p) (point_of q)) → P z
    go (inl h) = subst P (sym (e.first h)) (hx h)
    go (inr n) = subst P (sym (e.second n)) (hy n)

-- what holds of both holds of either
earlier_has : (P : Pt → Type 0) (p q low : Pt) → IsEarlier p q low → P p → P q → P low
earlier_has P p q low e hp hq = chosen_has P p q p q low e (λ _. hp) (λ _. hq)

later_has : (P : Pt → Type 0) (p q high : Pt) → IsLater p q high → P p → P q → P high
later_has P p q high e hp hq = chosen_has P p q q p high e (λ _. hq) (λ _. hp)

-- neither is before the earlier one
earlier_bounds : (p q low : Pt) → IsEarlier p q low → AtMost (point_of low) (point_of p) × AtMost (point_of low) (point_of q)
earlier_bounds p q low e =
    chosen_has (λ (z : Pt). AtMost (point_of z) (point_of p) × AtMost (point_of z) (point_of q)) p q p q low e
    (λ h. (AtMost-refl (point_of p), AtMost-from_before (point_of p) (point_of q) h))
    (λ n. (AtMost-from_not_before (point_of q) (point_of p) n, AtMost-refl (point_of q)))

-- the later one isn't before either
later_bounds : (p q high : Pt) → IsLater p q high → AtMost (point_of p) (point_of high) × AtMost (point_of q) (point_of high)
later_bounds p q high e =
    chosen_has (λ (z : Pt). AtMost (point_of p) (point_of z) × AtMost (point_of q) (point_of z)) p q q p high e
    (λ h. (AtMost-from_before (point_of p) (point_of q) h, AtMost-refl (point_of q)))
    (λ n. (AtMost-refl (point_of p), AtMost-from_not_before (point_of q) (point_of p) n))

-- ---- the later beginning and the earlier end of two segments
pub record AreEnds (s t : Seg) (s_low s_high t_low t_high low high : Pt) : Type 0 where
  pub s_begins : IsEarlier s.a s.b s_low
  pub s_ends : IsLater s.a s.b s_high
  pub t_begins : IsEarlier t.a t.b t_low
  pub t_ends : IsLater t.a t.b t_high
  pub begins : IsLater s_low t_low low
  pub ends : IsEarlier s_high t_high high

-- what holds of all ends holds of them
pub ends_have :
    (P : Pt → Type 0) (s t : Seg) (s_low s_high t_low t_high low high : Pt) → AreEnds s t s_low s_high t_low t_high low high
    → P s.a → P s.b → P t.a → P t.b → P low × P high
ends_have P s t s_low s_high t_low t_high low high e s_a s_b t_a t_b = (
  later_has P s_low t_low low e.begins (earlier_has P s.a s.b s_low e.s_begins s_a s_b) (earlier_has P t.a t.b t_low e.t_begins t_a t_b),
  earlier_has P s_high t_high high e.ends (later_has P s.a s.b s_high e.s_ends s_a s_b) (later_has P t.a t.b t_high e.t_ends t_a t_b),
)

-- ---- a segment with its ends in order
record Ordered (s : Seg) (low high : Pt) : Type 0 where
  ahead : IsBefore (point_of low) (point_of high)
  onto : (p : Point) → IsOn s p → IsOnSegment (point_of low) (point_of high) p
  back : (p : Point) → IsOnSegment (point_of low) (point_of high) p → IsOn s p

ordered : (s : Seg) (low high : Pt) → s.a ≢ s.b → IsEarlier s.a s.b low → IsLater s.a s.b high → Ordered s low high
ordered s low high apart e f = go (decide_before (point_of s.a) (point_of s.b))
  where
    go : IsBefore (point_of s.a) (point_of s.b) ⊎ (¬ IsBefore (point_of s.a) (point_of s.b)) → Ordered s low high
    go (inl h) = subst₂ (Ordered s) (sym (e.first h)) (sym (f.first h)) (record { ahead = h; onto = λ p on. on; back = λ p on. on })
    go (inr n) =
        subst₂ (Ordered s) (sym (e.second n)) (sym (f.second n))
        (record {
          ahead = before_from_apart (point_of s.a) (point_of s.b) n
              (λ k. apart (same_position s.a s.b k));
          onto = λ p on. segment_flip on;
          back = λ p on. segment_flip on;
        })

-- a segment between two points of a line is on the line
line_mix : (a b c d p : Point) → turn a b c ≡ pos 0 → turn a b d ≡ pos 0 → IsOnSegment c d p → turn a b p ≡ pos 0
line_mix a b c d p hc hd on =
    let m = on.mix in
    zero_factor m.times (turn a b p) (pos_nonzero m.some)
    (turn-mix c d p on.s on.t m a b ∙ (λ i. on.s *ℤ hc i +ℤ on.t *ℤ hd i) ∙ (λ i. *ℤ-zero on.s i +ℤ *ℤ-zero on.t i))

-- ---- two segments of one line, and what lies between the later beginning and the earlier end
module _ (s t : Seg) (s_low s_high t_low t_high low high : Pt) (e : AreEnds s t s_low s_high t_low t_high low high)
    (s_apart : s.a ≢ s.b) (t_apart : t.a ≢ t.b) (line : AreOnOneLine s t) where
  abbrev on_line : Pt → Type 0
  on_line p = turn (point_of s.a) (point_of s.b) (point_of p) ≡ pos 0

  first_ordered : Ordered s s_low s_high
  first_ordered = ordered s s_low s_high s_apart e.s_begins e.s_ends

  second_ordered : Ordered t t_low t_high
  second_ordered = ordered t t_low t_high t_apart e.t_begins e.t_ends

  s_low_line : on_line s_low
  s_low_line = mix_turn (first_ordered.back (point_of s_low) (start_on_segment (point_of s_low) (point_of s_high))).mix

  s_high_line : on_line s_high
  s_high_line = mix_turn (first_ordered.back (point_of s_high) (end_on_segment (point_of s_low) (point_of s_high))).mix

  second_line : (p : Point) → IsOn t p → turn (point_of s.a) (point_of s.b) p ≡ pos 0
  second_line p on = line_mix (point_of s.a) (point_of s.b) (point_of t.a) (point_of t.b) p line.first line.second on

  t_low_line : on_line t_low
  t_low_line = second_line (point_of t_low) (second_ordered.back (point_of t_low) (start_on_segment (point_of t_low) (point_of t_high)))

  t_high_line : on_line t_high
  t_high_line = second_line (point_of t_high) (second_ordered.back (point_of t_high) (end_on_segment (point_of t_low) (point_of t_high)))

  low_line : on_line low
  low_line = later_has on_line s_low t_low low e.begins s_low_line t_low_line

  high_line : on_line high
  high_line = earlier_has on_line s_high t_high high e.ends s_high_line t_high_line

  one_line :
      (p q r : Point) → turn (point_of s.a) (point_of s.b) p ≡ pos 0 → turn (point_of s.a) (point_of s.b) q ≡ pos 0
      → turn (point_of s.a) (point_of s.b) r ≡ pos 0 → turn p q r ≡ pos 0
  one_line p q r = three_on_line (point_of s.a) (point_of s.b) p q r (λ k. s_apart (same_position s.a s.b k))

  pub range_of : (p : Point) → IsCommon s t p → AtMost (point_of low) p × AtMost p (point_of high)
  range_of p both =
      let first = on_segment-AtMost (point_of s_low) (point_of s_high) p first_ordered.ahead (first_ordered.onto p both.first) in
      let second = on_segment-AtMost (point_of t_low) (point_of t_high) p second_ordered.ahead (second_ordered.onto p both.second) in (
        later_has (λ (z : Pt). AtMost (point_of z) p) s_low t_low low e.begins first.0 second.0,
        earlier_has (λ (z : Pt). AtMost p (point_of z)) s_high t_high high e.ends first.1 second.1,
      )

  pub common_from :
      (p : Point) → turn (point_of s.a) (point_of s.b) p ≡ pos 0 → AtMost (point_of low) p → AtMost p (point_of high) → IsCommon s t p
  common_from p on below above =
      let lows = later_bounds s_low t_low low e.begins in
      let highs = earlier_bounds s_high t_high high e.ends in
      record {
        first =
            first_ordered.back p
            (on_segment-from_AtMost (point_of s_low) (point_of s_high) p first_ordered.ahead
            (one_line (point_of s_low) (point_of s_high) p s_low_line s_high_line on)
            (AtMost-trans (point_of s_low) (point_of low) p lows.0 below) (AtMost-trans p (point_of high) (point_of s_high) above highs.0));
        second =
            second_ordered.back p
            (on_segment-from_AtMost (point_of t_low) (point_of t_high) p second_ordered.ahead
            (one_line (point_of t_low) (point_of t_high) p t_low_line t_high_line on)
            (AtMost-trans (point_of t_low) (point_of low) p lows.1 below) (AtMost-trans p (point_of high) (point_of t_high) above highs.1));
      }

  pub overlap_along : IsBefore (point_of low) (point_of high) → IsOverlap s t low high
  overlap_along ahead = record {
    ordered = ahead;
    covered =
        λ r both. on_segment-from_AtMost (point_of low) (point_of high) r ahead
        (one_line (point_of low) (point_of high) r low_line high_line (mix_turn both.first.mix)) (range_of r both).0 (range_of r both).1;
    common =
        λ r on. let between = on_segment-AtMost (point_of low) (point_of high) r ahead on in common_from r
        (line_mix (point_of s.a) (point_of s.b) (point_of low) (point_of high) r low_line high_line on) between.0 between.1;
  }

  pub overlap_at : low ≡ high → IsOnlyCommon s t (point_of low)
  overlap_at same = record {
    common = common_from (point_of low) low_line (AtMost-refl (point_of low))
        (subst (λ (z : Pt). AtMost (point_of low) (point_of z)) same (AtMost-refl (point_of low)));
    only = λ p both. same_from_AtMost p (point_of low)
        (subst (λ (z : Pt). AtMost p (point_of z)) (sym same) (range_of p both).1) (range_of p both).0;
  }

  pub overlap_apart : IsBefore (point_of high) (point_of low) → (p : Point) → ¬ IsCommon s t p
  overlap_apart back p both =
      let between = range_of p both in
      AtMost-trans (point_of low) p (point_of high) between.0 between.1
      (compare_points_total.antisymm (point_of low) (point_of high) ∙ ap ordering_reverse back)

-- ---- what other crates need of an overlap
-- its ends are two points
pub overlap_ends_apart : (s t : Seg) (p q : Pt) → IsOverlap s t p q → ¬ IsSamePoint (point_of p) (point_of q)
overlap_ends_apart s t p q over same = clash (sym over.ordered ∙ compare_points_same (point_of p) (point_of q) same)
  where
    clash : Less ≡ Equal → ⊥
    clash e = cc

-- its points are on both segments
pub overlap_held : (s t : Seg) (p q : Pt) → IsOverlap s t p q → (r : Point) → IsOnSegment (point_of p) (point_of q) r → IsOn s r × IsOn t r
overlap_held s t p q over r on = let c = over.common r on in (c.first, c.second)
