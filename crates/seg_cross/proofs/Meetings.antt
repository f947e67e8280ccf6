-- What the four turns of two segments say of their common points.
use Rattle.std.proofs.Common.{◌≡◌, ◌≤◌, ◌↔◌, IsTrue, Bool, false, subst₂, inl, inr, ℤ, pos, ◌+ℤ◌, ◌-ℤ◌, ◌*ℤ◌, neg_ℤ, ◌<ℤ◌, ◌≤ℤ◌}
use Rattle.std.proofs.Common.{unsigned_abs, w64, [], ◌∷◌, refl, sym, ◌∙◌, subst, arith}
use Rattle.std.proofs.lemmas.Int.{by_lt_z}
use Rattle.whole_algebra.proofs.Computed.{Computes, negation, stored, narrow}
use Rattle.std.proofs.lemmas.Bool.{false≢true}
use Rattle.whole_algebra.proofs.Laws.{linear, *ℤ_one}
use Rattle.whole_algebra.proofs.Polynomials.{var, ◌⊕◌, ◌⊖◌, ◌⊗◌, minus, identity}
use Rattle.whole_algebra.proofs.Signs.{by_sign}
use Rattle.plane_exact.specs.Limits.{widest}
use Rattle.plane_laws.specs.Plane.{IsAt, Point, turn}
use Rattle.plane_exact.specs.Places.{point_of}
use Rattle.plane_exact.specs.declared.point.Seg.{Seg}
use Rattle.plane_laws.proofs.Segments.Mixes.{segment_flip}
use Rattle.plane_laws.proofs.Segments.On.{mix_turn}
use Rattle.plane_laws.proofs.Turns.Turns.{turn_swap}
use Rattle.seg_cross.specs.Meets.{IsCommon, IsOnlyCommon}
use Rattle.seg_cross.specs.Sides.{IsOneSide}
use Rattle.plane_laws.proofs.Segments.Crossings.{apart_left, apart_right, crossing_w, on_first, on_second, only}

-- a turn that the code was given, as it is read
pub plain_turn : (r z : ℤ) → r ≡ z → unsigned_abs r ≤ widest → Computes (narrow r) z widest
plain_turn r z e h = stored w64 (record { is = e; small = subst (λ (x : ℤ). unsigned_abs x ≤ widest) e h }) refl

-- ---- sides
pub in_order : (a b : ℤ) → ¬ IsOneSide a b → a <ℤ b → (a ≤ℤ pos 0) × (pos 0 ≤ℤ b)
in_order a b n h = (
  by_lt_z (pos 0) a (λ k. absurd (n (inl (k, omega (arith, linear, k, h))))) (λ k. k),
  by_lt_z b (pos 0) (λ k. absurd (n (inr (omega (arith, linear, k, h), k)))) (λ k. k),
)

pub against_order : (a b : ℤ) → ¬ IsOneSide a b → b <ℤ a → (pos 0 ≤ℤ a) × (b ≤ℤ pos 0)
against_order a b n h = (
  by_lt_z a (pos 0) (λ k. absurd (n (inr (k, omega (arith, linear, k, h))))) (λ k. k),
  by_lt_z (pos 0) b (λ k. absurd (n (inl (omega (arith, linear, k, h), k)))) (λ k. k),
)

pub both_zero : (a b : ℤ) → ¬ IsOneSide a b → a ≡ b → a ≡ pos 0
both_zero a b n e = by_sign a
    (λ h. absurd (n (inr (h, omega (arith, linear, h, e)))))
    (λ z. z)
    (λ h. absurd (n (inl (h, omega (arith, linear, h, e)))))

-- both ends of the second segment on one side of the first one's line
pub apart_by_second :
    (s t : Seg) → IsOneSide (turn (point_of s.a) (point_of s.b) (point_of t.a)) (turn (point_of s.a) (point_of s.b) (point_of t.b))
    → (p : Point) → ¬ IsCommon s t p
apart_by_second s t (inl h) p both =
    apart_left (point_of s.a) (point_of s.b) (point_of t.a) (point_of t.b) p h.0 h.1 both.second (mix_turn both.first.mix)
apart_by_second s t (inr h) p both =
    apart_right (point_of s.a) (point_of s.b) (point_of t.a) (point_of t.b) p h.0 h.1 both.second (mix_turn both.first.mix)

pub apart_by_first :
    (s t : Seg) → IsOneSide (turn (point_of t.a) (point_of t.b) (point_of s.a)) (turn (point_of t.a) (point_of t.b) (point_of s.b))
    → (p : Point) → ¬ IsCommon s t p
apart_by_first s t h p both = apart_by_second t s h p (record { first = both.second; second = both.first })

-- ---- the four turns of two segments
module _ (s t : Seg) where
  abbrev pub of_a : ℤ
  of_a = turn (point_of t.a) (point_of t.b) (point_of s.a)

  abbrev pub of_b : ℤ
  of_b = turn (point_of t.a) (point_of t.b) (point_of s.b)

  abbrev pub to_a : ℤ
  to_a = turn (point_of s.a) (point_of s.b) (point_of t.a)

  abbrev pub to_b : ℤ
  to_b = turn (point_of s.a) (point_of s.b) (point_of t.b)

  -- they differ by the same number
  pub differences : of_b -ℤ of_a ≡ to_a -ℤ to_b
  differences =
      (λ i. sym (*ℤ_one of_b) i -ℤ sym (*ℤ_one of_a) i) ∙ crossing_w (point_of s.a) (point_of s.b) (point_of t.a) (point_of t.b)
      ∙ (λ i. *ℤ_one to_a i -ℤ *ℤ_one to_b i)

  -- the mean of the first one's ends under the two turns, the first negative
  pub crossing_ahead :
      (q : Point) (f g : ℤ) → of_a <ℤ of_b → ¬ IsOneSide of_a of_b → ¬ IsOneSide to_a to_b → f ≡ of_b → g ≡ neg_ℤ of_a
      → IsAt q (f *ℤ s.a.x +ℤ g *ℤ s.b.x) (f *ℤ s.a.y +ℤ g *ℤ s.b.y) (f +ℤ g) → IsOnlyCommon s t q
  crossing_ahead q f g h n m ef eg at = record {
    common = record { first = on_first a b c d q placed some sides.0 sides.1; second = on_second a b c d q placed some ends.1 ends.0 };
    only = λ p both. only a b c d q placed some p both.first both.second;
  }
    where
      a : Point
      a = point_of s.a

      b : Point
      b = point_of s.b

      c : Point
      c = point_of t.a

      d : Point
      d = point_of t.b

      moved : (x y : ℤ) → f *ℤ x +ℤ g *ℤ y ≡ of_b *ℤ x -ℤ of_a *ℤ y
      moved x y =
          (λ i. ef i *ℤ x +ℤ eg i *ℤ y)
          ∙ identity (var 0 ⊗ var 2 ⊕ minus (var 1) ⊗ var 3) (var 0 ⊗ var 2 ⊖ var 1 ⊗ var 3) (of_b ∷ of_a ∷ x ∷ y ∷ []) refl

      weight : f +ℤ g ≡ of_b *ℤ pos 1 -ℤ of_a *ℤ pos 1
      weight = (λ i. ef i +ℤ eg i) ∙ (λ i. sym (*ℤ_one of_b) i -ℤ sym (*ℤ_one of_a) i)

      placed : IsAt q (of_b *ℤ a.x -ℤ of_a *ℤ b.x) (of_b *ℤ a.y -ℤ of_a *ℤ b.y) (of_b *ℤ a.w -ℤ of_a *ℤ b.w)
      placed = record {
        across = (λ i. q.x *ℤ sym weight i) ∙ at.across ∙ (λ i. moved s.a.x s.b.x i *ℤ q.w);
        above = (λ i. q.y *ℤ sym weight i) ∙ at.above ∙ (λ i. moved s.a.y s.b.y i *ℤ q.w);
      }

      some : pos 0 <ℤ (of_b *ℤ a.w -ℤ of_a *ℤ b.w)
      some = subst (λ z. pos 0 <ℤ z) (λ i. sym (*ℤ_one of_b) i -ℤ sym (*ℤ_one of_a) i) (omega (arith, linear, h))

      sides : (of_a ≤ℤ pos 0) × (pos 0 ≤ℤ of_b)
      sides = in_order of_a of_b n h

      ends : (pos 0 ≤ℤ to_a) × (to_b ≤ℤ pos 0)
      ends = against_order to_a to_b m (omega (arith, linear, h, differences))

pub crossing_back :
    (s t : Seg) (q : Point) (f g : ℤ) → of_b s t <ℤ of_a s t → ¬ IsOneSide (of_a s t) (of_b s t) → ¬ IsOneSide (to_a s t) (to_b s t)
    → f ≡ neg_ℤ (of_b s t) → g ≡ of_a s t → IsAt q (f *ℤ s.a.x +ℤ g *ℤ s.b.x) (f *ℤ s.a.y +ℤ g *ℤ s.b.y) (f +ℤ g) → IsOnlyCommon s t q
crossing_back s t q f g h n m ef eg at =
    let turned = crossing_ahead s flipped q f g (omega (arith, linear, h, back_a, back_b)) (λ k. n (turned_sides k))
    (λ k. m (swapped_sides k)) (ef ∙ sym back_b) (eg ∙ back (of_a s t) (of_a s flipped) back_a) at in
    record {
      common = record { first = turned.common.first; second = segment_flip turned.common.second };
      only = λ p both. turned.only p (record { first = both.first; second = segment_flip both.second });
    }
  where
    flipped : Seg
    flipped = record { a = t.b; b = t.a }

    back_a : of_a s flipped ≡ neg_ℤ (of_a s t)
    back_a = turn_swap (point_of t.a) (point_of t.b) (point_of s.a)

    back_b : of_b s flipped ≡ neg_ℤ (of_b s t)
    back_b = turn_swap (point_of t.a) (point_of t.b) (point_of s.b)

    back : (x y : ℤ) → y ≡ neg_ℤ x → x ≡ neg_ℤ y
    back x y e = omega (arith, linear, e)

    turned_sides : IsOneSide (of_a s flipped) (of_b s flipped) → IsOneSide (of_a s t) (of_b s t)
    turned_sides (inl k) = inr (omega (arith, linear, k.0, back_a), omega (arith, linear, k.1, back_b))
    turned_sides (inr k) = inl (omega (arith, linear, k.0, back_a), omega (arith, linear, k.1, back_b))

    swapped_sides : IsOneSide (to_a s flipped) (to_b s flipped) → IsOneSide (to_a s t) (to_b s t)
    swapped_sides (inl k) = inl (k.1, k.0)
    swapped_sides (inr k) = inr (k.1, k.0)

-- ---- what the code has learned of the two turns r and q, which stand for x and y
pub not_one_side :
    (r q x y : ℤ) (b : Bool) → r ≡ x → unsigned_abs r ≤ widest → q ≡ y → unsigned_abs q ≤ widest
    → (IsTrue b ↔ IsOneSide (narrow r) (narrow q)) → b ≡ false → ¬ IsOneSide x y
not_one_side r q x y b e h f k test failed side =
    false≢true (sym failed ∙ test.1 (subst₂ IsOneSide (sym (plain_turn r x e h).is) (sym (plain_turn q y f k).is) side))

pub as_turns : (r q x y : ℤ) → r ≡ x → unsigned_abs r ≤ widest → q ≡ y → unsigned_abs q ≤ widest → narrow r <ℤ narrow q → x <ℤ y
as_turns r q x y e h f k less = subst₂ ◌<ℤ◌ (plain_turn r x e h).is (plain_turn q y f k).is less

-- of lines that aren't parallel one turn is below the other
pub below_from_slanted : (s t : Seg) → ¬ (to_a s t ≡ to_b s t) → of_b s t ≤ℤ of_a s t → of_b s t <ℤ of_a s t
below_from_slanted s t n h = by_lt_z (of_b s t) (of_a s t) (λ k. k) (λ k. absurd (n (omega (arith, linear, h, k, differences s t))))

-- the code's -r
pub minus_turn : (r x : ℤ) → r ≡ x → unsigned_abs r ≤ widest → narrow (pos 0 -ℤ narrow r) ≡ neg_ℤ x
minus_turn r x e h = (stored w64 (negation (plain_turn r x e h)) refl).is
