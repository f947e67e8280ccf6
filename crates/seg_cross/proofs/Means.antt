-- The mean of two coordinates within the limit, as a fraction of a node.
use Rattle.std.proofs.Common.{ℕ, ◌+◌, ◌^◌, ltb, true, ◌≡◌, ◌≤◌, ℤ, pos, ◌+ℤ◌, ◌-ℤ◌, ◌*ℤ◌, ◌<ℤ◌, ◌≤ℤ◌, unsigned_abs, w64, refl, arith}
use Rattle.std.proofs.lemmas.Int.{ints}
use mir.Syntax.{w128}
use Rattle.whole_algebra.proofs.Computed.{Computes, read, stored, sum, product, narrow, wide, via}
use Rattle.whole_algebra.proofs.Laws.{linear, *ℤ-+ℤ, *ℤ--ℤ}
use Rattle.whole_algebra.proofs.Signs.{nonneg-*-nonneg}
use lib.IntN.{*ℤ_comm}
use Rattle.plane_exact.specs.Limits.{limit, widest}
use Rattle.plane_exact.specs.Nodes.{IsFraction}

-- a number of 64 bits that was widened to 128
pub widened : (r z : ℤ) (m : ℕ) → r ≡ narrow z → unsigned_abs z ≤ m → ltb m (2 ^ 63) ≡ true → ltb m (2 ^ 127) ≡ true → Computes (wide r) z m
widened r z m e h b b' = stored w128 (via e (read w64 z h b)) b'

-- the weighted sum is within the limit times the sum of the weights
pub IsFraction-mean :
    (f s a b : ℤ) → pos 0 ≤ℤ f → pos 0 ≤ℤ s → unsigned_abs f ≤ widest → unsigned_abs s ≤ widest → unsigned_abs a ≤ limit
    → unsigned_abs b ≤ limit → pos 0 <ℤ (f +ℤ s) → IsFraction (f *ℤ a +ℤ s *ℤ b) (f +ℤ s)
IsFraction-mean f s a b hf hs mf ms ha hb some =
    let all = *ℤ-+ℤ (pos limit) f s in
    let fl = *ℤ_comm (pos limit) f in
    let sl = *ℤ_comm (pos limit) s in
    let a_low : pos 0 ≤ℤ (a +ℤ pos limit) = omega (arith, ints, ha) in
    let a_high : pos 0 ≤ℤ (pos limit -ℤ a) = omega (arith, ints, ha) in
    let b_low : pos 0 ≤ℤ (b +ℤ pos limit) = omega (arith, ints, hb) in
    let b_high : pos 0 ≤ℤ (pos limit -ℤ b) = omega (arith, ints, hb) in
    record {
      heavy = some;
      light = omega (arith, ints, mf, ms);
      low =
          omega (
            arith,
            linear,
            all,
            fl,
            sl,
            nonneg-*-nonneg hf a_low,
            nonneg-*-nonneg hs b_low,
            *ℤ-+ℤ f a (pos limit),
            *ℤ-+ℤ s b
                (pos limit),
          );
      high =
          omega (
            arith,
            linear,
            all,
            fl,
            sl,
            nonneg-*-nonneg hf a_high,
            nonneg-*-nonneg hs b_high,
            *ℤ--ℤ f (pos limit) a,
            *ℤ--ℤ s
                (pos limit) b,
          );
    }

-- what the code adds up
pub weights :
    (r q f s : ℤ) → r ≡ narrow f → q ≡ narrow s → unsigned_abs f ≤ widest → unsigned_abs s ≤ widest
    → Computes (wide r +ℤ wide q) (f +ℤ s) (widest + widest)
weights r q f s e d hf hs = sum (widened r f widest e hf refl refl) (widened q s widest d hs refl refl)

pub mean_of :
    (m f a s b : ℤ) → m ≡ narrow f *ℤ narrow a +ℤ narrow s *ℤ narrow b → unsigned_abs f ≤ widest → unsigned_abs a ≤ limit
    → unsigned_abs s ≤ widest → unsigned_abs b ≤ limit → wide m ≡ f *ℤ a +ℤ s *ℤ b
mean_of m f a s b e hf ha hs hb =
    (stored w128
    (via e (sum (product (read w64 f hf refl) (read w64 a ha refl)) (product (read w64 s hs refl) (read w64 b hb refl)))) refl).is
