use Rattle.std.proofs.Common.{◌≡◌, ◌≤ℤ◌, true, sym, to_z, of_z, w64, arith}
use lib.Signed.{le_z}
use Rattle.std.specs.Int.{int_max, int_min}
use Rattle.std.proofs.lemmas.Int.{ints, clamps}
use Rattle.plane_exact.proofs.Boxes.{common_point, low_at_most_high}
use Rattle.plane_exact.proofs.window.Window.meets.Goals as goal

pub returns-then-max-min : goal.returns-then-max-min
returns-then-max-min c =
    let b = c.args.self.now in
    let o = c.args.other.now in
    let x : int_max b.low_x o.low_x ≤ℤ int_min b.high_x o.high_x = omega (arith, ints, clamps) in
    let from = λ (h : _). let y = (low_at_most_high b o h).1 in let test : true ≡ le_z (to_z w64 (of_z w64 c.max-then-max-min.result))
    (to_z w64 (of_z w64 c.min-then-max-min.result)) = omega (arith, ints, clamps, y) in sym test in
    let to = λ (t : _). let y : int_max b.low_y o.low_y ≤ℤ int_min b.high_y o.high_y = omega
    (arith, ints, clamps, t) in common_point b o x y in
    record { common = (to, from) }

pub returns-else-max-min : goal.returns-else-max-min
returns-else-max-min c =
    let b = c.args.self.now in
    let o = c.args.other.now in
    record {
      common = (
        λ t. absurd (omega (arith, ints, clamps, t)),
        λ h. let x = (low_at_most_high b o h).0 in absurd
            (omega (arith, ints, clamps, x)),
      );
    }
