use Rattle.std.proofs.Common.{◌≡◌, ℤ, ap, ◌∙◌, arith}
use Rattle.std.proofs.lemmas.Int.{ints, clamps}
use Rattle.plane_exact.specs.declared.window.Window.{Window}
use Rattle.plane_exact.proofs.window.Window.join.Goals as goal

abbrev box_of : ℤ → ℤ → ℤ → ℤ → Window
box_of a b c d = record { low_x = a; low_y = b; high_x = c; high_y = d }

same_box : {a b c d e f g h : ℤ} → a ≡ e → b ≡ f → c ≡ g → d ≡ h → box_of a b c d ≡ box_of e f g h
same_box {a} {b} {c} {d} {e} {f} {g} {h} p q r s =
    ap (λ x. box_of x b c d) p ∙ (ap (λ x. box_of e x c d) q ∙ (ap (λ x. box_of e f x d) r ∙ ap (λ x. box_of e f g x) s))

pub returns : goal.returns
returns c =
    record {
      join = same_box (omega (arith, ints, clamps)) (omega (arith, ints, clamps)) (omega (arith, ints, clamps))
          (omega (arith, ints, clamps));
    }
