-- The sign of a whole number.
use Rattle.std.specs.Prelude.{ℤ, zero, suc, pos, negsuc}
use Rattle.plane_exact.specs.declared.sign.Sign.{Sign}
use Rattle.plane_exact.specs.declared.sign.Sign.TheVariants.{Minus, Zero, Plus}

-- Minus below 0, Zero at 0, Plus above it.
abbrev pub sign_of : ℤ → Sign
sign_of (negsuc n) = Minus
sign_of (pos zero) = Zero
sign_of (pos (suc n)) = Plus
