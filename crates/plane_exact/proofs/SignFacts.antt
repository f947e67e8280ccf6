-- What a sign says of its number.
use Rattle.std.proofs.Common.{◌≡◌, zero, suc, ℤ, pos, negsuc, refl}
use Rattle.plane_exact.specs.Signs.{sign_of}
use Rattle.plane_exact.specs.declared.sign.Sign.TheVariants.{Zero}

pub zero_sign : (z : ℤ) → sign_of z ≡ Zero → z ≡ pos 0
zero_sign (negsuc n) e = cc
zero_sign (pos zero) e = refl
zero_sign (pos (suc n)) e = cc
