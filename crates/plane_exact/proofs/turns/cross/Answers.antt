use Rattle.std.proofs.Common.{ℤ, ◌-ℤ◌, ◌*ℤ◌, to_z, of_z, w64, refl}
use Rattle.whole_algebra.proofs.Computed.{Computes, read, product, difference, stored, fits}
use Rattle.plane_exact.proofs.turns.cross.Goals as goal

abbrev number : ℤ → ℤ
number z = to_z w64 (of_z w64 z)

whole :
    (c : goal.Start)
    → Computes (number (number c.args.ux *ℤ number c.args.vy) -ℤ number (number c.args.uy *ℤ number c.args.vx))
    (c.args.ux *ℤ c.args.vy -ℤ c.args.uy *ℤ c.args.vx) 140737488355328
whole c =
    let ux = read w64 c.args.ux c.requires.ux refl in
    let uy = read w64 c.args.uy c.requires.uy refl in
    let vx = read w64 c.args.vx c.requires.vx refl in
    let vy = read w64 c.args.vy c.requires.vy refl in
    difference (stored w64 (product ux vy) refl) (stored w64 (product uy vx) refl)

pub overflow_sub-result : goal.overflow_sub-result
overflow_sub-result c = fits w64 (whole c) refl

pub returns : goal.returns
returns c = record { product = (stored w64 (whole c) refl).is }
