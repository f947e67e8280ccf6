use Rattle.std.proofs.Common.{ℕ, ◌+◌, ◌%◌, subst, arith}
use Rattle.plane_exact.specs.Orders.{direction_of}
use Rattle.point_set.specs.Validity.{IsAtPlace}
use Rattle.germ_laws.proofs.Rays.Places.{in_sector_of}
use Rattle.area_entry.proofs.SectorPlaces.{in_first}
use Rattle.area_entry.proofs.germ.sector_of.Goals as goal

pub returns-then-is_within-clause-sector : goal.returns-then-is_within-clause-sector
returns-then-is_within-clause-sector c = λ off.
    let rays = c.args.fan.now.rays in
    let i = c.loop-i.i in
    (in_sector_of rays i c.ray.result c.ray-in-loop-i.result (direction_of c.args.d) c.ray.ensures.ray
    (subst (λ (n : ℕ). IsAtPlace rays ((i + 1) % n) c.ray-in-loop-i.result) c.rays-count.ensures.length c.ray-in-loop-i.ensures.ray)
    (c.is_within.ensures.within.0 c.if-is_within.true)).1

pub returns-clause-sector : goal.returns-clause-sector
returns-clause-sector c = λ off.
    let same = c.rays-count.ensures.length in
    in_first c.args.fan.now.rays c.rays-count.ensures.rays.ascending c.args.d
    (λ j some below. c.loop-i.invariant j some (omega (arith, below, same, c.loop-i-test.false))) off
