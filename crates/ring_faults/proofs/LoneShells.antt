-- In an area without holes no rings touch in a cycle: it has one ring, and the touches of a cycle have different ones.
use Rattle.std.proofs.Common.{◌≡◌, ◌≢◌, ℕ, length, sym, ◌∙◌, arith}
use Rattle.std.proofs.lemmas.List.Elements.{All-head}
use Rattle.std.proofs.lemmas.Option.{slice_get_within}
use Rattle.plane_laws.specs.Plane.{Point, IsSamePoint}
use Rattle.point_set.specs.Location.{rings_of}
use Rattle.point_set.specs.Validity.{IsOnRingAt, HasTouchCycle, Touch}
use Rattle.point_set.specs.declared.figure.Area.{Area}

-- the place of each of its rings is that of the shell
lone_place : (area : Area) → length area.holes ≡ 0 → (place : ℕ) (p : Point) → IsOnRingAt area place p → place ≡ 0
lone_place area none place p on =
    let within = slice_get_within (rings_of area) place on.ring on.ring_is in
    omega (arith, none, within)

-- so no two touches have different rings
pub no_cycle : (area : Area) → length area.holes ≡ 0 → ¬ HasTouchCycle area
no_cycle area none cycle =
    let start = lone_place area none cycle.start.place cycle.start.point cycle.chain.0 in
    let second = lone_place area none cycle.second.place cycle.start.point cycle.chain.1 in
    let apart =
    All-head (λ (other : Touch). (cycle.start.place ≢ other.place) × (¬ IsSamePoint cycle.start.point other.point)) cycle.second
    cycle.others cycle.apart.0 in
    apart.0 (start ∙ sym second)
