-- The rays so far are those of the sections so far, and there is room for the rest.
use Rattle.std.proofs.Common.{◌≡◌, ◌≤◌, length, take}
use Rattle.std.specs.List.{All, AllZip}
use Rattle.fan_order.specs.Rays.{IsShort, IsRayOf}
use Rattle.fan_order.proofs.fan.rays_of.Given as goal

abbrev pub invariant-loop-section : goal.invariant-loop-section
invariant-loop-section l = record {
  zip : AllZip (λ s ray. IsRayOf s.dir ray) (take l.section-index l.sections) l.rays.items;
  short : All IsShort l.rays.items;
  count : length l.rays.items ≡ l.section-index;
  room : length l.sections ≤ l.rays.capacity;
}
