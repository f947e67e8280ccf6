use Rattle.std.proofs.Common.{◌≡◌, map}
use Rattle.std.specs.List.{range_with_len}
use Rattle.edge_index.specs.declared.order.Spot.{Spot}
use Rattle.edge_index.proofs.order.spots_of.Given as goal

-- the spots so far have the places so far
abbrev pub invariant-loop-place : goal.invariant-loop-place
invariant-loop-place l = map (λ (spot : Spot). spot.place) l.spots ≡ range_with_len 0 l.place
