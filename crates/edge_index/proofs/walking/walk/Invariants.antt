use Rattle.std.proofs.Common.{◌+◌, ◌*◌, ◌-◌}
use Rattle.edge_index.specs.Trees.{inner_meeting}
use Rattle.edge_index.proofs.Meetings.{view_of}
use Rattle.edge_index.proofs.Steps.{IsUnderway}
use Rattle.edge_index.proofs.walking.walk.Given as goal

-- what is found and what is left are what the visit of the whole tree finds
abbrev pub invariant-loop-next : goal.invariant-loop-next
invariant-loop-next g l =
    IsUnderway (view_of l.w (g.T.Boxes.rows l.rows)) l.next l.out (g.M.Meter.used l.initial.meter) (g.M.Meter.used l.meter)

-- the looks that are left at most
abbrev pub decreases-loop-next : goal.decreases-loop-next
decreases-loop-next g l = (g.M.Meter.used l.initial.meter + (2 * inner_meeting l.w (g.T.Boxes.rows l.rows) + 1)) - g.M.Meter.used l.meter
