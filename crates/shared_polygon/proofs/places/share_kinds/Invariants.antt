-- The session is of the prepared figure, and the points so far have their kinds.
use Rattle.std.proofs.Common.{◌≡◌, take}
use Rattle.shared_polygon.specs.Places.{share_of, AreKinds}
use Rattle.shared_polygon.proofs.places.share_kinds.Given as goal

abbrev pub invariant-loop-p : goal.invariant-loop-p
invariant-loop-p l = (l.session.figure ≡ l.prepared.figure)
    × AreKinds l.prepared.figure (take l.p-index (share_of l.points l.place)) l.kinds.items
