use Rattle.std.proofs.Common.{suc, ◌≡◌, ◌+◌, ap, arith}
use Rattle.plane_exact.specs.Places.{point_of}
use Rattle.point_set.specs.Lines.{count_at}
use Rattle.bound_rule.proofs.Counted.{counted_at, counted_at-count, counted_more}
use Rattle.bound_rule.proofs.LineEnds.{count-most}
use Rattle.bound_rule.proofs.ends.EndCounts.add.Goals as goal
use Rattle.bound_rule.proofs.ends.EndCounts.add.Goals.{in-Ok, in-Err}

pub overflow_add-count : goal.overflow_add-count
overflow_add-count c =
    let few = count-most (point_of c.args.p) c.args.self.now in
    omega (arith, few, c.count_at_position-count.ensures.count, c.requires.room)

pub returns : goal.returns
returns c =
    let counts = c.self.inside.counts.entries in
    let counted = counted_at-count c.args.p counts c.self.invariant in
    let seen = ap (count_at (point_of c.args.p)) c.self.view_is in
    let more : c.count_at_position-count.result + 1 ≡ suc (counted_at c.args.p counts) =
    omega (arith, counted, seen, c.count_at_position-count.ensures.count) in
    let added = counted_more c.args.p (c.count_at_position-count.result + 1) counts c.self.invariant more in
    elim c.match-insert.branch [
      | in-Ok w ↦ record { added = rw (w.result-is, w.in-Ok.ensures.entries, ← c.self.view_is) added }
      | in-Err w ↦ record { added = rw w.result-is tt }
    ]
