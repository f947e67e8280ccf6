use Rattle.std.proofs.Common.{ap, arith, ◌∷◌, length}
use Rattle.std.proofs.lemmas.List.Sorted.{length_permutation}
use Rattle.bound_rule.proofs.LineEnds.{both_ends}
use Rattle.bound_rule.proofs.ends.EndCounts.add_ends.Goals as goal

pub add-requires-in-Some : goal.add-requires-in-Some
add-requires-in-Some c =
    let one = length_permutation (c.in-Some.first ∷ c.args.self.now) c.add.new.self c.in_ok-add.ensures.added in
    record { room = omega (arith, c.requires.room, ap length c.in-Some.ensures.ends, one) }

pub returns-in_ok-add-2 : goal.returns-in_ok-add-2
returns-in_ok-add-2 c = record {
  added = rw c.in-Some.ensures.ends
      (both_ends c.in-Some.first c.in-Some.last c.args.self.now c.add.new.self c.add-in-Some.new.self
      c.in_ok-add.ensures.added c.in_ok-add-2.ensures.added);
}
