use Rattle.std.proofs.Common.{suc, get_or, arith}
use Rattle.std.proofs.lemmas.Option.{slice_get-get_or}
use Rattle.geom_valid.proofs.FewPositions.{few_of_hole}
use Rattle.geom_valid.proofs.ring_set.RingSet.of.Goals as goal

pub of-requires-clause-enough : goal.of-requires-clause-enough
of-requires-clause-enough c = c.requires.enough 0 c.args.area.now.shell (omega arith)

pub of-requires-clause-simple : goal.of-requires-clause-simple
of-requires-clause-simple c = c.requires.simple 0 c.args.area.now.shell (omega arith)

pub discs_of-requires-clause-enough : goal.discs_of-requires-clause-enough
discs_of-requires-clause-enough c = λ k d below. c.requires.enough (suc k) d (omega (arith, below))

pub discs_of-requires-clause-simple : goal.discs_of-requires-clause-simple
discs_of-requires-clause-simple c = λ k d below. c.requires.simple (suc k) d (omega (arith, below))

pub discs_of-requires-clause-few : goal.discs_of-requires-clause-few
discs_of-requires-clause-few c = λ k d below.
    let holes = c.args.area.now.holes in
    few_of_hole c.args.area.now c.requires.few k (get_or holes k d) (slice_get-get_or holes k d below)
