use Rattle.std.proofs.Common.{arith}
use Rattle.figure_laws.proofs.Lists.Counts.{few_areas}
use Rattle.union_locator.proofs.shells.IndexedShells.of.Goals as goal

pub invariant_of-result : goal.invariant_of-result
invariant_of-result c =
    let count = c.in_ok-shells_of.ensures.boxes.count in
    record { few = omega (arith, count, few_areas c.args.figure.now c.requires.shaped); indexed = tt }
