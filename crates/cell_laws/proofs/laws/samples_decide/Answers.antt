use Rattle.figure_laws.proofs.Valid.Pairs.{are_valid}
use Rattle.cell_laws.proofs.laws.samples_decide.Goals as goal
use Rattle.cell_laws.proofs.Cells.Matrix.{decided_by_samples}

pub returns : goal.returns
returns c =
    let valid = are_valid c.figure.ensures.shaped c.figure.ensures.valid c.figure-2.ensures.shaped c.figure-2.ensures.valid in
    record { decided = decided_by_samples c.args.a.now c.args.b.now valid c.args.rule }
