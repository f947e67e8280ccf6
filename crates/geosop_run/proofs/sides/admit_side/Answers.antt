-- What the text is refused for, the side is.
use Rattle.std.proofs.Common.{subst}
use Rattle.std.proofs.lemmas.Result.{IfErr-weaker, err_from_is_err_and}
use Rattle.geosop_run.specs.Asking.{IsTextFault, IsSideFault}
use Rattle.geosop_run.proofs.SideFaults.{figures_fault}
use Rattle.geosop_run.proofs.sides.admit_side.Goals as goal

pub returns-clause-err : goal.returns-clause-err
returns-clause-err g c =
    let before = g.I.Inputs.seen c.args.inputs.now in
    let after = g.I.Inputs.seen c.read_side.new.inputs in
    let items = c.in_ok-bytes.bytes.items in
    IfErr-weaker c.admit_figures.result (IsTextFault c.args.scale.digits c.args.side c.as_slice.result.now)
    (IsSideFault c.args.scale.digits c.args.side c.args.source before after)
    (λ e h. figures_fault c.args.scale.digits c.args.side c.args.source items before after e c.in_ok-bytes.ensures.ok
    (subst (λ bytes. IsTextFault c.args.scale.digits c.args.side bytes e) c.as_slice.ensures.value h))
    c.admit_figures.ensures.fault

pub returns-in_err-bytes-clause-err : goal.returns-in_err-bytes-clause-err
returns-in_err-bytes-clause-err g c =
    let p = err_from_is_err_and c.from_residual.result c.from_residual.ensures.1 in
    rw (p.1, p.2) (c.in_err-bytes.ensures.err c.args.scale.digits)
