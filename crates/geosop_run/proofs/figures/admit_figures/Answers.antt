-- One more geometry was read and pushed.
use Rattle.geosop_run.proofs.SourceSteps.{read_more}
use Rattle.geosop_run.proofs.figures.admit_figures.Goals as goal

pub loop-figures-preserved : goal.loop-figures-preserved
loop-figures-preserved c =
    let one = rw c.in-Some.is at c.in_ok-figure.ensures.next in
    read_more c.args.scale.digits c.args.bytes.now c.loop-figures.figures c.push.new.self c.loop-figures.at c.in-Some.figure c.in-Some.«end»
    c.in_ok-push.ensures.ok c.loop-figures.invariant one
