use Rattle.std.proofs.Common.{subst}
use Rattle.relate_core.specs.Taking.{HasTakenIn, IsOne}
use Rattle.relate_core.proofs.far.take_in_beyond.Goals as goal

pub returns : goal.returns
returns c = record {
  taken =
      subst (λ d. HasTakenIn (IsOne c.args.c d) c.args.progress.now c.take_in_cell.new.progress) c.beyond.ensures.beyond
      c.take_in_cell.ensures.taken;
}
