use Rattle.std.proofs.Common.{◌∙◌, ap, not}
use Rattle.relate_core.specs.Taking.{IsOne}
use Rattle.relate_core.proofs.Taking.{taken_one, taken_where_known}
use Rattle.relate_core.proofs.samples.take_in_cell.Goals as goal

pub returns-then-is_none : goal.returns-then-is_none
returns-then-is_none c = record {
  taken =
      taken_one c.args.progress.now c.feed.new.self c.args.c c.args.d c.feed.ensures.query c.feed.ensures.value c.feed.ensures.matrix;
}

pub returns-else-is_none : goal.returns-else-is_none
returns-else-is_none c = record {
  taken =
      taken_where_known (IsOne c.args.c c.args.d) c.args.progress.now c.known.result (c.is_none.ensures ∙ ap not c.if-is_none.false)
      (λ v e. (c.known.ensures.settled v).0 e);
}
