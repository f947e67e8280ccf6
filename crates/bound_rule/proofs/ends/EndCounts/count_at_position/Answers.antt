use Rattle.std.proofs.Common.{ℕ, Option, ◌∙◌, ap}
use Rattle.std.specs.Option.{unwrap_or}
use Rattle.plane_exact.specs.Places.{point_of}
use Rattle.point_set.specs.Lines.{count_at}
use Rattle.bound_rule.proofs.Counted.{counted_at-count}
use Rattle.bound_rule.proofs.ends.EndCounts.count_at_position.Goals as goal

pub returns : goal.returns
returns c = record {
  count = c.unwrap_or.ensures
      ∙ ap (λ (o : Option ℕ). unwrap_or o 0) (c.copied.ensures ∙ c.get.ensures.value)
      ∙ counted_at-count c.args.p c.self.inside.counts.entries c.self.invariant
      ∙ ap (count_at (point_of c.args.p)) c.self.view_is;
}
