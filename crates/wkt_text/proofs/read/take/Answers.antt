use Rattle.std.proofs.Common.{inl, inr, rules}
use Rattle.wkt_text.proofs.Progress.{deep_stops}
use Rattle.wkt_text.proofs.read.take.Goals as goal

pub returns-clause-shallow : goal.returns-clause-shallow
returns-clause-shallow c = elim c.in-Some.ensures.shallow [
  | inl deep ↦ absurd (deep_stops c.args.build.now c.act.new.self c.in-Some.role c.args.lexeme.token deep (search rules))
  | inr shallow ↦ shallow
]
