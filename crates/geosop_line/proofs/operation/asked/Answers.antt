-- A pattern that is refused is a bad one, at the place of its refusal.
use Rattle.std.proofs.Common.{ap, refl, Some, option_map}
use Rattle.geosop_line.specs.Operations.{operation_word}
use Rattle.geosop_line.specs.declared.operation.Operation.{Operation}
use Rattle.geosop_line.proofs.operation.asked.Goals as goal

pub returns-in-Err : goal.returns-in-Err
returns-in-Err c = record {
  query = record {
    text = c.in-RelatePattern-Some.text.now;
    asks = ap (λ (o : Operation). Some (operation_word o)) c.in-RelatePattern-Some.is-0;
    has_argument = ap (option_map (λ s. s.now)) c.in-RelatePattern-Some.is-1;
    wrong = (c.in-Err.ensures.err c.in-Err.bad.place).0 refl;
  };
}
