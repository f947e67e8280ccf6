-- Values among the matches.
use Rattle.std.proofs.Common.{◌≡◌, ◌∙◌, ℕ, List}
use Rattle.clap.specs.Matches.{first_value}
use Rattle.clap.specs.Walk.{rows_of}
use Rattle.clap.specs.declared.parser.matches.Found.{Found}
use Rattle.clap.proofs.WalkLemmas.{first_value-rows}
use Rattle.geosop_line.specs.Arguments.{Value, value_of}

-- what clap's getter gives is the value of the rows
pub value_is : (f : Found) (id : List ℕ) {v : Value} → v ≡ first_value f id → v ≡ value_of id (rows_of f)
unfolding value_of
value_is f id {v} is = is ∙ first_value-rows f id
