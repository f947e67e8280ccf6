-- The numbers of a command: that of its sample is one that samples have, and that of its threads is from 1 to 64.
use Rattle.std.proofs.Common.{ℕ, ◌≤◌, List, Option, Some, None, arith}
use Rattle.std.specs.Option.{IfSome}
use Rattle.geosop_line.specs.declared.config.Config.{Config}
use Rattle.geosop_line.specs.declared.config.Source.{Source}
use Rattle.geosop_line.specs.Arguments.{Value}
use Rattle.geosop_line.specs.CommandLine.{IsLine}
use Rattle.geosop_line.specs.Figures.{AreFiguresOf}
use Rattle.geosop_line.specs.Settings.{IsThreads}
use Rattle.sample_figures.specs.Samples.{IsSampleNumber}

-- by the values of the options
number_of : (sample a b : Value) (number : Option ℕ) (source_a source_b : Source) → AreFiguresOf sample a b number source_a source_b
    → IfSome number IsSampleNumber
number_of sample a b None source_a source_b h = tt
number_of sample a b (Some number) source_a source_b h = (h.number.positive, h.number.within)

pub sample_number : (words : List (List ℕ)) (command : Config) → IsLine words command → IfSome command.sample IsSampleNumber
sample_number words command h = number_of _ _ _ command.sample command.a command.b h.has.figures

threads_within : (value : Value) (threads : ℕ) → IsThreads value threads → (1 ≤ threads) × (threads ≤ 64)
threads_within None threads h = (omega (arith, h), omega (arith, h))
threads_within (Some text) threads h = (h.positive, h.within)

pub number_of_threads : (words : List (List ℕ)) (command : Config) → IsLine words command → (1 ≤ command.threads) × (command.threads ≤ 64)
number_of_threads words command h = threads_within _ command.threads h.has.threads
