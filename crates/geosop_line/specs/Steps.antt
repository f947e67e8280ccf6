-- What the steps of the reading say, from the words to the configuration.
use Rattle.std.specs.Prelude.{◌≡◌, ◌≢◌, ⊤, ℕ, [], Option, Some, None}
use Rattle.clap.specs.Kinds.{Kinds}
use Rattle.clap.specs.declared.error.kind.ErrorKind.{ErrorKind}
use Rattle.clap.specs.declared.error.kind.ErrorKind.TheVariants.{OutOfMemory}
use Rattle.geosop_line.specs.Arguments.{Value}
use Rattle.geosop_line.specs.Figures.{AreBadSources, ComeFromSample, ComeFromSources, IsBadSample, source_of}
use Rattle.geosop_line.specs.Operations.{IsBadArgument, IsBadOperation, IsBadPattern, operation_word}
use Rattle.geosop_line.specs.Settings.{AreBadThreads, IsBadRule, IsBadScale}
use Rattle.geosop_line.specs.declared.config.LineFault.{LineFault}
use Rattle.geosop_line.specs.declared.config.LineFault.TheVariants.{Usage, NoMemory}
use Rattle.geosop_line.specs.declared.config.Source.{Source}
use Rattle.geosop_line.specs.declared.config.Source.TheVariants.{Text}
use Rattle.geosop_line.specs.declared.config.UsageFault.{UsageFault}
use Rattle.geosop_line.specs.declared.config.UsageFault.TheVariants as fault
use Rattle.geosop_line.specs.declared.figures.Figures.{Figures}
use Rattle.geosop_line.specs.declared.figures.Figures.TheVariants.{OfSample, OfSources}
use Rattle.geosop_line.specs.declared.operation.Operation.{Operation}

-- What an error of clap's is told as: want of memory as such, and any other as a fault of the line.
abbrev pub told_as : ErrorKind → LineFault
told_as OutOfMemory = NoMemory
told_as kind = Usage fault.Line

-- What may be told of words for which clap has these refusals: want of memory, and where there are any, a fault of the line.
abbrev pub IsToldOf : Kinds → LineFault → Type 0
IsToldOf kinds NoMemory = ⊤
IsToldOf kinds (Usage told) = (told ≡ fault.Line) × (kinds ≢ [])

-- The first fault of the values of `--sample`, `-a` and `-b`.
abbrev pub IsFiguresFault : Value → Value → Value → UsageFault → Type 0
IsFiguresFault sample a b fault.Sample = IsBadSample sample a b
IsFiguresFault sample a b fault.Sources = AreBadSources sample a b
IsFiguresFault sample a b other = ⊥

-- What the values of `--sample`, `-a` and `-b` say of the figures, before their sources are made.
abbrev pub AreFigures : Value → Value → Value → Figures → Type 0
AreFigures sample a b (OfSample n) = ComeFromSample sample a b n (Text []) (Text [])
AreFigures sample a b (OfSources value_a value_b) = ComeFromSources sample a b (source_of value_a.now) (source_of value_b.now)

-- The two sources and the sample's number, once they are made.
abbrev pub AreMade : Figures → Source → Source → Option ℕ → Type 0
AreMade (OfSample n) source_a source_b sample = (source_a ≡ Text []) × (source_b ≡ Text []) × (sample ≡ Some n)
AreMade (OfSources value_a value_b) source_a source_b sample =
    (source_a ≡ source_of value_a.now) × (source_b ≡ source_of value_b.now) × (sample ≡ None)

-- The operation is one that there is.
pub record HasOperation (operation : Value) : Type 0 where
  pub one : Operation
  pub is : operation ≡ Some (operation_word one)

-- The first fault of the operation and the argument.
abbrev pub IsQueryFault : Value → Value → UsageFault → Type 0
IsQueryFault operation argument fault.Operation = IsBadOperation operation
IsQueryFault operation argument fault.Argument = HasOperation operation × IsBadArgument operation argument
IsQueryFault operation argument (fault.BadMatch place) = IsBadPattern operation argument place
IsQueryFault operation argument other = ⊥

-- The fault of the value of `--rule`.
abbrev pub IsRuleFault : Value → UsageFault → Type 0
IsRuleFault value one = (one ≡ fault.RuleName) × IsBadRule value

-- The fault of the value of `--threads`.
abbrev pub IsThreadsFault : Value → UsageFault → Type 0
IsThreadsFault value one = (one ≡ fault.Threads) × AreBadThreads value

-- The fault of the value of `--scale`.
abbrev pub IsScaleFault : Value → UsageFault → Type 0
IsScaleFault value one = (one ≡ fault.Scale) × IsBadScale value
