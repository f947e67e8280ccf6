-- The configuration of a command line, or its first fault.
use Rattle.std.specs.Prelude.{◌≡◌, ◌≢◌, ◌<◌, ◌↔◌, ⊤, ℕ, IsTrue, List, [], Some, codes}
use Rattle.clap.specs.Walk.{Row}
use Rattle.clap.specs.Kinds.{Kinds}
use Rattle.geosop_line.specs.Arguments.{matches, refusals, value_of}
use Rattle.geosop_line.specs.Figures.{AreBadSources, AreFiguresOf, IsBadSample}
use Rattle.geosop_line.specs.Operations.{Asks, IsBadArgument, IsBadOperation, IsBadPattern}
use Rattle.geosop_line.specs.Settings.{AreBadThreads, IsBadRule, IsBadScale, IsRule, IsScale, IsThreads}
use Rattle.geosop_line.specs.declared.config.Config.{Config}
use Rattle.geosop_line.specs.declared.config.LineFault.{LineFault}
use Rattle.geosop_line.specs.declared.config.LineFault.TheVariants.{Usage, NoMemory}
use Rattle.geosop_line.specs.declared.config.UsageFault.{UsageFault}
use Rattle.geosop_line.specs.declared.config.UsageFault.TheVariants.{Line, Sample, Sources, Operation, Argument, BadMatch, RuleName}
use Rattle.geosop_line.specs.declared.config.UsageFault.TheVariants.{Threads, Scale}

-- What the matches say of each part of the configuration.
pub record IsConfig (rows : List Row) (config : Config) : Type 0 where
  pub figures :
      AreFiguresOf (value_of (codes "sample") rows) (value_of (codes "a") rows) (value_of (codes "b") rows) config.sample config.a config.b
  pub query : Asks (value_of (codes "op") rows) (value_of (codes "arg") rows) config.query
  pub rule : IsRule (value_of (codes "rule") rows) config.rule
  pub threads : IsThreads (value_of (codes "threads") rows) config.threads
  pub scale : IsScale (value_of (codes "scale") rows) config.scale
  pub quiet : IsTrue config.quiet ↔ (value_of (codes "quiet") rows ≡ Some (codes "true"))
  pub prepared : IsTrue config.prepared ↔ (value_of (codes "prepared") rows ≡ Some (codes "true"))

-- When clap's refusals and its matches have a fault, whatever the other faults.
abbrev pub Fails : Kinds → List Row → UsageFault → Type 0
Fails refused rows Line = refused ≢ []
Fails refused rows Sample = IsBadSample (value_of (codes "sample") rows) (value_of (codes "a") rows) (value_of (codes "b") rows)
Fails refused rows Sources = AreBadSources (value_of (codes "sample") rows) (value_of (codes "a") rows) (value_of (codes "b") rows)
Fails refused rows Operation = IsBadOperation (value_of (codes "op") rows)
Fails refused rows Argument = IsBadArgument (value_of (codes "op") rows) (value_of (codes "arg") rows)
Fails refused rows (BadMatch place) = IsBadPattern (value_of (codes "op") rows) (value_of (codes "arg") rows) place
Fails refused rows RuleName = IsBadRule (value_of (codes "rule") rows)
Fails refused rows Threads = AreBadThreads (value_of (codes "threads") rows)
Fails refused rows Scale = IsBadScale (value_of (codes "scale") rows)

-- The order in which the faults are tested.
abbrev pub rank : UsageFault → ℕ
rank Line = 0
rank Sample = 1
rank Sources = 2
rank Operation = 3
rank Argument = 4
rank (BadMatch place) = 5
rank RuleName = 6
rank Threads = 7
rank Scale = 8

-- The fault is there, and none that is tested before it.
pub record IsFirst (refused : Kinds) (rows : List Row) (fault : UsageFault) : Type 0 where
  pub fails : Fails refused rows fault
  pub first : (other : UsageFault) → rank other < rank fault → ¬ Fails refused rows other

-- The configuration of a command line: clap refuses nothing, and it is what the matches say.
pub record IsLine (words : List (List ℕ)) (config : Config) : Type 0 where
  pub taken : refusals words ≡ []
  pub has : IsConfig (matches words) config

-- The first fault of a command line.
abbrev pub IsFirstFault : List (List ℕ) → UsageFault → Type 0
IsFirstFault words = IsFirst (refusals words) (matches words)

-- Why refusals and matches give no configuration: their first fault, or want of memory, of which nothing is said.
abbrev pub IsFaultOf : Kinds → List Row → LineFault → Type 0
IsFaultOf refused rows (Usage fault) = IsFirst refused rows fault
IsFaultOf refused rows NoMemory = ⊤

-- Why a command line gives no configuration.
abbrev pub IsLineFault : List (List ℕ) → LineFault → Type 0
IsLineFault words = IsFaultOf (refusals words) (matches words)

-- A command line has one configuration at most.
abbrev pub ConfigIsOne : Type 0
ConfigIsOne = (words : List (List ℕ)) (config other : Config) → IsLine words config → IsLine words other → config ≡ other

-- A command line has one first fault at most.
abbrev pub FirstFaultIsOne : Type 0
FirstFaultIsOne = (words : List (List ℕ)) (fault other : UsageFault) → IsFirstFault words fault → IsFirstFault words other → fault ≡ other

-- A command line with a configuration has no first fault.
abbrev pub AConfigIsNoFault : Type 0
AConfigIsNoFault = (words : List (List ℕ)) (config : Config) (fault : UsageFault) → IsLine words config → ¬ IsFirstFault words fault
