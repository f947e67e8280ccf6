-- The headline: what a run says by its status, and which status comes of which words and bytes.
use Rattle.std.specs.Prelude.{◌≡◌, ℕ, ◌⊎◌, true, List, Some, None}
use Rattle.im_matrix.specs.declared.Which.{Which}
use Rattle.im_matrix.specs.declared.Which.TheVariants.{A, B}
use Rattle.point_set.specs.declared.figure.Figure.{Figure}
use Rattle.geosop_io.specs.Counts.{IsRisen}
use Rattle.geosop_io.specs.Inputs.{InputsSeen}
use Rattle.geosop_io.specs.Sink.{SinkSeen, HasTakenFront, HasFailedAt, after_taking}
use Rattle.geosop_line.specs.declared.config.Source.{Source}
use Rattle.geosop_line.specs.declared.config.Config.{Config}
use Rattle.geosop_line.specs.declared.config.UsageFault.{UsageFault}
use Rattle.geosop_run.specs.declared.status.Refusal.{Refusal}
use Rattle.geosop_run.specs.declared.status.Status.{Status}
use Rattle.geosop_run.specs.declared.status.Status.TheVariants as status
use Rattle.geosop_line.specs.CommandLine.{IsLine, IsFirstFault}
use Rattle.geosop_run.specs.Asking.{name_of, bytes_of, side_of, IsAdmittedFrom, IsRefusedFrom, IsUnreadable}
use Rattle.geosop_run.specs.Sources.{IsRefusalOf, IsAdmitted, IsFirstRefusal}
use Rattle.geosop_run.specs.Text.{IsTextUnless, IsToldOf}

-- What a run is given and what it leaves: the words of its command line, and what is seen of its inputs and of its output before
-- it and after it.
pub record Run : Type 0 where
  pub words : List (List ℕ)
  pub inputs_before : InputsSeen
  pub inputs_after : InputsSeen
  pub output_before : SinkSeen
  pub output_after : SinkSeen

-- The source of a side.
abbrev pub source_of_side : Config → Which → Source
source_of_side command A = command.a
source_of_side command B = command.b

-- A side's bytes are told, and are these.
abbrev pub HasBytes : Run → Config → Which → List ℕ → Type 0
HasBytes run command side bytes = bytes_of run.inputs_before.holds (source_of_side command side) ≡ Some bytes

-- A side is admitted as these figures: a file or standard input was asked for by its name and read to its end, and where its
-- bytes are told, they are within the limit and read as these figures.
abbrev pub IsAdmittedAs : Run → Config → Which → List Figure → Type 0
IsAdmittedAs run command side figures =
    IsAdmittedFrom command.scale.digits side (source_of_side command side) run.inputs_before run.inputs_after figures

-- No fault of the inputs was counted.
abbrev pub IsReadWell : Run → Type 0
IsReadWell run = run.inputs_after.faults ≡ run.inputs_before.faults

-- Nothing was written, and no fault of the output was counted.
abbrev pub IsUnwritten : Run → Type 0
IsUnwritten run = run.output_after ≡ run.output_before

-- Both sides are admitted, and this is what is told of their pairs: the lines of all, in order, or under a sample the summary of
-- its lines. A quiet run tells nothing.
pub record HasText (run : Run) (command : Config) (text : List ℕ) : Type 0 where
  pub in_a : List Figure
  pub in_b : List Figure
  pub admitted_a : IsAdmittedAs run command A in_a
  pub admitted_b : IsAdmittedAs run command B in_b
  pub is_text : IsTextUnless command.quiet (IsToldOf command.sample command.rule command.query in_a in_b) text

-- Ok: the output took the whole text, and no fault was counted.
pub record SaysOk (run : Run) (command : Config) : Type 0 where
  pub text : List ℕ
  pub of_pairs : HasText run command text
  pub written : run.output_after ≡ after_taking run.output_before text
  pub read_well : IsReadWell run

-- Nothing was asked for and nothing was written, and no fault was counted: the inputs and the output are as they were.
pub record IsUnbegun (run : Run) : Type 0 where
  pub unasked : run.inputs_after ≡ run.inputs_before
  pub unwritten : IsUnwritten run

-- Usage: the words have this first fault. The inputs and the output are as they were.
pub record SaysUsage (run : Run) (found : UsageFault) : Type 0 where
  pub first : IsFirstFault run.words found
  pub unbegun : IsUnbegun run

-- How far a run had come where it ended at a side: at A, B wasn't asked for; at B, A was admitted whole.
abbrev pub HasComeTo : Run → Config → Which → Type 0
HasComeTo run command A = run.inputs_after.asked B ≡ None
HasComeTo run command B = (figures : List Figure) × IsAdmittedAs run command A figures

-- Refused: this is the refusal of its side, whatever the other side is, and of both the first. Nothing was written, and no fault was
-- counted.
pub record SaysRefused (run : Run) (command : Config) (found : Refusal) : Type 0 where
  pub come : HasComeTo run command (side_of found)
  pub refused : IsRefusedFrom command.scale.digits (source_of_side command (side_of found)) run.inputs_before run.inputs_after found
  pub first : (a b : List ℕ) → HasBytes run command A a → HasBytes run command B b → IsFirstRefusal command.scale.digits a b found
  pub unwritten : IsUnwritten run
  pub read_well : IsReadWell run

-- ReadFault: a side's file or standard input couldn't be read, and one fault was counted for it. Nothing was written.
pub record SaysReadFault (run : Run) (command : Config) : Type 0 where
  pub side : Which
  pub come : HasComeTo run command side
  pub unreadable : IsUnreadable side (source_of_side command side) run.inputs_before run.inputs_after
  pub unwritten : IsUnwritten run

-- WriteFault: the output took a front of the text, and then counted one fault. The inputs counted none.
pub record SaysWriteFault (run : Run) (command : Config) : Type 0 where
  pub text : List ℕ
  pub of_pairs : HasText run command text
  pub front : HasFailedAt run.output_before run.output_after text
  pub read_well : IsReadWell run

-- Both sides are admitted, and the output took a front of the text and counted no fault.
pub record HasBegun (run : Run) (command : Config) : Type 0 where
  pub text : List ℕ
  pub of_pairs : HasText run command text
  pub front : HasTakenFront run.output_before run.output_after text

-- NoMemory: nothing was written, or a front of the text where both sides are admitted. No fault was counted.
pub record SaysNoMemory (run : Run) (command : Config) : Type 0 where
  pub written : IsUnwritten run ⊎ HasBegun run command
  pub read_well : IsReadWell run

-- The words are a command of which this holds.
pub record OfCommand (words : List (List ℕ)) (Holds : Config → Type 0) : Type 0 where
  pub command : Config
  pub is_command : IsLine words command
  pub holds : Holds command

-- What a run says by its status. Every status but Usage comes of a command, and NoMemory may also come while the words are read.
abbrev pub SaysOf : Run → Status → Type 0
SaysOf run status.Ok = OfCommand run.words (SaysOk run)
SaysOf run (status.Usage found) = SaysUsage run found
SaysOf run (status.Refused found) = OfCommand run.words (λ command. SaysRefused run command found)
SaysOf run status.ReadFault = OfCommand run.words (SaysReadFault run)
SaysOf run status.WriteFault = OfCommand run.words (SaysWriteFault run)
SaysOf run status.NoMemory = IsUnbegun run ⊎ OfCommand run.words (SaysNoMemory run)

-- A run ended with this fault of the words, unless want of memory ended it.
abbrev pub IsUsageOrStopped : Status → UsageFault → Type 0
IsUsageOrStopped ended found = (ended ≡ status.Usage found) ⊎ (ended ≡ status.NoMemory)

-- A side was asked for by the name that the command gives to it, or not at all.
abbrev pub IsAskedRightly : Run → Which → Type 0
IsAskedRightly run side =
    (run.inputs_after.asked side ≡ None)
    ⊎ OfCommand run.words (λ command. run.inputs_after.asked side ≡ name_of (source_of_side command side))

-- B was asked for only after A was admitted whole.
abbrev pub IsLastAsked : Run → Type 0
IsLastAsked run =
    (run.inputs_after.asked B ≡ None)
    ⊎ OfCommand run.words (λ command. (figures : List Figure) × IsAdmittedAs run command A figures)

-- A run ended with this refusal, unless a read fault or want of memory ended it.
abbrev pub IsRefusedOrStopped : Status → Refusal → Type 0
IsRefusedOrStopped ended found = (ended ≡ status.Refused found) ⊎ ((ended ≡ status.ReadFault) ⊎ (ended ≡ status.NoMemory))

-- What comes of a command and the bytes of its sources. Want of memory is the one free answer.
pub record ComesOf (run : Run) (command : Config) (ended : Status) : Type 0 where
  -- Two sides that are both admitted end Ok, where no fault is counted.
  pub completes : (a b : List ℕ) → HasBytes run command A a → HasBytes run command B b → (in_a in_b : List Figure)
      → IsAdmitted command.scale.digits a in_a → IsAdmitted command.scale.digits b in_b
      → (¬ IsRisen run.inputs_before.faults run.inputs_after.faults) → (¬ IsRisen run.output_before.faults run.output_after.faults)
      → (ended ≡ status.Ok) ⊎ (ended ≡ status.NoMemory)
  -- The first refusal of the input comes out, unless a fault is counted; that of A whatever B is, and then B isn't asked for.
  pub refusal : (a b : List ℕ) → HasBytes run command A a → HasBytes run command B b
      → (found : Refusal) → IsFirstRefusal command.scale.digits a b found → IsRefusedOrStopped ended found
  pub refusal_of_a : (a : List ℕ) → HasBytes run command A a → (found : Refusal) → IsRefusalOf command.scale.digits A a found
      → IsRefusedOrStopped ended found
  pub b_unasked : (a : List ℕ) → HasBytes run command A a → (found : Refusal) → IsRefusalOf command.scale.digits A a found
      → run.inputs_after.asked B ≡ None
  -- A quiet run writes nothing, and no fault of its output is counted.
  pub quiet : command.quiet ≡ true → IsUnwritten run
  -- Where a side has a refusal nothing is written, whatever the status and the other side.
  pub unwritten : (side : Which) (bytes : List ℕ) → HasBytes run command side bytes
      → (found : Refusal) → IsRefusalOf command.scale.digits side bytes found → IsUnwritten run

-- What a run says: by its status; whatever its status, for what it asked; and what comes of its words, by their first fault or as a
-- command.
pub record IsRun (run : Run) (ended : Status) : Type 0 where
  pub says : SaysOf run ended
  pub asked : (side : Which) → IsAskedRightly run side
  pub b_last : IsLastAsked run
  pub usage_comes : (found : UsageFault) → IsFirstFault run.words found → IsUsageOrStopped ended found
  pub usage_unbegun : (found : UsageFault) → IsFirstFault run.words found → IsUnbegun run
  pub comes : (command : Config) → IsLine run.words command → ComesOf run command ended
