-- What a source is asked for, how far it is read, and what comes of it.
use Rattle.std.specs.Prelude.{◌≡◌, ℕ, ◌+◌, ◌≤◌, ◌⊎◌, true, List, Option, Some, None, codes, length, ⊤}
use Rattle.std.specs.Io.KnownBytes.{IsAtEnd}
use Rattle.im_matrix.specs.declared.Which.{Which}
use Rattle.point_set.specs.declared.figure.Figure.{Figure}
use Rattle.geosop_io.specs.Counts.{one_more}
use Rattle.geosop_io.specs.Inputs.{InputsSeen}
use Rattle.geosop_line.specs.declared.config.Source.{Source}
use Rattle.geosop_line.specs.declared.config.Source.TheVariants as source
use Rattle.geosop_run.specs.declared.status.Refusal.{Refusal}
use Rattle.geosop_run.specs.declared.status.Refusal.TheVariants as refusal
use Rattle.geosop_run.specs.declared.sources.SideFault.{SideFault}
use Rattle.geosop_run.specs.declared.sources.SideFault.TheVariants as fault
use Rattle.geosop_run.specs.Sources.{most_bytes, IsRefusalOf, IsAdmitted}

-- The name with which a source is asked for: a file's own, or `stdin`. A text isn't asked for.
abbrev pub name_of : Source → Option (List ℕ)
name_of (source.Text word) = None
name_of (source.File word) = Some word
name_of source.Stdin = Some (codes "stdin")

-- What holds of the name of a source; nothing of a text, which stands in the words.
abbrev pub IfNamed : Source → (List ℕ → Type 0) → Type 0
IfNamed (source.Text word) Holds = ⊤
IfNamed (source.File word) Holds = Holds word
IfNamed source.Stdin Holds = Holds (codes "stdin")

-- The bytes of a source, where they are told: a text's own, or those that its name has.
abbrev pub bytes_of : (List ℕ → Option (List ℕ)) → Source → Option (List ℕ)
bytes_of holds (source.Text word) = Some word
bytes_of holds (source.File word) = holds word
bytes_of holds source.Stdin = holds (codes "stdin")

-- A side was asked for by its source's name, or not at all.
abbrev pub IsAskedOrNot : Source → Option (List ℕ) → Type 0
IsAskedOrNot from asked = (asked ≡ None) ⊎ (asked ≡ name_of from)

-- A side was asked for by a name, started and read to its end: within the limit a read with room met the end, and nothing is left.
pub record IsReadToEnd (side : Which) (name : List ℕ) (seen : InputsSeen) : Type 0 where
  pub asked : seen.asked side ≡ Some name
  pub started : seen.started side ≡ true
  pub within : seen.given side ≤ most_bytes
  pub ended : seen.ended side ≡ true
  pub nothing_left : IsAtEnd (seen.left side)

-- A side was asked for by a name, started, and has given one byte more than the limit.
pub record IsReadPastLimit (side : Which) (name : List ℕ) (seen : InputsSeen) : Type 0 where
  pub asked : seen.asked side ≡ Some name
  pub started : seen.started side ≡ true
  pub given : seen.given side ≡ most_bytes + 1

-- How far a side was read for a refusal: past the limit, or to its end.
abbrev pub IsReadFor : Refusal → List ℕ → InputsSeen → Type 0
IsReadFor (refusal.TooLong side) name seen = IsReadPastLimit side name seen
IsReadFor (refusal.Text side number kind place) name seen = IsReadToEnd side name seen
IsReadFor (refusal.Shape side number kind element) name seen = IsReadToEnd side name seen

-- The side of a refusal.
abbrev pub side_of : Refusal → Which
side_of (refusal.TooLong side) = side
side_of (refusal.Text side number kind place) = side
side_of (refusal.Shape side number kind element) = side

-- A side's source is admitted as these figures: it was read to its end, and where its bytes are told, they are admitted so.
pub record IsAdmittedFrom (scale : ℕ) (side : Which) (from : Source) (before after : InputsSeen) (figures : List Figure) : Type 0 where
  pub read : IfNamed from (λ name. IsReadToEnd side name after)
  pub admitted : (bytes : List ℕ) → bytes_of before.holds from ≡ Some bytes → IsAdmitted scale bytes figures

-- A source is refused: it was read as far as the refusal needs, and where its bytes are told, this is their refusal.
pub record IsRefusedFrom (scale : ℕ) (from : Source) (before after : InputsSeen) (found : Refusal) : Type 0 where
  pub read : IfNamed from (λ name. IsReadFor found name after)
  pub refusal : (bytes : List ℕ) → bytes_of before.holds from ≡ Some bytes → IsRefusalOf scale (side_of found) bytes found

-- A side's source couldn't be read: it was asked for by its name, and one more fault was counted.
pub record IsUnreadable (side : Which) (from : Source) (before after : InputsSeen) : Type 0 where
  pub name : List ℕ
  pub named : name_of from ≡ Some name
  pub asked : after.asked side ≡ Some name
  pub counted : after.faults ≡ one_more before.faults

-- Why a side gave no figures. A fault is counted only where it couldn't be read.
abbrev pub IsSideFault : ℕ → Which → Source → InputsSeen → InputsSeen → SideFault → Type 0
IsSideFault scale side from before after (fault.Refused found) =
    (side_of found ≡ side) × IsRefusedFrom scale from before after found × (after.faults ≡ before.faults)
IsSideFault scale side from before after fault.ReadFault = IsUnreadable side from before after
IsSideFault scale side from before after fault.NoMemory = after.faults ≡ before.faults

-- The bytes of a side's source, read whole.
pub record AreBytesFrom (side : Which) (from : Source) (before after : InputsSeen) (bytes : List ℕ) : Type 0 where
  pub read : IfNamed from (λ name. IsReadToEnd side name after)
  pub told : (all : List ℕ) → bytes_of before.holds from ≡ Some all → bytes ≡ all
  pub within : length bytes ≤ most_bytes
  pub uncounted : after.faults ≡ before.faults

-- Why the text of a side gave no figures: its refusal, or want of memory.
abbrev pub IsTextFault : ℕ → Which → List ℕ → SideFault → Type 0
IsTextFault scale side bytes (fault.Refused refused) = IsRefusalOf scale side bytes refused
IsTextFault scale side bytes fault.ReadFault = ⊥
IsTextFault scale side bytes fault.NoMemory = ⊤
