-- One step of reading a source.
use Rattle.std.specs.Prelude.{◌≡◌, ℕ, ◌<◌, ◌≤◌, List, length, Option, Some, None, ⊤}
use Rattle.im_matrix.specs.declared.Which.{Which}
use Rattle.point_set.specs.declared.figure.Figure.{Figure}
use Rattle.point_set.specs.Shape.{IsWellShaped}
use Rattle.wkt_text.specs.declared.read.Parsed.{Parsed}
use Rattle.wkt_text.specs.Faults.{Reads, FirstFault, IsOnlyWhite}
use Rattle.geom_valid.specs.Faults.{IsFirstFaultOf}
use Rattle.geosop_run.specs.declared.status.Refusal.TheVariants as refusal
use Rattle.geosop_run.specs.declared.sources.SideFault.{SideFault}
use Rattle.geosop_run.specs.declared.sources.SideFault.TheVariants as fault
use Rattle.geosop_run.specs.Sources.{IsSound, IsGeometryAt, IsInvalidAt}

-- The text of a figure was read from a place to its end.
pub record IsParsed (scale : ℕ) (bytes : List ℕ) (at : ℕ) (f : Figure) (end : ℕ) : Type 0 where
  pub reads : Reads scale bytes at f end
  pub shaped : IsWellShaped f
  pub within : end ≤ length bytes

-- What a text goes on with at a place: the text of a figure, or white space alone.
abbrev pub IsNextText : ℕ → List ℕ → ℕ → Option Parsed → Type 0
IsNextText scale bytes at None = IsOnlyWhite bytes at
IsNextText scale bytes at (Some found) = IsParsed scale bytes at found.figure found.«end»

-- Why no text is read at a place: the fault of the text of the geometry of this number, or want of memory.
abbrev pub HasNoText : ℕ → Which → ℕ → List ℕ → ℕ → SideFault → Type 0
HasNoText scale side number bytes at (fault.Refused (refusal.TooLong of_side)) = ⊥
HasNoText scale side number bytes at (fault.Refused (refusal.Text of_side of_number kind place)) =
    (of_side ≡ side) × (of_number ≡ number) × FirstFault scale bytes at kind place
HasNoText scale side number bytes at (fault.Refused (refusal.Shape of_side of_number kind element)) = ⊥
HasNoText scale side number bytes at fault.ReadFault = ⊥
HasNoText scale side number bytes at fault.NoMemory = ⊤

-- Why a figure isn't admitted as the geometry of this number: its first fault, or want of memory.
abbrev pub IsUnfit : Which → ℕ → Figure → SideFault → Type 0
IsUnfit side number f (fault.Refused (refusal.TooLong of_side)) = ⊥
IsUnfit side number f (fault.Refused (refusal.Text of_side of_number kind place)) = ⊥
IsUnfit side number f (fault.Refused (refusal.Shape of_side of_number kind element)) =
    (of_side ≡ side) × (of_number ≡ number) × IsFirstFaultOf f kind element
IsUnfit side number f fault.ReadFault = ⊥
IsUnfit side number f fault.NoMemory = ⊤

-- A geometry was read from a place to a later one, and its figure admitted.
pub record IsReadTo (scale : ℕ) (bytes : List ℕ) (at : ℕ) (f : Figure) (end : ℕ) : Type 0 where
  pub geometry : IsGeometryAt scale bytes at f end
  pub sound : IsSound f
  pub onward : at < end
  pub within : end ≤ length bytes

-- What comes next at a place: a geometry, or white space alone.
abbrev pub IsNext : ℕ → List ℕ → ℕ → Option (Figure × ℕ) → Type 0
IsNext scale bytes at None = IsOnlyWhite bytes at
IsNext scale bytes at (Some found) = IsReadTo scale bytes at found.0 found.1

-- Why nothing is read at a place: the refusal of the geometry of this number, by its text or by its figure, or want of memory.
abbrev pub StopsAt : ℕ → Which → ℕ → List ℕ → ℕ → SideFault → Type 0
StopsAt scale side number bytes at (fault.Refused (refusal.TooLong of_side)) = ⊥
StopsAt scale side number bytes at (fault.Refused (refusal.Text of_side of_number kind place)) =
    (of_side ≡ side) × (of_number ≡ number) × FirstFault scale bytes at kind place
StopsAt scale side number bytes at (fault.Refused (refusal.Shape of_side of_number kind element)) =
    (of_side ≡ side) × (of_number ≡ number) × IsInvalidAt scale bytes at kind element
StopsAt scale side number bytes at fault.ReadFault = ⊥
StopsAt scale side number bytes at fault.NoMemory = ⊤
