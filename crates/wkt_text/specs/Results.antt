-- What a reading answers.
use Rattle.std.specs.Prelude.{◌≡◌, ℕ, List, Option, Some, None, Result, Ok, Err}
use Rattle.point_set.specs.declared.figure.Figure.{Figure}
use Rattle.wkt_text.specs.declared.control.WktKind.{WktKind}
use Rattle.wkt_text.specs.declared.read.Parsed.{Parsed}
use Rattle.wkt_text.specs.declared.read.WktFault.{WktFault}
use Rattle.wkt_text.specs.declared.read.WktFault.TheVariants as fault
use Rattle.wkt_text.specs.Faults.{FirstFault, RunsOut}

-- A fault of a text is its first fault, or memory ran out before it.
abbrev pub IsFirstFault : WktFault → ℕ → List ℕ → ℕ → Type 0
IsFirstFault (fault.Bad kind place) scale bytes from = FirstFault scale bytes from kind place
IsFirstFault fault.NoMemory scale bytes from = RunsOut scale bytes from

-- The answer is this figure and end, unless memory is wanting.
abbrev pub IsReadAs : Result (Option Parsed) WktFault → Figure → ℕ → Type 0
IsReadAs (Ok (Some p)) figure last = (p.figure ≡ figure) × (p.«end» ≡ last)
IsReadAs (Ok None) figure last = ⊥
IsReadAs (Err (fault.Bad kind place)) figure last = ⊥
IsReadAs (Err fault.NoMemory) figure last = Unit {0}

-- The answer is this fault, unless memory is wanting.
abbrev pub IsFaultAt : Result (Option Parsed) WktFault → WktKind → ℕ → Type 0
IsFaultAt (Ok found) kind place = ⊥
IsFaultAt (Err (fault.Bad k p)) kind place = (k ≡ kind) × (p ≡ place)
IsFaultAt (Err fault.NoMemory) kind place = Unit {0}
