-- The first fault of a figure, as an answer names it.
use Rattle.std.specs.Prelude.{◌≡◌, ℕ, ◌+◌, ◌<◌, List, length, Result, Ok, Err}
use Rattle.point_set.specs.declared.figure.Area.{Area}
use Rattle.point_set.specs.declared.figure.Figure.{Figure}
use Rattle.point_set.specs.Validity.{IsAtPlace, Clause, rank_of, Fails, IsFirstFault, too_few_points, ring_cross, rings_share_edge}
use Rattle.point_set.specs.Validity.{hole_outside, holes_overlap, disconnected, elements_share_edge, elements_overlap}
use Rattle.geom_valid.specs.declared.kinds.AdmitFault.{AdmitFault}
use Rattle.geom_valid.specs.declared.kinds.AdmitFault.TheVariants as fault
use Rattle.geom_valid.specs.declared.kinds.InvalidKind.{InvalidKind}
use Rattle.geom_valid.specs.declared.kinds.InvalidKind.TheVariants as kind

-- The clause that a kind of fault names.
abbrev pub clause_of : InvalidKind → Clause
clause_of kind.TooFewPoints = too_few_points
clause_of kind.RingCross = ring_cross
clause_of kind.RingsShareEdge = rings_share_edge
clause_of kind.HoleOutside = hole_outside
clause_of kind.HolesOverlap = holes_overlap
clause_of kind.Disconnected = disconnected
clause_of kind.ElementsShareEdge = elements_share_edge
clause_of kind.ElementsOverlap = elements_overlap

-- No area before a place fails a clause.
abbrev pub AreSoundBefore : Figure → ℕ → Type 0
AreSoundBefore f place = (before : ℕ) → before < place → (clause : Clause) → ¬ Fails f before clause

-- The areas are those of a figure before a place.
pub record AreFirstAreas (f : Figure) (place : ℕ) (areas : List Area) : Type 0 where
  pub count : length areas ≡ place
  pub each : (before : ℕ) (area : Area) → IsAtPlace areas before area → IsAtPlace f.areas before area

-- The area at a place fails no clause.
abbrev pub IsSoundAt : Figure → ℕ → Type 0
IsSoundAt f place = (clause : Clause) → ¬ Fails f place clause

-- The area at a place fails no clause that is tested before one of this rank.
abbrev pub IsSoundUpTo : Figure → ℕ → ℕ → Type 0
IsSoundUpTo f place rank = (clause : Clause) → rank_of clause < rank → ¬ Fails f place clause

-- This is the first clause that the area at a place fails.
pub record IsFirstAt (f : Figure) (place : ℕ) (which : InvalidKind) : Type 0 where
  pub fails : Fails f place (clause_of which)
  pub first : IsSoundUpTo f place (rank_of (clause_of which))

-- The area fails no clause that is tested before one of this rank, in whatever figure it stands.
abbrev pub IsAreaSoundUpTo : Area → ℕ → Type 0
IsAreaSoundUpTo area rank = (f : Figure) (place : ℕ) → IsAtPlace f.areas place area → IsSoundUpTo f place rank

-- This is the first clause that the area fails, in whatever figure it stands.
abbrev pub IsFirstOfArea : Area → InvalidKind → Type 0
IsFirstOfArea area which = (f : Figure) (place : ℕ) → IsAtPlace f.areas place area → IsFirstAt f place which

-- What the tests before one of this rank answered: the area where it fails none of these clauses, or else the first one that it fails.
abbrev pub IsTestedUpTo : Area → ℕ → Result Area InvalidKind → Type 0
IsTestedUpTo area rank (Ok read) = (read ≡ area) × IsAreaSoundUpTo area rank
IsTestedUpTo area rank (Err which) = IsFirstOfArea area which

-- The first fault of a figure, with the number of its area counted from 1.
pub record IsFirstFaultOf (f : Figure) (which : InvalidKind) (element : ℕ) : Type 0 where
  pub place : ℕ
  pub counted : element ≡ place + 1
  pub is_first : IsFirstFault f place (clause_of which)

-- A figure isn't admitted for its first fault, or memory is wanting.
abbrev pub IsRefusedFor : Figure → AdmitFault → Type 0
IsRefusedFor f (fault.Bad which element) = IsFirstFaultOf f which element
IsRefusedFor f fault.NoMemory = Unit {0}

-- The answer is the figure, unless memory is wanting.
abbrev pub IsAdmittedAs : Result Figure AdmitFault → Figure → Type 0
IsAdmittedAs (Ok v) f = v ≡ f
IsAdmittedAs (Err (fault.Bad which element)) f = ⊥
IsAdmittedAs (Err fault.NoMemory) f = Unit {0}

-- The answer is this fault, unless memory is wanting.
abbrev pub IsFaultAt : Result Figure AdmitFault → InvalidKind → ℕ → Type 0
IsFaultAt (Ok v) which element = ⊥
IsFaultAt (Err (fault.Bad k e)) which element = (k ≡ which) × (e ≡ element)
IsFaultAt (Err fault.NoMemory) which element = Unit {0}
