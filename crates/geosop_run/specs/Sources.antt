-- The figures of a source, and the first geometry with a fault.
use Rattle.std.specs.Prelude.{◌≡◌, ℕ, ◌+◌, ◌<◌, ◌≤◌, ◌⊎◌, List, [], ◌∷◌, length}
use Rattle.im_matrix.specs.declared.Which.{Which}
use Rattle.im_matrix.specs.declared.Which.TheVariants.{A, B}
use Rattle.point_set.specs.declared.figure.Figure.{Figure}
use Rattle.point_set.specs.Shape.{IsWellShaped}
use Rattle.point_set.specs.Validity.{IsValid}
use Rattle.wkt_text.specs.Faults.{Reads, FirstFault, IsOnlyWhite}
use Rattle.wkt_text.specs.declared.control.WktKind.{WktKind}
use Rattle.geom_valid.specs.declared.kinds.InvalidKind.{InvalidKind}
use Rattle.geom_valid.specs.Faults.{IsFirstFaultOf}
use Rattle.geosop_run.specs.declared.status.Refusal.{Refusal}
use Rattle.geosop_run.specs.declared.status.Refusal.TheVariants as refusal

-- A figure that may be related: well shaped and valid.
pub record IsSound (f : Figure) : Type 0 where
  pub shaped : IsWellShaped f
  pub valid : IsValid f

-- A geometry stands at a place, with its figure, which is valid, and its end.
pub record IsGeometryAt (scale : ℕ) (bytes : List ℕ) (at : ℕ) (f : Figure) (end : ℕ) : Type 0 where
  pub reads : Reads scale bytes at f end
  pub valid : IsValid f

-- From the start of the first to the end of the last.
pub record Onward (IsFirst : ℕ → Type 0) (IsRest : ℕ → Type 0) : Type 0 where
  pub middle : ℕ
  pub first : IsFirst middle
  pub rest : IsRest middle

-- Geometries one after the other, from a place to the end of the last.
abbrev pub AreGeometries : ℕ → List ℕ → ℕ → List Figure → ℕ → Type 0
AreGeometries scale bytes at [] end = at ≡ end
AreGeometries scale bytes at (f ∷ others) end =
    Onward (IsGeometryAt scale bytes at f) (λ middle. AreGeometries scale bytes middle others end)

-- A source is these figures: their geometries one after the other, and then white space alone.
pub record IsSource (scale : ℕ) (bytes : List ℕ) (figures : List Figure) : Type 0 where
  pub end : ℕ
  pub geometries : AreGeometries scale bytes 0 figures end
  pub blank : IsOnlyWhite bytes end

-- Geometry number i of a source, counted from 1, is the first with a fault, which is one of its text: this one at this place.
pub record IsFaultAt (scale : ℕ) (bytes : List ℕ) (number : ℕ) (kind : WktKind) (place : ℕ) : Type 0 where
  pub before : List Figure
  pub at : ℕ
  pub geometries : AreGeometries scale bytes 0 before at
  pub counted : number ≡ length before + 1
  pub fault : FirstFault scale bytes at kind place

-- The text at a place is that of a figure that isn't valid, and this is its first fault, in this element.
pub record IsInvalidAt (scale : ℕ) (bytes : List ℕ) (at : ℕ) (kind : InvalidKind) (element : ℕ) : Type 0 where
  pub figure : Figure
  pub end : ℕ
  pub reads : Reads scale bytes at figure end
  pub fault : IsFirstFaultOf figure kind element

-- Geometry number i of a source is the first with a fault, which is one of its figure: this one in this element.
pub record IsShapeFaultAt (scale : ℕ) (bytes : List ℕ) (number : ℕ) (kind : InvalidKind) (element : ℕ) : Type 0 where
  pub before : List Figure
  pub at : ℕ
  pub geometries : AreGeometries scale bytes 0 before at
  pub counted : number ≡ length before + 1
  pub invalid : IsInvalidAt scale bytes at kind element

-- The greatest number of bytes of a source.
abbrev pub most_bytes : ℕ
most_bytes = 33554432

-- The refusal of a side by its bytes.
abbrev pub IsRefusalOf : ℕ → Which → List ℕ → Refusal → Type 0
IsRefusalOf scale side bytes (refusal.TooLong of_side) = (of_side ≡ side) × (most_bytes < length bytes)
IsRefusalOf scale side bytes (refusal.Text of_side number kind place) =
    (of_side ≡ side) × (length bytes ≤ most_bytes) × IsFaultAt scale bytes number kind place
IsRefusalOf scale side bytes (refusal.Shape of_side number kind element) =
    (of_side ≡ side) × (length bytes ≤ most_bytes) × IsShapeFaultAt scale bytes number kind element

-- The bytes of a side are within the limit, and their figures are these.
pub record IsAdmitted (scale : ℕ) (bytes : List ℕ) (figures : List Figure) : Type 0 where
  pub short : length bytes ≤ most_bytes
  pub source : IsSource scale bytes figures

-- B is refused after A was admitted whole.
pub record IsRefusedAfter (scale : ℕ) (a b : List ℕ) (refused : Refusal) : Type 0 where
  pub figures : List Figure
  pub admitted : IsAdmitted scale a figures
  pub second : IsRefusalOf scale B b refused

-- The first refusal of two sides: that of A, or else that of B.
abbrev pub IsFirstRefusal : ℕ → List ℕ → List ℕ → Refusal → Type 0
IsFirstRefusal scale a b refused = IsRefusalOf scale A a refused ⊎ IsRefusedAfter scale a b refused
