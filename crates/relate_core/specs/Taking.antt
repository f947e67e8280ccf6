-- A query in progress that takes in samples, and stops when its value is settled.
use Rattle.std.specs.Prelude.{◌≡◌, ◌≤◌, ◌⊎◌, Bool}
use Rattle.std.specs.List.{All}
use Rattle.im_matrix.specs.Cells.{rank, dimension_at}
use Rattle.im_matrix.specs.declared.Cell.{Cell}
use Rattle.im_matrix.specs.declared.Dim.{Dim}
use Rattle.im_matrix.specs.declared.Matrix.{Matrix}
use Rattle.im_matrix.specs.declared.Which.TheVariants.{A, B}
use Rattle.plane_laws.specs.Plane.{Point}
use Rattle.plane_exact.specs.NodePoints.{point_at}
use Rattle.point_set.specs.declared.figure.Figure.{Figure}
use Rattle.point_set.specs.declared.rule.Rule.{Rule}
use Rattle.point_set.specs.Samples.{IsSampleAt}
use Rattle.fan_order.specs.Rays.{IsShort}
use Rattle.fan_order.specs.Sections.{AreSectionsAt}
use Rattle.node_table.specs.declared.entry.Entry.{Entry}
use Rattle.topo_pred.specs.declared.Progress.{Progress}
use Rattle.topo_pred.specs.Values.{query_of, matrix_of, value_at, IsSettled}

-- A query has taken in nothing but given dimensions of cells; and all of them, unless its value is settled.
pub record HasTakenIn (Is : Cell → Dim → Type 0) (old new : Progress) : Type 0 where
  pub query : query_of new ≡ query_of old
  pub value : (m : Matrix) → value_at new m ≡ value_at old m
  pub kept : (c : Cell) → rank (dimension_at (matrix_of old) c) ≤ rank (dimension_at (matrix_of new) c)
  pub only :
      (c : Cell)
      → (dimension_at (matrix_of new) c ≡ dimension_at (matrix_of old) c) ⊎ Is c (dimension_at (matrix_of new) c)
  pub whole :
      ((v : Bool) × IsSettled new v) ⊎ ((c : Cell) (d : Dim) → Is c d → rank d ≤ rank (dimension_at (matrix_of new) c))

-- One cell has one dimension, and nothing else is given.
abbrev pub IsOne : Cell → Dim → Cell → Dim → Type 0
IsOne c d = λ e f. (e ≡ c) × (f ≡ d)

-- A sample at v, of one dimension.
abbrev pub IsSampleOf : Dim → Figure → Figure → Rule → Point → Cell → Dim → Type 0
IsSampleOf dim a b rule v = λ c d. (d ≡ dim) × IsSampleAt a b rule v c dim

-- An entry has all sections of two figures at its node and no others, and none is too long for a fan.
pub record HasAllSections (a b : Figure) (e : Entry) : Type 0 where
  pub of_a : AreSectionsAt A a (point_at e.node) e.sections
  pub of_b : AreSectionsAt B b (point_at e.node) e.sections
  pub short : All (λ s. IsShort s.dir) e.sections
