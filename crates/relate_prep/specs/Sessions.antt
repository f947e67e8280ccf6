-- Sessions of a prepared figure.
use Rattle.std.specs.Prelude.{◌≡◌, ℕ, List, map, slice_get}
use Rattle.plane_laws.specs.Plane.{Point}
use Rattle.plane_exact.specs.declared.point.Seg.{Seg}
use Rattle.plane_exact.specs.declared.window.Window.{Window}
use Rattle.point_set.specs.declared.figure.Area.{Area}
use Rattle.point_set.specs.declared.figure.Figure.{Figure}
use Rattle.point_set.specs.Shape.{IsWellShaped}
use Rattle.point_set.specs.Validity.{IsAtPlace, IsValid}
use Rattle.relate_prep.specs.Cells.{SeenCell, IsCellOver, AreAreaCells, KnowTheSame, WasAsked, names_of, new_cell}
use Rattle.relate_prep.specs.Prepared.{SeenPrepared}
use Rattle.union_locator.specs.Shells.{AreShellBoxes, IsShellNear}

-- A figure, and what is known of the cell of the index of all its edges and of the cell of each area.
pub record SeenSession : Type 0 where
  pub figure : Figure
  pub edge : SeenCell
  pub areas : List SeenCell

-- Contracts count no looks of a session.
abbrev pub looks_of : SeenSession → ℕ
looks_of s = 0

-- A session of the prepared figure that has asked for no cell.
pub record IsNewSession (p : SeenPrepared) (s : SeenSession) : Type 0 where
  pub figure : s.figure ≡ p.figure
  pub edge : s.edge ≡ new_cell p.edge_cell
  pub areas : s.areas ≡ map new_cell p.area_cells

-- A session of cells with these names: what it knows of them is over the figure's edges, or is aside.
pub record IsSession (segs : List Seg) (edge_cell : ℕ) (area_cells : List ℕ) (s : SeenSession) : Type 0 where
  pub edge : IsCellOver segs edge_cell s.edge
  pub areas : AreAreaCells s.figure area_cells s.areas

-- Two sessions of one prepared figure: the cells of both have the same names.
pub record AreOfOnePrepared (one other : SeenSession) : Type 0 where
  pub edge : one.edge.name ≡ other.edge.name
  pub areas : names_of one.areas ≡ names_of other.areas

-- Cells in two lists: where both know the value of the cell at a place, the values have the same edges.
abbrev pub KnowTheSameEach : List SeenCell → List SeenCell → Type 0
KnowTheSameEach cells others =
    (place : ℕ) (one other : SeenCell) → IsAtPlace cells place one → IsAtPlace others place other → KnowTheSame one other

-- A figure, the boxes of its areas' shells, and what is known of the cells of its areas.
pub record SeenAreas : Type 0 where
  pub figure : Figure
  pub shells : List Window
  pub cells : List SeenCell

-- The figure is valid, and each area has the box of its shell and a cell: what is known of it is over the area's edges, or is aside.
pub record AreAskedAreas (seen : SeenAreas) : Type 0 where
  pub shaped : IsWellShaped seen.figure
  pub valid : IsValid seen.figure
  pub shells : AreShellBoxes seen.figure.areas seen.shells
  pub names : List ℕ
  pub cells : AreAreaCells seen.figure names seen.cells

-- The cell of each area whose shell is near a point was asked for.
abbrev pub AreAskedNear : List Area → Point → List SeenCell → Type 0
AreAskedNear areas p cells =
    (place : ℕ) (area : Area) (c : SeenCell) → IsAtPlace areas place area → IsAtPlace cells place c → IsShellNear area p → WasAsked c

-- What is known of the cell of an area whose shell isn't near a point stays as it was.
abbrev pub AreKeptFar : List Area → Point → List SeenCell → List SeenCell → Type 0
AreKeptFar areas p old new =
    (place : ℕ) (area : Area) → IsAtPlace areas place area → ¬ IsShellNear area p → slice_get new place ≡ slice_get old place
