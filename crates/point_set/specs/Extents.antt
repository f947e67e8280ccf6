-- Envelopes: the least boxes of what a figure is made of.
use Rattle.std.specs.Prelude.{◌≡◌, ◌≢◌, Bool, true, false, not, List, [], ◌∷◌, ◌++◌, Option, Some, None}
use Rattle.plane_exact.specs.Places.{point_of}
use Rattle.plane_exact.specs.Windows.{IsLeastWindow}
use Rattle.plane_exact.specs.declared.point.Pt.{Pt}
use Rattle.plane_exact.specs.declared.window.Window.{Window}
use Rattle.point_set.specs.declared.extent.Extent.{Extent}
use Rattle.point_set.specs.declared.figure.Figure.{Figure}
use Rattle.point_set.specs.declared.rule.Rule.{Rule}
use Rattle.point_set.specs.Lines.{count_at, ends_of_lines, is_at_some, is_boundary_count, is_still}
use Rattle.point_set.specs.Nodes.{positions_of_ways, rings_of_areas}

-- The envelope of some positions: the least box that holds them all, or none where there is none of them.
abbrev pub IsEnvelope : List Pt → Option Window → Type 0
IsEnvelope positions None = positions ≡ []
IsEnvelope positions (Some box) = (positions ≢ []) × IsLeastWindow (λ p. is_at_some p positions ≡ true) box

-- A way's positions in front of others, where a test holds.
abbrev pub keep_if : Bool → List Pt → List Pt → List Pt
keep_if true way others = way ++ others
keep_if false way others = others

-- The positions of the lines that have two different positions.
abbrev pub moving_positions : List (List Pt) → List Pt
moving_positions [] = []
moving_positions (line ∷ lines) = keep_if (not (is_still line)) line (moving_positions lines)

-- The positions of all other lines.
abbrev pub still_positions : List (List Pt) → List Pt
still_positions [] = []
still_positions (line ∷ lines) = keep_if (is_still line) line (still_positions lines)

-- Those of some line ends that are boundary under a rule, as they are counted among all line ends.
abbrev pub boundary_ends : Rule → List Pt → List Pt → List Pt
boundary_ends rule all [] = []
boundary_ends rule all (p ∷ ends) = keep_if (is_boundary_count rule (count_at (point_of p) all)) (p ∷ []) (boundary_ends rule all ends)

-- The four envelopes of a figure under a boundary node rule.
pub record IsExtent (f : Figure) (rule : Rule) (x : Extent) : Type 0 where
  pub areas : IsEnvelope (positions_of_ways (rings_of_areas f.areas)) x.areas
  pub lines : IsEnvelope (moving_positions f.lines) x.lines
  pub points : IsEnvelope (f.points ++ still_positions f.lines) x.points
  pub ends : IsEnvelope (boundary_ends rule (ends_of_lines f.lines) (ends_of_lines f.lines)) x.ends
