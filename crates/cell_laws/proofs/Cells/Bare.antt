-- Where two figures have no node they have no position, and each point lies outside both.
use Rattle.std.proofs.Common.{◌≡◌, ◌≤◌, ◌||◌, true, false, List, [], ◌∷◌, ◌++◌, length, ap, refl, arith}
use Rattle.std.specs.List.{All}
use Rattle.std.proofs.lemmas.List.Elements.{All-head}
use Rattle.im_matrix.specs.Cells.{cell}
use Rattle.im_matrix.specs.declared.Cell.{Cell}
use Rattle.im_matrix.specs.declared.Loc.TheVariants.{Exterior}
use Rattle.plane_laws.specs.Plane.{Point}
use Rattle.plane_exact.specs.Places.{point_of}
use Rattle.plane_exact.specs.declared.point.Pt.{Pt}
use Rattle.point_set.specs.declared.dim_loc.DimLoc.TheVariants as kind
use Rattle.point_set.specs.declared.figure.Area.{Area}
use Rattle.point_set.specs.declared.figure.Figure.{Figure}
use Rattle.point_set.specs.declared.rule.Rule.{Rule}
use Rattle.point_set.specs.Lines.{is_at, is_at_some, is_on_lines, is_at_still_line}
use Rattle.point_set.specs.Location.{IsLocation, is_covered_by, is_at_point}
use Rattle.point_set.specs.Nodes.{IsNode, position, all_positions, positions_of_ways, rings_of_areas}
use Rattle.point_set.specs.Relation.{IsInCell}
use Rattle.point_set.specs.Shape.{IsLineShaped, IsAreaShaped, IsWellShaped}
use Rattle.point_set.specs.Visible.{AreValid}
use Rattle.plane_laws.proofs.Points.Same.{Decides-is_same_point, same_refl}
use Rattle.figure_laws.proofs.Points.Kinds.{one_part}

-- ---- no position
-- where no point is at one, there is none
none_there : (positions : List Pt) → ((v : Point) → ¬ (is_at_some v positions ≡ true)) → positions ≡ []
none_there [] none = refl
none_there (p ∷ positions) none = absurd (none (point_of p) (ap (λ b. b || is_at_some (point_of p) positions) here))
  where
    here : is_at (point_of p) p ≡ true
    here = (Decides-is_same_point (point_of p) (point_of p)).1 (same_refl (point_of p))

-- neither part of a list without items has one
first_empty : {X : Type 0} (xs ys : List X) → xs ++ ys ≡ [] → xs ≡ []
first_empty [] ys e = refl
first_empty (x ∷ xs) ys e = cc

-- nor the second
second_empty : {X : Type 0} (xs ys : List X) → xs ++ ys ≡ [] → ys ≡ []
second_empty [] ys e = e
second_empty (x ∷ xs) ys e = cc

-- a list of some length isn't empty
not_empty : {X : Type 0} (xs : List X) → 1 ≤ length xs → ¬ (xs ≡ [])
not_empty [] h e = omega (arith, h)
not_empty (x ∷ xs) h e = cc

-- so there is no line
no_lines : (lines : List (List Pt)) → All IsLineShaped lines → positions_of_ways lines ≡ [] → lines ≡ []
no_lines [] shaped e = refl
no_lines (line ∷ lines) shaped e =
    let long = (All-head IsLineShaped line lines shaped).long in
    absurd (not_empty line (omega (arith, long)) (first_empty line (positions_of_ways lines) e))

-- and no area
no_areas : (areas : List Area) → All IsAreaShaped areas → positions_of_ways (rings_of_areas areas) ≡ [] → areas ≡ []
no_areas [] shaped e = refl
no_areas (area ∷ areas) shaped e =
    let long = (All-head IsAreaShaped area areas shaped).shell.long in
    absurd (not_empty area.shell (omega (arith, long))
    (first_empty area.shell (positions_of_ways (area.holes ++ rings_of_areas areas)) e))

-- ---- outside
-- each point lies outside a figure without positions
outside_empty : (f : Figure) → IsWellShaped f → (rule : Rule) → all_positions f ≡ [] → (p : Point) → IsLocation f rule p Exterior
outside_empty f shaped rule e p = record { decided_by = kind.Exterior; decides = (uncovered, off_lines, off_points); gives = refl }
  where
    ways : positions_of_ways f.lines ++ positions_of_ways (rings_of_areas f.areas) ≡ []
    ways = second_empty f.points (positions_of_ways f.lines ++ positions_of_ways (rings_of_areas f.areas)) e

    no_line : f.lines ≡ []
    no_line = no_lines f.lines shaped.lines (first_empty (positions_of_ways f.lines) (positions_of_ways (rings_of_areas f.areas)) ways)

    uncovered : is_covered_by p f.areas ≡ false
    uncovered =
        ap (is_covered_by p)
        (no_areas f.areas shaped.areas (second_empty (positions_of_ways f.lines) (positions_of_ways (rings_of_areas f.areas)) ways))

    off_lines : is_on_lines p f.lines ≡ false
    off_lines = ap (is_on_lines p) no_line

    off_points : is_at_point f p ≡ false
    off_points =
        let none = first_empty f.points (positions_of_ways f.lines ++ positions_of_ways (rings_of_areas f.areas)) e in
        λ i. is_at_some p (none i) || is_at_still_line p (no_line i)

-- the cell of a point, where there is no node
pub cell_without_nodes :
    (a b : Figure) → AreValid a b → (rule : Rule) → ((v : Point) → ¬ IsNode a b v) → (c : Cell) (p : Point) → IsInCell a b rule c p
    → c ≡ cell Exterior Exterior
cell_without_nodes a b valid rule none c p in_c =
    λ i. record {
      a = one_part in_c.in_a (outside_empty a valid.a_shaped rule none_a p) i;
      b = one_part in_c.in_b (outside_empty b valid.b_shaped rule none_b p) i;
    }
  where
    none_at_all : all_positions a ++ all_positions b ≡ []
    none_at_all = none_there (all_positions a ++ all_positions b) (λ v h. none v (position h))

    none_a : all_positions a ≡ []
    none_a = first_empty (all_positions a) (all_positions b) none_at_all

    none_b : all_positions b ≡ []
    none_b = second_empty (all_positions a) (all_positions b) none_at_all
