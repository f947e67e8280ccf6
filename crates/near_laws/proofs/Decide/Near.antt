-- The near nodes and the envelopes decide the cells.
use Rattle.std.proofs.Common.{◌≡◌, ◌≤◌, ◌⊎◌, inl, inr, ℕ, refl, sym, subst, arith}
use Rattle.std.specs.Prelude.{Option}
use Rattle.im_matrix.specs.Cells.{rank, cell, dimension_at, start_dimension}
use Rattle.im_matrix.specs.declared.Dim.{Dim}
use Rattle.im_matrix.specs.declared.Dim.TheVariants.{Empty, Zero, One, Two}
use Rattle.im_matrix.specs.declared.Loc.{Loc}
use Rattle.im_matrix.specs.declared.Loc.TheVariants.{Interior, Boundary, Exterior}
use Rattle.plane_laws.specs.Plane.{Point}
use Rattle.plane_exact.specs.declared.window.Window.{Window}
use Rattle.point_set.specs.declared.extent.Extent.{Extent}
use Rattle.point_set.specs.declared.figure.Figure.{Figure}
use Rattle.point_set.specs.declared.rule.Rule.{Rule}
use Rattle.point_set.specs.Dimension.{IsDimension, ShowsDimension}
use Rattle.point_set.specs.Nodes.{IsFewNode}
use Rattle.point_set.specs.Relation.{IsInCell}
use Rattle.point_set.specs.Samples.{IsSample, IsGreatest}
use Rattle.point_set.specs.Visible.{AreValid}
use Rattle.cell_laws.specs.Decided.{AreDecidedBySamples}
use Rattle.box_laws.specs.Boxes.{IsNearWindow}
use Rattle.near_laws.specs.Near.{IsNearNode, LawNearDecide, beyond_cell, beyond_parts}
use Rattle.figure_laws.proofs.Sets.Dimensions.{segment_of_triangle, point_of_segment}
use Rattle.cell_laws.proofs.Cells.Matrix.{decided_by_samples, same_rank}
use Rattle.few_laws.proofs.Nodes.Crossings.{few_is_node}
use Rattle.few_laws.proofs.Seen.Few.{law_few_holds}
use Rattle.near_laws.proofs.Beyond.Shown.{beyond_is_there}
use Rattle.box_laws.proofs.Boxes.Round.{near_window_decided}
use Rattle.near_laws.proofs.Far.Shows.{far_shows_no_more}

-- ---- ranks
-- what a set shows is no more than its dimension
pub shown_at_most : (Set : Point → Type 0) (d e : Dim) → ShowsDimension Set d → IsDimension Set e → rank d ≤ rank e
shown_at_most Set Empty e shown is = omega arith
shown_at_most Set Two Two t is = omega arith
shown_at_most Set Two One t is = absurd (is.0 t)
shown_at_most Set Two Zero t is = absurd (is.0 t)
shown_at_most Set Two Empty t is = absurd (is (point_of_segment (segment_of_triangle t)))
shown_at_most Set One Two s is = omega arith
shown_at_most Set One One s is = omega arith
shown_at_most Set One Zero s is = absurd (is.1 s)
shown_at_most Set One Empty s is = absurd (is (point_of_segment s))
shown_at_most Set Zero Two p is = omega arith
shown_at_most Set Zero One p is = omega arith
shown_at_most Set Zero Zero p is = omega arith
shown_at_most Set Zero Empty p is = absurd (is p)

-- a greatest dimension has at most a rank that bounds each of which it is the greatest
pub greatest_at_most : (Is : Dim → Type 0) (d : Dim) (n : ℕ) → IsGreatest Is d → ((e : Dim) → Is e → rank e ≤ n) → rank d ≤ n
greatest_at_most Is Empty n g each = omega arith
greatest_at_most Is Zero n g each = each Zero (g.one (λ e. cc))
greatest_at_most Is One n g each = each One (g.one (λ e. cc))
greatest_at_most Is Two n g each = each Two (g.one (λ e. cc))

-- what is known of a cell at the start, the envelopes tell too
start_told : (x y : Extent) (w : Option Window) (p q : Loc) → rank (start_dimension (cell p q)) ≤ rank (beyond_parts x y w p q)
start_told x y w Exterior Exterior = omega arith
start_told x y w Interior Exterior = omega arith
start_told x y w Boundary Exterior = omega arith
start_told x y w Exterior Interior = omega arith
start_told x y w Exterior Boundary = omega arith
start_told x y w Interior Interior = omega arith
start_told x y w Interior Boundary = omega arith
start_told x y w Boundary Interior = omega arith
start_told x y w Boundary Boundary = omega arith

-- ---- two figures
pub near_decide :
    (a b : Figure) → AreValid a b → (rule : Rule) → LawNearDecide a b rule
near_decide a b valid rule x y is_x is_y w holds m greatest c =
    subst (IsDimension (IsInCell a b rule c)) (same_rank (dimension_at all.matrix c) (dimension_at m c) below above) (all.of_points c)
  where
    all : AreDecidedBySamples a b rule
    all = decided_by_samples a b valid rule

    -- what the envelopes tell is there, and a near few node is a node
    above : rank (dimension_at m c) ≤ rank (dimension_at all.matrix c)
    above = greatest_at_most Told (dimension_at m c) (rank (dimension_at all.matrix c)) (greatest c) each
      where
        Told : Dim → Type 0
        Told d = (d ≡ beyond_cell x y w c) ⊎ IsSample (IsNearNode w a b) a b rule c d

        each : (d : Dim) → Told d → rank d ≤ rank (dimension_at all.matrix c)
        each d (inl e) =
            shown_at_most (IsInCell a b rule c) d (dimension_at all.matrix c)
            (subst (ShowsDimension (IsInCell a b rule c)) (sym e) (beyond_is_there a b valid rule x y is_x is_y w holds c))
            (all.of_points c)
        each d (inr s) =
            (all.of_samples c).most d (inr (record { v = s.v; is_node = few_is_node s.is_node.0; sample = s.sample }))

    -- the few nodes show no more: the near ones by what m is, the far ones by what the envelopes tell
    below : rank (dimension_at all.matrix c) ≤ rank (dimension_at m c)
    below =
        greatest_at_most Seen (dimension_at all.matrix c) (rank (dimension_at m c))
        ((law_few_holds a b valid rule all.matrix).1 all.of_samples c) each
      where
        Seen : Dim → Type 0
        Seen d = (d ≡ start_dimension c) ⊎ IsSample (IsFewNode a b) a b rule c d

        told : rank (beyond_cell x y w c) ≤ rank (dimension_at m c)
        told = (greatest c).most (beyond_cell x y w c) (inl refl)

        at_node : (d : Dim) (s : IsSample (IsFewNode a b) a b rule c d) → IsNearWindow w s.v ⊎ (¬ IsNearWindow w s.v)
            → rank d ≤ rank (dimension_at m c)
        at_node d s (inl near) = (greatest c).most d (inr (record { v = s.v; is_node = (s.is_node, near); sample = s.sample }))
        at_node d s (inr apart) =
            let h = far_shows_no_more a b valid rule x y is_x is_y w holds s.v apart c d s.sample in
            omega (arith, h, told)

        each : (d : Dim) → Seen d → rank d ≤ rank (dimension_at m c)
        each d (inl e) =
            let start = start_told x y w c.a c.b in
            subst (λ z. rank z ≤ rank (dimension_at m c)) (sym e) (omega (arith, start, told))
        each d (inr s) = at_node d s (near_window_decided w s.v)
