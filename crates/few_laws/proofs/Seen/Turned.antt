-- The two figures in the other order: a few node is a few node, and a sample is one of the cell with its parts exchanged.
use Rattle.std.proofs.Common.{◌≡◌, Bool, true, false, List, ◌++◌, refl, sym, ◌∙◌}
use Rattle.std.specs.List.{list_any}
use Rattle.std.proofs.lemmas.Bool.{true≢false}
use Rattle.im_matrix.specs.Cells.{cell}
use Rattle.im_matrix.specs.declared.Cell.{Cell}
use Rattle.im_matrix.specs.declared.Dim.{Dim}
use Rattle.im_matrix.specs.declared.Dim.TheVariants.{Empty, Zero, One, Two}
use Rattle.plane_laws.specs.Plane.{Point}
use Rattle.plane_laws.specs.Directions.{Direction}
use Rattle.plane_exact.specs.Orders.{direction_of}
use Rattle.point_set.specs.declared.figure.Figure.{Figure}
use Rattle.point_set.specs.declared.rule.Rule.{Rule}
use Rattle.point_set.specs.Germ.{IsPairGerm}
use Rattle.point_set.specs.Lines.{is_at}
use Rattle.point_set.specs.Nodes.{IsFewNode, segs_of, segs_of_both, all_positions, position, between, of_a, of_b}
use Rattle.point_set.specs.Relation.{IsInCell}
use Rattle.point_set.specs.Samples.{IsSampleAt}
use Rattle.point_set.specs.Visible.{AreValid}
use Rattle.figure_laws.proofs.Edges.Lists.{none_append, none_joined}
use Rattle.figure_laws.proofs.Valid.Pairs.{valid_turned}
use Rattle.cell_laws.proofs.Directions.Exist.{run_at}
use Rattle.cell_laws.proofs.Directions.Middles.{middle_in_sector, sector_free}
use Rattle.cell_laws.proofs.Samples.Seen.{seen_in_sector, seen_on_edge}
use Rattle.few_laws.specs.Few.{IsSeenAtFew}
use Rattle.few_laws.proofs.Nodes.Crossings.{crossing_turned, run_turned}

-- ---- few nodes
-- what an item of two lists meets, one of them in the other order meets
any_turned : {X : Type 0} (test : X → Bool) (xs ys : List X) → list_any test (xs ++ ys) ≡ true → list_any test (ys ++ xs) ≡ true
any_turned test xs ys h = by_test (list_any test (ys ++ xs)) refl
  where
    by_test : (t : Bool) → list_any test (ys ++ xs) ≡ t → list_any test (ys ++ xs) ≡ true
    by_test true k = k
    by_test false k =
        let both = none_append test ys xs k in
        absurd (true≢false (sym h ∙ none_joined test xs ys both.1 both.0))

-- a few node
pub few_turned : (a b : Figure) (v : Point) → IsFewNode a b v → IsFewNode b a v
few_turned a b v (position at) = position (any_turned (is_at v) (all_positions a) (all_positions b) at)
few_turned a b v (between c) = between (crossing_turned c)
few_turned a b v (of_a some c) = of_b some c
few_turned a b v (of_b some c) = of_a some c

-- ---- samples
-- the cell with its parts exchanged
abbrev pub turned : Cell → Cell
turned c = cell c.b c.a

-- a point of the cell
pub cell_turned : (a b : Figure) (rule : Rule) (c : Cell) (p : Point) → IsInCell a b rule c p → IsInCell b a rule (turned c) p
cell_turned a b rule c p at = record { in_a = at.in_b; in_b = at.in_a }

-- a germ
germ_turned :
    (a b : Figure) (rule : Rule) (v : Point) (d : Direction) (c : Cell) → IsPairGerm a b rule v d c → IsPairGerm b a rule v d (turned c)
germ_turned a b rule v d c germ =
    record { from = germ.from; holds = λ n far p away. cell_turned a b rule c p (germ.holds n far p away) }

-- a sample, by the direction in which it is seen
pub sample_turned :
    (a b : Figure) → AreValid a b → (rule : Rule) (v : Point) (c : Cell) (d : Dim) → IsSampleAt a b rule v c d
    → IsSampleAt b a rule v (turned c) d
sample_turned a b valid rule v c Empty s = s
sample_turned a b valid rule v c Zero s = cell_turned a b rule c v s
sample_turned a b valid rule v c One s =
    let d = direction_of s.ray in
    seen_on_edge b a (valid_turned valid) rule v d
    (run_turned v (segs_of a) (segs_of b) d (run_at v (segs_of_both a b) s.rays s.rays_are s.i s.ray s.ray_is)) (turned c)
    (germ_turned a b rule v d c s.germ)
sample_turned a b valid rule v c Two s =
    let within = middle_in_sector s.rays s.i s.middle s.middle_is in
    seen_in_sector b a (valid_turned valid) rule v s.middle
    (λ run. sector_free v (segs_of_both a b) s.rays s.rays_are.rays_at s.i s.middle within
    (run_turned v (segs_of b) (segs_of a) s.middle run)) (turned c) (germ_turned a b rule v s.middle c s.germ)

-- what is seen at a few node
pub seen_turned :
    (a b : Figure) → AreValid a b → (rule : Rule) (c : Cell) (d : Dim) → IsSeenAtFew a b rule c d → IsSeenAtFew b a rule (turned c) d
seen_turned a b valid rule c d s = record {
  at_least = s.at_least;
  rises = s.rises;
  sample = record {
    v = s.sample.v;
    is_node = few_turned a b s.sample.v s.sample.is_node;
    sample = sample_turned a b valid rule s.sample.v c s.at_least s.sample.sample;
  };
}
