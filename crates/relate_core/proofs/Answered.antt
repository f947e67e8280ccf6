-- What a query answers that has taken in what the envelopes of two figures tell, and the samples at the few nodes near a box that holds
-- their common part: its value on the matrix of the two figures.
use Rattle.std.proofs.Common.{◌≡◌, ◌≢◌, ◌≤◌, ◌⊎◌, inl, inr, ◌∙◌, refl, sym, subst, arith, Bool, List}
use Rattle.std.specs.Prelude.{Option}
use Rattle.std.proofs.lemmas.List.Elements.{All-contains}
use Rattle.im_matrix.specs.Cells.{cell, rank, dimension_at, start_dimension}
use Rattle.im_matrix.specs.declared.Cell.{Cell}
use Rattle.im_matrix.specs.declared.Dim.{Dim}
use Rattle.im_matrix.specs.declared.Dim.TheVariants.{Empty}
use Rattle.im_matrix.specs.declared.Loc.{Loc}
use Rattle.im_matrix.specs.declared.Loc.TheVariants.{Interior, Boundary, Exterior}
use Rattle.im_matrix.specs.declared.Matrix.{Matrix}
use Rattle.plane_laws.specs.Plane.{Point}
use Rattle.plane_exact.specs.NodePoints.{point_at}
use Rattle.plane_exact.specs.declared.window.Window.{Window}
use Rattle.point_set.specs.declared.extent.Extent.{Extent}
use Rattle.point_set.specs.declared.figure.Figure.{Figure}
use Rattle.point_set.specs.declared.rule.Rule.{Rule}
use Rattle.point_set.specs.Dimension.{ShowsDimension}
use Rattle.point_set.specs.Extents.{IsExtent}
use Rattle.point_set.specs.Relation.{IsInCell}
use Rattle.point_set.specs.Samples.{IsSample, IsSampleMatrix}
use Rattle.point_set.specs.Visible.{AreValid}
use Rattle.cell_laws.specs.Decided.{AreDecidedBySamples}
use Rattle.cell_laws.proofs.Cells.Matrix.{decided_by_samples}
use Rattle.cell_laws.proofs.Samples.Same.{sample_same}
use Rattle.few_laws.proofs.Nodes.Crossings.{few_is_node}
use Rattle.near_laws.proofs.Beyond.Shown.{beyond_is_there}
use Rattle.near_laws.proofs.Decide.Near.{near_decide, shown_at_most}
use Rattle.box_laws.specs.Boxes.{HoldsCommonPart}
use Rattle.near_laws.specs.Near.{IsNearNode, beyond_cell, beyond_parts}
use Rattle.node_table.specs.declared.entry.Entry.{Entry}
use Rattle.topo_pred.specs.declared.Answer.TheVariants.{Im, Truth}
use Rattle.topo_pred.specs.declared.Progress.{Progress}
use Rattle.topo_pred.specs.declared.Query.{Query}
use Rattle.topo_pred.specs.declared.Query.TheVariants.{Relate}
use Rattle.topo_pred.specs.Values.{value_of, value_at, matrix_of, IsSettled}
use Rattle.relate_core.specs.Tables.{IsListed, IsTableOf}
use Rattle.relate_core.specs.Taking.{HasTakenIn}
use Rattle.relate_core.proofs.Taking.{answer_is, taken_alike}

-- ---- a table of some nodes
module _ (a b : Figure) (valid : AreValid a b) (rule : Rule) (Nodes : Point → Type 0) (entries : List Entry)
    (table : IsTableOf Nodes a b entries) where
  -- a sample at a listed point is one at a node
  of_nodes : (c : Cell) (d : Dim) → IsSample (IsListed entries) a b rule c d → IsSample Nodes a b rule c d
  of_nodes c d s =
      let h = s.is_node in
      record {
        v = point_at h.1.node;
        is_node = All-contains (λ e. Nodes (point_at e.node)) entries h.1 table.nodes.only (h.0, h.2, h.3);
        sample = sample_same a b valid rule s.v (point_at h.1.node) h.4 c d s.sample;
      }

  -- and the other way round
  of_listed : (c : Cell) (d : Dim) → IsSample Nodes a b rule c d → IsSample (IsListed entries) a b rule c d
  of_listed c d s = record { v = s.v; is_node = table.nodes.whole s.v s.is_node; sample = s.sample }

  -- so the samples at the entries are those at the nodes
  pub taken_at_nodes : (p q : Progress) → HasTakenIn (IsSample (IsListed entries) a b rule) p q → HasTakenIn (IsSample Nodes a b rule) p q
  taken_at_nodes p q h = taken_alike (IsSample (IsListed entries) a b rule) (IsSample Nodes a b rule) of_nodes of_listed p q h

-- ---- the start
-- what a cell starts with, and isn't Empty, the envelopes tell
start_told :
    (x y : Extent) (w : Option Window) (p q : Loc) (d : Dim) → d ≢ Empty → d ≡ start_dimension (cell p q) → d ≡ beyond_parts x y w p q
start_told x y w Exterior Exterior d some is = is
start_told x y w Exterior Interior d some is = absurd (some is)
start_told x y w Exterior Boundary d some is = absurd (some is)
start_told x y w Interior q d some is = absurd (some is)
start_told x y w Boundary q d some is = absurd (some is)

-- ---- the envelopes and the near nodes
-- A query has taken in what the envelopes of two figures tell of what is outside of a box, and the samples at the few nodes near it.
module _ (a b : Figure) (valid : AreValid a b) (rule : Rule) (x y : Extent) (is_x : IsExtent a rule x) (is_y : IsExtent b rule y)
    (w : Option Window) (holds : HoldsCommonPart a b rule w) (query : Query) (dim_a dim_b : Dim) (fresh last : Progress)
    (value : (m : Matrix) → value_at fresh m ≡ value_of query dim_a dim_b m)
    (start : (c : Cell) → dimension_at (matrix_of fresh) c ≡ start_dimension c)
    (taken : HasTakenIn (λ c d. (d ≡ beyond_cell x y w c) ⊎ IsSample (IsNearNode w a b) a b rule c d) fresh last) where
  abbrev IsKnown : Cell → Dim → Type 0
  IsKnown c d = (d ≡ beyond_cell x y w c) ⊎ IsSample (IsNearNode w a b) a b rule c d

  -- the value on a matrix
  value_on : (m : Matrix) → value_at last m ≡ value_of query dim_a dim_b m
  value_on m = taken.value m ∙ value m

  -- the one matrix of the two figures, which is that of the samples at all nodes
  abbrev all : AreDecidedBySamples a b rule
  all = decided_by_samples a b valid rule

  -- with all taken in the query's matrix is this one
  all_taken : ((c : Cell) (d : Dim) → IsKnown c d → rank d ≤ rank (dimension_at (matrix_of last) c)) → all.matrix ≡ matrix_of last
  all_taken whole =
      sym (all.only_of_points (matrix_of last) (near_decide a b valid rule x y is_x is_y w holds (matrix_of last)
      (λ c. record { one = λ some. one c some (taken.only c); most = λ e h. whole c e h })))
    where
      one : (c : Cell) → dimension_at (matrix_of last) c ≢ Empty
          → (dimension_at (matrix_of last) c ≡ dimension_at (matrix_of fresh) c) ⊎ IsKnown c (dimension_at (matrix_of last) c)
          → IsKnown c (dimension_at (matrix_of last) c)
      one c some (inl e) = inl (start_told x y w c.a c.b (dimension_at (matrix_of last) c) some (e ∙ start c))
      one c some (inr s) = s

  -- what is answered is the value on it
  pub value_is : value_at last (matrix_of last) ≡ value_of query dim_a dim_b all.matrix
  value_is =
      answer_is IsKnown fresh last all.matrix taken
      (λ c. subst (λ d. rank d ≤ rank (dimension_at all.matrix c)) (sym (start c)) ((all.of_samples c).most (start_dimension c) (inl refl)))
      most all_taken ∙ value_on all.matrix
    where
      most : (c : Cell) (d : Dim) → IsKnown c d → rank d ≤ rank (dimension_at all.matrix c)
      most c d (inl e) =
          shown_at_most (IsInCell a b rule c) d (dimension_at all.matrix c)
          (subst (ShowsDimension (IsInCell a b rule c)) (sym e) (beyond_is_there a b valid rule x y is_x is_y w holds c)) (all.of_points c)
      most c d (inr s) =
          (all.of_samples c).most d (inr (record { v = s.v; is_node = few_is_node s.is_node.0; sample = s.sample }))

  -- and so on each sample matrix
  pub value_on_samples : (m : Matrix) → IsSampleMatrix a b rule m → value_at last (matrix_of last) ≡ value_of query dim_a dim_b m
  value_on_samples m is = value_is ∙ (λ i. value_of query dim_a dim_b (sym (all.only_of_samples m is) i))

  -- ---- where the matrix itself is asked for
  module _ (asks : query ≡ Relate) where
    -- it is what is answered
    pub answer_is_matrix : value_at last (matrix_of last) ≡ Im (matrix_of last)
    answer_is_matrix = value_on (matrix_of last) ∙ (λ i. value_of (asks i) dim_a dim_b (matrix_of last))

    -- and is the sample matrix, since no value is settled before
    pub matrix_is : IsSampleMatrix a b rule (matrix_of last)
    matrix_is = by_whole taken.whole
      where
        by_whole : ((v : Bool) × IsSettled last v)
            ⊎ ((c : Cell) (d : Dim) → IsKnown c d → rank d ≤ rank (dimension_at (matrix_of last) c))
            → IsSampleMatrix a b rule (matrix_of last)
        by_whole (inl s) =
            let settled : Im (matrix_of last) ≡ Truth s.0 = sym answer_is_matrix ∙ s.1 (matrix_of last) (λ c. omega arith) in
            cc
        by_whole (inr whole) = subst (IsSampleMatrix a b rule) (all_taken whole) all.of_samples
