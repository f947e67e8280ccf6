-- What an evaluation promises, from what its parts promise: first the envelopes of two figures and their common part, then the near nodes.
use Rattle.std.proofs.Common.{◌≡◌, ◌⊎◌, ℕ, ◌∙◌, subst₂}
use Rattle.std.specs.Prelude.{Option}
use Rattle.im_matrix.specs.Cells.{dimension_at, start_dimension}
use Rattle.im_matrix.specs.declared.Cell.{Cell}
use Rattle.im_matrix.specs.declared.Matrix.{Matrix}
use Rattle.plane_exact.specs.declared.window.Window.{Window}
use Rattle.point_set.specs.declared.extent.Extent.{Extent}
use Rattle.point_set.specs.declared.figure.Figure.{Figure}
use Rattle.point_set.specs.declared.rule.Rule.{Rule}
use Rattle.point_set.specs.Extents.{IsExtent}
use Rattle.point_set.specs.Samples.{IsSample}
use Rattle.point_set.specs.Shape.{dimension_of}
use Rattle.point_set.specs.Visible.{AreValid}
use Rattle.cell_laws.proofs.Cells.Matrix.{decided_by_samples}
use Rattle.box_laws.specs.Boxes.{HoldsCommonPart, IsCommonPart, frame}
use Rattle.near_laws.specs.Near.{IsNearNode, beyond_cell}
use Rattle.topo_pred.specs.Values.{value_of, value_at, matrix_of}
use Rattle.topo_pred.specs.declared.Answer.{Answer}
use Rattle.topo_pred.specs.declared.Progress.{Progress}
use Rattle.topo_pred.specs.declared.Query.{Query}
use Rattle.topo_pred.specs.declared.Query.TheVariants.{Relate}
use Rattle.relate_core.specs.Answers.{IsAnswerTo, IsSampleMatrixItself, IsValueOnSamples}
use Rattle.relate_core.specs.Looks.{AreLooksFew, IsNearRun}
use Rattle.relate_core.specs.Taking.{HasTakenIn}
use Rattle.relate_core.proofs.Answered.{value_is, value_on_samples, matrix_is, answer_is_matrix}
use Rattle.relate_core.proofs.LooksAreFew.{looks_are_few}
use Rattle.box_laws.proofs.Boxes.Round.{near_window_decided}
use Rattle.box_laws.proofs.Envelopes.Frames.{frames_hold_common_part}
use Rattle.near_laws.proofs.Far.Shows.{far_shows_no_more}
use Rattle.relate_core.proofs.Taking.{taken_either}

-- What is known of a query's progress when the envelopes of two figures and the common part of their frames have been taken in.
pub record IsFarTaken (a b : Figure) (rule : Rule) (query : Query) (w : Option Window) (far : Progress) : Type 0 where
  pub valid : AreValid a b
  pub x : Extent
  pub y : Extent
  pub is_x : IsExtent a rule x
  pub is_y : IsExtent b rule y
  pub frame_x : Option Window
  pub frame_y : Option Window
  pub is_frame_x : frame_x ≡ frame x
  pub is_frame_y : frame_y ≡ frame y
  pub common : IsCommonPart frame_x frame_y w
  pub fresh : Progress
  pub value : (m : Matrix) → value_at fresh m ≡ value_of query (dimension_of a) (dimension_of b) m
  pub start : (c : Cell) → dimension_at (matrix_of fresh) c ≡ start_dimension c
  pub taken : HasTakenIn (λ c d. d ≡ beyond_cell x y w c) fresh far

module _ {a b : Figure} {rule : Rule} {query : Query} {w : Option Window} {far : Progress} (k : IsFarTaken a b rule query w far) where
  -- the box holds the common part of the figures
  holds : HoldsCommonPart a b rule w
  holds =
      frames_hold_common_part a b k.valid.a_shaped k.valid.b_shaped rule k.x k.y k.is_x k.is_y w
      (subst₂ (λ u v. IsCommonPart u v w) k.is_frame_x k.is_frame_y k.common)

  -- ---- looks
  -- a run over the near nodes has few
  pub few_looks : {before after : ℕ} → IsNearRun w a b rule far before after
      → AreLooksFew a b rule query (dimension_of a) (dimension_of b) before after
  few_looks {before} {after} run =
      looks_are_few a b k.valid rule query (dimension_of a) (dimension_of b) w (beyond_cell k.x k.y w) (near_window_decided w)
      (far_shows_no_more a b k.valid rule k.x k.y k.is_x k.is_y w holds) k.fresh far k.value k.start k.taken before after run

  -- ---- the answer
  module _ {last : Progress} (taken_near : HasTakenIn (IsSample (IsNearNode w a b) a b rule) far last) {answer : Answer}
      (is : answer ≡ value_at last (matrix_of last)) where
    -- all that is known has been taken in
    abbrev taken : HasTakenIn (λ c d. (d ≡ beyond_cell k.x k.y w c) ⊎ IsSample (IsNearNode w a b) a b rule c d) k.fresh last
    taken =
        taken_either (λ c d. d ≡ beyond_cell k.x k.y w c) (IsSample (IsNearNode w a b) a b rule) k.fresh far last k.taken taken_near

    -- it is the value on the matrix of the two point sets
    pub answer_of_points : IsAnswerTo query a b rule answer
    answer_of_points = record {
      m = (decided_by_samples a b k.valid rule).matrix;
      of_points = (decided_by_samples a b k.valid rule).of_points;
      answer_is =
          is
          ∙ value_is a b k.valid rule k.x k.y k.is_x k.is_y w holds query
          (dimension_of a) (dimension_of b) k.fresh last k.value k.start taken;
    }

    -- and on that of the samples
    pub answer_of_samples : IsValueOnSamples a b rule query answer
    answer_of_samples m of_samples =
        is
        ∙ value_on_samples a b k.valid rule k.x k.y k.is_x k.is_y w holds query
        (dimension_of a) (dimension_of b) k.fresh last k.value k.start taken m of_samples

    -- which is the answer itself where it is asked for
    pub answer_of_relate : query ≡ Relate → IsSampleMatrixItself a b rule answer
    answer_of_relate asks = record {
      m = matrix_of last;
      of_samples =
          matrix_is a b k.valid rule k.x k.y k.is_x k.is_y w holds query
          (dimension_of a) (dimension_of b) k.fresh last k.value k.start taken asks;
      answer_is =
          is
          ∙ answer_is_matrix a b k.valid rule k.x k.y k.is_x k.is_y w holds query
          (dimension_of a) (dimension_of b) k.fresh last k.value k.start taken asks;
    }
