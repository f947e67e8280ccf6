use Rattle.std.proofs.Common.{◌≡◌, ◌∙◌, ap}
use Rattle.im_matrix.specs.Cells.{cell}
use Rattle.im_matrix.specs.declared.Dim.{Dim}
use Rattle.im_matrix.specs.declared.Loc.TheVariants.{Exterior}
use Rattle.im_matrix.specs.declared.Matrix.{Matrix}
use Rattle.point_set.specs.declared.figure.Figure.{Figure}
use Rattle.point_set.specs.Shape.{dimension_of}
use Rattle.topo_pred.specs.declared.Progress.{Progress}
use Rattle.topo_pred.specs.declared.Query.{Query}
use Rattle.topo_pred.specs.Values.{value_of, value_at}
use Rattle.relate_core.proofs.Evaluated.{IsFarTaken, few_looks, answer_of_points, answer_of_samples, answer_of_relate}
use Rattle.relate_core.proofs.evaluation.evaluate.Given.{Over}
use Rattle.relate_core.proofs.evaluation.evaluate.Goals as goal
use Rattle.relate_core.proofs.evaluation.evaluate.Goals.{After-take_in_near}

-- the value of a query on two figures' dimensions, by other names
value_as_asked :
    (a b : Figure) (query : Query) (dim_a dim_b : Dim) → dim_a ≡ dimension_of a → dim_b ≡ dimension_of b → (p : Progress)
    → ((m : Matrix) → value_at p m ≡ value_of query dim_a dim_b m) → (m : Matrix)
    → value_at p m ≡ value_of query (dimension_of a) (dimension_of b) m
value_as_asked a b query dim_a dim_b is_a is_b p value m = value m ∙ (λ i. value_of query (is_a i) (is_b i) m)

-- what is known when the envelopes have been taken in
far : (g : Over) (c : After-take_in_near g)
    → IsFarTaken (g.A.Target.figure c.args.a.now) (g.B.Target.figure c.args.b.now) c.args.rule c.args.query c.common_part-w.result
    c.take_in_far.new.progress
far g c = record {
  valid = c.are_valid.ensures.valid;
  x = c.extent-x.result;
  y = c.extent-y.result;
  is_x = c.extent-x.ensures.extent;
  is_y = c.extent-y.ensures.extent;
  frame_x = c.frame.result;
  frame_y = c.frame-2.result;
  is_frame_x = c.frame.ensures.frame;
  is_frame_y = c.frame-2.ensures.frame;
  common = c.common_part-w.ensures.common;
  fresh = c.new-progress.result;
  value =
      value_as_asked (g.A.Target.figure c.args.a.now) (g.B.Target.figure c.args.b.now) c.args.query c.dim.result c.dim-2.result
      (c.dim.ensures.dimension ∙ ap dimension_of c.valid.ensures.figure)
      (c.dim-2.ensures.dimension ∙ ap dimension_of c.valid-2.ensures.figure) c.new-progress.result c.new-progress.ensures.value;
  start = c.new-progress.ensures.matrix;
  taken = c.take_in_far.ensures.taken;
}

pub take_in_far-requires : goal.take_in_far-requires
take_in_far-requires g c = record { start = c.new-progress.ensures.matrix (cell Exterior Exterior) }

pub returns-in_err-take_in_near-clause-looks_a : goal.returns-in_err-take_in_near-clause-looks_a
returns-in_err-take_in_near-clause-looks_a g c =
    few_looks (far g (goal.at.returns-in_err-take_in_near-clause-looks_a g c).After-take_in_near) c.take_in_near.ensures.looks_a

pub returns-in_err-take_in_near-clause-looks_b : goal.returns-in_err-take_in_near-clause-looks_b
returns-in_err-take_in_near-clause-looks_b g c =
    few_looks (far g (goal.at.returns-in_err-take_in_near-clause-looks_b g c).After-take_in_near) c.take_in_near.ensures.looks_b

pub returns-clause-looks_a : goal.returns-clause-looks_a
returns-clause-looks_a g c =
    few_looks (far g (goal.at.returns-clause-looks_a g c).After-take_in_near) c.take_in_near.ensures.looks_a

pub returns-clause-looks_b : goal.returns-clause-looks_b
returns-clause-looks_b g c =
    few_looks (far g (goal.at.returns-clause-looks_b g c).After-take_in_near) c.take_in_near.ensures.looks_b

pub returns-clause-points : goal.returns-clause-points
returns-clause-points g c =
    answer_of_points
    (far g (goal.at.returns-clause-points g c).After-take_in_near) c.in_ok-take_in_near.ensures.taken c.finish.ensures.value

pub returns-clause-samples : goal.returns-clause-samples
returns-clause-samples g c =
    answer_of_samples
    (far g (goal.at.returns-clause-samples g c).After-take_in_near) c.in_ok-take_in_near.ensures.taken c.finish.ensures.value

pub returns-clause-matrix : goal.returns-clause-matrix
returns-clause-matrix g c =
    answer_of_relate
    (far g (goal.at.returns-clause-matrix g c).After-take_in_near) c.in_ok-take_in_near.ensures.taken c.finish.ensures.value
