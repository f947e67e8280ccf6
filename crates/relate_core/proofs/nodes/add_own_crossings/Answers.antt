use Rattle.std.proofs.Common.{◌∙◌, ap, sym}
use Rattle.point_set.specs.declared.figure.Figure.{Figure}
use Rattle.point_set.specs.Shape.{has_item}
use Rattle.relate_core.proofs.Crossings.{own_crossings, no_own_crossings}
use Rattle.relate_core.proofs.nodes.add_own_crossings.Goals as goal

pub returns-in_ok-add_crossings-clause-nodes : goal.returns-in_ok-add_crossings-clause-nodes
returns-in_ok-add_crossings-clause-nodes g c =
    let same = ap (λ (z : Figure). has_item z.areas) (c.figure.ensures.same ∙ c.valid.ensures.figure) in
    own_crossings c.args.w (g.T.Target.figure c.args.t.now) c.args.edges.now c.args.nodes.now c.add_crossings.new.nodes
    (sym (c.has_areas.ensures.areas ∙ same) ∙ c.if-has_areas.true) c.in_ok-add_crossings.ensures.nodes

pub returns-else-has_areas-clause-nodes : goal.returns-else-has_areas-clause-nodes
returns-else-has_areas-clause-nodes g c =
    let same = ap (λ (z : Figure). has_item z.areas) (c.figure.ensures.same ∙ c.valid.ensures.figure) in
    no_own_crossings c.args.w (g.T.Target.figure c.args.t.now) c.args.edges.now c.args.nodes.now
    (sym (c.has_areas.ensures.areas ∙ same) ∙ c.if-has_areas.false)
