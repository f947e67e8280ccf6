use Rattle.std.proofs.Common.{List, ◌∙◌, subst}
use Rattle.point_set.specs.declared.figure.Figure.{Figure}
use Rattle.point_set.specs.Nodes.{segs_of, all_positions}
use Rattle.node_table.specs.declared.entry.Entry.{Entry}
use Rattle.relate_core.specs.NodeSets.{AddsNear, CrossesSome, CrossesWithin, IsAtOneOf}
use Rattle.relate_core.proofs.Together.{nodes_together}
use Rattle.relate_core.proofs.nodes.nodes_in.Goals as goal

pub returns-clause-nodes : goal.returns-clause-nodes
returns-clause-nodes g c =
    let w = c.args.w in
    let a = g.A.Target.figure c.args.a.now in
    let b = g.B.Target.figure c.args.b.now in
    let edges_a = c.in_ok-edges_a.edges_a in
    let edges_b = c.in_ok-edges_b.edges_b in
    let one = c.add_positions.new.nodes in
    let two = c.add_positions-2.new.nodes in
    let three = c.add_crossings.new.nodes in
    let four = c.add_own_crossings.new.nodes in
    let five = c.add_own_crossings-2.new.nodes in
    let same_a = c.in_ok-edges_a.ensures.figure in
    let same_b = c.in_ok-edges_b.ensures.figure in
    nodes_together w a b edges_a edges_b c.in_ok-edges_a.ensures.edges c.in_ok-edges_b.ensures.edges one two three four five
    (subst (λ (t : List Entry). AddsNear w (IsAtOneOf (all_positions a)) t one) c.new-nodes.ensures.empty
    (subst (λ (f : Figure). AddsNear w (IsAtOneOf (all_positions f)) c.new-nodes.result one)
    (c.figure.ensures.same ∙ c.valid.ensures.figure ∙ same_a) c.in_ok-add_positions.ensures.nodes))
    (subst (λ (f : Figure). AddsNear w (IsAtOneOf (all_positions f)) one two) (c.figure-2.ensures.same ∙ c.valid-2.ensures.figure ∙ same_b)
    c.in_ok-add_positions-2.ensures.nodes)
    (subst (λ (f : Figure). AddsNear w (CrossesSome edges_a (segs_of f)) two three) same_b c.in_ok-add_crossings.ensures.nodes)
    (subst (λ (f : Figure). AddsNear w (CrossesWithin edges_a f) three four) same_a c.in_ok-add_own_crossings.ensures.nodes)
    (subst (λ (f : Figure). AddsNear w (CrossesWithin edges_b f) four five) (c.in_ok-add_crossings.ensures.figure ∙ same_b)
    c.in_ok-add_own_crossings-2.ensures.nodes)
