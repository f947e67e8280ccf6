use Rattle.std.proofs.Common.{List, sym, ◌∙◌, subst}
use Rattle.std.proofs.lemmas.Bool.{true≢false}
use Rattle.plane_exact.specs.declared.point.Seg.{Seg}
use Rattle.area_locator.proofs.Differences.{differs_at_edge, differs_at_end, same_more}
use Rattle.area_locator.specs.AreaEdges.{edges_left}
use Rattle.area_locator.specs.Indexed.{IsFirstDifference, edges_of_area}
use Rattle.area_locator.proofs.area_index.first_difference.Goals as goal

pub returns-then-not-is_at-clause-first : goal.returns-then-not-is_at-clause-first
returns-then-not-is_at-clause-first c =
    subst (λ (list : List Seg). IsFirstDifference list (edges_of_area c.args.area.now) c.loop-edge.place) c.as_slice-edges.ensures.items
    (differs_at_edge c.as_slice-edges.result.now (edges_of_area c.args.area.now) (edges_left c.loop-edge.edge-iterator) c.loop-edge.place
    c.loop-edge.invariant.within c.loop-edge.invariant.same
    c.in-Some.edge (edges_left c.next.new.self) c.in-Some.ensures.steps
    (λ here. true≢false (sym (c.is_at.ensures.at.1 here) ∙ c.if-not-is_at.true)))

pub loop-edge-preserved : goal.loop-edge-preserved
loop-edge-preserved c =
    let edges = c.as_slice-edges.result.now in
    let left = edges_left c.loop-edge.edge-iterator in
    let more =
    same_more edges (edges_of_area c.args.area.now) left c.loop-edge.place c.loop-edge.invariant.within c.loop-edge.invariant.same
    c.in-Some.edge (edges_left c.next.new.self) c.in-Some.ensures.steps (c.is_at.ensures.at.0 c.if-not-is_at.false) in
    record { within = more.0; same = more.1 }

pub returns-then-place-edges-clause-first : goal.returns-then-place-edges-clause-first
returns-then-place-edges-clause-first c =
    subst (λ (list : List Seg). IsFirstDifference list (edges_of_area c.args.area.now) c.loop-edge.place) c.as_slice-edges.ensures.items
    (differs_at_end c.as_slice-edges.result.now (edges_of_area c.args.area.now) (edges_left c.loop-edge.edge-iterator) c.loop-edge.place
    c.loop-edge.invariant.within c.loop-edge.invariant.same
    c.in-None.ensures.steps.0 c.if-place-edges.true)
