use Rattle.std.proofs.Common.{true≢false, sym, ◌∙◌}
use Rattle.union_locator.proofs.NearEdges.{area_there}
use Rattle.union_locator.proofs.nearby.Nearby.area_edge.Goals as goal
use Rattle.union_locator.proofs.nearby.Nearby.area_edge.Goals.{else-not-is_of_line-via-then-not-is_of_line+else-on_segment}
use Rattle.union_locator.proofs.nearby.Nearby.area_edge.Goals.{else-not-is_of_line-via-else-not-is_of_line}

pub returns-then-on_segment-clause-edge : goal.returns-then-on_segment-clause-edge
returns-then-on_segment-clause-edge c = record {
  is = c.edge_at-edge.ensures.is;
  of_area = λ e. true≢false (sym (c.is_of_line.ensures.line.1 e) ∙ c.if-not-is_of_line.true);
  on = c.on_segment.ensures.on.0 c.if-on_segment.true;
}

pub returns-else-not-is_of_line-clause-none : goal.returns-else-not-is_of_line-clause-none
returns-else-not-is_of_line-clause-none c = λ edge h.
    let there = area_there c.edge_at-edge.ensures.is h in
    elim c.else-not-is_of_line.branch [
      | else-not-is_of_line-via-then-not-is_of_line+else-on_segment w ↦ true≢false
          (sym (w.on_segment.ensures.on.1 there.1) ∙ w.if-on_segment.false)
      | else-not-is_of_line-via-else-not-is_of_line w ↦ there.0 (c.is_of_line.ensures.line.0 w.if-not-is_of_line.false)
    ]
