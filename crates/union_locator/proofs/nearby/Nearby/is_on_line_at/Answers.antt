use Rattle.std.proofs.Common.{true≢false, sym, ◌∙◌}
use Rattle.union_locator.proofs.NearEdges.{line_there}
use Rattle.union_locator.proofs.nearby.Nearby.is_on_line_at.Goals as goal

pub returns-then-is_of_line : goal.returns-then-is_of_line
returns-then-is_of_line c =
    let edge = c.edge_at-edge.result in
    let is = c.edge_at-edge.ensures.is in
    record {
      line = (
        λ t. (edge, record { is = is; of_line = c.is_of_line.ensures.line.0 c.if-is_of_line.true; on = c.on_segment.ensures.on.0 t }),
        λ h. c.on_segment.ensures.on.1 (line_there is h.1).1,
      );
    }

pub returns-else-is_of_line : goal.returns-else-is_of_line
returns-else-is_of_line c = record {
  line = (
    λ t. absurd (true≢false (sym t ∙ c.if-is_of_line.false)),
    λ h. c.is_of_line.ensures.line.1 (line_there c.edge_at-edge.ensures.is h.1).0,
  );
}
