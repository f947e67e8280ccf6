use Rattle.std.proofs.Common.{◌∙◌, sym, ap, Ordering}
use Rattle.std.specs.Ordering.{ordering_then, int_cmp}
use Rattle.bound_rule.specs.Positions.{compare_positions}
use Rattle.bound_rule.proofs.Counted.{compare_positions-coordinates}
use Rattle.bound_rule.proofs.position.PositionOrd.cmp.Goals as goal

pub returns-in-Equal : goal.returns-in-Equal
returns-in-Equal c =
    let p = c.self.inside.point in
    let q = c.other.inside.point in
    c.cmp-in-Equal.ensures
    ∙ ap (λ (o : Ordering). ordering_then o (int_cmp p.y q.y)) (sym c.in-Equal.is ∙ c.cmp.ensures)
    ∙ compare_positions-coordinates p q
    ∙ (λ i. compare_positions (c.self.view_is i) (c.other.view_is i))
