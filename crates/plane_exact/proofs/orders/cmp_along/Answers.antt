use Rattle.std.proofs.Common.{sym, ◌∙◌}
use Rattle.std.proofs.lemmas.Bool.{false≢true}
use Rattle.plane_laws.proofs.Segments.Order.{compare_along-ahead, compare_along-back}
use Rattle.plane_exact.proofs.orders.cmp_along.Goals as goal

pub returns-then-is_before : goal.returns-then-is_before
returns-then-is_before c =
    record {
      order = c.cmp_nodes.ensures.order
          ∙ compare_along-ahead _ _ _ _ (c.is_before.ensures.before.0 c.if-is_before.true) c.requires.first c.requires.second;
    }

pub returns-else-is_before : goal.returns-else-is_before
returns-else-is_before c =
    record {
      order = c.cmp_nodes-else-is_before.ensures.order
          ∙ compare_along-back _ _ _ _
          (λ h. false≢true (sym c.if-is_before.false ∙ c.is_before.ensures.before.1 h)) c.requires.first c.requires.second;
    }
