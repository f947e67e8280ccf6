use Rattle.std.proofs.Common.{List, ℕ, sym, ap, ◌∙◌, length, subst}
use Rattle.fan_order.specs.Passes.{AreReaches}
use Rattle.fan_order.proofs.Lists.{refilled}
use Rattle.fan_order.proofs.pass.reach_of.Goals as goal

pub returns-clause-reach : goal.returns-clause-reach
returns-clause-reach c =
    subst (λ (reach : List ℕ). AreReaches c.args.passes.now reach)
    (sym (refilled c.in_ok-reach.reach.items c.fill_reach.new.reach (c.fill_reach.ensures.length ∙ ap length c.as_mut_slice.ensures.value)))
    c.fill_reach.ensures.reach
