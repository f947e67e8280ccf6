use Rattle.std.proofs.Common.{◌∙◌, sym}
use Rattle.topo_pred.proofs.PatternsKnown.{pattern_false, pattern_true, pattern_open}
use Rattle.topo_pred.proofs.outlook.pattern_known.Goals as goal

pub returns-then-some_fails : goal.returns-then-some_fails
returns-then-some_fails c =
    record { known = pattern_false c.args.pattern.now c.args.m.now (sym c.some_fails.ensures.fails ∙ c.if-some_fails.true) }

pub returns-then-all_hold : goal.returns-then-all_hold
returns-then-all_hold c =
    record { known = pattern_true c.args.pattern.now c.args.m.now (sym c.all_hold.ensures.holds ∙ c.if-all_hold.true) }

pub returns-else-all_hold : goal.returns-else-all_hold
returns-else-all_hold c =
    record {
      known = pattern_open c.args.pattern.now c.args.m.now (sym c.some_fails.ensures.fails ∙ c.if-some_fails.false)
          (sym c.all_hold.ensures.holds ∙ c.if-all_hold.false);
    }
