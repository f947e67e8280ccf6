use Rattle.std.proofs.Common.{◌∙◌, sym}
use Rattle.topo_pred.proofs.NamesKnown.{crosses_lines-known, crosses_below-known, crosses_above-known, crosses_level-known}
use Rattle.topo_pred.proofs.outlook.crosses_known.Goals.{in_default-via-in-One+in_default, in_default-via-in_default}
use Rattle.topo_pred.proofs.outlook.crosses_known.Goals as goal

pub returns-in-One-One : goal.returns-in-One-One
returns-in-One-One c =
    record {
      known = rw (c.then_some.ensures, c.meet_in_a_line.ensures.line, c.in-One-One.is-0, c.in-One-One.is-1)
          (crosses_lines-known c.args.m.now);
    }

pub returns-in_default : goal.returns-in_default
returns-in_default c = record {
  known = rw (c.then_some-in_default.ensures, c.some_in_some_out.ensures.parts)
      (crosses_below-known c.args.dim_a c.args.dim_b c.args.m.now (sym c.is_below.ensures.below ∙ c.if-is_below.true));
}

pub returns-in_default-2 : goal.returns-in_default-2
returns-in_default-2 c = record {
  known = rw (c.then_some-in_default-2.ensures, c.some_in_some_over.ensures.parts)
      (crosses_above-known c.args.dim_a c.args.dim_b c.args.m.now (sym c.is_below-2.ensures.below ∙ c.if-is_below-2.true));
}

pub returns-in_default-3 : goal.returns-in_default-3
returns-in_default-3 c = record {
  known = crosses_level-known c.args.dim_a c.args.dim_b c.args.m.now
      (elim c.in_default.branch [
        | in_default-via-in-One+in_default w ↦ (λ p q. w.in_default.not-One-1 q)
        | in_default-via-in_default w ↦ (λ p q. w.in_default.not-One-0 p)
      ])
      (sym c.is_below.ensures.below ∙ c.if-is_below.false)
      (sym c.is_below-2.ensures.below ∙ c.if-is_below-2.false);
}
