use Rattle.topo_pred.proofs.NamesKnown.{overlaps_points-known, overlaps_lines-known, overlaps_areas-known, overlaps_none-known}
use Rattle.topo_pred.proofs.outlook.overlaps_known.Goals as goal

pub returns-in-One-One : goal.returns-in-One-One
returns-in-One-One c =
    record {
      known = rw (c.then_some-in-One-One.ensures, c.meet_in_an_area.ensures.area, c.in-One-One.is-0, c.in-One-One.is-1)
          (overlaps_lines-known c.args.m.now);
    }

pub returns-in-Zero-Zero : goal.returns-in-Zero-Zero
returns-in-Zero-Zero c =
    record {
      known = rw (c.then_some.ensures, c.each_in_part.ensures.parts, c.in-Zero-Zero.is-0, c.in-Zero-Zero.is-1)
          (overlaps_points-known c.args.m.now);
    }

pub returns-in-Two-Two : goal.returns-in-Two-Two
returns-in-Two-Two c =
    record {
      known = rw (c.then_some-in-Two-Two.ensures, c.each_in_part-in-Two-Two.ensures.parts, c.in-Two-Two.is-0, c.in-Two-Two.is-1)
          (overlaps_areas-known c.args.m.now);
    }

pub returns-in_default : goal.returns-in_default
returns-in_default c =
    record { known = overlaps_none-known c.args.dim_a c.args.dim_b c.args.m.now (λ p q. c.in_default.not-Zero-1 q) (λ p q. cc) (λ p q. cc) }

pub returns-in_default-2 : goal.returns-in_default-2
returns-in_default-2 c =
    record { known = overlaps_none-known c.args.dim_a c.args.dim_b c.args.m.now (λ p q. cc) (λ p q. c.in_default.not-One-1 q) (λ p q. cc) }

pub returns-in_default-3 : goal.returns-in_default-3
returns-in_default-3 c =
    record { known = overlaps_none-known c.args.dim_a c.args.dim_b c.args.m.now (λ p q. cc) (λ p q. cc) (λ p q. c.in_default.not-Two-1 q) }

pub returns-in_default-4 : goal.returns-in_default-4
returns-in_default-4 c = record { known = overlaps_none-known c.args.dim_a c.args.dim_b c.args.m.now (λ p q. cc) (λ p q. cc) (λ p q. cc) }
