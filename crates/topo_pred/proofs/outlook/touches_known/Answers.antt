use Rattle.topo_pred.proofs.NamesKnown.{touches-points, touches-known}
use Rattle.topo_pred.proofs.outlook.touches_known.Goals.{in_default-via-in-Zero+in_default, in_default-via-in_default}
use Rattle.topo_pred.proofs.outlook.touches_known.Goals as goal

pub returns-in-Zero-Zero : goal.returns-in-Zero-Zero
returns-in-Zero-Zero c = record { known = rw (c.in-Zero-Zero.is-0, c.in-Zero-Zero.is-1) (touches-points c.args.m.now) }

pub returns-in_default : goal.returns-in_default
returns-in_default c = record {
  known = rw (c.then_some.ensures, c.has.ensures.common)
      (touches-known c.args.dim_a c.args.dim_b c.args.m.now
      (elim c.in_default.branch [
        | in_default-via-in-Zero+in_default w ↦ (λ p q. w.in_default.not-Zero-1 q)
        | in_default-via-in_default w ↦ (λ p q. w.in_default.not-Zero-0 p)
      ]));
}
