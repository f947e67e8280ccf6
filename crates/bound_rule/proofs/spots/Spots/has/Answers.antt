use Rattle.std.proofs.Common.{◌∙◌, sym, ap}
use Rattle.plane_laws.specs.Plane.{Point}
use Rattle.plane_exact.specs.Places.{point_of}
use Rattle.point_set.specs.Lines.{is_at_some}
use Rattle.bound_rule.proofs.AtSpots.{key_spot, no_spot}
use Rattle.bound_rule.proofs.spots.Spots.has.Goals as goal

pub returns-in-Some : goal.returns-in-Some
returns-in-Some c = record {
  spot = c.contains.ensures
      ∙ key_spot c.in-Some.p c.self.inside.positions.keys
      ∙ ap (is_at_some (point_of c.in-Some.p)) c.self.view_is
      ∙ ap (λ (p : Point). is_at_some p c.args.self.now) (sym c.in-Some.ensures.point);
}

pub returns-in-None : goal.returns-in-None
returns-in-None c = record { spot = sym (no_spot c.args.n.now c.in-None.ensures.none c.args.self.now) }
