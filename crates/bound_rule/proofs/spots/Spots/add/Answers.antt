use Rattle.bound_rule.proofs.AtSpots.{one_spot_more}
use Rattle.bound_rule.proofs.spots.Spots.add.Goals as goal
use Rattle.bound_rule.proofs.spots.Spots.add.Goals.{in-Ok, in-Err}

pub returns : goal.returns
returns c =
    let added = one_spot_more c.self.inside.positions.keys c.args.position in
    elim c.match-insert.branch [
      | in-Ok w ↦ record { added = rw (w.result-is, w.in-Ok.ensures.keys, ← c.self.view_is) added }
      | in-Err w ↦ record { added = rw w.result-is tt }
    ]
