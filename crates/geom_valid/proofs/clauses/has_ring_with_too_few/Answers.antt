use Rattle.std.proofs.Common.{rules}
use Rattle.std.specs.Prelude.{IsTrue, ◌↔◌}
use Rattle.std.specs.List.{Any}
use Rattle.std.proofs.lemmas.Bool.{false≢true}
use Rattle.point_set.specs.Validity.{HasTooFewPoints}
use Rattle.geom_valid.proofs.RingLists.{ring_by_holes}
use Rattle.geom_valid.proofs.clauses.has_ring_with_too_few.Goals as goal

pub returns-else-has_too_few : goal.returns-else-has_too_few
returns-else-has_too_few c =
    let tells : IsTrue c.any.result ↔ Any HasTooFewPoints c.args.area.now.holes = search rules in
    let shell : ¬ HasTooFewPoints c.args.area.now.shell = λ h. false≢true (c.if-has_too_few.ensures.few.1 h) in
    record { few = ring_by_holes HasTooFewPoints c.args.area.now c.any.result shell tells }
