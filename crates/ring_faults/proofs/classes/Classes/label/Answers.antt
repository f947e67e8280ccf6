use Rattle.std.proofs.Common.{length, ap, sym, arith}
use Rattle.std.proofs.lemmas.Option.{slice_get_read}
use Rattle.point_set.specs.Validity.{IsAtPlace}
use Rattle.ring_faults.specs.Classes.{lists_of}
use Rattle.ring_faults.proofs.ClassSteps.{label_within}
use Rattle.ring_faults.proofs.classes.Classes.label.Goals as goal

pub returns-clause-within : goal.returns-clause-within
returns-clause-within c =
    let labels = c.self.inside.labels.items in
    let at : IsAtPlace labels c.args.ring c.index.result.now =
    slice_get_read labels (length c.args.self.now) c.args.ring c.index.result.now (sym (ap length c.self.view_is)) c.requires.ring
    c.index.ensures in
    let below = label_within labels (lists_of c.self.inside.members.items) c.self.invariant c.args.ring c.index.result.now at in
    omega (arith, below, ap length c.self.view_is)
