use Rattle.relate_prep.proofs.Knowing.{same_known}
use Rattle.relate_prep.proofs.asked.seen.Goals as goal

pub returns-clause-kept : goal.returns-clause-kept
returns-clause-kept g c =
    same_known c.args.note.now.known c.get_as.new.note.known c.in-Some.value.now c.requires.known c.in-Some.ensures.value.0
    c.in-Some.ensures.value.1
