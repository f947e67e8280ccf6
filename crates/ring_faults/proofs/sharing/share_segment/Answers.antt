use Rattle.std.proofs.Common.{refl}
use Rattle.std.proofs.lemmas.Bool.{false≢true}
use Rattle.ring_faults.proofs.Overlaps.{along_shares, off_unshared}
use Rattle.ring_faults.proofs.sharing.share_segment.Goals as goal

pub returns-in-Apart : goal.returns-in-Apart
returns-in-Apart c =
    record {
      share = (λ t. absurd (false≢true t), λ s. absurd (off_unshared c.args.e c.args.f c.meet.result c.meet.ensures.exact c.in-Apart.is s));
    }

pub returns-in-Along : goal.returns-in-Along
returns-in-Along c =
    record { share = (λ _. along_shares c.args.e c.args.f c.in-Along.field-0 c.in-Along.field-1 c.in-Along.ensures.exact, λ _. refl) }
