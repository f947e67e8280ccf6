use Rattle.std.proofs.Common.{refl}
use Rattle.sample_figures.proofs.law.law_samples_are_valid.Goals as goal
use Rattle.sample_figures.proofs.SoundFigures.{sample_is_shaped, sample_is_valid}

pub returns : goal.returns
returns c = record { shaped = sample_is_shaped; valid = sample_is_valid; greatest = refl }
