use Rattle.area_locator.proofs.ValidAlone.{alone}
use Rattle.area_locator.proofs.laws.law_areas_of_valid_figures_are_valid.Goals as goal

pub returns : goal.returns
returns c = record { alone = alone }
