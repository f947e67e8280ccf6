use Rattle.area_locator.proofs.ValidLocation.{location_is}
use Rattle.area_locator.proofs.laws.law_one_count_locates_in_valid_areas.Goals as goal

pub returns : goal.returns
returns c = record { location = location_is }
