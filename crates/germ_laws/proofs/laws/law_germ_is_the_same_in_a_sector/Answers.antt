use Rattle.germ_laws.proofs.laws.law_germ_is_the_same_in_a_sector.Goals as goal
use Rattle.germ_laws.proofs.Sectors.Germ.{same_in_sector, same_off_edges}
use Rattle.germ_laws.proofs.Sectors.Rays.{same_between_rays}

pub returns : goal.returns
returns c = record { same = same_in_sector; bare = same_off_edges; sector = same_between_rays }
