use Rattle.std.proofs.Common.{refl, arith}
use Rattle.point_set.specs.Shape.{IsAreaShaped, positions_of_area}
use Rattle.figure_laws.proofs.Lists.Counts.{one_of_sum}
use Rattle.figure_laws.proofs.Lists.Places.{all_at, read_at}
use Rattle.ring_faults.proofs.ring_tests.first_area.Goals as goal

pub returns : goal.returns
returns c =
    let areas = c.args.figure.now.areas in
    let area = c.at.result.now in
    let at = read_at areas areas 0 area refl c.requires.some c.at.ensures.item in
    record {
      shaped = all_at IsAreaShaped areas 0 area c.requires.shaped.areas at;
      few = let few = c.requires.shaped.few in omega (arith, few, one_of_sum positions_of_area areas 0 area at);
    }
