use Rattle.figure_laws.proofs.Valid.Pairs.{are_valid}
use Rattle.stay_laws.proofs.Stays.Germs.{pair_germ_exists}
use Rattle.cell_laws.proofs.laws.law_sector.Goals as goal
use Rattle.cell_laws.proofs.Germs.Along.{germ_holds_segment}
use Rattle.cell_laws.proofs.Germs.Sectors.{sector_is_one}

pub returns : goal.returns
returns c =
    let valid = are_valid c.figure.ensures.shaped c.figure.ensures.valid c.figure-2.ensures.shaped c.figure-2.ensures.valid in
    record {
      germ = pair_germ_exists c.args.a.now c.args.b.now valid c.args.rule;
      segment = germ_holds_segment c.args.a.now c.args.b.now valid c.args.rule;
      sector = sector_is_one c.args.a.now c.args.b.now valid c.args.rule;
    }
