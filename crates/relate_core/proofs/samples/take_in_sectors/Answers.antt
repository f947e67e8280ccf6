use Rattle.std.proofs.Common.{arith}
use Rattle.relate_core.proofs.Visits.{sector_taken, sectors_all}
use Rattle.relate_core.proofs.samples.take_in_sectors.Goals as goal

pub loop-i-preserved : goal.loop-i-preserved
loop-i-preserved c =
    sector_taken c.loop-i.invariant (omega arith) c.cell_of.ensures.cell c.label_sector.ensures.germ c.take_in_cell.ensures.taken

pub returns : goal.returns
returns c = record { taken = sectors_all c.loop-i.invariant c.requires.rays (omega arith) }
