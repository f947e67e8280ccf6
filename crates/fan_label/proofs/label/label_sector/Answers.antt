use Rattle.im_matrix.specs.Cells.{cell}
use Rattle.fan_laws.proofs.Labels.Labels.{sector_pair}
use Rattle.fan_label.proofs.Fans.{fans_of_node}
use Rattle.fan_label.proofs.label.label_sector.Goals as goal

pub returns : goal.returns
returns c = record {
  germ = λ a b rule v seen d in_d.
      let fans = fans_of_node a b rule v c.args.at_a c.args.at_b _ _ seen c.rays.ensures.rays in
      sector_pair a b rule v c.args.at_a c.args.at_b c.args.fan.now.sections c.args.fan.now.rays fans.fan_a fans.fan_b seen.kind_a
      seen.kind_b
      (cell c.part_of_sector.result c.part_of_sector-2.result) c.args.i c.requires.within d in_d
      (c.part_of_sector.ensures.part fans.hands_a fans.sided_a)
      (c.part_of_sector-2.ensures.part fans.hands_b fans.sided_b);
}
