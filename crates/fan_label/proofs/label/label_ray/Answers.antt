use Rattle.im_matrix.specs.Cells.{cell}
use Rattle.fan_laws.proofs.Labels.Labels.{ray_pair}
use Rattle.fan_label.proofs.Fans.{fans_of_node}
use Rattle.fan_label.proofs.label.label_ray.Goals as goal

pub returns : goal.returns
returns c = record {
  germ = λ a b rule v seen ray ray_is.
      let fans = fans_of_node a b rule v c.args.at_a c.args.at_b _ _ seen c.rays.ensures.rays in
      ray_pair a b rule v c.args.at_a c.args.at_b c.args.fan.now.sections c.args.fan.now.rays fans.fan_a fans.fan_b seen.kind_a seen.kind_b
      (cell c.part_of_ray.result c.part_of_ray-2.result) c.args.i ray ray_is
      (c.part_of_ray.ensures.part fans.hands_a fans.sided_a ray ray_is)
      (c.part_of_ray-2.ensures.part fans.hands_b fans.sided_b ray ray_is);
}
