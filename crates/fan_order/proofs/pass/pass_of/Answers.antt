use Rattle.std.proofs.Common.{◌≡◌, ◌↔◌, IsTrue, rules}
use Rattle.point_set.specs.declared.edge.Hand.TheVariants as hand
use Rattle.fan_order.proofs.pass.pass_of.Goals as goal

pub returns-clause-pass : goal.returns-clause-pass
returns-clause-pass c =
    let which_is : c.args.section.now.which ≡ c.args.which = search rules in
    let enters : IsTrue c.eq.result ↔ (c.args.section.now.hand ≡ hand.Left) = search rules in
    record {
      ray = c.place_of.ensures.place.ray;
      ray_is = c.place_of.ensures.place.ray_is;
      along = record { which_is = which_is; area_is = c.in_ok-area.was; along = c.place_of.ensures.place.same };
      enters = enters;
    }
