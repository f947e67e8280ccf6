use Rattle.std.proofs.Common.{◌≡◌, length, ap, ◌∙◌}
use Rattle.fan_order.specs.Fans.{SeenFan}
use Rattle.fan_order.proofs.Middles.{IsAround, around, IsMiddle-around, IsInSector-around}
use Rattle.fan_order.proofs.fan.Fan.middle.Goals as goal
use Rattle.fan_order.proofs.fan.Fan.middle.Goals.{After-middle_between}

-- the two rays are those around the sector
rays_around : (c : After-middle_between) → IsAround c.args.self.now.rays c.args.i c.ray.inside.dir c.next.inside.dir
rays_around c =
    let seen : c.self.inside.rays.items ≡ c.args.self.now.rays = ap (λ (f : SeenFan). f.rays) c.self.view_is in
    around c.args.self.now.rays c.deref.result.now c.deref-2.result.now c.args.i c.len-count.result c.index-deref-i.result
    c.index-deref-i-2.result c.ray.inside.dir c.next.inside.dir (c.deref.ensures ∙ seen) (c.deref-2.ensures ∙ seen)
    (c.len-count.ensures.value ∙ ap length seen) c.if-count-eq0.false c.requires.place c.index-deref-i.is c.index-deref-i-2.is
    c.ray.view_is c.next.view_is

pub returns-clause-middle : goal.returns-clause-middle
returns-clause-middle c =
    IsMiddle-around c.args.self.now.rays c.args.i c.ray.inside.dir c.next.inside.dir c.middle_between.result
    (rays_around (goal.at.returns-clause-middle c).After-middle_between) c.middle_between.ensures.middle

pub returns-clause-within : goal.returns-clause-within
returns-clause-within c =
    IsInSector-around c.args.self.now.rays c.args.i c.ray.inside.dir c.next.inside.dir c.middle_between.result
    (rays_around (goal.at.returns-clause-within c).After-middle_between) c.middle_between.ensures.within
