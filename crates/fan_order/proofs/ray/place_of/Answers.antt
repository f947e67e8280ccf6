use Rattle.fan_order.proofs.Places.{placed}
use Rattle.fan_order.proofs.ray.place_of.Goals as goal

pub returns-in-Ok-clause-place : goal.returns-in-Ok-clause-place
returns-in-Ok-clause-place c =
    (placed c.args.rays.now c.args.dir c.binary_search.result c.binary_search.ensures.bound c.binary_search.ensures.position
    c.requires.ascending c.requires.there c.in-Ok.place c.in-Ok.is).0

pub returns-in-Ok-2-clause-place : goal.returns-in-Ok-2-clause-place
returns-in-Ok-2-clause-place c =
    (placed c.args.rays.now c.args.dir c.binary_search.result c.binary_search.ensures.bound c.binary_search.ensures.position
    c.requires.ascending c.requires.there c.in-Ok.place c.in-Ok.is).0

pub returns-in-Ok-2-clause-within : goal.returns-in-Ok-2-clause-within
returns-in-Ok-2-clause-within c =
    (placed c.args.rays.now c.args.dir c.binary_search.result c.binary_search.ensures.bound c.binary_search.ensures.position
    c.requires.ascending c.requires.there c.in-Ok.place c.in-Ok.is).1
