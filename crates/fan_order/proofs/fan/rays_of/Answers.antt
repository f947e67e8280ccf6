use Rattle.std.proofs.Common.{◌≡◌, ◌+◌, ◌<◌, List, length, length-append, take, sym, subst, le_trans, arith}
use Rattle.std.specs.List.{All, AllZip}
use Rattle.std.proofs.lemmas.List.Elements.{All-push}
use Rattle.plane_exact.specs.declared.dir.Dir.{Dir}
use Rattle.fan_order.specs.declared.section.Section.{Section}
use Rattle.fan_order.specs.Rays.{IsShort, IsRayOf}
use Rattle.fan_order.proofs.Lists.{zip_more}
use Rattle.fan_order.proofs.fan.rays_of.Goals as goal

pub loop-section-preserved : goal.loop-section-preserved
loop-section-preserved c =
    let below : c.loop-section.section-index < length c.args.sections.now = omega arith in
    let given : IsShort c.section-item.result.dir = subst (λ (s : Section). IsShort s.dir) (sym c.section-item.is)
    (c.requires.short c.loop-section.section-index c.section-item.result below) in
    let short : IsShort c.lowest.result = record {
      across = le_trans c.lowest.ensures.across given.across;
      above = le_trans c.lowest.ensures.above given.above;
    } in
    let pushed = sym c.push_reserved.ensures.items in
    record {
      zip =
          subst (λ (rays : List Dir). AllZip (λ (s : Section) (ray : Dir). IsRayOf s.dir ray)
          (take (c.loop-section.section-index + 1) c.args.sections.now) rays) pushed
          (zip_more
          (λ (s : Section)
          (ray : Dir). IsRayOf s.dir ray) c.args.sections.now c.loop-section.rays.items c.loop-section.section-index c.section-item.result
          c.lowest.result below c.section-item.is c.loop-section.invariant.zip c.lowest.ensures.ray);
      short =
          subst (λ (rays : List Dir). All IsShort rays) pushed
          (All-push IsShort c.loop-section.rays.items c.lowest.result c.loop-section.invariant.short short);
      count =
          subst (λ (rays : List Dir). length rays ≡ c.loop-section.section-index + 1) pushed
          (let e = c.loop-section.invariant.count in omega (arith, e, length-append {A = Dir}));
      room = let e = c.loop-section.invariant.room in let f = c.push_reserved.ensures.capacity in omega (arith, e, f);
    }
