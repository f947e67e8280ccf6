use Rattle.std.proofs.Common.{ap, refl, sym, ◌∙◌}
use Rattle.std.proofs.lemmas.Bool.{false≢true}
use Rattle.point_set.specs.Sectors.{sector_before}
use Rattle.fan_label.proofs.RayParts.{both_full, nothing_along}
use Rattle.fan_label.proofs.part.part_of_ray.Goals as goal

pub returns-in-true-true : goal.returns-in-true-true
returns-in-true-true c = record {
  part = λ hands sided ray _.
      both_full c.args.at c.args.which c.args.fan.now.sections c.args.fan.now.rays c.args.i ray c.place_before-before.result
      (c.place_before-before.ensures.before ∙ ap (λ n. sector_before n c.args.i) c.rays.ensures.length)
      ((c.in-true-true.ensures.full hands sided).0 refl) ((c.in-true-true.ensures'.full hands sided).0 refl);
}

pub returns-else-has_line : goal.returns-else-has_line
returns-else-has_line c = record {
  part = λ hands sided ray ray_is.
      nothing_along c.args.at c.args.which c.args.fan.now.sections c.args.fan.now.rays c.args.i ray c.place_before-before.result
      (c.place_before-before.ensures.before ∙ ap (λ n. sector_before n c.args.i) c.rays.ensures.length)
      (λ full. false≢true ((c.in-false-false.ensures.full hands sided).1 full))
      (λ full. false≢true ((c.in-false-false.ensures'.full hands sided).1 full))
      (λ on. false≢true (sym c.if-has_line.false ∙ (c.has_line.ensures.line ray ray_is).1 on));
}
