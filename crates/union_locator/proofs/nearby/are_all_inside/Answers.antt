use Rattle.std.proofs.Common.{ℕ, ◌-◌, false, IsTrue, refl, rules}
use Rattle.std.proofs.lemmas.Iterator.{cases_from_all, YieldsList-from_range}
use Rattle.im_matrix.specs.declared.Which.TheVariants.{A}
use Rattle.point_set.specs.Sectors.{sectors_of}
use Rattle.fan_order.specs.Sections.{IsSectorInside}
use Rattle.union_locator.proofs.Sectors.{all_below}
use Rattle.union_locator.proofs.nearby.are_all_inside.Goals as goal

pub returns : goal.returns
returns c = record {
  all = λ alike sided.
      let n = c.sectors.result in
      let Inside : ℕ → Type 0 = IsSectorInside A c.args.fan.now.sections c.args.fan.now.rays in
      all_below Inside c.all.result n (sectors_of c.args.fan.now.rays) c.sectors.ensures.sectors
      (cases_from_all _ _ c.all.result Inside (λ i. Inside i → IsTrue false) c.all.ensures.ran (YieldsList-from_range 0 n (n - 0) refl refl)
      (λ x q k. search rules) (λ x q k. search rules));
}
