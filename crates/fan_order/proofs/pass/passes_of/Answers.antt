use Rattle.std.proofs.Common.{◌≡◌, List, [], length, length-append, sym, ap, ◌∙◌, subst, arith}
use Rattle.fan_order.specs.declared.pass.Pass.{Pass}
use Rattle.fan_order.specs.Passes.{twice, ArePasses}
use Rattle.fan_order.proofs.PassLists.{passes_of_none, passes_more}
use Rattle.fan_order.proofs.Places.{some_ray}
use Rattle.fan_order.proofs.pass.passes_of.Goals as goal

pub loop-section-init : goal.loop-section-init
loop-section-init c =
    let empty : c.reserve.new.self.items ≡ [] = c.reserve.ensures.items ∙ c.new-passes.ensures.items in
    record {
      passes =
          subst (λ (ps : List Pass). ArePasses c.args.which (twice c.args.rays.now) [] ps) (sym empty)
          (passes_of_none c.args.which (twice c.args.rays.now));
      few = let e = ap length empty in omega (arith, e);
      room = let e = ap length empty in let k = c.in_ok-reserve.ensures.ok in omega (arith, e, k);
    }

pub add_passes-requires-clause-along : goal.add_passes-requires-clause-along
add_passes-requires-clause-along c =
    some_ray c.args.sections.now c.args.rays.now c.requires.rays c.loop-section.section-index c.section-item.result c.loop-section-test.true
    c.section-item.is

pub loop-section-preserved : goal.loop-section-preserved
loop-section-preserved c =
    let adds = c.add_passes.ensures.passes in
    record {
      passes =
          passes_more c.args.which (twice c.args.rays.now) c.args.sections.now c.loop-section.section-index c.section-item.result
          c.loop-section.passes.items c.add_passes.new.passes.items c.loop-section-test.true c.section-item.is
          c.loop-section.invariant.passes adds;
      few =
          let e = ap length adds.new_is in
          let f = adds.few in
          let k = c.loop-section.invariant.few in
          omega (arith, e, f, k, length-append c.loop-section.passes.items adds.more);
      room = let e = c.add_passes.ensures.room in let k = c.loop-section.invariant.room in omega (arith, e, k);
    }
