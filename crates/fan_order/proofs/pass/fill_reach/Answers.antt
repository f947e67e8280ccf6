use Rattle.std.proofs.Common.{◌⊎◌, ◌↔◌, ℕ, ◌<◌, length, slice_index, subst, ◌∙◌}
use Rattle.fan_order.specs.Passes.{IsOpened}
use Rattle.fan_order.proofs.Reaches.{opened_more, opened_all}
use Rattle.fan_order.proofs.pass.fill_reach.Goals as goal

pub loop-i-preserved : goal.loop-i-preserved
loop-i-preserved c =
    let passes = c.args.passes.now in
    record {
      long = c.raise_reach.ensures.length ∙ c.loop-i.invariant.long;
      reaches = λ place beyond.
          opened_more passes (length c.args.reach.now) c.loop-i.i place beyond (slice_index c.loop-i.reach place)
          (slice_index c.raise_reach.new.reach place) (c.loop-i.invariant.reaches place beyond)
          (subst
          (λ (end : ℕ). beyond < slice_index c.raise_reach.new.reach place
          ↔ ((beyond < slice_index c.loop-i.reach place) ⊎ IsOpened passes end c.loop-i.i place beyond))
          c.loop-i.invariant.long (c.raise_reach.ensures.reach place beyond));
    }

pub returns : goal.returns
returns c = record {
  length = c.loop-i.invariant.long;
  reach = λ place beyond _.
      opened_all c.args.passes.now (length c.args.reach.now) (length c.loop-i.reach) c.loop-i.i place beyond
      (slice_index c.loop-i.reach place) c.loop-i.invariant.long c.loop-i-test.false (c.loop-i.invariant.reaches place beyond);
}
