use Rattle.std.proofs.Common.{◌≡◌, ◌<◌, ◌↔◌, ℕ, length, slice_index}
use Rattle.fan_order.specs.Passes.{IsOpened}
use Rattle.fan_order.proofs.pass.fill_reach.Given as goal

abbrev pub invariant-loop-i : goal.invariant-loop-i
invariant-loop-i l = record {
  long : length l.reach ≡ length l.fn.reach;
  reaches : (place beyond : ℕ) → (beyond < slice_index l.reach place
      ↔ ((i : ℕ) × (i < l.i) × IsOpened l.passes (length l.fn.reach) i place beyond));
}
