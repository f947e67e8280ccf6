use Rattle.std.proofs.Common.{◌≡◌, ◌≤◌, length}
use Rattle.fan_order.proofs.Reaches.{IsFarthest, AreOpened}
use Rattle.fan_order.proofs.pass.open_at.Given as goal

abbrev pub invariant-loop-until : goal.invariant-loop-until
invariant-loop-until l = record {
  count : length l.opened.items ≡ l.until-index;
  farthest : IsFarthest l.reach l.until-index l.farthest;
  opened : AreOpened l.reach l.until-index l.opened.items;
  room : length l.reach ≤ l.opened.capacity;
}
