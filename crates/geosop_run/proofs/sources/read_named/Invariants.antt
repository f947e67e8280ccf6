-- What was read so far is the front of what the name holds, and no fault was counted.
use Rattle.std.proofs.Common.{◌≡◌, ◌+◌, ◌-◌, ◌≤◌, true, Some, length}
use Rattle.std.specs.Io.KnownBytes.{prepend_known}
use Rattle.geosop_io.specs.Inputs.{KeepsOthers}
use Rattle.geosop_run.specs.Sources.{most_bytes}
use Rattle.geosop_run.proofs.sources.read_named.Given as goal

abbrev pub invariant-loop-buffer : goal.invariant-loop-buffer
invariant-loop-buffer g l =
    let before = g.I.Inputs.seen l.fn.inputs in
    let now = g.I.Inputs.seen l.inputs in
    record {
      asked : now.asked l.side ≡ Some l.fn.name;
      started : now.started l.side ≡ true;
      given : now.given l.side ≡ length l.bytes.items;
      left : before.holds l.fn.name ≡ prepend_known l.bytes.items (now.left l.side);
      within : length l.bytes.items ≤ most_bytes + 1;
      faults : now.faults ≡ before.faults;
      others : KeepsOthers l.side before now;
    }

abbrev pub decreases-loop-buffer : goal.decreases-loop-buffer
decreases-loop-buffer g l = most_bytes + 1 - length l.bytes.items
