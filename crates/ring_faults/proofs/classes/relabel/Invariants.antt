-- The rings before the index have the label, and the others have theirs.
use Rattle.std.proofs.Common.{take}
use Rattle.ring_faults.specs.Classes.{ArePutUnder}
use Rattle.ring_faults.proofs.classes.relabel.Given as goal

abbrev pub invariant-loop-ring : goal.invariant-loop-ring
invariant-loop-ring l = ArePutUnder l.label (take l.ring-index l.rings) l.fn.labels l.labels
