use Rattle.std.proofs.Common.{◌≤◌, ◌-◌, length}
use Rattle.wkt_text.specs.Limits.{most_depth}
use Rattle.wkt_text.proofs.Progress.{SoFar}
use Rattle.wkt_text.proofs.read.read_geometry.Given as goal

abbrev pub invariant-tokens : goal.invariant-tokens
invariant-tokens l = record {
  within : l.place ≤ length l.bytes;
  shallow : l.control.depth ≤ most_depth;
  so_far : SoFar l.scale.digits l.bytes l.at l.place l.control l.build;
}

abbrev pub decreases-tokens : goal.decreases-tokens
decreases-tokens l = length l.bytes - l.place
