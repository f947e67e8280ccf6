-- The crossings of the edges before are in, and the figure is the same.
use Rattle.std.proofs.Common.{◌≡◌}
use Rattle.point_set.specs.Nodes.{segs_of}
use Rattle.relate_core.specs.NodeSets.{AddsNear, CrossesOne}
use Rattle.relate_core.proofs.Sets.{IsOfBefore}
use Rattle.relate_core.proofs.nodes.add_crossings.Given as goal

abbrev pub invariant-loop-edge : goal.invariant-loop-edge
invariant-loop-edge g l = record {
  figure : g.T.Target.figure l.t ≡ g.T.Target.figure l.fn.t;
  looks : g.T.Target.looks l.t ≡ g.T.Target.looks l.fn.t;
  added : AddsNear l.w (IsOfBefore (λ e. CrossesOne e (segs_of (g.T.Target.figure l.fn.t))) l.edges l.edge-index) l.fn.nodes l.nodes;
}
