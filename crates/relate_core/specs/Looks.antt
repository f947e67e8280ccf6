-- How often the figures are looked at: no more often than nodes are needed to know the value of a query.
use Rattle.std.specs.Prelude.{◌≡◌, ◌≤◌, ◌<◌, ◌+◌, ℕ, Option, List, take, length}
use Rattle.std.specs.List.{All, AllPairs, Any}
use Rattle.std.specs.declared.cmp.Ordering.TheVariants.{Less}
use Rattle.im_matrix.specs.declared.Dim.{Dim}
use Rattle.im_matrix.specs.declared.Matrix.{Matrix}
use Rattle.plane_laws.specs.Plane.{Point, IsSamePoint}
use Rattle.plane_exact.specs.NodePoints.{point_at}
use Rattle.plane_exact.specs.declared.node.Node.{Node}
use Rattle.plane_exact.specs.declared.window.Window.{Window}
use Rattle.point_set.specs.declared.figure.Figure.{Figure}
use Rattle.point_set.specs.declared.rule.Rule.{Rule}
use Rattle.point_set.specs.Nodes.{IsFewNode}
use Rattle.point_set.specs.Samples.{IsMatrixOfSamples, IsSample}
use Rattle.near_laws.specs.Near.{IsNearNode}
use Rattle.node_table.specs.Orders.{compare_nodes}
use Rattle.node_table.specs.declared.entry.Entry.{Entry}
use Rattle.topo_pred.specs.Later.{IsAtLeast}
use Rattle.topo_pred.specs.Values.{value_of, IsOpen}
use Rattle.topo_pred.specs.declared.Progress.{Progress}
use Rattle.topo_pred.specs.declared.Query.{Query}
use Rattle.relate_core.specs.Tables.{IsListed, IsTableOf}
use Rattle.relate_core.specs.Taking.{HasTakenIn}

-- ---- the bound
-- A point is one of some nodes.
abbrev pub IsOneOf : List Node → Point → Type 0
IsOneOf nodes v = Any (λ n. IsSamePoint v (point_at n)) nodes

-- Nodes in their order, exactly those of a set of points, each once.
pub record AreNodesInOrder (Nodes : Point → Type 0) (nodes : List Node) : Type 0 where
  pub in_order : AllPairs (λ m n. compare_nodes m n ≡ Less) nodes
  pub only : All (λ n. Nodes (point_at n)) nodes
  pub whole : (v : Point) → Nodes v → IsOneOf nodes v

-- The samples at some nodes decide a query: it has one value on all matrices that are at least the matrix of these samples.
abbrev pub DecideQuery : Figure → Figure → Rule → Query → Dim → Dim → List Node → Type 0
DecideQuery a b rule query dim_a dim_b nodes =
    (m : Matrix) → IsMatrixOfSamples (IsOneOf nodes) a b rule m → (one other : Matrix) → IsAtLeast one m → IsAtLeast other m
    → value_of query dim_a dim_b one ≡ value_of query dim_a dim_b other

-- A count has risen by at most the number of the few nodes; and by at most i, where the first i of these, in their order, decide the
-- query.
pub record AreLooksFew (a b : Figure) (rule : Rule) (query : Query) (dim_a dim_b : Dim) (before after : ℕ) : Type 0 where
  pub all : (nodes : List Node) → AreNodesInOrder (IsFewNode a b) nodes → after ≤ before + length nodes
  pub decided :
      (nodes : List Node) → AreNodesInOrder (IsFewNode a b) nodes → (i : ℕ) → i ≤ length nodes
      → DecideQuery a b rule query dim_a dim_b (take i nodes) → after ≤ before + i

-- ---- a run over a table
-- A query in progress was still open when it had taken in the samples at some entries.
pub record WasOpenAfter (a b : Figure) (rule : Rule) (entries : List Entry) (start : Progress) : Type 0 where
  pub now : Progress
  pub taken : HasTakenIn (IsSample (IsListed entries) a b rule) start now
  pub is_open : IsOpen now

-- A count has risen by at most one at each of the first entries, and before each of these the query was open.
pub record IsRunOf (a b : Figure) (rule : Rule) (entries : List Entry) (start : Progress) (before after : ℕ) : Type 0 where
  pub entered : ℕ
  pub within : entered ≤ length entries
  pub risen : after ≤ before + entered
  pub was_open : (i : ℕ) → i < entered → WasOpenAfter a b rule (take i entries) start

-- A count stands, or has risen in a run over the table of the few nodes that are near a box.
pub data IsNearRun (w : Option Window) (a b : Figure) (rule : Rule) (start : Progress) (before after : ℕ) : Type 0 where
  stands : after ≡ before → IsNearRun w a b rule start before after
  runs :
      (entries : List Entry) → IsTableOf (IsNearNode w a b) a b entries → IsRunOf a b rule entries start before after
      → IsNearRun w a b rule start before after
