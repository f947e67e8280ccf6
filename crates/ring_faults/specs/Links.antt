-- Cycles of touching rings as a matter of lists: links of rings and nodes, ways over them, and labels of rings.
use Rattle.std.specs.Prelude.{◌≡◌, ◌≢◌, ℕ, List, [], ◌∷◌, length, Contains}
use Rattle.std.specs.List.{All}
use Rattle.std.specs.Ordering.{ordering_then, nat_cmp}
use Rattle.std.specs.declared.cmp.Ordering.{Ordering}
use Rattle.plane_exact.specs.NodePoints.{point_at}
use Rattle.plane_laws.specs.Orders.{compare_points}
use Rattle.plane_exact.specs.declared.node.Node.{Node}
use Rattle.point_set.specs.Validity.{IsAtPlace}
use Rattle.ring_faults.specs.declared.link.Link.{Link}

-- The order of links: by node, and at one node by ring.
abbrev pub compare_links : Link → Link → Ordering
compare_links l m = ordering_then (compare_points (point_at l.node) (point_at m.node)) (nat_cmp l.ring m.ring)

-- A ring is linked with a node.
abbrev pub IsLinked : List Link → Node → ℕ → Type 0
IsLinked links n i = Contains links (record { node = n; ring = i })

-- A step of a way: a ring, and the node at which it is left for the next ring.
pub record Step : Type 0 where
  pub place : ℕ
  pub node : Node

-- Two steps have different rings and different nodes.
abbrev pub IsApartFrom : Step → Step → Type 0
IsApartFrom step other = (step.place ≢ other.place) × (step.node ≢ other.node)

-- No two steps of a list have the same ring or the same node.
abbrev pub AreStepsApart : List Step → Type 0
AreStepsApart [] = Unit {0}
AreStepsApart (step ∷ others) = All (IsApartFrom step) others × AreStepsApart others

-- From each step to the next, and from the last to the starting ring: the node is linked with its own ring and the next one.
abbrev pub IsStepChain : List Link → ℕ → Step → List Step → Type 0
IsStepChain links start step [] = IsLinked links step.node step.place × IsLinked links step.node start
IsStepChain links start step (next ∷ others) =
    IsLinked links step.node step.place × IsLinked links step.node next.place × IsStepChain links start next others

-- The links have a cycle of at least two rings at different nodes.
pub record HasCycle (links : List Link) : Type 0 where
  pub start : Step
  pub second : Step
  pub others : List Step
  pub apart : AreStepsApart (start ∷ second ∷ others)
  pub chain : IsStepChain links start.place start (second ∷ others)

-- One label stands in place of another.
pub record IsRelabelled (from to : ℕ) (labels new : List ℕ) : Type 0 where
  pub length_same : length new ≡ length labels
  pub replaced : (i : ℕ) → IsAtPlace labels i from → IsAtPlace new i to
  pub kept : (i label : ℕ) → label ≢ from → IsAtPlace labels i label → IsAtPlace new i label
