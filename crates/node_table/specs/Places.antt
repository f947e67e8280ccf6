-- How a table keeps its sections: beside each node stands the place of its list in a list of lists.
use Rattle.std.specs.Prelude.{◌≡◌, ◌≢◌, false, ℕ, ◌<◌, List, [], ◌∷◌, map, length, get_or}
use Rattle.std.specs.List.{AllByRecursion}
use Rattle.std.specs.List.Sorted.{IsStrictlySortedBy}
use Rattle.std.specs.Map.{keys_of}
use Rattle.std.specs.Ordering.{is_eq}
use Rattle.plane_exact.specs.declared.node.Node.{Node}
use Rattle.fan_order.specs.declared.section.Section.{Section}
use Rattle.node_table.specs.Orders.{compare_nodes}
use Rattle.node_table.specs.Tables.{entry}
use Rattle.node_table.specs.declared.entry.Entry.{Entry}

-- Nodes, each with a place.
abbrev pub Placed : Type 0
Placed = List (Node × ℕ)

-- The nodes, each with the list of sections that stands at its place.
abbrev pub listed : Placed → List (List Section) → List Entry
listed places lists = map (λ e. entry e.0 (get_or lists e.1 [])) places

-- None of the nodes has this place.
abbrev pub IsFree : ℕ → Placed → Type 0
IsFree at places = AllByRecursion (λ e. e.1 ≢ at) places

-- Each node's place is there, and no two nodes have the same.
abbrev pub AreOwnPlaces : Placed → List (List Section) → Type 0
AreOwnPlaces [] lists = Unit {0}
AreOwnPlaces (e ∷ places) lists = (e.1 < length lists) × IsFree e.1 places × AreOwnPlaces places lists

-- What a table keeps: each node has a place of its own, and the nodes ascend.
pub record AreKept (places : Placed) (lists : List (List Section)) : Type 0 where
  pub own : AreOwnPlaces places lists
  pub ascending : IsStrictlySortedBy compare_nodes (keys_of places)

-- None of the entries has this node.
abbrev pub IsNew : Node → List Entry → Type 0
IsNew n entries = AllByRecursion (λ e. is_eq (compare_nodes n e.node) ≡ false) entries
