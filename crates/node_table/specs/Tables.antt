-- Tables of nodes: each node once, in order, with its sections.
use Rattle.std.specs.Prelude.{◌≡◌, List, [], ◌∷◌, ◌++◌}
use Rattle.std.specs.List.{AllPairs}
use Rattle.std.specs.declared.cmp.Ordering.TheVariants.{Less}
use Rattle.std.specs.Ordering.{match_ordering}
use Rattle.plane_exact.specs.declared.node.Node.{Node}
use Rattle.fan_order.specs.declared.section.Section.{Section}
use Rattle.node_table.specs.Orders.{compare_nodes}
use Rattle.node_table.specs.declared.entry.Entry.{Entry}

-- A node with its sections.
abbrev pub entry : Node → List Section → Entry
entry n sections = record { node = n; sections = sections }

-- The nodes ascend by x, and at the same x by y; so each stands once.
abbrev pub AreInOrder : List Entry → Type 0
AreInOrder entries = AllPairs (λ e f. compare_nodes e.node f.node ≡ Less) entries

-- The entries with a node and further sections at it: a node that is there has these after its own sections, and a new one
-- goes to its place in the order.
abbrev pub with_sections : List Entry → Node → List Section → List Entry
with_sections [] n sections = entry n sections ∷ []
with_sections (e ∷ entries) n sections =
    match_ordering (compare_nodes n e.node)
    (entry n sections ∷ e ∷ entries)
    (entry e.node (e.sections ++ sections) ∷ entries)
    (e ∷ with_sections entries n sections)
