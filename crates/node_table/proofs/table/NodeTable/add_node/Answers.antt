use Rattle.std.proofs.Common.{◌∙◌, sym, subst}
use Rattle.node_table.specs.Places.{IsNew}
use Rattle.node_table.specs.Tables.{AreInOrder}
use Rattle.node_table.proofs.Listed.{listed_same, listed_in_order, new_from_none}
use Rattle.node_table.proofs.table.NodeTable.add_node.Goals as goal

pub returns-then-contains_key-clause-added : goal.returns-then-contains_key-clause-added
returns-then-contains_key-clause-added c =
    let there = sym c.contains_key.ensures ∙ c.if-contains_key.true in
    rw (← c.self.view_is) (listed_same c.self.inside.places.entries c.self.inside.lists.items c.args.n c.self.invariant there)

pub returns-then-contains_key-clause-in_order : goal.returns-then-contains_key-clause-in_order
returns-then-contains_key-clause-in_order c =
    subst AreInOrder c.self.view_is (listed_in_order c.self.inside.places.entries c.self.inside.lists.items c.self.invariant.ascending)

pub add_list-requires : goal.add_list-requires
add_list-requires c =
    let none = sym c.contains_key.ensures ∙ c.if-contains_key.false in
    let new = new_from_none c.self.inside.places.entries c.self.inside.lists.items c.args.n none in
    record { new = subst (IsNew c.args.n) c.self.view_is new }
