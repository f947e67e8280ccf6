use Rattle.std.proofs.Common.{sym, ap, subst, [], ◌∷◌, set, arith}
use Rattle.std.specs.Prelude.{is_some}
use Rattle.std.proofs.lemmas.Result.{on_ok_weaker}
use Rattle.node_table.specs.Places.{IsNew}
use Rattle.node_table.specs.Tables.{AreInOrder}
use Rattle.node_table.proofs.Listed.{place_there, own_set, listed_pushed, listed_in_order, new_from_none}
use Rattle.node_table.proofs.table.NodeTable.add.Goals as goal

pub index_mut-list-requires : goal.index_mut-list-requires
index_mut-list-requires c =
    let lists = c.self.inside.lists in
    let found = sym c.in-Some.ensures.value in
    let there = place_there c.self.inside.places.entries lists.items c.args.n c.in-Some.field-0.now c.self.invariant.own found in
    omega (arith, there, lists.ok.0)

pub invariant_of-self : goal.invariant_of-self
invariant_of-self c = record {
  own = own_set c.self.inside.places.entries c.self.inside.lists.items c.in-Some.field-0.now c.push.new.self c.self.invariant.own;
  ascending = c.self.invariant.ascending;
}

pub returns-in-Some-clause-added : goal.returns-in-Some-clause-added
returns-in-Some-clause-added c =
    on_ok_weaker c.push.result
    (λ after. rw (← c.self.view_is)
    (listed_pushed c.self.inside.places.entries c.self.inside.lists.items c.args.n c.in-Some.field-0.now (c.args.s ∷ [])
    c.index_mut-list.result.now c.push.new.self c.self.invariant (sym c.in-Some.ensures.value) c.index_mut-list.ensures.value after))
    c.push.ensures.ok

pub returns-in-Some-clause-in_order : goal.returns-in-Some-clause-in_order
returns-in-Some-clause-in_order c =
    let lists = set c.self.inside.lists.items c.in-Some.field-0.now c.push.new.self in
    listed_in_order c.self.inside.places.entries lists c.self.invariant.ascending

pub returns-in_err-push-clause-in_order : goal.returns-in_err-push-clause-in_order
returns-in_err-push-clause-in_order c =
    subst AreInOrder c.self.view_is (listed_in_order c.self.inside.places.entries c.self.inside.lists.items c.self.invariant.ascending)

pub add_list-requires : goal.add_list-requires
add_list-requires c =
    let none = ap is_some (sym c.in_default.ensures.value) in
    let new = new_from_none c.self.inside.places.entries c.self.inside.lists.items c.args.n none in
    record { new = subst (IsNew c.args.n) c.self.view_is new }
