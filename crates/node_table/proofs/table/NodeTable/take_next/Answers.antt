use Rattle.std.proofs.Common.{ℕ, ◌∙◌, sym, subst, refl, IsNone, arith}
use Rattle.std.proofs.lemmas.Bool.{true≢false}
use Rattle.plane_exact.specs.declared.node.Node.{Node}
use Rattle.node_table.specs.Tables.{AreInOrder}
use Rattle.node_table.proofs.Listed.{own_set, own_first, first_taken, listed_in_order, listed_none}
use Rattle.node_table.proofs.table.NodeTable.take_next.Goals as goal

pub index_mut-requires : goal.index_mut-requires
index_mut-requires c =
    let old = c.self.inside.places.entries in
    let new = c.pop_first.new.self.entries in
    let lists = c.self.inside.lists in
    let first : Node × ℕ = (c.in_ok-place.place, c.in_ok-place.at) in
    let own = own_first old new first lists.items c.in_ok-place.ensures.removal c.self.invariant.own in
    omega (arith, own.0, lists.ok.0)

pub invariant_of-self-2 : goal.invariant_of-self-2
invariant_of-self-2 c =
    let old = c.self.inside.places.entries in
    let new = c.pop_first.new.self.entries in
    let lists = c.self.inside.lists.items in
    let at = c.in_ok-place.at in
    let own = own_first old new (c.in_ok-place.place, at) lists c.in_ok-place.ensures.removal c.self.invariant.own in
    record { own = own_set new lists at c.replace-sections.new.dest own.2; ascending = c.pop_first.ensures.ordered }

pub returns-clause-first : goal.returns-clause-first
returns-clause-first c =
    sym c.self.view_is
    ∙ first_taken c.self.inside.places.entries c.pop_first.new.self.entries c.in_ok-place.place c.place.inside.node c.in_ok-place.at
    c.self.inside.lists.items c.replace-sections.result c.replace-sections.new.dest c.index_mut.result.now
    c.in_ok-place.ensures.removal c.self.invariant.own c.place.view_is (c.replace-sections.ensures.value ∙ c.index_mut.ensures.value)

pub returns-clause-in_order : goal.returns-clause-in_order
returns-clause-in_order c =
    subst AreInOrder c.self.view_is (listed_in_order c.self.inside.places.entries c.self.inside.lists.items c.self.invariant.ascending)

pub returns-in_err-place-clause-none : goal.returns-in_err-place-clause-none
returns-in_err-place-clause-none c = (
  λ n. sym c.self.view_is
      ∙ listed_none c.self.inside.places.entries c.self.inside.lists.items (λ h. true≢false (sym (c.in_err-place.ensures.variant.1 h))),
  λ e. subst IsNone (sym c.from_residual.ensures) refl,
)
