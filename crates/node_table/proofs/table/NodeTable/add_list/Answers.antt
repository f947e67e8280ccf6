use Rattle.std.proofs.Common.{◌≡◌, ◌∙◌, sym, ap, true, is_ok, ◌∷◌, [], ◌++◌}
use Rattle.node_table.proofs.Listed.{own_new, listed_new, listed_in_order}
use Rattle.node_table.proofs.table.NodeTable.add_list.Goals as goal

pub invariant_of-self-in-Ok : goal.invariant_of-self-in-Ok
invariant_of-self-in-Ok c =
    let taken : is_ok c.push.result ≡ true = sym c.map_err.ensures.variant ∙ ap is_ok c.in_ok-map_err.was in
    let grown : c.push.new.self.items ≡ c.self.inside.lists.items ++ c.args.sections ∷ [] = rw taken at c.push.ensures.items in
    record {
      own = rw (c.in-Ok.ensures.entries, grown, c.len-at.ensures, c.self.inside.lists.ok.0)
          (own_new c.self.inside.places.entries c.self.inside.lists.items c.args.n c.args.sections c.self.invariant.own);
      ascending = c.insert.ensures.ordered;
    }

pub returns-in-Ok-clause-added : goal.returns-in-Ok-clause-added
returns-in-Ok-clause-added c =
    let taken : is_ok c.push.result ≡ true = sym c.map_err.ensures.variant ∙ ap is_ok c.in_ok-map_err.was in
    let grown : c.push.new.self.items ≡ c.self.inside.lists.items ++ c.args.sections ∷ [] = rw taken at c.push.ensures.items in
    rw (c.in-Ok.ensures.entries, grown, c.len-at.ensures, c.self.inside.lists.ok.0, ← c.self.view_is)
    (listed_new c.self.inside.places.entries c.self.inside.lists.items c.args.n c.args.sections c.self.invariant.own
    (rw c.self.view_is c.requires.new))

pub returns-in_err-map_err-clause-in_order : goal.returns-in_err-map_err-clause-in_order
returns-in_err-map_err-clause-in_order c = listed_in_order c.self.inside.places.entries c.push.new.self.items c.self.invariant.ascending

pub returns-in-Ok-clause-in_order : goal.returns-in-Ok-clause-in_order
returns-in-Ok-clause-in_order c = listed_in_order c.insert.new.self.entries c.push.new.self.items c.insert.ensures.ordered

pub returns-in-Err-clause-in_order : goal.returns-in-Err-clause-in_order
returns-in-Err-clause-in_order c = listed_in_order c.insert.new.self.entries c.truncate.new.self.items c.insert.ensures.ordered
