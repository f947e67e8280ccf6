use Rattle.std.proofs.Common.{◌≡◌, ◌↔◌, ℕ, ◌*◌, ◌<◌, false, IsTrue, List, length, sym, ap, ◌∙◌, subst}
use Rattle.std.specs.Prelude.{slice_index_or}
use Rattle.std.specs.List.{All}
use Rattle.std.specs.List.Sorted.{IsPermutation}
use Rattle.fan_order.specs.declared.pass.Pass.{Pass}
use Rattle.fan_order.specs.Passes.{twice, ArePasses, AreReaches, IsReachedOver}
use Rattle.fan_order.proofs.Lists.{refilled}
use Rattle.fan_order.proofs.PassLists.{passes_moved, passes_below}
use Rattle.fan_order.proofs.Turns.{inside_by_flags, flags_then}
use Rattle.fan_order.proofs.walk.inside_of.Goals as goal
use Rattle.fan_order.proofs.walk.inside_of.Goals.{After-as_slice}

-- the passes as they are read once they are sorted
passes_read : (c : After-as_slice) → c.as_slice.result.now ≡ c.sort_unstable.new.self
passes_read c =
    c.as_slice.ensures
    ∙ refilled c.in_ok-passes.passes.items c.sort_unstable.new.self (c.sort_unstable.ensures.len ∙ ap length c.deref_mut.ensures.value)

-- they are the passes of the sections
passes_sorted : (c : After-as_slice) → ArePasses c.args.which (twice c.args.rays.now) c.args.sections.now c.sort_unstable.new.self
passes_sorted c =
    passes_moved c.args.which (twice c.args.rays.now) c.args.sections.now c.in_ok-passes.passes.items c.sort_unstable.new.self
    (subst (λ (old : List Pass). IsPermutation old c.sort_unstable.new.self) c.deref_mut.ensures.value c.sort_unstable.ensures.permutation)
    c.in_ok-passes.ensures.passes

pub reach_of-requires : goal.reach_of-requires
reach_of-requires c =
    let at = (goal.at.reach_of-requires c).After-as_slice in
    record {
      places =
          subst (λ (passes : List Pass). All (λ pass. pass.place < 2 * length c.args.rays.now) passes) (sym (passes_read at))
          (passes_below c.args.which c.args.rays.now c.args.sections.now c.sort_unstable.new.self (passes_sorted at));
    }

pub returns-clause-inside : goal.returns-clause-inside
returns-clause-inside c =
    let at = (goal.at.returns-clause-inside c).After-as_slice in
    let reaches =
    subst (λ (passes : List Pass). AreReaches passes c.in_ok-reach.reach.items) (passes_read at) c.in_ok-reach.ensures.reach in
    flags_then c.open_at.result c.open_at.ensures.«open»
    (λ flags flagged alike sided i below.
    inside_by_flags c.args.which c.args.sections.now alike sided c.args.rays.now c.sort_unstable.new.self (passes_sorted at)
    c.sort_unstable.ensures.sorted c.in_ok-reach.reach.items c.in_ok-reach.ensures.length reaches flags.items
    (subst
    (λ (reach : List ℕ). (place : ℕ) → place < length reach → (IsTrue (slice_index_or flags.items place false) ↔ IsReachedOver reach place))
    c.as_slice-2.ensures flagged)
    i below)
