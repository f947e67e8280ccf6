use Rattle.std.proofs.Common.{◌∙◌, ◌∷◌, ℕ, ◌+◌, ◌≤◌, List, length, ap, not, refl, sym, subst, subst₂, arith}
use Rattle.std.proofs.lemmas.List.Elements.{All-head}
use Rattle.plane_exact.specs.NodePoints.{point_at}
use Rattle.point_set.specs.declared.figure.Figure.{Figure}
use Rattle.point_set.specs.Samples.{IsSample, IsSampleAt}
use Rattle.node_table.specs.declared.entry.Entry.{Entry}
use Rattle.topo_pred.specs.Values.{IsOpen}
use Rattle.relate_core.specs.Looks.{IsRunOf}
use Rattle.relate_core.specs.Tables.{IsListed}
use Rattle.relate_core.specs.Taking.{HasTakenIn, HasAllSections}
use Rattle.relate_core.proofs.Taking.{taken_where_known, open_where_unknown}
use Rattle.relate_core.proofs.Runs.{HasVisited, visited_none, visited_more, visited_all, visited_enough, run_so_far, run_and_next}
use Rattle.relate_core.proofs.samples.take_in_all.Given.{Over}
use Rattle.relate_core.proofs.samples.take_in_all.Goals as goal
use Rattle.relate_core.proofs.samples.take_in_all.Goals.{In-Some}

-- the entries visited before the next one
visited_here : (g : Over) (c : In-Some g)
    → HasVisited (g.A.Target.figure c.args.a.now) (g.B.Target.figure c.args.b.now) c.args.rule c.args.table.now
    (c.in-Some.entry ∷ c.take_next.new.self) c.args.progress.now c.loop-alloc.progress
visited_here g c =
    subst
    (λ (t : List Entry).
    HasVisited (g.A.Target.figure c.args.a.now) (g.B.Target.figure c.args.b.now) c.args.rule c.args.table.now t
    c.args.progress.now c.loop-alloc.progress) c.in-Some.ensures.first c.loop-alloc.invariant.visited

-- before which the query is open
open_here : (g : Over) (c : In-Some g) → IsOpen c.loop-alloc.progress
open_here g c =
    open_where_unknown c.loop-alloc.progress c.known.result (c.is_none.ensures ∙ ap not c.loop-alloc-test.true) c.known.ensures.open

-- so one look more is a run over them and the next one
run_next : (g : Over) (c : In-Some g) (mid : ℕ) {before after : ℕ} → after ≤ mid + 1
    → mid + length c.loop-alloc.table ≤ before + length c.args.table.now
    → IsRunOf (g.A.Target.figure c.args.a.now)
    (g.B.Target.figure c.args.b.now) c.args.rule c.args.table.now c.args.progress.now before after
run_next g c mid {before} {after} more few =
    let count = ap length c.in-Some.ensures.first in
    run_and_next (g.A.Target.figure c.args.a.now) (g.B.Target.figure c.args.b.now) c.are_valid.ensures.valid c.args.rule
    c.args.table.now c.take_next.new.self c.in-Some.entry c.args.progress.now c.loop-alloc.progress (visited_here g c) (open_here g c)
    before after (omega (arith, more, few, count))

pub loop-alloc-init : goal.loop-alloc-init
loop-alloc-init g c = record {
  figure_a = refl;
  figure_b = refl;
  looks_a = omega arith;
  looks_b = omega arith;
  visited =
      visited_none (g.A.Target.figure c.args.a.now) (g.B.Target.figure c.args.b.now) c.are_valid.ensures.valid c.args.rule
      c.args.table.now c.args.progress.now c.requires.sections;
}

pub take_in_node-requires-clause-sections : goal.take_in_node-requires-clause-sections
take_in_node-requires-clause-sections g c =
    let a : Figure = g.A.Target.figure c.args.a.now in
    let b : Figure = g.B.Target.figure c.args.b.now in
    let e = c.in-Some.entry in
    let all = (visited_here g (goal.at.take_in_node-requires-clause-sections g c).In-Some).sections in
    subst (λ (f : Figure). HasAllSections f (g.B.Target.figure c.loop-alloc.b) e) (sym c.loop-alloc.invariant.figure_a)
    (subst (λ (f : Figure). HasAllSections a f e) (sym c.loop-alloc.invariant.figure_b)
    (All-head (HasAllSections a b) e c.take_next.new.self all))

pub loop-alloc-preserved : goal.loop-alloc-preserved
loop-alloc-preserved g c =
    let a : Figure = g.A.Target.figure c.args.a.now in
    let b : Figure = g.B.Target.figure c.args.b.now in
    let e = c.in-Some.entry in
    let here = (goal.at.loop-alloc-preserved g c).In-Some in
    let invariant = c.loop-alloc.invariant in
    let count = ap length c.in-Some.ensures.first in
    let taken_here : HasTakenIn (IsSampleAt a b c.args.rule (point_at e.node)) c.loop-alloc.progress c.take_in_node.new.progress =
    subst₂
    (λ (f h : Figure). HasTakenIn (IsSampleAt f h c.args.rule (point_at e.node)) c.loop-alloc.progress c.take_in_node.new.progress)
    invariant.figure_a invariant.figure_b c.in_ok-take_in_node-in-Some.ensures.taken in
    record {
      figure_a = c.take_in_node.ensures.figure_a ∙ invariant.figure_a;
      figure_b = c.take_in_node.ensures.figure_b ∙ invariant.figure_b;
      looks_a = let more = c.take_in_node.ensures.looks_a in let before = invariant.looks_a in omega (arith, more, before, count);
      looks_b = let more = c.take_in_node.ensures.looks_b in let before = invariant.looks_b in omega (arith, more, before, count);
      visited =
          visited_more a b c.are_valid.ensures.valid c.args.rule c.args.table.now c.take_next.new.self e c.args.progress.now
          c.loop-alloc.progress c.take_in_node.new.progress (visited_here g here) (open_here g here) taken_here;
    }

pub returns-in_err-take_in_node-in-Some-clause-run_a : goal.returns-in_err-take_in_node-in-Some-clause-run_a
returns-in_err-take_in_node-in-Some-clause-run_a g c =
    run_next g (goal.at.returns-in_err-take_in_node-in-Some-clause-run_a g c).In-Some _ c.take_in_node.ensures.looks_a
    c.loop-alloc.invariant.looks_a

pub returns-in_err-take_in_node-in-Some-clause-run_b : goal.returns-in_err-take_in_node-in-Some-clause-run_b
returns-in_err-take_in_node-in-Some-clause-run_b g c =
    run_next g (goal.at.returns-in_err-take_in_node-in-Some-clause-run_b g c).In-Some _ c.take_in_node.ensures.looks_b
    c.loop-alloc.invariant.looks_b

pub returns-in-None-clause-taken : goal.returns-in-None-clause-taken
returns-in-None-clause-taken g c =
    let a : Figure = g.A.Target.figure c.args.a.now in
    let b : Figure = g.B.Target.figure c.args.b.now in
    let old = c.args.table.now in
    visited_all a b c.are_valid.ensures.valid c.args.rule old c.args.progress.now c.loop-alloc.progress
    (subst (λ (t : List Entry). HasVisited a b c.args.rule old t c.args.progress.now c.loop-alloc.progress) (c.in-None.ensures.none.0 refl)
    c.loop-alloc.invariant.visited)

pub returns-clause-taken : goal.returns-clause-taken
returns-clause-taken g c =
    let a : Figure = g.A.Target.figure c.args.a.now in
    let b : Figure = g.B.Target.figure c.args.b.now in
    let old = c.args.table.now in
    visited_enough a b c.are_valid.ensures.valid c.args.rule old c.loop-alloc.table c.args.progress.now c.loop-alloc.progress
    c.loop-alloc.invariant.visited
    (taken_where_known (IsSample (IsListed old) a b c.args.rule) c.loop-alloc.progress c.known.result
    (c.is_none.ensures ∙ ap not c.loop-alloc-test.false) (λ v e. (c.known.ensures.settled v).0 e))

pub returns-in-None-clause-run_a : goal.returns-in-None-clause-run_a
returns-in-None-clause-run_a g c = run_so_far c.loop-alloc.invariant.visited c.loop-alloc.invariant.looks_a

pub returns-in-None-clause-run_b : goal.returns-in-None-clause-run_b
returns-in-None-clause-run_b g c = run_so_far c.loop-alloc.invariant.visited c.loop-alloc.invariant.looks_b

pub returns-clause-run_a : goal.returns-clause-run_a
returns-clause-run_a g c = run_so_far c.loop-alloc.invariant.visited c.loop-alloc.invariant.looks_a

pub returns-clause-run_b : goal.returns-clause-run_b
returns-clause-run_b g c = run_so_far c.loop-alloc.invariant.visited c.loop-alloc.invariant.looks_b
