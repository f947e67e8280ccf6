use Rattle.std.proofs.Common.{◌≡◌, ◌∙◌, ℕ, List, sym, subst}
use Rattle.std.specs.Prelude.{Option}
use Rattle.std.proofs.lemmas.Result.{on_ok_weaker}
use Rattle.plane_exact.specs.declared.window.Window.{Window}
use Rattle.point_set.specs.declared.figure.Figure.{Figure}
use Rattle.point_set.specs.declared.rule.Rule.{Rule}
use Rattle.point_set.specs.Samples.{IsSample}
use Rattle.point_set.specs.Visible.{AreValid}
use Rattle.near_laws.specs.Near.{IsNearNode}
use Rattle.node_table.specs.declared.entry.Entry.{Entry}
use Rattle.topo_pred.specs.declared.Progress.{Progress}
use Rattle.relate_core.specs.Looks.{IsNearRun, IsRunOf, runs}
use Rattle.relate_core.specs.Tables.{IsListed, IsTableOf}
use Rattle.relate_core.specs.Taking.{HasTakenIn}
use Rattle.relate_core.proofs.Answered.{taken_at_nodes}
use Rattle.relate_core.proofs.Taking.{taken_where_known}
use Rattle.relate_core.proofs.evaluation.take_in_near.Given.{Over}
use Rattle.relate_core.proofs.evaluation.take_in_near.Goals as goal
use Rattle.relate_core.proofs.evaluation.take_in_near.Goals.{After-take_in_all}

module _ (a b : Figure) (valid : AreValid a b) (rule : Rule) (f g : Figure) (same_f : f ≡ a) (same_g : g ≡ b) (w u : Option Window)
    (same : w ≡ u) (entries : List Entry) (table : IsTableOf (IsNearNode u a b) a b entries) (p q : Progress) where
  -- the samples at the entries are those at the near nodes
  near_taken : HasTakenIn (IsSample (IsListed entries) f g rule) p q → HasTakenIn (IsSample (IsNearNode w a b) a b rule) p q
  near_taken h =
      subst (λ z. HasTakenIn (IsSample (IsNearNode z a b) a b rule) p q) (sym same)
      (taken_at_nodes a b valid rule (IsNearNode u a b) entries table p q
      (subst (λ z. HasTakenIn (IsSample (IsListed entries) z b rule) p q) same_f
      (subst (λ z. HasTakenIn (IsSample (IsListed entries) f z rule) p q) same_g h)))

  -- the run over the entries is one over the near nodes
  near_run : (before first after : ℕ) → first ≡ before → IsRunOf f g rule entries p first after → IsNearRun w a b rule p before after
  near_run before first after stood run =
      subst (λ z. IsNearRun z a b rule p before after) (sym same)
      (runs entries table
      (subst (λ n. IsRunOf a b rule entries p n after) stood
      (subst (λ z. IsRunOf z b rule entries p first after) same_f (subst (λ z. IsRunOf f z rule entries p first after) same_g run))))

pub returns-then-is_some-clause-taken : goal.returns-then-is_some-clause-taken
returns-then-is_some-clause-taken g c =
    let a : Figure = g.A.Target.figure c.args.a.now in
    let b : Figure = g.B.Target.figure c.args.b.now in
    taken_where_known (IsSample (IsNearNode c.args.w a b) a b c.args.rule) c.args.progress.now c.known.result
    (sym c.is_some.ensures ∙ c.if-is_some.true) (λ v e. (c.known.ensures.settled v).0 e)

pub returns-clause-taken : goal.returns-clause-taken
returns-clause-taken g c =
    let a : Figure = g.A.Target.figure c.args.a.now in
    let b : Figure = g.B.Target.figure c.args.b.now in
    on_ok_weaker c.take_in_all.result
    (near_taken a b c.are_valid.ensures.valid c.args.rule (g.A.Target.figure c.fill_in.new.a) (g.B.Target.figure c.fill_in.new.b)
    c.fill_in.ensures.figure_a c.fill_in.ensures.figure_b c.args.w _ c.in-Some.is c.in_ok-table.table c.in_ok-table.ensures.table
    c.args.progress.now c.take_in_all.new.progress)
    c.take_in_all.ensures.taken

-- the run of all is one over the near nodes
run_here : (g : Over) (c : After-take_in_all g) {before first after : ℕ} → first ≡ before
    → IsRunOf (g.A.Target.figure c.fill_in.new.a) (g.B.Target.figure c.fill_in.new.b) c.args.rule c.in_ok-table.table
    c.args.progress.now first after
    → IsNearRun c.args.w (g.A.Target.figure c.args.a.now) (g.B.Target.figure c.args.b.now) c.args.rule c.args.progress.now before after
run_here g c {before} {first} {after} =
    near_run (g.A.Target.figure c.args.a.now) (g.B.Target.figure c.args.b.now) c.are_valid.ensures.valid c.args.rule
    (g.A.Target.figure c.fill_in.new.a) (g.B.Target.figure c.fill_in.new.b) c.fill_in.ensures.figure_a c.fill_in.ensures.figure_b
    c.args.w _ c.in-Some.is c.in_ok-table.table c.in_ok-table.ensures.table c.args.progress.now c.take_in_all.new.progress
    before first after

pub returns-clause-looks_a : goal.returns-clause-looks_a
returns-clause-looks_a g c =
    run_here g (goal.at.returns-clause-looks_a g c).After-take_in_all c.fill_in.ensures.looks_a c.take_in_all.ensures.run_a

pub returns-clause-looks_b : goal.returns-clause-looks_b
returns-clause-looks_b g c =
    run_here g (goal.at.returns-clause-looks_b g c).After-take_in_all c.fill_in.ensures.looks_b c.take_in_all.ensures.run_b
