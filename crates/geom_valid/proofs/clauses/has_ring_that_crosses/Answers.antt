use Rattle.std.proofs.Common.{List, refl, sym, ◌∙◌, subst}
use Rattle.std.proofs.lemmas.Bool.{false≢true}
use Rattle.plane_exact.specs.declared.point.Pt.{Pt}
use Rattle.point_set.specs.Validity.{CrossesItself, IsAtPlace}
use Rattle.figure_laws.proofs.Lists.Places.{read_at}
use Rattle.geom_valid.proofs.RingLists.{no_ring_from, none_at_last, none_on, ring_of_hole, ring_of_shell}
use Rattle.geom_valid.proofs.clauses.has_ring_that_crosses.Goals as goal

pub returns-then-branch : goal.returns-then-branch
returns-then-branch c =
    record {
      crosses = (
        λ _. ring_of_shell CrossesItself c.args.area.now
            (c.in_ok-crosses_itself.ensures.crosses.0 c.if-branch.true),
        λ _. refl,
      );
    }

pub returns-then-branch-2 : goal.returns-then-branch-2
returns-then-branch-2 c =
    let at = read_at c.as_slice-hole-items.result.now c.args.area.now.holes c.loop-hole.hole-index c.hole-item.result
    c.as_slice-hole-items.ensures.items c.loop-hole-test.true c.hole-item.is in
    record {
      crosses = (
        λ _. ring_of_hole CrossesItself c.args.area.now c.loop-hole.hole-index c.hole-item.result at
            (c.in_ok-crosses_itself-2.ensures.crosses.0 c.if-branch-2.true),
        λ _. refl,
      );
    }

pub loop-hole-preserved : goal.loop-hole-preserved
loop-hole-preserved c =
    let items = c.as_slice-hole-items.result.now in
    let at = read_at items items c.loop-hole.hole-index c.hole-item.result refl c.loop-hole-test.true c.hole-item.is in
    none_on CrossesItself items c.loop-hole.hole-index c.hole-item.result c.loop-hole.invariant at
    (λ h. false≢true (sym c.if-branch-2.false ∙ c.in_ok-crosses_itself-2.ensures.crosses.1 h))

pub returns : goal.returns
returns c =
    let none = none_at_last CrossesItself c.as_slice-hole-items.result.now c.loop-hole.hole-index c.loop-hole.invariant
    c.loop-hole-test.false in
    let shell : ¬ CrossesItself c.args.area.now.shell = λ h. false≢true
    (sym c.if-branch.false ∙ c.in_ok-crosses_itself.ensures.crosses.1 h) in
    let holes : (i : _) (hole : List Pt) → IsAtPlace c.args.area.now.holes i hole → ¬ CrossesItself hole
    = λ i hole is. none i hole (subst (λ (xs : List (List Pt)). IsAtPlace xs i hole) (sym c.as_slice-hole-items.ensures.items) is) in
    record { crosses = (λ e. absurd (false≢true e), λ h. absurd (no_ring_from CrossesItself c.args.area.now shell holes h)) }
