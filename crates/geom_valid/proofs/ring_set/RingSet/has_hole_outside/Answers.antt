use Rattle.std.proofs.Common.{◌≡◌, ℕ, List, refl, sym, ◌∙◌, subst, ap}
use Rattle.std.proofs.lemmas.Bool.{false≢true}
use Rattle.plane_exact.specs.declared.point.Pt.{Pt}
use Rattle.point_set.specs.declared.figure.Area.{Area}
use Rattle.point_set.specs.Validity.{IsAtPlace}
use Rattle.figure_laws.proofs.Lists.Places.{read_at}
use Rattle.valid_laws.specs.Entering.{LeavesShell}
use Rattle.geom_valid.proofs.ByEntering.{hole_outside_at, no_hole_outside, shell_unshared}
use Rattle.geom_valid.proofs.RingLists.{none_at_last, none_on}
use Rattle.geom_valid.proofs.ring_set.RingSet.has_hole_outside.Goals as goal

pub leaves-requires : goal.leaves-requires
leaves-requires c =
    let area = c.self.inside.area.now in
    let at = read_at c.as_slice-hole-items.result.now area.holes c.loop-hole.hole-index c.hole-item.result
    (c.as_slice-hole-items.ensures.items ∙ c.self.invariant.holes_are) c.loop-hole-test.true c.hole-item.is in
    record {
      unshared = shell_unshared area c.self.invariant.unshared c.self.inside.shell c.self.invariant.shell_is c.loop-hole.hole-index
          c.hole-item.result at;
    }

pub returns-then-branch : goal.returns-then-branch
returns-then-branch c =
    let area = c.args.self.now in
    let at = read_at c.as_slice-hole-items.result.now area.holes c.loop-hole.hole-index c.hole-item.result
    (c.as_slice-hole-items.ensures.items ∙ c.self.invariant.holes_are ∙ ap (λ (a : Area). a.holes) c.self.view_is) c.loop-hole-test.true
    c.hole-item.is in
    let shell : c.self.inside.shell ≡ area.shell = c.self.invariant.shell_is ∙ ap (λ (a : Area). a.shell) c.self.view_is in
    let leaves : LeavesShell area.shell c.hole-item.result
    = subst (λ (s : List Pt). LeavesShell s c.hole-item.result) shell (c.in_ok-leaves.ensures.leaves.0 c.if-branch.true) in
    record { outside = (λ _. hole_outside_at area c.loop-hole.hole-index c.hole-item.result at leaves, λ _. refl) }

pub loop-hole-preserved : goal.loop-hole-preserved
loop-hole-preserved c =
    let area = c.args.self.now in
    let items = c.as_slice-hole-items.result.now in
    let at = read_at items items c.loop-hole.hole-index c.hole-item.result refl c.loop-hole-test.true c.hole-item.is in
    let shell : c.self.inside.shell ≡ area.shell = c.self.invariant.shell_is ∙ ap (λ (a : Area). a.shell) c.self.view_is in
    none_on (LeavesShell area.shell) items c.loop-hole.hole-index c.hole-item.result c.loop-hole.invariant at
    (λ h. false≢true
    (sym c.if-branch.false ∙ c.in_ok-leaves.ensures.leaves.1 (subst (λ (s : List Pt). LeavesShell s c.hole-item.result) (sym shell) h)))

pub returns : goal.returns
returns c =
    let area = c.args.self.now in
    let holes : c.as_slice-hole-items.result.now ≡ area.holes
    = c.as_slice-hole-items.ensures.items ∙ c.self.invariant.holes_are ∙ ap (λ (a : Area). a.holes) c.self.view_is in
    let none = none_at_last
    (LeavesShell area.shell) c.as_slice-hole-items.result.now c.loop-hole.hole-index c.loop-hole.invariant c.loop-hole-test.false in
    let all : (i : ℕ) (hole : List Pt) → IsAtPlace area.holes i hole → ¬ LeavesShell area.shell hole
    = λ i hole is. none i hole (subst (λ (xs : List (List Pt)). IsAtPlace xs i hole) (sym holes) is) in
    record { outside = (λ e. absurd (false≢true e), λ h. absurd (no_hole_outside area all h)) }
