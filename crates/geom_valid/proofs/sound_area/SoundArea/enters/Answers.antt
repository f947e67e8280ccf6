use Rattle.std.proofs.Common.{◌≡◌, ℕ, suc, List, refl, sym, ◌∙◌, subst, ap}
use Rattle.std.proofs.lemmas.Bool.{false≢true}
use Rattle.im_matrix.specs.declared.Loc.TheVariants.{Interior}
use Rattle.plane_exact.specs.declared.point.Pt.{Pt}
use Rattle.point_set.specs.declared.figure.Area.{Area}
use Rattle.point_set.specs.Rings.{edges_of}
use Rattle.point_set.specs.Validity.{EdgesShareSegment, IsAtPlace}
use Rattle.figure_laws.proofs.Lists.Places.{read_at}
use Rattle.valid_laws.specs.Entering.{edges_in, Enters}
use Rattle.geom_valid.specs.Grounds.{IsSoundWith}
use Rattle.geom_valid.proofs.ByEntering.{enters_by_hole, enters_by_shell, enters_none, ring_unshared}
use Rattle.geom_valid.proofs.RingLists.{none_at_last, none_on}
use Rattle.geom_valid.proofs.sound_area.SoundArea.enters.Goals as goal

pub holds_part_of-requires : goal.holds_part_of-requires
holds_part_of-requires c =
    let area = c.args.self.now in
    let shell : c.shell.result.now ≡ area.shell = c.shell.ensures.shell ∙ ap (λ (a : Area). a.shell) c.self.view_is in
    record {
      unshared = subst (λ (ring : List Pt). ¬ EdgesShareSegment (edges_of ring) (edges_in c.args.other.now)) (sym shell)
          (ring_unshared area c.args.other.now c.requires.unshared 0 area.shell refl);
    }

pub returns-then-branch : goal.returns-then-branch
returns-then-branch c =
    let area = c.args.self.now in
    let own : IsSoundWith area c.self.inside.rows = subst
    (λ (a : Area). IsSoundWith a c.self.inside.rows) c.self.view_is c.self.invariant.sound in
    let shell : c.shell.result.now ≡ area.shell = c.shell.ensures.shell ∙ ap (λ (a : Area). a.shell) c.self.view_is in
    let held : Enters (edges_of area.shell) c.args.other.now Interior
    =
    subst (λ (ring : List Pt). Enters (edges_of ring) c.args.other.now Interior) shell
    (c.in_ok-holds_part_of.ensures.holds.0 c.if-branch.true) in
    record {
      enters = (λ _. enters_by_shell area c.args.other.now Interior held, λ _. refl);
      clean = (own.sound.clean, c.holds_part_of.ensures.clean);
    }

pub holds_part_of-requires-in-loop-hole : goal.holds_part_of-requires-in-loop-hole
holds_part_of-requires-in-loop-hole c =
    let area = c.args.self.now in
    let at = read_at c.holes-hole-items.result.now area.holes c.loop-hole.hole-index c.hole-item.result
    (c.holes-hole-items.ensures.holes ∙ ap (λ (a : Area). a.holes) c.self.view_is) c.loop-hole-test.true c.hole-item.is in
    record { unshared = ring_unshared area c.args.other.now c.requires.unshared (suc c.loop-hole.hole-index) c.hole-item.result at }

pub returns-then-branch-2 : goal.returns-then-branch-2
returns-then-branch-2 c =
    let area = c.args.self.now in
    let own : IsSoundWith area c.self.inside.rows = subst
    (λ (a : Area). IsSoundWith a c.self.inside.rows) c.self.view_is c.self.invariant.sound in
    let at = read_at c.holes-hole-items.result.now area.holes c.loop-hole.hole-index c.hole-item.result
    (c.holes-hole-items.ensures.holes ∙ ap (λ (a : Area). a.holes) c.self.view_is) c.loop-hole-test.true c.hole-item.is in
    record {
      enters = (
        λ _. enters_by_hole area c.args.other.now Interior c.loop-hole.hole-index c.hole-item.result at
            (c.in_ok-holds_part_of-2.ensures.holds.0 c.if-branch-2.true),
        λ _. refl,
      );
      clean = (own.sound.clean, c.holds_part_of.ensures.clean);
    }

pub loop-hole-preserved : goal.loop-hole-preserved
loop-hole-preserved c =
    let items = c.holes-hole-items.result.now in
    let at = read_at items items c.loop-hole.hole-index c.hole-item.result refl c.loop-hole-test.true c.hole-item.is in
    none_on (λ (ring : List Pt). Enters (edges_of ring) c.args.other.now Interior) items c.loop-hole.hole-index c.hole-item.result
    c.loop-hole.invariant at
    (λ h. false≢true (sym c.if-branch-2.false ∙ c.in_ok-holds_part_of-2.ensures.holds.1 h))

pub returns : goal.returns
returns c =
    let area = c.args.self.now in
    let other = c.args.other.now in
    let own : IsSoundWith area c.self.inside.rows = subst
    (λ (a : Area). IsSoundWith a c.self.inside.rows) c.self.view_is c.self.invariant.sound in
    let shell : c.shell.result.now ≡ area.shell = c.shell.ensures.shell ∙ ap (λ (a : Area). a.shell) c.self.view_is in
    let holes : c.holes-hole-items.result.now ≡ area.holes = c.holes-hole-items.ensures.holes ∙ ap (λ (a : Area). a.holes) c.self.view_is in
    let not_shell : ¬ Enters (edges_of area.shell) other Interior
    = λ h. false≢true (sym c.if-branch.false ∙ c.in_ok-holds_part_of.ensures.holds.1
    (subst (λ (ring : List Pt). Enters (edges_of ring) other Interior) (sym shell) h)) in
    let none = none_at_last
    (λ (ring : List Pt). Enters (edges_of ring) other Interior) c.holes-hole-items.result.now c.loop-hole.hole-index
    c.loop-hole.invariant c.loop-hole-test.false in
    let not_holes : (i : ℕ) (hole : List Pt) → IsAtPlace area.holes i hole → ¬ Enters (edges_of hole) other Interior
    = λ i hole is. none i hole (subst (λ (xs : List (List Pt)). IsAtPlace xs i hole) (sym holes) is) in
    record {
      enters = (λ e. absurd (false≢true e), λ h. absurd (enters_none area other Interior not_shell not_holes h));
      clean = (own.sound.clean, c.holds_part_of.ensures.clean);
    }
