use Rattle.std.proofs.Common.{◌≡◌, get_or, refl, arith}
use Rattle.std.proofs.lemmas.Bool.{false≢true}
use Rattle.std.proofs.lemmas.Bool.Decides.{not_from_Decides}
use Rattle.std.proofs.lemmas.Option.{slice_get-get_or}
use Rattle.point_set.specs.declared.figure.Area.{Area}
use Rattle.point_set.specs.Validity.{AreasShareSegment}
use Rattle.figure_laws.proofs.Lists.Places.{read_at}
use Rattle.geom_valid.specs.Elements.{HaveInCommon}
use Rattle.geom_valid.proofs.AreaBoxes.{common_boxes_meet, on_interior}
use Rattle.geom_valid.proofs.EarlierAreas.{earlier_at, no_earlier, not_earlier_at}
use Rattle.geom_valid.proofs.NearPlaces.{IsSoEarlier}
use Rattle.geom_valid.proofs.RingLists.{none_on}
use Rattle.geom_valid.proofs.elements.has_common_with_earlier.Goals as goal
use Rattle.geom_valid.proofs.elements.has_common_with_earlier.Goals.{else-before-place-via-then-before-place+in_ok-have_in_group+else-branch}
use Rattle.geom_valid.proofs.elements.has_common_with_earlier.Goals.{else-before-place-via-else-before-place}

pub have_in_group-requires : goal.have_in_group-requires
have_in_group-requires c =
    let areas = c.args.f.now.areas in
    let own = read_at areas areas c.args.place c.at.result.now refl c.requires.place c.at.ensures.item in
    record {
      unshared = on_interior c.args.what
          (λ none both. none (earlier_at c.args.f.now c.args.place c.args.earlier.now c.requires.earlier c.if-before-place.true
          c.at-then-before-place.ensures.item own c.requires.area AreasShareSegment both))
          c.requires.unshared;
    }

pub returns-then-branch : goal.returns-then-branch
returns-then-branch c =
    let areas = c.args.f.now.areas in
    let own = read_at areas areas c.args.place c.at.result.now refl c.requires.place c.at.ensures.item in
    let both = c.in_ok-have_in_group.ensures.common.0 c.if-branch.true in
    let some = earlier_at c.args.f.now c.args.place c.args.earlier.now c.requires.earlier c.if-before-place.true
    c.at-then-before-place.ensures.item own c.requires.area (HaveInCommon c.args.what) both in
    record { common = (λ _. some, λ _. refl) }

pub loop-other-preserved : goal.loop-other-preserved
loop-other-preserved c =
    let f = c.args.f.now in
    let near = c.as_slice-other-items.result.now in
    let i = c.loop-other.other-index in
    let IsSo : Area → Type 0 = λ other. (c.at.result.now.group ≡ other.group) × HaveInCommon c.args.what c.args.sound.now other in
    let not : ¬ IsSoEarlier IsSo f.areas c.args.place (get_or near i 0)
    = elim c.else-before-place.branch [
      | else-before-place-via-then-before-place+in_ok-have_in_group+else-branch w ↦
          not_earlier_at f c.args.place c.args.earlier.now c.requires.earlier w.if-before-place.true
          w.at-then-before-place.ensures.item IsSo (not_from_Decides _ w.in_ok-have_in_group.ensures.common w.if-branch.false)
      | else-before-place-via-else-before-place w ↦ (λ so. absurd (omega (arith, so.earlier, w.if-before-place.false)))
    ] in
    none_on (IsSoEarlier IsSo f.areas c.args.place) near i (get_or near i 0) c.loop-other.invariant
    (slice_get-get_or near i 0 c.loop-other-test.true) not

pub returns : goal.returns
returns c =
    let areas = c.args.f.now.areas in
    let own = read_at areas areas c.args.place c.at.result.now refl c.requires.place c.at.ensures.item in
    let shaped = on_interior c.args.what (λ shaped. shaped.areas) c.requires.shaped in
    let none = no_earlier c.args.f.now c.args.place own c.requires.area (HaveInCommon c.args.what) c.as_slice-other-items.ensures.items
    c.loop-other-test.false c.loop-other.invariant
    (λ k other is so. c.in_ok-near.ensures.near k
    (common_boxes_meet c.args.what areas c.args.boxes.now c.requires.boxes shaped
    c.args.place k c.args.sound.now other c.requires.area is so)) in
    record { common = (λ e. absurd (false≢true e), λ h. absurd (none h)) }
