use Rattle.std.proofs.Common.{refl, sym, subst}
use Rattle.std.proofs.lemmas.Bool.Decides.{not_from_Decides}
use Rattle.point_set.specs.declared.figure.Area.{Area}
use Rattle.point_set.specs.Validity.{IsAtPlace}
use Rattle.figure_laws.proofs.Lists.Places.{read_at}
use Rattle.geom_valid.proofs.EarlierAreas.{after_elements_overlap, after_elements_share, was_sound}
use Rattle.geom_valid.proofs.fault.sound_at.Goals as goal

pub returns-then-branch-clause-fault : goal.returns-then-branch-clause-fault
returns-then-branch-clause-fault c =
    let at = read_at c.args.f.now.areas c.args.f.now.areas c.args.place c.at-area.result.now refl c.requires.place c.at-area.ensures.item in
    let alone = was_sound c.at-area.result.now 6 c.in-Ok.is c.in_ok-sound.ensures.tested in
    record { fails = c.in_ok-has_common_with_earlier.ensures.common.0 c.if-branch.true; first = alone.1 c.args.f.now c.args.place at }

pub has_common_with_earlier-requires-2-clause-area : goal.has_common_with_earlier-requires-2-clause-area
has_common_with_earlier-requires-2-clause-area c =
    let at = read_at c.args.f.now.areas c.args.f.now.areas c.args.place c.at-area.result.now refl c.requires.place c.at-area.ensures.item in
    let alone = was_sound c.at-area.result.now 6 c.in-Ok.is c.in_ok-sound.ensures.tested in
    subst (λ (area : Area). IsAtPlace c.args.f.now.areas c.args.place area) (sym alone.0) at

pub returns-then-branch-2-clause-fault : goal.returns-then-branch-2-clause-fault
returns-then-branch-2-clause-fault c =
    let at = read_at c.args.f.now.areas c.args.f.now.areas c.args.place c.at-area.result.now refl c.requires.place c.at-area.ensures.item in
    let alone = was_sound c.at-area.result.now 6 c.in-Ok.is c.in_ok-sound.ensures.tested in
    record {
      fails = c.in_ok-has_common_with_earlier-2.ensures.common.0 c.if-branch-2.true;
      first = after_elements_share c.args.f.now c.args.place (alone.1 c.args.f.now c.args.place at)
          (not_from_Decides _ c.in_ok-has_common_with_earlier.ensures.common c.if-branch.false);
    }

pub returns-clause-sound : goal.returns-clause-sound
returns-clause-sound c =
    let at = read_at c.args.f.now.areas c.args.f.now.areas c.args.place c.at-area.result.now refl c.requires.place c.at-area.ensures.item in
    let alone = was_sound c.at-area.result.now 6 c.in-Ok.is c.in_ok-sound.ensures.tested in
    after_elements_overlap c.args.f.now c.args.place
    (after_elements_share c.args.f.now c.args.place (alone.1 c.args.f.now c.args.place at)
    (not_from_Decides _ c.in_ok-has_common_with_earlier.ensures.common c.if-branch.false))
    (not_from_Decides _ c.in_ok-has_common_with_earlier-2.ensures.common c.if-branch-2.false)

pub returns-clause-area : goal.returns-clause-area
returns-clause-area c =
    let at = read_at c.args.f.now.areas c.args.f.now.areas c.args.place c.at-area.result.now refl c.requires.place c.at-area.ensures.item in
    let alone = was_sound c.at-area.result.now 6 c.in-Ok.is c.in_ok-sound.ensures.tested in
    subst (λ (area : Area). IsAtPlace c.args.f.now.areas c.args.place area) (sym alone.0) at
