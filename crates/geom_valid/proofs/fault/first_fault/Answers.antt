use Rattle.std.proofs.Common.{List, length, ap, subst, subst₂, sym, arith}
use Rattle.std.specs.Prelude.{IfOk, OnOk, Result}
use Rattle.plane_exact.specs.declared.window.Window.{Window}
use Rattle.point_set.specs.declared.figure.Area.{Area}
use Rattle.point_set.specs.Validity.{IsAtPlace}
use Rattle.figure_laws.proofs.Lists.Counts.{few_areas}
use Rattle.geom_valid.specs.declared.kinds.InvalidKind.{InvalidKind}
use Rattle.geom_valid.specs.Boxes.{AreRound, IsRoundArea}
use Rattle.geom_valid.specs.Faults.{IsSoundAt}
use Rattle.geom_valid.proofs.EarlierAreas.{first_none, first_on}
use Rattle.geom_valid.proofs.FirstFaults.{sound_before_on, valid_from_sound}
use Rattle.geom_valid.proofs.fault.first_fault.Goals as goal

pub overflow_cast-element : goal.overflow_cast-element
overflow_cast-element c = omega (arith, few_areas c.args.f.now c.requires.shaped, c.len-place-end.ensures.length, c.loop-place-test.true)

pub overflow_add-element : goal.overflow_add-element
overflow_add-element c = omega (arith, few_areas c.args.f.now c.requires.shaped, c.len-place-end.ensures.length, c.loop-place-test.true)

pub of-requires : goal.of-requires
of-requires c =
    let count = c.in_ok-area_boxes.ensures.round.count in
    record { few = omega (arith, few_areas c.args.f.now c.requires.shaped, count, ap length c.as_slice.ensures.items) }

pub sound_at-requires-clause-boxes : goal.sound_at-requires-clause-boxes
sound_at-requires-clause-boxes c =
    subst₂ (λ (areas : List Area) (boxes : List Window). AreRound IsRoundArea areas boxes) c.as_slice.ensures.items
    (sym c.in_ok-boxes.ensures.boxes)
    c.in_ok-area_boxes.ensures.round

pub loop-place-init : goal.loop-place-init
loop-place-init c = record {
  sound = λ before below. absurd (omega (arith, below));
  kept = first_none c.args.f.now c.new-earlier.result c.new-earlier.ensures.empty;
}

pub loop-place-preserved : goal.loop-place-preserved
loop-place-preserved c =
    let f = c.args.f.now in
    let place = c.loop-place.place in
    let here : IsSoundAt f place
    = subst (λ (found : Result Area InvalidKind). OnOk found (IsSoundAt f place)) c.in-Ok.is c.in_ok-sound.ensures.sound in
    let at : IsAtPlace f.areas place c.in-Ok.sound
    =
    subst (λ (found : Result Area InvalidKind). IfOk found (λ area. IsAtPlace f.areas place area)) c.in-Ok.is
    c.in_ok-sound.ensures.area in
    let on = sound_before_on f place c.loop-place.invariant.sound here in
    record {
      sound = λ before below. on before (omega (arith, below));
      kept =
          first_on f place c.loop-place.earlier c.push.new.self c.in-Ok.sound c.loop-place.invariant.kept c.in_ok-push-in-Ok.ensures.ok at;
    }

pub returns-clause-valid : goal.returns-clause-valid
returns-clause-valid c =
    valid_from_sound c.args.f.now c.loop-place.place
    (omega (arith, c.len-place-end.ensures.length, c.loop-place-test.false)) c.loop-place.invariant.sound
