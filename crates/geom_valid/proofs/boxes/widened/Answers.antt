use Rattle.std.proofs.Common.{List, pos, get_or, length, ap, subst, arith}
use Rattle.std.proofs.lemmas.Option.{slice_get-get_or}
use Rattle.plane_exact.specs.declared.point.Pt.{Pt}
use Rattle.point_set.specs.Validity.{IsAtPlace}
use Rattle.geom_valid.proofs.WiderBoxes.{round_first, round_last, round_next}
use Rattle.geom_valid.proofs.boxes.widened.Goals as goal

pub loop-p-init : goal.loop-p-init
loop-p-init c = round_first c.args.inner c.args.ring.now

pub loop-p-preserved : goal.loop-p-preserved
loop-p-preserved c =
    let ring = c.args.ring.now in
    let items = c.as_slice-p-items.result.now in
    let i = c.loop-p.p-index in
    let p = get_or items i (record { x = pos 0; y = pos 0 }) in
    let at : IsAtPlace ring i p
    = subst (λ (ps : List Pt). IsAtPlace ps i p) c.as_slice-p-items.ensures.items (slice_get-get_or items i _ c.loop-p-test.true) in
    let next = c.with_position-around.ensures in
    round_next c.args.inner c.loop-p.around c.with_position-around.result ring i p c.loop-p.invariant at next.kept next.held next.least

pub returns : goal.returns
returns c =
    let past = c.loop-p-test.false in
    let count = ap length c.as_slice-p-items.ensures.items in
    record {
      kept = c.loop-p.invariant.kept;
      round = round_last c.args.inner c.loop-p.around c.args.ring.now c.loop-p.p-index (omega (arith, past, count)) c.loop-p.invariant;
      least = c.loop-p.invariant.least;
    }
