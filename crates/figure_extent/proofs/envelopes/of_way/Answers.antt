use Rattle.std.proofs.Common.{◌≡◌, ◌∙◌, ◌<◌, pos, refl, ap, length, get_or, List, [], ◌∷◌, arith}
use Rattle.std.proofs.lemmas.List.{get_or_default}
use Rattle.plane_exact.specs.declared.point.Pt.{Pt}
use Rattle.figure_extent.proofs.SoFar.{one_item_more}
use Rattle.figure_extent.proofs.envelopes.of_way.Goals as goal

pub loop-p-preserved : goal.loop-p-preserved
loop-p-preserved c =
    let way = c.args.way.now in
    let place = c.loop-p.p-index in
    let other : Pt = record { x = pos 0; y = pos 0 } in
    let p : Pt = get_or c.as_slice-p-items.result.now place other in
    let same = c.as_slice-p-items.ensures.items in
    let below : place < length way = omega (arith, ap length same) in
    let here : p ≡ get_or way place p = ap (λ (items : List Pt). get_or items place other) same ∙ get_or_default way place other p below in
    one_item_more (λ xs. xs) way place p (p ∷ []) c.loop-p.envelope c.joined-envelope.result below here refl
    (λ xs h. c.joined-envelope.ensures.envelope xs (p ∷ []) h c.at_position.ensures.envelope) c.loop-p.invariant
