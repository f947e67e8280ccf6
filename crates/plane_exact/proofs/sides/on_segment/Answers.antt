use Rattle.std.proofs.Common.{◌≡◌, ℤ, ◌*ℤ◌, ◌≤ℤ◌, true, sym, ◌∙◌, ap, subst, rules}
use Rattle.std.proofs.lemmas.Bool.{false≢true}
use denote.Enum.Bare.{same_true, sameb}
use Rattle.plane_exact.specs.contracts.sign.Sign.{the_type}
use Rattle.plane_exact.specs.declared.sign.Sign.TheVariants.{Zero}
use Rattle.plane_exact.specs.Signs.{sign_of}
use Rattle.plane_exact.specs.NodePoints.{point_at}
use Rattle.plane_exact.proofs.SegmentBoxes.{on_segment_in_box}
use Rattle.plane_laws.proofs.Segments.On.{mix_turn}
use Rattle.plane_exact.proofs.SignFacts.{zero_sign}
use Rattle.plane_exact.proofs.sides.on_segment.Goals as goal

pub returns-then-holds : goal.returns-then-holds
returns-then-holds c =
    let s = c.args.s in
    let p = point_at c.args.n.now in
    let box = c.holds.ensures.within.0 c.if-holds.true in
    let to = λ (t : c.eq.result ≡ true).
    let z : c.side_of.result ≡ Zero = same_true the_type (search rules) _ _ (sym c.eq.ensures ∙ t) in
    on_segment_in_box s.a s.b p (zero_sign _ (sym c.side_of.ensures.side ∙ z))
    (subst (λ (z : ℤ). (z *ℤ p.w) ≤ℤ p.x) c.of.ensures.low_x box.left)
    (subst (λ (z : ℤ). p.x ≤ℤ (z *ℤ p.w)) c.of.ensures.high_x box.right)
    (subst (λ (z : ℤ). (z *ℤ p.w) ≤ℤ p.y) c.of.ensures.low_y box.bottom)
    (subst (λ (z : ℤ). p.y ≤ℤ (z *ℤ p.w)) c.of.ensures.high_y box.top) in
    record { on = (to, λ on. c.eq.ensures ∙ ap (λ s. sameb the_type s Zero) (c.side_of.ensures.side ∙ ap sign_of (mix_turn on.mix))) }

pub returns-else-holds : goal.returns-else-holds
returns-else-holds c =
    record { on = (λ t. absurd (false≢true (sym c.if-holds.false ∙ t)), λ on. c.holds.ensures.within.1 (c.of.ensures.least.holds _ on)) }
