use Rattle.std.proofs.Common.{◌≡◌, ◌+◌, ◌-◌, ◌*◌, ◌^◌, suc, min, ap, ◌∙◌, arith}
use Rattle.wkt_text.specs.declared.number.TheConstants.{CAP}
use Rattle.text_laws.specs.Numbers.{capped}
use Rattle.text_laws.proofs.Numbers.Capped.{capped-zeros-more, settled_zero, settled_cap}
use Rattle.wkt_text.proofs.number.lengthen.Goals as goal
use Rattle.wkt_text.proofs.number.lengthen.Goals.{then-size-eq0-via-then-size-eq0, then-size-eq0-via-else-size-eq0+then-size-eq-CAP}

pub returns-then-size-eq0 : goal.returns-then-size-eq0
returns-then-size-eq0 c =
    let n = c.loop-step.size in
    let k = c.args.zeros - c.loop-step._step in
    elim c.then-size-eq0.branch [
      | then-size-eq0-via-then-size-eq0 w ↦ record {
        size =
            settled_zero CAP n k w.if-size-eq0.true (omega arith) ∙ c.loop-step.invariant.same;
      }
      | then-size-eq0-via-else-size-eq0+then-size-eq-CAP w ↦ record {
        size =
            settled_cap CAP n k w.if-size-eq-CAP.true ∙ c.loop-step.invariant.same;
      }
    ]

pub loop-step-preserved : goal.loop-step-preserved
loop-step-preserved c =
    let n = c.loop-step.size in
    let k = c.args.zeros - (c.loop-step._step + 1) in
    let e : c.min-size.result ≡ min (n * 10) CAP = cc in
    let f : suc k ≡ c.args.zeros - c.loop-step._step = omega arith in
    record {
      under = omega arith;
      same = ap (λ m. capped CAP (m * 10 ^ k)) e ∙ capped-zeros-more CAP n k
          ∙ ap (λ j. capped CAP (n * 10 ^ j)) f ∙ c.loop-step.invariant.same;
    }
