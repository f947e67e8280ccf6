use Rattle.std.proofs.Common.{sym, subst}
use Rattle.std.specs.Prelude.{◌↔◌, IfOk, IsTrue}
use Rattle.geom_valid.specs.Elements.{HaveInCommon}
use Rattle.geom_valid.specs.declared.elements.Common.{Common}
use Rattle.geom_valid.proofs.elements.have_in_common.Goals as goal

pub returns-in-Segment : goal.returns-in-Segment
returns-in-Segment c = record {
  common = subst (λ (what : Common). IfOk c.shares.result (λ b. IsTrue b ↔ HaveInCommon what c.args.sound.now c.args.other.now))
      (sym c.in-Segment.is) c.shares.ensures.shares;
}

pub returns-in-Interior : goal.returns-in-Interior
returns-in-Interior c = record {
  common = subst (λ (what : Common). IfOk c.overlaps.result (λ b. IsTrue b ↔ HaveInCommon what c.args.sound.now c.args.other.now))
      (sym c.in-Interior.is) c.overlaps.ensures.overlaps;
}
