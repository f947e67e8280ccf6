use Rattle.std.proofs.Common.{◌↔◌, Bool, true, false, not, IsTrue, refl}
use Rattle.std.proofs.lemmas.Bool.{false≢true}
use Rattle.seg_cross.specs.declared.answer.Meet.TheVariants.{Apart, At, Along}
use Rattle.ring_faults.proofs.Unjoined.{unjoined}
use Rattle.ring_faults.proofs.clash.are_unjoined.Goals as goal

-- a test that denies another decides that the other's fact doesn't hold
denied : (b : Bool) (P Q : Type 0) → (IsTrue b ↔ P) → ((¬ P) ↔ Q) → IsTrue (not b) ↔ Q
denied true P Q h k = (λ t. absurd (false≢true t), λ q. absurd (k.1 q (h.0 refl)))
denied false P Q h k = (λ t. k.0 (λ p. false≢true (h.1 p)), λ q. refl)

pub returns-in-Apart : goal.returns-in-Apart
returns-in-Apart c =
    record {
      unjoined = λ edges long.
          let both = unjoined edges c.args.i c.args.j c.args.e c.args.f Apart c.in-Apart.ensures.exact in
          (λ t. absurd (false≢true t), λ h. absurd (both.1 h));
    }

pub returns-in-At : goal.returns-in-At
returns-in-At c =
    record {
      unjoined = λ edges long.
          denied c.is_joint.result _ _ (c.is_joint.ensures.joint edges long)
          (unjoined edges c.args.i c.args.j c.args.e c.args.f (At c.in-At.node) c.in-At.ensures.exact);
    }

pub returns-in-Along : goal.returns-in-Along
returns-in-Along c =
    record {
      unjoined = λ edges long.
          let both = unjoined edges c.args.i c.args.j c.args.e c.args.f (Along c.in-Along.field-0 c.in-Along.field-1)
          c.in-Along.ensures.exact in
          (λ _. both.0 tt, λ _. refl);
    }
