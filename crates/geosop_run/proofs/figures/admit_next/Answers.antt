-- A figure that was read is admitted or has its first fault.
use Rattle.std.proofs.Common.{◌≡◌, ℕ, List, sym, subst}
use Rattle.point_set.specs.declared.figure.Figure.{Figure}
use Rattle.point_set.specs.Validity.{IsValid}
use Rattle.geosop_run.specs.Steps.{IsParsed, IsReadTo}
use Rattle.geosop_run.proofs.ReadOnward.{reads_onward}
use Rattle.geosop_run.proofs.figures.admit_next.Goals as goal

-- a valid figure that was read is admitted
read_to : (scale : ℕ) (bytes : List ℕ) (at : ℕ) (v f : Figure) (end : ℕ) → IsParsed scale bytes at f end → v ≡ f → IsValid f
    → IsReadTo scale bytes at v end
read_to scale bytes at v f end parsed same valid =
    subst (λ (g : Figure). IsReadTo scale bytes at g end) (sym same)
    (record {
      geometry = record { reads = parsed.reads; valid = valid };
      sound = record { shaped = parsed.shaped; valid = valid };
      onward = reads_onward scale bytes at f end parsed.reads;
      within = parsed.within;
    })

pub returns-in_ok-valid-in-Some-clause-next : goal.returns-in_ok-valid-in-Some-clause-next
returns-in_ok-valid-in-Some-clause-next c =
    let parsed = rw c.in-Some.is at c.in_ok-figure.ensures.next in
    read_to c.args.scale.digits c.args.bytes.now c.args.at c.in_ok-valid-in-Some.valid c.in-Some.field-0.figure c.in-Some.field-0.«end»
    parsed c.in_ok-valid-in-Some.ensures.same c.in_ok-valid-in-Some.ensures.valid
