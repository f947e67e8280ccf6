use Rattle.std.proofs.Common.{length, ap, refl, sym, ◌∙◌}
use Rattle.ring_faults.proofs.FewPoints.{few_of_none, few_of_one, few_of_two}
use Rattle.ring_faults.proofs.rings.has_too_few.Goals as goal

pub returns-in-None : goal.returns-in-None
returns-in-None c =
    record { few = (λ _. few_of_none c.args.ring.now (ap length (sym c.as_slice.ensures.items) ∙ c.in-None.ensures.cases), λ _. refl) }

pub returns-in-None-other_than : goal.returns-in-None-other_than
returns-in-None-other_than c =
    record {
      few = (
        λ _. few_of_one c.args.ring.now c.in-Some.first.now c.in-Some.others.now (sym c.as_slice.ensures.items ∙ c.in-Some.ensures.cases.0)
            c.in-None-other_than.ensures.none,
        λ _. refl,
      );
    }

pub returns-in-Some-other_than : goal.returns-in-Some-other_than
returns-in-Some-other_than c =
    let other = c.in-Some-other_than.ensures.other in
    let two =
    few_of_two c.args.ring.now c.in-Some.first.now c.in-Some.others.now c.in-Some-other_than.second
    (sym c.as_slice.ensures.items ∙ c.in-Some.ensures.cases.0) other.0 other.1 in
    record { few = (λ t. two.0 (c.are_all_of.ensures.two.0 t), λ few. c.are_all_of.ensures.two.1 (two.1 few)) }
