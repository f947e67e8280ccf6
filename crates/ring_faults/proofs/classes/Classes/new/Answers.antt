use Rattle.std.proofs.Common.{◌≡◌, ◌∙◌, ◌+◌, ℕ, List, map, ap, sym, subst}
use Rattle.std.specs.List.{range_with_len}
use Rattle.ring_faults.specs.Classes.{lists_of, AreClasses}
use Rattle.ring_faults.proofs.ClassSteps.{alone, own_classes}
use Rattle.ring_faults.proofs.classes.Classes.new.Goals as goal

pub invariant_of-result : goal.invariant_of-result
invariant_of-result c =
    let labels = c.in_ok-labels.labels.items in
    let range = range_with_len 0 (c.args.last + 1) in
    let labels_are : labels ≡ range = c.in_ok-labels.ensures.labels in
    let lists_are : lists_of c.in_ok-members.members.items ≡ map alone range =
    c.in_ok-members.ensures.lists ∙ ap (λ (some : List ℕ). map alone some) (c.as_slice.ensures.value ∙ labels_are) in
    subst (λ (some : List (List ℕ)). AreClasses labels some) (sym lists_are)
    (subst (λ (some : List ℕ). AreClasses some (map alone range)) (sym labels_are) (own_classes (c.args.last + 1)))
