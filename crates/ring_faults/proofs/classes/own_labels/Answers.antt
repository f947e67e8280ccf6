use Rattle.std.proofs.Common.{◌≡◌, ◌++◌, ◌∷◌, [], ℕ, List, Ok, ap, refl, sym, ◌∙◌, arith}
use Rattle.std.specs.declared.alloc.AllocError.{AllocError}
use Rattle.std.specs.List.{range_with_len}
use Rattle.std.proofs.lemmas.Iterator.{YieldsList-from_range, items_from_collect}
use Rattle.ring_faults.proofs.Labels.{range_more}
use Rattle.ring_faults.proofs.classes.own_labels.Goals as goal

pub returns-in-Ok : goal.returns-in-Ok
returns-in-Ok c =
    let last = c.args.last in
    let before : c.in_ok-labels.labels.items ≡ range_with_len 0 last =
    items_from_collect {E = AllocError} (Ok c.in_ok-labels.labels) c.in_ok-labels.ensures.ran
    (YieldsList-from_range 0 last last refl (omega arith)) in
    record { labels = c.in-Ok.ensures.items ∙ ap (λ (xs : List ℕ). xs ++ last ∷ []) before ∙ sym (range_more last) }
