-- What a note knows of a cell's value stays the same.
use Rattle.std.proofs.Common.{◌≡◌, refl, sym, ◌∙◌, ap}
use Rattle.std.specs.Prelude.{Option, Some, None}
use Rattle.once_cell.specs.Once.{Agrees}

-- A note that knew something, and knows a value that agrees, knows the same.
pub same_known : {X : Type 0} (old new : Option X) (x : X) → ¬ (old ≡ None) → new ≡ Some x → Agrees old x → new ≡ old
same_known None new x some is agrees = absurd (some refl)
same_known (Some y) new x some is agrees = is ∙ ap (λ z. Some z) (sym agrees)
