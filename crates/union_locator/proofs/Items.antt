-- An item that is read within a list stands there.
use Rattle.std.proofs.Common.{◌≡◌, ℕ, ◌<◌, List, length, get_or, subst}
use Rattle.std.proofs.lemmas.Option.{slice_get-get_or}
use Rattle.point_set.specs.Validity.{IsAtPlace}

-- What is read of the items at a place is the list's item there.
pub item_read : {X : Type 0} (items xs : List X) (k : ℕ) (d : X) → items ≡ xs → k < length items → IsAtPlace xs k (get_or items k d)
item_read items xs k d same below = subst (λ ys. IsAtPlace ys k (get_or items k d)) same (slice_get-get_or items k d below)
