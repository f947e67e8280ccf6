-- The way of a walk over a tree: what follows the subtree of a row.
use Rattle.std.specs.Prelude.{◌≡◌, ℕ, ◌+◌, ◌*◌, Option, Some, None}

-- The row that follows a subtree: after a left child the right one, after a right child what follows its parent's subtree, and
-- after the root none.
pub data IsAfter : ℕ → Option ℕ → Type 0 where
  root : IsAfter 0 None
  left : (place parent : ℕ) → place ≡ 2 * parent + 1 → IsAfter place (Some (place + 1))
  right : (place parent : ℕ) (next : Option ℕ) → place ≡ 2 * parent + 2 → IsAfter parent next → IsAfter place next
