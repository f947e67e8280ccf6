-- Bytes under names, in order.
use Rattle.std.specs.Prelude.{ℕ, List, [], ◌∷◌, Option, None, Some, if◌then◌else◌, bytes_eq}

-- The bytes of a name, by the first pair that has it.
abbrev pub bytes_of : List (List ℕ × List ℕ) → List ℕ → Option (List ℕ)
bytes_of [] name = None
bytes_of (pair ∷ pairs) name = if bytes_eq pair.0 name then Some pair.1 else bytes_of pairs name
