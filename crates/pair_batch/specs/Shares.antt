-- How a list is shared out among workers, and how what they made comes together.
use Rattle.std.specs.Prelude.{◌≡◌, ℕ, ◌+◌, ◌*◌, ◌/◌, List, Result, Ok, map, length}
use Rattle.std.specs.List.{flat_map, between}

-- The place at which the share of a worker begins, where so many items are shared out among so many workers. It ends where the
-- share of the next one begins.
abbrev pub share_begin : ℕ → ℕ → ℕ → ℕ
share_begin count workers worker = worker * count / workers

-- The share of a worker: the items from the place at which it begins up to but without the place at which the next one begins.
abbrev pub share_of : {T : Type 0} → List T → ℕ → ℕ → List T
share_of list workers worker =
    between (share_begin (length list) workers worker) (share_begin (length list) workers (worker + 1)) list

-- All workers have made their lists, and these are joined in the order of the workers.
pub record AreJoined {T E : Type 0} (made : List (Result (List T) E)) (all : List T) : Type 0 where
  pub lists : List (List T)
  pub made_is : made ≡ map Ok lists
  pub all_is : all ≡ flat_map (λ list. list) lists
