-- A sink over memory, as its callers see it.
use Rattle.std.specs.Prelude.{◌≡◌, ℕ, ◌-◌, min, List, ◌++◌, length, take, Option, None, Some, ◌⊎◌}
use Rattle.geosop_io.specs.Calls.{IsNextFailing, after_call, after_fault}
use Rattle.geosop_io.specs.Sink.{SinkSeen}
use Rattle.geosop_io.specs.declared.calls.Calls.{Calls}

-- The bytes taken, how many there is room for in all, the most that a write takes, where there is such a limit, and the writes.
pub record MemTaken : Type 0 where
  pub taken : List ℕ
  pub room : ℕ
  pub most : Option ℕ
  pub calls : Calls

-- What contracts of `Sink` see of it.
abbrev pub seen_of : MemTaken → SinkSeen
seen_of sink = record { taken = Some sink.taken; faults = sink.calls.faults }

-- A write fails: by its number, or because no room is left.
abbrev pub WriteFails : MemTaken → Type 0
WriteFails sink = IsNextFailing sink.calls ⊎ (sink.room ≡ length sink.taken)

-- A number of bytes, or the limit where that is less.
abbrev pub limited : Option ℕ → ℕ → ℕ
limited None count = count
limited (Some most) count = min most count

-- How many bytes of a piece a write takes: as many as there are, as there is room for and as it may take.
abbrev pub fitting : MemTaken → List ℕ → ℕ
fitting sink piece = limited sink.most (min (length piece) (sink.room - length sink.taken))

-- The sink after it took the first bytes of a piece.
abbrev pub after_write : MemTaken → List ℕ → ℕ → MemTaken
after_write sink piece count = record sink { taken = sink.taken ++ take count piece; calls = after_call sink.calls }

-- The sink after a write failed.
abbrev pub after_failed_write : MemTaken → MemTaken
after_failed_write sink = record sink { calls = after_fault sink.calls }
