-- What is seen of a sink, and what a call of `Sink` does to it.
use Rattle.std.specs.Prelude.{◌≡◌, ℕ, ◌≤◌, ◌⊎◌, List, length, take, Option, Result, OnOk, OnErr}
use Rattle.std.specs.Io.KnownBytes.{append_known}
use Rattle.geosop_io.specs.Counts.{one_more}

-- What contracts see of a sink.
pub record SinkSeen : Type 0 where
  -- The bytes taken so far, or None where the sink doesn't tell.
  pub taken : Option (List ℕ)
  -- How many calls met a fault. The count ends at 2^64 - 1.
  pub faults : ℕ

-- These bytes were taken behind those before, where they are told, and no fault was counted.
abbrev pub after_taking : SinkSeen → List ℕ → SinkSeen
after_taking seen bytes = record seen { taken = append_known seen.taken bytes }

-- One more fault was counted, and nothing was taken.
abbrev pub after_fault : SinkSeen → SinkSeen
after_fault seen = record seen { faults = one_more seen.faults }

-- A front of the bytes was taken, and no fault was counted.
pub record HasTakenFront (old new : SinkSeen) (bytes : List ℕ) : Type 0 where
  pub count : ℕ
  pub within : count ≤ length bytes
  pub taken : new ≡ after_taking old (take count bytes)

-- A front of the bytes was taken, and then one more fault was counted.
pub record HasFailedAt (old new : SinkSeen) (bytes : List ℕ) : Type 0 where
  pub count : ℕ
  pub within : count ≤ length bytes
  pub taken : new ≡ after_fault (after_taking old (take count bytes))

-- What comes of offering bytes until all are taken: they are, or a fault ends it.
pub record IsOffered {T E : Type 0} (result : Result T E) (old new : SinkSeen) (bytes : List ℕ) : Type 0 where
  pub whole : OnOk result (new ≡ after_taking old bytes)
  pub front : OnErr result (HasFailedAt old new bytes)

-- Bytes were offered, whatever came of it.
abbrev pub IsTried : SinkSeen → SinkSeen → List ℕ → Type 0
IsTried old new bytes = (new ≡ after_taking old bytes) ⊎ HasFailedAt old new bytes
