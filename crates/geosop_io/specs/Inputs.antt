-- What is seen of the two sources of a run, and what a call of `Inputs` does to it.
use Rattle.std.specs.Prelude.{◌≡◌, ℕ, ◌==◌, ◌&&◌, ◌||◌, Bool, true, false, nat_lt, List, take, Option, Some}
use Rattle.std.specs.Io.KnownBytes.{prepend_known, IsAtEnd}
use Rattle.im_matrix.specs.declared.Which.{Which}
use Rattle.geosop_io.specs.Counts.{one_more, more_by}
use Rattle.geosop_io.specs.PerSide.{other}

-- What contracts see of two sources.
pub record InputsSeen : Type 0 where
  -- The bytes that a name has, or None where that isn't told.
  pub holds : List ℕ → Option (List ℕ)
  -- The name with which a side was asked for, or None where it wasn't.
  pub asked : Which → Option (List ℕ)
  -- Whether a side was started.
  pub started : Which → Bool
  -- How many bytes the reads of a side have given. The count ends at 2^64 - 1.
  pub given : Which → ℕ
  -- Whether a read of a side into a buffer with room has met its end.
  pub ended : Which → Bool
  -- The bytes of a side that aren't read yet, or None where that isn't told.
  pub left : Which → Option (List ℕ)
  -- How many calls met a fault. The count ends at 2^64 - 1.
  pub faults : ℕ

-- A side is as it was.
pub record IsSameSide (side : Which) (old new : InputsSeen) : Type 0 where
  pub asked : new.asked side ≡ old.asked side
  pub started : new.started side ≡ old.started side
  pub given : new.given side ≡ old.given side
  pub ended : new.ended side ≡ old.ended side
  pub left : new.left side ≡ old.left side

-- A call on a side leaves what the names hold and the other side as they were.
pub record KeepsOthers (side : Which) (old new : InputsSeen) : Type 0 where
  pub holds : new.holds ≡ old.holds
  pub other_side : IsSameSide (other side) old new

-- A side was asked for by a name and started: what the name holds is left of it, and nothing was read. No fault was counted.
pub record HasStarted (side : Which) (name : List ℕ) (old new : InputsSeen) : Type 0 where
  pub asked : new.asked side ≡ Some name
  pub started : new.started side ≡ true
  pub given : new.given side ≡ 0
  pub ended : new.ended side ≡ false
  pub left : new.left side ≡ old.holds name
  pub faults : new.faults ≡ old.faults

-- A start failed, and one more fault was counted. The side was asked for by the name all the same, and is otherwise as it was.
pub record HasFailedToStart (side : Which) (name : List ℕ) (old new : InputsSeen) : Type 0 where
  pub asked : new.asked side ≡ Some name
  pub started : new.started side ≡ old.started side
  pub given : new.given side ≡ old.given side
  pub ended : new.ended side ≡ old.ended side
  pub left : new.left side ≡ old.left side
  pub faults : new.faults ≡ one_more old.faults

-- Whether a read that gave so many bytes into a buffer with so much room has met the end.
abbrev pub meets_end : ℕ → ℕ → Bool
meets_end count room = (count == 0) && nat_lt 0 room

-- A read of a side gave the first bytes of what was left of it, which stand at the front of a buffer of this length. None come
-- into a buffer with room only at the end. No fault was counted.
pub record HasRead (side : Which) (count : ℕ) (buffer : List ℕ) (room : ℕ) (old new : InputsSeen) : Type 0 where
  pub asked : new.asked side ≡ old.asked side
  pub started : new.started side ≡ true
  pub given : new.given side ≡ more_by count (old.given side)
  pub ended : new.ended side ≡ (old.ended side || meets_end count room)
  pub left : old.left side ≡ prepend_known (take count buffer) (new.left side)
  pub at_end : meets_end count room ≡ true → IsAtEnd (new.left side)
  pub faults : new.faults ≡ old.faults

-- One more fault was counted, and nothing else changed.
abbrev pub after_fault : InputsSeen → InputsSeen
after_fault seen = record seen { faults = one_more seen.faults }
