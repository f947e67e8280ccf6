-- Sources over memory, as their callers see them.
use Rattle.std.specs.Prelude.{◌≡◌, ℕ, min, ◌||◌, Bool, false, List, [], length, drop, Option, None, Some, is_some, unwrap_or, ◌⊎◌}
use Rattle.im_matrix.specs.declared.Which.{Which}
use Rattle.geosop_io.specs.Calls.{IsNextFailing, after_call, after_fault}
use Rattle.geosop_io.specs.Counts.{more_by}
use Rattle.geosop_io.specs.Inputs.{InputsSeen, meets_end}
use Rattle.geosop_io.specs.Pairs.{bytes_of}
use Rattle.geosop_io.specs.PerSide.{on_side, with_side}
use Rattle.geosop_io.specs.declared.calls.Calls.{Calls}
use Rattle.geosop_io.specs.declared.per_side.PerSide.{PerSide}

-- The bytes under their names, the calls, the most bytes that a read gives, and for each side the name with which it was asked
-- for, how many bytes were read, whether the end was met, and, where it was started, the bytes not yet read.
pub record MemSources : Type 0 where
  pub files : List (List ℕ × List ℕ)
  pub calls : Calls
  pub piece : ℕ
  pub asked : PerSide (Option (List ℕ))
  pub given : PerSide ℕ
  pub ended : PerSide Bool
  pub left : PerSide (Option (List ℕ))

-- Whether a side was started.
abbrev pub is_started : MemSources → Which → Bool
is_started sources side = is_some (on_side sources.left side)

-- What contracts of `Inputs` see of them.
abbrev pub seen_of : MemSources → InputsSeen
seen_of sources = record {
  holds = bytes_of sources.files;
  asked = on_side sources.asked;
  started = is_started sources;
  given = on_side sources.given;
  ended = on_side sources.ended;
  left = on_side sources.left;
  faults = sources.calls.faults;
}

-- The bytes of a side not yet read, or none where it wasn't started.
abbrev pub bytes_left : MemSources → Which → List ℕ
bytes_left sources side = unwrap_or (on_side sources.left side) []

-- A start with this name fails: by its number, or because the name isn't there.
abbrev pub StartFails : MemSources → List ℕ → Type 0
StartFails sources name = IsNextFailing sources.calls ⊎ (bytes_of sources.files name ≡ None)

-- The sources after a side was started.
abbrev pub after_start : MemSources → Which → List ℕ → MemSources
after_start sources side name = record sources {
  calls = after_call sources.calls;
  asked = with_side sources.asked side (Some name);
  given = with_side sources.given side 0;
  ended = with_side sources.ended side false;
  left = with_side sources.left side (bytes_of sources.files name);
}

-- The sources after a start failed.
abbrev pub after_failed_start : MemSources → Which → List ℕ → MemSources
after_failed_start sources side name = record sources {
  calls = after_fault sources.calls;
  asked = with_side sources.asked side (Some name);
}

-- How many bytes a read into a buffer of this length gives.
abbrev pub next_given : MemSources → Which → ℕ → ℕ
next_given sources side room = min sources.piece (min room (length (bytes_left sources side)))

-- The sources after so many bytes of a side were given into a buffer of this length.
abbrev pub after_giving : MemSources → Which → ℕ → ℕ → MemSources
after_giving sources side room count = record sources {
  given = with_side sources.given side (more_by count (on_side sources.given side));
  ended = with_side sources.ended side (on_side sources.ended side || meets_end count room);
  left = with_side sources.left side (Some (drop count (bytes_left sources side)));
}

-- The sources after a read into a buffer of this length gave so many bytes of a side.
abbrev pub after_read : MemSources → Which → ℕ → ℕ → MemSources
after_read sources side room count = record (after_giving sources side room count) { calls = after_call sources.calls }

-- The sources after a read failed.
abbrev pub after_failed_read : MemSources → MemSources
after_failed_read sources = record sources { calls = after_fault sources.calls }
