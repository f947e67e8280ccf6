-- Calls that are numbered from 1, some of which fail by their numbers.
use Rattle.std.specs.Prelude.{Contains}
use Rattle.geosop_io.specs.Counts.{one_more}
use Rattle.geosop_io.specs.declared.calls.Calls.{Calls}

-- The next call is one that fails.
abbrev pub IsNextFailing : Calls → Type 0
IsNextFailing calls = Contains calls.fails (one_more calls.made)

-- One more call was made.
abbrev pub after_call : Calls → Calls
after_call calls = record calls { made = one_more calls.made }

-- One more call was made, and met a fault.
abbrev pub after_fault : Calls → Calls
after_fault calls = record calls { made = one_more calls.made; faults = one_more calls.faults }
