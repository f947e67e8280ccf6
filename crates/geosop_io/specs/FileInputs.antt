-- Files and standard input as sources, as their callers see them: nothing of what they hold.
use Rattle.std.specs.Prelude.{ℕ, Bool, List, Option, None}
use Rattle.geosop_io.specs.Inputs.{InputsSeen}
use Rattle.geosop_io.specs.PerSide.{on_side}
use Rattle.geosop_io.specs.declared.per_side.PerSide.{PerSide}

-- For each side the name with which it was asked for, whether it was started, how many bytes it has given and whether its end
-- was met; and the count of faults.
pub record FileSources : Type 0 where
  pub asked : PerSide (Option (List ℕ))
  pub started : PerSide Bool
  pub given : PerSide ℕ
  pub ended : PerSide Bool
  pub faults : ℕ

-- What contracts of `Inputs` see of them.
abbrev pub seen_of : FileSources → InputsSeen
seen_of sources = record {
  holds = λ name. None;
  asked = on_side sources.asked;
  started = on_side sources.started;
  given = on_side sources.given;
  ended = on_side sources.ended;
  left = λ side. None;
  faults = sources.faults;
}
