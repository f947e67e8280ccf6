use Rattle.std.proofs.Common.{◌≡◌, drop}
use Rattle.geosop_io.specs.Pairs.{bytes_of}
use Rattle.geosop_io.proofs.named.NamedBytes.find.Given as goal

-- No pair before the place has the name.
abbrev pub invariant-loop-place : goal.invariant-loop-place
invariant-loop-place l = bytes_of l.self l.name ≡ bytes_of (drop l.place l.self) l.name
