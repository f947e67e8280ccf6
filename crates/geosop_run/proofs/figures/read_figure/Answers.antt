-- What is read is a figure with its end, or nothing where white space alone follows.
use Rattle.std.proofs.Common.{ℕ, ◌≤◌, List, Option, Some, None, length}
use Rattle.std.specs.Prelude.{IfSome, IfNone}
use Rattle.point_set.specs.Shape.{IsWellShaped}
use Rattle.wkt_text.specs.declared.read.Parsed.{Parsed}
use Rattle.wkt_text.specs.Faults.{Reads, IsOnlyWhite}
use Rattle.geosop_run.specs.Steps.{IsNextText}
use Rattle.geosop_run.proofs.figures.read_figure.Goals as goal

next_text : (scale : ℕ) (bytes : List ℕ) (at : ℕ) (found : Option Parsed) → IfSome found (λ p. Reads scale bytes at p.figure p.«end»)
    → IfSome found (λ p. IsWellShaped p.figure) → IfSome found (λ p. p.«end» ≤ length bytes) → IfNone found (IsOnlyWhite bytes at)
    → IsNextText scale bytes at found
next_text scale bytes at (Some p) reads shaped within white = record { reads = reads; shaped = shaped; within = within }
next_text scale bytes at None reads shaped within white = white

pub returns-in-Ok : goal.returns-in-Ok
returns-in-Ok c =
    let ensures = c.in-Ok.ensures in
    record {
      next = next_text c.args.scale.digits c.args.bytes.now c.args.at c.in-Ok.found ensures.read ensures.shaped ensures.within ensures.none;
      fault = tt;
    }
