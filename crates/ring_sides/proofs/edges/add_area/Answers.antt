use Rattle.std.proofs.Common.{arith}
use Rattle.std.proofs.lemmas.Result.{on_ok_weaker}
use Rattle.side_laws.proofs.Areas.Hands.{AreRingsClean}
use Rattle.ring_sides.proofs.Rows.{shell_and_holes}
use Rattle.ring_sides.proofs.edges.add_area.Goals as goal

pub add_ring-requires-clause-enough : goal.add_ring-requires-clause-enough
add_ring-requires-clause-enough c = c.requires.enough 0 c.args.area.now.shell (omega arith)

pub add_ring-requires-clause-simple : goal.add_ring-requires-clause-simple
add_ring-requires-clause-simple c = c.requires.simple 0 c.args.area.now.shell (omega arith)

pub returns : goal.returns
returns c =
    let area = c.args.area.now in
    let clean : AreRingsClean area
    = record { shaped = c.requires.shaped; unshared = c.requires.unshared; within = c.requires.within; unlapped = c.requires.unlapped } in
    record {
      rows = on_ok_weaker c.add_holes.result
          (shell_and_holes area c.args.place clean c.args.rows.now c.add_ring.new.rows c.add_holes.new.rows c.in_ok-add_ring.ensures.rows)
          c.add_holes.ensures.rows;
    }
