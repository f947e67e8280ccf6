use Rattle.std.proofs.Common.{◌≡◌, ◌++◌, ◌+◌, length, drop, ap, refl, arith}
use Rattle.point_set.specs.declared.edge.Hand.TheVariants as hand
use Rattle.point_set.specs.declared.edge.Owner.TheVariants.{Line}
use Rattle.point_set.specs.Edges.{edges_of_lines}
use Rattle.point_set.specs.Rings.{edges_of}
use Rattle.ring_sides.specs.Rows.{owned_edges}
use Rattle.figure_laws.proofs.Lists.Places.{read_at}
use Rattle.figure_laws.proofs.Lists.Counts.{few_lines}
use Rattle.ring_sides.proofs.Rows.{lines_from, more_rows, more_hands}
use Rattle.ring_sides.proofs.edges.add_lines.Goals as goal

pub overflow_cast-place : goal.overflow_cast-place
overflow_cast-place c =
    let same : c.as_slice-line-items.result.now ≡ c.args.figure.now.lines = c.as_slice-line-items.ensures.items in
    omega (arith, few_lines c.args.figure.now c.requires.shaped, ap length same)

pub loop-place-preserved : goal.loop-place-preserved
loop-place-preserved c =
    let same : c.as_slice-line-items.result.now ≡ c.args.figure.now.lines = c.as_slice-line-items.ensures.items in
    let line = c.line-item.result in
    let place = c.loop-place.place in
    let lines = c.args.figure.now.lines in
    let next = edges_of_lines (place + 1) (drop (place + 1) lines) in
    record {
      edges =
          more_rows (owned_edges c.args.rows.now ++ edges_of_lines 0 lines)
          (edges_of_lines place (drop place lines)) next c.loop-place.rows c.add_edges.new.rows
          (Line place) hand.Line (edges_of line) c.in_ok-add_edges.ensures.rows c.loop-place.invariant.edges
          (lines_from lines place line
          (read_at c.as_slice-line-items.result.now lines place line same c.loop-place-test.true c.line-item.is));
      hands =
          more_hands c.args.figure.now c.loop-place.rows c.add_edges.new.rows (Line place) hand.Line
          (edges_of line) c.in_ok-add_edges.ensures.rows
          c.loop-place.invariant.hands (λ i e is. refl);
    }
