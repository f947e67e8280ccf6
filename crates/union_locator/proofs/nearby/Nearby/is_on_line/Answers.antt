use Rattle.std.proofs.Common.{List, ℕ, length, get_or, true≢false, ap, sym, ◌∙◌, subst, arith}
use Rattle.plane_exact.specs.NodePoints.{point_at}
use Rattle.union_locator.specs.Nearby.{IsLineEdgeAt}
use Rattle.union_locator.proofs.OnLines.{off_one_more, on_line, off_lines}
use Rattle.union_locator.proofs.nearby.Nearby.is_on_line.Goals as goal

pub returns-then-is_on_line_at : goal.returns-then-is_on_line_at
returns-then-is_on_line_at c =
    let s = c.args.self.now in
    let h = c.is_on_line_at.ensures.line.0 c.if-is_on_line_at.true in
    record { line = sym (on_line s.figure.now (point_at s.node.now) s.rows.now s.places.now c.requires.near _ h.0 h.1) }

pub loop-place-preserved : goal.loop-place-preserved
loop-place-preserved c =
    let s = c.args.self.now in
    off_one_more s.rows.now s.places.now (point_at s.node.now) c.loop-place.place-index
    (λ edge h.
    let same = ap (λ (places : List ℕ). get_or places c.loop-place.place-index 0) (sym c.as_slice-place-items.ensures.items) in
    let there = subst (λ (place : ℕ). IsLineEdgeAt s.rows.now place (point_at s.node.now) edge) same h in
    true≢false (sym (c.is_on_line_at.ensures.line.1 (edge, there)) ∙ c.if-is_on_line_at.false))
    c.loop-place.invariant

pub returns : goal.returns
returns c =
    let s = c.args.self.now in
    record {
      line = sym
          (off_lines s.figure.now (point_at s.node.now) s.rows.now s.places.now c.requires.near c.loop-place.place-index
          (let same = ap length c.as_slice-place-items.ensures.items in omega
          (arith, same, c.loop-place-test.false)) c.loop-place.invariant);
    }
