use Rattle.std.proofs.Common.{◌≡◌, ◌∙◌, Bool, ◌||◌, ap, length, arith}
use Rattle.point_set.specs.Lines.{is_at_some, is_at_still_line}
use Rattle.point_set.specs.declared.figure.Figure.{Figure}
use Rattle.bound_rule.proofs.AtSpots.{one_still_more, all_spots}
use Rattle.bound_rule.proofs.Items.{item_there}
use Rattle.bound_rule.proofs.spots.Spots.build.Goals as goal
use Rattle.bound_rule.proofs.spots.Spots.build.Goals.{After-as_slice-line-items}

-- the lines that are read are those of the figure
lines_read : (c : After-as_slice-line-items) → c.as_slice-line-items.result.now ≡ c.args.v.now.lines
lines_read c = c.as_slice-line-items.ensures.items ∙ ap (λ (f : Figure). f.lines) c.figure-figure.ensures.same

pub loop-line-init : goal.loop-line-init
loop-line-init c = λ p.
    ap (λ (b : Bool). b || is_at_still_line p c.args.v.now.lines)
    (c.in_ok-spots.ensures.spots p ∙ ap (λ (f : Figure). is_at_some p f.points) c.figure-figure.ensures.same)

pub loop-line-preserved : goal.loop-line-preserved
loop-line-preserved c =
    let same = lines_read (goal.at.loop-line-preserved c).After-as_slice-line-items in
    let there = item_there _ c.args.v.now.lines _ same c.loop-line-test.true c.line-item.result c.line-item.is in
    one_still_more c.args.v.now _ _ c.loop-line.spots c.add_line.new.self there.0 there.1 c.loop-line.invariant
    c.in_ok-add_line.ensures.added

pub returns : goal.returns
returns c =
    let same = lines_read (goal.at.returns c).After-as_slice-line-items in
    record { spots = all_spots c.args.v.now c.loop-line.line-index c.loop-line.spots (omega (arith, ap length same)) c.loop-line.invariant }
