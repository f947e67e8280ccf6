use Rattle.std.proofs.Common.{◌≡◌, ◌∙◌, ap, length, arith}
use Rattle.std.proofs.lemmas.List.Sorted.{IsPermutation-refl}
use Rattle.point_set.specs.Lines.{ends_of_lines}
use Rattle.point_set.specs.declared.figure.Figure.{Figure}
use Rattle.bound_rule.proofs.Items.{item_there}
use Rattle.bound_rule.proofs.LineEnds.{one_line_more, few_so_far, all_lines}
use Rattle.bound_rule.proofs.ends.EndCounts.build.Goals as goal
use Rattle.bound_rule.proofs.ends.EndCounts.build.Goals.{After-as_slice-line-items}

-- the lines that are read are those of the figure
lines_read : (c : After-as_slice-line-items) → c.as_slice-line-items.result.now ≡ c.args.v.now.lines
lines_read c = c.as_slice-line-items.ensures.items ∙ ap (λ (f : Figure). f.lines) c.figure.ensures.same

pub loop-line-init : goal.loop-line-init
loop-line-init c = rw c.new.ensures.empty (IsPermutation-refl (ends_of_lines c.args.v.now.lines))

pub add_ends-requires : goal.add_ends-requires
add_ends-requires c =
    let same = lines_read (goal.at.add_ends-requires c).After-as_slice-line-items in
    let there = item_there _ c.args.v.now.lines _ same c.loop-line-test.true c.line-item.result c.line-item.is in
    let few = few_so_far c.args.v.now.lines _ c.line-item.result c.loop-line.table there.0 there.1 c.loop-line.invariant in
    record { room = omega (arith, few, c.figure.ensures.shaped.few) }

pub loop-line-preserved : goal.loop-line-preserved
loop-line-preserved c =
    let same = lines_read (goal.at.loop-line-preserved c).After-as_slice-line-items in
    let there = item_there _ c.args.v.now.lines _ same c.loop-line-test.true c.line-item.result c.line-item.is in
    one_line_more c.args.v.now.lines _ c.line-item.result c.loop-line.table c.add_ends.new.self there.0 there.1 c.loop-line.invariant
    c.in_ok-add_ends.ensures.added

pub returns : goal.returns
returns c =
    let same = lines_read (goal.at.returns c).After-as_slice-line-items in record {
      ends = all_lines c.args.v.now.lines c.loop-line.line-index c.loop-line.table (omega (arith, ap length same)) c.loop-line.invariant;
    }
