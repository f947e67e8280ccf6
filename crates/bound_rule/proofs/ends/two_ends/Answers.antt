use Rattle.std.proofs.Common.{◌≡◌, ◌∙◌, ◌∷◌, sym, ap}
use Rattle.point_set.specs.Lines.{ends_of}
use Rattle.bound_rule.proofs.LineEnds.{two_ends}
use Rattle.bound_rule.proofs.ends.two_ends.Goals as goal

pub returns : goal.returns
returns c =
    let line : c.args.line.now ≡ c.in_ok-first.first.now ∷ c.in_ok-first.others.now =
    sym c.as_slice.ensures.items ∙ c.in_ok-first.ensures.cases.0 in
    let moves = sym c.are_all_at.ensures.still ∙ c.if-are_all_at.false in
    record {
      ends = ap ends_of line
          ∙ two_ends c.in_ok-first.first.now c.in_ok-last.field-0.now c.in_ok-first.others.now moves (sym c.in_ok-last.ensures.value);
    }
