use Rattle.std.proofs.Common.{sym, ◌∙◌}
use Rattle.std.proofs.lemmas.Bool.{false≢true}
use Rattle.fan_order.proofs.Lines.{noted, not_noted}
use Rattle.fan_order.proofs.walk.note_line.Goals as goal

pub returns-then-is_of_line-clause-lines : goal.returns-then-is_of_line-clause-lines
returns-then-is_of_line-clause-lines c =
    let h = c.is_of_line.ensures.line.0 c.if-is_of_line.true in
    noted c.args.which c.args.rays.now c.args.section.now c.requires.ascending h.0 h.1 c.place_of.result c.place_of.ensures.place
    c.args.lines.now c.requires.length

pub returns-else-is_of_line-clause-lines : goal.returns-else-is_of_line-clause-lines
returns-else-is_of_line-clause-lines c = λ i ray _.
    not_noted c.args.which c.args.section.now (λ h. false≢true (sym c.if-is_of_line.false ∙ c.is_of_line.ensures.line.1 h))
    c.args.lines.now i ray
