-- What ends the reading of a text, a file or standard input, its side is refused for, by whatever scale it is read.
use Rattle.std.proofs.lemmas.Result.{IfErr-weaker}
use Rattle.geosop_line.specs.declared.config.Source.TheVariants as source
use Rattle.geosop_run.specs.Asking.{IsTextFault, IsSideFault}
use Rattle.geosop_run.proofs.SideFaults.{text_fault, stdin_fault}
use Rattle.geosop_run.proofs.sources.read_side.Goals as goal

pub returns-in-Text-clause-err : goal.returns-in-Text-clause-err
returns-in-Text-clause-err g c = λ scale.
    let seen = g.I.Inputs.seen c.args.inputs.now in
    rw c.in-Text.is
    (IfErr-weaker c.take_text.result (IsTextFault scale c.args.side c.in-Text.word)
    (IsSideFault scale c.args.side (source.Text c.in-Text.word) seen seen)
    (λ e h. text_fault scale c.args.side c.in-Text.word seen e h) (c.take_text.ensures.fault scale))

pub returns-in-File-clause-err : goal.returns-in-File-clause-err
returns-in-File-clause-err g c = λ scale. rw c.in-File.is (c.read_named.ensures.err scale)

pub returns-in_ok-of-in-Stdin-clause-err : goal.returns-in_ok-of-in-Stdin-clause-err
returns-in_ok-of-in-Stdin-clause-err g c = λ scale.
    let before = g.I.Inputs.seen c.args.inputs.now in
    let after = g.I.Inputs.seen c.read_named-in-Stdin.new.inputs in
    let name = c.in_ok-of-in-Stdin.field-0 in
    rw c.in-Stdin.is
    (IfErr-weaker c.read_named-in-Stdin.result (IsSideFault scale c.args.side (source.File name) before after)
    (IsSideFault scale c.args.side source.Stdin before after)
    (λ e h. stdin_fault scale c.args.side name before after e c.in_ok-of-in-Stdin.ensures.bytes h)
    (c.read_named-in-Stdin.ensures.err scale))
