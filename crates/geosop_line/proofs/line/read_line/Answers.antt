-- What comes is what there is.
use Rattle.geosop_line.proofs.Answering.{answers_line, config_comes, fault_comes}
use Rattle.geosop_line.proofs.line.read_line.Goals as goal

pub returns-clause-config_comes : goal.returns-clause-config_comes
returns-clause-config_comes c =
    let parsed = c.in_ok-matches.ensures in
    let answers = answers_line _ _ c.config_of.result parsed.matches parsed.taken c.config_of.ensures.config c.config_of.ensures.fault in
    config_comes _ c.config_of.result answers.0 answers.1

pub returns-clause-fault_comes : goal.returns-clause-fault_comes
returns-clause-fault_comes c =
    let parsed = c.in_ok-matches.ensures in
    let answers = answers_line _ _ c.config_of.result parsed.matches parsed.taken c.config_of.ensures.config c.config_of.ensures.fault in
    fault_comes _ c.config_of.result answers.0 answers.1
