-- What clap's contract says of the command is what its matches and its refusals are.
use Rattle.std.proofs.lemmas.Result.{err_from_is_err_and}
use Rattle.geosop_line.proofs.Commands.{none_refused, rows_are_matches, told_rightly}
use Rattle.geosop_line.proofs.arguments.matches_in.Goals as goal

pub returns-in_err-matches-clause-refused : goal.returns-in_err-matches-clause-refused
returns-in_err-matches-clause-refused c =
    let p = err_from_is_err_and c.from_residual-in_err-matches.result c.from_residual-in_err-matches.ensures.1 in
    rw (p.1, p.2) (told_rightly _ _ _ c.in_ok-command.ensures.command c.in_err-matches.ensures.kinds)

pub returns-clause-matches : goal.returns-clause-matches
returns-clause-matches c = rows_are_matches _ _ c.in_ok-matches.matches c.in_ok-command.ensures.command c.in_ok-matches.ensures.matches

pub returns-clause-taken : goal.returns-clause-taken
returns-clause-taken c = none_refused _ _ c.in_ok-command.ensures.command c.in_ok-matches.ensures.kinds
