-- Each fault of a part is the first of all, since the parts before it are there.
use Rattle.clap.specs.Matches.{found_of}
use Rattle.geosop_line.proofs.FirstFaults.{figures_first, figures_made, given_on, passes_figures, passes_query, passes_rule, passes_threads}
use Rattle.geosop_line.proofs.FirstFaults.{query_first, rule_first, scale_first, threads_first}
use Rattle.geosop_line.proofs.Values.{value_is}
use Rattle.geosop_line.proofs.line.config_of.Goals as goal

pub returns-in_err-figures-clause-fault : goal.returns-in_err-figures-clause-fault
returns-in_err-figures-clause-fault c =
    let found = found_of c.args.matches.now in
    given_on found c.from_residual.result c.from_residual.ensures.1 (figures_first found
    c.get_str.ensures c.get_str-2.ensures c.get_str-3.ensures c.in_err-figures.ensures.figures)

pub returns-in_err-query-clause-fault : goal.returns-in_err-query-clause-fault
returns-in_err-query-clause-fault c =
    let found = found_of c.args.matches.now in
    given_on found c.from_residual-in_err-query.result c.from_residual-in_err-query.ensures.1 (query_first found
    (passes_figures found c.in_ok-figures.figures c.get_str.ensures c.get_str-2.ensures c.get_str-3.ensures c.in_ok-figures.ensures.figures)
    c.get_str-4.ensures c.get_str-5.ensures c.in_err-query.ensures.query)

pub returns-in_err-rule-clause-fault : goal.returns-in_err-rule-clause-fault
returns-in_err-rule-clause-fault c =
    let found = found_of c.args.matches.now in
    given_on found c.from_residual-in_err-rule.result c.from_residual-in_err-rule.ensures.1 (rule_first found
    (passes_query found
    (passes_figures found c.in_ok-figures.figures c.get_str.ensures c.get_str-2.ensures c.get_str-3.ensures c.in_ok-figures.ensures.figures)
    c.in_ok-query.query c.get_str-4.ensures c.get_str-5.ensures c.in_ok-query.ensures.query) c.get_str-6.ensures c.in_err-rule.ensures.rule)

pub returns-in_err-threads-clause-fault : goal.returns-in_err-threads-clause-fault
returns-in_err-threads-clause-fault c =
    let found = found_of c.args.matches.now in
    given_on found c.from_residual-in_err-threads.result c.from_residual-in_err-threads.ensures.1 (threads_first found
    (passes_rule found (passes_query found
    (passes_figures found c.in_ok-figures.figures c.get_str.ensures c.get_str-2.ensures c.get_str-3.ensures c.in_ok-figures.ensures.figures)
    c.in_ok-query.query c.get_str-4.ensures c.get_str-5.ensures c.in_ok-query.ensures.query)
    c.in_ok-rule.rule c.get_str-6.ensures c.in_ok-rule.ensures.rule)
    c.get_str-7.ensures c.in_err-threads.ensures.threads)

pub returns-in_err-scale-clause-fault : goal.returns-in_err-scale-clause-fault
returns-in_err-scale-clause-fault c =
    let found = found_of c.args.matches.now in
    given_on found c.from_residual-in_err-scale.result c.from_residual-in_err-scale.ensures.1 (scale_first found
    (passes_threads found (passes_rule found (passes_query found
    (passes_figures found c.in_ok-figures.figures c.get_str.ensures c.get_str-2.ensures c.get_str-3.ensures c.in_ok-figures.ensures.figures)
    c.in_ok-query.query c.get_str-4.ensures c.get_str-5.ensures c.in_ok-query.ensures.query)
    c.in_ok-rule.rule c.get_str-6.ensures c.in_ok-rule.ensures.rule)
    c.in_ok-threads.threads c.get_str-7.ensures c.in_ok-threads.ensures.threads) c.get_str-8.ensures c.in_err-scale.ensures.scale)

pub returns-clause-config : goal.returns-clause-config
returns-clause-config c =
    let found = found_of c.args.matches.now in
    let made = figures_made _ _ _ c.in_ok-figures.figures c.in_ok-a.a c.in_ok-a.b c.in_ok-a.sample c.in_ok-figures.ensures.figures
    c.in_ok-a.ensures.made in
    record {
      figures = rw (value_is found _ c.get_str.ensures, value_is found _ c.get_str-2.ensures, value_is found _ c.get_str-3.ensures) at made;
      query = rw (value_is found _ c.get_str-4.ensures, value_is found _ c.get_str-5.ensures) at c.in_ok-query.ensures.query;
      rule = rw (value_is found _ c.get_str-6.ensures) at c.in_ok-rule.ensures.rule;
      threads = rw (value_is found _ c.get_str-7.ensures) at c.in_ok-threads.ensures.threads;
      scale = rw (value_is found _ c.get_str-8.ensures) at c.in_ok-scale.ensures.scale;
      quiet = c.is_set.ensures.set;
      prepared = c.is_set-2.ensures.set;
    }
