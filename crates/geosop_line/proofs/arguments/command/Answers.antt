-- The command is built up as clap's own contracts say.
use Rattle.std.proofs.Common.{◌∙◌, ap, ap₂, fold}
use Rattle.std.specs.List.{list_all}
use Rattle.std.proofs.lemmas.Result.{IfOk-weaker}
use Rattle.clap.specs.Walk.{Rule}
use Rattle.clap.specs.Simple.{with_rule}
use Rattle.geosop_line.specs.Arguments.{command}
use Rattle.geosop_line.proofs.Commands.{added_rules, told_no_help, told_no_version, without_help, without_version}
use Rattle.geosop_line.proofs.arguments.command.Goals as goal

pub returns : goal.returns
unfolding command
returns c =
    let bare = told_no_version _ c.disable_version_flag.result c.disable_version_flag.ensures
    ∙ ap without_version (told_no_help _ c.disable_help_flag.result c.disable_help_flag.ensures ∙ ap without_help c.new.ensures.app) in
    let rules = c.in_ok-arguments.ensures.rules in
    let simple = ap (list_all (λ (r : Rule). r.is_simple)) rules in
    record {
      command = IfOk-weaker c.args-2.result _ _ (λ r added. added_rules _ _ r added simple ∙ ap₂ (fold with_rule) bare rules)
          c.args-2.ensures;
    }
