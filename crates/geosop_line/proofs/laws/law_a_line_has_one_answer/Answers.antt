-- One configuration, one first fault, and not both.
use Rattle.geosop_line.specs.Arguments.{matches, refusals}
use Rattle.geosop_line.proofs.OneAnswer.{config_passes, one_config, one_first}
use Rattle.geosop_line.proofs.laws.law_a_line_has_one_answer.Goals as goal

pub returns : goal.returns
returns c = record {
  config = λ words config other f g. one_config (matches words) config other f.has g.has;
  fault = λ words fault other f g. one_first (refusals words) (matches words) fault other f g;
  apart = λ words config fault f g. config_passes (refusals words) (matches words) config f.taken f.has fault g.fails;
}
