use Rattle.std.proofs.Common.{Bool, rules, tests}
use Rattle.im_matrix.specs.declared.Cell.{Cell}
use Rattle.std.proofs.lemmas.Iterator.{YieldsList-from_slice}
use Rattle.std.proofs.lemmas.Iterator.Search.{all_from_yields_List}
use Rattle.im_matrix.specs.Cells.{all_cells, dimension_at}
use Rattle.im_matrix.specs.Patterns.{accepts, mark_at, mark_character}
use Rattle.im_matrix.proofs.patterns.Pattern.matches.Goals as goal

pub returns : goal.returns
returns c =
    let fits : Cell → Bool = λ d. accepts (mark_character (mark_at c.args.self.now d)) (dimension_at c.args.m.now d) in
    record {
      matches = all_from_yields_List fits _ _ _ c.all.ensures.ran (YieldsList-from_slice all_cells cc) (λ x b q k. search (rules, tests));
    }
