use Rattle.std.proofs.Common.{ℕ, rules}
use Rattle.im_matrix.specs.declared.Cell.{Cell}
use Rattle.im_matrix.specs.Cells.{all_cells}
use Rattle.im_matrix.specs.Patterns.{mark_at, mark_character}
use Rattle.im_matrix.proofs.Mapped.{mapped_by}
use Rattle.im_matrix.proofs.patterns.Pattern.text.Goals as goal

pub returns : goal.returns
returns c =
    let character : Cell → ℕ = λ d. mark_character (mark_at c.args.self.now d) in
    record { text = mapped_by _ character _ all_cells c.map.result (λ x y q k. search rules) c.map.ensures.items }
