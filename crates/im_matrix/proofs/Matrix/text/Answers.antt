use Rattle.std.proofs.Common.{ℕ, rules}
use Rattle.im_matrix.specs.declared.Cell.{Cell}
use Rattle.im_matrix.specs.Cells.{all_cells, character_of, dimension_at}
use Rattle.im_matrix.proofs.Mapped.{mapped_by}
use Rattle.im_matrix.proofs.Matrix.text.Goals as goal

pub returns : goal.returns
returns c =
    let character : Cell → ℕ = λ d. character_of (dimension_at c.args.self.now d) in
    record { text = mapped_by _ character _ all_cells c.map.result (λ x y q k. search rules) c.map.ensures.items }
