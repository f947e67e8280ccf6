use Rattle.std.proofs.Common.{◌≡◌, subst}
use Rattle.im_matrix.specs.declared.Cell.{Cell}
use Rattle.im_matrix.specs.declared.Dim.{Dim}
use Rattle.relate_core.specs.Taking.{HasTakenIn, IsOne}
use Rattle.topo_pred.specs.declared.Progress.{Progress}
use Rattle.relate_core.proofs.FarCells.{taken_four}
use Rattle.relate_core.proofs.far.take_in_far.Goals as goal

-- one dimension of a cell, by another name
same_cell : (p q : Progress) (c e : Cell) (d : Dim) → c ≡ e → HasTakenIn (IsOne c d) p q → HasTakenIn (IsOne e d) p q
same_cell p q c e d same h = subst (λ z. HasTakenIn (IsOne z d) p q) same h

pub returns : goal.returns
returns c =
    let p = c.args.progress.now in
    let q = c.take_in_beyond.new.progress in
    let r = c.take_in_beyond-2.new.progress in
    let s = c.take_in_beyond-3.new.progress in
    let t = c.take_in_beyond-4.new.progress in
    record {
      taken =
          taken_four c.args.x.now c.args.y.now c.args.w p q r s t c.requires.start
          (same_cell p q c.outside_b.result _ _ c.outside_b.ensures.cell c.take_in_beyond.ensures.taken)
          (same_cell q r c.outside_b-2.result _ _ c.outside_b-2.ensures.cell c.take_in_beyond-2.ensures.taken)
          (same_cell r s c.outside_a.result _ _ c.outside_a.ensures.cell c.take_in_beyond-3.ensures.taken)
          (same_cell s t c.outside_a-2.result _ _ c.outside_a-2.ensures.cell c.take_in_beyond-4.ensures.taken);
    }
