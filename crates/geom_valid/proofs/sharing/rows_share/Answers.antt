use Rattle.std.proofs.lemmas.Result.{IfOk-weaker}
use Rattle.valid_laws.proofs.Clauses.OverAllPoints.{swapped}
use Rattle.geom_valid.proofs.sharing.rows_share.Goals as goal

pub returns-else-len : goal.returns-else-len
returns-else-len c = record {
  share =
      IfOk-weaker c.some_row_shares-else-len.result _ _ (λ b decides. (λ t. swapped (decides.0 t), λ h. decides.1 (swapped h)))
      c.some_row_shares-else-len.ensures.share;
}
