use Rattle.std.proofs.Common.{◌∙◌, sym}
use Rattle.edge_index.proofs.Differences.{Decides-same}
use Rattle.edge_index.proofs.index.is_same.Goals as goal

pub returns : goal.returns
returns c =
    let test = Decides-same c.args.one.now c.args.other.now in
    record { same = (λ h. test.0 (sym c.eq.ensures ∙ h), λ h. c.eq.ensures ∙ test.1 h) }
