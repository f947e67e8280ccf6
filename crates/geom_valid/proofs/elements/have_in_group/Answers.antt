use Rattle.std.proofs.Common.{◌∙◌, ap}
use Rattle.std.proofs.lemmas.Result.{IfOk-weaker}
use Rattle.point_set.specs.declared.figure.Area.{Area}
use Rattle.geom_valid.proofs.AreaBoxes.{on_interior}
use Rattle.geom_valid.proofs.elements.have_in_group.Goals as goal

pub have_in_common-requires : goal.have_in_common-requires
have_in_common-requires c =
    let same = c.if-group-area.false ∙ ap (λ (a : Area). a.group) c.area.ensures.area in
    record { unshared = on_interior c.args.what (λ none share. none (same, share)) c.requires.unshared }

pub returns : goal.returns
returns c =
    let same = c.if-group-area.false ∙ ap (λ (a : Area). a.group) c.area.ensures.area in
    record {
      common = IfOk-weaker c.have_in_common.result _ _
          (λ b decides. (λ t. (same, decides.0 t), λ h. decides.1 h.1)) c.have_in_common.ensures.common;
    }
