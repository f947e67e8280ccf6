use Rattle.std.proofs.Common.{List, sym, subst, subst₂}
use Rattle.std.proofs.lemmas.Result.{IfOk-weaker}
use Rattle.plane_exact.specs.declared.point.Seg.{Seg}
use Rattle.point_set.specs.declared.figure.Area.{Area}
use Rattle.point_set.specs.Validity.{EdgesShareSegment}
use Rattle.geom_valid.specs.Grounds.{IsSoundWith}
use Rattle.geom_valid.proofs.sound_area.SoundArea.shares.Goals as goal

pub returns : goal.returns
returns c =
    let own : IsSoundWith c.args.self.now c.self.inside.rows
    = subst (λ (a : Area). IsSoundWith a c.self.inside.rows) c.self.view_is c.self.invariant.sound in
    let its : IsSoundWith c.args.other.now c.other.inside.rows
    = subst (λ (a : Area). IsSoundWith a c.other.inside.rows) c.other.view_is c.other.invariant.sound in
    let Share : List Seg → List Seg → Type 0 = λ edges others. EdgesShareSegment edges others in
    record {
      shares = IfOk-weaker c.rows_share.result _ _
          (λ b decides. (
            λ t. subst₂ Share own.rows_are.segs its.rows_are.segs (decides.0 t),
            λ h. decides.1 (subst₂ Share (sym own.rows_are.segs) (sym its.rows_are.segs) h),
          ))
          c.rows_share.ensures.share;
    }
