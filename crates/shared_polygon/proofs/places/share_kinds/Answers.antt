use Rattle.std.proofs.Common.{rules, ◌≡◌, ◌+◌, ◌∷◌, [], ◌++◌, ◌∙◌, sym, subst, take, arith}
use Rattle.plane_exact.specs.NodePoints.{point_at}
use Rattle.shared_polygon.specs.Places.{share_of, AreKinds}
use Rattle.shared_polygon.proofs.OneMore.{one_more_kind}
use Rattle.shared_polygon.proofs.places.share_kinds.Goals as goal

pub loop-p-preserved : goal.loop-p-preserved
loop-p-preserved c =
    let f = c.args.prepared.now.figure in
    let share = share_of c.args.points.now c.args.place in
    let same = c.locate.ensures.figure ∙ c.loop-p.invariant.0 in
    let put : c.push.new.self.items ≡ c.loop-p.kinds.items ++ c.in_ok-kind.kind ∷ [] = search rules in (
      same,
      subst (λ kinds. AreKinds f (take (c.loop-p.p-index + 1) share) kinds) (sym put)
          (one_more_kind f share c.share-p-items.result.now c.loop-p.p-index _ c.loop-p.kinds.items c.in_ok-kind.kind
          c.locate.new.self.figure (point_at c.at_point.result) c.share-p-items.ensures.share (omega arith) same c.at_point.ensures.point
          c.in_ok-kind.ensures.kind c.loop-p.invariant.1),
    )
