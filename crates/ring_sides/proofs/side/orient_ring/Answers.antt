use Rattle.std.proofs.Common.{List, sym, subst}
use Rattle.plane_exact.specs.declared.point.Pt.{Pt}
use Rattle.point_set.specs.declared.edge.Hand.TheVariants.{Right}
use Rattle.point_set.specs.Sides.{IsInsideHand}
use Rattle.ring_sides.proofs.Turned.{turned_hand}
use Rattle.ring_sides.proofs.side.orient_ring.Goals as goal

pub returns-in-Left-clause-right : goal.returns-in-Left-clause-right
returns-in-Left-clause-right c =
    subst (λ (ring : List Pt). IsInsideHand ring Right) (sym c.reverse.ensures.reversed)
    (turned_hand c.args.ring.now (subst (IsInsideHand c.args.ring.now) c.in-Left.is c.interior_side.ensures.side))
