use Rattle.std.proofs.Common.{refl}
use Rattle.std.proofs.lemmas.Bool.Decides.{not_from_Decides}
use Rattle.point_set.specs.Validity.{CrossesItself, HasTooFewPoints, too_few_points, ring_cross, rings_share_edge}
use Rattle.geom_valid.specs.declared.kinds.InvalidKind.TheVariants as kind
use Rattle.geom_valid.proofs.EarlierAreas.{failed, passed, untested}
use Rattle.geom_valid.proofs.RingLists.{no_ring}
use Rattle.geom_valid.proofs.fault.sound_rings.Goals as goal

pub returns-then-branch : goal.returns-then-branch
returns-then-branch c =
    let enough = passed too_few_points refl (λ _ _ h. h) c.if-has_ring_with_too_few.ensures.few refl (untested c.args.area.now) in
    record { tested = failed kind.RingCross refl (λ _ _ h. h) c.in_ok-has_ring_that_crosses.ensures.crosses c.if-branch.true enough }

pub returns-then-branch-2 : goal.returns-then-branch-2
returns-then-branch-2 c =
    let enough = passed too_few_points refl (λ _ _ h. h) c.if-has_ring_with_too_few.ensures.few refl (untested c.args.area.now) in
    let simple = passed ring_cross refl (λ _ _ h. h) c.in_ok-has_ring_that_crosses.ensures.crosses c.if-branch.false enough in
    record { tested = failed kind.RingsShareEdge refl (λ _ _ h. h) c.in_ok-rings_share.ensures.share c.if-branch-2.true simple }

pub of-requires-clause-enough : goal.of-requires-clause-enough
of-requires-clause-enough c = no_ring HasTooFewPoints c.args.area.now (not_from_Decides _ c.if-has_ring_with_too_few.ensures.few refl)

pub of-requires-clause-simple : goal.of-requires-clause-simple
of-requires-clause-simple c =
    no_ring CrossesItself c.args.area.now (not_from_Decides _ c.in_ok-has_ring_that_crosses.ensures.crosses c.if-branch.false)

pub returns : goal.returns
returns c =
    let enough = passed too_few_points refl (λ _ _ h. h) c.if-has_ring_with_too_few.ensures.few refl (untested c.args.area.now) in
    let simple = passed ring_cross refl (λ _ _ h. h) c.in_ok-has_ring_that_crosses.ensures.crosses c.if-branch.false enough in
    let unshared = passed rings_share_edge refl (λ _ _ h. h) c.in_ok-rings_share.ensures.share c.if-branch-2.false simple in
    record { tested = (c.in_ok-of.ensures.area, unshared) }
