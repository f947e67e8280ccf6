use Rattle.std.proofs.Common.{List, sym, subst}
use Rattle.im_matrix.specs.declared.Which.TheVariants.{A}
use Rattle.plane_exact.specs.NodePoints.{point_at}
use Rattle.fan_order.specs.declared.section.Section.{Section}
use Rattle.fan_order.specs.Rays.{AreRaysOf}
use Rattle.fan_order.specs.Sections.{AreSectionsAt}
use Rattle.point_set.specs.Location.{areas_alone}
use Rattle.union_locator.proofs.WalkRound.{IsWalked, walked}
use Rattle.union_locator.proofs.nearby.Nearby.walk_round.Goals as goal
use Rattle.union_locator.proofs.nearby.Nearby.walk_round.Goals.{After-are_all_inside}

-- what the walk says, inside all round or not
walk : (c : After-are_all_inside) → IsWalked c.args.self.now.figure.now (point_at c.args.self.now.node.now) c.are_all_inside.result
walk c =
    let s = c.args.self.now in
    let f = s.figure.now in
    let p = point_at s.node.now in
    let near = c.requires.near in
    let fan = c.in_ok-fan.fan in
    let same = sym c.in_ok-fan.ensures.sections in
    walked f p near.shaped near.valid c.requires.boundary fan.sections fan.rays
    (subst (λ (xs : List Section). AreSectionsAt A (areas_alone f) p xs) same c.in_ok-sections.ensures.sections)
    (subst (λ
    (xs : List Section). AreRaysOf xs fan.rays) same c.in_ok-fan.ensures.rays) c.are_all_inside.result c.are_all_inside.ensures.all

pub returns-then-are_all_inside : goal.returns-then-are_all_inside
returns-then-are_all_inside c =
    record { adjacent = (walk (goal.at.returns-then-are_all_inside c).After-are_all_inside).inside c.if-are_all_inside.true }

pub returns : goal.returns
returns c = record { adjacent = (walk (goal.at.returns c).After-are_all_inside).not_inside c.if-are_all_inside.false }
