use Rattle.std.proofs.Common.{sym, ◌∙◌, subst}
use Rattle.std.proofs.lemmas.Bool.{false≢true}
use Rattle.plane_exact.specs.Places.{IsInLimit}
use Rattle.plane_laws.specs.Plane.{Point}
use Rattle.seg_cross.specs.Meets.{IsOnlyCommon}
use Rattle.seg_cross.proofs.Overlaps.{AreEnds, ends_have, one_position, overlap_along, overlap_at, overlap_apart}
use Rattle.seg_cross.proofs.overlap.overlap.Goals as goal
use Rattle.seg_cross.proofs.overlap.overlap.Goals.{After-earlier-high}

-- the later beginning and the earlier end
ends :
    (c : After-earlier-high)
    → AreEnds c.args.s c.args.t c.earlier.result c.later.result c.earlier-2.result c.later-2.result c.later-low.result c.earlier-high.result
ends c = record {
  s_begins = record { first = c.earlier.ensures.first; second = c.earlier.ensures.second };
  s_ends = record { first = c.later.ensures.first; second = c.later.ensures.second };
  t_begins = record { first = c.earlier-2.ensures.first; second = c.earlier-2.ensures.second };
  t_ends = record { first = c.later-2.ensures.first; second = c.later-2.ensures.second };
  begins = record { first = c.later-low.ensures.first; second = c.later-low.ensures.second };
  ends = record { first = c.earlier-high.ensures.first; second = c.earlier-high.ensures.second };
}

-- they are within the limit
limited : (c : After-earlier-high) → IsInLimit c.later-low.result × IsInLimit c.earlier-high.result
limited c =
    let r = c.requires in ends_have IsInLimit c.args.s c.args.t _ _ _ _ _ _ (ends c) r.s_a r.s_b r.t_a r.t_b

pub at_point-requires : goal.at_point-requires
at_point-requires c = record { limited = (limited (goal.at.at_point-requires c).After-earlier-high).0 }

pub returns-then-is_before-clause-exact : goal.returns-then-is_before-clause-exact
returns-then-is_before-clause-exact c =
    let r = c.requires in
    let e = ends (goal.at.returns-then-is_before-clause-exact c).After-earlier-high in
    overlap_along c.args.s c.args.t _ _ _ _ _ _ e r.s_apart r.t_apart r.line (c.is_before.ensures.before.0 c.if-is_before.true)

pub returns-then-is_before-clause-limit : goal.returns-then-is_before-clause-limit
returns-then-is_before-clause-limit c = limited (goal.at.returns-then-is_before-clause-limit c).After-earlier-high

pub returns-then-is_before-2-clause-exact : goal.returns-then-is_before-2-clause-exact
returns-then-is_before-2-clause-exact c =
    let r = c.requires in
    let e = ends (goal.at.returns-then-is_before-2-clause-exact c).After-earlier-high in
    overlap_apart c.args.s c.args.t _ _ _ _ _ _ e r.s_apart r.t_apart r.line
    (c.is_before-else-is_before.ensures.before.0 c.if-is_before-2.true)

pub returns-else-is_before-2-clause-exact : goal.returns-else-is_before-2-clause-exact
returns-else-is_before-2-clause-exact c =
    let r = c.requires in
    let e = ends (goal.at.returns-else-is_before-2-clause-exact c).After-earlier-high in
    let one = one_position _ _
    (λ h. false≢true (sym c.if-is_before.false ∙ c.is_before.ensures.before.1 h))
    (λ h. false≢true (sym c.if-is_before-2.false ∙ c.is_before-else-is_before.ensures.before.1 h)) in
    subst (λ (p : Point). IsOnlyCommon c.args.s c.args.t p) (sym c.at_point.ensures.point)
    (overlap_at c.args.s c.args.t _ _ _ _ _ _ e r.s_apart r.t_apart r.line one)
