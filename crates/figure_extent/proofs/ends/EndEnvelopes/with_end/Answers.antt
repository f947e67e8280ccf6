use Rattle.std.proofs.Common.{◌∙◌, List, [], ◌∷◌, ◌++◌, ap}
use Rattle.plane_laws.specs.Plane.{Point}
use Rattle.plane_exact.specs.declared.point.Pt.{Pt}
use Rattle.point_set.specs.Extents.{IsEnvelope, boundary_ends}
use Rattle.point_set.specs.Lines.{count_at, ends_of_lines}
use Rattle.point_set.specs.declared.rule.Rule.{Rule}
use Rattle.point_set.specs.declared.rule.Rule.TheVariants.{Mod2, Endpoint, Multivalent, Monovalent}
use Rattle.figure_extent.specs.Kept.{ends_under}
use Rattle.figure_extent.specs.declared.ends.EndEnvelopes.{EndEnvelopes}
use Rattle.figure_extent.proofs.Lines.{one_end}
use Rattle.figure_extent.proofs.ends.EndEnvelopes.with_end.Goals as goal

pub returns : goal.returns
returns c = record {
  more = λ f are rule.
      let p = c.args.p in
      let all = ends_of_lines f.lines in
      let old = c.args.self in
      let new : EndEnvelopes = record {
        mod2 = c.joined_if.result;
        endpoint = c.joined_if-2.result;
        multivalent = c.joined_if-3.result;
        monovalent = c.joined_if-4.result;
      } in
      let count = c.count-count.ensures.figure f are ∙ ap (λ (q : Point). count_at q all) c.at_point.ensures.point in
      let here = c.at_position-here.ensures.envelope in
      let More : Rule → Type 0 = λ r.
      (xs : List Pt) → IsEnvelope xs (ends_under r old) → IsEnvelope (xs ++ boundary_ends r all (p ∷ [])) (ends_under r new) in
      elim rule as More [
        | Mod2 ↦ one_end Mod2 all p _ _ _ _ _ count c.in_boundary.ensures.boundary c.joined_if.ensures.envelope here
        | Endpoint ↦ one_end Endpoint all p _ _ _ _ _ count c.in_boundary-2.ensures.boundary c.joined_if-2.ensures.envelope here
        | Multivalent ↦ one_end Multivalent all p _ _ _ _ _ count c.in_boundary-3.ensures.boundary c.joined_if-3.ensures.envelope here
        | Monovalent ↦ one_end Monovalent all p _ _ _ _ _ count c.in_boundary-4.ensures.boundary c.joined_if-4.ensures.envelope here
      ];
}
