use Rattle.std.proofs.Common.{◌∙◌, List, [], ◌∷◌, ◌++◌, sym, ap, subst}
use Rattle.std.proofs.lemmas.List.{append_assoc}
use Rattle.plane_exact.specs.declared.point.Pt.{Pt}
use Rattle.point_set.specs.Extents.{IsEnvelope, boundary_ends}
use Rattle.point_set.specs.Lines.{ends_of_lines}
use Rattle.figure_extent.specs.Kept.{ends_under}
use Rattle.figure_extent.proofs.Lines.{ends_append, ends_in_limit}
use Rattle.figure_extent.proofs.ends.EndEnvelopes.with_line.Goals as goal

pub with_end-requires-in-Some : goal.with_end-requires-in-Some
with_end-requires-in-Some c = record {
  limit = (ends_in_limit c.args.line.now c.in-Some.first c.in-Some.last c.requires.limit c.in-Some.ensures.ends).1;
}

pub returns-in-Some : goal.returns-in-Some
returns-in-Some c = record {
  more = λ f are rule xs h.
      let all = ends_of_lines f.lines in
      let first : List Pt = c.in-Some.first ∷ [] in
      let last : List Pt = c.in-Some.last ∷ [] in
      let new = c.with_end-in-Some.result in
      let one = c.with_end.ensures.more f are rule xs h in
      subst (λ (zs : List Pt). IsEnvelope zs (ends_under rule new))
      (append_assoc xs (boundary_ends rule all first) (boundary_ends rule all last)
      ∙ ap (λ (ends : List Pt). xs ++ ends) (sym (ends_append rule all first last))
      ∙ ap (λ (ends : List Pt). xs ++ boundary_ends rule all ends) (sym c.in-Some.ensures.ends))
      (c.with_end-in-Some.ensures.more f are rule (xs ++ boundary_ends rule all first) one);
}
