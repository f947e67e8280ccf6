use Rattle.std.proofs.Common.{List, ap, ◌∙◌, subst}
use Rattle.relate_prep.specs.Cells.{SeenCell}
use Rattle.relate_prep.specs.Sessions.{SeenSession, KnowTheSameEach}
use Rattle.relate_prep.proofs.session.Session.compare.Goals as goal

pub returns-clause-areas : goal.returns-clause-areas
returns-clause-areas c =
    let own = c.as_mut_slice.ensures.value ∙ ap (λ (s : SeenSession). s.areas) c.self.view_is in
    let others = c.as_mut_slice-2.ensures.value ∙ ap (λ (s : SeenSession). s.areas) c.other.view_is in
    subst (λ (xs : List SeenCell). KnowTheSameEach xs c.args.other.now.areas) own
    (subst (λ (xs : List SeenCell). KnowTheSameEach c.as_mut_slice.result.now xs) others c.compare_each.ensures.known)
