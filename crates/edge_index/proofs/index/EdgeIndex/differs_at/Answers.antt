use Rattle.std.proofs.Common.{◌≡◌, List, ℕ, refl, subst, subst₂, sym, ap, ◌∙◌, arith}
use Rattle.plane_exact.specs.declared.point.Seg.{Seg}
use Rattle.edge_index.specs.Index.{SeenIndex}
use Rattle.edge_index.specs.Segments.{IsFirstDifference}
use Rattle.edge_index.proofs.Differences.{AreSameBefore, first_end, all_same}
use Rattle.edge_index.proofs.index.EdgeIndex.differs_at.Goals as goal

pub returns-then-here-there-clause-equal : goal.returns-then-here-there-clause-equal
returns-then-here-there-clause-equal c =
    let seen = c.as_slice-here.ensures.items ∙ ap (λ (seen : SeenIndex). seen.segs) c.self.view_is in
    let same = all_same c.as_slice-here.result.now c.as_slice-there.result.now c.loop-place.place
    (omega arith) c.loop-place.invariant c.if-here-there.true in
    (λ _. sym seen ∙ same ∙ c.as_slice-there.ensures.items, λ _. refl)

pub returns-else-here-there-clause-first : goal.returns-else-here-there-clause-first
returns-else-here-there-clause-first c =
    let here = c.as_slice-here.result.now in
    let there = c.as_slice-there.result.now in
    let seen = c.as_slice-here.ensures.items ∙ ap (λ (seen : SeenIndex). seen.segs) c.self.view_is in
    let place : c.loop-place.place ≡ c.min-shared.result = omega arith in
    let before = subst (λ (p : ℕ). AreSameBefore here there p) place c.loop-place.invariant in
    let first = first_end here there c.min-shared.result c.min-shared.ensures before c.if-here-there.false in
    subst₂ (λ (segs others : List Seg). IsFirstDifference segs others c.min-shared.result) seen c.as_slice-there.ensures.items first
