-- One more worker has made its list, and it is joined.
use Rattle.std.proofs.Common.{◌≡◌, ◌++◌, [], ◌∷◌, sym, subst, rules}
use Rattle.std.specs.Prelude.{Ok}
use Rattle.pair_batch.proofs.Joined.{one_more_joined}
use Rattle.pair_batch.specs.Shares.{AreJoined}
use Rattle.pair_batch.proofs.joining.joined.Goals as goal

pub loop-list-preserved : goal.loop-list-preserved
loop-list-preserved c =
    let before = c.loop-list.yielded in
    let list = c.in_ok-list.field-0 in
    let is_made : c.in-Some.list ≡ Ok list = search rules in
    subst (λ all. AreJoined (before ++ c.in-Some.list ∷ []) all) (sym c.in_ok-append.ensures.appended)
    (subst (λ made. AreJoined (before ++ made ∷ []) (c.loop-list.all ++ list)) (sym is_made)
    (one_more_joined before c.loop-list.all list c.loop-list.invariant))
