use Rattle.std.proofs.Common.{◌∙◌, false, true}
use Rattle.geosop_io.proofs.Pairs.{pair_at, bytes_of-drop}
use Rattle.geosop_io.proofs.named.NamedBytes.find.Goals as goal

pub loop-place-preserved : goal.loop-place-preserved
loop-place-preserved c =
    c.loop-place.invariant
    ∙ bytes_of-drop c.args.self.now c.args.name.now c.loop-place.place _ c.bytes.result.now false
    (pair_at (λ p. (p.name, p.bytes.items)) _ _ _ c.loop-place.place c.pair-item.result c.deref-pair-items.ensures.value c.self.view_is
    c.loop-place-test.true c.pair-item.is)
    c.bytes.ensures.bytes c.if-eq.ensures

pub returns-then-eq-clause-found : goal.returns-then-eq-clause-found
returns-then-eq-clause-found c =
    c.loop-place.invariant
    ∙ bytes_of-drop c.args.self.now c.args.name.now c.loop-place.place _ c.bytes.result.now true
    (pair_at (λ p. (p.name, p.bytes.items)) _ _ _ c.loop-place.place c.pair-item.result c.deref-pair-items.ensures.value c.self.view_is
    c.loop-place-test.true c.pair-item.is)
    c.bytes.ensures.bytes c.if-eq.ensures
