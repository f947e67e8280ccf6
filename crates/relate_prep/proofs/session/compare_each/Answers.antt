use Rattle.std.proofs.Common.{length, ap, ◌∙◌, arith}
use Rattle.std.specs.Prelude.{slice_set}
use Rattle.std.proofs.lemmas.List.{set-get_or}
use Rattle.relate_prep.proofs.Comparisons.{name_there, known_next, same_each}
use Rattle.relate_prep.proofs.session.compare_each.Goals as goal

pub compare-requires : goal.compare-requires
compare-requires c =
    record {
      name = name_there c.requires.names c.loop-place.invariant c.loop-place-test.true c.index-cells-place.result
          c.index-others-place.result;
    }

pub loop-place-preserved : goal.loop-place-preserved
loop-place-preserved c =
    let k = c.loop-place.place in
    let i = c.loop-place.invariant in
    let d = c.index-cells-place.result in
    let e = c.index-others-place.result in
    record {
      same = ap (slice_set c.loop-place.cells k) c.compare.ensures.same ∙ set-get_or c.loop-place.cells k d ∙ i.same;
      other_same = ap (slice_set c.loop-place.others k) c.compare.ensures.other ∙ set-get_or c.loop-place.others k e ∙ i.other_same;
      known = known_next c.requires.names i c.loop-place-test.true d e c.compare.ensures.known;
    }

pub returns-clause-known : goal.returns-clause-known
returns-clause-known c =
    let i = c.loop-place.invariant in
    same_each c.args.cells.now c.args.others.now c.loop-place.place i.known (omega (arith, c.loop-place-test.false, ap length i.same))
