use Rattle.figure_laws.proofs.Valid.Pairs.{are_valid}
use Rattle.few_laws.proofs.Seen.Few.{law_few_holds, left_out}
use Rattle.few_laws.proofs.laws.law_few.Goals as goal

pub returns : goal.returns
returns c =
    let valid = are_valid c.figure.ensures.shaped c.figure.ensures.valid c.figure-2.ensures.shaped c.figure-2.ensures.valid in
    record {
      few = law_few_holds c.args.a.now c.args.b.now valid c.args.rule;
      left_out = left_out c.args.a.now c.args.b.now valid c.args.rule;
    }
