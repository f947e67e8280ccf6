-- A run says by its status what its steps gave.
use Rattle.std.proofs.Common.{map, string_bytes}
use Rattle.geosop_run.proofs.CommandNumbers.{number_of_threads, sample_number}
use Rattle.geosop_run.proofs.Ran.{at_words, at_a, at_b, at_told, given_error}
use Rattle.geosop_run.proofs.program.relate_sources.Goals as goal

pub returns-in_err-config : goal.returns-in_err-config
returns-in_err-config g c =
    rw (given_error c.from_residual.result c.from_residual.ensures.1) (record {
      ran = at_words c.law_a_line_has_one_answer.ensures _ _ _ c.requires.a_new c.requires.b_new c.in_err-config.field-0.0
          c.in_err-config.ensures.fault;
    })

pub returns-in_err-in_a : goal.returns-in_err-in_a
returns-in_err-in_a g c =
    rw (given_error c.from_residual-in_err-in_a.result c.from_residual-in_err-in_a.ensures.1) (record {
      ran = at_a c.law_a_line_has_one_answer.ensures _ _ _ c.requires.a_new c.requires.b_new _ c.in_ok-config.ensures.config _
          c.admit_side.ensures.others c.admit_side.ensures.asked c.in_err-in_a.field-0.0 c.in_err-in_a.ensures.err;
    })

pub returns-in_err-in_b : goal.returns-in_err-in_b
returns-in_err-in_b g c =
    rw (given_error c.from_residual-in_err-in_b.result c.from_residual-in_err-in_b.ensures.1) (record {
      ran = at_b c.law_a_line_has_one_answer.ensures _ _ _ c.requires.a_new c.requires.b_new _ c.in_ok-config.ensures.config _
          c.admit_side.ensures.others c.admit_side.ensures.asked _ c.in_ok-in_a.ensures.ok c.in_ok-in_a.ensures.uncounted _
          c.admit_side-2.ensures.others c.admit_side-2.ensures.asked c.in_err-in_b.field-0.0 c.in_err-in_b.ensures.err;
    })

pub of-way-requires : goal.of-way-requires
of-way-requires g c =
    let within = number_of_threads (map string_bytes c.args.words.now) c.in_ok-config.config c.in_ok-config.ensures.config in
    record { some = within.0; most = within.1 }

pub offer_told-requires-clause-number : goal.offer_told-requires-clause-number
offer_told-requires-clause-number g c lifetimes outlive =
    sample_number (map string_bytes c.args.words.now) c.in_ok-config.config c.in_ok-config.ensures.config

pub returns-in_err-offer_told : goal.returns-in_err-offer_told
returns-in_err-offer_told g c =
    rw (given_error c.from_residual-in_err-offer_told.result c.from_residual-in_err-offer_told.ensures.1) (record {
      ran = at_told c.law_a_line_has_one_answer.ensures _ _ _ c.requires.a_new c.requires.b_new _ c.in_ok-config.ensures.config _
          c.admit_side.ensures.others c.admit_side.ensures.asked _ c.in_ok-in_a.ensures.ok c.in_ok-in_a.ensures.uncounted _
          c.admit_side-2.ensures.others c.admit_side-2.ensures.asked _ c.in_ok-in_b.ensures.ok c.in_ok-in_b.ensures.uncounted _
          c.offer_told.ensures.quiet c.as_slice.ensures.items c.in_err-offer_told.ensures.written;
    })

pub returns : goal.returns
returns g c = record {
  ran = at_told c.law_a_line_has_one_answer.ensures _ _ _ c.requires.a_new c.requires.b_new _ c.in_ok-config.ensures.config _
      c.admit_side.ensures.others c.admit_side.ensures.asked _ c.in_ok-in_a.ensures.ok c.in_ok-in_a.ensures.uncounted _
      c.admit_side-2.ensures.others c.admit_side-2.ensures.asked _ c.in_ok-in_b.ensures.ok c.in_ok-in_b.ensures.uncounted _
      c.offer_told.ensures.quiet c.as_slice.ensures.items c.in_ok-offer_told.ensures.written;
}
