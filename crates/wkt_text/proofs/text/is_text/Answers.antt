-- The places of the word are those that the runs of white space and letters give.
use Rattle.std.proofs.Common.{◌≡◌, ◌+◌, ◌∙◌, ◌&&◌, drop, slice_range, zero-add, ap}
use Rattle.std.proofs.lemmas.List.{take_rest}
use Rattle.std.specs.List.{prefix_len}
use Rattle.wkt_text.specs.Bytes.{in_class}
use Rattle.wkt_text.specs.Words.{is_type_name, is_delimited_so}
use Rattle.wkt_text.specs.declared.runs.Class.TheVariants.{White, Letter}
use Rattle.wkt_text.proofs.text.is_text.Goals as goal

pub returns : goal.returns
returns c =
    let v = c.args.value.now in
    let from : c.run_end-start.result ≡ prefix_len (in_class White) v =
    c.run_end-start.ensures.end ∙ zero-add (prefix_len (in_class White) v) in
    let to : c.run_end-end.result ≡ prefix_len (in_class White) v + prefix_len (in_class Letter) (drop (prefix_len (in_class White) v) v)
    = c.run_end-end.ensures.end ∙ (λ i. from i + prefix_len (in_class Letter) (drop (from i) v)) in
    record {
      text = c.is_type_before.ensures.before
          ∙ ap (λ rest. is_type_name (slice_range v c.run_end-start.result c.run_end-end.result) && is_delimited_so rest)
          (take_rest v c.run_end-end.result)
          ∙ (λ i. is_type_name (slice_range v (from i) (to i)) && is_delimited_so (drop (to i) v));
    }
