use Rattle.std.proofs.Common.{length, ap, ◌∙◌, arith}
use borrow.Author.Tests.{ltb-true}
use Rattle.std.specs.Prelude.{Some}
use Rattle.std.proofs.lemmas.Option.{slice_get-get_or, slice_get_within, get_or_from_slice_get}
use Rattle.area_locator.proofs.RowEdges.{no_edge}
use Rattle.area_locator.proofs.area_index.is_at.Goals as goal

pub returns-then-place-edges : goal.returns-then-place-edges
returns-then-place-edges c =
    let edges = c.args.edges.now in
    let place = c.args.place in
    record {
      at = (
        λ t. slice_get-get_or edges place no_edge c.if-place-edges.true ∙ ap Some (c.are_equal.ensures.equal.0 t),
        λ e. c.are_equal.ensures.equal.1 (get_or_from_slice_get edges place c.args.edge no_edge e),
      );
    }

pub returns-else-place-edges : goal.returns-else-place-edges
returns-else-place-edges c = record {
  at = (
    λ t. absurd (let below = ltb-true c.args.place (length c.args.edges.now) t in omega (arith, below)),
    λ e. absurd (let within = slice_get_within c.args.edges.now c.args.place c.args.edge e in omega (arith, within)),
  );
}
