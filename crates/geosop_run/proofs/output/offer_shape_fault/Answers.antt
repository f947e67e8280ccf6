-- The pieces are those of the line.
use Rattle.std.proofs.Common.{◌≡◌}
use Rattle.std.specs.Fmt.{decimal}
use Rattle.geosop_run.proofs.output.offer_shape_fault.Goals as goal

pub returns : goal.returns
returns g c =
    let number : c.as_bytes-number.result.now ≡ decimal c.args.number = cc in
    let element : c.as_bytes-element.result.now ≡ decimal c.args.element = cc in
    rw (← number, ← element, ← c.side_name.ensures.name, ← c.invalid_name-kind.ensures.name) c.offer_pieces.ensures
