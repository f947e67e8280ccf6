use Rattle.std.proofs.Common.{arith}
use Rattle.std.proofs.lemmas.Result.{err_from_is_err_and}
use Rattle.wkt_text.proofs.Exact.{white_to_end, end_of_white, white_unread, read_as, fault_read_as, fault_as}
use Rattle.wkt_text.proofs.Shapes.{reads_shaped}
use Rattle.wkt_text.proofs.read.read_next.Goals as goal

pub returns-then-run_end-bytes-clause-none : goal.returns-then-run_end-bytes-clause-none
returns-then-run_end-bytes-clause-none c = white_to_end c.args.bytes.now c.args.at (omega arith) (omega arith)

pub returns-then-run_end-bytes-clause-only : goal.returns-then-run_end-bytes-clause-only
returns-then-run_end-bytes-clause-only c figure last r =
    white_unread c.args.scale.digits c.args.bytes.now c.args.at figure last
    (white_to_end c.args.bytes.now c.args.at (omega arith) (omega arith)) r

pub read_geometry-requires-clause-some : goal.read_geometry-requires-clause-some
read_geometry-requires-clause-some c white = absurd (omega (arith, end_of_white c.args.bytes.now c.args.at (omega arith) white))

pub returns-in_err-read_geometry-clause-only : goal.returns-in_err-read_geometry-clause-only
returns-in_err-read_geometry-clause-only c figure last r =
    let p = err_from_is_err_and c.from_residual.result c.from_residual.ensures.1 in
    rw (p.1, p.2) (fault_read_as c.args.scale.digits c.args.bytes.now c.args.at _ figure last c.in_err-read_geometry.ensures.fault r)

pub returns-in_err-read_geometry-clause-white : goal.returns-in_err-read_geometry-clause-white
returns-in_err-read_geometry-clause-white c white = absurd (omega (arith, end_of_white c.args.bytes.now c.args.at (omega arith) white))

pub returns-clause-shaped : goal.returns-clause-shaped
returns-clause-shaped c = reads_shaped c.args.scale.digits c.args.bytes.now c.args.at _ _ c.in_ok-read_geometry.ensures.read

pub returns-clause-only : goal.returns-clause-only
returns-clause-only c figure last r =
    read_as c.args.scale.digits c.args.bytes.now c.args.at _ figure last c.in_ok-read_geometry.ensures.read r

pub returns-clause-white : goal.returns-clause-white
returns-clause-white c white = absurd (omega (arith, end_of_white c.args.bytes.now c.args.at (omega arith) white))

pub returns-in_err-read_geometry-clause-faulty : goal.returns-in_err-read_geometry-clause-faulty
returns-in_err-read_geometry-clause-faulty c kind place f =
    let p = err_from_is_err_and c.from_residual.result c.from_residual.ensures.1 in
    rw (p.1, p.2) (fault_as c.args.scale.digits c.args.bytes.now c.args.at _ kind place c.in_err-read_geometry.ensures.fault f)

pub returns-clause-faulty : goal.returns-clause-faulty
returns-clause-faulty c kind place f = f.unread _ _ c.in_ok-read_geometry.ensures.read

pub returns-then-run_end-bytes-clause-faulty : goal.returns-then-run_end-bytes-clause-faulty
returns-then-run_end-bytes-clause-faulty c kind place f = f.some (white_to_end c.args.bytes.now c.args.at (omega arith) (omega arith))
