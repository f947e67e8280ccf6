use Rattle.std.proofs.Common.{map, subst, sym, arith}
use Rattle.std.proofs.lemmas.List.{length-map}
use Rattle.once_cell.specs.Once.{cell_name}
use Rattle.plane_exact.specs.NodePoints.{point_at}
use Rattle.union_locator.specs.Shells.{AreShellsNear}
use Rattle.relate_prep.proofs.AskingCells.{asked_none, asked_next, asked_all, cell_within, name_within, name_here, origin_here}
use Rattle.relate_prep.proofs.areas.ask_near.Goals as goal

pub loop-place-init : goal.loop-place-init
loop-place-init c =
    let f = c.args.valid.now in
    let p = point_at c.args.n.now in
    asked_none f p (map cell_name c.args.cells.now) c.args.asked.now c.as_slice-place-items.result.now c.requires.cells
    (subst (AreShellsNear f.areas p) (sym c.as_slice-place-items.ensures.items) (c.in_ok-near.ensures.near f.areas c.requires.shells))

pub bounds-asked-area : goal.bounds-asked-area
bounds-asked-area c = cell_within c.loop-place.invariant c.loop-place-test.true

pub bounds-cells-area : goal.bounds-cells-area
bounds-cells-area c =
    let within = name_within c.loop-place.invariant c.loop-place-test.true in
    omega (arith, within, length-map c.args.cells.now cell_name)

pub ask-requires-clause-cell : goal.ask-requires-clause-cell
ask-requires-clause-cell c =
    name_here cell_name c.args.cells.now c.loop-place.invariant c.loop-place-test.true c.index-asked-area.is c.index-cells-area.is

pub ask-requires-clause-origin : goal.ask-requires-clause-origin
ask-requires-clause-origin c = origin_here c.loop-place.invariant c.loop-place-test.true c.index-asked-area.is

pub loop-place-preserved : goal.loop-place-preserved
loop-place-preserved c =
    asked_next c.loop-place.invariant c.loop-place-test.true c.index-asked-area.is c.ask.new.self c.in_ok-ask.ensures.later
    c.in_ok-ask.ensures.origin c.in_ok-ask.ensures.asked

pub returns-clause-asked : goal.returns-clause-asked
returns-clause-asked c =
    asked_all c.args.valid.now.areas (point_at c.args.n.now) c.args.asked.now c.loop-place.asked c.as_slice-place-items.result.now
    c.loop-place.place-index c.loop-place.invariant.to c.loop-place-test.false c.loop-place.invariant.near
