use Rattle.std.proofs.Common.{◌≡◌, ◌+◌, ◌*◌, ◌<◌, ℕ, List, length, subst, subst₂, sym, ◌∙◌, arith}
use Rattle.std.specs.Prelude.{Option, Some}
use Rattle.edge_index.proofs.Finds.{walk_items, walk_looks}
use Rattle.edge_index.proofs.Meetings.{view_of}
use Rattle.edge_index.proofs.Steps.{IsUnderway, underway_begin, underway_out, underway_leaf, underway_inner, underway_end}
use Rattle.edge_index.proofs.Turns.{IsTurn, turn_of, tree_of, meets_is, item_is}
use Rattle.edge_index.proofs.walking.walk.Given.{Over}
use Rattle.edge_index.proofs.walking.walk.Goals as goal
use Rattle.edge_index.proofs.walking.walk.Goals.{In-Some, In_default, After-meets-meets}

-- the walk at a turn of the loop, and what is known there
walk_here :
    (g : Over) (c : In-Some g)
    → IsUnderway (view_of c.args.w (g.T.Boxes.rows c.args.rows.now)) (Some c.in-Some.place) c.loop-next.out
    (g.M.Meter.used c.args.meter.now) (g.M.Meter.used c.loop-next.meter)
walk_here g c =
    let walk = λ (next : Option ℕ). IsUnderway (view_of c.args.w (g.T.Boxes.rows c.args.rows.now)) next c.loop-next.out
    (g.M.Meter.used c.args.meter.now) (g.M.Meter.used c.loop-next.meter) in
    subst walk c.in-Some.is c.loop-next.invariant

walk_turn :
    (g : Over) (c : In-Some g)
    → IsTurn c.args.w (g.T.Boxes.rows c.args.rows.now) c.in-Some.place (g.M.Meter.used c.args.meter.now) (g.M.Meter.used c.loop-next.meter)
walk_turn g c =
    let some : 0 < length (g.T.Boxes.rows c.args.rows.now) = omega (arith, c.count-count.ensures.count) in
    turn_of c.args.w _ c.count-count.ensures.tree some c.in-Some.place c.loop-next.out _ _ (walk_here g c)

pub loop-next-init : goal.loop-next-init
loop-next-init g c =
    let rows = g.T.Boxes.rows c.args.rows.now in
    let begin = g.M.Meter.used c.args.meter.now in
    subst (λ (out : List ℕ). IsUnderway (view_of c.args.w rows) (Some 0) out begin begin) (sym c.clear.ensures.empty)
    (underway_begin (view_of c.args.w rows) begin)

pub look-row-requires-clause-room : goal.look-row-requires-clause-room
look-row-requires-clause-room g c =
    let turn = walk_turn g (goal.at.look-row-requires-clause-room g c).In-Some in
    omega (arith, turn.room, c.requires.room)

pub after-next-requires : goal.after-next-requires
after-next-requires g c =
    let turn = walk_turn g (goal.at.after-next-requires g c).In-Some in
    record { room = omega (arith, turn.within, turn.few) }

pub loop-next-smaller-then-not-meets : goal.loop-next-smaller-then-not-meets
loop-next-smaller-then-not-meets g c =
    let turn = walk_turn g (goal.at.loop-next-smaller-then-not-meets g c).In-Some in
    omega (arith, turn.left, c.look-row.ensures.step)

-- what the walk's view says of the row that was looked at
view_here :
    (g : Over) (c : After-meets-meets g) → (view_of c.args.w (g.T.Boxes.rows c.args.rows.now)).meets c.in-Some.place ≡ c.meets-meets.result
view_here g c =
    meets_is c.args.w
    (g.T.Boxes.rows c.args.rows.now) c.in-Some.place c.look-row.result c.meets-meets.result c.look-row.ensures.row
    c.meets-meets.ensures.common

pub loop-next-preserved-then-not-meets : goal.loop-next-preserved-then-not-meets
loop-next-preserved-then-not-meets g c =
    let at = goal.at.loop-next-preserved-then-not-meets g c in
    let v = view_of c.args.w (g.T.Boxes.rows c.args.rows.now) in
    let begin = g.M.Meter.used c.args.meter.now in
    subst (λ (used : ℕ). IsUnderway v c.after-next.result c.loop-next.out begin used) (sym c.look-row.ensures.step)
    (underway_out v c.in-Some.place c.after-next.result c.loop-next.out begin _
    (view_here g at.After-meets-meets ∙ c.if-not-meets.true) c.after-next.ensures.after (walk_here g at.In-Some))

pub loop-next-smaller-then-place-count : goal.loop-next-smaller-then-place-count
loop-next-smaller-then-place-count g c =
    let turn = walk_turn g (goal.at.loop-next-smaller-then-place-count g c).In-Some in
    omega (arith, turn.left, c.look-row.ensures.step)

pub loop-next-preserved-then-place-count : goal.loop-next-preserved-then-place-count
loop-next-preserved-then-place-count g c =
    let at = goal.at.loop-next-preserved-then-place-count g c in
    let v = view_of c.args.w (g.T.Boxes.rows c.args.rows.now) in
    let begin = g.M.Meter.used c.args.meter.now in
    subst (λ (used : ℕ). IsUnderway v (Some (2 * c.in-Some.place + 1)) c.loop-next.out begin used) (sym c.look-row.ensures.step)
    (underway_inner v c.in-Some.place c.loop-next.out begin _ (omega (arith, c.count-count.ensures.count))
    (view_here g at.After-meets-meets ∙ c.if-not-meets.false) (walk_here g at.In-Some))

pub returns-in_err-push-clause-steps : goal.returns-in_err-push-clause-steps
returns-in_err-push-clause-steps g c =
    let turn = walk_turn g (goal.at.returns-in_err-push-clause-steps g c).In-Some in
    omega (arith, turn.left, c.look-row.ensures.step)

pub after-next-requires-else-place-count : goal.after-next-requires-else-place-count
after-next-requires-else-place-count g c =
    let turn = walk_turn g (goal.at.after-next-requires-else-place-count g c).In-Some in
    record { room = omega (arith, turn.within, turn.few) }

pub loop-next-smaller : goal.loop-next-smaller
loop-next-smaller g c =
    let turn = walk_turn g (goal.at.loop-next-smaller g c).In-Some in
    omega (arith, turn.left, c.look-row.ensures.step)

pub loop-next-preserved : goal.loop-next-preserved
loop-next-preserved g c =
    let at = goal.at.loop-next-preserved g c in
    let rows = g.T.Boxes.rows c.args.rows.now in
    let v = view_of c.args.w rows in
    let begin = g.M.Meter.used c.args.meter.now in
    let next = c.after-next-else-place-count.result in
    let item = item_is c.args.w rows c.in-Some.place c.look-row.result c.look-row.ensures.row in
    subst₂ (λ (out : List ℕ) (used : ℕ). IsUnderway v next out begin used) (sym c.in_ok-push.ensures.ok) (sym c.look-row.ensures.step)
    (underway_leaf v c.in-Some.place c.look-row.result.item next c.loop-next.out begin _ (omega (arith, c.count-count.ensures.count))
    (view_here g at.After-meets-meets ∙ c.if-not-meets.false) item c.after-next-else-place-count.ensures.after (walk_here g at.In-Some))

pub returns-clause-items : goal.returns-clause-items
returns-clause-items g c =
    let rows = g.T.Boxes.rows c.args.rows.now in
    let begin = g.M.Meter.used c.args.meter.now in
    let used = g.M.Meter.used c.loop-next.meter in
    let some : 0 < length rows = omega (arith, c.count-count.ensures.count) in
    let tree = tree_of rows c.count-count.ensures.tree some in
    let end = underway_end (view_of c.args.w rows) c.loop-next.out begin used
    (subst (λ (next : Option ℕ). IsUnderway
    (view_of c.args.w rows) next c.loop-next.out begin used) c.in_default.is c.loop-next.invariant) in
    walk_items c.args.w tree.0 rows tree.1 c.loop-next.out c.sort.new.self end.0 end.1 c.sort.ensures.permutation c.sort.ensures.sorted

pub returns-clause-steps : goal.returns-clause-steps
returns-clause-steps g c =
    let rows = g.T.Boxes.rows c.args.rows.now in
    let some : 0 < length rows = omega (arith, c.count-count.ensures.count) in
    let tree = tree_of rows c.count-count.ensures.tree some in
    let walk = c.loop-next.invariant in
    omega (arith, walk.steps, walk_looks c.args.w tree.0 rows tree.1 walk.all walk.total walk.whole)
