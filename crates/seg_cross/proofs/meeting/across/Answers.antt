use Rattle.std.proofs.Common.{ℤ, pos, ◌+ℤ◌, neg_ℤ, ◌<ℤ◌, ◌≤ℤ◌, sym, subst, subst₂, arith}
use Rattle.std.proofs.lemmas.Int.{ints}
use Rattle.whole_algebra.proofs.Laws.{linear}
use Rattle.whole_algebra.proofs.Computed.{narrow}
use Rattle.seg_cross.specs.Sides.{IsOneSide}
use Rattle.seg_cross.proofs.Meetings.{plain_turn, minus_turn, not_one_side, as_turns, below_from_slanted, in_order, against_order}
use Rattle.seg_cross.proofs.Meetings.{apart_by_first, crossing_ahead, crossing_back, of_a, of_b}
use Rattle.seg_cross.proofs.meeting.across.Goals as goal
use Rattle.seg_cross.proofs.meeting.across.Goals.{Then-first-second, Else-first-second}

-- the two turns in order, and not on one side
ahead : (c : Then-first-second) → of_a c.args.s c.args.t <ℤ of_b c.args.s c.args.t
ahead c =
    let less : narrow c.turn_of-first.result <ℤ narrow c.turn_of-second.result = omega (arith, ints) in
    as_turns _ _ _ _ c.turn_of-first.ensures.turn c.turn_of-first.ensures.size c.turn_of-second.ensures.turn
    c.turn_of-second.ensures.size less

apart : (c : Then-first-second) → ¬ IsOneSide (of_a c.args.s c.args.t) (of_b c.args.s c.args.t)
apart c =
    not_one_side _ _ _ _ _ c.turn_of-first.ensures.turn c.turn_of-first.ensures.size c.turn_of-second.ensures.turn
    c.turn_of-second.ensures.size c.is_one_side.ensures.side c.if-is_one_side.false

-- the same the other way round
back : (c : Else-first-second) → of_b c.args.s c.args.t <ℤ of_a c.args.s c.args.t
back c =
    let less : narrow c.turn_of-second.result ≤ℤ narrow c.turn_of-first.result = omega (arith, ints) in
    let first = plain_turn _ _ c.turn_of-first.ensures.turn c.turn_of-first.ensures.size in
    let second = plain_turn _ _ c.turn_of-second.ensures.turn c.turn_of-second.ensures.size in
    below_from_slanted c.args.s c.args.t c.requires.both_sides.slanted (subst₂ ◌≤ℤ◌ second.is first.is less)

apart_back : (c : Else-first-second) → ¬ IsOneSide (of_a c.args.s c.args.t) (of_b c.args.s c.args.t)
apart_back c =
    not_one_side _ _ _ _ _ c.turn_of-first.ensures.turn c.turn_of-first.ensures.size c.turn_of-second.ensures.turn
    c.turn_of-second.ensures.size c.is_one_side.ensures.side c.if-is_one_side.false

pub crossing-requires-clause-first : goal.crossing-requires-clause-first
crossing-requires-clause-first c =
    let second = plain_turn _ _ c.turn_of-second.ensures.turn c.turn_of-second.ensures.size in
    subst (λ (z : ℤ). pos 0 ≤ℤ z) (sym second.is) (in_order _ _ (apart c) (ahead c)).1

pub crossing-requires-clause-second : goal.crossing-requires-clause-second
crossing-requires-clause-second c =
    let at_most = (in_order _ _ (apart c) (ahead c)).0 in
    let turned : pos 0 ≤ℤ neg_ℤ (of_a c.args.s c.args.t) = omega (arith, linear, at_most) in
    subst (λ (z : ℤ). pos 0 ≤ℤ z) (sym (minus_turn _ _ c.turn_of-first.ensures.turn c.turn_of-first.ensures.size)) turned

pub crossing-requires-else-first-second-clause-first : goal.crossing-requires-else-first-second-clause-first
crossing-requires-else-first-second-clause-first c =
    let at_most = (against_order _ _ (apart_back c) (back c)).1 in
    let turned : pos 0 ≤ℤ neg_ℤ (of_b c.args.s c.args.t) = omega (arith, linear, at_most) in
    subst (λ (z : ℤ). pos 0 ≤ℤ z) (sym (minus_turn _ _ c.turn_of-second.ensures.turn c.turn_of-second.ensures.size)) turned

pub crossing-requires-else-first-second-clause-second : goal.crossing-requires-else-first-second-clause-second
crossing-requires-else-first-second-clause-second c =
    let first = plain_turn _ _ c.turn_of-first.ensures.turn c.turn_of-first.ensures.size in
    subst (λ (z : ℤ). pos 0 ≤ℤ z) (sym first.is) (against_order _ _ (apart_back c) (back c)).0

pub crossing-requires-else-first-second-clause-some : goal.crossing-requires-else-first-second-clause-some
crossing-requires-else-first-second-clause-some c =
    let first = plain_turn _ _ c.turn_of-first.ensures.turn c.turn_of-first.ensures.size in
    let less = back c in
    let some : pos 0 <ℤ (neg_ℤ (of_b c.args.s c.args.t) +ℤ of_a c.args.s c.args.t) = omega (arith, linear, less) in
    subst₂ (λ (y z : ℤ). pos 0 <ℤ (y +ℤ z)) (sym (minus_turn _ _ c.turn_of-second.ensures.turn c.turn_of-second.ensures.size))
    (sym first.is) some

pub returns-then-is_one_side-clause-exact : goal.returns-then-is_one_side-clause-exact
returns-then-is_one_side-clause-exact c =
    let first = plain_turn _ _ c.turn_of-first.ensures.turn c.turn_of-first.ensures.size in
    let second = plain_turn _ _ c.turn_of-second.ensures.turn c.turn_of-second.ensures.size in
    apart_by_first c.args.s c.args.t (subst₂ IsOneSide first.is second.is (c.is_one_side.ensures.side.0 c.if-is_one_side.true))

pub returns-then-first-second-clause-exact : goal.returns-then-first-second-clause-exact
returns-then-first-second-clause-exact c =
    let less : narrow c.turn_of-first.result <ℤ narrow c.turn_of-second.result = omega (arith, ints) in
    crossing_ahead c.args.s c.args.t _ _ _
    (as_turns _ _ _ _ c.turn_of-first.ensures.turn c.turn_of-first.ensures.size c.turn_of-second.ensures.turn
    c.turn_of-second.ensures.size less)
    (not_one_side _ _ _ _ _ c.turn_of-first.ensures.turn c.turn_of-first.ensures.size c.turn_of-second.ensures.turn
    c.turn_of-second.ensures.size c.is_one_side.ensures.side c.if-is_one_side.false)
    c.requires.both_sides.sides
    (plain_turn _ _ c.turn_of-second.ensures.turn c.turn_of-second.ensures.size).is
    (minus_turn _ _ c.turn_of-first.ensures.turn c.turn_of-first.ensures.size)
    c.crossing.ensures.mean

pub returns-else-first-second-clause-exact : goal.returns-else-first-second-clause-exact
returns-else-first-second-clause-exact c =
    let less : narrow c.turn_of-second.result ≤ℤ narrow c.turn_of-first.result = omega (arith, ints) in
    let first = plain_turn _ _ c.turn_of-first.ensures.turn c.turn_of-first.ensures.size in
    let second = plain_turn _ _ c.turn_of-second.ensures.turn c.turn_of-second.ensures.size in
    crossing_back c.args.s c.args.t _ _ _
    (below_from_slanted c.args.s c.args.t c.requires.both_sides.slanted (subst₂ ◌≤ℤ◌ second.is first.is less))
    (not_one_side _ _ _ _ _ c.turn_of-first.ensures.turn c.turn_of-first.ensures.size c.turn_of-second.ensures.turn
    c.turn_of-second.ensures.size c.is_one_side.ensures.side c.if-is_one_side.false)
    c.requires.both_sides.sides
    (minus_turn _ _ c.turn_of-second.ensures.turn c.turn_of-second.ensures.size)
    first.is
    c.crossing-else-first-second.ensures.mean
