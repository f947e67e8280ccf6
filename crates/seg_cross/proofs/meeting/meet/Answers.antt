use Rattle.std.proofs.Common.{◌≡◌, sym, ◌∙◌, ap, subst₂, of_z, w64, arith}
use Rattle.std.proofs.lemmas.Bool.{false≢true}
use Rattle.std.proofs.lemmas.Int.{ints}
use Rattle.seg_cross.specs.Sides.{IsOneSide}
use Rattle.seg_cross.proofs.Meetings.{plain_turn, both_zero, apart_by_second}
use Rattle.seg_cross.proofs.meeting.meet.Goals as goal

pub returns-then-not-meets-clause-exact : goal.returns-then-not-meets-clause-exact
returns-then-not-meets-clause-exact c = λ p both.
    false≢true
    (sym c.if-not-meets.true
    ∙ c.meets.ensures.common.1
    (record { point = p; here = c.of.ensures.least.holds p both.first; there = c.of-2.ensures.least.holds p both.second }))

pub overlap-requires-clause-line : goal.overlap-requires-clause-line
overlap-requires-clause-line c =
    let ea = plain_turn _ _ c.turn_of-from_a.ensures.turn c.turn_of-from_a.ensures.size in
    let eb = plain_turn _ _ c.turn_of-from_b.ensures.turn c.turn_of-from_b.ensures.size in
    let one : c.turn_of-from_a.result ≡ c.turn_of-from_b.result = omega (arith, ints) in
    let same = sym c.turn_of-from_a.ensures.turn ∙ one ∙ c.turn_of-from_b.ensures.turn in
    let none = both_zero _ _
    (λ h. false≢true (sym c.if-is_one_side.false ∙ c.is_one_side.ensures.side.1 (subst₂ IsOneSide (sym ea.is) (sym eb.is) h))) same in
    record { first = none; second = sym same ∙ none }

pub across-requires-clause-both_sides : goal.across-requires-clause-both_sides
across-requires-clause-both_sides c =
    let ea = plain_turn _ _ c.turn_of-from_a.ensures.turn c.turn_of-from_a.ensures.size in
    let eb = plain_turn _ _ c.turn_of-from_b.ensures.turn c.turn_of-from_b.ensures.size in
    record {
      sides = λ h. false≢true (sym c.if-is_one_side.false ∙ c.is_one_side.ensures.side.1 (subst₂ IsOneSide (sym ea.is) (sym eb.is) h));
      slanted = λ e. c.if-from_a-from_b.false (ap (of_z w64) (c.turn_of-from_a.ensures.turn ∙ e ∙ sym c.turn_of-from_b.ensures.turn));
    }

pub returns-then-is_one_side-clause-exact : goal.returns-then-is_one_side-clause-exact
returns-then-is_one_side-clause-exact c =
    let ea = plain_turn _ _ c.turn_of-from_a.ensures.turn c.turn_of-from_a.ensures.size in
    let eb = plain_turn _ _ c.turn_of-from_b.ensures.turn c.turn_of-from_b.ensures.size in
    apart_by_second c.args.s c.args.t (subst₂ IsOneSide ea.is eb.is (c.is_one_side.ensures.side.0 c.if-is_one_side.true))
