use Rattle.std.proofs.Common.{◌≡◌, ◌∷◌, sym, ◌∙◌}
use Rattle.std.proofs.lemmas.List.Elements.{All-head, All-tail, All-same}
use Rattle.plane_exact.specs.Places.{IsInLimit}
use Rattle.ring_sides.proofs.side.interior_side.Goals as goal

pub side_after-requires-clause-first : goal.side_after-requires-clause-first
side_after-requires-clause-first c =
    let e : c.in-Some.first.now ∷ c.in-Some.others.now ≡ c.args.ring.now = sym c.in-Some.ensures.cases.0 ∙ c.as_slice.ensures.items in
    All-head IsInLimit c.in-Some.first.now c.in-Some.others.now
    (All-same IsInLimit (c.in-Some.first.now ∷ c.in-Some.others.now) c.args.ring.now e c.requires.shaped.within)

pub side_after-requires-clause-others : goal.side_after-requires-clause-others
side_after-requires-clause-others c =
    let e : c.in-Some.first.now ∷ c.in-Some.others.now ≡ c.args.ring.now = sym c.in-Some.ensures.cases.0 ∙ c.as_slice.ensures.items in
    All-tail IsInLimit c.in-Some.first.now c.in-Some.others.now
    (All-same IsInLimit (c.in-Some.first.now ∷ c.in-Some.others.now) c.args.ring.now e c.requires.shaped.within)
