use Rattle.std.proofs.Common.{◌⊎◌, ◌↔◌, ℕ, ◌<◌, false, get_or, set, slice_index, sym, subst, length}
use Rattle.std.proofs.lemmas.Option.{slice_get-get_or}
use Rattle.fan_order.specs.declared.pass.Pass.{Pass}
use Rattle.fan_order.specs.Passes.{IsOpened}
use Rattle.fan_order.proofs.Reaches.{raised, not_raised}
use Rattle.fan_order.proofs.pass.raise_reach.Goals as goal

abbrev pub default_pass : Pass
default_pass = record { area = 0; place = 0; enters = false }

pub returns-then-pass-clause-reach : goal.returns-then-pass-clause-reach
returns-then-pass-clause-reach c = λ place beyond.
    let reach = c.args.reach.now in
    let passes = c.args.passes.now in
    let pass = get_or passes c.args.i default_pass in
    subst
    (λ (n : ℕ). beyond < slice_index (set reach pass.place n) place
    ↔ ((beyond < slice_index reach place) ⊎ IsOpened passes (length reach) c.args.i place beyond))
    (sym c.max.ensures)
    (raised reach passes c.args.i pass (slice_get-get_or passes c.args.i default_pass c.requires.place) c.if-pass.true
    (c.requires.places c.args.i default_pass c.requires.place) c.until-until.result c.until-until.ensures.until place beyond)

pub returns-else-pass-clause-reach : goal.returns-else-pass-clause-reach
returns-else-pass-clause-reach c =
    let passes = c.args.passes.now in
    not_raised c.args.reach.now passes c.args.i (get_or passes c.args.i default_pass)
    (slice_get-get_or passes c.args.i default_pass c.requires.place) c.if-pass.false
