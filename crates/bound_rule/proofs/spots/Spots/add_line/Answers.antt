use Rattle.std.proofs.Common.{◌∙◌, Bool, ◌||◌, sym, ap}
use Rattle.std.proofs.Math.Bool.{or-false}
use Rattle.point_set.specs.Lines.{is_at_some}
use Rattle.bound_rule.proofs.spots.Spots.add_line.Goals as goal

pub returns-in_ok-add : goal.returns-in_ok-add
returns-in_ok-add c = record {
  added = λ p.
      c.in_ok-add.ensures.added p ∙ ap (λ (b : Bool). is_at_some p c.args.self.now || b) (sym (c.in-Some.ensures.position p));
}

pub returns-in_default : goal.returns-in_default
returns-in_default c = record {
  added = λ p.
      sym (ap (λ (b : Bool). is_at_some p c.args.self.now || b) (c.in_default.ensures.position p)
      ∙ or-false (is_at_some p c.args.self.now));
}
