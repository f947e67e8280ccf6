use Rattle.plane_laws.proofs.laws.law_signs_are_of_points.Goals as goal
use Rattle.plane_laws.proofs.Turns.Turns.{OneSign-int_signum, turn_same, rise_same, shift_same}

pub returns : goal.returns
returns c = record {
  turn = λ a a' b b' c c' ha hb hc. OneSign-int_signum (turn_same ha hb hc);
  rise = λ a a' b b' ha hb. OneSign-int_signum (rise_same ha hb);
  shift = λ a a' b b' ha hb. OneSign-int_signum (shift_same ha hb);
}
