use Rattle.std.proofs.Common.{Option, Some, ◌++◌, sym, subst}
use Rattle.plane_exact.specs.declared.window.Window.{Window}
use Rattle.point_set.specs.Extents.{IsEnvelope}
use Rattle.figure_extent.proofs.Boxes.{both_lists}
use Rattle.figure_extent.proofs.envelopes.joined.Goals as goal

pub returns-in-Some-Some : goal.returns-in-Some-Some
returns-in-Some-Some c = record {
  envelope = λ xs ys h k.
      subst (λ (box : Window). IsEnvelope (xs ++ ys) (Some box)) (sym c.join.ensures.join)
      (both_lists xs ys c.in-Some-Some.first c.in-Some-Some.second
      (subst (λ (e : Option Window). IsEnvelope xs e) c.in-Some-Some.is-0 h)
      (subst (λ (e : Option Window). IsEnvelope ys e) c.in-Some-Some.is-1 k));
}
