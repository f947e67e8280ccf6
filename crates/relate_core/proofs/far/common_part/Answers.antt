use Rattle.std.proofs.Common.{◌≡◌, true, false, Option, Some, refl, sym, ◌∙◌, subst}
use Rattle.plane_laws.specs.Plane.{Point}
use Rattle.plane_exact.specs.Windows.{IsInWindow}
use Rattle.plane_exact.specs.declared.window.Window.{Window}
use Rattle.figure_laws.proofs.Lists.Places.{some_same}
use Rattle.box_laws.specs.Boxes.{IsInBox}
use Rattle.relate_core.proofs.far.common_part.Goals as goal

-- a point that is in a box, where there is one, is in the box that there is
in_box : (u : Option Window) (box : Window) (p : Point) → u ≡ Some box → IsInBox u p → IsInWindow box p
in_box u box p is h = subst (λ z. IsInWindow z p) (some_same (sym h.is ∙ is)) h.within

pub returns-then-meets : goal.returns-then-meets
returns-then-meets c = record {
  common = λ p h k. record {
    box = _;
    is = refl;
    within =
        c.shared.ensures.holds p (in_box c.args.u c.in_ok-u.u p c.in_ok-u.was h) (in_box c.args.v c.in_ok-v.v p c.in_ok-v.was k);
  };
}

pub returns-else-meets : goal.returns-else-meets
returns-else-meets c = record {
  common = λ p h k.
      let met : c.meets.result ≡ true =
      c.meets.ensures.common.1
      (record { point = p; here = in_box c.args.u c.in_ok-u.u p c.in_ok-u.was h; there = in_box c.args.v c.in_ok-v.v p c.in_ok-v.was k }) in
      let both : false ≡ true = sym c.if-meets.false ∙ met in
      absurd (clash both);
}
  where
    clash : false ≡ true → ⊥
    clash e = cc
