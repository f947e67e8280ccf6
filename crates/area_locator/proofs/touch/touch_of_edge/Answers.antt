use Rattle.std.proofs.Common.{false, ap, sym, ◌∙◌, rules}
use Rattle.plane_exact.specs.NodePoints.{point_at}
use Rattle.plane_exact.specs.Places.{point_of}
use Rattle.plane_laws.specs.Plane.{IsOnSegment}
use Rattle.side_laws.proofs.Edges.Places.{off_edge}
use Rattle.area_locator.specs.Touches.{touch_by}
use Rattle.area_locator.proofs.Touching.{touch_left, touch_right, touch_on_line, on_edge}
use Rattle.area_locator.proofs.touch.touch_of_edge.Goals as goal

pub returns-in-Zero : goal.returns-in-Zero
returns-in-Zero c =
    let on : IsOnSegment (point_of c.args.a) (point_of c.args.b) (point_at c.args.n.now) = search rules in
    record {
      touch = sym
          (touch_on_line (point_at c.args.n.now) c.args.a c.args.b (sym c.side_of.ensures.side ∙ c.in-Zero.is)
          ∙ ap (λ z. touch_by z false) (on_edge (point_at c.args.n.now) c.args.a c.args.b on));
    }

pub returns-in-Zero-2 : goal.returns-in-Zero-2
returns-in-Zero-2 c =
    let off : ¬ IsOnSegment (point_of c.args.a) (point_of c.args.b) (point_at c.args.n.now) = search rules in
    record {
      touch = sym
          (touch_on_line (point_at c.args.n.now) c.args.a c.args.b (sym c.side_of.ensures.side ∙ c.in-Zero-2.is)
          ∙ ap (λ z. touch_by z false) (off_edge (record { a = c.args.a; b = c.args.b }) (point_at c.args.n.now) off));
    }

pub returns-in-Plus : goal.returns-in-Plus
returns-in-Plus c =
    record {
      touch = c.crossing.ensures.touch ∙ ap (touch_by false) c.rises.ensures.rises
          ∙ sym (touch_left c.requires.level c.args.a c.args.b (sym c.side_of.ensures.side ∙ c.in-Plus.is));
    }

pub returns-in-Minus : goal.returns-in-Minus
returns-in-Minus c =
    record {
      touch = c.crossing-in-Minus.ensures.touch ∙ ap (touch_by false) c.rises-in-Minus.ensures.rises
          ∙ sym (touch_right c.requires.level c.args.a c.args.b (sym c.side_of.ensures.side ∙ c.in-Minus.is));
    }
