use Rattle.std.proofs.Common.{Result, Ok, Err, true, false}
use Rattle.std.specs.Result.{OnOk}
use Rattle.std.proofs.lemmas.Result.{on_ok_weaker}
use Rattle.plane_exact.specs.NodePoints.{point_at}
use Rattle.fan_order.proofs.EdgeWays.{HasGrown, grown, grown_twice}
use Rattle.fan_order.proofs.toward.add_sections.Goals as goal

-- two facts for one variant
both_on_ok : {T E P Q R : Type 0} (r : Result T E) → (P → Q → R) → OnOk r P → OnOk r Q → OnOk r R
both_on_ok (Ok x) f p q = f p q
both_on_ok (Err e) f p q = tt

first : (c : goal.After-add_unless_at-2)
    → HasGrown c.args.which c.args.edge.now (point_at c.args.n.now) true c.args.out.now c.add_unless_at.new.out
first c =
    grown c.args.which c.args.edge.now (point_at c.args.n.now) true c.args.out.now c.add_unless_at.new.out c.section_toward.result
    c.section_toward.ensures.section c.in_ok-add_unless_at.ensures.here c.in_ok-add_unless_at.ensures.away

abbrev IsSecond : goal.After-add_unless_at-2 → Type 0
IsSecond c = HasGrown c.args.which c.args.edge.now (point_at c.args.n.now) false c.add_unless_at.new.out c.add_unless_at-2.new.out

second : (c : goal.After-add_unless_at-2) → OnOk c.add_unless_at-2.result (IsSecond c)
second c =
    both_on_ok c.add_unless_at-2.result
    (λ here away.
    grown c.args.which c.args.edge.now (point_at c.args.n.now) false c.add_unless_at.new.out c.add_unless_at-2.new.out
    c.section_toward-2.result c.section_toward-2.ensures.section here away)
    c.add_unless_at-2.ensures.here c.add_unless_at-2.ensures.away

pub returns : goal.returns
returns c = record {
  sections =
      on_ok_weaker c.add_unless_at-2.result
      (λ h.
      grown_twice c.args.which c.args.edge.now (point_at c.args.n.now) c.args.out.now c.add_unless_at.new.out
      c.add_unless_at-2.new.out (first c) h)
      (second c);
  short =
      on_ok_weaker c.add_unless_at-2.result (λ h all. h.short c.requires.a c.requires.b ((first c).short c.requires.a c.requires.b all))
      (second c);
}
