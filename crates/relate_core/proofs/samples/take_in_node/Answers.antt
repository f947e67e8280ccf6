use Rattle.std.proofs.Common.{◌≡◌, List, sym, subst}
use Rattle.im_matrix.specs.Cells.{cell}
use Rattle.im_matrix.specs.declared.Which.TheVariants.{A, B}
use Rattle.plane_laws.specs.Plane.{Point}
use Rattle.plane_exact.specs.NodePoints.{point_at}
use Rattle.point_set.specs.declared.figure.Figure.{Figure}
use Rattle.point_set.specs.Location.{IsKind}
use Rattle.fan_order.specs.declared.section.Section.{Section}
use Rattle.fan_order.specs.Sections.{AreSectionsAt}
use Rattle.fan_label.specs.Seen.{AreSeenAt}
use Rattle.relate_core.proofs.Visits.{taken_at}
use Rattle.relate_core.proofs.samples.take_in_node.Goals as goal

pub returns-clause-taken : goal.returns-clause-taken
returns-clause-taken g c =
    let a : Figure = g.A.Target.figure c.args.a.now in
    let b : Figure = g.B.Target.figure c.args.b.now in
    let v : Point = point_at c.args.entry.now.node in
    let same : c.in_ok-fan.fan.sections ≡ c.args.entry.now.sections = c.in_ok-fan.ensures.sections in
    let kind_a : IsKind a c.args.rule v c.in_ok-at_a.at_a =
    subst (λ (f : Figure). IsKind f c.args.rule v c.in_ok-at_a.at_a) c.in_ok-at_a.ensures.figure c.in_ok-at_a.ensures.kind in
    let kind_b : IsKind b c.args.rule v c.in_ok-at_b.at_b =
    subst (λ (f : Figure). IsKind f c.args.rule v c.in_ok-at_b.at_b) c.in_ok-at_b.ensures.figure c.in_ok-at_b.ensures.kind in
    let seen : AreSeenAt a b c.args.rule v c.in_ok-at_a.at_a c.in_ok-at_b.at_b c.in_ok-fan.fan.sections = record {
      valid = c.requires.valid;
      sections_a = subst (λ (s : List Section). AreSectionsAt A a v s) (sym same) c.requires.sections.of_a;
      sections_b = subst (λ (s : List Section). AreSectionsAt B b v s) (sym same) c.requires.sections.of_b;
      kind_a = kind_a;
      kind_b = kind_b;
    } in
    taken_at a b c.args.rule v (cell c.loc.result c.loc-2.result)
    (record {
      in_a = record { decided_by = c.in_ok-at_a.at_a; decides = kind_a; gives = sym c.loc.ensures.part };
      in_b = record { decided_by = c.in_ok-at_b.at_b; decides = kind_b; gives = sym c.loc-2.ensures.part };
    })
    c.args.progress.now c.take_in_cell.new.progress c.take_in_rays.new.progress c.take_in_sectors.new.progress
    c.take_in_cell.ensures.taken (c.take_in_rays.ensures.taken a b c.args.rule v seen)
    (c.take_in_sectors.ensures.taken a b c.args.rule v seen)
