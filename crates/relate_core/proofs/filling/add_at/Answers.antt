use Rattle.std.proofs.Common.{List, sym, subst}
use Rattle.std.specs.List.{All}
use Rattle.std.proofs.lemmas.List.Elements.{All-nil}
use Rattle.std.proofs.lemmas.Result.{on_ok_weaker}
use Rattle.im_matrix.specs.declared.Which.TheVariants.{A}
use Rattle.plane_exact.specs.NodePoints.{point_at}
use Rattle.fan_order.specs.declared.section.Section.{Section}
use Rattle.fan_order.specs.Rays.{IsShort}
use Rattle.relate_core.specs.Tables.{AddsSectionsAt, HasItsSections}
use Rattle.node_table.specs.Tables.{entry}
use Rattle.relate_core.proofs.EdgeSections.{both_sections}
use Rattle.relate_core.proofs.filling.add_at.Goals as goal

pub returns-clause-added : goal.returns-clause-added
returns-clause-added g c =
    let a = g.A.Target.figure c.args.a.now in
    let b = g.B.Target.figure c.args.b.now in
    let n = c.args.n.now in
    let mid = c.sections_at.new.out in
    let empty = c.new-sections.ensures.empty in
    let first = subst (λ (xs : List Section). AddsSectionsAt A a (point_at n) xs mid) empty c.in_ok-sections_at.ensures.sections in
    let short = c.in_ok-sections_at-2.ensures.short
    (c.in_ok-sections_at.ensures.short
    (subst (λ (xs : List Section). All (λ s. IsShort s.dir) xs) (sym empty) (All-nil (λ (s : Section). IsShort s.dir)))) in
    let its = both_sections a b n mid c.sections_at-2.new.out first c.in_ok-sections_at-2.ensures.sections short in
    on_ok_weaker c.add_all.result
    (λ added. record {
      sections = c.as_slice.result.now;
      has_its = subst (λ (xs : List Section). HasItsSections a b (entry n xs)) (sym c.as_slice.ensures.items) its;
      new_is = added;
    })
    c.add_all.ensures.added
