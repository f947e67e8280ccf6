use Rattle.std.proofs.Common.{◌+◌, List, ℕ, length, get_or, ap, sym, subst, arith}
use Rattle.plane_exact.specs.NodePoints.{point_at}
use Rattle.fan_order.specs.declared.section.Section.{Section}
use Rattle.union_locator.specs.Nearby.{IsAreaEdgeAt}
use Rattle.union_locator.proofs.NearEdges.{proper_there}
use Rattle.union_locator.proofs.AreaSections.{AreSectionsBefore, nothing_more, sections_more, all_sections}
use Rattle.union_locator.proofs.nearby.Nearby.area_sections.Goals as goal
use Rattle.union_locator.proofs.nearby.Nearby.area_sections.Goals.{in-Some+in_ok-add_sections, in_default}

pub add_sections-requires : goal.add_sections-requires
add_sections-requires c =
    let s = c.args.self.now in
    let is = c.in-Some.ensures.edge.is in
    let proper = proper_there s.figure.now (point_at s.node.now) s.rows.now s.places.now c.requires.near _ c.in-Some.edge is in
    record { a = proper.first; b = proper.second; apart = proper.apart; on = c.in-Some.ensures.edge.on }

pub loop-place-preserved : goal.loop-place-preserved
loop-place-preserved c =
    let s = c.args.self.now in
    let f = s.figure.now in
    let p = point_at s.node.now in
    let rows = s.rows.now in
    let k = c.loop-place.place-index in
    let items = c.as_slice-place-items.ensures.items in
    elim c.match-area_edge.branch [
      | in-Some+in_ok-add_sections w ↦
          subst (λ (xs : List Section). AreSectionsBefore f p rows s.places.now (k + 1) xs) (sym w.sections-is)
          (sections_more f p rows s.places.now k c.loop-place.sections c.loop-place.invariant c.requires.near w.in-Some.edge
          (subst (λ (places : List ℕ). IsAreaEdgeAt rows
          (get_or places k 0) p w.in-Some.edge) items w.in-Some.ensures.edge) w.add_sections.new.out
          w.in_ok-add_sections.ensures.sections w.in_ok-add_sections.ensures.short)
      | in_default w ↦
          subst (λ (xs : List Section). AreSectionsBefore f p rows s.places.now (k + 1) xs) (sym w.sections-is)
          (nothing_more f p rows s.places.now k c.loop-place.sections c.loop-place.invariant
          (λ edge h.
          w.in_default.ensures.none edge (subst (λ (places : List ℕ). IsAreaEdgeAt rows (get_or places k 0) p edge) (sym items) h)))
    ]

pub returns-clause-sections : goal.returns-clause-sections
returns-clause-sections c =
    let s = c.args.self.now in
    all_sections s.figure.now (point_at s.node.now) s.rows.now s.places.now c.requires.near c.loop-place.place-index
    (let same = ap length c.as_slice-place-items.ensures.items in omega (arith, same, c.loop-place-test.false)) c.loop-place.sections
    c.loop-place.invariant

pub returns-clause-short : goal.returns-clause-short
returns-clause-short c = c.loop-place.invariant.short
