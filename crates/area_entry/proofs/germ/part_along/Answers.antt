use Rattle.std.proofs.Common.{◌≡◌, true, false, List, sym, subst}
use Rattle.im_matrix.specs.declared.Loc.TheVariants.{Interior, Exterior}
use Rattle.plane_exact.specs.NodePoints.{point_at}
use Rattle.plane_exact.specs.Orders.{direction_of}
use Rattle.point_set.specs.declared.figure.Area.{Area}
use Rattle.point_set.specs.Germ.{IsGerm}
use Rattle.point_set.specs.Rings.{is_on_edges}
use Rattle.fan_order.specs.declared.section.Section.{Section}
use Rattle.fan_order.specs.Rays.{AreRaysOf}
use Rattle.valid_laws.specs.Entering.{edges_in, IsClean}
use Rattle.area_entry.specs.Entries.{IsFree}
use Rattle.area_entry.specs.Grounds.{AreRowsOf}
use Rattle.area_entry.specs.RowSections.{AreSectionsOfRows}
use Rattle.area_entry.proofs.AreaFans.{part_by_hands}
use Rattle.area_entry.proofs.germ.part_along.Goals as goal
use Rattle.area_entry.proofs.germ.part_along.Goals.{After-is_inside}

-- what the test of the sector says
by_test :
    (c : After-is_inside) (area : Area) → IsClean area → AreRowsOf area c.args.rows.now
    → is_on_edges (point_at c.args.n.now) (edges_in area) ≡ true → IsFree area (point_at c.args.n.now) (direction_of c.args.d)
    → (c.is_inside.result ≡ true → IsGerm area (point_at c.args.n.now) (direction_of c.args.d) Interior)
    × (c.is_inside.result ≡ false → IsGerm area (point_at c.args.n.now) (direction_of c.args.d) Exterior)
by_test c area clean are_rows on free =
    let fan = c.in_ok-fan.fan in
    let same = sym c.in_ok-fan.ensures.sections in
    part_by_hands area clean c.args.rows.now are_rows c.requires.one_area (point_at c.args.n.now) fan.sections
    (subst (λ (xs : List Section). AreSectionsOfRows (point_at c.args.n.now) c.args.rows.now xs) same c.in_ok-sections.ensures.sections)
    fan.rays (subst (λ (xs : List Section). AreRaysOf xs fan.rays) same c.in_ok-fan.ensures.rays) on c.args.d free
    c.sector_of-sector.result c.sector_of-sector.ensures.sector c.is_inside.result c.is_inside.ensures.inside

pub returns-then-is_inside : goal.returns-then-is_inside
returns-then-is_inside c =
    let test = by_test (goal.at.returns-then-is_inside c).After-is_inside in
    record { germ = λ area clean are_rows on free. (test area clean are_rows on free).0 c.if-is_inside.true }

pub returns : goal.returns
returns c =
    let test = by_test (goal.at.returns c).After-is_inside in
    record { germ = λ area clean are_rows on free. (test area clean are_rows on free).1 c.if-is_inside.false }
