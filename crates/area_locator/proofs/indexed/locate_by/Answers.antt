use Rattle.std.proofs.Common.{◌≡◌, false, length, ap, sym, ◌∙◌, subst, subst₂, arith, rules}
use Rattle.std.specs.List.{All, slice_get}
use Rattle.plane_exact.specs.NodePoints.{point_at}
use Rattle.point_set.specs.Location.{location_by}
use Rattle.point_set.specs.Rings.{is_on_edges, is_odd}
use Rattle.area_locator.proofs.ByRows.{items_within, located}
use Rattle.area_locator.proofs.RowEdges.{hits_same, as_many}
use Rattle.area_locator.proofs.ValidLocation.{location_is}
use Rattle.area_locator.specs.Indexed.{IsEdge}
use Rattle.y_index.specs.Steps.{RisesWithin}
use Rattle.area_locator.proofs.indexed.locate_by.Goals as goal

pub stab-requires-clause-callable : goal.stab-requires-clause-callable
stab-requires-clause-callable g c = λ l k d below.
    let rows = g.T.Spans.rows c.args.rows.now in
    let within = items_within c.level_of-level.ensures.level c.args.segs.now rows c.requires.rows k d below in
    let edges : All IsEdge c.as_slice-edges.result.now = subst (All IsEdge) (sym c.as_slice-edges.ensures.items) c.requires.edges in
    (omega (arith, within, ap length c.as_slice-edges.ensures.items), (edges, c.level_of-level.ensures.level))

-- what the fold gives, by all edges
by_all_edges : (g : _) (c : goal.After-stab g) →
    c.stab.result ≡ location_by (is_on_edges (point_at c.args.n.now) c.args.segs.now) (is_odd (point_at c.args.n.now) c.args.segs.now) false
by_all_edges g c =
    located c.level_of-level.ensures.level c.args.segs.now (g.T.Spans.rows c.args.rows.now) c.requires.rows _
    (λ l i t step e is.
    let here = ap (λ list. slice_get list i) c.as_slice-edges.ensures.items ∙ is in
    search rules)
    c.stab.result c.stab.ensures.fold

pub returns-clause-parity : goal.returns-clause-parity
returns-clause-parity g c = by_all_edges g c

pub returns-clause-location : goal.returns-clause-location
returns-clause-location g c = λ area valid is.
    let p = point_at c.args.n.now in
    by_all_edges g c
    ∙ ap (λ edges. location_by (is_on_edges p edges) (is_odd p edges) false) (sym is)
    ∙ location_is area valid p

pub returns-clause-used : goal.returns-clause-used
returns-clause-used g c =
    let rows = g.T.Spans.rows c.args.rows.now in
    let p = point_at c.args.n.now in
    subst₂ (λ hits count. RisesWithin hits count (g.M.Meter.used c.args.meter.now) (g.M.Meter.used c.stab.new.meter))
    (hits_same c.args.segs.now rows c.requires.rows p) (as_many c.args.segs.now rows c.requires.rows) c.stab.ensures.used
