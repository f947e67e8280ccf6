-- A sample is said of the point, and not of the triple that stands for it.
use Rattle.std.proofs.Common.{◌≡◌, ◌⊎◌, inl, inr, suc, true, List, sym, ◌∙◌, arith}
use Rattle.im_matrix.specs.declared.Cell.{Cell}
use Rattle.im_matrix.specs.declared.Dim.{Dim}
use Rattle.im_matrix.specs.declared.Dim.TheVariants.{Empty, Zero, One, Two}
use Rattle.plane_laws.specs.Plane.{Point, IsSamePoint}
use Rattle.plane_laws.specs.Directions.{Direction}
use Rattle.plane_laws.specs.Along.{IsInCone, HoldsAlong}
use Rattle.plane_exact.specs.Orders.{direction_of}
use Rattle.plane_exact.specs.Places.{point_of}
use Rattle.plane_exact.specs.declared.point.Seg.{Seg}
use Rattle.point_set.specs.declared.figure.Figure.{Figure}
use Rattle.point_set.specs.declared.rule.Rule.{Rule}
use Rattle.point_set.specs.Germ.{IsPairGerm}
use Rattle.point_set.specs.Nodes.{segs_of_both, RunsFrom}
use Rattle.point_set.specs.Relation.{IsInCell}
use Rattle.point_set.specs.Rings.{is_on_edge}
use Rattle.point_set.specs.Samples.{IsSampleAt}
use Rattle.point_set.specs.Visible.{AreValid}
use Rattle.plane_laws.proofs.Near.Away.{away_point, away_point_is}
use Rattle.plane_laws.proofs.Points.Same.{same_sym}
use Rattle.plane_laws.proofs.Segments.Mixes.{start_on_segment, end_on_segment}
use Rattle.figure_laws.proofs.Points.Same.{is_on_edge-same, IsLocation-same}
use Rattle.ring_laws.proofs.Germs.Areas.{edge_along}
use Rattle.ring_laws.proofs.Germs.Edges.{on_true, Decides-is_toward}
use Rattle.side_laws.proofs.Edges.Strip.{away_same}
use Rattle.germ_laws.proofs.Room.Germs.{away_cone}
use Rattle.cell_laws.proofs.Directions.Exist.{run_at}
use Rattle.cell_laws.proofs.Directions.Middles.{middle_in_sector, sector_free}
use Rattle.cell_laws.proofs.Samples.Seen.{run_to, seen_in_sector, seen_on_edge}

-- a pair germ at v is one at w
germ_same :
    (a b : Figure) (rule : Rule) (v w : Point) (d : Direction) (c : Cell) → IsSamePoint v w → IsPairGerm a b rule v d c
    → IsPairGerm a b rule w d c
germ_same a b rule v w d c same g = record { from = g.from; holds = λ n far p away. g.holds n far p (away_same (same_sym same) away) }

-- an edge that runs from v along d holds the points v + d/n
pub run_along :
    (v : Point) (d : Direction) (f : Seg) → is_on_edge v f ≡ true → IsInCone v d d (point_of f.a) ⊎ IsInCone v d d (point_of f.b)
    → HoldsAlong (λ p. is_on_edge p f ≡ true) v d
run_along v d f on (inl c) =
    edge_along v d f on (point_of f.a) (start_on_segment (point_of f.a) (point_of f.b)) ((Decides-is_toward v d (point_of f.a)).1 c)
run_along v d f on (inr c) =
    edge_along v d f on (point_of f.b) (end_on_segment (point_of f.a) (point_of f.b)) ((Decides-is_toward v d (point_of f.b)).1 c)

-- so it runs from w along d
run_same : (edges : List Seg) (v w : Point) (d : Direction) → IsSamePoint v w → RunsFrom v edges d → RunsFrom w edges d
run_same edges v w d same r =
    let along = run_along v d r.edge r.holds r.leads in
    let p = away_point w d along.from in
    let away = away_point_is w d along.from in
    run_to w p d edges r.place r.edge r.edge_is (on_true (sym (is_on_edge-same same r.edge) ∙ r.holds))
    (on_true (along.holds (suc along.from) (omega arith) p (away_same (same_sym same) away))) (away_cone (omega arith) away)

-- a sample at v is one at w
pub sample_same :
    (a b : Figure) → AreValid a b → (rule : Rule) (v w : Point) → IsSamePoint v w → (c : Cell) (d : Dim) → IsSampleAt a b rule v c d
    → IsSampleAt a b rule w c d
sample_same a b valid rule v w same c Empty h = h
sample_same a b valid rule v w same c Zero h =
    let held : IsInCell a b rule c v = h in
    record { in_a = IsLocation-same same a rule held.in_a; in_b = IsLocation-same same b rule held.in_b }
sample_same a b valid rule v w same c One h =
    let run = run_at v (segs_of_both a b) h.rays h.rays_are h.i h.ray h.ray_is in
    seen_on_edge a b valid rule w (direction_of h.ray) (run_same (segs_of_both a b) v w (direction_of h.ray) same run) c
    (germ_same a b rule v w (direction_of h.ray) c same h.germ)
sample_same a b valid rule v w same c Two h =
    let within = middle_in_sector h.rays h.i h.middle h.middle_is in
    seen_in_sector a b valid rule w h.middle
    (λ run. sector_free v (segs_of_both a b) h.rays h.rays_are.rays_at h.i h.middle within
    (run_same (segs_of_both a b) w v h.middle (same_sym same) run)) c (germ_same a b rule v w h.middle c same h.germ)
