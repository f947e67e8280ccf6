-- Where a point lies in one figure, by the edges and positions of this figure alone: along a way that meets none of them its part stays;
-- in a figure without areas it is Interior on an edge, and Exterior off all edges, where there is no position.
use Rattle.std.proofs.Common.{◌≡◌, ℕ, true, false, [], ◌++◌, ap, refl, sym, ◌∙◌, subst}
use Rattle.std.proofs.lemmas.Bool.{true≢false, or_from, false_from_ne_true}
use Rattle.im_matrix.specs.Cells.{cell}
use Rattle.im_matrix.specs.declared.Loc.{Loc}
use Rattle.im_matrix.specs.declared.Loc.TheVariants.{Interior, Exterior}
use Rattle.plane_laws.specs.Plane.{Point, IsOnSegment}
use Rattle.plane_exact.specs.declared.point.Seg.{Seg}
use Rattle.point_set.specs.declared.dim_loc.DimLoc.TheVariants as kind
use Rattle.point_set.specs.declared.edge.Owner.{Owner}
use Rattle.point_set.specs.declared.edge.Owner.TheVariants.{Line, Ring}
use Rattle.point_set.specs.declared.figure.Area.{Area}
use Rattle.point_set.specs.declared.figure.Figure.{Figure}
use Rattle.point_set.specs.declared.rule.Rule.{Rule}
use Rattle.point_set.specs.declared.rule.Rule.TheVariants.{Mod2, Endpoint, Multivalent, Monovalent}
use Rattle.point_set.specs.Edges.{edges_of_figure}
use Rattle.point_set.specs.Lines.{is_at, is_at_some, is_at_still_line, is_boundary_count, ends_of_lines}
use Rattle.point_set.specs.Location.{is_on_line, is_line_boundary, is_at_point, IsLocation}
use Rattle.point_set.specs.Nodes.{IsNode, position, crossing, positions_of_ways, rings_of_areas, all_positions, segs_of, segs_of_both}
use Rattle.point_set.specs.Rings.{is_on_edge, is_on_edges}
use Rattle.point_set.specs.Shape.{IsWellShaped}
use Rattle.point_set.specs.Validity.{IsAtPlace, IsOnEdge}
use Rattle.figure_laws.proofs.Edges.Lines.{line_edge, on_line_by_edge}
use Rattle.figure_laws.proofs.Edges.Lists.{none_append, none_joined}
use Rattle.figure_laws.proofs.Edges.Owners.{edge_of_owner}
use Rattle.figure_laws.proofs.Points.Kinds.{uncovered_without_areas}
use Rattle.germ_laws.proofs.Rays.Ways.{IsSegOf, seg_of, place_of_seg}
use Rattle.ring_laws.proofs.Germs.Edges.{on_true}
use Rattle.stay_laws.proofs.Even.Even.{count_none, line_ends_none, still_none}
use Rattle.stay_laws.proofs.Even.Germs.{on_edges_at}
use Rattle.stay_laws.proofs.Stays.OffEdges.{pair_stays}
use Rattle.node_laws.proofs.Nodes.Edges.{edge_true}
use Rattle.cell_laws.proofs.Free.Nodes.{IsFree}

-- ---- one figure
-- off the edges and at no position of a figure a point is free of the figure with itself
pub free_alone : (f : Figure) (p : Point) → is_on_edges p (segs_of f) ≡ false → is_at_some p (all_positions f) ≡ false → IsFree f f p
free_alone f p off lone = record { off = off_both; lone = no_node }
  where
    off_both : is_on_edges p (segs_of_both f f) ≡ false
    off_both = none_joined (is_on_edge p) (segs_of f) (segs_of f) off off

    no_node : ¬ IsNode f f p
    no_node (position at) = true≢false (sym at ∙ none_joined (is_at p) (all_positions f) (all_positions f) lone lone)
    no_node (crossing c) = true≢false (sym (on_edges_at p (segs_of_both f f) c.i c.e c.e_is c.meet.on_e) ∙ off_both)

-- along a way of such points the part stays
pub part_stays :
    (f : Figure) → IsWellShaped f → (rule : Rule) (p q : Point) → ((m : Point) → IsOnSegment p q m → IsFree f f m) → (part : Loc)
    → IsLocation f rule p part → IsLocation f rule q part
part_stays f shaped rule p q free part is =
    (pair_stays f f shaped shaped rule p q (λ m on. let here = free m on in (here.off, here.lone)) (cell part part)
    (record { in_a = is; in_b = is })).in_a

-- ---- a figure without areas
module _ (f : Figure) (bare : f.areas ≡ []) (rule : Rule) (p : Point) (lone : is_at_some p (all_positions f) ≡ false) where
  -- at no position of a line
  lone_lines : is_at_some p (positions_of_ways f.lines) ≡ false
  lone_lines =
      let others = (none_append (is_at p) f.points (positions_of_ways f.lines ++ positions_of_ways (rings_of_areas f.areas)) lone).1 in
      (none_append (is_at p) (positions_of_ways f.lines) (positions_of_ways (rings_of_areas f.areas)) others).0

  -- no line ends at p, and no rule makes a boundary of that
  no_boundary : is_line_boundary f rule p ≡ false
  no_boundary = ap (is_boundary_count rule) (count_none p (ends_of_lines f.lines) (line_ends_none p f.lines lone_lines)) ∙ of_none rule
    where
      of_none : (rule : Rule) → is_boundary_count rule 0 ≡ false
      of_none Mod2 = refl
      of_none Endpoint = refl
      of_none Multivalent = refl
      of_none Monovalent = refl

  -- each edge is one of a line
  on_some_line : (place : ℕ) (e : Seg) → IsAtPlace (segs_of f) place e → IsOnEdge e p → is_on_line f p ≡ true
  on_some_line place e is on = by_owner s.edge.owner refl
    where
      s : IsSegOf (edges_of_figure f) place e
      s = seg_of (edges_of_figure f) place e is

      by_owner : (owner : Owner) → s.edge.owner ≡ owner → is_on_line f p ≡ true
      by_owner (Line k) own =
          on_line_by_edge f place k e p
          (subst (λ edge. IsAtPlace (edges_of_figure f) place edge) (λ i. record { seg = s.same i; owner = own i }) s.is)
          (edge_true e on)
      by_owner (Ring k r) own =
          let ring = edge_of_owner f (record { seg = e; owner = Ring k r }) (record {
            place = place;
            is = subst (λ edge. IsAtPlace (edges_of_figure f) place edge) (λ i. record { seg = s.same i; owner = own i }) s.is;
          }) in
          absurd (no_area ring.area (subst (λ areas. IsAtPlace areas k ring.area) bare ring.area_is))
        where
          no_area : (area : Area) → IsAtPlace [] k area → ⊥
          no_area area is = cc

  -- on an edge the part is Interior
  pub on_edge_inside : (place : ℕ) (e : Seg) → IsAtPlace (segs_of f) place e → IsOnEdge e p → IsLocation f rule p Interior
  on_edge_inside place e is on = record {
    decided_by = kind.LineInterior;
    decides = (uncovered_without_areas f p bare, on_some_line place e is on, no_boundary);
    gives = refl;
  }

  -- off the edges no line holds p
  off_lines : is_on_edges p (segs_of f) ≡ false → is_on_line f p ≡ false
  off_lines off =
      false_from_ne_true (is_on_line f p) (λ h.
      let k = line_edge f p h in
      let is = place_of_seg (edges_of_figure f) k.place (record { seg = k.e; owner = Line k.k }) k.is in
      true≢false (sym (on_edges_at p (segs_of f) k.place k.e is (on_true {p = p} {f = k.e} k.on)) ∙ off))

  -- so the part is Exterior
  pub off_edges_outside : is_on_edges p (segs_of f) ≡ false → IsLocation f rule p Exterior
  off_edges_outside off = record {
    decided_by = kind.Exterior;
    decides = (uncovered_without_areas f p bare, off_lines off, no_point);
    gives = refl;
  }
    where
      no_point : is_at_point f p ≡ false
      no_point =
          or_from (is_at_some p f.points) (is_at_still_line p f.lines)
          (none_append (is_at p) f.points (positions_of_ways f.lines ++ positions_of_ways (rings_of_areas f.areas)) lone).0
          (still_none p f.lines lone_lines)
