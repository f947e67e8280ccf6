-- No sample in a sector has a boundary part; so no matrix of samples is Two in every cell.
use Rattle.std.proofs.Common.{◌≡◌, ◌⊎◌, inl, inr, ℕ, suc, ◌+◌, false, ◌||◌, List, [], ◌∷◌, ap, refl, sym, ◌∙◌, subst, arith}
use Rattle.im_matrix.specs.Cells.{cell, dimension_at, start_dimension}
use Rattle.im_matrix.specs.declared.Cell.{Cell}
use Rattle.im_matrix.specs.declared.Dim.TheVariants.{Empty, Two}
use Rattle.im_matrix.specs.declared.Loc.TheVariants.{Boundary}
use Rattle.im_matrix.specs.declared.Matrix.{Matrix}
use Rattle.plane_laws.specs.Plane.{Point}
use Rattle.plane_laws.proofs.Near.Away.{away_point, away_point_is}
use Rattle.plane_laws.proofs.Segments.Mixes.{start_on_segment}
use Rattle.plane_exact.specs.declared.point.Pt.{Pt}
use Rattle.point_set.specs.declared.dim_loc.DimLoc.{DimLoc}
use Rattle.point_set.specs.declared.dim_loc.DimLoc.TheVariants as kind
use Rattle.point_set.specs.declared.figure.Figure.{Figure}
use Rattle.point_set.specs.declared.rule.Rule.{Rule}
use Rattle.point_set.specs.Lines.{is_on_lines}
use Rattle.point_set.specs.Location.{edges_of_rings, IsKind, IsLocation, part_of}
use Rattle.point_set.specs.Nodes.{rings_of_areas, segs_of}
use Rattle.point_set.specs.Rings.{edges_of, is_on_edge, is_on_edges}
use Rattle.point_set.specs.Samples.{IsSample, IsSeenInSector, IsMatrixOfSamples}
use Rattle.point_set.specs.Shape.{IsWellShaped}
use Rattle.figure_laws.proofs.Edges.Lists.{segs_are, none_append}
use Rattle.stay_laws.proofs.Stays.OffEdges.{interior_off_edges}
use Rattle.cell_laws.proofs.Free.Nodes.{IsFree}
use Rattle.cell_laws.proofs.Free.Ways.{HasFreeWay, free_in_sector}
use Rattle.topo_pred.proofs.Laws.{everywhere}

-- ---- off the edges
-- a point on no edge of lines is on no line
off_lines : (p : Point) (lines : List (List Pt)) → is_on_edges p (edges_of_rings lines) ≡ false → is_on_lines p lines ≡ false
off_lines p [] off = refl
off_lines p (line ∷ lines) off =
    let both = none_append (is_on_edge p) (edges_of line) (edges_of_rings lines) off in
    ap (λ t. t || is_on_lines p lines) both.0 ∙ off_lines p lines both.1

-- a point on no edge of a figure isn't in its boundary
off_boundary :
    (f : Figure) → IsWellShaped f → (rule : Rule) (p : Point) → is_on_edges p (segs_of f) ≡ false → ¬ IsLocation f rule p Boundary
off_boundary f shaped rule p off at = by_kind at.decided_by at.decides at.gives
  where
    on_none : is_on_lines p f.lines ≡ false
    on_none =
        off_lines p f.lines
        (none_append (is_on_edge p) (edges_of_rings f.lines) (edges_of_rings (rings_of_areas f.areas))
        (sym (ap (is_on_edges p) (segs_are f)) ∙ off)).0

    by_kind : (k : DimLoc) → IsKind f rule p k → part_of k ≡ Boundary → ⊥
    by_kind kind.AreaInterior is e = cc
    by_kind kind.AreaBoundary is e = is.1 (interior_off_edges f shaped p off is.0)
    by_kind kind.LineBoundary is e = let both = sym on_none ∙ is.1 in cc
    by_kind kind.LineInterior is e = cc
    by_kind kind.PointInterior is e = cc
    by_kind kind.Exterior is e = cc

-- ---- in a sector
module _ (a b : Figure) (shaped : IsWellShaped a) (rule : Rule) where
  -- a near point along its middle is off all edges
  no_boundary : (v : Point) (c : Cell) → IsSeenInSector a b rule v c → ¬ (c.a ≡ Boundary)
  no_boundary v c s e =
      off_boundary a shaped rule p (none_append (is_on_edge p) (segs_of a) (segs_of b) here.off).0
      (subst (IsLocation a rule p) e (s.germ.holds (suc n) (omega arith) p (away_point_is v s.middle n)).in_a)
    where
      way : HasFreeWay a b v s.middle s.middle
      way = free_in_sector s

      n : ℕ
      n = s.germ.from + way.from

      p : Point
      p = away_point v s.middle n

      here : IsFree a b p
      here =
          way.free (suc n) (suc n) (omega arith) (omega arith) p p (away_point_is v s.middle n) (away_point_is v s.middle n) p
          (start_on_segment p p)

  -- so the cell of the two boundaries is never Two
  pub not_everywhere : (Nodes : Point → Type 0) (m : Matrix) → IsMatrixOfSamples Nodes a b rule m → ¬ (m ≡ everywhere)
  not_everywhere Nodes m is e = by_one ((is (cell Boundary Boundary)).one (λ none. apart (sym two ∙ none)))
    where
      two : dimension_at m (cell Boundary Boundary) ≡ Two
      two = ap (λ (n : Matrix). dimension_at n (cell Boundary Boundary)) e

      apart : Two ≡ Empty → ⊥
      apart k = cc

      by_one :
          (dimension_at m (cell Boundary Boundary) ≡ start_dimension (cell Boundary Boundary))
          ⊎ IsSample Nodes a b rule (cell Boundary Boundary) (dimension_at m (cell Boundary Boundary)) → ⊥
      by_one (inl k) = apart (sym two ∙ k)
      by_one (inr s) =
          let t = subst (λ d. IsSample Nodes a b rule (cell Boundary Boundary) d) two s in
          no_boundary t.v (cell Boundary Boundary) t.sample refl
