-- Each sample at a node is seen at a few node in at least the same dimension; so the matrix of the samples at the few nodes is that of the
-- samples at all nodes.
use Rattle.std.proofs.Common.{◌≡◌, ◌≤◌, ◌⊎◌, inl, inr, sym, subst, arith}
use Rattle.im_matrix.specs.Cells.{cell, rank, dimension_at, start_dimension}
use Rattle.im_matrix.specs.declared.Cell.{Cell}
use Rattle.im_matrix.specs.declared.Dim.{Dim}
use Rattle.im_matrix.specs.declared.Dim.TheVariants.{Empty, Zero, One, Two}
use Rattle.im_matrix.specs.declared.Loc.{Loc}
use Rattle.im_matrix.specs.declared.Loc.TheVariants.{Interior, Exterior}
use Rattle.im_matrix.specs.declared.Matrix.{Matrix}
use Rattle.plane_laws.specs.Plane.{Point}
use Rattle.point_set.specs.declared.figure.Figure.{Figure}
use Rattle.point_set.specs.declared.rule.Rule.{Rule}
use Rattle.point_set.specs.Nodes.{IsNode, IsFewNode, IsCrossing, segs_of, position, crossing, between}
use Rattle.point_set.specs.Samples.{IsSampleAt, IsSample, IsSeenOnEdge, IsSeenInSector, IsMatrixOfSamples, IsSampleMatrix}
use Rattle.point_set.specs.Visible.{AreValid}
use Rattle.cell_laws.proofs.Cells.Matrix.{same_rank}
use Rattle.cell_laws.proofs.Samples.Decided.{Decided}
use Rattle.few_laws.specs.Few.{IsSeenAtFew, LawFew, LawLeftOut}
use Rattle.few_laws.proofs.LeftOut.Edges.{IsLeftOut, left_out_of}
use Rattle.few_laws.proofs.LeftOut.Samples.{HasParts, parts_here, parts_on_edge, parts_in_sector}
use Rattle.few_laws.proofs.Nodes.Crossings.{crossing_split, few_is_node}
use Rattle.few_laws.proofs.Nodes.Decided.{few_decided}
use Rattle.few_laws.proofs.Seen.Beside.{seen_beside}
use Rattle.few_laws.proofs.Seen.Nearest.{HasNearestFew, nearest_few, seen_along}
use Rattle.figure_laws.proofs.Valid.Pairs.{valid_turned}
use Rattle.few_laws.proofs.Seen.Turned.{few_turned, turned, sample_turned, seen_turned}

-- ---- at a node that the edges of the first figure leave out
-- a cell is its two parts
cell_of : (c : Cell) (part : Loc) → c.a ≡ part → cell part c.b ≡ c
cell_of c part e = λ i. cell (sym e i) c.b

module _ (a b : Figure) (valid : AreValid a b) (rule : Rule) (v : Point) (o : IsLeftOut a b v) where
  -- the nearest few node
  near : HasNearestFew a b v o
  near = nearest_few a b v o

  -- what is at the node or along an edge is seen along an edge there
  by_edge : (c : Cell) (d : Dim) → rank d ≤ rank One → HasParts b rule v c Interior → IsSeenAtFew a b rule c d
  by_edge c d low parts = record {
    at_least = One;
    rises = low;
    sample = record {
      v = near.u;
      is_node = near.is;
      sample =
          subst (IsSeenOnEdge a b rule near.u) (cell_of c Interior parts.first) (seen_along a b v o near valid rule c.b parts.second);
    };
  }

  -- what is in a sector is seen in a sector there
  by_sector : (c : Cell) → HasParts b rule v c Exterior → IsSeenAtFew a b rule c Two
  by_sector c parts = record {
    at_least = Two;
    rises = omega arith;
    sample = record {
      v = near.u;
      is_node = near.is;
      sample =
          subst (IsSeenInSector a b rule near.u) (cell_of c Exterior parts.first) (seen_beside a b valid rule v o near c.b parts.second);
    };
  }

  -- so each sample is
  left_out_seen : (c : Cell) (d : Dim) → IsSampleAt a b rule v c d → IsSeenAtFew a b rule c d
  left_out_seen c Empty s = absurd s
  left_out_seen c Zero s = by_edge c Zero (omega arith) (parts_here a b valid.b_shaped rule v o c s)
  left_out_seen c One s = by_edge c One (omega arith) (parts_on_edge a b valid.b_shaped rule v o c s)
  left_out_seen c Two s = by_sector c (parts_in_sector a b valid.b_shaped rule v o c s)

module _ (a b : Figure) (valid : AreValid a b) (rule : Rule) where
  -- ---- at each node
  -- a node that isn't one of the few is where two edges of one figure cross
  by_edges :
      (v : Point) (c : Cell) (d : Dim) → IsSampleAt a b rule v c d → ¬ IsFewNode a b v
      → IsCrossing (segs_of a) (segs_of b) v ⊎ (IsCrossing (segs_of a) (segs_of a) v ⊎ IsCrossing (segs_of b) (segs_of b) v)
      → IsSeenAtFew a b rule c d
  by_edges v c d s not_few (inl x) = absurd (not_few (between x))
  by_edges v c d s not_few (inr (inl x)) = left_out_seen a b valid rule v (left_out_of a b v not_few x) c d s
  by_edges v c d s not_few (inr (inr x)) =
      seen_turned b a (valid_turned valid) rule (turned c) d
      (left_out_seen b a (valid_turned valid) rule v (left_out_of b a v (λ few. not_few (few_turned b a v few)) x) (turned c) d
      (sample_turned a b valid rule v c d s))

  -- the law: by whether the node is one of the few
  pub left_out : LawLeftOut a b rule
  left_out v node c d s = by_few node (few_decided a b v)
    where
      by_few : IsNode a b v → Decided (IsFewNode a b v) → IsSeenAtFew a b rule c d
      by_few node (inl few) = record { at_least = d; rises = omega arith; sample = record { v = v; is_node = few; sample = s } }
      by_few (position at) (inr not_few) = absurd (not_few (position at))
      by_few (crossing x) (inr not_few) = by_edges v c d s not_few (crossing_split (segs_of a) (segs_of b) v x)

  -- ---- the matrix
  -- a sample at a few node is one at a node
  sample_wider : (c : Cell) (d : Dim) → IsSample (IsFewNode a b) a b rule c d → IsSample (IsNode a b) a b rule c d
  sample_wider c d s = record { v = s.v; is_node = few_is_node s.is_node; sample = s.sample }

  -- what a node shows a few node shows, in at least that dimension; so the matrix of the few is that of all
  to_all : (m : Matrix) → IsMatrixOfSamples (IsFewNode a b) a b rule m → IsSampleMatrix a b rule m
  to_all m is c = record { one = λ some. one ((is c).one some); most = most }
    where
      one :
          (dimension_at m c ≡ start_dimension c) ⊎ IsSample (IsFewNode a b) a b rule c (dimension_at m c)
          → (dimension_at m c ≡ start_dimension c) ⊎ IsSample (IsNode a b) a b rule c (dimension_at m c)
      one (inl e) = inl e
      one (inr s) = inr (sample_wider c (dimension_at m c) s)

      most : (e : Dim) → (e ≡ start_dimension c) ⊎ IsSample (IsNode a b) a b rule c e → rank e ≤ rank (dimension_at m c)
      most e (inl k) = (is c).most e (inl k)
      most e (inr s) =
          let seen = left_out s.v s.is_node c e s.sample in
          let up = seen.rises in
          let top = (is c).most seen.at_least (inr seen.sample) in
          omega (arith, up, top)

  -- and the greatest that a node shows is seen at a few node; so the matrix of all is that of the few
  to_few : (m : Matrix) → IsSampleMatrix a b rule m → IsMatrixOfSamples (IsFewNode a b) a b rule m
  to_few m is c = record { one = λ some. one ((is c).one some); most = most }
    where
      one :
          (dimension_at m c ≡ start_dimension c) ⊎ IsSample (IsNode a b) a b rule c (dimension_at m c)
          → (dimension_at m c ≡ start_dimension c) ⊎ IsSample (IsFewNode a b) a b rule c (dimension_at m c)
      one (inl e) = inl e
      one (inr s) =
          let seen = left_out s.v s.is_node c (dimension_at m c) s.sample in
          let top = (is c).most seen.at_least (inr (sample_wider c seen.at_least seen.sample)) in
          inr (subst (IsSample (IsFewNode a b) a b rule c) (same_rank seen.at_least (dimension_at m c) top seen.rises) seen.sample)

      most : (e : Dim) → (e ≡ start_dimension c) ⊎ IsSample (IsFewNode a b) a b rule c e → rank e ≤ rank (dimension_at m c)
      most e (inl k) = (is c).most e (inl k)
      most e (inr s) = (is c).most e (inr (sample_wider c e s))

  -- the law
  pub law_few_holds : LawFew a b rule
  law_few_holds m = (to_all m, to_few m)
