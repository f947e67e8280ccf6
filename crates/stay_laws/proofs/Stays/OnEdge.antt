-- Between two points of one edge with no node from the one to the other, the pair of a point's locations stays.
use Rattle.std.proofs.Common.{◌≡◌, Bool, true, false, List, [], ◌∷◌, ap, refl, sym, ◌∙◌, ℕ}
use Rattle.std.proofs.lemmas.Bool.Decides.{not_from_Decides}
use Rattle.plane_laws.proofs.Segments.Mixes.{end_on_segment, segment_flip}
use Rattle.plane_laws.proofs.Points.Same.{same_sym, Decides-is_same_point}
use Rattle.plane_laws.specs.Plane.{Point, IsSamePoint, is_same_point, IsOnSegment}
use Rattle.plane_exact.specs.declared.point.Seg.{Seg}
use Rattle.point_set.specs.declared.dim_loc.DimLoc.{DimLoc}
use Rattle.point_set.specs.declared.figure.Figure.{Figure}
use Rattle.point_set.specs.declared.rule.Rule.{Rule}
use Rattle.point_set.specs.Location.{is_not_exterior, IsAreaInterior, IsKind}
use Rattle.point_set.specs.Shape.{IsWellShaped}
use Rattle.point_set.specs.Validity.{IsValid, IsAtPlace, IsOnEdge}
use Rattle.figure_laws.proofs.Points.Kinds.{interior_is_covered}
use Rattle.figure_laws.proofs.Points.Same.{IsKind-same}
use Rattle.germ_laws.proofs.Room.Germs.{AreAllAlike}
use Rattle.kind_laws.proofs.Cover.Neighbourhood.{around_from_interior, interior_from_around}
use Rattle.kind_laws.proofs.Cover.Germs.{cover_of}
use Rattle.kind_laws.proofs.Cover.Sectors.{covered_at}
use Rattle.point_set.specs.Nodes.{segs_of, segs_of_both, IsNode}
use Rattle.point_set.specs.Visible.{AreValid}
use Rattle.stay_laws.proofs.Even.Even.{IsEvenBetween, even_cover, even_kind}
use Rattle.stay_laws.proofs.Edges.Stays.{even_on_edge}
use Rattle.stay_laws.proofs.Even.Germs.{germ_carried}
use Rattle.stay_laws.proofs.Stays.OffEdges.{part_of_kinds}
use Rattle.im_matrix.specs.declared.Cell.{Cell}
use Rattle.point_set.specs.Relation.{IsInCell}

-- ---- the way back
-- edges alike at p and two other points are alike at these
alike_turned : (p q m : Point) (edges : List Seg) → AreAllAlike p q edges → AreAllAlike p m edges → AreAllAlike q m edges
alike_turned p q m [] h k = tt
alike_turned p q m (e ∷ edges) h k = (sym h.0 ∙ k.0, alike_turned p q m edges h.1 k.1)

-- even from p to q is even from q to p
pub even_back : (f : Figure) (p q : Point) → IsEvenBetween f p q → IsEvenBetween f q p
even_back f p q even = record {
  alike = λ m on. alike_turned p q m (segs_of f) (even.alike q (end_on_segment p q)) (even.alike m (segment_flip on));
  lone = λ m on. even.lone m (segment_flip on);
}

-- ---- one figure
-- area interior is carried from p to q
pub interior_carried :
    (f : Figure) → IsWellShaped f → IsValid f → (p q : Point) → ¬ IsSamePoint p q → IsEvenBetween f p q → IsAreaInterior f p
    → IsAreaInterior f q
interior_carried f shaped valid p q apart even inside =
    interior_from_around f shaped q (record {
      here = sym (even_cover f shaped p q even) ∙ interior_is_covered inside;
      along = λ d.
          let c = cover_of f.areas shaped.areas p d ((around_from_interior f p inside).along d) in
          let g = germ_carried f shaped valid p q apart even c.place c.area c.is d c.germ c.germ_is in
          record {
            from = g.from;
            holds = λ n far m away. covered_at f.areas c.place c.area c.is m
                (ap is_not_exterior (g.holds n far m away) ∙ c.covers);
          };
    })

-- the kind of a point stays from p to q
pub kind_carried :
    (f : Figure) → IsWellShaped f → IsValid f → (rule : Rule) (p q : Point) → IsEvenBetween f p q → (k : DimLoc) → IsKind f rule p k
    → IsKind f rule q k
kind_carried f shaped valid rule p q even k is = by_test (is_same_point p q) refl
  where
    by_test : (s : Bool) → is_same_point p q ≡ s → IsKind f rule q k
    by_test true h = IsKind-same ((Decides-is_same_point p q).0 h) f rule k is
    by_test false h =
        let apart = not_from_Decides (is_same_point p q) (Decides-is_same_point p q) h in
        even_kind f shaped p q even
        (interior_carried f shaped valid p q apart even)
        (interior_carried f shaped valid q p (λ same. apart (same_sym same)) (even_back f p q even))
        rule k is

-- ---- along an edge
-- the way from p to q is even for each of the two figures
pub pair_stays_on_edge :
    (a b : Figure) → AreValid a b → (rule : Rule) (place : ℕ) (e : Seg) → IsAtPlace (segs_of_both a b) place e
    → (p q : Point) → IsOnEdge e p → IsOnEdge e q → ((m : Point) → IsOnSegment p q m → ¬ IsNode a b m)
    → (c : Cell) → IsInCell a b rule c p → IsInCell a b rule c q
pair_stays_on_edge a b valid rule place e e_is p q e_p e_q free c in_cell =
    let even = even_on_edge a b place e e_is p q e_p e_q free in
    record {
      in_a = part_of_kinds a rule p q (kind_carried a valid.a_shaped valid.a_valid rule p q even.0) c.a in_cell.in_a;
      in_b = part_of_kinds b rule p q (kind_carried b valid.b_shaped valid.b_valid rule p q even.1) c.b in_cell.in_b;
    }
