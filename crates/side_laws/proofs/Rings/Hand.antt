-- The inside of a ring lies on one hand of all its edges.
use Rattle.std.proofs.Common.{◌≡◌, ℕ, zero, suc, Bool, true, false, List, [], ◌∷◌, ap, refl, sym, ◌∙◌, subst, arith}
use Rattle.std.specs.Prelude.{slice_get}
use Rattle.plane_exact.specs.Places.{point_of}
use Rattle.plane_exact.specs.declared.point.Pt.{Pt}
use Rattle.plane_exact.specs.declared.point.Seg.{Seg}
use Rattle.point_set.specs.declared.edge.Hand.{Hand}
use Rattle.point_set.specs.declared.edge.Hand.TheVariants as hand
use Rattle.point_set.specs.Rings.{edges_of}
use Rattle.point_set.specs.Shape.{IsClosed}
use Rattle.point_set.specs.Validity.{IsAtPlace, CrossesItself}
use Rattle.point_set.specs.Sides.{IsInsideHand}
use Rattle.figure_laws.proofs.Lists.Places.{some_same}
use Rattle.plane_laws.proofs.Near.Away.{away_point}
use Rattle.side_laws.proofs.Edges.Places.{IsSimple, ring_is_simple}
use Rattle.side_laws.proofs.Edges.Beside.{beside_at}
use Rattle.side_laws.proofs.Rings.Joint.{IsBesideAll, beside_all, to_next_edge, way, near_start}

-- an edge that has one after it is there
record HasEdge (edges : List Seg) (i : ℕ) : Type 0 where
  e : Seg
  is : IsAtPlace edges i e

earlier_edge : (edges : List Seg) (i : ℕ) (f : Seg) → IsAtPlace edges (suc i) f → HasEdge edges i
earlier_edge [] i f is = cc
earlier_edge (e ∷ edges) zero f is = record { e = e; is = refl }
earlier_edge (e ∷ edges) (suc i) f is = let h = earlier_edge edges i f is in record { e = h.e; is = h.is }

-- what holds beside one edge holds beside the first, and what holds beside the first holds beside each
pub all_from_first : (ring : List Pt) → IsClosed ring → IsSimple (edges_of ring) → (left : Bool)
    → ((e : Seg) → IsAtPlace (edges_of ring) 0 e → IsBesideAll ring e left) → (i : ℕ) (e : Seg) → IsAtPlace (edges_of ring) i e
    → IsBesideAll ring e left
all_from_first ring closed simple left first zero e is = first e is
all_from_first ring closed simple left first (suc i) e is =
    let before = earlier_edge (edges_of ring) i e is in
    to_next_edge ring closed simple i before.e e before.is is left (all_from_first ring closed simple left first i before.e before.is)

-- the hand on which the inside lies, where b says whether that is the left
abbrev pub hand_by : Bool → Hand
hand_by true = hand.Left
hand_by false = hand.Right

not_line : (b : Bool) → ¬ (hand_by b ≡ hand.Line)
not_line true e = cc
not_line false e = cc

pub inside_hand : (ring : List Pt) (left : Bool) → ((i : ℕ) (e : Seg) → IsAtPlace (edges_of ring) i e → IsBesideAll ring e left)
    → IsInsideHand ring (hand_by left)
inside_hand ring true all = record {
  sided = not_line true;
  inside = λ i e is p between d to. ((all i e is).at p between).along true d to;
  outside = λ i e is p between d to. ((all i e is).at p between).along false d to;
}
inside_hand ring false all = record {
  sided = not_line false;
  inside = λ i e is p between d to. ((all i e is).at p between).along false d to;
  outside = λ i e is p between d to. ((all i e is).at p between).along true d to;
}

-- some hand is that of the inside
record HasInsideHand (ring : List Pt) : Type 0 where
  pub side : Hand
  pub is : IsInsideHand ring side

first_side : (ring : List Pt) → IsClosed ring → IsSimple (edges_of ring) → (edges : List Seg) → edges_of ring ≡ edges → HasInsideHand ring
first_side ring closed simple [] none = record {
  side = hand.Left;
  is = inside_hand ring true (λ i e is. no_edge i e (subst (λ es. IsAtPlace es i e) none is));
}
  where
    no_edge : (i : ℕ) (e : Seg) → IsAtPlace [] i e → IsBesideAll ring e true
    no_edge i e is = cc
first_side ring closed simple (e ∷ edges) some =
    let is : IsAtPlace (edges_of ring) 0 e = ap (λ es. slice_get es 0) some in
    let apart = simple.moving 0 e is in
    let between = near_start e.a e.b apart 1 (omega arith) in
    let v = away_point (point_of e.a) (way e.a e.b apart) 1 in
    let has = beside_at ring closed simple 0 e is v between in
    record {
      side = hand_by has.left;
      is = inside_hand ring has.left (all_from_first ring closed simple has.left
          (λ f is_f. subst (λ g. IsBesideAll ring g has.left) (some_same (sym is ∙ is_f))
          (beside_all ring closed simple 0 e is v between has.left has.beside)));
    }

pub some_inside_hand : (ring : List Pt) → IsClosed ring → ¬ CrossesItself ring → (side : Hand) × IsInsideHand ring side
some_inside_hand ring closed uncrossed =
    let has = first_side ring closed (ring_is_simple ring closed uncrossed) (edges_of ring) refl in
    (has.side, has.is)
