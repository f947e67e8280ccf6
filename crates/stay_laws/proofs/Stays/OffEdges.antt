-- Along a segment that meets no edge and no position of two figures, the pair of a point's locations stays. No validity is needed.
use Rattle.std.proofs.Common.{◌≡◌, ℕ, zero, suc, Bool, true, false, ◌||◌, List, [], ◌∷◌, ◌++◌, ap, refl, sym, ◌∙◌, subst}
use Rattle.im_matrix.specs.declared.Loc.{Loc}
use Rattle.plane_laws.proofs.Segments.Mixes.{start_on_segment, end_on_segment}
use Rattle.plane_laws.specs.Plane.{Point, IsOnSegment}
use Rattle.point_set.specs.declared.dim_loc.DimLoc.{DimLoc}
use Rattle.point_set.specs.declared.figure.Area.{Area}
use Rattle.point_set.specs.declared.figure.Figure.{Figure}
use Rattle.point_set.specs.declared.rule.Rule.{Rule}
use Rattle.point_set.specs.Lines.{is_at, is_at_some}
use Rattle.point_set.specs.Location.{location, is_not_exterior, is_covered, is_covered_by, IsAreaInterior, IsKind, IsLocation}
use Rattle.point_set.specs.Location.{edges_of_rings, rings_of}
use Rattle.point_set.specs.Rings.{is_on_edge, is_on_edges}
use Rattle.point_set.specs.Shape.{IsWellShaped}
use Rattle.point_set.specs.Validity.{IsAtPlace}
use Rattle.figure_laws.proofs.Points.Kinds.{interior_is_covered}
use Rattle.figure_laws.proofs.Lists.Places.{some_same}
use Rattle.side_laws.proofs.Areas.Hands.{area_shaped}
use Rattle.germ_laws.proofs.Sectors.Closed.{settled}
use Rattle.kind_laws.proofs.Cover.Neighbourhood.{interior_from_around}
use Rattle.kind_laws.proofs.Cover.Sectors.{covered_at}
use Rattle.point_set.specs.Nodes.{rings_of_areas, all_positions, segs_of, IsNode, position}
use Rattle.point_set.specs.Visible.{PairStays}
use Rattle.figure_laws.proofs.Edges.Lists.{segs_are, rings_append, none_append}
use Rattle.stay_laws.proofs.Even.Even.{alike_off, IsEvenBetween, even_cover, even_kind}

-- ---- an area that covers
-- one of the areas isn't exterior at a point
pub record HasCoverAt (areas : List Area) (p : Point) : Type 0 where
  pub k : ℕ
  pub area : Area
  pub is : IsAtPlace areas k area
  pub covers : is_not_exterior (location area p) ≡ true

-- where the union covers, one of the areas does
pub cover_at : (areas : List Area) (p : Point) → is_covered_by p areas ≡ true → HasCoverAt areas p
cover_at [] p h = cc
cover_at (area ∷ areas) p h = by_test (is_not_exterior (location area p)) refl h (cover_at areas p)
  where
    later : HasCoverAt areas p → HasCoverAt (area ∷ areas) p
    later c = record { k = suc c.k; area = c.area; is = c.is; covers = c.covers }

    by_test :
        (b : Bool) → is_not_exterior (location area p) ≡ b → b || is_covered_by p areas ≡ true
        → (is_covered_by p areas ≡ true → HasCoverAt areas p) → HasCoverAt (area ∷ areas) p
    by_test true e k rest = record { k = 0; area = area; is = refl; covers = e }
    by_test false e k rest = later (rest k)

-- ---- off the edges, covered is interior
-- a point on no edge of the areas is on no edge of one of them
area_off :
    (p : Point) (areas : List Area) → is_on_edges p (edges_of_rings (rings_of_areas areas)) ≡ false → (k : ℕ) (area : Area)
    → IsAtPlace areas k area → is_on_edges p (edges_of_rings (rings_of area)) ≡ false
area_off p [] h k area is = cc
area_off p (first ∷ areas) h zero area is =
    subst (λ (a : Area). is_on_edges p (edges_of_rings (rings_of a)) ≡ false) (some_same is)
    (none_append (is_on_edge p) (edges_of_rings (rings_of first)) (edges_of_rings (rings_of_areas areas))
    (sym (ap (is_on_edges p) (rings_append (rings_of first) (rings_of_areas areas))) ∙ h)).0
area_off p (first ∷ areas) h (suc k) area is =
    area_off p areas
    (none_append (is_on_edge p) (edges_of_rings (rings_of first)) (edges_of_rings (rings_of_areas areas))
    (sym (ap (is_on_edges p) (rings_append (rings_of first) (rings_of_areas areas))) ∙ h)).1
    k area is

-- a point that is on no edge of the figure and covered is interior to the union
pub interior_off_edges :
    (f : Figure) → IsWellShaped f → (p : Point) → is_on_edges p (segs_of f) ≡ false → is_covered f p ≡ true → IsAreaInterior f p
interior_off_edges f shaped p off on =
    interior_from_around f shaped p (record {
      here = on;
      along = λ d.
          let s = settled c.area (area_shaped f shaped c.k c.area c.is) p free d in
          record {
            from = s.from;
            holds = λ n far q away. covered_at f.areas c.k c.area c.is q
                (ap is_not_exterior (s.holds n far q away) ∙ c.covers);
          };
    })
  where
    c : HasCoverAt f.areas p
    c = cover_at f.areas p on

    free : is_on_edges p (edges_of_rings (rings_of c.area)) ≡ false
    free =
        let split = none_append (is_on_edge p) (edges_of_rings f.lines) (edges_of_rings (rings_of_areas f.areas))
        (sym (ap (is_on_edges p) (segs_are f)) ∙ off) in
        area_off p f.areas split.1 c.k c.area c.is

-- ---- one figure
-- no edge and no position of the figure is met from p to q
pub record IsBareBetween (f : Figure) (p q : Point) : Type 0 where
  pub off : (m : Point) → IsOnSegment p q m → is_on_edges m (segs_of f) ≡ false
  pub lone : (m : Point) → IsOnSegment p q m → is_at_some m (all_positions f) ≡ false

-- a bare segment is an even one
bare_is_even : (f : Figure) (p q : Point) → IsBareBetween f p q → IsEvenBetween f p q
bare_is_even f p q bare = record {
  alike = λ m on. alike_off p m (segs_of f) (bare.off p (start_on_segment p q)) (bare.off m on);
  lone = bare.lone;
}

-- along a bare segment the kind stays
pub kind_stays :
    (f : Figure) → IsWellShaped f → (rule : Rule) (p q : Point) → IsBareBetween f p q → (k : DimLoc) → IsKind f rule p k → IsKind f rule q k
kind_stays f shaped rule p q bare =
    let even = bare_is_even f p q bare in
    let cover = even_cover f shaped p q even in
    even_kind f shaped p q even
    (λ inside. interior_off_edges f shaped q (bare.off q (end_on_segment p q)) (sym cover ∙ interior_is_covered inside))
    (λ inside. interior_off_edges f shaped p (bare.off p (start_on_segment p q)) (cover ∙ interior_is_covered inside))
    rule

-- where kinds stay, locations do
pub part_of_kinds :
    (f : Figure) (rule : Rule) (p q : Point) → ((k : DimLoc) → IsKind f rule p k → IsKind f rule q k) → (part : Loc)
    → IsLocation f rule p part → IsLocation f rule q part
part_of_kinds f rule p q stays part is = record { decided_by = is.decided_by; decides = stays is.decided_by is.decides; gives = is.gives }

-- ---- two figures
-- where no point is a node there is no position of either figure
pub no_position :
    (a b : Figure) (m : Point) → ¬ IsNode a b m → (is_at_some m (all_positions a) ≡ false) × (is_at_some m (all_positions b) ≡ false)
no_position a b m free = by_test (is_at_some m (all_positions a ++ all_positions b)) refl
  where
    by_test :
        (t : Bool) → is_at_some m (all_positions a ++ all_positions b) ≡ t
        → (is_at_some m (all_positions a) ≡ false) × (is_at_some m (all_positions b) ≡ false)
    by_test true h = absurd (free (position h))
    by_test false h = none_append (is_at m) (all_positions a) (all_positions b) h

-- the pair of locations stays
pub pair_stays : (a b : Figure) → IsWellShaped a → IsWellShaped b → (rule : Rule) → PairStays a b rule
pair_stays a b a_shaped b_shaped rule p q bare c in_cell = record {
  in_a =
      part_of_kinds a rule p q (kind_stays a a_shaped rule p q
      (record { off = λ m on. (off m on).0; lone = λ m on. (no_position a b m (bare m on).1).0 })) c.a in_cell.in_a;
  in_b =
      part_of_kinds b rule p q (kind_stays b b_shaped rule p q
      (record { off = λ m on. (off m on).1; lone = λ m on. (no_position a b m (bare m on).1).1 })) c.b in_cell.in_b;
}
  where
    off : (m : Point) → IsOnSegment p q m → (is_on_edges m (segs_of a) ≡ false) × (is_on_edges m (segs_of b) ≡ false)
    off m on = none_append (is_on_edge m) (segs_of a) (segs_of b) (bare m on).0
