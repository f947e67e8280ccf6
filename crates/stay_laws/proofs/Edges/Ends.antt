-- The ends of every edge of a figure are positions of it; so a point at no position is at no end.
use Rattle.std.proofs.Common.{◌≡◌, ℕ, Bool, true, false, ◌||◌, List, [], ◌∷◌, ◌++◌, refl, sym, ◌∙◌, subst}
use Rattle.std.specs.List.{list_any, AllByRecursion}
use Rattle.std.proofs.lemmas.Bool.{true≢false, or_left, or_right}
use Rattle.plane_laws.proofs.Points.Same.{same_refl, Decides-is_same_point}
use Rattle.plane_laws.specs.Plane.{Point, IsSamePoint}
use Rattle.plane_exact.specs.Places.{point_of}
use Rattle.plane_exact.specs.declared.point.Pt.{Pt}
use Rattle.plane_exact.specs.declared.point.Seg.{Seg}
use Rattle.point_set.specs.declared.figure.Area.{Area}
use Rattle.point_set.specs.declared.figure.Figure.{Figure}
use Rattle.point_set.specs.Lines.{is_at, is_at_some}
use Rattle.point_set.specs.Location.{edges_of_rings, rings_of}
use Rattle.point_set.specs.Rings.{is_same_position, edge_before, edges_after, edges_of}
use Rattle.point_set.specs.Validity.{IsAtPlace}
use Rattle.figure_laws.proofs.Points.Same.{is_at_some-same}
use Rattle.point_set.specs.Nodes.{positions_of_ways, rings_of_areas, all_positions, segs_of}
use Rattle.figure_laws.proofs.Edges.Lists.{segs_are}
use Rattle.kind_laws.proofs.Location.EdgeRays.{all_split, all_joined, all_map, all_area}

-- both ends of an edge are among the positions
pub record HasEndsIn (positions : List Pt) (e : Seg) : Type 0 where
  pub first : is_at_some (point_of e.a) positions ≡ true
  pub second : is_at_some (point_of e.b) positions ≡ true

-- what is at one of some positions is at one of others
abbrev AreWithin : List Pt → List Pt → Type 0
AreWithin xs ys = (m : Point) → is_at_some m xs ≡ true → is_at_some m ys ≡ true

-- a test that an item of the first list, or of the second, meets
some_left : {X : Type 0} (test : X → Bool) (xs ys : List X) → list_any test xs ≡ true → list_any test (xs ++ ys) ≡ true
some_left test [] ys h = absurd (true≢false (sym h))
some_left test (x ∷ xs) ys h = go (test x) h (some_left test xs ys)
  where
    go :
        (b : Bool) → b || list_any test xs ≡ true → (list_any test xs ≡ true → list_any test (xs ++ ys) ≡ true)
        → b || list_any test (xs ++ ys) ≡ true
    go true h rest = refl
    go false h rest = rest h

-- an item of the second list that meets a test is one of both lists
some_right : {X : Type 0} (test : X → Bool) (xs ys : List X) → list_any test ys ≡ true → list_any test (xs ++ ys) ≡ true
some_right test [] ys h = h
some_right test (x ∷ xs) ys h = or_right (test x) (list_any test (xs ++ ys)) (some_right test xs ys h)

-- a position is at itself
at_itself : (p : Pt) → is_at (point_of p) p ≡ true
at_itself p = (Decides-is_same_point (point_of p) (point_of p)).1 (same_refl (point_of p))

-- one edge more, or none where its ends are equal
ends_before :
    (positions : List Pt) (b : Bool) (p q : Pt) (edges : List Seg) → HasEndsIn positions (record { a = p; b = q })
    → AllByRecursion (HasEndsIn positions) edges → AllByRecursion (HasEndsIn positions) (edge_before b p q edges)
ends_before positions true p q edges ends all = all
ends_before positions false p q edges ends all = (ends, all)

-- the ends of the edges of a way that goes on from p
ends_after :
    (positions : List Pt) (p : Pt) (others : List Pt) → AreWithin (p ∷ others) positions
    → AllByRecursion (HasEndsIn positions) (edges_after p others)
ends_after positions p [] within = tt
ends_after positions p (q ∷ others) within =
    let rest : AreWithin (q ∷ others) positions = λ m h. within m (or_right (is_at m p) (is_at_some m (q ∷ others)) h) in
    ends_before positions (is_same_position p q) p q (edges_after q others)
    (record {
      first = within (point_of p) (or_left (is_at (point_of p) p) (is_at_some (point_of p) (q ∷ others)) (at_itself p));
      second = rest (point_of q) (or_left (is_at (point_of q) q) (is_at_some (point_of q) others) (at_itself q));
    })
    (ends_after positions q others rest)

-- the ends of the edges of one way
ends_of_way : (positions way : List Pt) → AreWithin way positions → AllByRecursion (HasEndsIn positions) (edges_of way)
ends_of_way positions [] within = tt
ends_of_way positions (p ∷ others) within = ends_after positions p others within

-- the ends of the edges of several ways
ends_of_ways :
    (positions : List Pt) (ways : List (List Pt)) → AreWithin (positions_of_ways ways) positions
    → AllByRecursion (HasEndsIn positions) (edges_of_rings ways)
ends_of_ways positions [] within = tt
ends_of_ways positions (way ∷ ways) within =
    all_joined (HasEndsIn positions) (edges_of way) (edges_of_rings ways)
    (ends_of_way positions way (λ m h. within m (some_left (is_at m) way (positions_of_ways ways) h)))
    (ends_of_ways positions ways (λ m h. within m (some_right (is_at m) way (positions_of_ways ways) h)))

-- of a figure
pub ends_in : (f : Figure) → AllByRecursion (HasEndsIn (all_positions f)) (segs_of f)
ends_in f =
    let lines = positions_of_ways f.lines in
    let rings = positions_of_ways (rings_of_areas f.areas) in
    subst (λ edges. AllByRecursion (HasEndsIn (all_positions f)) edges) (sym (segs_are f))
    (all_joined (HasEndsIn (all_positions f)) (edges_of_rings f.lines) (edges_of_rings (rings_of_areas f.areas))
    (ends_of_ways (all_positions f) f.lines (λ m h. some_right (is_at m) f.points (lines ++ rings) (some_left (is_at m) lines rings h)))
    (ends_of_ways (all_positions f) (rings_of_areas f.areas)
    (λ m h. some_right (is_at m) f.points (lines ++ rings) (some_right (is_at m) lines rings h))))

-- what is among some positions is among more
ends_in_more :
    (positions more : List Pt) → AreWithin positions more → (edges : List Seg) → AllByRecursion (HasEndsIn positions) edges
    → AllByRecursion (HasEndsIn more) edges
ends_in_more positions more within = all_map (HasEndsIn positions) (HasEndsIn more)
    (λ e h. record { first = within (point_of e.a) h.first; second = within (point_of e.b) h.second })

-- of two figures
pub ends_in_both : (a b : Figure) → AllByRecursion (HasEndsIn (all_positions a ++ all_positions b)) (segs_of a ++ segs_of b)
ends_in_both a b =
    let positions = all_positions a ++ all_positions b in
    all_joined (HasEndsIn positions) (segs_of a) (segs_of b)
    (ends_in_more (all_positions a) positions (λ m. some_left (is_at m) (all_positions a) (all_positions b)) (segs_of a) (ends_in a))
    (ends_in_more (all_positions b) positions (λ m. some_right (is_at m) (all_positions a) (all_positions b)) (segs_of b) (ends_in b))

-- of one of its areas
pub ends_in_area :
    (f : Figure) (k : ℕ) (area : Area) → IsAtPlace f.areas k area
    → AllByRecursion (HasEndsIn (all_positions f)) (edges_of_rings (rings_of area))
ends_in_area f k area is =
    all_area (HasEndsIn (all_positions f)) f.areas
    (all_split (HasEndsIn (all_positions f)) (edges_of_rings f.lines) (edges_of_rings (rings_of_areas f.areas))
    (subst (λ edges. AllByRecursion (HasEndsIn (all_positions f)) edges) (segs_are f) (ends_in f))).1
    k area is

-- a point at no position isn't where one is
pub not_at : (positions : List Pt) (x m : Point) → is_at_some x positions ≡ true → is_at_some m positions ≡ false → ¬ IsSamePoint x m
not_at positions x m on off alike = true≢false (sym on ∙ is_at_some-same alike positions ∙ off)
