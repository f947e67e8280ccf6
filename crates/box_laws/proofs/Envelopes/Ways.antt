-- What holds of all positions of some ways holds of both ends of each of their edges.
use Rattle.std.proofs.Common.{◌≡◌, Bool, true, false, List, [], ◌∷◌, ◌++◌, ap, refl, sym, ◌∙◌}
use Rattle.std.specs.List.{AllByRecursion}
use Rattle.std.proofs.lemmas.Bool.{or_left, or_right}
use Rattle.std.proofs.lemmas.List.{append_assoc}
use Rattle.plane_exact.specs.Places.{point_of}
use Rattle.plane_exact.specs.declared.point.Pt.{Pt}
use Rattle.plane_exact.specs.declared.point.Seg.{Seg}
use Rattle.point_set.specs.Lines.{is_at, is_at_some}
use Rattle.point_set.specs.Location.{edges_of_rings}
use Rattle.point_set.specs.Rings.{is_same_position, edge_before, edges_after, edges_of}
use Rattle.point_set.specs.Nodes.{positions_of_ways}
use Rattle.plane_laws.proofs.Points.Same.{same_refl, Decides-is_same_point}
use Rattle.kind_laws.proofs.Location.EdgeRays.{all_split, all_joined}

-- it holds of both ends
abbrev pub BothEnds : (Pt → Type 0) → Seg → Type 0
BothEnds P e = P e.a × P e.b

-- one edge more, or none where its ends are equal
both_before :
    (P : Pt → Type 0) (b : Bool) (p q : Pt) (edges : List Seg) → P p → P q → AllByRecursion (BothEnds P) edges
    → AllByRecursion (BothEnds P) (edge_before b p q edges)
both_before P true p q edges h k all = all
both_before P false p q edges h k all = ((h, k), all)

-- the edges of a way that goes on from p
both_after :
    (P : Pt → Type 0) (p : Pt) (others : List Pt) → P p → AllByRecursion P others → AllByRecursion (BothEnds P) (edges_after p others)
both_after P p [] h all = tt
both_after P p (q ∷ others) h all =
    both_before P (is_same_position p q) p q (edges_after q others) h all.0 (both_after P q others all.0 all.1)

-- the edges of one way
pub both_of_way : (P : Pt → Type 0) (way : List Pt) → AllByRecursion P way → AllByRecursion (BothEnds P) (edges_of way)
both_of_way P [] all = tt
both_of_way P (p ∷ others) all = both_after P p others all.0 all.1

-- the edges of several ways
pub both_of_ways :
    (P : Pt → Type 0) (ways : List (List Pt)) → AllByRecursion P (positions_of_ways ways)
    → AllByRecursion (BothEnds P) (edges_of_rings ways)
both_of_ways P [] all = tt
both_of_ways P (way ∷ ways) all =
    let both = all_split P way (positions_of_ways ways) all in
    all_joined (BothEnds P) (edges_of way) (edges_of_rings ways) (both_of_way P way both.0) (both_of_ways P ways both.1)

-- positions of ways in two lists
pub positions_append : (xs ys : List (List Pt)) → positions_of_ways (xs ++ ys) ≡ positions_of_ways xs ++ positions_of_ways ys
positions_append [] ys = refl
positions_append (x ∷ xs) ys =
    ap (λ rest. x ++ rest) (positions_append xs ys) ∙ sym (append_assoc x (positions_of_ways xs) (positions_of_ways ys))

-- a position is at itself
pub at_itself : (p : Pt) → is_at (point_of p) p ≡ true
at_itself p = (Decides-is_same_point (point_of p) (point_of p)).1 (same_refl (point_of p))

-- what holds of each position that a point of a list is at holds of all
pub all_by_points :
    (P : Pt → Type 0) (positions : List Pt) → ((p : Pt) → is_at_some (point_of p) positions ≡ true → P p) → AllByRecursion P positions
all_by_points P [] each = tt
all_by_points P (p ∷ positions) each = (
  each p (or_left (is_at (point_of p) p) (is_at_some (point_of p) positions) (at_itself p)),
  all_by_points P positions (λ q h. each q (or_right (is_at (point_of q) p) (is_at_some (point_of q) positions) h)),
)
