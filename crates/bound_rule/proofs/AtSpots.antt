-- The spots of a figure: the positions of its points, and of its lines whose positions are all equal.
use Rattle.std.proofs.Common.{◌≡◌, ◌+◌, ◌<◌, ◌≤◌, ◌∙◌, ℕ, Bool, true, false, ◌&&◌, ◌||◌, List, [], ◌∷◌, length, drop, get_or, refl, sym, ap}
use Rattle.std.proofs.Common.{Ordering, Less, Equal}
use Rattle.std.specs.BTreeMap.{is_at as is_key}
use Rattle.std.specs.BTreeSet.{insert_key}
use Rattle.std.specs.List.{list_any, list_all}
use Rattle.std.specs.Ordering.{match_ordering}
use Rattle.std.specs.declared.cmp.Ordering.TheVariants.{Greater}
use Rattle.std.proofs.Math.Bool.{or_assoc, or_comm, or-false}
use Rattle.std.proofs.lemmas.Bool.{false_from_ne_true, and_parts}
use Rattle.std.proofs.lemmas.List.{at_drop_more, at_drop_all}
use Rattle.plane_laws.specs.Plane.{Point}
use Rattle.plane_laws.proofs.Points.Same.{Decides-is_same_point}
use Rattle.plane_exact.proofs.Laws.{node_at_position}
use Rattle.plane_exact.specs.NodePoints.{point_at}
use Rattle.plane_exact.specs.Places.{point_of}
use Rattle.plane_exact.specs.declared.node.Node.{Node}
use Rattle.plane_exact.specs.declared.point.Pt.{Pt}
use Rattle.point_set.specs.declared.figure.Figure.{Figure}
use Rattle.point_set.specs.Lines.{is_at, is_at_some, is_still, is_at_still_line}
use Rattle.point_set.specs.Location.{is_at_point}
use Rattle.point_set.specs.Rings.{is_same_position}
use Rattle.figure_laws.proofs.Lists.Places.{same_position}
use Rattle.figure_laws.proofs.Points.Same.{list_any_alike}
use Rattle.bound_rule.specs.Positions.{compare_positions}
use Rattle.bound_rule.proofs.Counted.{same_positions, is_at-position}

-- ---- a set of positions
-- with one position more a point is at one of them where it was, or at the new one
pub one_spot_more : (spots : List Pt) (new : Pt) (p : Point)
    → is_at_some p (insert_key compare_positions spots new) ≡ (is_at_some p spots || is_at p new)
one_spot_more [] new p = or-false (is_at p new)
one_spot_more (q ∷ spots) new p = by_order (one_spot_more spots new p) (compare_positions new q) refl
  where
    -- what is said already is nothing new
    said : (b c : Bool) → (b || c) ≡ ((b || c) || b)
    said true c = refl
    said false c = sym (or-false c)

    by_order :
        is_at_some p (insert_key compare_positions spots new) ≡ (is_at_some p spots || is_at p new) → (o : Ordering)
        → compare_positions new q ≡ o
        → is_at_some p (match_ordering o (new ∷ q ∷ spots) (q ∷ spots) (q ∷ insert_key compare_positions spots new))
        ≡ (is_at_some p (q ∷ spots) || is_at p new)
    by_order rest Less h = or_comm (is_at p new) (is_at_some p (q ∷ spots))
    by_order rest Equal h =
        said (is_at p q) (is_at_some p spots)
        ∙ ap (λ (z : Pt). is_at_some p (q ∷ spots) || is_at p z) (sym (same_positions new q h))
    by_order rest Greater h =
        ap (λ (b : Bool). is_at p q || b) rest ∙ sym (or_assoc (is_at p q) (is_at_some p spots) (is_at p new))

-- a position is one of the keys exactly where its point is at one of the spots
pub key_spot : (p : Pt) (spots : List Pt) → list_any (is_key (compare_positions p)) spots ≡ is_at_some (point_of p) spots
key_spot p spots =
    list_any_alike (is_key (compare_positions p)) (is_at (point_of p)) (λ q. sym (is_at-position p q)) spots

-- a node that is no position is at none
pub no_spot : (n : Node) → ((p : Pt) → ¬ (point_at n ≡ point_of p)) → (spots : List Pt) → is_at_some (point_at n) spots ≡ false
no_spot n no_position [] = refl
no_spot n no_position (q ∷ spots) =
    ap (λ (b : Bool). b || is_at_some (point_at n) spots)
    (false_from_ne_true (is_at (point_at n) q)
    (λ h. no_position q (node_at_position n q ((Decides-is_same_point (point_at n) (point_of q)).0 h))))
    ∙ no_spot n no_position spots

-- ---- one line
-- where all positions are the first, a point is at one of them where it is at the first
at_the_first : (p : Point) (first : Pt) (others : List Pt) → list_all (is_same_position first) others ≡ true
    → is_at_some p (first ∷ others) ≡ is_at p first
at_the_first p first [] all = or-false (is_at p first)
at_the_first p first (q ∷ others) all =
    let parts = and_parts (is_same_position first q) (list_all (is_same_position first) others) all in
    ap (λ (z : Pt). is_at p first || (is_at p z || is_at_some p others)) (sym (same_position first q parts.0))
    ∙ twice (is_at p first) (is_at_some p others) ∙ at_the_first p first others parts.1
  where
    twice : (b c : Bool) → (b || (b || c)) ≡ (b || c)
    twice true c = refl
    twice false c = refl

-- a still line is at its first position
pub still_line : (first : Pt) (others : List Pt) → list_all (is_same_position first) others ≡ true → (p : Point)
    → (is_still (first ∷ others) && is_at_some p (first ∷ others)) ≡ is_at p first
still_line first others all p = ap (λ (b : Bool). b && is_at_some p (first ∷ others)) all ∙ at_the_first p first others all

-- a line that moves is no spot
pub moving_line : (first : Pt) (others : List Pt) → list_all (is_same_position first) others ≡ false → (p : Point)
    → (is_still (first ∷ others) && is_at_some p (first ∷ others)) ≡ false
moving_line first others moves p = ap (λ (b : Bool). b && is_at_some p (first ∷ others)) moves

-- ---- one item after the other
-- a point is at one of the spots, or at one of the points from this one on, exactly where it is at one of the points
abbrev pub ArePointsSoFar : List Pt → ℕ → List Pt → Type 0
ArePointsSoFar points place spots = (p : Point) → (is_at_some p spots || is_at_some p (drop place points)) ≡ is_at_some p points

-- a point is at one of the spots, or at one of the still lines from this one on, exactly where it is at a spot of the figure
abbrev pub AreSpotsSoFar : Figure → ℕ → List Pt → Type 0
AreSpotsSoFar f place spots = (p : Point) → (is_at_some p spots || is_at_still_line p (drop place f.lines)) ≡ is_at_point f p

-- an item goes from those that are left to those that are done
one_item_more :
    {X : Type 0} (test : X → Bool) (items : List X) (place : ℕ) (item : X) (old new whole : Bool) → place < length items
    → item ≡ get_or items place item → (old || list_any test (drop place items)) ≡ whole → new ≡ (old || test item)
    → (new || list_any test (drop (place + 1) items)) ≡ whole
one_item_more test items place item old new whole below is so_far added =
    let rest : Bool = list_any test (drop (place + 1) items) in
    ap (λ (b : Bool). b || rest) added ∙ or_assoc old (test item) rest
    ∙ ap (λ x. old || (test x || rest)) is
    ∙ ap (λ (b : Bool). old || b) (sym (at_drop_more (list_any test) items place item below)) ∙ so_far

-- where none is left, all are done
all_items :
    {X : Type 0} (test : X → Bool) (items : List X) (place : ℕ) (done whole : Bool) → length items ≤ place
    → (done || list_any test (drop place items)) ≡ whole → done ≡ whole
all_items test items place done whole past so_far =
    sym (ap (λ (b : Bool). done || b) (at_drop_all (list_any test) items place past) ∙ or-false done) ∙ so_far

-- one point more
pub one_point_more :
    (points : List Pt) (place : ℕ) (point : Pt) (old new : List Pt) → place < length points → point ≡ get_or points place point
    → ArePointsSoFar points place old → ((p : Point) → is_at_some p new ≡ (is_at_some p old || is_at p point))
    → ArePointsSoFar points (place + 1) new
one_point_more points place point old new below is so_far added = λ p.
    one_item_more (is_at p) points place point (is_at_some p old) (is_at_some p new) (is_at_some p points) below is (so_far p) (added p)

-- at the end these are all points
pub all_points :
    (points : List Pt) (place : ℕ) (spots : List Pt) → length points ≤ place → ArePointsSoFar points place spots → (p : Point)
    → is_at_some p spots ≡ is_at_some p points
all_points points place spots past so_far p =
    all_items (is_at p) points place (is_at_some p spots) (is_at_some p points) past (so_far p)

-- one line more
pub one_still_more :
    (f : Figure) (place : ℕ) (line : List Pt) (old new : List Pt) → place < length f.lines → line ≡ get_or f.lines place line
    → AreSpotsSoFar f place old → ((p : Point) → is_at_some p new ≡ (is_at_some p old || (is_still line && is_at_some p line)))
    → AreSpotsSoFar f (place + 1) new
one_still_more f place line old new below is so_far added = λ p.
    one_item_more (λ (l : List Pt). is_still l && is_at_some p l) f.lines place line (is_at_some p old) (is_at_some p new)
    (is_at_point f p) below is (so_far p) (added p)

-- at the end these are all spots
pub all_spots :
    (f : Figure) (place : ℕ) (spots : List Pt) → length f.lines ≤ place → AreSpotsSoFar f place spots → (p : Point)
    → is_at_some p spots ≡ is_at_point f p
all_spots f place spots past so_far p =
    all_items (λ (l : List Pt). is_still l && is_at_some p l) f.lines place (is_at_some p spots) (is_at_point f p) past (so_far p)
