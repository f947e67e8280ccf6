-- What is known of each name.
use Rattle.std.proofs.Common.{◌≡◌, ◌∙◌, Bool, true, false, Some, refl, ap, arith}
use Rattle.std.proofs.Math.Bool.{not-not}
use Rattle.std.proofs.lemmas.Bool.Decides.{nat_tests}
use Rattle.std.specs.Prelude.{[], ◌∷◌, codes, ◌&&◌, ◌||◌, not, nat_lt}
use Rattle.std.specs.Bool.{then_some}
use Rattle.im_matrix.specs.declared.Loc.{Loc}
use Rattle.im_matrix.specs.declared.Loc.TheVariants.{Interior, Boundary, Exterior}
use Rattle.im_matrix.specs.declared.Dim.{Dim}
use Rattle.im_matrix.specs.declared.Dim.TheVariants.{Zero, One, Two}
use Rattle.im_matrix.specs.declared.Matrix.{Matrix}
use Rattle.im_matrix.specs.declared.names.Name.TheVariants.{Intersects, Disjoint, Contains, Within, Covers, CoveredBy, Touches, Crosses}
use Rattle.im_matrix.specs.declared.names.Name.TheVariants.{Overlaps, Equals, ContainsProperly}
use Rattle.im_matrix.specs.Cells.{cell, dimension_at, rank, greater}
use Rattle.im_matrix.specs.Common.{has, figures_meet, a_leaves_b, b_leaves_a}
use Rattle.im_matrix.specs.Names.{Rule, one_of, crosses_rule, name_value, rule_value}
use Rattle.topo_pred.specs.Later.{IsAtLeast, IsKnown}
use Rattle.im_matrix.proofs.Laws.{greater-least, rank-most}
use Rattle.topo_pred.proofs.Matrices.{everywhere, is_points, is_lines, is_present-greater_zero, rank-greater_zero, rank-greater_one}
use Rattle.topo_pred.proofs.Matrices.{rank-greater_one-two, itself, with_cells, with_cells-least}
use Rattle.topo_pred.proofs.KnownTests.{known_value, rising-rank, IsRising, rising-has, rising-or, rising-and, refuted_by, confirmed_by}
use Rattle.topo_pred.proofs.CellTests.{four_and_two, two_and_four, one_and_two, none_of_four, not_first, two_cells, three_cells}
use Rattle.topo_pred.proofs.CellTests.{none_of_two_and_two, one_and_four}

-- common points stay
rising-meet : IsRising figures_meet
rising-meet =
    rising-or (λ m. has m Interior Interior || has m Interior Boundary || has m Boundary Interior) (λ m. has m Boundary Boundary)
    (rising-or (λ m. has m Interior Interior || has m Interior Boundary) (λ m. has m Boundary Interior)
    (rising-or (λ m. has m Interior Interior) (λ m. has m Interior Boundary) (rising-has Interior Interior) (rising-has Interior Boundary))
    (rising-has Boundary Interior))
    (rising-has Boundary Boundary)

-- points of A outside B stay
rising-a_leaves_b : IsRising a_leaves_b
rising-a_leaves_b =
    rising-or (λ m. has m Interior Exterior) (λ m. has m Boundary Exterior) (rising-has Interior Exterior) (rising-has Boundary Exterior)

-- points of B outside A stay
rising-b_leaves_a : IsRising b_leaves_a
rising-b_leaves_a =
    rising-or (λ m. has m Exterior Interior) (λ m. has m Exterior Boundary) (rising-has Exterior Interior) (rising-has Exterior Boundary)

-- the matrix with an area common to both interiors
abbrev interiors_met : Matrix → Matrix
interiors_met m =
    with_cells m Two (dimension_at m (cell Interior Boundary)) (dimension_at m (cell Interior Exterior))
    (dimension_at m (cell Exterior Interior))

-- it is at least the matrix
interiors_met-least : (m : Matrix) → IsAtLeast (interiors_met m) m
interiors_met-least m =
    with_cells-least m Two (dimension_at m (cell Interior Boundary)) (dimension_at m (cell Interior Exterior))
    (dimension_at m (cell Exterior Interior)) (rank-most (dimension_at m (cell Interior Interior)))
    (omega arith) (omega arith) (omega arith)

-- a test that asks for common points, and for none of others, is false for good once one of the others is there: an area that
-- both interiors have in common brings the first and none of the others
refuted_by_points :
    (test p q : Matrix → Bool) (m : Matrix) → ((x : Matrix) → test x ≡ p x && not (q x)) → IsRising q → q everywhere ≡ true
    → p (interiors_met m) ≡ true → q (interiors_met m) ≡ q m → IsKnown test m (then_some (q m) false)
refuted_by_points test p q m means rising all met same =
    refuted_by test p q m (interiors_met m) means rising all (interiors_met-least m) met same

-- the matrix where A's interior meets B's boundary in an area
abbrev boundary_met : Matrix → Matrix
boundary_met m =
    with_cells m (dimension_at m (cell Interior Interior)) Two (dimension_at m (cell Interior Exterior))
    (dimension_at m (cell Exterior Interior))

-- it is at least the matrix
boundary_met-least : (m : Matrix) → IsAtLeast (boundary_met m) m
boundary_met-least m =
    with_cells-least m (dimension_at m (cell Interior Interior)) Two (dimension_at m (cell Interior Exterior))
    (dimension_at m (cell Exterior Interior)) (omega arith)
    (rank-most (dimension_at m (cell Interior Boundary))) (omega arith) (omega arith)

-- a test that asks for no such point is false for good once there is one
refuted_alone :
    (test q : Matrix → Bool) (m : Matrix) → ((x : Matrix) → test x ≡ not (q x)) → IsRising q → q everywhere ≡ true →
    IsKnown test m (then_some (q m) false)
refuted_alone test q m means rising all = refuted_by test (λ _. true) q m m means rising all (itself m) refl refl

-- a test that asks for an inner common point, and for none of two others, is false for good once one of the others is there
refuted_by_two :
    (test e f : Matrix → Bool) (m : Matrix) →
    ((x : Matrix) → test x ≡ (has x Interior Interior && (not (e x) && (not (f x) && true))) || false)
    → IsRising (λ x. e x || f x) → (e everywhere || f everywhere) ≡ true → (e (interiors_met m) || f (interiors_met m)) ≡ (e m || f m)
    → IsKnown test m (then_some (e m || f m) false)
refuted_by_two test e f m means rising all same =
    refuted_by_points test (λ x. has x Interior Interior) (λ x. e x || f x) m
    (λ x. means x ∙ one_and_two (has x Interior Interior) (e x) (f x))
    rising all refl same

-- Disjoint asks for no common point
disjoint-means : (a b : Dim) (x : Matrix) → name_value Disjoint a b x ≡ not (figures_meet x)
disjoint-means a b x = none_of_four (has x Interior Interior) (has x Interior Boundary) (has x Boundary Interior) (has x Boundary Boundary)

-- Disjoint is false for good once a point is common
pub disjoint-known : (a b : Dim) (m : Matrix) → IsKnown (name_value Disjoint a b) m (then_some (figures_meet m) false)
disjoint-known a b m = refuted_alone (name_value Disjoint a b) figures_meet m (disjoint-means a b) rising-meet refl

-- Intersects is true for good once a point is common
pub intersects-known : (a b : Dim) (m : Matrix) → IsKnown (name_value Intersects a b) m (then_some (figures_meet m) true)
intersects-known a b m =
    confirmed_by (name_value Intersects a b) figures_meet m (λ x. ap not (disjoint-means a b x) ∙ not-not (figures_meet x)) rising-meet refl

-- Covers asks for a common point, and for none of B outside A
covers-means : (a b : Dim) (x : Matrix) → name_value Covers a b x ≡ figures_meet x && not (b_leaves_a x)
covers-means a b x =
    four_and_two (has x Interior Interior) (has x Interior Boundary) (has x Boundary Interior) (has x Boundary Boundary)
    (has x Exterior Interior) (has x Exterior Boundary)

-- CoveredBy asks for a common point, and for none of A outside B
covered_by-means : (a b : Dim) (x : Matrix) → name_value CoveredBy a b x ≡ figures_meet x && not (a_leaves_b x)
covered_by-means a b x =
    two_and_four (has x Interior Interior) (has x Interior Boundary) (has x Boundary Interior) (has x Boundary Boundary)
    (has x Interior Exterior) (has x Boundary Exterior)

-- Covers is false for good once B leaves A
pub covers-known : (a b : Dim) (m : Matrix) → IsKnown (name_value Covers a b) m (then_some (b_leaves_a m) false)
covers-known a b m =
    refuted_by_points (name_value Covers a b) figures_meet b_leaves_a m (covers-means a b) rising-b_leaves_a refl refl refl

-- CoveredBy is false for good once A leaves B
pub covered_by-known : (a b : Dim) (m : Matrix) → IsKnown (name_value CoveredBy a b) m (then_some (a_leaves_b m) false)
covered_by-known a b m =
    refuted_by_points (name_value CoveredBy a b) figures_meet a_leaves_b m (covered_by-means a b) rising-a_leaves_b refl refl refl

-- Contains is false for good once B leaves A
pub contains-known : (a b : Dim) (m : Matrix) → IsKnown (name_value Contains a b) m (then_some (b_leaves_a m) false)
contains-known a b m =
    refuted_by_two (name_value Contains a b) (λ x. has x Exterior Interior) (λ x. has x Exterior Boundary) m (λ x. refl)
    rising-b_leaves_a refl refl

-- Within is false for good once A leaves B
pub within-known : (a b : Dim) (m : Matrix) → IsKnown (name_value Within a b) m (then_some (a_leaves_b m) false)
within-known a b m =
    refuted_by_two (name_value Within a b) (λ x. has x Interior Exterior) (λ x. has x Boundary Exterior) m (λ x. refl)
    rising-a_leaves_b refl refl

-- Equals is false for good once a figure leaves the other
pub equals-known : (a b : Dim) (m : Matrix) → IsKnown (name_value Equals a b) m (then_some (a_leaves_b m || b_leaves_a m) false)
equals-known a b m =
    refuted_alone (name_value Equals a b) (λ x. a_leaves_b x || b_leaves_a x) m
    (λ x. none_of_two_and_two (has x Interior Exterior) (has x Boundary Exterior) (has x Exterior Interior) (has x Exterior Boundary))
    (rising-or a_leaves_b b_leaves_a rising-a_leaves_b rising-b_leaves_a) refl

-- ContainsProperly is false for good once B leaves A's interior
pub contains_properly-known :
    (a b : Dim) (m : Matrix) →
    IsKnown (name_value ContainsProperly a b) m (then_some (has m Boundary Interior || has m Boundary Boundary || b_leaves_a m) false)
contains_properly-known a b m =
    refuted_by_points (name_value ContainsProperly a b) (λ x. has x Interior Interior)
    (λ x. has x Boundary Interior || has x Boundary Boundary || b_leaves_a x) m
    (λ x. one_and_four (has x Interior Interior) (has x Boundary Interior) (has x Boundary Boundary) (has x Exterior Interior)
    (has x Exterior Boundary))
    (rising-or (λ x. has x Boundary Interior || has x Boundary Boundary) b_leaves_a
    (rising-or (λ x. has x Boundary Interior) (λ x. has x Boundary Boundary) (rising-has Boundary Interior) (rising-has Boundary Boundary))
    rising-b_leaves_a)
    refl refl refl

-- Touches of two figures that aren't both points is false for good once the interiors meet
touches_rule-known :
    (m : Matrix) →
    IsKnown (rule_value (one_of (codes "FT*******" ∷ codes "F**T*****" ∷ codes "F***T****" ∷ []))) m
    (then_some (has m Interior Interior) false)
touches_rule-known m =
    refuted_by (rule_value (one_of (codes "FT*******" ∷ codes "F**T*****" ∷ codes "F***T****" ∷ [])))
    (λ x. has x Interior Boundary || has x Boundary Interior || has x Boundary Boundary) (λ x. has x Interior Interior) m (boundary_met m)
    (λ x. not_first (has x Interior Interior) (has x Interior Boundary) (has x Boundary Interior) (has x Boundary Boundary))
    (rising-has Interior Interior)
    refl
    (boundary_met-least m)
    refl
    refl

pub touches-known :
    (a b : Dim) (m : Matrix) → (a ≡ Zero → b ≡ Zero → ⊥) →
    IsKnown (name_value Touches a b) m (then_some (has m Interior Interior) false)
touches-known Zero Zero m h = absurd (h refl refl)
touches-known a b m h = touches_rule-known m

-- Touches of two points is false
pub touches-points : (m : Matrix) → IsKnown (name_value Touches Zero Zero) m (Some false)
touches-points m = known_value (name_value Touches Zero Zero) m false (λ later more. refl)

-- ---- the rules of Crosses, by the dimensions
crosses_rule-below : (a b : Dim) → nat_lt (rank a) (rank b) ≡ true → crosses_rule a b ≡ one_of (codes "T*T******" ∷ [])
crosses_rule-below a b h = grind (arith, nat_tests)

crosses_rule-above : (a b : Dim) → nat_lt (rank b) (rank a) ≡ true → crosses_rule a b ≡ one_of (codes "T*****T**" ∷ [])
crosses_rule-above a b h = grind (arith, nat_tests)

crosses_rule-level :
    (a b : Dim) → (a ≡ One → b ≡ One → ⊥) → nat_lt (rank a) (rank b) ≡ false → nat_lt (rank b) (rank a) ≡ false
    → crosses_rule a b ≡ one_of []
crosses_rule-level a b h k l = grind (arith, nat_tests)

-- Crosses is true for good once the interiors meet and another cell is there, where its rule asks for these two
crosses_two-known :
    (a b : Dim) (c d : Loc) (m : Matrix) →
    ((x : Matrix) → name_value Crosses a b x ≡ (has x Interior Interior && (has x c d && true)) || false)
    → has everywhere c d ≡ true → IsKnown (name_value Crosses a b) m (then_some (has m Interior Interior && has m c d) true)
crosses_two-known a b c d m means all =
    confirmed_by (name_value Crosses a b) (λ x. has x Interior Interior && has x c d) m
    (λ x. means x ∙ two_cells (has x Interior Interior) (has x c d))
    (rising-and (λ x. has x Interior Interior) (λ x. has x c d) (rising-has Interior Interior) (rising-has c d))
    all

-- Crosses of a lower figure is true for good once A's interior is in B's and outside B
pub crosses_below-known : (a b : Dim) (m : Matrix) → nat_lt (rank a) (rank b) ≡ true →
    IsKnown (name_value Crosses a b) m (then_some (has m Interior Interior && has m Interior Exterior) true)
crosses_below-known a b m h =
    crosses_two-known a b Interior Exterior m (λ x. ap (λ (r : Rule). rule_value r x) (crosses_rule-below a b h)) refl

-- Crosses of a higher figure is true for good once B's interior is in A's and outside A
pub crosses_above-known : (a b : Dim) (m : Matrix) → nat_lt (rank b) (rank a) ≡ true →
    IsKnown (name_value Crosses a b) m (then_some (has m Interior Interior && has m Exterior Interior) true)
crosses_above-known a b m h =
    crosses_two-known a b Exterior Interior m (λ x. ap (λ (r : Rule). rule_value r x) (crosses_rule-above a b h)) refl

-- Crosses of two figures of one dimension that aren't lines is false
pub crosses_level-known :
    (a b : Dim) (m : Matrix) → (a ≡ One → b ≡ One → ⊥) → nat_lt (rank a) (rank b) ≡ false → nat_lt (rank b) (rank a) ≡ false →
    IsKnown (name_value Crosses a b) m (Some false)
crosses_level-known a b m h k l =
    known_value (name_value Crosses a b) m false (λ later more. ap (λ (r : Rule). rule_value r later) (crosses_rule-level a b h k l))

-- Crosses of two lines is false for good once the interiors meet in more than points
pub crosses_lines-known :
    (m : Matrix) → IsKnown (name_value Crosses One One) m (then_some (nat_lt 1 (rank (dimension_at m (cell Interior Interior)))) false)
crosses_lines-known m =
    let d = (dimension_at m (cell Interior Interior)) in
    refuted_by (name_value Crosses One One) (λ x. has x Interior Interior)
    (λ x. nat_lt 1 (rank (dimension_at x (cell Interior Interior)))) m
    (with_cells m (greater d Zero) (dimension_at m (cell Interior Boundary)) (dimension_at m (cell Interior Exterior))
    (dimension_at m (cell Exterior Interior)))
    (λ x. is_points (dimension_at x (cell Interior Interior)))
    (rising-rank 1 Interior Interior)
    refl
    (with_cells-least m (greater d Zero) (dimension_at m (cell Interior Boundary)) (dimension_at m (cell Interior Exterior))
    (dimension_at m (cell Exterior Interior)) (greater-least d Zero) (omega arith) (omega arith) (omega arith))
    (is_present-greater_zero d)
    (rank-greater_zero d)

-- Overlaps of two points or two areas is true for good once each interior is in the other in part
overlaps_rule-known :
    (m : Matrix) →
    IsKnown (rule_value (one_of (codes "T*T***T**" ∷ []))) m
    (then_some (has m Interior Interior && has m Interior Exterior && has m Exterior Interior) true)
overlaps_rule-known m =
    confirmed_by (rule_value (one_of (codes "T*T***T**" ∷ [])))
    (λ x. has x Interior Interior && has x Interior Exterior && has x Exterior Interior) m
    (λ x. three_cells (has x Interior Interior) (has x Interior Exterior) (has x Exterior Interior))
    (rising-and (λ x. has x Interior Interior && has x Interior Exterior) (λ x. has x Exterior Interior)
    (rising-and (λ x. has x Interior Interior) (λ x. has x Interior Exterior) (rising-has Interior Interior) (rising-has Interior Exterior))
    (rising-has Exterior Interior))
    refl

pub overlaps_points-known :
    (m : Matrix) →
    IsKnown (name_value Overlaps Zero Zero) m
    (then_some (has m Interior Interior && has m Interior Exterior && has m Exterior Interior) true)
overlaps_points-known m = overlaps_rule-known m

pub overlaps_areas-known :
    (m : Matrix) →
    IsKnown (name_value Overlaps Two Two) m (then_some (has m Interior Interior && has m Interior Exterior && has m Exterior Interior) true)
overlaps_areas-known m = overlaps_rule-known m

-- Overlaps of two lines is false for good once the interiors meet in an area
pub overlaps_lines-known :
    (m : Matrix) → IsKnown (name_value Overlaps One One) m (then_some (nat_lt 2 (rank (dimension_at m (cell Interior Interior)))) false)
overlaps_lines-known m =
    let d = (dimension_at m (cell Interior Interior)) in
    refuted_by (name_value Overlaps One One)
    (λ x. nat_lt 1 (rank (dimension_at x (cell Interior Interior))) && has x Interior Exterior && has x Exterior Interior)
    (λ x. nat_lt 2 (rank (dimension_at x (cell Interior Interior)))) m
    (with_cells m (greater d One) (dimension_at m (cell Interior Boundary)) Two Two)
    (λ x. is_lines (dimension_at x (cell Interior Interior)) (has x Interior Exterior) (has x Exterior Interior))
    (rising-rank 2 Interior Interior)
    refl
    (with_cells-least m (greater d One) (dimension_at m (cell Interior Boundary)) Two Two (greater-least d One) (omega arith)
    (rank-most (dimension_at m (cell Interior Exterior))) (rank-most (dimension_at m (cell Exterior Interior))))
    (rank-greater_one d)
    (rank-greater_one-two d)

-- Overlaps of any other two figures is false
pub overlaps_none-known :
    (a b : Dim) (m : Matrix) → (a ≡ Zero → b ≡ Zero → ⊥) → (a ≡ One → b ≡ One → ⊥) → (a ≡ Two → b ≡ Two → ⊥) →
    IsKnown (name_value Overlaps a b) m (Some false)
overlaps_none-known Zero Zero m h k l = absurd (h refl refl)
overlaps_none-known One One m h k l = absurd (k refl refl)
overlaps_none-known Two Two m h k l = absurd (l refl refl)
overlaps_none-known a b m h k l = known_value (name_value Overlaps a b) m false (λ later more. refl)
