-- The figures of the samples are well shaped and valid.
use Rattle.std.proofs.Common.{◌≡◌, ◌+◌, ◌*◌, ◌<◌, ◌≤◌, ℕ, zero, suc, List, [], ◌∷◌, map, length, refl, ap, ◌∙◌, subst, get_or, arith}
use Rattle.std.specs.List.{All, range_with_len, sum_by}
use Rattle.std.proofs.lemmas.List.{length-map}
use Rattle.std.proofs.lemmas.List.Elements.{All-nil, All-cons, All-map}
use Rattle.std.proofs.lemmas.List.FromFn.{length-range_with_len, get_or-range_with_len, length-map-range_with_len}
use Rattle.std.proofs.lemmas.List.Sums.{sum_by-cons}
use Rattle.im_matrix.specs.declared.Which.{Which}
use Rattle.im_matrix.specs.declared.Which.TheVariants.{A, B}
use Rattle.plane_exact.specs.Places.{IsInLimit}
use Rattle.plane_exact.specs.declared.point.Pt.{Pt}
use Rattle.point_set.specs.declared.figure.Area.{Area}
use Rattle.point_set.specs.Shape.{IsLineShaped, IsAreaShaped, IsRingShaped, IsWellShaped, positions_of_area}
use Rattle.point_set.specs.Validity.{IsAtPlace, IsValid}
use Rattle.figure_laws.proofs.Lists.Places.{some_same}
use Rattle.sample_figures.specs.Samples.{IsSampleNumber, most_teeth, position_at, comb_ring, exchanged, rectangle_ring, area_inside}
use Rattle.sample_figures.specs.Samples.{figure_of_ring, square_at, squares_and_line, points_in_row, figures_of_sample}
use Rattle.sample_figures.proofs.BareAreas.{IsBare, HaveOwnGroups, bare_valid}
use Rattle.sample_figures.proofs.SoundRings.{IsSoundRing, within_at, comb_sound, exchanged_comb_sound, comb_short, rectangle_sound}

-- what holds of each number below n holds of all of them
each_below : (P : ℕ → Type 0) (n : ℕ) → ((i : ℕ) → i < n → P i) → All P (range_with_len 0 n)
each_below P n each k d within =
    let below : k < n = omega (arith, within, length-range_with_len 0 n) in
    let same : k ≡ get_or (range_with_len 0 n) k d = omega (arith, get_or-range_with_len 0 n k d below) in
    subst P same (each k below)

-- ---- one ring
-- the area inside a sound ring is well shaped
area_shaped : (ring : List Pt) (group : ℕ) → IsSoundRing ring → IsAreaShaped (area_inside ring group)
area_shaped ring group h = record { shell = h.shaped; holes = All-nil IsRingShaped }

-- it has no holes, and its shell is sound
area_bare : (ring : List Pt) (group : ℕ) → IsSoundRing ring → IsBare (area_inside ring group)
area_bare ring group h = record { no_holes = refl; enough = h.enough; simple = h.simple }

-- the figure of one sound ring is well shaped
ring_shaped : (ring : List Pt) → IsSoundRing ring → length ring ≤ 1000 → IsWellShaped (figure_of_ring ring)
ring_shaped ring h short = record {
  points = All-nil IsInLimit;
  lines = All-nil IsLineShaped;
  areas = All-cons IsAreaShaped (area_inside ring 0) [] (area_shaped ring 0 h) (All-nil IsAreaShaped);
  few = omega (arith, short);
}

-- and valid
ring_valid : (ring : List Pt) → IsSoundRing ring → IsValid (figure_of_ring ring)
ring_valid ring h = bare_valid (figure_of_ring ring) bare apart
  where
    bare : (place : ℕ) (area : Area) → IsAtPlace (area_inside ring 0 ∷ []) place area → IsBare area
    bare zero area is = subst IsBare (some_same is) (area_bare ring 0 h)
    bare (suc place) area is = cc

    apart : HaveOwnGroups (area_inside ring 0 ∷ [])
    apart zero before area other earlier is is' same = omega (arith, earlier)
    apart (suc place) before area other earlier is is' same = cc

-- ---- the squares and their line
-- the ring of each square is sound
square_sound : (i : ℕ) → i < most_teeth → IsSoundRing (rectangle_ring i (i + 1))
square_sound i few = rectangle_sound i (i + 1) (omega arith) (omega (arith, few))

-- each square has five positions
positions_of_squares : (a n : ℕ) → sum_by positions_of_area (map square_at (range_with_len a n)) ≡ 5 * n
positions_of_squares a zero = refl
positions_of_squares a (suc n) =
    let more : 5 + 5 * n ≡ 5 * suc n = omega arith in
    sum_by-cons positions_of_area (square_at a) (map square_at (range_with_len (a + 1) n))
    ∙ ap (λ (k : ℕ). 5 + k) (positions_of_squares (a + 1) n) ∙ more

-- the squares and their line are well shaped
squares_shaped : (n : ℕ) → n ≤ most_teeth → IsWellShaped (squares_and_line n)
squares_shaped n few = record {
  points = All-nil IsInLimit;
  lines = All-cons IsLineShaped (position_at 0 0 ∷ position_at (2 * n) 0 ∷ []) []
      (record {
        within = All-cons IsInLimit (position_at 0 0) (position_at (2 * n) 0 ∷ []) (within_at 0 0 (omega arith) (omega arith))
            (All-cons IsInLimit (position_at (2 * n) 0) [] (within_at (2 * n) 0 (omega (arith, few)) (omega arith)) (All-nil IsInLimit));
        long = omega arith;
      })
      (All-nil IsLineShaped);
  areas = All-map IsAreaShaped square_at (range_with_len 0 n)
      (each_below (λ i. IsAreaShaped (square_at i)) n
      (λ i below. area_shaped (rectangle_ring i (i + 1)) i (square_sound i (omega (arith, below, few)))));
  few = omega (arith, few, positions_of_squares 0 n);
}

-- the square at a place of the row
square_there : (a n place : ℕ) (area : Area) → IsAtPlace (map square_at (range_with_len a n)) place area
    → (square_at (a + place) ≡ area) × (place < n)
square_there a zero place area is = cc
square_there a (suc n) zero area is = (ap square_at (let e : a + 0 ≡ a = omega arith in e) ∙ some_same is, omega arith)
square_there a (suc n) (suc place) area is =
    let later = square_there (a + 1) n place area is in
    (ap square_at (let e : a + suc place ≡ a + 1 + place = omega arith in e) ∙ later.0, omega (arith, later.1))

-- they are valid
squares_valid : (n : ℕ) → n ≤ most_teeth → IsValid (squares_and_line n)
squares_valid n few = bare_valid (squares_and_line n) bare apart
  where
    bare : (place : ℕ) (area : Area) → IsAtPlace (map square_at (range_with_len 0 n)) place area → IsBare area
    bare place area is =
        let there = square_there 0 n place area is in
        let i = 0 + place in
        subst IsBare there.0 (area_bare (rectangle_ring i (i + 1)) i (square_sound i (omega (arith, there.1, few))))

    apart : HaveOwnGroups (map square_at (range_with_len 0 n))
    apart place before area other earlier is is' same =
        let group : 0 + place ≡ area.group = ap (λ (one : Area). one.group) (square_there 0 n place area is).0 in
        let group' : 0 + before ≡ other.group = ap (λ (one : Area). one.group) (square_there 0 n before other is').0 in
        omega (arith, group, group', same, earlier)

-- ---- the points
-- the points are well shaped
points_shaped : (n : ℕ) → n ≤ most_teeth → IsWellShaped (points_in_row n)
points_shaped n few = record {
  points = All-map IsInLimit (λ i. position_at i 0) (range_with_len 0 (2 * n + 1))
      (each_below (λ i. IsInLimit (position_at i 0)) (2 * n + 1) (λ i below. within_at i 0 (omega (arith, below, few)) (omega arith)));
  lines = All-nil IsLineShaped;
  areas = All-nil IsAreaShaped;
  few = omega (arith, few, length-map-range_with_len (λ i. position_at i 0) 0 (2 * n + 1));
}

-- points alone are valid
points_valid : (n : ℕ) → IsValid (points_in_row n)
points_valid n =
    bare_valid (points_in_row n) (λ place area is. absurd (none place area is))
    (λ place before area other earlier is is' same. none place area is)
  where
    none : (place : ℕ) (area : Area) → IsAtPlace [] place area → ⊥
    none place area is = cc

-- ---- all figures of a sample
-- each figure is well shaped
pub sample_is_shaped : (n : ℕ) → IsSampleNumber n → (which : Which) → All IsWellShaped (figures_of_sample n which)
unfolding figures_of_sample
sample_is_shaped n (some, few) A =
    All-cons IsWellShaped (figure_of_ring (comb_ring n)) (squares_and_line n ∷ [])
    (ring_shaped (comb_ring n) (comb_sound n some few) (omega (arith, few, comb_short n)))
    (All-cons IsWellShaped (squares_and_line n) [] (squares_shaped n few) (All-nil IsWellShaped))
sample_is_shaped n (some, few) B =
    All-cons IsWellShaped (figure_of_ring (map exchanged (comb_ring n))) (figure_of_ring (rectangle_ring 0 n) ∷ points_in_row n ∷ [])
    (ring_shaped (map exchanged (comb_ring n)) (exchanged_comb_sound n some few)
    (omega (arith, few, comb_short n, length-map (comb_ring n) exchanged)))
    (All-cons IsWellShaped (figure_of_ring (rectangle_ring 0 n)) (points_in_row n ∷ [])
    (ring_shaped (rectangle_ring 0 n) (rectangle_sound 0 n some few) (omega arith))
    (All-cons IsWellShaped (points_in_row n) [] (points_shaped n few) (All-nil IsWellShaped)))

-- each figure is valid
pub sample_is_valid : (n : ℕ) → IsSampleNumber n → (which : Which) → All IsValid (figures_of_sample n which)
unfolding figures_of_sample
sample_is_valid n (some, few) A =
    All-cons IsValid (figure_of_ring (comb_ring n)) (squares_and_line n ∷ []) (ring_valid (comb_ring n) (comb_sound n some few))
    (All-cons IsValid (squares_and_line n) [] (squares_valid n few) (All-nil IsValid))
sample_is_valid n (some, few) B =
    All-cons IsValid (figure_of_ring (map exchanged (comb_ring n))) (figure_of_ring (rectangle_ring 0 n) ∷ points_in_row n ∷ [])
    (ring_valid (map exchanged (comb_ring n)) (exchanged_comb_sound n some few))
    (All-cons IsValid (figure_of_ring (rectangle_ring 0 n)) (points_in_row n ∷ [])
    (ring_valid (rectangle_ring 0 n) (rectangle_sound 0 n some few))
    (All-cons IsValid (points_in_row n) [] (points_valid n) (All-nil IsValid)))
