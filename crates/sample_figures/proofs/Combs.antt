-- The edges of a comb meet at joints alone: tooth by tooth from the left, what was there before lies left of what is added.
use Rattle.std.proofs.Common.{◌≡◌, ◌+◌, ◌*◌, ◌<◌, ℕ, zero, suc, pos, List, [], ◌∷◌, ◌++◌, refl, ap, sym, arith}
use Rattle.std.specs.List.{AllByRecursion}
use Rattle.std.proofs.lemmas.Int.{ints, clamps}
use Rattle.plane_exact.specs.declared.point.Pt.{Pt}
use Rattle.plane_exact.specs.declared.point.Seg.{Seg}
use Rattle.sample_figures.specs.Samples.{position_at, gap_left_of, over_teeth}
use Rattle.sample_figures.proofs.Joints.{IsOff, IsSimpleWay, IsClosedBy, MeetAtJoints}
use Rattle.sample_figures.proofs.Steps.{Moves, steps_after, moves_across, moves_up}
use Rattle.sample_figures.proofs.Sides.{IsLeftOf, level_upright, upright_level, off_left, off_up, off_down, all_off_left, all_left_of}

-- The edge from one position to another.
abbrev pub edge : ℕ → ℕ → ℕ → ℕ → Seg
edge x y x' y' = record { a = position_at x y; b = position_at x' y' }

-- with a gap and a tooth to the right of a simple way the way is simple
tooth_added : (h x₀ x₁ x₂ x₃ : ℕ) (rest : List Seg) → 1 < h → x₀ < x₁ → x₁ < x₂ → x₂ < x₃ → AllByRecursion (IsLeftOf x₀) rest
    → IsSimpleWay (edge x₁ h x₀ h ∷ rest)
    → IsSimpleWay (edge x₃ h x₂ h ∷ edge x₂ h x₂ 1 ∷ edge x₂ 1 x₁ 1 ∷ edge x₁ 1 x₁ h ∷ edge x₁ h x₀ h ∷ rest)
tooth_added h x₀ x₁ x₂ x₃ rest high first second third left way =
    let top = edge x₃ h x₂ h in
    let down = edge x₂ h x₂ 1 in
    let bottom = edge x₂ 1 x₁ 1 in
    let up = edge x₁ 1 x₁ h in
    let next = edge x₁ h x₀ h in
    let all_left : AllByRecursion (IsLeftOf x₁) (next ∷ rest) =
    (omega (arith, ints, clamps, first), all_left_of x₀ x₁ rest (omega (arith, first)) left)
    in
    let from_up : IsSimpleWay (up ∷ next ∷ rest) =
    (upright_level (position_at x₁ h) up next refl refl refl refl, (all_off_left x₀ up rest (omega (arith, ints, clamps, first)) left, way))
    in
    let bottom_off : AllByRecursion (IsOff bottom) (next ∷ rest) = (
      off_up 1 bottom next (omega (arith, ints, clamps)) (omega (arith, ints, clamps, high)),
      all_off_left x₀ bottom rest (omega (arith, ints, clamps, first, second)) left,
    )
    in
    let from_bottom : IsSimpleWay (bottom ∷ up ∷ next ∷ rest) =
    (level_upright (position_at x₁ 1) bottom up refl refl refl refl, (bottom_off, from_up))
    in
    let down_off : AllByRecursion (IsOff down) (up ∷ next ∷ rest) = (
      off_left x₁ down up (omega (arith, ints, clamps, second)) (omega (arith, ints, clamps)),
      all_off_left x₁ down (next ∷ rest) (omega (arith, ints, clamps, second)) all_left,
    )
    in
    let from_down : IsSimpleWay (down ∷ bottom ∷ up ∷ next ∷ rest) =
    (upright_level (position_at x₂ 1) down bottom refl refl refl refl, (down_off, from_bottom))
    in
    let top_off : AllByRecursion (IsOff top) (bottom ∷ up ∷ next ∷ rest) = (
      off_down 1 top bottom (omega (arith, ints, clamps, high)) (omega (arith, ints, clamps)),
      (
        off_left x₁ top up (omega (arith, ints, clamps, second, third)) (omega (arith, ints, clamps)),
        all_off_left x₁ top (next ∷ rest) (omega (arith, ints, clamps, second, third)) all_left,
      ),
    )
    in
    (level_upright (position_at x₂ h) top down refl refl refl refl, (top_off, from_down))

-- The positions after the first one of the way over tooth i and those left of it, back to the origin.
abbrev pub after_tooth : ℕ → ℕ → List Pt
after_tooth h i = position_at (2 * i) h ∷ (gap_left_of i ++ over_teeth h i) ++ position_at 0 0 ∷ []

-- The edges after the top of tooth i.
abbrev pub rest_of : ℕ → ℕ → List Seg
rest_of h i = steps_after (position_at (2 * i) h) ((gap_left_of i ++ over_teeth h i) ++ position_at 0 0 ∷ [])

-- they lie left of that top
rest_left : (h i : ℕ) → AllByRecursion (IsLeftOf (2 * i)) (rest_of h i)
rest_left h zero = (omega (arith, ints, clamps), tt)
rest_left h (suc j) = (
  omega (arith, ints, clamps),
  (
    omega (arith, ints, clamps),
    (
      omega (arith, ints, clamps),
      (
        omega (arith, ints, clamps),
        all_left_of (2 * j) (2 * suc j) (rest_of h j) (omega arith) (rest_left h j),
      ),
    ),
  ),
)

-- they are a simple way with it
teeth_simple : (h i : ℕ) → 1 < h → IsSimpleWay (edge (2 * i + 1) h (2 * i) h ∷ rest_of h i)
teeth_simple h zero high =
    (level_upright (position_at 0 h) (edge 1 h 0 h) (edge 0 h 0 0) refl refl refl refl, (tt, tt))
teeth_simple h (suc j) high =
    tooth_added h (2 * j) (2 * j + 1) (2 * suc j) (2 * suc j + 1) (rest_of h j) high (omega arith) (omega arith) (omega arith)
    (rest_left h j) (teeth_simple h j high)

-- only the last of them comes down to the base, at the base's start
teeth_closed : (x h i : ℕ) → 1 < h → IsClosedBy (edge 0 0 x 0) (edge (2 * i + 1) h (2 * i) h ∷ rest_of h i)
teeth_closed x h zero high = (
  off_up 0 (edge 0 0 x 0) (edge 1 h 0 h) (omega (arith, ints, clamps)) (omega (arith, ints, clamps, high)),
  level_upright (position_at 0 0) (edge 0 0 x 0) (edge 0 h 0 0) refl refl refl refl,
)
teeth_closed x h (suc j) high =
    let base = edge 0 0 x 0 in (
      off_up 0 base (edge (2 * suc j + 1) h (2 * suc j) h) (omega (arith, ints, clamps)) (omega (arith, ints, clamps, high)),
      (
        off_up 0 base (edge (2 * suc j) h (2 * suc j) 1) (omega (arith, ints, clamps)) (omega (arith, ints, clamps, high)),
        (
          off_up 0 base (edge (2 * suc j) 1 (2 * j + 1) 1) (omega (arith, ints, clamps)) (omega (arith, ints, clamps)),
          (
            off_up 0 base (edge (2 * j + 1) 1 (2 * j + 1) h) (omega (arith, ints, clamps)) (omega (arith, ints, clamps, high)),
            teeth_closed x h j high,
          ),
        ),
      ),
    )

-- so the edges of a comb meet at joints alone
pub comb_joints : (h i x : ℕ) → 1 < h → x ≡ 2 * i + 1
    → MeetAtJoints (edge 0 0 x 0 ∷ edge x 0 (2 * i + 1) h ∷ edge (2 * i + 1) h (2 * i) h ∷ rest_of h i)
comb_joints h i x high long =
    let base = edge 0 0 x 0 in
    let side = edge x 0 (2 * i + 1) h in
    let top = edge (2 * i + 1) h (2 * i) h in (
      level_upright (position_at x 0) base side refl refl refl (ap pos (sym long)),
      (
        teeth_closed x h i high,
        (
          upright_level (position_at (2 * i + 1) h) side top (ap pos long) refl refl refl,
          (all_off_left (2 * i) side (rest_of h i) (omega (arith, ints, clamps, long)) (rest_left h i), teeth_simple h i high),
        ),
      ),
    )

-- no position of it is that before it
pub teeth_move : (h i : ℕ) → 1 < h → Moves (position_at (2 * i + 1) h) (after_tooth h i)
teeth_move h zero high = (moves_across (λ e. omega (arith, e)), (moves_up (λ e. omega (arith, e, high)), tt))
teeth_move h (suc j) high = (
  moves_across (λ e. omega (arith, e)),
  (
    moves_up (λ e. omega (arith, e, high)),
    (
      moves_across (λ e. omega (arith, e)),
      (moves_up (λ e. omega (arith, e, high)), teeth_move h j high),
    ),
  ),
)

-- the edges of a rectangle meet at joints alone
pub rectangle_joints : (l r : ℕ) → l < r → MeetAtJoints (edge l 0 r 0 ∷ edge r 0 r 1 ∷ edge r 1 l 1 ∷ edge l 1 l 0 ∷ [])
rectangle_joints l r order =
    let foot = edge l 0 r 0 in
    let right = edge r 0 r 1 in
    let top = edge r 1 l 1 in
    let left = edge l 1 l 0 in (
      level_upright (position_at r 0) foot right refl refl refl refl,
      (
        (
          off_up 0 foot top (omega (arith, ints, clamps)) (omega (arith, ints, clamps)),
          level_upright (position_at l 0) foot left refl refl refl refl,
        ),
        (
          upright_level (position_at r 1) right top refl refl refl refl,
          (
            (off_left l right left (omega (arith, ints, clamps, order)) (omega (arith, ints, clamps)), tt),
            (level_upright (position_at l 1) top left refl refl refl refl, (tt, tt)),
          ),
        ),
      ),
    )
