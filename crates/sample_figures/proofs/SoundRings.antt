-- The rings of the samples are well shaped, have three positions or more, and don't cross themselves.
use Rattle.std.proofs.Common.{◌≡◌, ◌+◌, ◌-◌, ◌*◌, ◌<◌, ◌≤◌, ℕ, zero, suc, List, [], ◌∷◌, ◌++◌, map, length, refl, ap, sym, ◌∙◌, arith}
use Rattle.std.proofs.Common.{length-append}
use Rattle.std.specs.Prelude.{Some, slice_get}
use Rattle.std.specs.List.{All}
use Rattle.std.specs.Option.{option_map}
use Rattle.std.proofs.lemmas.Int.{ints}
use Rattle.std.proofs.lemmas.List.{length-map}
use Rattle.std.proofs.lemmas.List.Elements.{All-nil, All-cons, All-append, All-map, All-weaker}
use Rattle.std.proofs.lemmas.Option.{slice_get-map}
use Rattle.plane_exact.specs.Limits.{limit}
use Rattle.plane_exact.specs.Places.{IsInLimit}
use Rattle.plane_exact.specs.declared.point.Pt.{Pt}
use Rattle.point_set.specs.Shape.{IsClosed, IsRingShaped}
use Rattle.point_set.specs.Validity.{CrossesItself, HasTooFewPoints}
use Rattle.sample_figures.specs.Samples.{most_teeth, position_at, gap_left_of, over_tooth, over_teeth, comb_ring, exchanged, rectangle_ring}
use Rattle.sample_figures.proofs.Joints.{MeetAtJoints, simple_by_joints}
use Rattle.sample_figures.proofs.Steps.{Moves, steps_after, edges_by_steps, moves_across, moves_up, moves_exchanged, steps_exchanged}
use Rattle.sample_figures.proofs.Steps.{exchanged_edge}
use Rattle.sample_figures.proofs.Exchange.{joints_exchanged}
use Rattle.sample_figures.proofs.BareAreas.{enough_by_three}
use Rattle.sample_figures.proofs.Combs.{comb_joints, rectangle_joints, teeth_move}

-- A ring with the shape of one, enough positions, and no crossing.
pub record IsSoundRing (ring : List Pt) : Type 0 where
  pub shaped : IsRingShaped ring
  pub enough : ¬ HasTooFewPoints ring
  pub simple : ¬ CrossesItself ring

-- What makes a ring sound: its shape, that it moves at each step, that its first and third positions differ, and its joints.
record IsJointed (p q r : Pt) (others : List Pt) : Type 0 where
  shaped : IsRingShaped (p ∷ q ∷ r ∷ others)
  moves : Moves p (q ∷ r ∷ others)
  turns : ¬ (p ≡ r)
  joints : MeetAtJoints (steps_after p (q ∷ r ∷ others))

-- such a ring is sound
sound : (p q r : Pt) (others : List Pt) → IsJointed p q r others → IsSoundRing (p ∷ q ∷ r ∷ others)
sound p q r others h = record {
  shaped = h.shaped;
  enough = enough_by_three p q r others h.moves.0 h.moves.1.0 h.turns;
  simple = simple_by_joints (p ∷ q ∷ r ∷ others) (steps_after p (q ∷ r ∷ others)) (edges_by_steps p (q ∷ r ∷ others) h.moves) h.joints;
}

-- exchanging x and y keeps the shape
shaped_exchanged : (ring : List Pt) → IsRingShaped ring → IsRingShaped (map exchanged ring)
shaped_exchanged ring h = record {
  within = All-map IsInLimit exchanged ring (All-weaker IsInLimit (λ p. IsInLimit (exchanged p)) turned ring h.within);
  long = omega (arith, h.long, length-map ring exchanged);
  closed = closed;
}
  where
    turned : (p : Pt) → IsInLimit p → IsInLimit (exchanged p)
    turned p k = record { left = k.bottom; right = k.top; bottom = k.left; top = k.right }

    closed : IsClosed (map exchanged ring)
    closed =
        slice_get-map exchanged ring 0 ∙ ap (option_map exchanged) h.closed ∙ sym (slice_get-map exchanged ring (length ring - 1))
        ∙ ap (λ (n : ℕ). slice_get (map exchanged ring) (n - 1)) (sym (length-map ring exchanged))

-- so the ring with x and y exchanged is sound too
sound_exchanged : (p q r : Pt) (others : List Pt) → IsJointed p q r others → IsSoundRing (map exchanged (p ∷ q ∷ r ∷ others))
sound_exchanged p q r others h =
    let way = q ∷ r ∷ others in
    let moves = moves_exchanged p way h.moves in
    record {
      shaped = shaped_exchanged (p ∷ way) h.shaped;
      enough = enough_by_three (exchanged p) (exchanged q) (exchanged r) (map exchanged others) moves.0 moves.1.0
          (λ same. h.turns (ap exchanged same));
      simple = simple_by_joints (map exchanged (p ∷ way)) (map exchanged_edge (steps_after p way))
          (edges_by_steps (exchanged p) (map exchanged way) moves ∙ steps_exchanged p way)
          (joints_exchanged (steps_after p way) h.joints);
    }

-- ---- shapes
-- whole numbers up to the limit are within it
pub within_at : (x y : ℕ) → x ≤ limit → y ≤ limit → IsInLimit (position_at x y)
within_at x y right top = record {
  left = omega (arith, ints);
  right = omega (arith, ints, right);
  bottom = omega (arith, ints);
  top = omega (arith, ints, top);
}

-- the last of some positions
last_is : {T : Type 0} (items : List T) (last : T) → slice_get (items ++ last ∷ []) (length items) ≡ Some last
last_is [] last = refl
last_is (item ∷ items) last = last_is items last

-- a way that ends with its start is closed
closed_by_start : (p : Pt) (way : List Pt) → IsClosed (p ∷ (way ++ p ∷ []))
closed_by_start p way =
    let end : length (p ∷ (way ++ p ∷ [])) - 1 ≡ suc (length way) = omega (arith, length-append way (p ∷ [])) in
    sym (ap (slice_get (p ∷ (way ++ p ∷ []))) end ∙ last_is way p)

-- the positions of a gap are within the limit
gap_within : (i : ℕ) → 2 * i ≤ limit → All IsInLimit (gap_left_of i)
gap_within zero low = All-nil IsInLimit
gap_within (suc i) low =
    All-cons IsInLimit (position_at (2 * suc i) 1) (position_at (2 * i + 1) 1 ∷ []) (within_at (2 * suc i) 1 low (omega arith))
    (All-cons IsInLimit (position_at (2 * i + 1) 1) [] (within_at (2 * i + 1) 1 (omega (arith, low)) (omega arith)) (All-nil IsInLimit))

-- those over the teeth are
teeth_within : (h n : ℕ) → h ≤ limit → 2 * n ≤ limit → All IsInLimit (over_teeth h n)
teeth_within h zero high low = All-nil IsInLimit
teeth_within h (suc i) high low =
    All-append IsInLimit (over_tooth h i) (over_teeth h i)
    (All-cons IsInLimit (position_at (2 * i + 1) h) (position_at (2 * i) h ∷ gap_left_of i)
    (within_at (2 * i + 1) h (omega (arith, low)) high)
    (All-cons IsInLimit (position_at (2 * i) h) (gap_left_of i) (within_at (2 * i) h (omega (arith, low)) high)
    (gap_within i (omega (arith, low)))))
    (teeth_within h i high (omega (arith, low)))

-- how many positions a gap has, at the most
gap_short : (i : ℕ) → length (gap_left_of i) ≤ 2
gap_short zero = omega arith
gap_short (suc i) = omega arith

-- and the teeth
teeth_short : (h n : ℕ) → length (over_teeth h n) ≤ 4 * n
teeth_short h zero = omega arith
teeth_short h (suc i) = omega (arith, length-append (gap_left_of i) (over_teeth h i), gap_short i, teeth_short h i)

-- ---- the comb
-- The positions of the comb with j + 1 teeth after its third.
abbrev pub comb_end : ℕ → List Pt
comb_end j = position_at (2 * j) (2 * suc j + 1) ∷ (gap_left_of j ++ over_teeth (2 * suc j + 1) j) ++ position_at 0 0 ∷ []

-- the comb with j + 1 teeth has all that makes a ring sound
comb_jointed : (j : ℕ) → suc j ≤ most_teeth
    → IsJointed (position_at 0 0) (position_at (2 * suc j - 1) 0) (position_at (2 * j + 1) (2 * suc j + 1)) (comb_end j)
comb_jointed j few =
    let h = 2 * suc j + 1 in
    let x = 2 * suc j - 1 in
    let high : 1 < h = omega arith in
    let long : x ≡ 2 * j + 1 = omega arith in
    let teeth = over_teeth h (suc j) in
    let origin = position_at 0 0 in
    record {
      shaped = record {
        within = All-cons IsInLimit origin (position_at x 0 ∷ (teeth ++ origin ∷ [])) (within_at 0 0 (omega arith) (omega arith))
            (All-cons IsInLimit (position_at x 0) (teeth ++ origin ∷ []) (within_at x 0 (omega (arith, few, long)) (omega arith))
            (All-append IsInLimit teeth (origin ∷ []) (teeth_within h (suc j) (omega (arith, few)) (omega (arith, few)))
            (All-cons IsInLimit origin [] (within_at 0 0 (omega arith) (omega arith)) (All-nil IsInLimit))));
        long = omega arith;
        closed = closed_by_start (position_at 0 0) (position_at x 0 ∷ over_teeth h (suc j));
      };
      moves = (moves_across (λ e. omega (arith, e, long)), (moves_up (λ e. omega (arith, e)), teeth_move h j high));
      turns = moves_up (λ e. omega (arith, e));
      joints = comb_joints h j x high long;
    }

-- each comb is sound
pub comb_sound : (n : ℕ) → 1 ≤ n → n ≤ most_teeth → IsSoundRing (comb_ring n)
comb_sound zero some few = absurd (omega (arith, some))
comb_sound (suc j) some few =
    sound (position_at 0 0) (position_at (2 * suc j - 1) 0) (position_at (2 * j + 1) (2 * suc j + 1)) (comb_end j)
    (comb_jointed j few)

-- and with x and y exchanged
pub exchanged_comb_sound : (n : ℕ) → 1 ≤ n → n ≤ most_teeth → IsSoundRing (map exchanged (comb_ring n))
exchanged_comb_sound zero some few = absurd (omega (arith, some))
exchanged_comb_sound (suc j) some few =
    sound_exchanged (position_at 0 0) (position_at (2 * suc j - 1) 0) (position_at (2 * j + 1) (2 * suc j + 1)) (comb_end j)
    (comb_jointed j few)

-- it is short
pub comb_short : (n : ℕ) → length (comb_ring n) ≤ 4 * n + 3
comb_short n = omega (arith, length-append (over_teeth (2 * n + 1) n) (position_at 0 0 ∷ []), teeth_short (2 * n + 1) n)

-- ---- rectangles
-- each rectangle is sound
pub rectangle_sound : (l r : ℕ) → l < r → r ≤ most_teeth → IsSoundRing (rectangle_ring l r)
rectangle_sound l r order few =
    let a = position_at l 0 in
    let b = position_at r 0 in
    let c = position_at r 1 in
    let d = position_at l 1 in
    sound a b c (d ∷ a ∷ []) (record {
      shaped = record {
        within = All-cons IsInLimit a (b ∷ c ∷ d ∷ a ∷ []) (within_at l 0 (omega (arith, order, few)) (omega arith))
            (All-cons IsInLimit b (c ∷ d ∷ a ∷ []) (within_at r 0 (omega (arith, few)) (omega arith))
            (All-cons IsInLimit c (d ∷ a ∷ []) (within_at r 1 (omega (arith, few)) (omega arith))
            (All-cons IsInLimit d (a ∷ []) (within_at l 1 (omega (arith, order, few)) (omega arith))
            (All-cons IsInLimit a [] (within_at l 0 (omega (arith, order, few)) (omega arith)) (All-nil IsInLimit)))));
        long = omega arith;
        closed = refl;
      };
      moves = (
        moves_across (λ e. omega (arith, e, order)),
        (
          moves_up (λ e. omega (arith, e)),
          (
            moves_across (λ e. omega (arith, e, order)),
            (moves_up (λ e. omega (arith, e)), tt),
          ),
        ),
      );
      turns = moves_up (λ e. omega (arith, e));
      joints = rectangle_joints l r order;
    })
