-- A text is a pattern or has one fault, at one place.
use Rattle.std.proofs.Common.{◌≡◌, ℕ, ◌<◌, ◌↔◌, sym, true, Result, Ok, Err, IfOk, IfErr, List, [], ◌∷◌, length, zero, suc, refl, ap, subst}
use Rattle.std.proofs.Common.{inl, inr, arith}
use Rattle.std.specs.Prelude.{slice_get, map}
use Rattle.im_matrix.specs.declared.patterns.Mark.{Mark}
use Rattle.im_matrix.specs.declared.patterns.Mark.TheVariants.{Present, Absent, Any, Points, Lines, Areas}
use Rattle.im_matrix.specs.declared.patterns.Pattern.{Pattern}
use Rattle.im_matrix.specs.declared.patterns.BadPattern.{BadPattern}
use Rattle.im_matrix.specs.Cells.{all_cells}
use Rattle.im_matrix.specs.Patterns.{mark_at, mark_character, pattern_text, is_right, HasFaultAt}
use Rattle.std.specs.Prelude.{Some}

-- the character of a mark is one of the six
is_right-mark_character : (k : Mark) → is_right (Some (mark_character k)) ≡ true
is_right-mark_character k = grind arith

-- so each character of a list of marks is right
is_right-marks :
    (ks : List Mark) (i : ℕ) → i < length ks → is_right (slice_get (map mark_character ks) i) ≡ true
is_right-marks [] i h = absurd (omega arith)
is_right-marks (k ∷ ks) zero h = is_right-mark_character k
is_right-marks (k ∷ ks) (suc i) h = is_right-marks ks i (omega arith)

-- the nine marks of a pattern in order
abbrev marks_of : Pattern → List Mark
marks_of p = map (mark_at p) all_cells

-- the text of a pattern has no fault
no_fault : (p : Pattern) (place : ℕ) → HasFaultAt (pattern_text p) place → ⊥
no_fault p place h =
    elim h.wrong_here [
      | inl w ↦ (let right : is_right (slice_get (pattern_text p) place) ≡ true = is_right-marks (marks_of p) place w.0 in cc w.1)
      | inr w ↦ (let more : 9 < 9 = w.1 in omega arith)
    ]

-- a fault doesn't come before another one
not_before : (text : List ℕ) (i j : ℕ) → HasFaultAt text i → HasFaultAt text j → i < j → ⊥
not_before text i j h k before =
    elim h.wrong_here [
      | inl w ↦ (let right : is_right (slice_get text i) ≡ true = k.right_before i before in cc w.1)
      | inr w ↦ elim k.wrong_here [ inl v ↦ omega (arith, w.0, v.0) | inr v ↦ omega (arith, w.0, v.0) ]
    ]

-- two faults of one text are at one place
same_fault : (text : List ℕ) (i j : ℕ) → HasFaultAt text i → HasFaultAt text j → i ≡ j
same_fault text i j h k =
    let below : i < j → ⊥ = not_before text i j h k in
    let above : j < i → ⊥ = not_before text j i k h in
    omega arith

-- a result that is the text's pattern or its fault is an error exactly at the fault
pub faults_exactly :
    (text : List ℕ) (r : Result Pattern BadPattern) → IfOk r (λ p. pattern_text p ≡ text)
    → IfErr r (λ e. HasFaultAt text e.place) → (place : ℕ)
    → (r ≡ Err (record { place = place })) ↔ HasFaultAt text place
faults_exactly text (Ok p) ok err place =
    (λ e. cc, λ h. absurd (no_fault p place (subst (λ (t : List ℕ). HasFaultAt t place) (sym ok) h)))
faults_exactly text (Err e) ok err place = (
  λ same. (let at : e ≡ record { place = place } = cc in subst (λ (x : BadPattern). HasFaultAt text x.place) at err),
  λ h. ap (λ (n : ℕ). Err (record { place = n })) (same_fault text e.place place err h),
)
