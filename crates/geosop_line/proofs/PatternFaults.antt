-- Where a text is no pattern.
use Rattle.std.proofs.Common.{◌≡◌, ◌∙◌, ◌<◌, inl, inr, sym, arith, true, true≢false, zero, suc, ℕ, List, [], ◌∷◌, Some, length, map}
use Rattle.std.specs.Prelude.{slice_get}
use Rattle.std.proofs.lemmas.Bool.{cases_lt}
use Rattle.im_matrix.specs.declared.patterns.Mark.{Mark}
use Rattle.im_matrix.specs.declared.patterns.Pattern.{Pattern}
use Rattle.im_matrix.specs.Cells.{all_cells}
use Rattle.im_matrix.specs.Patterns.{HasFaultAt, is_right, mark_at, mark_character, pattern_text}

-- the character of a mark is right
mark_is_right : (m : Mark) → is_right (Some (mark_character m)) ≡ true
mark_is_right m = grind arith

-- the characters of marks are right
marks_are_right : (marks : List Mark) (i : ℕ) → i < length marks → is_right (slice_get (map mark_character marks) i) ≡ true
marks_are_right [] i below = absurd (omega arith)
marks_are_right (m ∷ marks) zero below = mark_is_right m
marks_are_right (m ∷ marks) (suc i) below = marks_are_right marks i (omega arith)

-- the marks of a pattern
abbrev marks_of : Pattern → List Mark
marks_of p = map (mark_at p) all_cells

-- a pattern's text has no fault
pub no_fault_in_pattern : (p : Pattern) (place : ℕ) → ¬ HasFaultAt (pattern_text p) place
no_fault_in_pattern p place fault = elim fault.wrong_here [
  | inl wrong ↦ true≢false (sym (marks_are_right (marks_of p) place wrong.0) ∙ wrong.1)
  | inr long ↦ absurd (omega (arith, long.1))
]

-- of two faults of one text the first isn't before the second
not_before : (text : List ℕ) (place other : ℕ) → HasFaultAt text place → HasFaultAt text other → ¬ (place < other)
not_before text place other fault after before = elim fault.wrong_here [
  | inl wrong ↦ true≢false (sym (after.right_before place before) ∙ wrong.1)
  | inr long ↦ elim after.wrong_here [
    | inl wrong ↦ absurd (omega (arith, long.0, wrong.0))
    | inr far ↦ absurd (omega (arith, long.0, far.0))
  ]
]

-- a text has one fault at most
pub one_fault : (text : List ℕ) (place other : ℕ) → HasFaultAt text place → HasFaultAt text other → place ≡ other
one_fault text place other fault after = elim (cases_lt place other) [
  | inl before ↦ absurd (not_before text place other fault after before)
  | inr past ↦ elim (cases_lt other place) [ inl before ↦ absurd (not_before text other place after fault before) | inr same ↦ omega arith ]
]
