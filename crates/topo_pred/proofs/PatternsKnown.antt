-- What is known of a pattern.
use Rattle.std.proofs.Common.{◌≡◌, ◌≤◌, ◌∙◌, Bool, true, false, Some, None, List, [], ◌∷◌, ap, arith}
use Rattle.std.proofs.lemmas.Bool.Decides.{nat_tests}
use Rattle.std.specs.Prelude.{if◌then◌else◌, not, nat_lt}
use Rattle.std.specs.List.{list_any, list_all}
use Rattle.im_matrix.specs.declared.Dim.{Dim}
use Rattle.im_matrix.specs.declared.Dim.TheVariants.{Two}
use Rattle.im_matrix.specs.declared.Cell.{Cell}
use Rattle.im_matrix.specs.declared.Matrix.{Matrix}
use Rattle.im_matrix.specs.declared.patterns.Mark.{Mark}
use Rattle.im_matrix.specs.declared.patterns.Pattern.{Pattern}
use Rattle.im_matrix.specs.Cells.{rank, greater, dimension_at, all_cells}
use Rattle.im_matrix.specs.Patterns.{accepts, mark_character, range_of, mark_at, pattern_text, text_matches}
use Rattle.im_matrix.proofs.Laws.{greater-least, matrix_by, dimension_at-matrix_by}
use Rattle.topo_pred.specs.Later.{IsAtLeast, IsKnown}
use Rattle.topo_pred.specs.Settled.{fails_for_good, holds_for_good}
use Rattle.topo_pred.proofs.Matrices.{matrix_by-least}
use Rattle.topo_pred.proofs.CellTests.{and-alike, or-against}
use Rattle.topo_pred.proofs.KnownTests.{known_value, known_none}

-- a dimension from this one on that the mark accepts, if there is one
abbrev accepted_from : Mark → Dim → Dim
accepted_from k d = greater d (range_of k).0

-- a dimension from this one on that the mark doesn't accept, if there is one
abbrev refused_from : Mark → Dim → Dim
refused_from k d = if nat_lt (rank d) (rank (range_of k).0) then d else Two

-- it is at least this one
refused_from-least : (k : Mark) (d : Dim) → rank d ≤ rank (refused_from k d)
refused_from-least k d = grind (arith, nat_tests)

-- a mark that doesn't fail for good may still be met
accepted : (k : Mark) (d : Dim) → fails_for_good k d ≡ false → accepts (mark_character k) (accepted_from k d) ≡ true
accepted k d h = grind (arith, nat_tests)

-- a mark that doesn't hold for good may still fail
refused : (k : Mark) (d : Dim) → holds_for_good k d ≡ false → accepts (mark_character k) (refused_from k d) ≡ false
refused k d h = grind (arith, nat_tests)

-- a mark that holds for good is met by each later dimension
holds-later : (k : Mark) (d e : Dim) → holds_for_good k d ≡ true → rank d ≤ rank e → accepts (mark_character k) e ≡ true
holds-later k d e h le = grind (arith, nat_tests)

-- a mark that fails for good is met by no later dimension
fails-later : (k : Mark) (d e : Dim) → fails_for_good k d ≡ true → rank d ≤ rank e → accepts (mark_character k) e ≡ false
fails-later k d e h le = grind (arith, nat_tests)

-- each cell of the matrix moved by its mark
abbrev moved_by : (Mark → Dim → Dim) → Pattern → Matrix → Matrix
moved_by f p m = matrix_by (λ c. f (mark_at p c) (dimension_at m c))

-- what is in its cells
in_moved :
    (f : Mark → Dim → Dim) (p : Pattern) (m : Matrix) (c : Cell) → dimension_at (moved_by f p m) c ≡ f (mark_at p c) (dimension_at m c)
in_moved f p m c = dimension_at-matrix_by (λ d. f (mark_at p d) (dimension_at m d)) c

-- it is at least the matrix where each move is upwards
moved_by-least :
    (f : Mark → Dim → Dim) (p : Pattern) (m : Matrix) → ((k : Mark) (d : Dim) → rank d ≤ rank (f k d)) →
    IsAtLeast (moved_by f p m) m
moved_by-least f p m up =
    matrix_by-least (λ c. f (mark_at p c) (dimension_at m c)) m (λ c. up (mark_at p c) (dimension_at m c))

-- whether the cell's mark accepts its dimension
abbrev meets : Pattern → Matrix → Cell → Bool
meets p m c = accepts (mark_character (mark_at p c)) (dimension_at m c)

-- whether it never will
abbrev fails : Pattern → Matrix → Cell → Bool
fails p m c = fails_for_good (mark_at p c) (dimension_at m c)

-- whether it will for good
abbrev holds : Pattern → Matrix → Cell → Bool
holds p m c = holds_for_good (mark_at p c) (dimension_at m c)

-- where one test hands its value on to another at each cell, all of the one are worth all of the other
all-alike : (one other : Cell → Bool) (v : Bool) → ((c : Cell) → one c ≡ v → other c ≡ v) → (cs : List Cell) → list_all one cs ≡ v
    → list_all other cs ≡ v
all-alike one other v each [] h = h
all-alike one other v each (c ∷ cs) h =
    and-alike v (one c) (list_all one cs) (other c) (list_all other cs) (each c) (all-alike one other v each cs) h

-- where one test refutes another at each cell, so does some of the one all of the other
any-against : (one other : Cell → Bool) (v : Bool) → ((c : Cell) → one c ≡ v → other c ≡ not v) → (cs : List Cell) → list_any one cs ≡ v
    → list_all other cs ≡ not v
any-against one other v each [] h = ap not h
any-against one other v each (c ∷ cs) h =
    or-against v (one c) (list_any one cs) (other c) (list_all other cs) (each c) (any-against one other v each cs) h

-- whether the matrix matches the pattern
abbrev matches : Pattern → Matrix → Bool
matches p m = text_matches (pattern_text p) m

-- a pattern is false for good once a mark fails for good
pub pattern_false : (p : Pattern) (m : Matrix) → list_any (fails p m) all_cells ≡ true → IsKnown (matches p) m (Some false)
pattern_false p m h =
    known_value (matches p) m false (λ later more. any-against (fails p m) (meets p later) true
    (λ c t. fails-later (mark_at p c) (dimension_at m c) (dimension_at later c) t (more c)) all_cells h)

-- a pattern is true for good once all marks hold for good
pub pattern_true : (p : Pattern) (m : Matrix) → list_all (holds p m) all_cells ≡ true → IsKnown (matches p) m (Some true)
pattern_true p m h =
    known_value (matches p) m true (λ later more. all-alike (holds p m) (meets p later) true
    (λ c t. holds-later (mark_at p c) (dimension_at m c) (dimension_at later c) t (more c)) all_cells h)

-- what a mark says of its cell where that is moved
meets_moved : (f : Mark → Dim → Dim) (p : Pattern) (m : Matrix) (c : Cell) (v : Bool)
    → accepts (mark_character (mark_at p c)) (f (mark_at p c) (dimension_at m c)) ≡ v → meets p (moved_by f p m) c ≡ v
meets_moved f p m c v h = ap (accepts (mark_character (mark_at p c))) (in_moved f p m c) ∙ h

-- otherwise what is still to come decides
pub pattern_open :
    (p : Pattern) (m : Matrix) → list_any (fails p m) all_cells ≡ false → list_all (holds p m) all_cells ≡ false →
    IsKnown (matches p) m None
pattern_open p m h k =
    known_none (matches p) m (moved_by refused_from p m) (moved_by accepted_from p m)
    (moved_by-least refused_from p m refused_from-least) (moved_by-least accepted_from p m (λ k d. greater-least d (range_of k).0))
    (all-alike (holds p m) (meets p (moved_by refused_from p m)) false
    (λ c t. meets_moved refused_from p m c false (refused (mark_at p c) (dimension_at m c) t)) all_cells k)
    (any-against (fails p m) (meets p (moved_by accepted_from p m)) false
    (λ c t. meets_moved accepted_from p m c true (accepted (mark_at p c) (dimension_at m c) t)) all_cells h)
