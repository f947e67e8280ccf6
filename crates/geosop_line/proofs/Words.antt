-- Different operations, rules and patterns have different words.
use Rattle.std.proofs.Common.{◌≡◌, ◌∙◌, refl, ap, sym, arith, ℕ, List, cond, bytes_eq, codes, slice_index_or}
use Rattle.point_set.specs.declared.rule.Rule.{Rule}
use Rattle.im_matrix.specs.declared.names.Name.TheVariants.{Intersects, Disjoint, Contains, Within, Covers, CoveredBy, Touches, Crosses}
use Rattle.im_matrix.specs.declared.names.Name.TheVariants.{Overlaps, Equals, ContainsProperly}
use Rattle.im_matrix.specs.declared.patterns.Mark.{Mark}
use Rattle.im_matrix.specs.declared.patterns.Pattern.{Pattern}
use Rattle.im_matrix.specs.Patterns.{mark_character, pattern_text}
use Rattle.geosop_line.specs.Operations.{operation_word}
use Rattle.geosop_line.specs.Settings.{rule_word}
use Rattle.geosop_line.specs.declared.operation.Operation.{Operation}
use Rattle.geosop_line.specs.declared.operation.Operation.TheVariants.{Relate, RelatePattern, Named}

-- what comes back from its word is known by it
known_by : {A W : Type 0} (word : A → W) (back : W → A) → ((x : A) → back (word x) ≡ x) → (x y : A) → word x ≡ word y → x ≡ y
known_by word back comes x y same = sym (comes x) ∙ ap back same ∙ comes y

-- the operation of a word that is one's
abbrev operation_back : List ℕ → Operation
operation_back w =
    cond (bytes_eq w (codes "relate")) Relate
    (cond (bytes_eq w (codes "relatePattern")) RelatePattern
    (cond (bytes_eq w (codes "intersects")) (Named Intersects)
    (cond (bytes_eq w (codes "disjoint")) (Named Disjoint)
    (cond (bytes_eq w (codes "contains")) (Named Contains)
    (cond (bytes_eq w (codes "within")) (Named Within)
    (cond (bytes_eq w (codes "covers")) (Named Covers)
    (cond (bytes_eq w (codes "coveredBy")) (Named CoveredBy)
    (cond (bytes_eq w (codes "touches")) (Named Touches)
    (cond (bytes_eq w (codes "crosses")) (Named Crosses)
    (cond (bytes_eq w (codes "overlaps")) (Named Overlaps)
    (cond (bytes_eq w (codes "equals")) (Named Equals) (Named ContainsProperly))))))))))))

-- two operations of one word are one
pub same_operation : (o p : Operation) → operation_word o ≡ operation_word p → o ≡ p
same_operation = known_by operation_word operation_back (λ o. grind arith)

-- two rules of one word are one
pub same_rule : (r s : Rule) → rule_word r ≡ rule_word s → r ≡ s
same_rule r s same = grind arith

-- two marks of one character are one
same_mark : (m n : Mark) → mark_character m ≡ mark_character n → m ≡ n
same_mark m n same = grind arith

-- two patterns of one text are one
pub same_pattern : (p q : Pattern) → pattern_text p ≡ pattern_text q → p ≡ q
same_pattern p q same =
    let mark : (i : ℕ) (m n : Mark) → mark_character m ≡ slice_index_or (pattern_text p) i 0
    → mark_character n ≡ slice_index_or (pattern_text q) i 0 → m ≡ n =
    λ i m n here there. same_mark m n (here ∙ ap (λ t. slice_index_or t i 0) same ∙ sym there) in
    let ii = mark 0 p.marks.interior.interior q.marks.interior.interior refl refl in
    let ib = mark 1 p.marks.interior.boundary q.marks.interior.boundary refl refl in
    let ie = mark 2 p.marks.interior.exterior q.marks.interior.exterior refl refl in
    let bi = mark 3 p.marks.boundary.interior q.marks.boundary.interior refl refl in
    let bb = mark 4 p.marks.boundary.boundary q.marks.boundary.boundary refl refl in
    let be = mark 5 p.marks.boundary.exterior q.marks.boundary.exterior refl refl in
    let ei = mark 6 p.marks.exterior.interior q.marks.exterior.interior refl refl in
    let eb = mark 7 p.marks.exterior.boundary q.marks.exterior.boundary refl refl in
    let ee = mark 8 p.marks.exterior.exterior q.marks.exterior.exterior refl refl in
    λ k. record {
      marks = record {
        interior = record { interior = ii k; boundary = ib k; exterior = ie k };
        boundary = record { interior = bi k; boundary = bb k; exterior = be k };
        exterior = record { interior = ei k; boundary = eb k; exterior = ee k };
      };
    }
