-- The named predicates, as one table of patterns.
use Rattle.std.specs.Prelude.{ℕ, Bool, not, List, [], ◌∷◌, codes, if◌then◌else◌, nat_lt}
use Rattle.std.specs.List.{list_any}
use Rattle.im_matrix.specs.declared.Dim.{Dim}
use Rattle.im_matrix.specs.declared.Dim.TheVariants.{Zero, One, Two}
use Rattle.im_matrix.specs.declared.Matrix.{Matrix}
use Rattle.im_matrix.specs.declared.names.Name.{Name}
use Rattle.im_matrix.specs.declared.names.Name.TheVariants.{Intersects, Disjoint, Contains, Within, Covers, CoveredBy, Touches, Crosses}
use Rattle.im_matrix.specs.declared.names.Name.TheVariants.{Overlaps, Equals, ContainsProperly}
use Rattle.im_matrix.specs.Cells.{rank}
use Rattle.im_matrix.specs.Patterns.{text_matches}

-- a name is true where one of its patterns matches, or where none does
pub data Rule : Type 0 where
  one_of : List (List ℕ) → Rule
  none_of : List (List ℕ) → Rule

-- Touches, by the dimensions of A and B
abbrev pub touches_rule : Dim → Dim → Rule
touches_rule Zero Zero = one_of []
touches_rule a b = one_of (codes "FT*******" ∷ codes "F**T*****" ∷ codes "F***T****" ∷ [])

-- Crosses, by the dimensions of A and B
abbrev pub crosses_rule : Dim → Dim → Rule
crosses_rule One One = one_of (codes "0********" ∷ [])
crosses_rule a b =
    if nat_lt (rank a) (rank b) then one_of (codes "T*T******" ∷ [])
    else (if nat_lt (rank b) (rank a) then one_of (codes "T*****T**" ∷ [])
    else one_of [])

-- Overlaps, by the dimensions of A and B
abbrev pub overlaps_rule : Dim → Dim → Rule
overlaps_rule Zero Zero = one_of (codes "T*T***T**" ∷ [])
overlaps_rule Two Two = one_of (codes "T*T***T**" ∷ [])
overlaps_rule One One = one_of (codes "1*T***T**" ∷ [])
overlaps_rule a b = one_of []

-- the table: the rule of each name, by the dimensions of A and B
abbrev pub rule_of : Name → Dim → Dim → Rule
rule_of Disjoint a b = one_of (codes "FF*FF****" ∷ [])
rule_of Intersects a b = none_of (codes "FF*FF****" ∷ [])
rule_of Within a b = one_of (codes "T*F**F***" ∷ [])
rule_of Contains a b = one_of (codes "T*****FF*" ∷ [])
rule_of Covers a b =
    one_of (codes "T*****FF*" ∷ codes "*T****FF*" ∷ codes "***T**FF*" ∷ codes "****T*FF*" ∷ [])
rule_of CoveredBy a b =
    one_of (codes "T*F**F***" ∷ codes "*TF**F***" ∷ codes "**FT*F***" ∷ codes "**F*TF***" ∷ [])
rule_of Touches a b = touches_rule a b
rule_of Crosses a b = crosses_rule a b
rule_of Overlaps a b = overlaps_rule a b
rule_of Equals a b = one_of (codes "**F**FFF*" ∷ [])
rule_of ContainsProperly a b = one_of (codes "T**FF*FF*" ∷ [])

-- whether the matrix keeps the rule
abbrev pub rule_value : Rule → Matrix → Bool
rule_value (one_of patterns) m = list_any (λ p. text_matches p m) patterns
rule_value (none_of patterns) m = not (list_any (λ p. text_matches p m) patterns)

-- whether the name is true of two figures with these dimensions and this matrix
abbrev pub name_value : Name → Dim → Dim → Matrix → Bool
name_value name a b m = rule_value (rule_of name a b) m
