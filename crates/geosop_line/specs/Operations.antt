-- The words of the operations, which are told apart by case too.
use Rattle.std.specs.Prelude.{◌≡◌, ◌⊎◌, ℕ, List, Some, None, IsSome, codes}
use Rattle.im_matrix.specs.declared.names.Name.{Name}
use Rattle.im_matrix.specs.declared.names.Name.TheVariants.{Intersects, Disjoint, Contains, Within, Covers, CoveredBy, Touches, Crosses}
use Rattle.im_matrix.specs.declared.names.Name.TheVariants.{Overlaps, Equals, ContainsProperly}
use Rattle.im_matrix.specs.Patterns.{HasFaultAt, pattern_text}
use Rattle.topo_pred.specs.declared.Query.{Query}
use Rattle.topo_pred.specs.declared.Query.TheVariants as query
use Rattle.geosop_line.specs.Arguments.{Value}
use Rattle.geosop_line.specs.declared.operation.Operation.{Operation}
use Rattle.geosop_line.specs.declared.operation.Operation.TheVariants.{Relate, RelatePattern, Named}

-- The word of a named predicate.
abbrev pub name_word : Name → List ℕ
name_word Intersects = codes "intersects"
name_word Disjoint = codes "disjoint"
name_word Contains = codes "contains"
name_word Within = codes "within"
name_word Covers = codes "covers"
name_word CoveredBy = codes "coveredBy"
name_word Touches = codes "touches"
name_word Crosses = codes "crosses"
name_word Overlaps = codes "overlaps"
name_word Equals = codes "equals"
name_word ContainsProperly = codes "containsProperly"

-- The word of an operation.
abbrev pub operation_word : Operation → List ℕ
operation_word Relate = codes "relate"
operation_word RelatePattern = codes "relatePattern"
operation_word (Named name) = name_word name

-- The operation and the argument ask this query: the matrix, a named predicate, or a match with the argument's pattern.
abbrev pub Asks : Value → Value → Query → Type 0
Asks operation argument query.Relate = (operation ≡ Some (operation_word Relate)) × (argument ≡ None)
Asks operation argument (query.Named name) = (operation ≡ Some (operation_word (Named name))) × (argument ≡ None)
Asks operation argument (query.Match pattern) = (operation ≡ Some (operation_word RelatePattern)) × (argument ≡ Some (pattern_text pattern))

-- The operation is missing or isn't one of those above.
abbrev pub IsBadOperation : Value → Type 0
IsBadOperation operation = (one : Operation) → ¬ (operation ≡ Some (operation_word one))

-- The operation is `relatePattern` and the argument is missing, or it is another one and the argument is there.
abbrev pub IsBadArgument : Value → Value → Type 0
IsBadArgument operation argument =
    ((operation ≡ Some (operation_word RelatePattern)) × (argument ≡ None))
    ⊎ (¬ (operation ≡ Some (operation_word RelatePattern)) × IsSome argument)

-- The argument of `relatePattern` is no pattern, and first goes wrong at this place.
pub record IsBadPattern (operation argument : Value) (place : ℕ) : Type 0 where
  pub text : List ℕ
  pub asks : operation ≡ Some (operation_word RelatePattern)
  pub has_argument : argument ≡ Some text
  pub wrong : HasFaultAt text place
