-- The rules that tokens keep by themselves, by what they are in their geometry, and the fault of a token that breaks its rule.
use Rattle.std.specs.Prelude.{◌≡◌, ◌+◌, ℕ, map, ◌-◌, Bool, true, nat_lt, if◌then◌else◌, Option, Some, None, List, [], ◌∷◌, length}
use Rattle.std.specs.Prelude.{slice_index_or, ◌&&◌}
use Rattle.std.specs.Ordering.{int_eq}
use Rattle.plane_exact.specs.declared.point.Pt.{Pt}
use Rattle.wkt_text.specs.declared.number.Numeral.{Numeral}
use Rattle.wkt_text.specs.declared.number.Numeral.TheVariants.{Long, Malformed, Fraction, Wide, Whole}
use Rattle.wkt_text.specs.declared.token.Token.{Token}
use Rattle.wkt_text.specs.declared.token.Token.TheVariants as token
use Rattle.wkt_text.specs.declared.control.WktKind.{WktKind}
use Rattle.wkt_text.specs.declared.control.WktKind.TheVariants.{Syntax, NotWhole, TooWide, LongNumber, RingOpen, RingShort, LineShort, Deep}
use Rattle.wkt_text.specs.declared.control.WktKind.TheVariants.{TooMany}
use Rattle.plane_exact.specs.Limits.{most_positions}
use Rattle.wkt_text.specs.Limits.{most_depth}

-- The rule of a token: that of the word of a collection in so many others; of the first or the second ordinate of a position; of
-- a third or fourth ordinate that the tag demands, and of one where there is no tag; of the bracket that ends a line or a ring
-- with these positions. An unruled token has to keep the grammar alone.
pub data TokenRule : Type 0 where
  unruled : TokenRule
  nested : ℕ → TokenRule
  first : TokenRule
  second : TokenRule
  demanded : TokenRule
  further : TokenRule
  ends_line : List Pt → TokenRule
  ends_ring : List Pt → TokenRule

-- A token with its rule.
abbrev pub Slot : Type 0
Slot = Token × TokenRule

abbrev pub slot : Token → TokenRule → Slot
slot t rule = (t, rule)

abbrev pub tokens_of : List Slot → List Token
tokens_of slots = map (λ x. x.0) slots

-- The fault of a number in the place of x or y.
abbrev pub numeral_fault : Numeral → Option WktKind
numeral_fault Long = Some LongNumber
numeral_fault Malformed = Some Syntax
numeral_fault Fraction = Some NotWhole
numeral_fault Wide = Some TooWide
numeral_fault (Whole z) = None

abbrev pub place_fault : Token → Option WktKind
place_fault (token.Number n) = numeral_fault n
place_fault other = Some Syntax

-- The fault of a number in the place of a third or fourth ordinate: its length and its form alone are tested.
abbrev pub dropped_fault : Numeral → Option WktKind
dropped_fault Long = Some LongNumber
dropped_fault Malformed = Some Syntax
dropped_fault other = None

abbrev pub drop_fault : Token → Option WktKind
drop_fault (token.Number n) = dropped_fault n
drop_fault other = None

-- The fault of a line with these positions, at its end.
abbrev pub line_fault : List Pt → Option WktKind
line_fault way = if nat_lt (length way) 2 then Some LineShort else None

-- Whether two positions have the same x and the same y.
abbrev pub same_place : Pt → Pt → Bool
same_place p q = int_eq p.x q.x && int_eq p.y q.y

-- Whether a way's first position is its last.
abbrev pub ends_meet : List Pt → Bool
ends_meet [] = true
ends_meet (p ∷ way) = same_place p (slice_index_or (p ∷ way) (length (p ∷ way) - 1) p)

-- The fault of a ring with these positions, at its end.
abbrev pub ring_fault : List Pt → Option WktKind
ring_fault way = if nat_lt (length way) 4 then Some RingShort else (if ends_meet way then None else Some RingOpen)

-- The fault of a token under its rule, where so many positions of the geometry were begun before it.
abbrev pub fault_under : TokenRule → ℕ → Token → Option WktKind
fault_under unruled n t = None
fault_under (nested depth) n t = if nat_lt depth most_depth then None else Some Deep
fault_under first n t = if nat_lt n most_positions then place_fault t else Some TooMany
fault_under second n t = place_fault t
fault_under demanded n t = drop_fault t
fault_under further n t = drop_fault t
fault_under (ends_line way) n t = line_fault way
fault_under (ends_ring way) n t = ring_fault way

-- How many positions are begun with a token, and with tokens, where so many were before.
abbrev pub begun_with : TokenRule → ℕ → ℕ
begun_with first n = n + 1
begun_with other n = n

abbrev pub begun_along : ℕ → List Slot → ℕ
begun_along n [] = n
begun_along n (x ∷ rest) = begun_along (begun_with x.1 n) rest

-- Each of these tokens keeps its rule, where so many positions were begun before.
abbrev pub KeepRules : ℕ → List Slot → Type 0
KeepRules n [] = Unit {0}
KeepRules n (x ∷ rest) = (fault_under x.1 n x.0 ≡ None) × KeepRules (begun_with x.1 n) rest
