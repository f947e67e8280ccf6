-- A geometry that stands in a text, and the first fault of a text.
use Rattle.std.specs.Prelude.{◌≡◌, ℕ, List, [], ◌∷◌, ◌++◌, drop, IsTrue, Some, ◌⊎◌}
use Rattle.std.specs.List.{list_all}
use Rattle.point_set.specs.declared.figure.Figure.{Figure}
use Rattle.wkt_text.specs.declared.word.TypeWord.{TypeWord}
use Rattle.wkt_text.specs.declared.word.Tag.{Tag}
use Rattle.wkt_text.specs.declared.token.Token.{Token}
use Rattle.wkt_text.specs.declared.token.Token.TheVariants as token
use Rattle.wkt_text.specs.declared.control.WktKind.{WktKind}
use Rattle.wkt_text.specs.declared.control.WktKind.TheVariants.{Syntax, UnknownType, Ragged}
use Rattle.wkt_text.specs.Bytes.{is_white}
use Rattle.wkt_text.specs.Tokens.{lexeme_at}
use Rattle.wkt_text.specs.Grammar.{Geometry}
use Rattle.wkt_text.specs.Figures.{figure_of}
use Rattle.wkt_text.specs.Rules.{TokenRule, demanded, further, Slot, slot, tokens_of, fault_under, begun_along, KeepRules}
use Rattle.wkt_text.specs.Spelling.{spelling}

-- These tokens stand in the bytes, one after the other, from a place on up to another.
abbrev pub Stands : ℕ → List ℕ → ℕ → List Token → ℕ → Type 0
Stands scale bytes from [] to_place = from ≡ to_place
Stands scale bytes from (t ∷ ts) to_place =
    ((lexeme_at scale bytes from).token ≡ t) × Stands scale bytes (lexeme_at scale bytes from).«end» ts to_place

-- From a place up to another stands the text of a geometry in which each token keeps its rule, and this is the figure of its tree.
pub record Reads (scale : ℕ) (bytes : List ℕ) (from : ℕ) (figure : Figure) (last : ℕ) : Type 0 where
  pub geometry : Geometry
  pub stands : Stands scale bytes from (tokens_of (spelling geometry)) last
  pub kept : KeepRules 0 (spelling geometry)
  pub says : figure ≡ figure_of geometry

-- The tokens are the beginning of some geometry's text, and each of them keeps its rule.
pub record IsRight (ts : List Token) : Type 0 where
  pub geometry : Geometry
  pub front : List Slot
  pub rest : List Slot
  pub spelled : spelling geometry ≡ front ++ rest
  pub tokens : tokens_of front ≡ ts
  pub kept : KeepRules 0 front

-- After these tokens some geometry's text goes on with this token, which has this rule there.
pub record Continues (ts : List Token) (t : Token) (rule : TokenRule) : Type 0 where
  pub geometry : Geometry
  pub front : List Slot
  pub rest : List Slot
  pub spelled : spelling geometry ≡ front ++ slot t rule ∷ rest
  pub tokens : tokens_of front ≡ ts

-- The token isn't allowed after these: no geometry's text goes on so.
abbrev pub IsRefused : List Token → Token → Type 0
IsRefused ts t = (rule : TokenRule) → Continues ts t rule → ⊥

-- A type word may stand after these tokens.
pub record IsTypeExpected (ts : List Token) : Type 0 where
  pub kind : TypeWord
  pub tag : Tag
  pub rule : TokenRule
  pub continues : Continues ts (token.Type kind tag) rule

-- After these tokens the tag demands a third or fourth ordinate.
pub record IsOrdinateDemanded (ts : List Token) : Type 0 where
  pub ordinate : Token
  pub continues : Continues ts ordinate demanded

-- The last of these tokens is the third or fourth ordinate of a position.
pub record IsAfterThird (ts : List Token) : Type 0 where
  pub before : List Token
  pub ordinate : Token
  pub rule : TokenRule
  pub third : (rule ≡ demanded) ⊎ (rule ≡ further)
  pub joined : ts ≡ before ++ ordinate ∷ []
  pub continues : Continues before ordinate rule

-- A word that is no type word.
abbrev pub IsWord : Token → Type 0
IsWord (token.Tag tag) = Unit {0}
IsWord token.Empty = Unit {0}
IsWord token.Nan = Unit {0}
IsWord token.Word = Unit {0}
IsWord other = ⊥

-- A number or NaN.
abbrev pub IsOrdinate : Token → Type 0
IsOrdinate (token.Number n) = Unit {0}
IsOrdinate token.Nan = Unit {0}
IsOrdinate other = ⊥

-- A word stands where a type word is expected.
abbrev pub IsUnknownType : List Token → Token → Type 0
IsUnknownType ts t = IsWord t × IsTypeExpected ts

-- A tagged position has at least two ordinates and too few, and another token stands in the place of the missing one; or an
-- ordinate stands after a position that has all that it may have.
abbrev pub IsRagged : List Token → Token → Type 0
IsRagged ts t = IsOrdinateDemanded ts ⊎ (IsOrdinate t × IsAfterThird ts)

-- The kind of a faulty token after right ones. Where it is allowed it is that of the rule that it breaks; where it isn't, what
-- else is said of it, and Syntax where nothing is.
pub data HasKind (ts : List Token) (t : Token) : WktKind → Type 0 where
  breaks : {kind : WktKind} (rule : TokenRule) (continues : Continues ts t rule) →
      fault_under rule (begun_along 0 continues.front) t ≡ Some kind → HasKind ts t kind
  unknown_type : IsRefused ts t → IsUnknownType ts t → HasKind ts t UnknownType
  ragged : IsRefused ts t → IsRagged ts t → HasKind ts t Ragged
  syntax : IsRefused ts t → (IsUnknownType ts t → ⊥) → (IsRagged ts t → ⊥) → HasKind ts t Syntax

-- Only white space follows a place.
abbrev pub IsOnlyWhite : List ℕ → ℕ → Type 0
IsOnlyWhite bytes from = IsTrue (list_all is_white (drop from bytes))

-- The first fault from a place on. There is none where only white space follows, or where a geometry is read. Else it is the
-- first faulty token: the tokens before it are right, and with it they are no more. It has this kind and stands at this place.
pub record FirstFault (scale : ℕ) (bytes : List ℕ) (from : ℕ) (kind : WktKind) (place : ℕ) : Type 0 where
  pub some : IsOnlyWhite bytes from → ⊥
  pub unread : (figure : Figure) (last : ℕ) → Reads scale bytes from figure last → ⊥
  pub before : List Token
  pub after : ℕ
  pub stands : Stands scale bytes from before after
  pub right : IsRight before
  pub wrong : IsRight (before ++ (lexeme_at scale bytes after).token ∷ []) → ⊥
  pub kind_is : HasKind before (lexeme_at scale bytes after).token kind
  pub place_is : place ≡ (lexeme_at scale bytes after).start

-- Memory may run out at a token that is right after those before it. So it never runs out at the first faulty token or after it.
pub record RunsOut (scale : ℕ) (bytes : List ℕ) (from : ℕ) : Type 0 where
  pub before : List Token
  pub after : ℕ
  pub stands : Stands scale bytes from before after
  pub right : IsRight (before ++ (lexeme_at scale bytes after).token ∷ [])
