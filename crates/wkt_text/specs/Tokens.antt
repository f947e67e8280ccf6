-- Tokens: brackets, commas, words, numbers, bad bytes and the end, each with its place.
use Rattle.std.specs.Prelude.{ℕ, ◌+◌, Bool, true, false, ◌||◌, ◌==◌, if◌then◌else◌, Option, Some, None, List, [], ◌∷◌, drop, take_while}
use Rattle.std.specs.Prelude.{codes}
use Rattle.std.specs.List.{prefix_len}
use Rattle.std.specs.Char.{is_ascii_alphabetic, is_ascii_digit}
use Rattle.wkt_text.specs.Bytes.{is_white, is_numeric}
use Rattle.wkt_text.specs.Numbers.{numeral_of}
use Rattle.wkt_text.specs.Words.{after_name, tag_of, type_of}
use Rattle.wkt_text.specs.declared.word.TypeWord.{TypeWord}
use Rattle.wkt_text.specs.declared.word.Tag.{Tag}
use Rattle.wkt_text.specs.declared.token.Token.{Token}
use Rattle.wkt_text.specs.declared.token.Token.TheVariants as token
use Rattle.wkt_text.specs.declared.token.Lexeme.{Lexeme}

-- Whether a word is a name, in any case.
abbrev pub is_whole : Option (List ℕ) → Bool
is_whole None = false
is_whole (Some []) = true
is_whole (Some (b ∷ rest)) = false

abbrev pub is_name : List ℕ → List ℕ → Bool
is_name word name = is_whole (after_name name word)

-- A word that isn't a type word is a tag, or another word.
abbrev pub tag_token : Option Tag → Token
tag_token (Some t) = token.Tag t
tag_token None = token.Word

abbrev pub type_token : Option (TypeWord × Tag) → Option Tag → Token
type_token (Some r) other = token.Type r.0 r.1
type_token None other = tag_token other

-- The token that a word is.
abbrev pub word_token : List ℕ → Token
word_token word =
    if is_name word (codes "EMPTY") then token.Empty
    else (if is_name word (codes "NAN") then token.Nan else type_token (type_of word) (tag_of word))

-- Whether a number may begin with a byte: a digit, a sign or the point.
abbrev pub is_number_start : ℕ → Bool
is_number_start b = ((is_ascii_digit b || (b == 43)) || (b == 45)) || (b == 46)

-- The word or the number at the front of bytes: its maximal run.
abbrev pub word_in : List ℕ → Token × ℕ
word_in text = (word_token (take_while is_ascii_alphabetic text), prefix_len is_ascii_alphabetic text)

abbrev pub number_in : ℕ → List ℕ → Token × ℕ
number_in scale text = (token.Number (numeral_of scale (take_while is_numeric text)), prefix_len is_numeric text)

-- The token that a byte is by itself.
abbrev pub mark : ℕ → Token
mark b = if b == 40 then token.Open else (if b == 41 then token.Close else (if b == 44 then token.Comma else token.Bad))

-- The token at the front of bytes without white space in front, and how many of them it has.
abbrev pub token_in : ℕ → List ℕ → Token × ℕ
token_in scale [] = (token.End, 0)
token_in scale (b ∷ rest) =
    if is_ascii_alphabetic b then word_in (b ∷ rest)
    else (if is_number_start b then number_in scale (b ∷ rest) else (mark b, 1))

-- The place of the first byte from a place on that isn't white space.
abbrev pub place_of : List ℕ → ℕ → ℕ
place_of bytes at = at + prefix_len is_white (drop at bytes)

-- The first token from a place on.
unfoldable pub lexeme_at : ℕ → List ℕ → ℕ → Lexeme
lexeme_at scale bytes at =
    let found = token_in scale (drop (place_of bytes at) bytes) in
    record { token = found.0; start = place_of bytes at; «end» = place_of bytes at + found.1 }
