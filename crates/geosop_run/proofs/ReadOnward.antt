-- The end of a text that is read lies behind its beginning.
use Rattle.std.proofs.Common.{ℕ, ◌<◌, ◌≤◌, List, [], ◌∷◌, inl, inr, sym, subst, ◌∙◌, arith}
use Rattle.point_set.specs.declared.figure.Figure.{Figure}
use Rattle.wkt_text.specs.Tokens.{lexeme_at}
use Rattle.wkt_text.specs.Faults.{Stands, Reads}
use Rattle.wkt_text.specs.declared.word.TypeWord.{TypeWord}
use Rattle.wkt_text.specs.declared.word.Tag.{Tag}
use Rattle.wkt_text.specs.declared.token.Token.{Token}
use Rattle.wkt_text.specs.declared.token.Token.TheVariants as token
use Rattle.wkt_text.proofs.Laws.{lexeme_moves, type_of_geometry, spelling_first, type_is_no_end}

lexeme_onward : (scale : ℕ) (bytes : List ℕ) (from : ℕ) → from ≤ (lexeme_at scale bytes from).«end»
unfolding lexeme_at
lexeme_onward scale bytes from = omega arith

stands_onward : (scale : ℕ) (bytes : List ℕ) (from : ℕ) (ts : List Token) (last : ℕ) → Stands scale bytes from ts last → from ≤ last
stands_onward scale bytes from [] last h = omega arith
stands_onward scale bytes from (t ∷ ts) last h =
    omega (arith, lexeme_onward scale bytes from, stands_onward scale bytes (lexeme_at scale bytes from).«end» ts last h.1)

type_onward : (scale : ℕ) (bytes : List ℕ) (from : ℕ) (kind : TypeWord) (t : Tag) (more : List Token) (last : ℕ)
    → Stands scale bytes from (token.Type kind t ∷ more) last → from < last
type_onward scale bytes from kind t more last h = elim (lexeme_moves scale bytes from) [
  | inl e ↦ absurd (type_is_no_end kind t (sym e ∙ h.0))
  | inr moves ↦ omega (arith, moves, stands_onward scale bytes (lexeme_at scale bytes from).«end» more last h.1)
]

-- the end of a text that is read lies behind its beginning
pub reads_onward : (scale : ℕ) (bytes : List ℕ) (from : ℕ) (f : Figure) (last : ℕ) → Reads scale bytes from f last → from < last
reads_onward scale bytes from f last r =
    let (tag, more, first) = spelling_first r.geometry in
    type_onward scale bytes from (type_of_geometry r.geometry) tag more last
    (subst (λ (u : List Token). Stands scale bytes from u last) first r.stands)
