use Rattle.std.proofs.Common.{◌≡◌, ℕ, ◌≤◌, true, List, [], ◌∷◌, length, get_or, refl, sym, ◌∙◌, arith}
use Rattle.std.specs.Char.{is_ascii_alphabetic}
use Rattle.wkt_text.specs.Tokens.{token_in, word_in}
use Rattle.wkt_text.proofs.token.token_in.Goals as goal

-- A text that begins with a letter begins with a word.
token_in-letter : (scale : ℕ) (text : List ℕ) → 1 ≤ length text → is_ascii_alphabetic (get_or text 0 0) ≡ true →
    token_in scale text ≡ word_in text
token_in-letter scale [] some h = absurd (omega arith)
token_in-letter scale (b ∷ rest) some h = rw h refl

pub returns-then-is_ascii_alphabetic-clause-token : goal.returns-then-is_ascii_alphabetic-clause-token
returns-then-is_ascii_alphabetic-clause-token c =
    c.word_in.ensures.word ∙ sym (token_in-letter c.args.scale.digits c.args.text.now c.in-len1-up.len_at_least
    (sym c.is_ascii_alphabetic.ensures.value ∙ c.if-is_ascii_alphabetic.true))
