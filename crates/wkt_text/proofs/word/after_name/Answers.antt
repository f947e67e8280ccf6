use Rattle.std.proofs.Common.{◌≡◌, ℕ, ◌≤◌, ◌<◌, List, length, drop, None, sym, ◌∙◌, refl}
use Rattle.std.proofs.lemmas.List.{drop_more, drop_all}
use Rattle.wkt_text.specs.Words.{after_name}
use Rattle.wkt_text.proofs.word.after_name.Goals as goal

-- A word that ends before a name doesn't begin with it.
short_word : (name word : List ℕ) (i : ℕ) → i < length name → length word ≤ i → after_name (drop i name) (drop i word) ≡ None
short_word name word i within ended = rw (drop_more name i 0 within, drop_all i word ended) refl

pub returns-then-i-word : goal.returns-then-i-word
returns-then-i-word c =
    record {
      rest = sym (short_word c.args.name.now c.args.word.now c.loop-i.i c.loop-i-test.true c.if-i-word.true)
          ∙ c.loop-i.invariant.same;
    }
