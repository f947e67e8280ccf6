-- The test of the value is that of its bytes.
use Rattle.std.proofs.Common.{◌≡◌, ◌∙◌, ◌↔◌, IsTrue, ℕ, List, Option, Some, None, Bool, sym, ap, true≢false, option_map}
use Rattle.std.specs.Borrow.{Bor}
use Rattle.std.specs.Option.{option_eq}
use Rattle.std.specs.Str.{bytes_eq}
use Rattle.std.proofs.lemmas.Option.{none-some, same_Some}
use Rattle.std.proofs.lemmas.Slice.Eq.{bytes_eq-Decides}
use Rattle.clap.specs.Matches.{found_of}
use Rattle.geosop_line.proofs.Values.{value_is}
use Rattle.geosop_line.proofs.line.is_set.Goals as goal

-- a text that may be missing passes the test of equality where it is the other one
same_word : (o : Option (Bor (List ℕ))) (word : Bor (List ℕ)) (test : Bool) → test ≡ option_eq (λ x y. bytes_eq x.now y.now) o (Some word)
    → IsTrue test ↔ (option_map (λ s. s.now) o ≡ Some word.now)
same_word None word test is = (λ passed. absurd (true≢false (sym passed ∙ is)), λ e. absurd (none-some word.now e))
same_word (Some x) word test is = (
  λ passed. ap Some ((bytes_eq-Decides x.now word.now).0 (sym is ∙ passed)),
  λ e. is ∙ (bytes_eq-Decides x.now word.now).1 (same_Some x.now word.now e),
)

pub returns : goal.returns
returns c =
    let value = value_is (found_of c.args.matches.now) c.args.id.now c.get_str.ensures in
    record { set = rw (← value) (same_word c.get_str.result _ _ c.eq.ensures) }
