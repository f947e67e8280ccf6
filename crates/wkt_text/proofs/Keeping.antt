-- What each token keeps of what is built, all tokens keep.
use Rattle.std.proofs.Common.{◌≡◌, ℤ, cond, Bool, true, false, Option, Some, None, Result, Ok, Err, List, [], ◌∷◌, refl, subst}
use Rattle.wkt_text.specs.declared.number.Numeral.TheVariants.{Long, Malformed, Fraction, Wide, Whole}
use Rattle.wkt_text.specs.declared.token.Token.{Token}
use Rattle.wkt_text.specs.declared.token.Token.TheVariants as token
use Rattle.wkt_text.specs.declared.state.Role.{Role}
use Rattle.wkt_text.specs.declared.control.WktKind.{WktKind}
use Rattle.wkt_text.specs.declared.control.WktKind.TheVariants.{RingShort, RingOpen}
use Rattle.wkt_text.specs.declared.build.Build.{Build}
use Rattle.wkt_text.proofs.Moves.{Move, tokens_in}
use Rattle.wkt_text.specs.Building.{◌>>=◌, place_value, unless, act, act_by}
use Rattle.wkt_text.proofs.Courses.{builds, ok_same}

-- What is built, if anything, has a property.
abbrev pub Holds : (Build → Type 0) → Result Build WktKind → Type 0
Holds P (Ok b) = P b
Holds P (Err k) = Unit {0}

-- It has the property where both ways of a test have it, where every value gives it, or where a rule that is kept gives it.
pub holds_if : (P : Build → Type 0) (c : Bool) (x y : Result Build WktKind) → (c ≡ true → Holds P x) → (c ≡ false → Holds P y) →
    Holds P (cond c x y)
holds_if P true x y f g = f refl
holds_if P false x y f g = g refl

pub holds_value : (P : Build → Type 0) (t : Token) (f : ℤ → Build) → ((z : ℤ) → place_value t ≡ Ok z → P (f z)) →
    Holds P (place_value t >>= λ z. Ok (f z))
holds_value P (token.Number Long) f h = tt
holds_value P (token.Number Malformed) f h = tt
holds_value P (token.Number Fraction) f h = tt
holds_value P (token.Number Wide) f h = tt
holds_value P (token.Number (Whole z)) f h = h z refl
holds_value P other f h = tt

pub holds_unless : (P : Build → Type 0) (o : Option WktKind) (b : Build) → (o ≡ None → P b) → Holds P (unless o b)
holds_unless P None b h = h refl
holds_unless P (Some k) b h = tt

-- A ring without a fault has four positions or more, and its ends meet.
pub ring_tests : (short meet : Bool) → cond short (Some RingShort) (cond meet None (Some RingOpen)) ≡ None → (short ≡ false) × (meet ≡ true)
ring_tests true meet e = absurd (cc)
ring_tests false true e = (refl, refl)
ring_tests false false e = absurd (cc)

-- All tokens of a list have a property.
abbrev pub AllTokens : (Token → Type 0) → List Token → Type 0
AllTokens Q [] = Unit {0}
AllTokens Q (t ∷ ts) = Q t × AllTokens Q ts

held : (P : Build → Type 0) (r : Result Build WktKind) (f : Build → Result Build WktKind) (d : Build) → Holds P r → (r >>= f) ≡ Ok d →
    (b : Build) × P b × (f b ≡ Ok d)
held P (Ok b) f d h e = (b, h, e)
held P (Err k) f d h e = absurd (cc)

-- A property that each token of a kind keeps is kept along all of them.
pub kept_along : (P : Build → Type 0) (Q : Token → Type 0) →
    ((b : Build) (r : Role) (t : Token) → P b → Q t → Holds P (act_by b r t)) →
    (moves : List Move) (b d : Build) → P b → AllTokens Q (tokens_in moves) → builds b moves ≡ Ok d → P d
unfolding act
kept_along P Q step [] b d h q e = subst P (ok_same e) h
kept_along P Q step (x ∷ rest) b d h (q, qs) e =
    let (c, k, f) = held P (act_by b x.1 x.0) (λ c. builds c rest) d (step b x.1 x.0 h q) e in
    kept_along P Q step rest c d k qs f
