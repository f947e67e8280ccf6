-- The reader goes on through the bytes.
use Rattle.std.proofs.Common.{◌≡◌, ℕ, ◌<◌, true, false, Some, None, Result, Ok, Err, IsOk, List, [], ◌∷◌, ◌++◌, ◌⊎◌, inl, inr, refl, sym}
use Rattle.std.proofs.Common.{ap, subst, ◌∙◌, drop, arith}
use Rattle.std.specs.Char.{is_ascii_alphabetic}
use Rattle.wkt_text.specs.declared.token.Token.{Token}
use Rattle.wkt_text.specs.declared.token.Token.TheVariants as token
use Rattle.wkt_text.specs.declared.state.Role.{Role}
use Rattle.wkt_text.specs.declared.state.Role.TheVariants.{Deep}
use Rattle.wkt_text.specs.declared.state.Site.{Site}
use Rattle.wkt_text.specs.declared.word.Tag.{Tag}
use Rattle.wkt_text.specs.declared.state.Step.{Step}
use Rattle.wkt_text.specs.declared.state.Step.TheVariants.{Two, Three, Done}
use Rattle.wkt_text.specs.declared.state.Control.{Control}
use Rattle.wkt_text.specs.declared.control.WktKind.{WktKind}
use Rattle.wkt_text.specs.declared.build.Build.{Build}
use Rattle.wkt_text.specs.Machine.{advance, advance_by, is_done}
use Rattle.wkt_text.specs.Reading.{IsTaken, IsFaulty, IsWanting, FailsAt}
use Rattle.wkt_text.specs.Results.{IsFirstFault}
use Rattle.wkt_text.specs.declared.read.WktFault.{WktFault}
use Rattle.wkt_text.specs.declared.read.WktFault.TheVariants as fault
use Rattle.wkt_text.specs.Building.{IsCounted, act, start_build}
use Rattle.wkt_text.specs.Tokens.{token_in, is_number_start, lexeme_at, place_of}
use Rattle.wkt_text.specs.Rules.{tokens_of, KeepRules}
use Rattle.wkt_text.specs.Spelling.{spelling}
use Rattle.wkt_text.proofs.Moves.{tokens_in, course}
use Rattle.wkt_text.proofs.Alike.{alike, alike_tokens}
use Rattle.wkt_text.proofs.Agree.{agrees}
use Rattle.wkt_text.proofs.Splits.{built_whole, kept_built, kept_parts}
use Rattle.point_set.specs.declared.figure.Figure.{Figure}
use Rattle.std.proofs.lemmas.List.{append_assoc, append-nil}
use Rattle.std.proofs.lemmas.Bool.{cases_Bool}
use Rattle.std.proofs.lemmas.Option.{none-some}
use Rattle.wkt_text.specs.Faults.{Stands, Reads, IsRight, IsOnlyWhite, FirstFault, RunsOut}
use Rattle.wkt_text.proofs.Counted.{built_counted}
use Rattle.wkt_text.proofs.Spells.{spelled_run}
use Rattle.wkt_text.proofs.Courses.{run_goes, goes_same, builds, tokens_parted, ok_same}
use Rattle.wkt_text.proofs.Parses.{at, start, run_spelled, goes_run}
use Rattle.wkt_text.proofs.FirstFaults.{Taken, taken_more, taken_right, right_taken, faulty_wrong, faulty_has_kind}

-- A token that isn't the end has a byte.
token_moves : (scale : ℕ) (text : List ℕ) → ((token_in scale text).0 ≡ token.End) ⊎ (0 < (token_in scale text).1)
token_moves scale [] = inl refl
token_moves scale (b ∷ rest) = inr (elim (cases_Bool (is_ascii_alphabetic b)) [
  | inl letter ↦ rw letter (omega arith)
  | inr other ↦ elim (cases_Bool (is_number_start b)) [
    | inl first ↦ rw (other, first) (omega arith)
    | inr mark_only ↦ rw (other, mark_only) (omega arith)
  ]
])

pub lexeme_moves : (scale : ℕ) (bytes : List ℕ) (from : ℕ) →
    ((lexeme_at scale bytes from).token ≡ token.End) ⊎ (from < (lexeme_at scale bytes from).«end»)
unfolding lexeme_at
lexeme_moves scale bytes from = elim (token_moves scale (drop (place_of bytes from) bytes)) [
  | inl e ↦ inl e
  | inr some ↦ inr (omega (arith, some))
]

-- The step after the second and the one after the third ordinate refuse the end, whatever the tag.
two_refuses : (s : Site) (d : ℕ) (tag : Tag) → advance_by Two (at Two s d tag) token.End ≡ None
two_refuses s d tag = grind arith

three_refuses : (s : Site) (d : ℕ) (tag : Tag) → advance_by Three (at Three s d tag) token.End ≡ None
three_refuses s d tag = grind arith

end_refused_by : (step : Step) (s : Site) (d : ℕ) (tag : Tag) → advance_by step (at step s d tag) token.End ≡ None
end_refused_by Two s d tag = two_refuses s d tag
end_refused_by Three s d tag = three_refuses s d tag
end_refused_by other s d tag = refl

-- The end of the source is never taken, so what is taken moves on.
pub taken_moves : (scale : ℕ) (bytes : List ℕ) (from : ℕ) (c c' : Control) (b b' : Build) →
    IsTaken c b (lexeme_at scale bytes from).token c' b' → from < (lexeme_at scale bytes from).«end»
unfolding advance
taken_moves scale bytes from c c' b b' k = elim (lexeme_moves scale bytes from) [
  | inl e ↦ absurd (none-some _ (sym (end_refused_by c.step c.site c.depth c.tag) ∙ ap (λ u. advance c u) (sym e) ∙ k.next))
  | inr moves ↦ moves
]

-- ---- tokens that stand in the bytes

pub stands_push : (scale : ℕ) (bytes : List ℕ) (ts : List Token) (from at_place : ℕ) (t : Token) → Stands scale bytes from ts at_place →
    (lexeme_at scale bytes at_place).token ≡ t → Stands scale bytes from (ts ++ t ∷ []) (lexeme_at scale bytes at_place).«end»
stands_push scale bytes [] from at_place t h e =
    (ap (λ u. (lexeme_at scale bytes u).token) h ∙ e, ap (λ u. (lexeme_at scale bytes u).«end») h)
stands_push scale bytes (x ∷ ts) from at_place t (h, k) e = (h, stands_push scale bytes ts _ at_place t k e)

-- How far the reader has come.
pub record SoFar (scale : ℕ) (bytes : List ℕ) (from place : ℕ) (c : Control) (b : Build) : Type 0 where
  pub tokens : List Token
  pub stands : Stands scale bytes from tokens place
  pub taken : Taken tokens c b

pub so_far_more : (scale : ℕ) (bytes : List ℕ) (from place : ℕ) (c c' : Control) (b b' : Build) → SoFar scale bytes from place c b →
    IsTaken c b (lexeme_at scale bytes place).token c' b' → SoFar scale bytes from (lexeme_at scale bytes place).«end» c' b'
so_far_more scale bytes from place c c' b b' s k = record {
  tokens = s.tokens ++ (lexeme_at scale bytes place).token ∷ [];
  stands = stands_push scale bytes s.tokens from place _ s.stands refl;
  taken = taken_more s.tokens c c' b b' _ s.taken k;
}

-- Where the reader has come to the end, a geometry is read.
pub so_far_reads : (scale : ℕ) (bytes : List ℕ) (from place : ℕ) (c : Control) (b : Build) → SoFar scale bytes from place c b →
    c.step ≡ Done → Reads scale bytes from b.figure place
so_far_reads scale bytes from place c b s done =
    let (g, e) = run_spelled s.taken.front (goes_run s.taken.front start c s.taken.goes done) in
    let (kept, says) = built_whole (course g) (spelling g) (agrees g) b (sym (ap (λ u. builds start_build u) e) ∙ s.taken.kept) in
    let same = sym s.taken.tokens ∙ ap tokens_in e ∙ alike_tokens (alike g) in
    record { geometry = g; stands = subst (λ u. Stands scale bytes from u place) same s.stands; kept = kept; says = says }

-- What is built so far is counted.
pub so_far_counted : (scale : ℕ) (bytes : List ℕ) (from place : ℕ) (c : Control) (b : Build) → SoFar scale bytes from place c b →
    IsCounted b
so_far_counted scale bytes from place c b s = built_counted s.taken.front b s.taken.kept

-- A type word that is nested too deep is never taken.
pub deep_stops : (b b' : Build) (r : Role) (t : Token) → r ≡ Deep → act b r t ≡ Ok b' → ⊥
unfolding act
deep_stops b b' r t e h = err_ok (ap (λ u. act b u t) (sym e) ∙ h)
  where
    err_ok : {k : WktKind} {d : Build} → ◌≡◌ {A = Result Build WktKind} (Err k) (Ok d) → ⊥
    err_ok e = cc

-- ---- one reading

-- A list of tokens goes on where another ends.
pub record GoesOn (scale : ℕ) (bytes : List ℕ) (ts us : List Token) (p q : ℕ) : Type 0 where
  pub more : List Token
  pub joined : us ≡ ts ++ more
  pub stands : Stands scale bytes p more q

longer : (scale : ℕ) (bytes : List ℕ) (t u : Token) (ts us : List Token) (p q : ℕ) → u ≡ t → GoesOn scale bytes ts us p q →
    GoesOn scale bytes (t ∷ ts) (u ∷ us) p q
longer scale bytes t u ts us p q e g = record { more = g.more; joined = λ i. e i ∷ g.joined i; stands = g.stands }

-- Of two lists of tokens that stand from a place on, one goes on where the other ends.
pub stands_compare : (scale : ℕ) (bytes : List ℕ) (ts us : List Token) (from p q : ℕ) → Stands scale bytes from ts p →
    Stands scale bytes from us q → GoesOn scale bytes ts us p q ⊎ GoesOn scale bytes us ts q p
stands_compare scale bytes [] us from p q h k =
    inl (record { more = us; joined = refl; stands = subst (λ u. Stands scale bytes u us q) h k })
stands_compare scale bytes (t ∷ ts) [] from p q h k =
    inr (record { more = t ∷ ts; joined = refl; stands = subst (λ u. Stands scale bytes u (t ∷ ts) p) k h })
stands_compare scale bytes (t ∷ ts) (u ∷ us) from p q (e, h) (f, k) = elim (stands_compare scale bytes ts us _ p q h k) [
  | inl on ↦ inl (longer scale bytes t u ts us p q (sym f ∙ e) on)
  | inr on ↦ inr (longer scale bytes u t us ts q p (sym e ∙ f) on)
]

-- What is read was taken to its end, and this figure was built.
pub record Whole (ts : List Token) (figure : Figure) : Type 0 where
  pub control : Control
  pub build : Build
  pub taken : Taken ts control build
  pub done : control.step ≡ Done
  pub says : figure ≡ build.figure

pub reads_whole : (scale : ℕ) (bytes : List ℕ) (from : ℕ) (figure : Figure) (last : ℕ) (r : Reads scale bytes from figure last) →
    Whole (tokens_of (spelling r.geometry)) figure
reads_whole scale bytes from figure last r =
    let g = r.geometry in
    let (c, goes, done) = run_goes (course g) start (spelled_run g) in
    let all = kept_built (course g) (spelling g) (agrees g) r.kept in
    record {
      control = c;
      build = all.build;
      taken = record { front = course g; tokens = alike_tokens (alike g); goes = goes; kept = all.built };
      done = done;
      says = r.says ∙ sym all.last;
    }

-- After the end nothing is taken.
done_takes_none : (c c' : Control) (t : Token) (r : Role) → c.step ≡ Done → advance c t ≡ Some (r, c') → ⊥
unfolding advance
done_takes_none c c' t r done e = none-some _ (ap (λ s. advance_by s c t) (sym done) ∙ e)

taken_same : (ts : List Token) (c d : Control) (b e : Build) → Taken ts c b → Taken ts d e → (c ≡ d) × (b ≡ e)
taken_same ts c d b e k l =
    let (fronts, controls) = goes_same k.front l.front start c d k.goes l.goes (k.tokens ∙ sym l.tokens) in
    (controls, ok_same (sym k.kept ∙ ap (λ u. builds start_build u) fronts ∙ l.kept))

-- The first of more tokens.
pub right_front : (ts more : List Token) (t : Token) → IsRight (ts ++ t ∷ more) → IsRight (ts ++ t ∷ [])
right_front ts more t r =
    let p = tokens_parted r.front (ts ++ t ∷ []) more (r.tokens ∙ sym (append_assoc ts (t ∷ []) more)) in
    record {
      geometry = r.geometry;
      front = p.front;
      rest = p.rest ++ r.rest;
      spelled = r.spelled ∙ ap (λ u. u ++ r.rest) p.joined ∙ append_assoc p.front p.rest r.rest;
      tokens = p.tokens;
      kept = (kept_parts p.front p.rest 0 (subst (KeepRules 0) p.joined r.kept)).0;
    }

-- A list of tokens that is whole goes no further.
whole_ends : (ts more : List Token) (f : Figure) (c : Control) (d : Build) → Whole ts f → Taken (ts ++ more) c d → more ≡ []
whole_ends ts [] f c d w k = refl
whole_ends ts (t ∷ more) f c d w k =
    let (c', b', n) = right_taken ts w.control w.build t w.taken (right_front ts more t (taken_right (ts ++ t ∷ more) c d k)) in
    absurd (done_takes_none w.control c' t n.role w.done n.next)

-- Two readings are one.
pub one_reading : (scale : ℕ) (bytes : List ℕ) (from : ℕ) (f g : Figure) (p q : ℕ) → Reads scale bytes from f p →
    Reads scale bytes from g q → (f ≡ g) × (p ≡ q)
one_reading scale bytes from f g p q r s = go (stands_compare scale bytes ts us from p q r.stands s.stands)
  where
    ts : List Token
    ts = tokens_of (spelling r.geometry)

    us : List Token
    us = tokens_of (spelling s.geometry)

    w : Whole ts f
    w = reads_whole scale bytes from f p r

    v : Whole us g
    v = reads_whole scale bytes from g q s

    by_tokens : ts ≡ us → f ≡ g
    by_tokens e =
        let same = taken_same ts w.control v.control w.build v.build w.taken (subst (λ u. Taken u v.control v.build) (sym e) v.taken) in
        w.says ∙ ap (λ (u : Build). u.figure) same.1 ∙ sym v.says

    ends_at : (more : List Token) (a b : ℕ) → more ≡ [] → Stands scale bytes a more b → a ≡ b
    ends_at [] a b e h = h
    ends_at (t ∷ more) a b e h = absurd (cc)

    go : GoesOn scale bytes ts us p q ⊎ GoesOn scale bytes us ts q p → (f ≡ g) × (p ≡ q)
    go (inl on) =
        let none = whole_ends ts on.more f v.control v.build w (subst (λ u. Taken u v.control v.build) on.joined v.taken) in
        (by_tokens (sym (on.joined ∙ ap (λ u. ts ++ u) none ∙ append-nil ts)), ends_at on.more p q none on.stands)
    go (inr on) =
        let none = whole_ends us on.more g w.control w.build v (subst (λ u. Taken u w.control w.build) on.joined w.taken) in
        (by_tokens (on.joined ∙ ap (λ u. us ++ u) none ∙ append-nil us), sym (ends_at on.more q p none on.stands))

-- Where the reader stops before the end, nothing is read.
pub stopped_unread : (scale : ℕ) (bytes : List ℕ) (from place : ℕ) (c : Control) (b : Build) (kind : WktKind) →
    SoFar scale bytes from place c b →
    (c.step ≡ Done → ⊥) → IsFaulty c b (lexeme_at scale bytes place).token kind → (figure : Figure) (last : ℕ) →
    Reads scale bytes from figure last → ⊥
stopped_unread scale bytes from place c b kind s not_done faulty figure last r =
    go (stands_compare scale bytes s.tokens ts from place last s.stands r.stands)
  where
    ts : List Token
    ts = tokens_of (spelling r.geometry)

    w : Whole ts figure
    w = reads_whole scale bytes from figure last r

    same_tokens : ts ≡ s.tokens → ⊥
    same_tokens e =
        let same = taken_same s.tokens w.control c w.build b (subst (λ u. Taken u w.control w.build) e w.taken) s.taken in
        not_done (ap (λ (u : Control). u.step) (sym same.0) ∙ w.done)

    goes_on : (more : List Token) → ts ≡ s.tokens ++ more → Stands scale bytes place more last → ⊥
    goes_on [] e h = same_tokens (e ∙ append-nil s.tokens)
    goes_on (t ∷ more) e (f, h) =
        faulty_wrong s.tokens c b _ kind s.taken faulty
        (subst (λ u. IsRight (s.tokens ++ u ∷ [])) (sym f)
        (right_front s.tokens more t (subst IsRight e (taken_right ts w.control w.build w.taken))))

    go : GoesOn scale bytes s.tokens ts place last ⊎ GoesOn scale bytes ts s.tokens last place → ⊥
    go (inl on) = goes_on on.more on.joined on.stands
    go (inr on) =
        let none = whole_ends ts on.more figure c b w (subst (λ u. Taken u c b) on.joined s.taken) in
        same_tokens (sym (on.joined ∙ ap (λ u. ts ++ u) none ∙ append-nil ts))

pub so_far_fault : (scale : ℕ) (bytes : List ℕ) (from place : ℕ) (c : Control) (b : Build) (kind : WktKind) (start_place : ℕ) →
    (IsOnlyWhite bytes from → ⊥) → (c.step ≡ Done → ⊥) → SoFar scale bytes from place c b →
    IsFaulty c b (lexeme_at scale bytes place).token kind → start_place ≡ (lexeme_at scale bytes place).start →
    FirstFault scale bytes from kind start_place
so_far_fault scale bytes from place c b kind start_place some not_done s f e = record {
  some = some;
  unread = stopped_unread scale bytes from place c b kind s not_done f;
  before = s.tokens;
  after = place;
  stands = s.stands;
  right = taken_right s.tokens c b s.taken;
  wrong = faulty_wrong s.tokens c b _ kind s.taken f;
  kind_is = faulty_has_kind s.tokens c b _ kind s.taken f;
  place_is = e;
}

ok_of : (r : Result Build WktKind) → IsOk r → (d : Build) × (r ≡ Ok d)
ok_of (Ok d) h = (d, refl)
ok_of (Err k) h = absurd (cc)

-- Where the reader wants memory, the token is right.
so_far_wants : (scale : ℕ) (bytes : List ℕ) (from place : ℕ) (c : Control) (b : Build) → SoFar scale bytes from place c b →
    IsWanting c b (lexeme_at scale bytes place).token → RunsOut scale bytes from
so_far_wants scale bytes from place c b s w =
    let (d, e) = ok_of (act b w.role (lexeme_at scale bytes place).token) w.kept in
    let more = taken_more s.tokens c w.control b d _ s.taken (record { role = w.role; next = w.next; done = e }) in
    record { before = s.tokens; after = place; stands = s.stands; right = taken_right _ w.control d more }

-- Where the reader stops, it is at the first fault, or memory ran out before it.
pub so_far_stop : (scale : ℕ) (bytes : List ℕ) (from place : ℕ) (c : Control) (b : Build) (e : WktFault) →
    (IsOnlyWhite bytes from → ⊥) → (c.step ≡ Done → ⊥) → SoFar scale bytes from place c b →
    FailsAt e (lexeme_at scale bytes place).start c b (lexeme_at scale bytes place).token → IsFirstFault e scale bytes from
so_far_stop scale bytes from place c b (fault.Bad kind at_place) some not_done s (e, f) =
    so_far_fault scale bytes from place c b kind at_place some not_done s f e
so_far_stop scale bytes from place c b fault.NoMemory some not_done s w = so_far_wants scale bytes from place c b s w

pub not_done_from : (step : Step) → is_done step ≡ false → step ≡ Done → ⊥
not_done_from Done e f = absurd (cc)
not_done_from other e f = absurd (cc)

pub done_from : (step : Step) → is_done step ≡ true → step ≡ Done
done_from Done e = refl
done_from other e = absurd (cc)
