-- The first token that the reader doesn't take is the first faulty one, and of its kind.
use Rattle.std.proofs.Common.{◌≡◌, ℕ, zero, suc, nat_lt, cond, Bool, true, false, Option, Some, None, option_map, Ok, List, [], ◌∷◌, ◌++◌}
use Rattle.std.proofs.Common.{◌⊎◌, inl, inr, refl, sym, ap, subst, ◌∙◌}
use Rattle.std.proofs.lemmas.List.{append_assoc, same_from_push}
use Rattle.std.proofs.lemmas.Option.{none-some, some_pair_parts}
use Rattle.wkt_text.specs.declared.word.TypeWord.{TypeWord}
use Rattle.wkt_text.specs.declared.word.TypeWord.TheVariants as type
use Rattle.wkt_text.specs.declared.word.Tag.{Tag}
use Rattle.wkt_text.specs.declared.word.Tag.TheVariants.{Plain, Z, M, Zm}
use Rattle.wkt_text.specs.declared.token.Token.{Token}
use Rattle.wkt_text.specs.declared.token.Token.TheVariants as token
use Rattle.wkt_text.specs.declared.state.Role.{Role}
use Rattle.wkt_text.specs.declared.state.Role.TheVariants.{Head, Deep, Demanded, Mark}
use Rattle.wkt_text.specs.declared.state.Rings.TheVariants.{Shell, Hole, Hollow}
use Rattle.wkt_text.specs.declared.state.Membership.TheVariants.{Alone, Member}
use Rattle.wkt_text.specs.declared.state.RingKind.TheVariants as ring
use Rattle.wkt_text.specs.declared.state.Site.{Site}
use Rattle.wkt_text.specs.declared.state.Site.TheVariants as site
use Rattle.wkt_text.specs.declared.state.Step.{Step}
use Rattle.wkt_text.specs.declared.state.Step.TheVariants.{Start, Tagged, Body, Item, First, Second, Two, Three, After, Full, Done}
use Rattle.wkt_text.specs.declared.state.Control.{Control}
use Rattle.wkt_text.specs.declared.control.WktKind.{WktKind}
use Rattle.wkt_text.specs.declared.control.WktKind.TheVariants.{Syntax, UnknownType, Ragged}
use Rattle.wkt_text.specs.declared.build.Build.{Build}
use Rattle.wkt_text.specs.Machine.{Next, advance, advance_by, at_after, at_body, refused_kind, refused_by, step_ended, second_role, opened}
use Rattle.wkt_text.specs.Machine.{depth_after, step_tagged, inner, to, bare, at_more, after_two, end_role, after_close_of, after_comma}
use Rattle.wkt_text.specs.Machine.{outer}
use Rattle.wkt_text.proofs.Moves.{Move, move, tokens_in, course}
use Rattle.wkt_text.proofs.Alike.{AreAlike, alike, alike_tokens, first_move, first_slot, split_slots, split_moves, third_of_role}
use Rattle.wkt_text.proofs.Alike.{third_of_rule}
use Rattle.wkt_text.proofs.Agree.{Agrees, IsFigureOf, agrees}
use Rattle.wkt_text.proofs.Splits.{Meets, goes, stops, built_kept, meets_fault, agrees_first, kept_parts}
use Rattle.wkt_text.specs.Building.{act, start_build}
use Rattle.wkt_text.specs.Reading.{IsTaken, IsFaulty}
use Rattle.wkt_text.specs.Limits.{most_depth}
use Rattle.wkt_text.specs.Grammar.{Geometry}
use Rattle.wkt_text.specs.Rules.{TokenRule, demanded, further, Slot, slot, fault_under, begun_along, KeepRules}
use Rattle.wkt_text.specs.Spelling.{spelling}
use Rattle.wkt_text.specs.Faults.{IsRight, Continues, IsRefused, IsTypeExpected, IsOrdinateDemanded, IsWord, IsOrdinate, IsAfterThird}
use Rattle.wkt_text.specs.Faults.{IsUnknownType, IsRagged, HasKind, breaks, unknown_type, ragged, syntax}
use Rattle.wkt_text.proofs.Parses.{at, start, Run, Goes, run_spelled}
use Rattle.wkt_text.proofs.Spells.{spelled_run}
use Rattle.wkt_text.proofs.Ends.{ends}
use Rattle.wkt_text.proofs.Courses.{goes_split, goes_join, goes_push, goes_same, Last, last_of, builds, builds_front, builds_push, Pushed}
use Rattle.wkt_text.proofs.Courses.{tokens_pushed, tokens_in-push, ok_err}

-- The reader has taken these tokens: it is there, and has built that.
pub record Taken (ts : List Token) (c : Control) (b : Build) : Type 0 where
  pub front : List Move
  pub tokens : tokens_in front ≡ ts
  pub goes : Goes start front c
  pub kept : builds start_build front ≡ Ok b

pub agrees_so : (g : Geometry) (moves : List Move) (slots : List Slot) → course g ≡ moves → spelling g ≡ slots →
    Agrees (IsFigureOf g) start_build 0 moves slots
agrees_so g moves slots e f =
    subst (λ u. Agrees (IsFigureOf g) start_build 0 u slots) e (subst (λ u. Agrees (IsFigureOf g) start_build 0 (course g) u) f (agrees g))

-- What is taken is right.
pub taken_right : (ts : List Token) (c : Control) (b : Build) → Taken ts c b → IsRight ts
taken_right ts c b k =
    let (rest, h) = ends c in
    let (g, e) = run_spelled (k.front ++ rest) (goes_join k.front rest start c k.goes h) in
    let s = split_slots k.front rest (spelling g) (subst (λ u. AreAlike u (spelling g)) (sym e) (alike g)) in
    let a = agrees_so g (k.front ++ rest) (s.before ++ s.after) (sym e) s.joined in
    record {
      geometry = g;
      front = s.before;
      rest = s.after;
      spelled = s.joined;
      tokens = sym (alike_tokens s.alike_before) ∙ k.tokens;
      kept = (built_kept k.front rest s.before s.after a s.alike_before b k.kept).kept;
    }

-- Some text goes on with a token that the reader takes.
pub taken_continues : (ts : List Token) (c c' : Control) (b : Build) (t : Token) (r : Role) → Taken ts c b → advance c t ≡ Some (r, c') →
    (rule : TokenRule) × Continues ts t rule
taken_continues ts c c' b t r k next =
    let (rest, h) = ends c' in
    let (g, e) = run_spelled (k.front ++ move t r ∷ rest) (goes_join k.front (move t r ∷ rest) start c k.goes (c', next, h)) in
    let s = split_slots k.front (move t r ∷ rest) (spelling g) (subst (λ u. AreAlike u (spelling g)) (sym e) (alike g)) in
    let x = first_slot s.after t r rest s.alike_after in (
      x.rule,
      record {
        geometry = g;
        front = s.before;
        rest = x.more;
        spelled = s.joined ∙ ap (λ u. s.before ++ u) x.joined;
        tokens = sym (alike_tokens s.alike_before) ∙ k.tokens;
      },
    )

-- The reader takes the token for a role that agrees with its rule.
pub record Meeting (c : Control) (b : Build) (t : Token) (rule : TokenRule) (n : ℕ) : Type 0 where
  pub role : Role
  pub control : Control
  pub next : advance c t ≡ Some (role, control)
  pub third : third_of_role role ≡ third_of_rule rule
  pub meets : Meets b n t role rule

-- Where some text goes on with a token, the reader takes it, or stops with the fault of the rule that it breaks.
pub continues_taken : (ts : List Token) (c : Control) (b : Build) (t : Token) (rule : TokenRule) → Taken ts c b →
    (n : Continues ts t rule) → Meeting c b t rule (begun_along 0 n.front)
continues_taken ts c b t rule k n =
    let g = n.geometry in
    let s = split_moves n.front (slot t rule ∷ n.rest) (course g) (subst (λ u. AreAlike (course g) u) n.spelled (alike g)) in
    let x = first_move s.after t rule n.rest s.alike_after in
    let whole = s.joined ∙ ap (λ u. s.before ++ u) x.joined in
    let (d, went, (c', e, h)) = goes_split s.before (move t x.role ∷ x.more) start (subst (λ u. Run start u) whole (spelled_run g)) in
    let same : tokens_in k.front ≡ tokens_in s.before = k.tokens ∙ sym n.tokens ∙ sym (alike_tokens s.alike_before) in
    let (fronts, controls) = goes_same k.front s.before start c d k.goes went same in
    let a = agrees_so g (s.before ++ move t x.role ∷ x.more) (n.front ++ slot t rule ∷ n.rest) whole n.spelled in
    let built = ap (builds start_build) (sym fronts) ∙ k.kept in
    let rest = built_kept s.before (move t x.role ∷ x.more) n.front (slot t rule ∷ n.rest) a s.alike_before b built in
    record {
      role = x.role;
      control = c';
      next = subst (λ u. advance u t ≡ Some (x.role, c')) (sym controls) e;
      third = x.third;
      meets = agrees_first (move t x.role) (slot t rule) x.more n.rest rest.agrees;
    }

some_none : {A : Type 0} {x : A} → Some x ≡ None → ⊥
some_none e = cc

-- Where the tokens are right with one more, the reader takes it.
pub right_taken : (ts : List Token) (c : Control) (b : Build) (t : Token) → Taken ts c b → IsRight (ts ++ t ∷ []) →
    (c' : Control) × (b' : Build) × IsTaken c b t c' b'
right_taken ts c b t k n = go (continues_taken ts c b t p.last k one)
  where
    p : Pushed TokenRule n.front ts t
    p = tokens_pushed n.front ts t n.tokens

    one : Continues ts t p.last
    one = record {
      geometry = n.geometry;
      front = p.front;
      rest = n.rest;
      spelled = n.spelled ∙ ap (λ u. u ++ n.rest) p.joined ∙ append_assoc p.front (slot t p.last ∷ []) n.rest;
      tokens = p.tokens;
    }

    kept : fault_under p.last (begun_along 0 p.front) t ≡ None
    kept = (kept_parts p.front (slot t p.last ∷ []) 0 (subst (KeepRules 0) p.joined n.kept)).1.0

    by : (role : Role) (c' : Control) → advance c t ≡ Some (role, c') → Meets b (begun_along 0 p.front) t role p.last →
        (c' : Control) × (b' : Build) × IsTaken c b t c' b'
    by role c' e (goes b' done f) = (c', b', record { role = role; next = e; done = done })
    by role c' e (stops kind done f) = absurd (some_none (sym f ∙ kept))

    go : Meeting c b t p.last (begun_along 0 p.front) → (c' : Control) × (b' : Build) × IsTaken c b t c' b'
    go m = by m.role m.control m.next m.meets

-- One more token is taken.
pub taken_more : (ts : List Token) (c c' : Control) (b b' : Build) (t : Token) → Taken ts c b → IsTaken c b t c' b' →
    Taken (ts ++ t ∷ []) c' b'
taken_more ts c c' b b' t k n = record {
  front = k.front ++ move t n.role ∷ [];
  tokens = tokens_in-push k.front t n.role ∙ ap (λ u. u ++ t ∷ []) k.tokens;
  goes = goes_push k.front start c c' t n.role k.goes n.next;
  kept = builds_push k.front start_build b b' t n.role k.kept n.done;
}

-- ---- what a purpose says of where the reader is

abbrev IsStart : Step → Type 0
IsStart Start = Unit {0}
IsStart other = ⊥

abbrev IsFull : Step → Type 0
IsFull Full = Unit {0}
IsFull other = ⊥

abbrev IsNotFull : Step → Type 0
IsNotFull Full = ⊥
IsNotFull other = Unit {0}

abbrev IsLate : Step → Type 0
IsLate Full = Unit {0}
IsLate Three = Unit {0}
IsLate other = ⊥

abbrev IsTagged : Tag → Type 0
IsTagged Plain = ⊥
IsTagged other = Unit {0}

abbrev IsDemanding : Step → Tag → Type 0
IsDemanding Two tag = IsTagged tag
IsDemanding Three tag = IsTagged tag
IsDemanding other tag = ⊥

-- A third or fourth ordinate comes late, and the tag demands it where it does; no other token fills a position.
abbrev ThirdFact : Option Bool → Step → Tag → Step → Type 0
ThirdFact (Some true) step tag next = IsDemanding step tag × IsLate next
ThirdFact (Some false) step tag next = IsLate next
ThirdFact None step tag next = IsNotFull next

abbrev Fact : Step → Tag → Next → Type 0
Fact step tag None = Unit {0}
Fact step tag (Some n) = ThirdFact (third_of_role n.0) step tag n.1.step

ended_not_full : (d : ℕ) → IsNotFull (step_ended d)
ended_not_full zero = tt
ended_not_full (suc d) = tt

closed_fact : (s : Site) (c : Control) (step : Step) (tag : Tag) → ThirdFact (third_of_role (end_role s)) step tag (after_close_of c s).step
closed_fact site.Top c step tag = ended_not_full (outer c.depth)
closed_fact (site.Line Alone) c step tag = ended_not_full c.depth
closed_fact (site.Line Member) c step tag = tt
closed_fact site.Element c step tag = tt
closed_fact (site.Polygon Alone Shell) c step tag = ended_not_full c.depth
closed_fact (site.Polygon Alone Hole) c step tag = ended_not_full c.depth
closed_fact (site.Polygon Alone Hollow) c step tag = ended_not_full c.depth
closed_fact (site.Polygon Member Shell) c step tag = tt
closed_fact (site.Polygon Member Hole) c step tag = tt
closed_fact (site.Polygon Member Hollow) c step tag = tt
closed_fact (site.Ring many ring.Shell) c step tag = tt
closed_fact (site.Ring many ring.Hole) c step tag = tt
closed_fact other c step tag = ended_not_full c.depth

comma_fact : (s : Site) (c : Control) (step : Step) (tag : Tag) → Fact step tag (option_map (λ u. (Mark, to c u c.site)) (after_comma s))
comma_fact (site.Polygon many Shell) c step tag = tt
comma_fact (site.Polygon many Hole) c step tag = tt
comma_fact (site.Polygon many Hollow) c step tag = tt
comma_fact other c step tag = tt

fact_after : (step : Step) (c : Control) (tag : Tag) (t : Token) → Fact step tag (at_after c t)
fact_after step c tag token.Comma = comma_fact c.site c step tag
fact_after step c tag token.Close = closed_fact c.site (to c After c.site) step tag
fact_after step c tag other = tt

opened_fact : (step : Step) (tag : Tag) (c : Control) (kind : TypeWord) → Fact step tag (Some (opened c kind))
opened_fact step tag c type.Point = tt
opened_fact step tag c other = tt

fact_body : (step : Step) (kind : TypeWord) (c : Control) (tag : Tag) (t : Token) → Fact step tag (at_body c kind t)
fact_body step kind c tag token.Empty = ended_not_full (depth_after kind c.depth)
fact_body step kind c tag token.Open = opened_fact step tag c kind
fact_body step kind c tag other = tt

fact_head : (b : Bool) (step next : Step) (tag : Tag) → IsNotFull next → ThirdFact (third_of_role (cond b Head Deep)) step tag next
fact_head true step next tag h = h
fact_head false step next tag h = h

tagged_not_full : (kind : TypeWord) (tag : Tag) → IsNotFull (step_tagged kind tag)
tagged_not_full kind Plain = tt
tagged_not_full kind other = tt

fact_start : (s : Site) (d : ℕ) (tag : Tag) (t : Token) → Fact Start tag (advance_by Start (at Start s d tag) t)
fact_start s d tag (token.Type type.GeometryCollection u) =
    fact_head (nat_lt d most_depth) Start _ tag (tagged_not_full type.GeometryCollection u)
fact_start s d tag (token.Type kind u) = tagged_not_full kind u
fact_start s d tag other = tt

inner_fact : (s : Site) (c : Control) (tag : Tag) → Fact Item tag (option_map (λ r. (Mark, to c r.0 r.1)) (inner s))
inner_fact (site.Polygon many Shell) c tag = tt
inner_fact (site.Polygon many Hole) c tag = tt
inner_fact (site.Polygon many Hollow) c tag = tt
inner_fact other c tag = tt

bare_fact : (s : Site) (c : Control) (tag : Tag) → Fact Item tag (bare c s)
bare_fact site.Points c tag = tt
bare_fact other c tag = tt

fact_item : (s : Site) (d : ℕ) (tag : Tag) (t : Token) → Fact Item tag (advance_by Item (at Item s d tag) t)
fact_item s d tag token.Open = inner_fact s (at Item s d tag) tag
fact_item s d tag (token.Number n) = bare_fact s (at Item s d tag) tag
fact_item s d tag other = tt

fact_second : (s : Site) (tag : Tag) → ThirdFact (third_of_role (second_role s)) Second tag Two
fact_second site.Point tag = tt
fact_second other tag = tt

fact_more : (step next : Step) (s : Site) (d : ℕ) (tag : Tag) (t : Token) → IsLate next → (IsTagged tag → IsDemanding step tag) →
    Fact step tag (at_more (at step s d tag) next t)
fact_more step next s d Plain (token.Number n) late tagged = late
fact_more step next s d Plain token.Nan late tagged = late
fact_more step next s d Plain other late tagged = fact_after step (at step s d Plain) Plain other
fact_more step next s d Z (token.Number n) late tagged = (tagged tt, late)
fact_more step next s d Z token.Nan late tagged = (tagged tt, late)
fact_more step next s d Z other late tagged = tt
fact_more step next s d M (token.Number n) late tagged = (tagged tt, late)
fact_more step next s d M token.Nan late tagged = (tagged tt, late)
fact_more step next s d M other late tagged = tt
fact_more step next s d Zm (token.Number n) late tagged = (tagged tt, late)
fact_more step next s d Zm token.Nan late tagged = (tagged tt, late)
fact_more step next s d Zm other late tagged = tt

two_late : (tag : Tag) → IsLate (after_two tag)
two_late Plain = tt
two_late other = tt

fact : (step : Step) (s : Site) (d : ℕ) (tag : Tag) (t : Token) → Fact step tag (advance_by step (at step s d tag) t)
fact Start s d tag t = fact_start s d tag t
fact (Tagged kind) s d tag (token.Tag u) = tt
fact (Tagged kind) s d tag other = fact_body (Tagged kind) kind (at (Tagged kind) s d tag) tag other
fact (Body kind) s d tag t = fact_body (Body kind) kind (at (Body kind) s d tag) tag t
fact Item s d tag t = fact_item s d tag t
fact First s d tag (token.Number n) = tt
fact First s d tag other = tt
fact Second s d tag (token.Number n) = fact_second s tag
fact Second s d tag other = tt
fact Two s d tag t = fact_more Two (after_two tag) s d tag t (two_late tag) (λ h. h)
fact Three s d tag t = fact_more Three Full s d tag t tt (λ h. h)
fact After s d tag t = fact_after After (at After s d tag) tag t
fact Full s d tag t = fact_after Full (at Full s d tag) tag t
fact Done s d tag t = tt

-- What is so of a token that the reader takes, by its rule.
meeting_fact : {c : Control} {b : Build} {t : Token} {rule : TokenRule} {n : ℕ} (m : Meeting c b t rule n) →
    ThirdFact (third_of_rule rule) c.step c.tag m.control.step
unfolding advance
meeting_fact {c} {b} {t} m =
    subst (λ o. ThirdFact o c.step c.tag m.control.step) m.third
    (subst (λ n. Fact c.step c.tag n) m.next (fact c.step c.site c.depth c.tag t))

-- A type word is taken at the start alone.
type_starts : (step : Step) (s : Site) (d : ℕ) (tag : Tag) (kind : TypeWord) (u : Tag) (n : Role × Control) →
    advance_by step (at step s d tag) (token.Type kind u) ≡ Some n → IsStart step
type_starts Start s d tag kind u n e = tt
type_starts Two s d Plain kind u n e = absurd (none-some _ e)
type_starts Two s d Z kind u n e = absurd (none-some _ e)
type_starts Two s d M kind u n e = absurd (none-some _ e)
type_starts Two s d Zm kind u n e = absurd (none-some _ e)
type_starts Three s d Plain kind u n e = absurd (none-some _ e)
type_starts Three s d Z kind u n e = absurd (none-some _ e)
type_starts Three s d M kind u n e = absurd (none-some _ e)
type_starts Three s d Zm kind u n e = absurd (none-some _ e)
type_starts other s d tag kind u n e = absurd (none-some _ e)

-- ---- the kind of a token that the reader doesn't take

abbrev Cause : Step → Tag → Token → WktKind → Type 0
Cause step tag t kind =
    (IsWord t × IsStart step × (kind ≡ UnknownType)) ⊎ ((IsDemanding step tag ⊎ (IsOrdinate t × IsFull step)) × (kind ≡ Ragged))
    ⊎ ((IsWord t → IsStart step → ⊥) × (IsDemanding step tag → ⊥) × (IsOrdinate t → IsFull step → ⊥) × (kind ≡ Syntax))

cause : (step : Step) (tag : Tag) (t : Token) → Cause step tag t (refused_by step tag t)
cause Start tag (token.Tag u) = inl (tt, tt, refl)
cause Start tag token.Empty = inl (tt, tt, refl)
cause Start tag token.Nan = inl (tt, tt, refl)
cause Start tag token.Word = inl (tt, tt, refl)
cause Start tag other = inr (inr (λ a b. a, λ a. a, λ a b. b, refl))
cause Two Plain t = inr (inr (λ a b. b, λ a. a, λ a b. b, refl))
cause Two Z t = inr (inl (inl tt, refl))
cause Two M t = inr (inl (inl tt, refl))
cause Two Zm t = inr (inl (inl tt, refl))
cause Three Plain t = inr (inr (λ a b. b, λ a. a, λ a b. b, refl))
cause Three Z t = inr (inl (inl tt, refl))
cause Three M t = inr (inl (inl tt, refl))
cause Three Zm t = inr (inl (inl tt, refl))
cause Full tag (token.Number n) = inr (inl (inr (tt, tt), refl))
cause Full tag token.Nan = inr (inl (inr (tt, tt), refl))
cause Full tag other = inr (inr (λ a b. b, λ a. a, λ a b. a, refl))
cause other tag t = inr (inr (λ a b. b, λ a. a, λ a b. b, refl))

-- A type word may stand at the start, and a demanded ordinate where the tag demands one.
start_expected : (ts : List Token) (step : Step) (s : Site) (d : ℕ) (tag : Tag) (b : Build) → Taken ts (at step s d tag) b →
    IsStart step → IsTypeExpected ts
unfolding advance
start_expected ts Start s d tag b k h =
    let (rule, n) = taken_continues ts (at Start s d tag) (at (Body type.Point) s d Z) b (token.Type type.Point Z) Head k refl in
    record { kind = type.Point; tag = Z; rule = rule; continues = n }
start_expected ts other s d tag b k h = absurd h

-- A demanded ordinate has the rule of one.
demanded_rule : (rule : TokenRule) → Some true ≡ third_of_rule rule → rule ≡ demanded
demanded_rule demanded e = refl
demanded_rule further e = absurd (cc)
demanded_rule other e = absurd (none-some _ (sym e))

-- Where the reader takes NaN as a demanded ordinate, the tag demands one.
nan_demanded : (ts : List Token) (c c' : Control) (b : Build) → Taken ts c b → advance c token.Nan ≡ Some (Demanded, c') →
    IsOrdinateDemanded ts
nan_demanded ts c c' b k next =
    let (rule, n) = taken_continues ts c c' b token.Nan Demanded k next in
    let m = continues_taken ts c b token.Nan rule k n in
    let (roles, controls) = some_pair_parts m.role Demanded m.control c' (sym m.next ∙ next) in
    let same = demanded_rule rule (ap third_of_role (sym roles) ∙ m.third) in
    record { ordinate = token.Nan; continues = subst (λ u. Continues ts token.Nan u) same n }

demanded_expected : (ts : List Token) (step : Step) (s : Site) (d : ℕ) (tag : Tag) (b : Build) → Taken ts (at step s d tag) b →
    IsDemanding step tag → IsOrdinateDemanded ts
unfolding advance
demanded_expected ts Two s d Z b k h = nan_demanded ts (at Two s d Z) (at Full s d Z) b k refl
demanded_expected ts Two s d M b k h = nan_demanded ts (at Two s d M) (at Full s d M) b k refl
demanded_expected ts Two s d Zm b k h = nan_demanded ts (at Two s d Zm) (at Three s d Zm) b k refl
demanded_expected ts Three s d Z b k h = nan_demanded ts (at Three s d Z) (at Full s d Z) b k refl
demanded_expected ts Three s d M b k h = nan_demanded ts (at Three s d M) (at Full s d M) b k refl
demanded_expected ts Three s d Zm b k h = nan_demanded ts (at Three s d Zm) (at Full s d Zm) b k refl
demanded_expected ts Two s d Plain b k h = absurd h
demanded_expected ts Three s d Plain b k h = absurd h
demanded_expected ts other s d tag b k h = absurd h

refused_by_reader : (ts : List Token) (c : Control) (b : Build) (t : Token) → Taken ts c b → advance c t ≡ None → IsRefused ts t
refused_by_reader ts c b t k e rule n = let m = continues_taken ts c b t rule k n in none-some _ (sym e ∙ m.next)

-- What the reader took last.
record LastTaken (ts : List Token) (c : Control) : Type 0 where
  before : List Token
  token : Token
  role : Role
  control : Control
  build : Build
  joined : ts ≡ before ++ token ∷ []
  taken : Taken before control build
  next : advance control token ≡ Some (role, c)

last_taken : (ts : List Token) (c : Control) (b : Build) → Taken ts c b → ((start ≡ c) × (ts ≡ [])) ⊎ LastTaken ts c
last_taken ts c b k = go (last_of k.front start c k.goes)
  where
    made : (l : Last start k.front c) →
        (d : Build) × (builds start_build l.before ≡ Ok d) × (builds d (move l.token l.role ∷ []) ≡ Ok b) → LastTaken ts c
    made l (d, e, f) = record {
      before = tokens_in l.before;
      token = l.token;
      role = l.role;
      control = l.control;
      build = d;
      joined = sym k.tokens ∙ ap tokens_in l.joined ∙ tokens_in-push l.before l.token l.role;
      taken = record { front = l.before; tokens = refl; goes = l.goes; kept = e };
      next = l.next;
    }

    go : ((start ≡ c) × (k.front ≡ [])) ⊎ Last start k.front c → ((start ≡ c) × (ts ≡ [])) ⊎ LastTaken ts c
    go (inl (e, none)) = inl (e, sym k.tokens ∙ ap tokens_in none)
    go (inr l) =
        inr (made l (builds_front l.before (move l.token l.role ∷ []) start_build b (ap (builds start_build) (sym l.joined) ∙ k.kept)))

not_both : (next : Step) → IsFull next → IsNotFull next → ⊥
not_both Full h k = k
not_both other h k = h

full_third : (rule : TokenRule) (step next : Step) (tag : Tag) → ThirdFact (third_of_rule rule) step tag next → IsFull next →
    (rule ≡ demanded) ⊎ (rule ≡ further)
full_third demanded step next tag f h = inl refl
full_third further step next tag f h = inr refl
full_third other step next tag f h = absurd (not_both next h f)

third_late : (rule : TokenRule) (step next : Step) (tag : Tag) → ThirdFact (third_of_rule rule) step tag next →
    (rule ≡ demanded) ⊎ (rule ≡ further) → IsLate next
third_late rule step next tag f (inl e) = (subst (λ u. ThirdFact (third_of_rule u) step tag next) e f).1
third_late rule step next tag f (inr e) = subst (λ u. ThirdFact (third_of_rule u) step tag next) e f

late_refused : (step : Step) (s : Site) (d : ℕ) (tag : Tag) (t : Token) → IsLate step → IsOrdinate t →
    advance_by step (at step s d tag) t ≡ None → IsFull step
late_refused Full s d tag t l o e = tt
late_refused Three s d tag (token.Number n) l o e = absurd (some_none e)
late_refused Three s d tag token.Nan l o e = absurd (some_none e)
late_refused Three s d tag other l o e = absurd o
late_refused other s d tag t l o e = absurd l

push_nil : (ts : List Token) (t : Token) → [] ≡ ts ++ t ∷ [] → ⊥
push_nil [] t e = absurd (cc)
push_nil (u ∷ ts) t e = absurd (cc)

start_not_full : (c : Control) → start ≡ c → IsFull c.step → ⊥
start_not_full c e h = subst (λ (u : Control). IsFull u.step → ⊥) e (λ k. k) h

-- The next control after a token that was taken is the one that its meeting says.
same_control : {c : Control} {b : Build} {t : Token} {rule : TokenRule} {n : ℕ} (m : Meeting c b t rule n) (r : Role) (d : Control) →
    advance c t ≡ Some (r, d) → m.control ≡ d
same_control m r d next = (some_pair_parts m.role r m.control d (sym m.next ∙ next)).1

after_third : (ts : List Token) (c : Control) (b : Build) → Taken ts c b → IsFull c.step → IsAfterThird ts
after_third ts c b k full = go (last_taken ts c b k)
  where
    go : ((start ≡ c) × (ts ≡ [])) ⊎ LastTaken ts c → IsAfterThird ts
    go (inl (e, none)) = absurd (start_not_full c e full)
    go (inr l) =
        let (rule, n) = taken_continues l.before l.control c l.build l.token l.role l.taken l.next in
        let m = continues_taken l.before l.control l.build l.token rule l.taken n in
        let full_so = subst (λ (u : Control). IsFull u.step) (sym (same_control m l.role c l.next)) full in
        record {
          before = l.before;
          ordinate = l.token;
          rule = rule;
          third = full_third rule l.control.step m.control.step l.control.tag (meeting_fact m) full_so;
          joined = l.joined;
          continues = n;
        }

third_is_late : (ts : List Token) (c : Control) (b : Build) → Taken ts c b → IsAfterThird ts → IsLate c.step
third_is_late ts c b k a = go (last_taken ts c b k)
  where
    go : ((start ≡ c) × (ts ≡ [])) ⊎ LastTaken ts c → IsLate c.step
    go (inl (e, none)) = absurd (push_nil a.before a.ordinate (sym none ∙ a.joined))
    go (inr l) =
        let (fronts, tokens) = same_from_push l.before a.before l.token a.ordinate (sym l.joined ∙ a.joined) in
        let n =
        subst (λ u. Continues l.before u a.rule) (sym tokens) (subst (λ u. Continues u a.ordinate a.rule) (sym fronts) a.continues) in
        let m = continues_taken l.before l.control l.build l.token a.rule l.taken n in
        subst (λ (u : Control). IsLate u.step) (same_control m l.role c l.next)
        (third_late a.rule l.control.step m.control.step l.control.tag (meeting_fact m) a.third)

-- Where a type word is expected, and where an ordinate is demanded.
type_at_start : (ts : List Token) (c : Control) (b : Build) → IsTypeExpected ts → Taken ts c b → IsStart c.step
unfolding advance
type_at_start ts c b x k =
    let m = continues_taken ts c b (token.Type x.kind x.tag) x.rule k x.continues in
    type_starts c.step c.site c.depth c.tag x.kind x.tag (m.role, m.control) m.next

demanded_at : (ts : List Token) (c : Control) (b : Build) → IsOrdinateDemanded ts → Taken ts c b → IsDemanding c.step c.tag
demanded_at ts c b x k = (meeting_fact (continues_taken ts c b x.ordinate demanded k x.continues)).0

-- A token that the reader doesn't take has the kind that it says.
pub refused_has_kind : (ts : List Token) (c : Control) (b : Build) (t : Token) → Taken ts c b → advance c t ≡ None →
    HasKind ts t (refused_kind c t)
unfolding advance refused_kind
refused_has_kind ts c b t k none = go (cause c.step c.tag t)
  where
    refused : IsRefused ts t
    refused = refused_by_reader ts c b t k none

    not_unknown : (IsWord t → IsStart c.step → ⊥) → IsUnknownType ts t → ⊥
    not_unknown f (w, x) = f w (type_at_start ts c b x k)

    not_ragged : (IsDemanding c.step c.tag → ⊥) → (IsOrdinate t → IsFull c.step → ⊥) → IsRagged ts t → ⊥
    not_ragged f g (inl x) = f (demanded_at ts c b x k)
    not_ragged f g (inr (o, a)) = g o (late_refused c.step c.site c.depth c.tag t (third_is_late ts c b k a) o none)

    go : Cause c.step c.tag t (refused_by c.step c.tag t) → HasKind ts t (refused_by c.step c.tag t)
    go (inl (w, s, e)) = subst (λ u. HasKind ts t u) (sym e) (unknown_type refused (w, start_expected ts c.step c.site c.depth c.tag b k s))
    go (inr (inl (inl d, e))) =
        subst (λ u. HasKind ts t u) (sym e) (ragged refused (inl (demanded_expected ts c.step c.site c.depth c.tag b k d)))
    go (inr (inl (inr (o, f), e))) = subst (λ u. HasKind ts t u) (sym e) (ragged refused (inr (o, after_third ts c b k f)))
    go (inr (inr (f, g, h, e))) = subst (λ u. HasKind ts t u) (sym e) (syntax refused (not_unknown f) (not_ragged g h))

-- With a token that the reader doesn't take, the tokens are no more right.
pub faulty_wrong : (ts : List Token) (c : Control) (b : Build) (t : Token) (kind : WktKind) → Taken ts c b → IsFaulty c b t kind →
    IsRight (ts ++ t ∷ []) → ⊥
faulty_wrong ts c b t kind k (inl (none, e)) right = let (c', b', n) = right_taken ts c b t k right in some_none (sym n.next ∙ none)
faulty_wrong ts c b t kind k (inr x) right =
    let (c', b', n) = right_taken ts c b t k right in
    let (roles, controls) = some_pair_parts n.role x.role c' x.control (sym n.next ∙ x.next) in
    ok_err (sym n.done ∙ ap (λ u. act b u t) roles ∙ x.stopped)

-- The kind of a token that the reader doesn't take.
pub faulty_has_kind : (ts : List Token) (c : Control) (b : Build) (t : Token) (kind : WktKind) → Taken ts c b → IsFaulty c b t kind →
    HasKind ts t kind
faulty_has_kind ts c b t kind k (inl (none, e)) = subst (λ u. HasKind ts t u) (sym e) (refused_has_kind ts c b t k none)
faulty_has_kind ts c b t kind k (inr x) =
    let (rule, n) = taken_continues ts c x.control b t x.role k x.next in
    let m = continues_taken ts c b t rule k n in
    let same = (some_pair_parts m.role x.role m.control x.control (sym m.next ∙ x.next)).0 in
    breaks rule n (meets_fault m.meets (ap (λ u. act b u t) same ∙ x.stopped))

start_not_late : (step : Step) → IsStart step → IsLate step → ⊥
start_not_late Start h k = k
start_not_late other h k = h

start_not_demanding : (step : Step) (tag : Tag) → IsStart step → IsDemanding step tag → ⊥
start_not_demanding Start tag h k = k
start_not_demanding other tag h k = h

-- A type word and a further ordinate aren't expected at once.
pub unknown_not_ragged : (ts : List Token) (c : Control) (b : Build) (t : Token) → Taken ts c b → IsUnknownType ts t → IsRagged ts t → ⊥
unknown_not_ragged ts c b t k (w, x) (inl y) = start_not_demanding c.step c.tag (type_at_start ts c b x k) (demanded_at ts c b y k)
unknown_not_ragged ts c b t k (w, x) (inr (o, a)) = start_not_late c.step (type_at_start ts c b x k) (third_is_late ts c b k a)
