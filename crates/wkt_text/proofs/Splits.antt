-- What is built along the front of a course, and the rules that its tokens keep.
use Rattle.std.proofs.Common.{◌≡◌, ℕ, Option, Some, None, Ok, Err, List, [], ◌∷◌, ◌++◌, refl, sym, ap, subst, ◌∙◌}
use Rattle.wkt_text.specs.declared.token.Token.{Token}
use Rattle.wkt_text.specs.declared.state.Role.{Role}
use Rattle.wkt_text.specs.declared.control.WktKind.{WktKind}
use Rattle.wkt_text.specs.declared.build.Build.{Build}
use Rattle.wkt_text.specs.Rules.{TokenRule, Slot, fault_under, begun_with, begun_along, KeepRules}
use Rattle.wkt_text.specs.Building.{◌>>=◌, act}
use Rattle.wkt_text.proofs.Moves.{Move}
use Rattle.wkt_text.proofs.Alike.{AreAlike, alike_tail}
use Rattle.wkt_text.proofs.Agree.{Agrees, ended, taken, stopped}
use Rattle.wkt_text.proofs.Courses.{builds, ok_same, ok_err, err_same}

-- What is built along the front leads on, and its tokens keep their rules.
pub record KeptTo (E : Build → Type 0) (n : ℕ) (front : List Slot) (d : Build) (after : List Move) (rest : List Slot) : Type 0 where
  pub kept : KeepRules n front
  pub agrees : Agrees E d (begun_along n front) after rest

pub built_kept : {E : Build → Type 0} {b : Build} {n : ℕ} (before after : List Move) (front rest : List Slot) →
    Agrees E b n (before ++ after) (front ++ rest) → AreAlike before front → (d : Build) → builds b before ≡ Ok d →
    KeptTo E n front d after rest
built_kept {E} {b} {n} [] after [] rest a h d e = record { kept = tt; agrees = subst (λ c. Agrees E c n after rest) (ok_same e) a }
built_kept (x ∷ before) after (y ∷ front) rest (taken {c = c} g k a) h d e =
    let more = built_kept {b = c} before after front rest a (alike_tail h) d (ap (λ r. r >>= λ c. builds c before) (sym g) ∙ e) in
    record { kept = (k, more.kept); agrees = more.agrees }
built_kept (x ∷ before) after (y ∷ front) rest (stopped g k) h d e = absurd (ok_err (sym e ∙ ap (λ r. r >>= λ c. builds c before) g))
built_kept [] after (y ∷ front) rest a h d e = elim h [ ]
built_kept (x ∷ before) after [] rest a h d e = elim h [ ]

some_none : {A : Type 0} {x : A} → Some x ≡ None → ⊥
some_none e = cc

-- Where the tokens of a front keep their rules, it is built.
pub kept_front : {E : Build → Type 0} {b : Build} {n : ℕ} (before after : List Move) (front rest : List Slot) →
    Agrees E b n (before ++ after) (front ++ rest) → AreAlike before front → KeepRules n front → (d : Build) × (builds b before ≡ Ok d)
kept_front {b = b} [] after [] rest a h k = (b, refl)
kept_front (x ∷ before) after (y ∷ front) rest (taken {c = c} g f a) h (k, ks) =
    let (d, e) = kept_front {b = c} before after front rest a (alike_tail h) ks in
    (d, ap (λ r. r >>= λ c. builds c before) g ∙ e)
kept_front (x ∷ before) after (y ∷ front) rest (stopped g f) h (k, ks) = absurd (some_none (sym f ∙ k))
kept_front [] after (y ∷ front) rest a h k = elim h [ ]
kept_front (x ∷ before) after [] rest a h k = elim h [ ]

-- Where all tokens keep their rules, all is built.
pub record BuiltTo (E : Build → Type 0) (b : Build) (moves : List Move) : Type 0 where
  pub build : Build
  pub built : builds b moves ≡ Ok build
  pub last : E build

pub kept_built : {E : Build → Type 0} {b : Build} {n : ℕ} (moves : List Move) (slots : List Slot) → Agrees E b n moves slots →
    KeepRules n slots → BuiltTo E b moves
kept_built {b = b} [] [] (ended h) k = record { build = b; built = refl; last = h }
kept_built (x ∷ moves) (y ∷ slots) (taken {c = c} g f a) (k, ks) =
    let more = kept_built {b = c} moves slots a ks in
    record { build = more.build; built = ap (λ r. r >>= λ c. builds c moves) g ∙ more.built; last = more.last }
kept_built (x ∷ moves) (y ∷ slots) (stopped g f) (k, ks) = absurd (some_none (sym f ∙ k))
kept_built [] (y ∷ slots) a k = elim a [ ]
kept_built (x ∷ moves) [] a k = elim a [ ]

-- Where all is built, all tokens keep their rules, and what is built in the end has its property.
pub built_whole : {E : Build → Type 0} {b : Build} {n : ℕ} (moves : List Move) (slots : List Slot) → Agrees E b n moves slots →
    (d : Build) → builds b moves ≡ Ok d → KeepRules n slots × E d
built_whole {E} [] [] (ended h) d e = (tt, subst E (ok_same e) h)
built_whole (x ∷ moves) (y ∷ slots) (taken {c = c} g f a) d e =
    let (kept, last) = built_whole {b = c} moves slots a d (ap (λ r. r >>= λ c. builds c moves) (sym g) ∙ e) in
    ((f, kept), last)
built_whole (x ∷ moves) (y ∷ slots) (stopped g f) d e = absurd (ok_err (sym e ∙ ap (λ r. r >>= λ c. builds c moves) g))
built_whole [] (y ∷ slots) a d e = elim a [ ]
built_whole (x ∷ moves) [] a d e = elim a [ ]

-- One token: it is taken and keeps its rule, or it stops with the fault of its rule.
pub data Meets (b : Build) (n : ℕ) (t : Token) (role : Role) (rule : TokenRule) : Type 0 where
  goes : (c : Build) → act b role t ≡ Ok c → fault_under rule n t ≡ None → Meets b n t role rule
  stops : (k : WktKind) → act b role t ≡ Err k → fault_under rule n t ≡ Some k → Meets b n t role rule

-- The one way of a stop gives the other.
pub meets_fault : {b : Build} {n : ℕ} {t : Token} {role : Role} {rule : TokenRule} {k : WktKind} → Meets b n t role rule →
    act b role t ≡ Err k → fault_under rule n t ≡ Some k
meets_fault (goes c g f) e = absurd (ok_err (sym g ∙ e))
meets_fault (stops k g f) e = f ∙ ap Some (err_same (sym g ∙ e))

pub meets_stop : {b : Build} {n : ℕ} {t : Token} {role : Role} {rule : TokenRule} {k : WktKind} → Meets b n t role rule →
    fault_under rule n t ≡ Some k → act b role t ≡ Err k
meets_stop (goes c g f) e = absurd (some_none (sym e ∙ f))
meets_stop (stops k g f) e = g ∙ ap Err (some_same (sym f ∙ e))
  where
    some_same : {j k : WktKind} → ◌≡◌ {A = Option WktKind} (Some j) (Some k) → j ≡ k
    some_same e = cc

pub agrees_first : {E : Build → Type 0} {b : Build} {n : ℕ} (x : Move) (y : Slot) (moves : List Move) (slots : List Slot) →
    Agrees E b n (x ∷ moves) (y ∷ slots) → Meets b n x.0 x.1 y.1
agrees_first x y moves slots (taken {c = c} g f a) = goes c g f
agrees_first x y moves slots (stopped {k = k} g f) = stops k g f

-- The front of tokens that keep their rules, and what comes after it.
pub kept_parts : (front rest : List Slot) (n : ℕ) → KeepRules n (front ++ rest) → KeepRules n front × KeepRules (begun_along n front) rest
kept_parts [] rest n h = (tt, h)
kept_parts (x ∷ front) rest n (k, h) = let (a, b) = kept_parts front rest (begun_with x.1 n) h in ((k, a), b)
