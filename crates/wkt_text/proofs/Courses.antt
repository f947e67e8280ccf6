-- The tokens decide where the reader comes, and what each of them is for.
use Rattle.std.proofs.Common.{◌≡◌, Some, Result, Ok, Err, List, [], ◌∷◌, ◌++◌, map, ◌⊎◌, inl, inr, refl, sym, ap, subst, ◌∙◌}
use Rattle.std.proofs.lemmas.Option.{some_pair_parts}
use Rattle.wkt_text.specs.declared.token.Token.{Token}
use Rattle.wkt_text.specs.declared.state.Role.{Role}
use Rattle.wkt_text.specs.declared.state.Control.{Control}
use Rattle.wkt_text.specs.declared.state.Step.TheVariants.{Done}
use Rattle.wkt_text.specs.declared.control.WktKind.{WktKind}
use Rattle.wkt_text.specs.declared.build.Build.{Build}
use Rattle.wkt_text.specs.Machine.{advance}
use Rattle.wkt_text.proofs.Moves.{Move, move, tokens_in}
use Rattle.wkt_text.specs.Building.{◌>>=◌, act}
use Rattle.wkt_text.proofs.Parses.{Run, Goes}

pub goes_split : (front rest : List Move) (c : Control) → Run c (front ++ rest) → (c' : Control) × Goes c front c' × Run c' rest
goes_split [] rest c h = (c, refl, h)
goes_split (x ∷ front) rest c (c₁, e, h) = let (c', g, r) = goes_split front rest c₁ h in (c', (c₁, e, g), r)

pub goes_join : (front rest : List Move) (c c' : Control) → Goes c front c' → Run c' rest → Run c (front ++ rest)
goes_join [] rest c c' e h = subst (λ u. Run u rest) (sym e) h
goes_join (x ∷ front) rest c c' (c₁, e, g) h = (c₁, e, goes_join front rest c₁ c' g h)

pub goes_push : (front : List Move) (c c' c'' : Control) (t : Token) (r : Role) → Goes c front c' → advance c' t ≡ Some (r, c'') →
    Goes c (front ++ move t r ∷ []) c''
goes_push [] c c' c'' t r g e = (c'', ap (λ u. advance u t) g ∙ e, refl)
goes_push (x ∷ front) c c' c'' t r (c₁, e₁, g) e = (c₁, e₁, goes_push front c₁ c' c'' t r g e)

heads_same : {a b : Token} {s t : List Token} → a ∷ s ≡ b ∷ t → (a ≡ b) × (s ≡ t)
heads_same e = (cc, cc)

pub goes_same : (f g : List Move) (c c₁ c₂ : Control) → Goes c f c₁ → Goes c g c₂ → tokens_in f ≡ tokens_in g → (f ≡ g) × (c₁ ≡ c₂)
goes_same [] [] c c₁ c₂ e₁ e₂ e = (refl, sym e₁ ∙ e₂)
goes_same [] (y ∷ g) c c₁ c₂ h k e = absurd (cc)
goes_same (x ∷ f) [] c c₁ c₂ h k e = absurd (cc)
goes_same ((t, r) ∷ f) ((u, q) ∷ g) c c₁ c₂ (d₁, e₁, h) (d₂, e₂, k) e =
    let (same, rest) = heads_same {a = t} {b = u} e in
    let (roles, controls) = some_pair_parts r q d₁ d₂ (sym e₁ ∙ ap (advance c) same ∙ e₂) in
    let (fronts, ends) = goes_same f g d₁ c₁ c₂ h (subst (λ v. Goes v g c₂) (sym controls) k) rest in
    ((λ i. move (same i) (roles i) ∷ fronts i), ends)

-- The last token that was taken.
pub record Last (c : Control) (front : List Move) (d : Control) : Type 0 where
  pub before : List Move
  pub token : Token
  pub role : Role
  pub control : Control
  pub joined : front ≡ before ++ move token role ∷ []
  pub goes : Goes c before control
  pub next : advance control token ≡ Some (role, d)

pub last_of : (front : List Move) (c d : Control) → Goes c front d → ((c ≡ d) × (front ≡ [])) ⊎ Last c front d
last_of [] c d e = inl (e, refl)
last_of ((t, r) ∷ front) c d (c₁, e, g) = inr (go (last_of front c₁ d g))
  where
    go : ((c₁ ≡ d) × (front ≡ [])) ⊎ Last c₁ front d → Last c (move t r ∷ front) d
    go (inl (same, none)) = record {
      before = [];
      token = t;
      role = r;
      control = c;
      joined = ap (λ u. move t r ∷ u) none;
      goes = refl;
      next = e ∙ ap (λ u. Some (r, u)) same;
    }
    go (inr l) = record {
      before = move t r ∷ l.before;
      token = l.token;
      role = l.role;
      control = l.control;
      joined = ap (λ u. move t r ∷ u) l.joined;
      goes = (c₁, e, l.goes);
      next = l.next;
    }

-- ---- what is built

-- What is built from left to right, or the first stop.
abbrev pub builds : Build → List Move → Result Build WktKind
builds b [] = Ok b
builds b (x ∷ rest) = act b x.1 x.0 >>= λ c. builds c rest

pub ok_err : {b : Build} {k : WktKind} → ◌≡◌ {A = Result Build WktKind} (Ok b) (Err k) → ⊥
ok_err e = cc

pub err_same : {j k : WktKind} → ◌≡◌ {A = Result Build WktKind} (Err j) (Err k) → j ≡ k
err_same e = cc

pub ok_same : {a b : Build} → ◌≡◌ {A = Result Build WktKind} (Ok a) (Ok b) → a ≡ b
ok_same e = cc

bind_after : (r : Result Build WktKind) (f g : Build → Result Build WktKind) (h : Build → Result Build WktKind) →
    ((b : Build) → f b ≡ (g b >>= h)) → (r >>= f) ≡ ((r >>= g) >>= h)
bind_after (Ok b) f g h e = e b
bind_after (Err k) f g h e = refl

pub builds-append : (front rest : List Move) (b : Build) → builds b (front ++ rest) ≡ (builds b front >>= λ c. builds c rest)
builds-append [] rest b = refl
builds-append (x ∷ front) rest b = bind_after (act b x.1 x.0) _ _ _ (λ c. builds-append front rest c)

bind_ok : (r : Result Build WktKind) (f : Build → Result Build WktKind) (d : Build) → (r >>= f) ≡ Ok d →
    (b : Build) × (r ≡ Ok b) × (f b ≡ Ok d)
bind_ok (Ok b) f d e = (b, refl, e)
bind_ok (Err k) f d e = absurd (cc)

-- The front of what is right is right.
pub builds_front : (front rest : List Move) (b d : Build) → builds b (front ++ rest) ≡ Ok d →
    (c : Build) × (builds b front ≡ Ok c) × (builds c rest ≡ Ok d)
builds_front front rest b d e = bind_ok (builds b front) (λ c. builds c rest) d (sym (builds-append front rest b) ∙ e)

pub builds_push : (front : List Move) (b c d : Build) (t : Token) (r : Role) → builds b front ≡ Ok c → act c r t ≡ Ok d →
    builds b (front ++ move t r ∷ []) ≡ Ok d
builds_push front b c d t r e f =
    builds-append front (move t r ∷ []) b ∙ ap (λ u. u >>= λ c. builds c (move t r ∷ [])) e ∙ ap (λ u. u >>= λ c. Ok c) f

pub builds_one : (b d : Build) (t : Token) (r : Role) → builds b (move t r ∷ []) ≡ Ok d → act b r t ≡ Ok d
builds_one b d t r e = let (c, f, g) = bind_ok (act b r t) (λ c. Ok c) d e in f ∙ g

-- ---- tokens

pub tokens_in-push : (front : List Move) (t : Token) (r : Role) → tokens_in (front ++ move t r ∷ []) ≡ tokens_in front ++ t ∷ []
tokens_in-push [] t r = refl
tokens_in-push (x ∷ front) t r = ap (λ u. x.0 ∷ u) (tokens_in-push front t r)

-- The tokens of pairs.
abbrev firsts : {A : Type 0} → List (Token × A) → List Token
firsts xs = map (λ x. x.0) xs

-- Pairs whose tokens are in two parts are in two parts.
pub record Parted (A : Type 0) (xs : List (Token × A)) (ts us : List Token) : Type 0 where
  pub front : List (Token × A)
  pub rest : List (Token × A)
  pub joined : xs ≡ front ++ rest
  pub tokens : firsts front ≡ ts
  pub others : firsts rest ≡ us

pub tokens_parted : {A : Type 0} (xs : List (Token × A)) (ts us : List Token) → firsts xs ≡ ts ++ us → Parted A xs ts us
tokens_parted xs [] us e = record { front = []; rest = xs; joined = refl; tokens = refl; others = e }
tokens_parted [] (t ∷ ts) us e = absurd (cc)
tokens_parted ((v, a) ∷ xs) (t ∷ ts) us e =
    let (same, rest) = heads_same {a = v} {b = t} e in
    let more = tokens_parted xs ts us rest in
    record {
      front = (v, a) ∷ more.front;
      rest = more.rest;
      joined = ap (λ u. (v, a) ∷ u) more.joined;
      tokens = λ i. same i ∷ more.tokens i;
      others = more.others;
    }

-- Pairs whose tokens end so.
pub record Pushed (A : Type 0) (xs : List (Token × A)) (ts : List Token) (t : Token) : Type 0 where
  pub front : List (Token × A)
  pub last : A
  pub joined : xs ≡ front ++ (t, last) ∷ []
  pub tokens : firsts front ≡ ts

-- A list of pairs that has one token.
one_pair : {A : Type 0} (xs : List (Token × A)) (t : Token) → firsts xs ≡ t ∷ [] → (a : A) × (xs ≡ (t, a) ∷ [])
one_pair [] t e = absurd (cc)
one_pair ((v, a) ∷ []) t e = (a, ap (λ w. (w, a) ∷ []) (heads_same {a = v} {b = t} e).0)
one_pair (x ∷ y ∷ xs) t e = absurd (no_tail (heads_same e).1)
  where
    no_tail : {u : Token} {us : List Token} → u ∷ us ≡ [] → ⊥
    no_tail e = cc

pub tokens_pushed : {A : Type 0} (xs : List (Token × A)) (ts : List Token) (t : Token) → firsts xs ≡ ts ++ t ∷ [] → Pushed A xs ts t
tokens_pushed xs ts t e =
    let p = tokens_parted xs ts (t ∷ []) e in
    let (a, one) = one_pair p.rest t p.others in
    record { front = p.front; last = a; joined = p.joined ∙ ap (λ u. p.front ++ u) one; tokens = p.tokens }

pub run_goes : (moves : List Move) (c : Control) → Run c moves → (d : Control) × Goes c moves d × (d.step ≡ Done)
run_goes [] c h = (c, refl, h)
run_goes (x ∷ rest) c (c', e, h) = let (d, g, done) = run_goes rest c' h in (d, (c', e, g), done)

pub goes_parts : (front rest : List Move) (c d : Control) → Goes c (front ++ rest) d → (e : Control) × Goes c front e × Goes e rest d
goes_parts [] rest c d h = (c, refl, h)
goes_parts (x ∷ front) rest c d (c₁, e, h) = let (f, g, r) = goes_parts front rest c₁ d h in (f, (c₁, e, g), r)
