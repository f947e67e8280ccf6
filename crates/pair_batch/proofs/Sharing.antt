-- The shares follow each other and cover the list, so the answers on the shares, joined, are those on the list.
use Rattle.std.proofs.Common.{◌≡◌, ◌+◌, ◌-◌, ◌*◌, ◌/◌, ◌<◌, ◌≤◌, ℕ, zero, suc, List, [], ◌++◌, length, get_or, take, drop, sym, ap, ◌∙◌}
use Rattle.std.proofs.Common.{subst, arith}
use Rattle.std.specs.List.{flat_map, between}
use Rattle.std.specs.Prelude.{Result, Ok, IfOk}
use Rattle.std.proofs.Math.Nat.{div-mul-le_self, mul-div_cancel_left, zero-div}
use Rattle.std.proofs.lemmas.List.{take-append-drop, take-take, drop-take, take_all, take_more, flat_map_more, length-map, get_or-map}
use Rattle.std.proofs.lemmas.Nat.{le-div}
use Rattle.std.proofs.lemmas.Result.{IfOk-at_ok}
use Rattle.point_set.specs.declared.figure.Figure.{Figure}
use Rattle.point_set.specs.declared.rule.Rule.{Rule}
use Rattle.topo_pred.specs.declared.Answer.{Answer}
use Rattle.topo_pred.specs.declared.Query.{Query}
use Rattle.pair_batch.proofs.Answering.{no_answers, answers_on_both}
use Rattle.pair_batch.specs.Answers.{AreAnswersTo}
use Rattle.pair_batch.specs.Shares.{share_begin, share_of, AreJoined}

-- ---- the places at which the shares begin
-- the first one begins at the start
first_begin : (count workers : ℕ) → share_begin count workers 0 ≡ 0
first_begin count workers = let e : 0 * count ≡ 0 = omega arith in ap (λ k. k / workers) e ∙ zero-div workers

-- each begins no earlier than the one before
pub next_begin : (count workers worker : ℕ) → 0 < workers → share_begin count workers worker ≤ share_begin count workers (worker + 1)
next_begin count workers worker some =
    let below = div-mul-le_self (worker * count) workers in
    let e : (worker + 1) * count ≡ worker * count + count = omega arith in
    le-div (worker * count / workers) ((worker + 1) * count) workers some (omega (arith, below, e))

-- the last one ends at the list's end
pub last_begin : (count workers : ℕ) → 0 < workers → share_begin count workers workers ≡ count
last_begin count workers some = mul-div_cancel_left count some

-- ---- the shares
-- what is before a place, and then what is from there up to a later one
take_onward : {X : Type 0} (xs : List X) (from to : ℕ) → from ≤ to → take to xs ≡ take from xs ++ between from to xs
take_onward xs from to le =
    let e : from + (to - from) ≡ to = omega (arith, le) in
    let rest : drop from (take to xs) ≡ between from to xs
    = subst (λ k. drop from (take k xs) ≡ take (to - from) (drop from xs)) e (drop-take from (to - from) xs) in
    sym (take-append-drop from (take to xs)) ∙ ap (λ front. front ++ drop from (take to xs)) (take-take from to xs le)
    ∙ ap (λ back. take from xs ++ back) rest

-- the figures before the share of the next worker
share_more : {X : Type 0} (list : List X) (workers worker : ℕ) → 0 < workers
    → take (share_begin (length list) workers (worker + 1)) list
    ≡ take (share_begin (length list) workers worker) list ++ share_of list workers worker
share_more list workers worker some =
    take_onward list (share_begin (length list) workers worker) (share_begin (length list) workers (worker + 1))
    (next_begin (length list) workers worker some)

-- one more list is joined to some
joined_more : {X : Type 0} (lists : List (List X)) (k : ℕ) → k < length lists
    → flat_map (λ list. list) (take (k + 1) lists) ≡ flat_map (λ list. list) (take k lists) ++ get_or lists k []
joined_more {X} lists k below =
    ap (flat_map (λ list. list)) (take_more lists k [] below)
    ∙ sym (flat_map_more (λ list. list) [] (take k lists) (get_or lists k []))

module _ (query : Query) (a : Figure) (rule : Rule) (list : List Figure) (workers : ℕ) (lists : List (List Answer)) where
  -- Each worker's list has the answers on its share.
  abbrev pub AreByShares : Type 0
  AreByShares = (worker : ℕ) → worker < workers → AreAnswersTo query a rule (share_of list workers worker) (get_or lists worker [])

  -- the lists of the first workers have the answers before the next share
  first_answers : 0 < workers → length lists ≡ workers → AreByShares → (k : ℕ) → k ≤ workers
      → AreAnswersTo query a rule (take (share_begin (length list) workers k) list) (flat_map (λ xs. xs) (take k lists))
  first_answers some count each zero below =
      subst (λ place. AreAnswersTo query a rule (take place list) []) (sym (first_begin (length list) workers)) (no_answers query a rule)
  first_answers some count each (suc k) below =
      let next : k + 1 ≡ suc k = omega arith in
      let within : k < length lists = omega (arith, below, count) in
      let before = take (share_begin (length list) workers k) list in
      let both = answers_on_both query a rule before (share_of list workers k) (flat_map (λ xs. xs) (take k lists)) (get_or lists k [])
      (first_answers some count each k (omega (arith, below))) (each k (omega (arith, below))) in
      subst (λ n. AreAnswersTo query a rule (take (share_begin (length list) workers n) list) (flat_map (λ xs. xs) (take n lists))) next
      (subst (λ figures. AreAnswersTo query a rule figures (flat_map (λ xs. xs) (take (k + 1) lists)))
      (sym (share_more list workers k some))
      (subst (AreAnswersTo query a rule (before ++ share_of list workers k)) (sym (joined_more lists k within)) both))

  -- and so all lists have those on the whole list
  pub all_answers : 0 < workers → length lists ≡ workers → AreByShares → AreAnswersTo query a rule list (flat_map (λ xs. xs) lists)
  all_answers some count each =
      let whole = take_all (share_begin (length list) workers workers) list (omega (arith, last_begin (length list) workers some)) in
      let all = take_all workers lists (omega (arith, count)) in
      subst (λ figures. AreAnswersTo query a rule figures (flat_map (λ xs. xs) lists)) whole
      (subst (λ made. AreAnswersTo query a rule (take (share_begin (length list) workers workers) list) (flat_map (λ xs. xs) made)) all
      (first_answers some count each workers (omega arith)))

-- where each worker's list, if it is made, has the answers on its share, what is joined of them has those on the whole list
pub answers_joined : {E : Type 0} (query : Query) (a : Figure) (rule : Rule) (list : List Figure) (workers : ℕ)
    (made : List (Result (List Answer) E)) (all : List Answer)
    → 0 < workers → length made ≡ workers
    → ((worker : ℕ) → worker < workers → IfOk (get_or made worker (Ok [])) (AreAnswersTo query a rule (share_of list workers worker)))
    → AreJoined made all → AreAnswersTo query a rule list all
answers_joined {E} query a rule list workers made all some count each are =
    let lists = are.lists in
    let as_many : length lists ≡ workers = sym (length-map lists Ok) ∙ ap length (sym are.made_is) ∙ count in
    let is_made : (worker : ℕ) → worker < workers → get_or made worker (Ok []) ≡ Ok (get_or lists worker [])
    = λ worker below. ap (λ xs. get_or xs worker (Ok [])) are.made_is
    ∙ get_or-map Ok lists worker [] (Ok []) (omega (arith, below, as_many)) in
    subst (AreAnswersTo query a rule list) (sym are.all_is)
    (all_answers query a rule list workers lists some as_many
    (λ worker below. IfOk-at_ok (AreAnswersTo query a rule (share_of list workers worker)) (is_made worker below) (each worker below)))
