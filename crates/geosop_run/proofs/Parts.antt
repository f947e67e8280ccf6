-- Texts of one part for each item of a list, offered item by item.
use Rattle.std.proofs.Common.{◌≡◌, ℕ, ◌+◌, ◌<◌, ◌≤◌, List, [], ◌∷◌, ◌++◌, Result, Ok, Err, true, refl, sym, subst, ◌∙◌, ap, append_assoc}
use Rattle.std.proofs.Common.{length, length-append, take, drop, get_or, arith}
use Rattle.std.specs.List.{All, flat_map}
use Rattle.std.proofs.lemmas.List.{take_more, drop_more, take_all, take_at, drop_at, take-append-drop, take-append-le, append-nil}
use Rattle.std.proofs.lemmas.List.Elements.{All-head, All-tail}
use Rattle.std.proofs.Math.Seq.{take-add}
use Rattle.geosop_io.specs.Counts.{one_more}
use Rattle.geosop_io.specs.Sink.{SinkSeen, HasFailedAt, after_taking, after_fault}
use Rattle.geosop_io.proofs.Laws.{after_taking-nil, after_taking-append}
use Rattle.geosop_run.specs.declared.pairs.PairFault.{PairFault}
use Rattle.geosop_run.specs.declared.pairs.PairFault.TheVariants as fault
use Rattle.geosop_run.specs.Text.{IsTextOfEach, IsTextUnless, IsWritten, IsTextWritten}

-- a front of one more part is a front of all of the text
front_within : (before part after : List ℕ) (count : ℕ) → count ≤ length part
    → take (length before + count) (before ++ (part ++ after)) ≡ before ++ take count part
front_within before part after count within =
    let all = before ++ (part ++ after) in
    take-add (length before) count all
    ∙ (λ j. take_at before (part ++ after) (length before) refl j
    ++ take count (drop_at before (part ++ after) (length before) refl j))
    ∙ ap (λ more. before ++ more) (take-append-le count part after within)

-- what is taken of one more part is taken behind what was taken before
taken_within : (old middle : SinkSeen) (before part after : List ℕ) (count : ℕ) → count ≤ length part → middle ≡ after_taking old before
    → after_taking middle (take count part) ≡ after_taking old (take (length before + count) (before ++ (part ++ after)))
taken_within old middle before part after count within taken =
    ap (λ seen. after_taking seen (take count part)) taken ∙ after_taking-append old before (take count part)
    ∙ ap (after_taking old) (sym (front_within before part after count within))

-- a failure within one more part is one within all of the text
failed_within : (old middle new : SinkSeen) (before part after : List ℕ) → middle ≡ after_taking old before
    → HasFailedAt middle new part → HasFailedAt old new (before ++ (part ++ after))
failed_within old middle new before part after taken failed = record {
  count = length before + failed.count;
  within = omega (arith, length-append before (part ++ after), length-append part after, failed.within);
  taken = failed.taken ∙ ap after_fault (taken_within old middle before part after failed.count failed.within taken);
}

-- whatever ended the writing within one more part ended it within all of the text
pub ended_within : (e : PairFault) (old middle new : SinkSeen) (before part after : List ℕ) → middle ≡ after_taking old before
    → IsWritten (Err e) middle new part → IsWritten (Err e) old new (before ++ (part ++ after))
ended_within fault.WriteFault old middle new before part after taken h = failed_within old middle new before part after taken h
ended_within fault.NoMemory old middle new before part after taken h = record {
  count = length before + h.count;
  within = omega (arith, length-append before (part ++ after), length-append part after, h.within);
  taken = h.taken ∙ taken_within old middle before part after h.count h.within taken;
}

module _ {X : Type 0} (IsPart : X → List ℕ → Type 0) where
  -- the parts of one list behind those of another
  pub parts-append : (xs ys : List X) (text more : List ℕ) → IsTextOfEach IsPart xs text → IsTextOfEach IsPart ys more
      → IsTextOfEach IsPart (xs ++ ys) (text ++ more)
  parts-append [] ys text more h k = subst (λ all. IsTextOfEach IsPart ys all) (ap (λ none. none ++ more) (sym h)) k
  parts-append (x ∷ xs) ys text more h k = record {
    first = h.first;
    rest = h.rest ++ more;
    is_first = h.is_first;
    is_rest = parts-append xs ys h.rest more h.is_rest k;
    joined = ap (λ all. all ++ more) h.joined ∙ append_assoc h.first h.rest more;
  }

  -- one part alone
  pub one_part : (x : X) (part : List ℕ) → IsPart x part → IsTextOfEach IsPart (x ∷ []) part
  one_part x part is = record { first = part; rest = []; is_first = is; is_rest = refl; joined = sym (append-nil part) }

  -- there is a text where each item has a part
  pub some_text : (xs : List X) → All (λ x. (part : List ℕ) × IsPart x part) xs → (text : List ℕ) × IsTextOfEach IsPart xs text
  some_text [] h = ([], refl)
  some_text (x ∷ xs) h =
      let first = All-head (λ x. (part : List ℕ) × IsPart x part) x xs h in
      let rest = some_text xs (All-tail (λ x. (part : List ℕ) × IsPart x part) x xs h) in
      (first.0 ++ rest.0, record { first = first.0; rest = rest.0; is_first = first.1; is_rest = rest.1; joined = refl })

  -- the sink took the parts of the first items
  pub record HasTakenParts (xs : List X) (old new : SinkSeen) : Type 0 where
    pub text : List ℕ
    pub is_text : IsTextOfEach IsPart xs text
    pub taken : new ≡ after_taking old text

  pub taken_none : (seen : SinkSeen) → HasTakenParts [] seen seen
  taken_none seen = record { text = []; is_text = refl; taken = after_taking-nil seen }

  -- one more part was taken whole
  pub taken_more : (xs : List X) (i : ℕ) (d x : X) (old middle new : SinkSeen) (part : List ℕ) → x ≡ get_or xs i d → i < length xs
      → HasTakenParts (take i xs) old middle → IsPart x part → new ≡ after_taking middle part → HasTakenParts (take (i + 1) xs) old new
  taken_more xs i d x old middle new part is h before is_part now = record {
    text = before.text ++ part;
    is_text = subst (λ items. IsTextOfEach IsPart items (before.text ++ part)) (sym (take_more xs i d h))
        (parts-append (take i xs) (get_or xs i d ∷ []) before.text part before.is_text
        (one_part (get_or xs i d) part (subst (λ item. IsPart item part) is is_part)));
    taken = now ∙ ap (λ seen. after_taking seen part) before.taken ∙ after_taking-append old before.text part;
  }

  -- after the last item all parts are taken
  pub taken_all : (xs : List X) (i : ℕ) (old new : SinkSeen) → length xs ≤ i → HasTakenParts (take i xs) old new → HasTakenParts xs old new
  taken_all xs i old new h taken = subst (λ items. HasTakenParts items old new) (take_all i xs h) taken

  -- the parts of all items are those before one, its own, and those behind it
  pub parts_around : (xs : List X) (i : ℕ) (d x : X) (before part rest : List ℕ) → x ≡ get_or xs i d → i < length xs
      → IsTextOfEach IsPart (take i xs) before → IsPart x part → IsTextOfEach IsPart (drop (i + 1) xs) rest
      → IsTextOfEach IsPart xs (before ++ (part ++ rest))
  parts_around xs i d x before part rest is h in_front is_part behind =
      let item = get_or xs i d in
      let whole : take i xs ++ (item ∷ drop (i + 1) xs) ≡ xs
      = ap (λ behind. take i xs ++ behind) (sym (drop_more xs i d h)) ∙ take-append-drop i xs in
      subst (λ items. IsTextOfEach IsPart items (before ++ (part ++ rest))) whole
      (parts-append (take i xs) (item ∷ drop (i + 1) xs) before (part ++ rest) in_front
      (record {
        first = part;
        rest = rest;
        is_first = subst (λ y. IsPart y part) is is_part;
        is_rest = behind;
        joined = refl;
      }))

-- all parts were taken
pub text_written : {X : Type 0} (IsPart : X → List ℕ → Type 0) (xs : List X) (i : ℕ) (old new : SinkSeen) → length xs ≤ i
    → HasTakenParts IsPart (take i xs) old new → IsTextWritten (IsTextOfEach IsPart xs) (Ok tt) old new
text_written IsPart xs i old new h taken =
    let all = taken_all IsPart xs i old new h taken in record { text = all.text; is_text = all.is_text; written = all.taken }

-- the writing ended within one part, and the rest has parts too
pub text_ended : {X : Type 0} (e : PairFault) (IsPart : X → List ℕ → Type 0) (xs : List X) (i : ℕ) (d x : X) (old middle new : SinkSeen)
    → x ≡ get_or xs i d → i < length xs → HasTakenParts IsPart (take i xs) old middle → IsTextWritten (IsPart x) (Err e) middle new
    → (rest : (text : List ℕ) × IsTextOfEach IsPart (drop (i + 1) xs) text) → IsTextWritten (IsTextOfEach IsPart xs) (Err e) old new
text_ended e IsPart xs i d x old middle new is h before part rest = record {
  text = before.text ++ (part.text ++ rest.0);
  is_text = parts_around IsPart xs i d x before.text part.text rest.0 is h before.is_text part.is_text rest.1;
  written = ended_within e old middle new before.text part.text rest.0 before.taken part.written;
}

-- nothing was written of a text that there is, for want of memory
pub text_unbegun : (IsText : List ℕ → Type 0) (seen : SinkSeen) → (text : List ℕ) × IsText text
    → IsTextWritten IsText (Err fault.NoMemory) seen seen
text_unbegun IsText seen some = record {
  text = some.0;
  is_text = some.1;
  written = record { count = 0; within = omega arith; taken = after_taking-nil seen };
}

-- a fault that was counted is more than none
one_counted : (count : ℕ) → 0 ≡ one_more count → ⊥
one_counted count e = grind arith

-- where a sink that counts no fault was to take a text, no text was to be taken by another one
pub quiet_written : (IsText IsOther : List ℕ → Type 0) (result : Result (Unit {0}) PairFault) (old new seen : SinkSeen) → 0 ≡ new.faults
    → IsTextWritten IsOther result old new → IsTextWritten (IsTextUnless true IsText) result seen seen
quiet_written IsText IsOther (Ok done) old new seen none h = record { text = []; is_text = refl; written = after_taking-nil seen }
quiet_written IsText IsOther (Err fault.WriteFault) old new seen none h =
    absurd (one_counted _ (none ∙ ap (λ (sink : SinkSeen). sink.faults) h.written.taken))
quiet_written IsText IsOther (Err fault.NoMemory) old new seen none h = text_unbegun (IsTextUnless true IsText) seen ([], refl)

-- where each part is a function of its item, the text is theirs
flat_text : {X : Type 0} (f : X → List ℕ) (xs : List X) (text : List ℕ) → IsTextOfEach (λ x part. part ≡ f x) xs text → text ≡ flat_map f xs
flat_text f [] text h = h
flat_text f (x ∷ xs) text h = h.joined ∙ (λ i. h.is_first i ++ flat_text f xs h.rest h.is_rest i)

pub taken_flat : {X : Type 0} (f : X → List ℕ) (xs : List X) (old new : SinkSeen) → HasTakenParts (λ x part. part ≡ f x) xs old new
    → new ≡ after_taking old (flat_map f xs)
taken_flat f xs old new h = h.taken ∙ ap (after_taking old) (flat_text f xs h.text h.is_text)

pub failed_flat : {X : Type 0} (f : X → List ℕ) (xs : List X) (i : ℕ) (d x : X) (old middle new : SinkSeen) → x ≡ get_or xs i d
    → i < length xs
    → HasTakenParts (λ x part. part ≡ f x) (take i xs) old middle → HasFailedAt middle new (f x) → HasFailedAt old new (flat_map f xs)
failed_flat f xs i d x old middle new is h before failed =
    let rest = some_text (λ x part. part ≡ f x) (drop (i + 1) xs) (λ k e below. (f (get_or (drop (i + 1) xs) k e), refl)) in
    let text = before.text ++ (f x ++ rest.0) in
    subst (λ text. HasFailedAt old new text)
    (flat_text f xs text (parts_around (λ x part. part ≡ f x) xs i d x before.text (f x) rest.0 is h before.is_text refl rest.1))
    (failed_within old middle new before.text (f x) rest.0 before.taken failed)
