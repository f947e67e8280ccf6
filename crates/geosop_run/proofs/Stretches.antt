-- Texts of one part for each item of a list, offered by stretches of items.
use Rattle.std.proofs.Common.{◌≡◌, ℕ, List, [], ◌∷◌, ◌++◌, Result, Ok, Err, refl, sym, subst, ◌∙◌, ap, append_assoc, append-nil, arith}
use Rattle.std.proofs.Common.{length, take, drop}
use Rattle.std.specs.List.{All}
use Rattle.std.proofs.lemmas.List.{take_at, drop_at}
use Rattle.std.proofs.lemmas.List.Elements.{All-take, All-drop}
use Rattle.geosop_io.specs.Sink.{SinkSeen, after_taking}
use Rattle.geosop_io.proofs.Laws.{after_taking-append}
use Rattle.geosop_run.specs.declared.pairs.PairFault.{PairFault}
use Rattle.geosop_run.specs.Text.{IsTextOfEach, IsTextWritten}
use Rattle.geosop_run.proofs.Parts.{HasTakenParts, ended_within, one_part, parts-append, taken_none}

-- what holds of all items of a list holds of those behind a stretch of it, and of the stretch
pub All-behind : {X : Type 0} (P : X → Type 0) (stretch behind all : List X) → all ≡ stretch ++ behind → All P all → All P behind
All-behind P stretch behind all split h =
    subst (All P) (ap (drop (length stretch)) split ∙ drop_at stretch behind (length stretch) refl) (All-drop P (length stretch) all h)

pub All-stretch : {X : Type 0} (P : X → Type 0) (stretch behind all : List X) → all ≡ stretch ++ behind → All P all → All P stretch
All-stretch P stretch behind all split h =
    subst (All P) (ap (take (length stretch)) split ∙ take_at stretch behind (length stretch) refl) (All-take P (length stretch) all h)

module _ {X : Type 0} (IsPart : X → List ℕ → Type 0) where
  -- the sink took the parts of all items of a list but those that are left
  pub record HasTakenUpTo (all left : List X) (old new : SinkSeen) : Type 0 where
    pub done : List X
    pub order : all ≡ done ++ left
    pub parts : HasTakenParts IsPart done old new

  pub up_to_start : (all : List X) (seen : SinkSeen) → HasTakenUpTo all all seen seen
  up_to_start all seen = record { done = []; order = refl; parts = taken_none IsPart seen }

  -- the parts of one more stretch were taken whole
  pub up_to_next : (all left stretch rest : List X) (old middle new : SinkSeen) (text : List ℕ) → left ≡ stretch ++ rest
      → HasTakenUpTo all left old middle → IsTextOfEach IsPart stretch text → new ≡ after_taking middle text → HasTakenUpTo all rest old new
  up_to_next all left stretch rest old middle new text split before is_text now = record {
    done = before.done ++ stretch;
    order = before.order ∙ ap (λ behind. before.done ++ behind) split ∙ sym (append_assoc before.done stretch rest);
    parts = record {
      text = before.parts.text ++ text;
      is_text = parts-append IsPart before.done stretch before.parts.text text before.parts.is_text is_text;
      taken = now ∙ ap (λ seen. after_taking seen text) before.parts.taken ∙ after_taking-append old before.parts.text text;
    };
  }

  -- the parts of all items were taken
  pub up_to_end : (all left : List X) (old new : SinkSeen) → length left ≡ 0 → HasTakenUpTo all left old new
      → IsTextWritten (IsTextOfEach IsPart all) (Ok tt) old new
  up_to_end all [] old new none h = record {
    text = h.parts.text;
    is_text = subst (λ items. IsTextOfEach IsPart items h.parts.text) (sym (append-nil h.done) ∙ sym h.order) h.parts.is_text;
    written = h.parts.taken;
  }
  up_to_end all (item ∷ others) old new none h = absurd (omega (arith, none))

  -- the writing ended within one stretch, and the rest has parts too
  pub up_to_fault : (e : PairFault) (all left stretch rest : List X) (old middle new : SinkSeen) → left ≡ stretch ++ rest
      → HasTakenUpTo all left old middle → IsTextWritten (IsTextOfEach IsPart stretch) (Err e) middle new
      → (text : List ℕ) × IsTextOfEach IsPart rest text → IsTextWritten (IsTextOfEach IsPart all) (Err e) old new
  up_to_fault e all left stretch rest old middle new split before part behind = record {
    text = before.parts.text ++ (part.text ++ behind.0);
    is_text = subst (λ items. IsTextOfEach IsPart items (before.parts.text ++ (part.text ++ behind.0)))
        (ap (λ items. before.done ++ items) (sym split) ∙ sym before.order)
        (parts-append IsPart before.done (stretch ++ rest) before.parts.text (part.text ++ behind.0) before.parts.is_text
        (parts-append IsPart stretch rest part.text behind.0 part.is_text behind.1));
    written = ended_within e old middle new before.parts.text part.text behind.0 before.parts.taken part.written;
  }

  -- what was to be written of one item is the text of a stretch of it alone
  pub of_one : (result : Result (Unit {0}) PairFault) (x : X) (old new : SinkSeen) → IsTextWritten (IsPart x) result old new
      → IsTextWritten (IsTextOfEach IsPart (x ∷ [])) result old new
  of_one result x old new h = record { text = h.text; is_text = one_part IsPart x h.text h.is_text; written = h.written }
