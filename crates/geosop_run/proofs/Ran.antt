-- The steps of a run, put together.
use Rattle.std.proofs.Common.{◌≡◌, ℕ, ◌≤◌, Bool, true, false, List, None, Result, Ok, Err, inl, inr, refl, sym, ap, subst, ◌∙◌}
use Rattle.std.proofs.lemmas.Bool.{true≢false}
use Rattle.std.proofs.lemmas.Result.{err_from_is_err_and}
use Rattle.std.specs.Result.{IsErrAnd}
use Rattle.std.specs.Io.KnownBytes.{IsAtEnd}
use Rattle.im_matrix.specs.declared.Which.{Which}
use Rattle.im_matrix.specs.declared.Which.TheVariants.{A, B}
use Rattle.point_set.specs.declared.figure.Figure.{Figure}
use Rattle.geosop_io.specs.Counts.{one_more}
use Rattle.geosop_io.specs.Inputs.{InputsSeen, KeepsOthers, IsSameSide}
use Rattle.geosop_io.specs.Sink.{SinkSeen, after_taking}
use Rattle.geosop_line.specs.declared.config.Config.{Config}
use Rattle.geosop_line.specs.declared.config.LineFault.{LineFault}
use Rattle.geosop_line.specs.declared.config.LineFault.TheVariants as line
use Rattle.geosop_line.specs.declared.config.Source.{Source}
use Rattle.geosop_line.specs.declared.config.Source.TheVariants as source
use Rattle.geosop_run.specs.declared.pairs.PairFault.{PairFault}
use Rattle.geosop_run.specs.declared.pairs.PairFault.TheVariants as pair
use Rattle.geosop_run.specs.declared.sources.SideFault.{SideFault}
use Rattle.geosop_run.specs.declared.sources.SideFault.TheVariants as fault
use Rattle.geosop_run.specs.declared.status.Refusal.{Refusal}
use Rattle.geosop_run.specs.declared.status.Status.{Status}
use Rattle.geosop_run.specs.declared.status.Status.TheVariants as status
use Rattle.geosop_line.specs.CommandLine.{IsLine, IsLineFault}
use Rattle.geosop_run.specs.Asking.{IfNamed, bytes_of, IsAskedOrNot, IsAdmittedFrom, IsReadToEnd, IsRefusedFrom, IsSideFault}
use Rattle.geosop_run.specs.Sources.{most_bytes, IsRefusalOf, IsFirstRefusal}
use Rattle.geosop_run.specs.Statuses.{status_of_words, status_of_side, status_of_pairs}
use Rattle.geosop_run.specs.Text.{IsOutcome, IsTextUnless, IsToldOf, IsWritten}
use Rattle.geosop_run.specs.Run.{Run, source_of_side, HasBytes, IsAdmittedAs, IsUnwritten, HasText, HasComeTo, SaysOf, IsAskedRightly}
use Rattle.geosop_run.specs.Run.{IsLastAsked, IsRun}
use Rattle.geosop_run.proofs.Completeness.{LineHasOneAnswer, run_of}

-- ---- one side, while the other is read
-- what holds of a name holds where more does
named_weaker : (from : Source) (P Q : List ℕ → Type 0) → ((name : List ℕ) → P name → Q name) → IfNamed from P → IfNamed from Q
named_weaker (source.Text word) P Q f h = h
named_weaker (source.File word) P Q f h = f word h
named_weaker source.Stdin P Q f h = f _ h

-- a side that was read to its end stays so
read_stays : (side : Which) (name : List ℕ) (old new : InputsSeen) → IsSameSide side old new → IsReadToEnd side name old
    → IsReadToEnd side name new
read_stays side name old new same h = record {
  asked = same.asked ∙ h.asked;
  started = same.started ∙ h.started;
  within = subst (λ given. given ≤ most_bytes) (sym same.given) h.within;
  ended = same.ended ∙ h.ended;
  nothing_left = subst IsAtEnd (sym same.left) h.nothing_left;
}

-- a side that is admitted stays so
admitted_stays : (scale : ℕ) (side : Which) (from : Source) (before old new : InputsSeen) (figures : List Figure) → IsSameSide side old new
    → IsAdmittedFrom scale side from before old figures → IsAdmittedFrom scale side from before new figures
admitted_stays scale side from before old new figures same h = record {
  read = named_weaker from (λ name. IsReadToEnd side name old) (λ name. IsReadToEnd side name new)
      (λ name. read_stays side name old new same) h.read;
  admitted = h.admitted;
}

-- what is admitted later is admitted by what the names held before
admitted_since : (scale : ℕ) (side : Which) (from : Source) (before middle after : InputsSeen) (figures : List Figure)
    → middle.holds ≡ before.holds → IsAdmittedFrom scale side from middle after figures
    → IsAdmittedFrom scale side from before after figures
admitted_since scale side from before middle after figures same h = record {
  read = h.read;
  admitted = λ bytes told. h.admitted bytes (ap (λ holds. bytes_of holds from) same ∙ told);
}

-- and a fault of a side likewise
fault_since : (scale : ℕ) (side : Which) (from : Source) (before middle after : InputsSeen) (found : SideFault)
    → middle.holds ≡ before.holds → middle.faults ≡ before.faults → IsSideFault scale side from middle after found
    → IsSideFault scale side from before after found
fault_since scale side from before middle after (fault.Refused found) same uncounted h = (
  h.0,
  record { read = h.1.read; refusal = λ bytes told. h.1.refusal bytes (ap (λ holds. bytes_of holds from) same ∙ told) },
  h.2 ∙ uncounted,
)
fault_since scale side from before middle after fault.ReadFault same uncounted h =
    record { name = h.name; named = h.named; asked = h.asked; counted = h.counted ∙ ap one_more uncounted }
fault_since scale side from before middle after fault.NoMemory same uncounted h = h ∙ uncounted

-- ---- a run of a command
module _ (run : Run) (command : Config) (is : IsLine run.words command) where
  -- a side that was asked for by its source's name, or not at all, was asked for rightly
  rightly : (side : Which) → IsAskedOrNot (source_of_side command side) (run.inputs_after.asked side) → IsAskedRightly run side
  rightly side h = elim h [ inl none ↦ inl none | inr name ↦ inr (record { command = command; is_command = is; holds = name }) ]

  both_rightly : IsAskedOrNot command.a (run.inputs_after.asked A) → IsAskedOrNot command.b (run.inputs_after.asked B)
      → (side : Which) → IsAskedRightly run side
  both_rightly a b A = rightly A a
  both_rightly a b B = rightly B b

  -- the refusal of a side at which the run ended is the first
  first_refusal : (side : Which) (found : Refusal) → HasComeTo run command side
      → ((bytes : List ℕ) → HasBytes run command side bytes → IsRefusalOf command.scale.digits side bytes found)
      → (a b : List ℕ) → HasBytes run command A a → HasBytes run command B b → IsFirstRefusal command.scale.digits a b found
  first_refusal A found come refusal a b told_a told_b = inl (refusal a told_a)
  first_refusal B found come refusal a b told_a told_b =
      inr (record { figures = come.0; admitted = come.1.admitted a told_a; second = refusal b told_b })

  -- a run that ends at a side says why
  side_says : (side : Which) (found : SideFault) → HasComeTo run command side → IsUnwritten run
      → IsSideFault command.scale.digits side (source_of_side command side) run.inputs_before run.inputs_after found
      → SaysOf run (status_of_side found)
  side_says side (fault.Refused found) come unwritten h =
      let refusal : (bytes : List ℕ) → HasBytes run command side bytes → IsRefusalOf command.scale.digits side bytes found
      = λ bytes told. subst (λ s. IsRefusalOf command.scale.digits s bytes found) h.0 (h.1.refusal bytes told) in
      record {
        command = command;
        is_command = is;
        holds = record {
          come = subst (HasComeTo run command) (sym h.0) come;
          refused = subst (λ s. IsRefusedFrom command.scale.digits (source_of_side command s) run.inputs_before run.inputs_after found)
              (sym h.0) h.1;
          first = first_refusal side found come refusal;
          unwritten = unwritten;
          read_well = h.2;
        };
      }
  side_says side fault.ReadFault come unwritten h =
      record { command = command; is_command = is; holds = record { side = side; come = come; unreadable = h; unwritten = unwritten } }
  side_says side fault.NoMemory come unwritten h =
      inr (record { command = command; is_command = is; holds = record { written = inl unwritten; read_well = h } })

-- ---- what came of what is told
-- the error that a `?` gives on
pub given_error : {T E : Type 0} (r : Result T E) {e : E} → IsErrAnd r (λ y. y ≡ e) → r ≡ Err e
given_error r given = let p = err_from_is_err_and r given in p.1 ∙ ap Err p.2

-- the fault, where there is one
abbrev fault_in : Result (Unit {0}) PairFault → PairFault
fault_in (Ok done) = pair.NoMemory
fault_in (Err found) = found

-- the status of a run that comes to what it tells
abbrev status_told : Result (Unit {0}) PairFault → Status
status_told (Ok done) = status.Ok
status_told (Err found) = status_of_pairs found

abbrev ended_well : Result (Unit {0}) PairFault → Bool
ended_well (Ok done) = true
ended_well (Err found) = false

-- ---- where a run ends
module _ (law : LineHasOneAnswer) (words : List (List ℕ)) (s0 : InputsSeen) (o0 : SinkSeen) (a_new : s0.asked A ≡ None)
    (b_new : s0.asked B ≡ None)
  where
    abbrev ended_in : InputsSeen → SinkSeen → Run
    ended_in s o = record { words = words; inputs_before = s0; inputs_after = s; output_before = o0; output_after = o }

    -- at the words
    words_say : (found : LineFault) → IsLineFault words found → SaysOf (ended_in s0 o0) (status_of_words found)
    words_say (line.Usage found) h = record { first = h; unbegun = record { unasked = refl; unwritten = refl } }
    words_say line.NoMemory h = inl (record { unasked = refl; unwritten = refl })

    none_asked : (side : Which) → IsAskedRightly (ended_in s0 o0) side
    none_asked A = inl a_new
    none_asked B = inl b_new

    pub at_words : (found : LineFault) → IsLineFault words found → IsRun (ended_in s0 o0) (status_of_words found)
    at_words found h =
        run_of law (ended_in s0 o0) (status_of_words found) (words_say found h) none_asked (inl b_new) (λ command is quiet. refl)

    module _ (command : Config) (is : IsLine words command) (s1 : InputsSeen) (others_a : KeepsOthers A s0 s1)
        (asked_a : IsAskedOrNot command.a (s1.asked A))
      where
        -- at A
        pub at_a : (found : SideFault) → IsSideFault command.scale.digits A command.a s0 s1 found
            → IsRun (ended_in s1 o0) (status_of_side found)
        at_a found h =
            let run = ended_in s1 o0 in
            let none : s1.asked B ≡ None = others_a.other_side.asked ∙ b_new in
            run_of law run (status_of_side found) (side_says run command is A found none refl h)
            (both_rightly run command is asked_a (inl none)) (inl none) (λ other is_other quiet. refl)

        module _ (in_a : List Figure) (admitted_a : IsAdmittedFrom command.scale.digits A command.a s0 s1 in_a)
            (uncounted_a : s1.faults ≡ s0.faults)
            (s2 : InputsSeen) (others_b : KeepsOthers B s1 s2) (asked_b : IsAskedOrNot command.b (s2.asked B))
          where
            -- A is admitted at the end too
            still_a : (o : SinkSeen) → IsAdmittedAs (ended_in s2 o) command A in_a
            still_a o = admitted_stays command.scale.digits A command.a s0 s1 s2 in_a others_b.other_side admitted_a

            asked_both : (o : SinkSeen) (side : Which) → IsAskedRightly (ended_in s2 o) side
            asked_both o =
                both_rightly (ended_in s2 o) command is (subst (IsAskedOrNot command.a) (sym others_b.other_side.asked) asked_a) asked_b

            last_asked : (o : SinkSeen) → IsLastAsked (ended_in s2 o)
            last_asked o = inr (record { command = command; is_command = is; holds = (in_a, still_a o) })

            -- at B
            pub at_b : (found : SideFault) → IsSideFault command.scale.digits B command.b s1 s2 found
                → IsRun (ended_in s2 o0) (status_of_side found)
            at_b found h =
                let run = ended_in s2 o0 in
                let since = fault_since command.scale.digits B command.b s0 s1 s2 found others_a.holds uncounted_a h in
                run_of law run (status_of_side found) (side_says run command is B found (in_a, still_a o0) refl since) (asked_both o0)
                (last_asked o0) (λ other is_other quiet. refl)

            module _ (in_b : List Figure) (admitted_b : IsAdmittedFrom command.scale.digits B command.b s1 s2 in_b)
                (uncounted_b : s2.faults ≡ s1.faults)
                (o : SinkSeen) (unless_quiet : command.quiet ≡ true → o ≡ o0)
              where
                -- a quiet run writes nothing
                none_written : (other : Config) → IsLine words other → other.quiet ≡ true → o ≡ o0
                none_written other is_other quiet =
                    unless_quiet (subst (λ (of : Config). of.quiet ≡ true) (law.config words other command is_other is) quiet)

                -- before anything was written
                at_starved : o ≡ o0 → IsRun (ended_in s2 o) status.NoMemory
                at_starved unwritten =
                    run_of law (ended_in s2 o) status.NoMemory
                    (inr (record {
                      command = command;
                      is_command = is;
                      holds = record { written = inl unwritten; read_well = uncounted_b ∙ uncounted_a };
                    }))
                    (asked_both o) (last_asked o) none_written

                module _ (text : List ℕ)
                    (is_text : IsTextUnless command.quiet (IsToldOf command.sample command.rule command.query in_a in_b) text)
                  where
                    of_pairs : HasText (ended_in s2 o) command text
                    of_pairs = record {
                      in_a = in_a;
                      in_b = in_b;
                      admitted_a = still_a o;
                      admitted_b = admitted_since command.scale.digits B command.b s0 s1 s2 in_b others_a.holds admitted_b;
                      is_text = is_text;
                    }

                    -- in the pairs
                    pairs_say : (found : PairFault) → IsWritten (Err found) o0 o text → SaysOf (ended_in s2 o) (status_of_pairs found)
                    pairs_say pair.WriteFault front = record {
                      command = command;
                      is_command = is;
                      holds = record { text = text; of_pairs = of_pairs; front = front; read_well = uncounted_b ∙ uncounted_a };
                    }
                    pairs_say pair.NoMemory front =
                        inr (record {
                          command = command;
                          is_command = is;
                          holds = record {
                            written = inr (record { text = text; of_pairs = of_pairs; front = front });
                            read_well = uncounted_b ∙ uncounted_a;
                          };
                        })

                    at_pairs : (found : PairFault) → IsWritten (Err found) o0 o text → IsRun (ended_in s2 o) (status_of_pairs found)
                    at_pairs found front =
                        run_of law (ended_in s2 o) (status_of_pairs found) (pairs_say found front) (asked_both o)
                        (last_asked o) none_written

                    -- behind the last
                    at_end : o ≡ after_taking o0 text → IsRun (ended_in s2 o) status.Ok
                    at_end written =
                        run_of law (ended_in s2 o) status.Ok
                        (record {
                          command = command;
                          is_command = is;
                          holds = record { text = text; of_pairs = of_pairs; written = written; read_well = uncounted_b ∙ uncounted_a };
                        })
                        (asked_both o) (last_asked o) none_written

                -- by what came of what is told of figures that are B's
                abbrev IsToldAs : List Figure → Result (Unit {0}) PairFault → Type 0
                IsToldAs xs result =
                    IsOutcome (IsTextUnless command.quiet (IsToldOf command.sample command.rule command.query in_a xs)) result o0 o

                at_outcome : (result : Result (Unit {0}) PairFault) → IsToldAs in_b result → IsRun (ended_in s2 o) (status_told result)
                at_outcome (Err found) (inl told) = at_pairs told.text told.is_text found told.written
                at_outcome (Err found) (inr starved) =
                    subst (λ of. IsRun (ended_in s2 o) (status_of_pairs of)) (sym (ap fault_in starved.wanting))
                    (at_starved starved.unwritten)
                at_outcome (Ok done) (inl told) = at_end told.text told.is_text told.written
                at_outcome (Ok done) (inr starved) = absurd (true≢false (ap ended_well starved.wanting))

                pub at_told : {xs : List Figure} {result : Result (Unit {0}) PairFault} → xs ≡ in_b → IsToldAs xs result
                    → IsRun (ended_in s2 o) (status_told result)
                at_told {result = result} same told = at_outcome result (subst (λ zs. IsToldAs zs result) same told)
