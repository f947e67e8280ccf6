-- What a run says by its status leaves one status for each command line and input, but for want of memory and counted faults.
use Rattle.std.proofs.Common.{◌≡◌, ℕ, true, List, None, ◌⊎◌, inl, inr, refl, ap, subst, arith}
use Rattle.im_matrix.specs.declared.Which.{Which}
use Rattle.im_matrix.specs.declared.Which.TheVariants.{A, B}
use Rattle.point_set.specs.declared.figure.Figure.{Figure}
use Rattle.geosop_io.specs.Counts.{IsRisen, one_more}
use Rattle.geosop_io.specs.Sink.{SinkSeen, HasFailedAt}
use Rattle.geosop_line.specs.declared.config.Config.{Config}
use Rattle.geosop_line.specs.declared.config.UsageFault.{UsageFault}
use Rattle.geosop_run.specs.declared.status.Refusal.{Refusal}
use Rattle.geosop_run.specs.declared.status.Status.{Status}
use Rattle.geosop_run.specs.declared.status.Status.TheVariants as status
use Rattle.geosop_line.specs.CommandLine.{IsLine, IsFirstFault, ConfigIsOne, FirstFaultIsOne, AConfigIsNoFault}
use Rattle.geosop_run.specs.Asking.{side_of}
use Rattle.geosop_run.specs.Sources.{IsRefusalOf, IsAdmitted, IsFirstRefusal}
use Rattle.geosop_run.specs.Run.{Run, HasBytes, HasText, HasComeTo, IsUnwritten, IsUnbegun, OfCommand, SaysOf, IsAskedRightly, IsLastAsked}
use Rattle.geosop_run.specs.Run.{IsUsageOrStopped, IsRefusedOrStopped, IsRun}
use Rattle.geosop_run.proofs.OneAnswer.{both_admitted, one_refusal, one_first_refusal, admitted_not_refused}

-- a count with one more has risen
risen : (old new : ℕ) → new ≡ one_more old → IsRisen old new
risen old new e = grind arith

-- a sink that failed has counted it
failed_risen : (old new : SinkSeen) (bytes : List ℕ) → HasFailedAt old new bytes → IsRisen old.faults new.faults
failed_risen old new bytes h = risen old.faults new.faults (ap (λ (seen : SinkSeen). seen.faults) h.taken)

-- a command line has one configuration or one first fault, and not both
abbrev pub LineHasOneAnswer : Type 0
LineHasOneAnswer = record { config : ConfigIsOne; fault : FirstFaultIsOne; apart : AConfigIsNoFault }

module _ (line : LineHasOneAnswer) (run : Run) where
  -- what holds of a command of the words holds of this one
  of_this : (Holds : Config → Type 0) (command : Config) → IsLine run.words command → OfCommand run.words Holds → Holds command
  of_this Holds command is h = subst Holds (line.config run.words h.command command h.is_command is) h.holds

  -- the words of a command have no fault
  no_usage : {Holds : Config → Type 0} (found : UsageFault) → IsFirstFault run.words found → OfCommand run.words Holds → ⊥
  no_usage found fault h = line.apart run.words h.command found h.is_command fault

  usage_comes : (ended : Status) → SaysOf run ended → (found : UsageFault) → IsFirstFault run.words found → IsUsageOrStopped ended found
  usage_comes status.Ok says found fault = absurd (no_usage found fault says)
  usage_comes (status.Usage other) says found fault = inl (ap status.Usage (line.fault run.words other found says.first fault))
  usage_comes (status.Refused refusal) says found fault = absurd (no_usage found fault says)
  usage_comes status.ReadFault says found fault = absurd (no_usage found fault says)
  usage_comes status.WriteFault says found fault = absurd (no_usage found fault says)
  usage_comes status.NoMemory says found fault = inr refl

  usage_unbegun : (ended : Status) → SaysOf run ended → (found : UsageFault) → IsFirstFault run.words found → IsUnbegun run
  usage_unbegun status.Ok says found fault = absurd (no_usage found fault says)
  usage_unbegun (status.Usage other) says found fault = says.unbegun
  usage_unbegun (status.Refused refusal) says found fault = absurd (no_usage found fault says)
  usage_unbegun status.ReadFault says found fault = absurd (no_usage found fault says)
  usage_unbegun status.WriteFault says found fault = absurd (no_usage found fault says)
  usage_unbegun status.NoMemory says found fault = elim says [
    | inl unbegun ↦ unbegun
    | inr of_command ↦ absurd (no_usage found fault of_command)
  ]

  module _ (command : Config) (is : IsLine run.words command) where
    -- a side that is admitted has no refusal
    no_refusal : (text : List ℕ) → HasText run command text → (side : Which) (bytes : List ℕ) → HasBytes run command side bytes
        → (found : Refusal) → IsRefusalOf command.scale.digits side bytes found → ⊥
    no_refusal text h A bytes told found refusal =
        admitted_not_refused command.scale.digits A bytes h.in_a found (h.admitted_a.admitted bytes told) refusal
    no_refusal text h B bytes told found refusal =
        admitted_not_refused command.scale.digits B bytes h.in_b found (h.admitted_b.admitted bytes told) refusal

    -- two sides that are admitted have no first refusal
    no_first : (text : List ℕ) → HasText run command text → (a b : List ℕ) → HasBytes run command A a → HasBytes run command B b
        → (found : Refusal) → IsFirstRefusal command.scale.digits a b found → ⊥
    no_first text h a b told_a told_b found first =
        both_admitted command.scale.digits a b h.in_a h.in_b found (h.admitted_a.admitted a told_a) (h.admitted_b.admitted b told_b) first

    completes : (ended : Status) → SaysOf run ended → (a b : List ℕ) → HasBytes run command A a → HasBytes run command B b
        → (in_a in_b : List Figure)
        → IsAdmitted command.scale.digits a in_a → IsAdmitted command.scale.digits b in_b
        → (¬ IsRisen run.inputs_before.faults run.inputs_after.faults) → (¬ IsRisen run.output_before.faults run.output_after.faults)
        → (ended ≡ status.Ok) ⊎ (ended ≡ status.NoMemory)
    completes status.Ok says a b told_a told_b in_a in_b h k reads writes = inl refl
    completes (status.Usage other) says a b told_a told_b in_a in_b h k reads writes =
        absurd (line.apart run.words command other is says.first)
    completes (status.Refused found) says a b told_a told_b in_a in_b h k reads writes =
        let s = of_this _ command is says in absurd (both_admitted command.scale.digits a b in_a in_b found h k (s.first a b told_a told_b))
    completes status.ReadFault says a b told_a told_b in_a in_b h k reads writes = absurd (reads (risen _ _ says.holds.unreadable.counted))
    completes status.WriteFault says a b told_a told_b in_a in_b h k reads writes = absurd (writes (failed_risen _ _ _ says.holds.front))
    completes status.NoMemory says a b told_a told_b in_a in_b h k reads writes = inr refl

    refusal_comes : (ended : Status) → SaysOf run ended → (a b : List ℕ) → HasBytes run command A a → HasBytes run command B b
        → (found : Refusal) → IsFirstRefusal command.scale.digits a b found → IsRefusedOrStopped ended found
    refusal_comes status.Ok says a b told_a told_b found first =
        let s = of_this _ command is says in absurd (no_first s.text s.of_pairs a b told_a told_b found first)
    refusal_comes (status.Usage other) says a b told_a told_b found first = absurd (line.apart run.words command other is says.first)
    refusal_comes (status.Refused other) says a b told_a told_b found first =
        let s = of_this _ command is says in
        inl (ap status.Refused (one_first_refusal command.scale.digits a b other found (s.first a b told_a told_b) first))
    refusal_comes status.ReadFault says a b told_a told_b found first = inr (inl refl)
    refusal_comes status.WriteFault says a b told_a told_b found first =
        let s = of_this _ command is says in absurd (no_first s.text s.of_pairs a b told_a told_b found first)
    refusal_comes status.NoMemory says a b told_a told_b found first = inr (inr refl)

    -- what is refused is the refusal of A
    refused_in_a : (other : Refusal) → SaysOf run (status.Refused other) → (a : List ℕ) → HasBytes run command A a → (found : Refusal)
        → IsRefusalOf command.scale.digits A a found
        → other ≡ found
    refused_in_a other says a told found refusal = by_side (side_of other) refl
      where
        by_side : (side : Which) → side_of other ≡ side → other ≡ found
        by_side A e =
            let s = of_this _ command is says in
            let Refuses : Which → Type 0 = λ side. (bytes : List ℕ) → HasBytes run command side bytes
            → IsRefusalOf command.scale.digits side bytes other in
            one_refusal command.scale.digits A a other found (subst Refuses e s.refused.refusal a told) refusal
        by_side B e =
            let s = of_this _ command is says in
            let come : HasComeTo run command B = subst (HasComeTo run command) e s.come in
            absurd (admitted_not_refused command.scale.digits A a come.0 found (come.1.admitted a told) refusal)

    refusal_of_a_comes : (ended : Status) → SaysOf run ended → (a : List ℕ) → HasBytes run command A a → (found : Refusal)
        → IsRefusalOf command.scale.digits A a found
        → IsRefusedOrStopped ended found
    refusal_of_a_comes status.Ok says a told found refusal =
        let s = of_this _ command is says in absurd (no_refusal s.text s.of_pairs A a told found refusal)
    refusal_of_a_comes (status.Usage other) says a told found refusal = absurd (line.apart run.words command other is says.first)
    refusal_of_a_comes (status.Refused other) says a told found refusal =
        inl (ap status.Refused (refused_in_a other says a told found refusal))
    refusal_of_a_comes status.ReadFault says a told found refusal = inr (inl refl)
    refusal_of_a_comes status.WriteFault says a told found refusal =
        let s = of_this _ command is says in absurd (no_refusal s.text s.of_pairs A a told found refusal)
    refusal_of_a_comes status.NoMemory says a told found refusal = inr (inr refl)

    b_unasked : IsLastAsked run → (a : List ℕ) → HasBytes run command A a → (found : Refusal) → IsRefusalOf command.scale.digits A a found
        → run.inputs_after.asked B ≡ None
    b_unasked last a told found refusal = elim last [
      | inl none ↦ none
      | inr admitted ↦ (let s = of_this _ command is admitted in
          absurd (admitted_not_refused command.scale.digits A a s.0 found (s.1.admitted a told) refusal))
    ]

    unwritten : (ended : Status) → SaysOf run ended → (side : Which) (bytes : List ℕ) → HasBytes run command side bytes
        → (found : Refusal) → IsRefusalOf command.scale.digits side bytes found → IsUnwritten run
    unwritten status.Ok says side bytes told found refusal =
        let s = of_this _ command is says in absurd (no_refusal s.text s.of_pairs side bytes told found refusal)
    unwritten (status.Usage other) says side bytes told found refusal = says.unbegun.unwritten
    unwritten (status.Refused other) says side bytes told found refusal = says.holds.unwritten
    unwritten status.ReadFault says side bytes told found refusal = says.holds.unwritten
    unwritten status.WriteFault says side bytes told found refusal =
        let s = of_this _ command is says in absurd (no_refusal s.text s.of_pairs side bytes told found refusal)
    unwritten status.NoMemory says side bytes told found refusal = elim says [
      | inl unbegun ↦ unbegun.unwritten
      | inr of_command ↦ (let s = of_this _ command is of_command in
          elim s.written [
            | inl none ↦ none
            | inr begun ↦ absurd (no_refusal begun.text begun.of_pairs side bytes told found refusal)
          ])
    ]

  -- what a run says, with what comes of its words
  pub run_of : (ended : Status) → SaysOf run ended → ((side : Which) → IsAskedRightly run side) → IsLastAsked run
      → ((command : Config) → IsLine run.words command → command.quiet ≡ true → IsUnwritten run) → IsRun run ended
  run_of ended says asked last quiet = record {
    says = says;
    asked = asked;
    b_last = last;
    usage_comes = usage_comes ended says;
    usage_unbegun = usage_unbegun ended says;
    comes = λ command is. record {
      completes = completes command is ended says;
      refusal = refusal_comes command is ended says;
      refusal_of_a = refusal_of_a_comes command is ended says;
      b_unasked = b_unasked command is last;
      quiet = quiet command is;
      unwritten = unwritten command is ended says;
    };
  }
