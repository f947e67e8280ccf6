-- The answers to a command line, from those of clap and of the matches.
use Rattle.std.proofs.Common.{◌≡◌, ◌⊎◌, inl, inr, refl, ap, sym, subst, ℕ, List, [], Result, Ok, Err, IfOk, IfErr}
use Rattle.clap.specs.Walk.{Row}
use Rattle.geosop_line.specs.Arguments.{matches, refusals}
use Rattle.geosop_line.specs.CommandLine.{IsConfig, IsFaultOf, IsFirstFault, IsLine, IsLineFault}
use Rattle.geosop_line.specs.declared.config.Config.{Config}
use Rattle.geosop_line.specs.declared.config.LineFault.{LineFault}
use Rattle.geosop_line.specs.declared.config.LineFault.TheVariants.{Usage, NoMemory}
use Rattle.geosop_line.specs.declared.config.UsageFault.{UsageFault}
use Rattle.geosop_line.proofs.OneAnswer.{config_passes, one_config, one_first}

-- an answer of the matches of a line is one of the line
pub answers_line : (words : List (List ℕ)) (rows : List Row) (r : Result Config LineFault) → rows ≡ matches words → refusals words ≡ []
    → IfOk r (IsConfig rows) → IfErr r (IsFaultOf [] rows) → IfOk r (IsLine words) × IfErr r (IsLineFault words)
answers_line words rows (Ok c) are none ok err = (record { taken = none; has = subst (λ s. IsConfig s c) are ok }, tt)
answers_line words rows (Err e) are none ok err =
    (tt, subst (λ k. IsFaultOf k (matches words) e) (sym none) (subst (λ s. IsFaultOf [] s e) are err))

-- an answer of the line's configuration or first fault is the configuration that there is, or want of memory
pub config_comes : (words : List (List ℕ)) (r : Result Config LineFault) → IfOk r (IsLine words) → IfErr r (IsLineFault words)
    → (c : Config) → IsLine words c → (r ≡ Ok c) ⊎ (r ≡ Err NoMemory)
config_comes words (Ok d) ok err c is = inl (ap Ok (one_config (matches words) d c ok.has is.has))
config_comes words (Err NoMemory) ok err c is = inr refl
config_comes words (Err (Usage f)) ok err c is = absurd (config_passes (refusals words) (matches words) c is.taken is.has f err.fails)

-- and it is the first fault that there is, or want of memory
pub fault_comes : (words : List (List ℕ)) (r : Result Config LineFault) → IfOk r (IsLine words) → IfErr r (IsLineFault words)
    → (f : UsageFault) → IsFirstFault words f → (r ≡ Err (Usage f)) ⊎ (r ≡ Err NoMemory)
fault_comes words (Ok d) ok err f is = absurd (config_passes (refusals words) (matches words) d ok.taken ok.has f is.fails)
fault_comes words (Err NoMemory) ok err f is = inr refl
fault_comes words (Err (Usage g)) ok err f is =
    inl (ap (λ (h : UsageFault). Err (Usage h)) (one_first (refusals words) (matches words) g f err is))
