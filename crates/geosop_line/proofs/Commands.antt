-- How a command of clap's is built up, and what its parse of the words gives.
use Rattle.std.proofs.Common.{◌≡◌, ◌≢◌, ◌∙◌, ◌⊎◌, inl, inr, refl, ap, sym, subst, false, true, not, is_some, ℕ, List, [], ◌∷◌, map, fold}
use Rattle.std.specs.List.{list_all}
use Rattle.clap.specs.Built.{AddsArg, AddsInTurn}
use Rattle.clap.specs.Walk.{is_empty, is_simple_arg, rows_of, rule_of}
use Rattle.clap.specs.Simple.{App, HasMatchesOf, app_of, app_of_fields, is_simple, matches_of, on_top, with_rule}
use Rattle.clap.specs.Kinds.{IsAmong, Kinds}
use Rattle.clap.specs.Faults.{fault_of, is_simple_and_free}
use Rattle.clap.specs.Matches.{found_of}
use Rattle.clap.specs.declared.builder.arg.Arg.{Arg}
use Rattle.clap.specs.declared.builder.command.Command.{Command}
use Rattle.clap.specs.declared.builder.command.Command.TheViews.{out-Command}
use Rattle.clap.specs.declared.error.kind.ErrorKind.{ErrorKind}
use Rattle.clap.specs.declared.error.kind.ErrorKind.TheVariants.{OutOfMemory}
use Rattle.clap.specs.declared.parser.matches.ArgMatches.{ArgMatches}
use Rattle.clap.proofs.OnLiterals.{clap_on_literals}
use Rattle.clap.proofs.SimpleLemmas.{is_false}
use Rattle.clap.proofs.WalkLemmas.{both}
use Rattle.geosop_line.specs.Arguments.{command, matches, refusals}
use Rattle.geosop_line.specs.Steps.{IsToldOf, told_as}

-- a simple argument isn't global
not_global : (x : Arg) → is_simple_arg x ≡ true → x.global ≡ false
not_global x simple =
    let overrides = both (is_empty x.overrides.items) _ simple in
    let defaults = both (is_empty x.default_vals_ifs.items) _ overrides.1 in
    let groups = both (is_empty x.groups.items) _ defaults.1 in
    let delimiter = both (not (is_some x.val_delim)) _ groups.1 in
    let terminator = both (not (is_some x.terminator)) _ delimiter.1 in
    let hyphens = both (not x.allow_hyphen_values) _ terminator.1 in
    let negatives = both (not x.allow_negative_numbers) _ hyphens.1 in
    let equals = both (not x.require_equals) _ negatives.1 in
    let last = both (not x.last) _ equals.1 in
    is_false x.global last.1

-- simple arguments, added in turn, are added as what a parse reads of them
pub added_rules : (old : Command) (xs : List Arg) (new : Command) → AddsInTurn AddsArg old xs new
    → list_all (λ r. r.is_simple) (map rule_of xs) ≡ true → app_of new ≡ fold with_rule (app_of old) (map rule_of xs)
added_rules old [] new same simple = ap app_of (sym same)
added_rules old (x ∷ xs) new added simple =
    let parts = both _ _ simple in
    added_rules added.0 xs new added.2 parts.1 ∙ ap (λ a. fold with_rule a (map rule_of xs)) (added.1.shape (not_global x parts.0))

-- a command without help of clap's own
abbrev pub without_help : App → App
without_help = on_top (λ s. record s { disable_help_flag = true })

-- a command without version of clap's own
abbrev pub without_version : App → App
without_version = on_top (λ s. record s { disable_version_flag = true })

-- a command that was told to have no help has none
pub told_no_help : (old new : Command) → out-Command new ≡ record (out-Command old) { disable_help_flag = true }
    → app_of new ≡ without_help (app_of old)
told_no_help old new told = ap app_of_fields told

-- a command that was told to have no version has none
pub told_no_version : (old new : Command) → out-Command new ≡ record (out-Command old) { disable_version_flag = true }
    → app_of new ≡ without_version (app_of old)
told_no_version old new told = ap app_of_fields told

-- the command is one of which clap states the matches and the refusals
is_stated : is_simple_and_free command ≡ true
unfolding command clap_on_literals
is_stated = refl

-- and the matches alone
is_simple_command : is_simple command ≡ true
unfolding command clap_on_literals
is_simple_command = refl

-- the rows of a parse are the matches that clap states of the command
pub rows_are_matches : (app : App) (words : List (List ℕ)) (m : ArgMatches) → app ≡ command → HasMatchesOf app words m
    → rows_of (found_of m) ≡ matches words
unfolding matches
rows_are_matches app words m is has = (has (ap is_simple is ∙ is_simple_command)).0 ∙ ap (λ a. matches_of a words) is

-- a parse that succeeds has no refusal
pub none_refused : (app : App) (words : List (List ℕ)) → app ≡ command → (is_simple_and_free app ≡ true → fault_of app words ≡ [])
    → refusals words ≡ []
unfolding refusals
none_refused app words is taken = ap (λ a. fault_of a words) (sym is) ∙ taken (ap is_simple_and_free is ∙ is_stated)

-- an error is told rightly where there is a refusal
told_of_some : (kind : ErrorKind) (kinds : Kinds) → kinds ≢ [] → IsToldOf kinds (told_as kind)
told_of_some OutOfMemory kinds some = tt
told_of_some kind kinds some = (refl, some)

-- no kind is among none
some_among : (kind : ErrorKind) (kinds : Kinds) → IsAmong kind kinds → kinds ≢ []
some_among kind [] among none = among
some_among kind (k ∷ ks) among none = cc

-- an error of a parse is told rightly
pub told_rightly : (app : App) (words : List (List ℕ)) (kind : ErrorKind) → app ≡ command
    → (is_simple_and_free app ≡ true → (kind ≡ OutOfMemory) ⊎ IsAmong kind (fault_of app words)) → IsToldOf (refusals words) (told_as kind)
unfolding refusals
told_rightly app words kind is fails = elim (fails (ap is_simple_and_free is ∙ is_stated)) [
  | inl memory ↦ rw memory tt
  | inr among ↦ told_of_some kind _ (some_among kind _ (subst (λ a. IsAmong kind (fault_of a words)) is among))
]
