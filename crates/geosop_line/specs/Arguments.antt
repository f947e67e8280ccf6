-- The command as clap knows it, and what clap's stated functions give of the words.
use Rattle.std.specs.Prelude.{ℕ, true, List, [], ◌∷◌, Option, Some, codes}
use Rattle.clap.specs.Walk.{Row, Rule, first_of}
use Rattle.clap.specs.Simple.{App, matches_of, new_rule, new_shape}
use Rattle.clap.specs.Kinds.{Kinds}
use Rattle.clap.specs.Faults.{fault_of}
use Rattle.clap.specs.declared.builder.action.ArgAction.TheVariants.{SetTrue}

-- An option with one value, by its letter.
abbrev pub letter_option : List ℕ → ℕ → Rule
letter_option id letter = record (new_rule id) { short = Some letter }

-- An option with one value, by its name.
abbrev pub named_option : List ℕ → Rule
named_option id = record (new_rule id) { long = Some id }

-- A flag, by its name. Its value is `true` where it is there, and else `false`.
abbrev pub flag : List ℕ → Rule
flag id = record (new_rule id) { long = Some id; action = Some SetTrue }

-- The arguments: `-a`, `-b`, `-q` or `--quiet`, `--rule`, `--prepared`, `--threads`, `--scale`, `--sample`, and two positionals.
-- Each takes one value, but for the flags. For clap none is required, excludes another or has a default of ours. 97, 98 and 113 are
-- the letters a, b and q.
abbrev pub arguments : List Rule
arguments =
    letter_option (codes "a") 97
    ∷ letter_option (codes "b") 98
    ∷ record (flag (codes "quiet")) { short = Some 113 }
    ∷ named_option (codes "rule")
    ∷ flag (codes "prepared")
    ∷ named_option (codes "threads")
    ∷ named_option (codes "scale")
    ∷ named_option (codes "sample")
    ∷ new_rule (codes "op")
    ∷ new_rule (codes "arg")
    ∷ []

-- The command: these arguments, no help and no version of clap's own, and no subcommand.
unfoldable pub command : App
command = record {
  top = record (new_shape (codes "geosop")) {
    rules = arguments;
    disable_help_flag = true;
    disable_version_flag = true;
  };
  subs = [];
}

-- The matches of the words, the first of which is the program's name, as clap states them.
unfoldable pub matches : List (List ℕ) → List Row
matches words = matches_of command words

-- For what reasons clap refuses the words, as it states them: none where it gives matches. Want of memory is none of them.
unfoldable pub refusals : List (List ℕ) → Kinds
refusals words = fault_of command words

-- The value of an option or of a positional, where there is one.
abbrev pub Value : Type 0
Value = Option (List ℕ)

-- The value that the matches have by an id.
unfoldable pub value_of : List ℕ → List Row → Value
value_of id rows = first_of id rows
