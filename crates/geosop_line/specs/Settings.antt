-- The boundary node rule, the threads and the scale, by the values of their options.
use Rattle.std.specs.Prelude.{◌≡◌, ℕ, List, Some, None, codes}
use Rattle.point_set.specs.declared.rule.Rule.{Rule}
use Rattle.point_set.specs.declared.rule.Rule.TheVariants.{Mod2, Endpoint, Multivalent, Monovalent}
use Rattle.wkt_text.specs.declared.scale.Scale.{Scale as ScaleOfNumbers}
use Rattle.geosop_line.specs.Arguments.{Value}
use Rattle.geosop_line.specs.Numbers.{IsNumber, IsDigit}

-- The word of a boundary node rule.
abbrev pub rule_word : Rule → List ℕ
rule_word Mod2 = codes "mod2"
rule_word Endpoint = codes "endpoint"
rule_word Multivalent = codes "multivalent"
rule_word Monovalent = codes "monovalent"

-- The rule of a value of `--rule`: mod2 where there is none.
abbrev pub IsRule : Value → Rule → Type 0
IsRule None rule = rule ≡ Mod2
IsRule (Some word) rule = word ≡ rule_word rule

-- The number of threads of a value of `--threads`: 1 where there is none, and else a number from 1 to 64.
abbrev pub IsThreads : Value → ℕ → Type 0
IsThreads None threads = threads ≡ 1
IsThreads (Some text) threads = IsNumber 64 text threads

-- The scale of a value of `--scale`: 0 where there is none, and else that of one digit.
abbrev pub IsScale : Value → ScaleOfNumbers → Type 0
IsScale None scale = scale.digits ≡ 0
IsScale (Some text) scale = IsDigit text scale.digits

-- The value of `--rule` names no rule.
abbrev pub IsBadRule : Value → Type 0
IsBadRule value = (rule : Rule) → ¬ IsRule value rule

-- The value of `--threads` isn't a number from 1 to 64.
abbrev pub AreBadThreads : Value → Type 0
AreBadThreads value = (threads : ℕ) → ¬ IsThreads value threads

-- The value of `--scale` isn't one digit for which there is a scale.
abbrev pub IsBadScale : Value → Type 0
IsBadScale value = (scale : ScaleOfNumbers) → ¬ IsScale value scale
