-- A command line has one configuration or one first fault, and not both.
use Rattle.std.proofs.Common.{◌≡◌, ◌∙◌, ◌≤◌, ◌↔◌, inl, inr, refl, ap, sym, subst, arith, true, false, IsTrue, Bool, ℕ, ◌+◌, List, []}
use Rattle.std.proofs.Common.{Option, Some, None, slice_index_or}
use mathlib.Core.HLevel.{is_prop→PathP}
use Rattle.std.proofs.Math.Bridge.{le_prop}
use Rattle.std.proofs.lemmas.Bool.{cases_lt}
use Rattle.std.proofs.lemmas.Option.{none-some, same_Some}
use Rattle.clap.specs.Walk.{Row}
use Rattle.clap.specs.Kinds.{Kinds}
use Rattle.point_set.specs.declared.rule.Rule.{Rule}
use Rattle.wkt_text.specs.declared.scale.Scale.{Scale as ScaleOfNumbers}
use Rattle.im_matrix.specs.Patterns.{HasFaultAt}
use Rattle.topo_pred.specs.declared.Query.{Query}
use Rattle.topo_pred.specs.declared.Query.TheVariants.{Relate, Named, Match}
use Rattle.geosop_line.specs.Arguments.{Value}
use Rattle.geosop_line.specs.CommandLine.{Fails, IsConfig, IsFirst, rank}
use Rattle.geosop_line.specs.Figures.{AreBadSources, AreFiguresOf, IsBadSample, source_of}
use Rattle.geosop_line.specs.Numbers.{IsNumber}
use Rattle.geosop_line.specs.Operations.{Asks, operation_word}
use Rattle.geosop_line.specs.Settings.{IsRule, IsScale, IsThreads}
use Rattle.geosop_line.specs.declared.config.Config.{Config}
use Rattle.geosop_line.specs.declared.config.Source.{Source}
use Rattle.geosop_line.specs.declared.config.UsageFault.{UsageFault}
use Rattle.geosop_line.specs.declared.config.UsageFault.TheVariants.{Line, Sample, Sources, Operation, Argument, BadMatch, RuleName}
use Rattle.geosop_line.specs.declared.config.UsageFault.TheVariants.{Threads, Scale}
use Rattle.geosop_line.specs.declared.operation.Operation.{Operation as OneOperation}
use Rattle.geosop_line.specs.declared.operation.Operation.TheVariants as operation
use Rattle.geosop_line.proofs.FirstFaults.{fault_at, fault_by_rank, place_of, query_passes, sample_passes, sources_pass}
use Rattle.geosop_line.proofs.PatternFaults.{one_fault}
use Rattle.geosop_line.proofs.Words.{same_operation, same_pattern, same_rule}

-- ---- one configuration

-- the figures of given values are the same
one_figures : (sample a b : Value) (n m : Option ℕ) (x y u v : Source) → AreFiguresOf sample a b n x y → AreFiguresOf sample a b m u v
    → (n ≡ m) × (x ≡ u) × (y ≡ v)
one_figures sample a b None None x y u v f g = (
  refl,
  f.a_is ∙ ap source_of (same_Some _ _ (sym f.has_a ∙ g.has_a)) ∙ sym g.a_is,
  f.b_is ∙ ap source_of (same_Some _ _ (sym f.has_b ∙ g.has_b)) ∙ sym g.b_is,
)
one_figures sample a b None (Some m) x y u v f g = absurd (none-some g.value (sym f.no_sample ∙ g.has_sample))
one_figures sample a b (Some n) None x y u v f g = absurd (none-some f.value (sym g.no_sample ∙ f.has_sample))
one_figures sample a b (Some n) (Some m) x y u v f g =
    let same : f.value ≡ g.value = same_Some _ _ (sym f.has_sample ∙ g.has_sample) in
    let number : IsNumber 200 g.value n = subst (λ t. IsNumber 200 t n) same f.number in (
      ap Some (number.value ∙ sym g.number.value),
      f.a_is ∙ sym g.a_is,
      f.b_is ∙ sym g.b_is,
    )

-- the operation that a query was asked by
abbrev operation_of : Query → OneOperation
operation_of Relate = operation.Relate
operation_of (Named name) = operation.Named name
operation_of (Match pattern) = operation.RelatePattern

-- a query is asked by its operation's word
asked_by : (op arg : Value) (q : Query) → Asks op arg q → op ≡ Some (operation_word (operation_of q))
asked_by op arg Relate asks = asks.0
asked_by op arg (Named name) asks = asks.0
asked_by op arg (Match pattern) asks = asks.0

-- two queries of one operation are one
one_by_operation : (op arg : Value) (p q : Query) → operation_of p ≡ operation_of q → Asks op arg p → Asks op arg q → p ≡ q
one_by_operation op arg Relate Relate same f g = refl
one_by_operation op arg (Named name) (Named other) same f g = cc
one_by_operation op arg (Match p) (Match q) same f g = ap Match (same_pattern p q (same_Some _ _ (sym f.1 ∙ g.1)))
one_by_operation op arg p q same f g = cc

-- the query of given values is the same
one_query : (op arg : Value) (p q : Query) → Asks op arg p → Asks op arg q → p ≡ q
one_query op arg p q f g =
    let same = same_operation (operation_of p) (operation_of q) (same_Some _ _ (sym (asked_by op arg p f) ∙ asked_by op arg q g)) in
    one_by_operation op arg p q same f g

-- the rule of a value is the same
one_rule : (value : Value) (r s : Rule) → IsRule value r → IsRule value s → r ≡ s
one_rule None r s f g = f ∙ sym g
one_rule (Some word) r s f g = same_rule r s (sym f ∙ g)

-- the threads of a value are the same
one_threads : (value : Value) (n m : ℕ) → IsThreads value n → IsThreads value m → n ≡ m
one_threads None n m f g = f ∙ sym g
one_threads (Some text) n m f g = f.value ∙ sym g.value

-- two scales of one number of digits are one
same_scale : (s t : ScaleOfNumbers) → s.digits ≡ t.digits → s ≡ t
same_scale s t same = λ i. record { digits = same i; within = is_prop→PathP (λ j. same j ≤ 0) (λ j x y. le_prop x y) s.within t.within i }

-- the scale of a value is the same
one_scale : (value : Value) (s t : ScaleOfNumbers) → IsScale value s → IsScale value t → s ≡ t
one_scale None s t f g = same_scale s t (f ∙ sym g)
one_scale (Some text) s t f g =
    let same : 48 + s.digits ≡ 48 + t.digits = ap (λ xs. slice_index_or xs 0 0) (sym f.digit ∙ g.digit) in
    same_scale s t (omega arith)

-- two tests of one fact are one
one_test : (a b : Bool) (P : Type 0) → (IsTrue a ↔ P) → (IsTrue b ↔ P) → a ≡ b
one_test true true P f g = refl
one_test true false P f g = sym (g.1 (f.0 refl))
one_test false true P f g = f.1 (g.0 refl)
one_test false false P f g = refl

-- matches have one configuration
pub one_config : (rows : List Row) (c d : Config) → IsConfig rows c → IsConfig rows d → c ≡ d
one_config rows c d f g =
    let figures = one_figures _ _ _ c.sample d.sample c.a c.b d.a d.b f.figures g.figures in
    let query = one_query _ _ c.query d.query f.query g.query in
    let rule = one_rule _ c.rule d.rule f.rule g.rule in
    let threads = one_threads _ c.threads d.threads f.threads g.threads in
    let scale = one_scale _ c.scale d.scale f.scale g.scale in
    let quiet = one_test c.quiet d.quiet _ f.quiet g.quiet in
    let prepared = one_test c.prepared d.prepared _ f.prepared g.prepared in
    λ i. record {
      a = figures.1 i;
      b = figures.2 i;
      quiet = quiet i;
      rule = rule i;
      prepared = prepared i;
      threads = threads i;
      scale = scale i;
      query = query i;
      sample = figures.0 i;
    }

-- ---- one first fault

-- two bad matches are at one place
same_place : (refused : Kinds) (rows : List Row) (f g : UsageFault) → rank f ≡ rank g → Fails refused rows f → Fails refused rows g
    → place_of f ≡ place_of g
same_place refused rows (BadMatch p) (BadMatch q) same f g =
    one_fault g.text p q (subst (λ t. HasFaultAt t p) (same_Some _ _ (sym f.has_argument ∙ g.has_argument)) f.wrong) g.wrong
same_place refused rows (BadMatch p) g same f h = absurd (omega arith)
same_place refused rows f (BadMatch q) same h g = absurd (omega arith)
same_place refused rows f g same h k = refl

-- there is one first fault
pub one_first : (refused : Kinds) (rows : List Row) (f g : UsageFault) → IsFirst refused rows f → IsFirst refused rows g → f ≡ g
one_first refused rows f g is_f is_g = elim (cases_lt (rank f) (rank g)) [
  | inl before ↦ absurd (is_g.first f before is_f.fails)
  | inr past ↦ elim (cases_lt (rank g) (rank f)) [
    | inl before ↦ absurd (is_f.first g before is_g.fails)
    | inr at ↦
        let same : rank f ≡ rank g = omega arith in
        fault_by_rank f ∙ (λ i. fault_at (same i) (same_place refused rows f g same is_f.fails is_g.fails i)) ∙ sym (fault_by_rank g)
  ]
]

-- ---- not both

-- figures of a configuration have no fault
figures_pass_of : (sample a b : Value) (n : Option ℕ) (x y : Source) → AreFiguresOf sample a b n x y
    → ¬ IsBadSample sample a b × ¬ AreBadSources sample a b
figures_pass_of sample a b None x y from = sources_pass sample a b x y from
figures_pass_of sample a b (Some n) x y from = sample_passes sample a b n x y from

-- where there is a configuration there is no fault
pub config_passes : (refused : Kinds) (rows : List Row) (c : Config) → refused ≡ [] → IsConfig rows c → (f : UsageFault)
    → ¬ Fails refused rows f
config_passes refused rows c none is Line fails = fails none
config_passes refused rows c none is Sample fails = (figures_pass_of _ _ _ c.sample c.a c.b is.figures).0 fails
config_passes refused rows c none is Sources fails = (figures_pass_of _ _ _ c.sample c.a c.b is.figures).1 fails
config_passes refused rows c none is Operation fails = (query_passes _ _ c.query is.query).0 fails
config_passes refused rows c none is Argument fails = (query_passes _ _ c.query is.query).1 fails
config_passes refused rows c none is (BadMatch place) fails = (query_passes _ _ c.query is.query).2 place fails
config_passes refused rows c none is RuleName fails = fails c.rule is.rule
config_passes refused rows c none is Threads fails = fails c.threads is.threads
config_passes refused rows c none is Scale fails = fails c.scale is.scale
