-- From the faults of each part of the line to the first fault of all.
use Rattle.std.proofs.Common.{◌≡◌, ◌≢◌, ◌∙◌, ◌<◌, ◌+◌, inl, inr, refl, ap, sym, subst, arith, ℕ, List, [], ◌∷◌, Option, Some, None, Result}
use Rattle.std.proofs.Common.{IfErr, codes, slice_index_or}
use Rattle.std.proofs.lemmas.Bool.{cases_lt}
use Rattle.std.proofs.lemmas.Option.{none-some, same_Some}
use Rattle.std.proofs.lemmas.Result.{err_from_is_err_and}
use Rattle.std.specs.Result.{IsErrAnd}
use Rattle.clap.specs.Matches.{first_value}
use Rattle.clap.specs.Walk.{Row, rows_of}
use Rattle.clap.specs.declared.parser.matches.Found.{Found}
use Rattle.point_set.specs.declared.rule.Rule.{Rule}
use Rattle.topo_pred.specs.declared.Query.{Query}
use Rattle.topo_pred.specs.declared.Query.TheVariants as query
use Rattle.im_matrix.specs.Patterns.{HasFaultAt, pattern_text}
use Rattle.geosop_line.specs.Arguments.{Value, value_of}
use Rattle.geosop_line.specs.CommandLine.{Fails, IsFaultOf, IsFirst, rank}
use Rattle.geosop_line.specs.Figures.{AreBadSources, AreFiguresOf, ComeFromSample, ComeFromSources, IsBadSample}
use Rattle.geosop_line.specs.Numbers.{IsNumber}
use Rattle.geosop_line.specs.Operations.{Asks, IsBadArgument, IsBadOperation, IsBadPattern, operation_word}
use Rattle.geosop_line.specs.Settings.{IsRule, IsThreads}
use Rattle.geosop_line.specs.Steps.{AreFigures, AreMade, IsFiguresFault, IsQueryFault, IsRuleFault, IsScaleFault, IsThreadsFault}
use Rattle.geosop_line.specs.declared.config.Config.{Config}
use Rattle.geosop_line.specs.declared.config.LineFault.{LineFault}
use Rattle.geosop_line.specs.declared.config.LineFault.TheVariants.{Usage}
use Rattle.geosop_line.specs.declared.config.Source.{Source}
use Rattle.geosop_line.specs.declared.config.UsageFault.{UsageFault}
use Rattle.geosop_line.specs.declared.config.UsageFault.TheVariants.{Line, Sample, Sources, Operation, Argument, BadMatch, RuleName}
use Rattle.geosop_line.specs.declared.config.UsageFault.TheVariants.{Threads, Scale}
use Rattle.geosop_line.specs.declared.figures.Figures.{Figures}
use Rattle.geosop_line.specs.declared.figures.Figures.TheVariants.{OfSample, OfSources}
use Rattle.geosop_line.specs.declared.operation.Operation.{Operation as OneOperation}
use Rattle.geosop_line.specs.declared.operation.Operation.TheVariants as operation
use Rattle.geosop_line.proofs.PatternFaults.{no_fault_in_pattern}
use Rattle.geosop_line.proofs.Values.{value_is}
use Rattle.geosop_line.proofs.Words.{same_operation}

-- ---- the order of the faults

-- the place of a bad match
abbrev pub place_of : UsageFault → ℕ
place_of (BadMatch place) = place
place_of fault = 0

-- the fault of a rank
abbrev pub fault_at : ℕ → ℕ → UsageFault
fault_at rank place =
    slice_index_or (Line ∷ Sample ∷ Sources ∷ Operation ∷ Argument ∷ BadMatch place ∷ RuleName ∷ Threads ∷ Scale ∷ []) rank Line

-- a fault is known by its rank and its place
pub fault_by_rank : (fault : UsageFault) → fault ≡ fault_at (rank fault) (place_of fault)
fault_by_rank Line = refl
fault_by_rank Sample = refl
fault_by_rank Sources = refl
fault_by_rank Operation = refl
fault_by_rank Argument = refl
fault_by_rank (BadMatch place) = refl
fault_by_rank RuleName = refl
fault_by_rank Threads = refl
fault_by_rank Scale = refl

-- ---- the figures

-- figures from a sample have no fault
pub sample_passes : (sample a b : Value) (n : ℕ) (x y : Source) → ComeFromSample sample a b n x y
    → ¬ IsBadSample sample a b × ¬ AreBadSources sample a b
sample_passes sample a b n x y from = (
  λ bad.
      let same : from.value ≡ bad.value = same_Some _ _ (sym from.has_sample ∙ bad.has_sample) in
      elim bad.bad [
        | inl none ↦ none n (subst (λ v. IsNumber 200 v n) same from.number)
        | inr some ↦ elim some [ inl a_there ↦ cc (from.no_a, a_there) | inr b_there ↦ cc (from.no_b, b_there) ]
      ],
  λ bad. none-some from.value (sym bad.no_sample ∙ from.has_sample),
)

-- figures from two sources have no fault
pub sources_pass : (sample a b : Value) (x y : Source) → ComeFromSources sample a b x y
    → ¬ IsBadSample sample a b × ¬ AreBadSources sample a b
sources_pass sample a b x y from = (
  λ bad. none-some bad.value (sym from.no_sample ∙ bad.has_sample),
  λ bad. elim bad.bad [
    | inl missing ↦ elim missing [ inl no_a ↦ cc (from.has_a, no_a) | inr no_b ↦ cc (from.has_b, no_b) ]
    | inr both ↦ from.one_stdin (same_Some _ _ (sym from.has_a ∙ both.0), same_Some _ _ (sym from.has_b ∙ both.1))
  ],
)

-- figures that were found have no fault
pub figures_pass : (sample a b : Value) (figures : Figures) → AreFigures sample a b figures
    → ¬ IsBadSample sample a b × ¬ AreBadSources sample a b
figures_pass sample a b (OfSample n) from = sample_passes sample a b n _ _ from
figures_pass sample a b (OfSources x y) from = sources_pass sample a b _ _ from

-- ---- the query

-- an operation that isn't `relatePattern`
other_operation : (op : Value) (o : OneOperation) → op ≡ Some (operation_word o) → o ≢ operation.RelatePattern
    → ¬ (op ≡ Some (operation_word operation.RelatePattern))
other_operation op o is other same = other (same_operation o operation.RelatePattern (same_Some _ _ (sym is ∙ same)))

-- an operation without an argument that isn't `relatePattern` passes
plain_passes : (op arg : Value) (o : OneOperation) → op ≡ Some (operation_word o) → arg ≡ None → o ≢ operation.RelatePattern
    → ¬ IsBadOperation op × ¬ IsBadArgument op arg × ((place : ℕ) → ¬ IsBadPattern op arg place)
plain_passes op arg o is none other = (
  λ bad. bad o is,
  λ bad. elim bad [ inl missing ↦ other_operation op o is other missing.0 | inr surplus ↦ cc (none, surplus.1) ],
  λ place bad. other_operation op o is other bad.asks,
)

-- a query that is asked has no fault
pub query_passes : (op arg : Value) (q : Query) → Asks op arg q
    → ¬ IsBadOperation op × ¬ IsBadArgument op arg × ((place : ℕ) → ¬ IsBadPattern op arg place)
query_passes op arg query.Relate asks = plain_passes op arg operation.Relate asks.0 asks.1 (λ e. cc)
query_passes op arg (query.Named name) asks = plain_passes op arg (operation.Named name) asks.0 asks.1 (λ e. cc)
query_passes op arg (query.Match pattern) asks = (
  λ bad. bad operation.RelatePattern asks.0,
  λ bad. elim bad [ inl missing ↦ cc (asks.1, missing.1) | inr surplus ↦ surplus.0 asks.0 ],
  λ place bad.
      let same : bad.text ≡ pattern_text pattern = same_Some _ _ (sym bad.has_argument ∙ asks.1) in
      no_fault_in_pattern pattern place (subst (λ t. HasFaultAt t place) same bad.wrong),
)

-- ---- the first fault

module _ (found : Found) where
  -- the matches that were found
  abbrev rows : List Row
  rows = rows_of found

  -- no fault before a rank
  abbrev pub PassesBelow : ℕ → Type 0
  PassesBelow k = (other : UsageFault) → rank other < k → ¬ Fails [] rows other

  -- one rank more, where the fault of that rank isn't there
  pub passes_more : (k : ℕ) → PassesBelow k → ((place : ℕ) → ¬ Fails [] rows (fault_at k place)) → PassesBelow (k + 1)
  passes_more k below here other lt fails = elim (cases_lt (rank other) k) [
    | inl before ↦ below other before fails
    | inr at ↦
        let same : rank other ≡ k = omega arith in
        here (place_of other) (subst (Fails [] rows) (fault_by_rank other ∙ ap (λ r. fault_at r (place_of other)) same) fails)
  ]

  -- clap refuses nothing
  pub passes_line : PassesBelow 1
  passes_line = passes_more 0 (λ other lt. absurd (omega arith)) (λ place some. some refl)

  -- the figures are there
  pub passes_figures : (figures : Figures) {sample a b : Value} → sample ≡ first_value found (codes "sample")
      → a ≡ first_value found (codes "a") → b ≡ first_value found (codes "b") → AreFigures sample a b figures → PassesBelow 3
  passes_figures figures s_is a_is b_is from =
      let pass = figures_pass _ _ _ figures (rw (value_is found _ s_is, value_is found _ a_is, value_is found _ b_is) at from) in
      passes_more 2 (passes_more 1 passes_line (λ place. pass.0)) (λ place. pass.1)

  -- the query is there
  pub passes_query : PassesBelow 3 → (q : Query) {op arg : Value} → op ≡ first_value found (codes "op")
      → arg ≡ first_value found (codes "arg") → Asks op arg q → PassesBelow 6
  passes_query three q op_is arg_is asks =
      let pass = query_passes _ _ q (rw (value_is found _ op_is, value_is found _ arg_is) at asks) in
      passes_more 5 (passes_more 4 (passes_more 3 three (λ place. pass.0)) (λ place. pass.1)) pass.2

  -- the rule is there
  pub passes_rule : PassesBelow 6 → (rule : Rule) {value : Value} → value ≡ first_value found (codes "rule") → IsRule value rule
      → PassesBelow 7
  passes_rule six rule is has = passes_more 6 six (λ place bad. bad rule (rw (value_is found _ is) at has))

  -- the threads are there
  pub passes_threads : PassesBelow 7 → (threads : ℕ) {value : Value} → value ≡ first_value found (codes "threads") → IsThreads value threads
      → PassesBelow 8
  passes_threads seven threads is has = passes_more 7 seven (λ place bad. bad threads (rw (value_is found _ is) at has))

  -- a fault of the figures is the first
  figures_first_at : (fault : UsageFault)
      → IsFiguresFault (value_of (codes "sample") rows) (value_of (codes "a") rows) (value_of (codes "b") rows) fault
      → IsFirst [] rows fault
  figures_first_at Sample fails = record { fails = fails; first = passes_line }
  figures_first_at Sources fails = record {
    fails = fails;
    first = passes_more 1 passes_line (λ place bad. none-some bad.value (sym fails.no_sample ∙ bad.has_sample));
  }
  figures_first_at other fails = absurd fails

  -- the same of values that are those of the matches
  pub figures_first : {sample a b : Value} {fault : UsageFault} → sample ≡ first_value found (codes "sample")
      → a ≡ first_value found (codes "a") → b ≡ first_value found (codes "b") → IsFiguresFault sample a b fault → IsFirst [] rows fault
  figures_first {fault = fault} s_is a_is b_is fails =
      figures_first_at fault (rw (value_is found _ s_is, value_is found _ a_is, value_is found _ b_is) at fails)

  -- a fault of the query is the first where the figures are there
  query_first_at : PassesBelow 3 → (fault : UsageFault) → IsQueryFault (value_of (codes "op") rows) (value_of (codes "arg") rows) fault
      → IsFirst [] rows fault
  query_first_at three Operation fails = record { fails = fails; first = three }
  query_first_at three Argument fails = record {
    fails = fails.1;
    first = passes_more 3 three (λ place bad. bad fails.0.one fails.0.is);
  }
  query_first_at three (BadMatch place) fails = record {
    fails = fails;
    first = passes_more 4 (passes_more 3 three (λ other bad. bad operation.RelatePattern fails.asks))
        (λ other bad. elim bad [ inl missing ↦ cc (missing.1, fails.has_argument) | inr surplus ↦ surplus.0 fails.asks ]);
  }
  query_first_at three other fails = absurd fails

  -- the same of values that are those of the matches
  pub query_first : PassesBelow 3 → {op arg : Value} {fault : UsageFault} → op ≡ first_value found (codes "op")
      → arg ≡ first_value found (codes "arg") → IsQueryFault op arg fault → IsFirst [] rows fault
  query_first three {fault = fault} op_is arg_is fails =
      query_first_at three fault (rw (value_is found _ op_is, value_is found _ arg_is) at fails)

  -- a fault of the rule is the first where figures and query are there
  pub rule_first : PassesBelow 6 → {value : Value} {fault : UsageFault} → value ≡ first_value found (codes "rule")
      → IsRuleFault value fault → IsFirst [] rows fault
  rule_first six is fails = rw fails.0 (record { fails = rw (value_is found _ is) at fails.1; first = six })

  -- a fault of the threads is the first where all before it is there
  pub threads_first : PassesBelow 7 → {value : Value} {fault : UsageFault} → value ≡ first_value found (codes "threads")
      → IsThreadsFault value fault → IsFirst [] rows fault
  threads_first seven is fails = rw fails.0 (record { fails = rw (value_is found _ is) at fails.1; first = seven })

  -- a fault of the scale is the first where all before it is there
  pub scale_first : PassesBelow 8 → {value : Value} {fault : UsageFault} → value ≡ first_value found (codes "scale")
      → IsScaleFault value fault → IsFirst [] rows fault
  scale_first eight is fails = rw fails.0 (record { fails = rw (value_is found _ is) at fails.1; first = eight })

  -- a first fault that is given on is the answer
  pub given_on : (r : Result Config LineFault) {fault : UsageFault} → IsErrAnd r (λ e. e ≡ Usage fault) → IsFirst [] rows fault
      → IfErr r (IsFaultOf [] rows)
  given_on r given first = let p = err_from_is_err_and r given in rw (p.1, p.2) first

-- figures whose sources are made are those of the configuration
pub figures_made : (sample a b : Value) (figures : Figures) (x y : Source) (n : Option ℕ) → AreFigures sample a b figures
    → AreMade figures x y n → AreFiguresOf sample a b n x y
figures_made sample a b (OfSample k) x y n from made = rw made.2 (record {
  value = from.value;
  has_sample = from.has_sample;
  number = from.number;
  no_a = from.no_a;
  no_b = from.no_b;
  a_is = made.0;
  b_is = made.1;
})
figures_made sample a b (OfSources va vb) x y n from made = rw made.2 (record {
  value_a = from.value_a;
  value_b = from.value_b;
  no_sample = from.no_sample;
  has_a = from.has_a;
  has_b = from.has_b;
  one_stdin = from.one_stdin;
  a_is = made.0 ∙ from.a_is;
  b_is = made.1 ∙ from.b_is;
})
