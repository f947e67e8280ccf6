-- The count of looks: where the first i of the few nodes decide a query, a run over those of them that are near a box, begun with all that
-- is known of the far ones, has at most i looks.
use Rattle.std.proofs.Common.{◌≡◌, ◌≤◌, ◌<◌, ◌+◌, ◌⊎◌, inl, inr, ℕ, Bool, List, take, ap, refl, sym, ◌∙◌, subst, arith}
use Rattle.std.specs.Prelude.{Option}
use Rattle.std.proofs.lemmas.Bool.{cases_lt}
use Rattle.std.proofs.lemmas.List.Elements.{All-contains, All-take}
use Rattle.im_matrix.specs.Cells.{rank, dimension_at, start_dimension}
use Rattle.im_matrix.specs.declared.Cell.{Cell}
use Rattle.im_matrix.specs.declared.Dim.{Dim}
use Rattle.im_matrix.specs.declared.Matrix.{Matrix}
use Rattle.plane_laws.proofs.Points.Same.{same_refl, same_trans}
use Rattle.plane_laws.specs.Plane.{Point, IsSamePoint}
use Rattle.plane_exact.specs.NodePoints.{point_at}
use Rattle.plane_exact.specs.declared.node.Node.{Node}
use Rattle.plane_exact.specs.declared.window.Window.{Window}
use Rattle.point_set.specs.declared.figure.Figure.{Figure}
use Rattle.point_set.specs.declared.rule.Rule.{Rule}
use Rattle.point_set.specs.Nodes.{IsFewNode}
use Rattle.point_set.specs.Samples.{IsSample, IsSampleAt, IsMatrixOfSamples}
use Rattle.point_set.specs.Visible.{AreValid}
use Rattle.cell_laws.proofs.Samples.Same.{sample_same}
use Rattle.near_laws.proofs.Decide.Near.{greatest_at_most}
use Rattle.box_laws.specs.Boxes.{IsNearWindow}
use Rattle.near_laws.specs.Near.{IsNearNode}
use Rattle.node_table.specs.declared.entry.Entry.{Entry}
use Rattle.topo_pred.proofs.Laws.{itself, everywhere, everywhere-most}
use Rattle.topo_pred.specs.Later.{IsAtLeast}
use Rattle.topo_pred.specs.Values.{value_of, value_at, matrix_of, IsOpen, IsSettled, asks_matrix, undecided}
use Rattle.topo_pred.specs.declared.Answer.{Answer}
use Rattle.topo_pred.specs.declared.Answer.TheVariants.{Im, Truth}
use Rattle.topo_pred.specs.declared.Progress.{Progress}
use Rattle.topo_pred.specs.declared.Query.{Query}
use Rattle.topo_pred.specs.declared.Query.TheVariants.{Relate}
use Rattle.relate_core.specs.Looks.{IsOneOf, AreNodesInOrder, DecideQuery, AreLooksFew, WasOpenAfter, IsRunOf, IsNearRun, stands, runs}
use Rattle.relate_core.specs.Tables.{IsListed, IsTableOf}
use Rattle.relate_core.specs.Taking.{HasTakenIn}
use Rattle.relate_core.proofs.NearFew.{AreFirst, no_more_entries, first_entries}
use Rattle.relate_core.proofs.SampleMatrices.{sample_matrix}
use Rattle.relate_core.proofs.SectorSamples.{not_everywhere}

-- ---- answers
-- a matrix isn't a truth
im_or_truth : (m : Matrix) (t : Bool) → Im m ≡ Truth t → ⊥
im_or_truth m t e = cc

-- the matrix of an answer
abbrev matrix_in : Answer → Matrix
matrix_in (Im m) = m
matrix_in (Truth t) = everywhere

-- where the matrix is asked for, it is the value
relate_value : (p : Progress) → p.query ≡ Relate → (m : Matrix) → value_at p m ≡ Im m
relate_value p e m = ap (λ q. value_of q p.dim_a p.dim_b m) e

-- a query whose value is settled isn't open
not_settled : (p : Progress) (t : Bool) → IsSettled p t → ¬ IsOpen p
not_settled p t settled (asks_matrix e) =
    im_or_truth (matrix_of p) t (sym (relate_value p e (matrix_of p)) ∙ settled (matrix_of p) (itself (matrix_of p)))
not_settled p t settled (undecided u) = u.differ (settled u.one u.one_later ∙ sym (settled u.other u.other_later))

-- ---- a query that has taken in what is known of the far nodes
module _ (a b : Figure) (valid : AreValid a b) (rule : Rule) (query : Query) (dim_a dim_b : Dim) (w : Option Window) (far : Cell → Dim)
    (near? : (v : Point) → IsNearWindow w v ⊎ (¬ IsNearWindow w v))
    (far_shows : (v : Point) → ¬ IsNearWindow w v → (c : Cell) (d : Dim) → IsSampleAt a b rule v c d → rank d ≤ rank (far c))
    (fresh start : Progress) (value : (m : Matrix) → value_at fresh m ≡ value_of query dim_a dim_b m)
    (starts : (c : Cell) → dimension_at (matrix_of fresh) c ≡ start_dimension c)
    (taken_far : HasTakenIn (λ c d. d ≡ far c) fresh start) where
  -- ---- where some nodes decide
  module _ (nodes : List Node) (decide : DecideQuery a b rule query dim_a dim_b nodes) where
    -- it isn't open with a matrix that is at least theirs
    not_decided :
        (m : Matrix) → IsMatrixOfSamples (IsOneOf nodes) a b rule m → (now : Progress)
        → ((n : Matrix) → value_at now n ≡ value_of query dim_a dim_b n) → IsAtLeast (matrix_of now) m → ¬ IsOpen now
    not_decided m is now value_now more (asks_matrix e) =
        not_everywhere a b valid.a_shaped rule (IsOneOf nodes) m is
        (ap matrix_in (sym (relate_value now e m) ∙ same ∙ relate_value now e everywhere))
      where
        same : value_at now m ≡ value_at now everywhere
        same = value_now m ∙ decide m is m everywhere (itself m) (everywhere-most m) ∙ sym (value_now everywhere)
    not_decided m is now value_now more (undecided u) =
        u.differ (value_now u.one ∙ decide m is u.one u.other (later u.one u.one_later) (later u.other u.other_later)
        ∙ sym (value_now u.other))
      where
        later : (n : Matrix) → IsAtLeast n (matrix_of now) → IsAtLeast n m
        later n l c = let low = more c in let high = l c in omega (arith, low, high)

    -- ---- after entries among which are all that are at one of the nodes
    module _ (few : (v : Point) → IsOneOf nodes v
        → (n : Node) × IsSamePoint v (point_at n) × IsFewNode a b (point_at n) × IsOneOf nodes (point_at n))
        (entries : List Entry) (listed : (v : Point) → IsNearNode w a b v → IsOneOf nodes v → IsListed entries v)
        (o : WasOpenAfter a b rule entries start) where
      -- its matrix is at least theirs
      at_least :
          (m : Matrix) → IsMatrixOfSamples (IsOneOf nodes) a b rule m
          → ((c : Cell) (d : Dim) → d ≡ far c → rank d ≤ rank (dimension_at (matrix_of start) c))
          → ((c : Cell) (d : Dim) → IsSample (IsListed entries) a b rule c d → rank d ≤ rank (dimension_at (matrix_of o.now) c))
          → IsAtLeast (matrix_of o.now) m
      at_least m is told whole c =
          greatest_at_most (λ d. (d ≡ start_dimension c) ⊎ IsSample (IsOneOf nodes) a b rule c d) (dimension_at m c)
          (rank (dimension_at (matrix_of o.now) c)) (is c) each
        where
          from_start : rank (dimension_at (matrix_of start) c) ≤ rank (dimension_at (matrix_of o.now) c)
          from_start = o.taken.kept c

          at_node : (d : Dim) (u : Point) → IsFewNode a b u → IsOneOf nodes u → IsSampleAt a b rule u c d
              → IsNearWindow w u ⊎ (¬ IsNearWindow w u) → rank d ≤ rank (dimension_at (matrix_of o.now) c)
          at_node d u few_u one s (inl near) =
              whole c d (record { v = u; is_node = listed u (few_u, near) one; sample = s })
          at_node d u few_u one s (inr apart) =
              let low = far_shows u apart c d s in let high = told c (far c) refl in omega (arith, low, high, from_start)

          each : (d : Dim) → (d ≡ start_dimension c) ⊎ IsSample (IsOneOf nodes) a b rule c d
              → rank d ≤ rank (dimension_at (matrix_of o.now) c)
          each d (inl e) =
              let first = taken_far.kept c in
              subst (λ z. rank z ≤ rank (dimension_at (matrix_of o.now) c)) (starts c ∙ sym e) (omega (arith, first, from_start))
          each d (inr s) =
              let k = few s.v s.is_node in
              at_node d (point_at k.0) k.2 k.3 (sample_same a b valid rule s.v (point_at k.0) k.1 c d s.sample) (near? (point_at k.0))

      -- so it can't have been open
      not_open : ⊥
      not_open = sample_matrix (IsOneOf nodes) a b rule (λ m. by_whole m.0 m.1 taken_far.whole o.taken.whole)
        where
          value_now : (m : Matrix) → value_at o.now m ≡ value_of query dim_a dim_b m
          value_now m = o.taken.value m ∙ taken_far.value m ∙ value m

          later : (t : Bool) → IsSettled start t → IsSettled o.now t
          later t settled m more =
              o.taken.value m ∙ settled m (λ c. let low = o.taken.kept c in let high = more c in omega (arith, low, high))

          by_whole : (m : Matrix) → IsMatrixOfSamples (IsOneOf nodes) a b rule m
              → ((t : Bool) × IsSettled start t)
              ⊎ ((c : Cell) (d : Dim) → d ≡ far c → rank d ≤ rank (dimension_at (matrix_of start) c))
              → ((t : Bool) × IsSettled o.now t)
              ⊎ ((c : Cell) (d : Dim) → IsSample (IsListed entries) a b rule c d → rank d ≤ rank (dimension_at (matrix_of o.now) c))
              → ⊥
          by_whole m is (inl s) h = not_settled o.now s.0 (later s.0 s.1) o.is_open
          by_whole m is (inr told) (inl s) = not_settled o.now s.0 s.1 o.is_open
          by_whole m is (inr told) (inr whole) = not_decided m is o.now value_now (at_least m is told whole) o.is_open

  -- ---- a run over the table of the near ones
  module _ (entries : List Entry) (table : IsTableOf (IsNearNode w a b) a b entries) (nodes : List Node)
      (are : AreNodesInOrder (IsFewNode a b) nodes) where
    -- each entry is at one of the few nodes
    at_few : (v : Point) → IsListed entries v → IsOneOf nodes v
    at_few v l =
        let near = All-contains (λ e. IsNearNode w a b (point_at e.node)) entries l.1 table.nodes.only (l.0, l.2, l.3) in
        let h = are.whole (point_at l.1.node) near.0 in
        (h.0, h.1, h.2, h.3, same_trans l.4 h.4)

    -- each of the first of them is one
    each_few : (i : ℕ) (v : Point) → IsOneOf (take i nodes) v
        → (n : Node) × IsSamePoint v (point_at n) × IsFewNode a b (point_at n) × IsOneOf (take i nodes) (point_at n)
    each_few i v h = (
      h.1,
      h.4,
      All-contains (λ n. IsFewNode a b (point_at n)) (take i nodes) h.1 (All-take (λ n. IsFewNode a b (point_at n)) i nodes are.only)
          (h.0, h.2, h.3),
      (h.0, h.1, h.2, h.3, same_refl (point_at h.1)),
    )

    -- where the first i decide, the run has no more than i
    run_decided : (i : ℕ) → DecideQuery a b rule query dim_a dim_b (take i nodes) → (before after : ℕ)
        → IsRunOf a b rule entries start before after → after ≤ before + i
    run_decided i decide before after run = by_order (cases_lt k.j run.entered)
      where
        k : AreFirst nodes entries i
        k = first_entries nodes entries are.in_order table.in_order at_few i

        by_order : (k.j < run.entered) ⊎ (run.entered ≤ k.j) → after ≤ before + i
        by_order (inl below) =
            absurd (not_open (take i nodes) decide (each_few i) (take k.j entries)
            (λ v near one. k.first v one (table.nodes.whole v near)) (run.was_open k.j below))
        by_order (inr most) = let few = k.few in let risen = run.risen in omega (arith, few, most, risen)

  -- so the looks are few
  pub looks_are_few : (before after : ℕ) → IsNearRun w a b rule start before after → AreLooksFew a b rule query dim_a dim_b before after
  looks_are_few before after (stands same) = record {
    all = λ nodes are. omega (arith, same);
    decided = λ nodes are i within decide. omega (arith, same);
  }
  looks_are_few before after (runs entries table run) = record {
    all = λ nodes are.
        let few = no_more_entries nodes entries are.in_order table.in_order (at_few entries table nodes are) in
        let within = run.within in let risen = run.risen in omega (arith, few, within, risen);
    decided = λ nodes are i within decide. run_decided entries table nodes are i decide before after run;
  }
