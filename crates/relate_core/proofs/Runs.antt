-- A run over a table, entry after entry: the samples at the entries before have been taken in, and before each of them the query was
-- open.
use Rattle.std.proofs.Common.{◌≡◌, ◌⊎◌, inl, inr, ℕ, ◌+◌, ◌<◌, ◌≤◌, List, [], ◌∷◌, ◌++◌, length, take, append_assoc, length-append}
use Rattle.std.proofs.Common.{refl, sym, ◌∙◌, subst, arith}
use Rattle.std.specs.List.{All}
use Rattle.std.proofs.Math.Seq.{take-append_seam}
use Rattle.std.proofs.lemmas.Bool.{cases_lt}
use Rattle.std.proofs.lemmas.List.Elements.{All-tail}
use Rattle.im_matrix.specs.declared.Cell.{Cell}
use Rattle.im_matrix.specs.declared.Dim.{Dim}
use Rattle.plane_laws.specs.Plane.{Point, IsSamePoint}
use Rattle.plane_laws.proofs.Points.Same.{same_refl}
use Rattle.plane_exact.specs.NodePoints.{point_at}
use Rattle.point_set.specs.declared.figure.Figure.{Figure}
use Rattle.point_set.specs.declared.rule.Rule.{Rule}
use Rattle.point_set.specs.Samples.{IsSampleAt, IsSample}
use Rattle.point_set.specs.Visible.{AreValid}
use Rattle.figure_laws.proofs.Lists.Search.{any_left, any_right}
use Rattle.cell_laws.proofs.Samples.Same.{sample_same}
use Rattle.node_table.specs.declared.entry.Entry.{Entry}
use Rattle.topo_pred.specs.Values.{IsOpen}
use Rattle.topo_pred.specs.declared.Progress.{Progress}
use Rattle.relate_core.specs.Looks.{WasOpenAfter, IsRunOf}
use Rattle.relate_core.specs.Tables.{IsListed}
use Rattle.relate_core.specs.Taking.{HasTakenIn, HasAllSections}
use Rattle.relate_core.proofs.Entries.{listed_first}
use Rattle.relate_core.proofs.Taking.{taken_alike, taken_together, taken_nothing}

-- ---- listed points
-- a point is at the first node
pub listed_here : (e : Entry) (entries : List Entry) (v : Point) → IsSamePoint v (point_at e.node) → IsListed (e ∷ entries) v
listed_here e entries v same = any_left (λ f. IsSamePoint v (point_at f.node)) (e ∷ []) entries (0, e, omega arith, refl, same)

-- or at a later one
pub listed_later : (e : Entry) (entries : List Entry) (v : Point) → IsListed entries v → IsListed (e ∷ entries) v
listed_later e entries v h = any_right (λ f. IsSamePoint v (point_at f.node)) (e ∷ []) entries h

-- no point is at a node of none
pub listed_none : (v : Point) → ¬ IsListed [] v
listed_none v h = let below = h.2 in omega (arith, below)

-- a point that is listed in two tables one after the other is listed in one of them
listed_either : (v : Point) (first rest : List Entry) → IsListed (first ++ rest) v → IsListed first v ⊎ IsListed rest v
listed_either v [] rest h = inr h
listed_either v (e ∷ first) rest h = by_first (listed_first v e (first ++ rest) h) (listed_either v first rest)
  where
    by_first : IsSamePoint v (point_at e.node) ⊎ IsListed (first ++ rest) v
        → (IsListed (first ++ rest) v → IsListed first v ⊎ IsListed rest v) → IsListed (e ∷ first) v ⊎ IsListed rest v
    by_first (inl same) later = inl (listed_here e first v same)
    by_first (inr l) later = elim (later l) [
      | inl k ↦ inl (listed_later e first v k)
      | inr k ↦ inr k
    ]

-- ---- the run
-- Some entries of a table have been taken out, the samples at their nodes taken in, and before each the query was open.
pub record HasVisited (a b : Figure) (rule : Rule) (old now : List Entry) (p q : Progress) : Type 0 where
  pub visited : List Entry
  pub parts : old ≡ visited ++ now
  pub sections : All (HasAllSections a b) now
  pub taken : HasTakenIn (IsSample (IsListed visited) a b rule) p q
  pub was_open : (i : ℕ) → i < length visited → WasOpenAfter a b rule (take i old) p

module _ (a b : Figure) (valid : AreValid a b) (rule : Rule) where
  -- at first none
  pub visited_none : (old : List Entry) (p : Progress) → All (HasAllSections a b) old → HasVisited a b rule old old p p
  visited_none old p sections = record {
    visited = [];
    parts = refl;
    sections = sections;
    taken = taken_nothing (IsSample (IsListed []) a b rule) p (λ c d s. listed_none s.v s.is_node);
    was_open = λ i below. absurd (omega (arith, below));
  }

  -- what was open is open after the first so many entries, and so after one more than before
  opened : (old now : List Entry) (p q : Progress) → (h : HasVisited a b rule old now p q) → IsOpen q → (i : ℕ)
      → i < length h.visited + 1 → WasOpenAfter a b rule (take i old) p
  opened old now p q h is_open i below = by_place (cases_lt i (length h.visited))
    where
      by_place : (i < length h.visited) ⊎ (length h.visited ≤ i) → WasOpenAfter a b rule (take i old) p
      by_place (inl less) = h.was_open i less
      by_place (inr most) =
          let same : length h.visited ≡ i = omega (arith, below, most) in
          subst (λ j. WasOpenAfter a b rule (take j old) p) same
          (subst (λ (t : List Entry). WasOpenAfter a b rule t p)
          (sym ((λ j. take (length h.visited) (h.parts j)) ∙ take-append_seam h.visited now))
          (record { now = q; taken = h.taken; is_open = is_open }))

  -- a sample at one entry more is one at its node or at an earlier one
  pub visited_more : (old now : List Entry) (e : Entry) (p q r : Progress) → HasVisited a b rule old (e ∷ now) p q → IsOpen q
      → HasTakenIn (IsSampleAt a b rule (point_at e.node)) q r → HasVisited a b rule old now p r
  visited_more old now e p q r h is_open k = record {
    visited = h.visited ++ e ∷ [];
    parts = h.parts ∙ sym (append_assoc h.visited (e ∷ []) now);
    sections = All-tail (HasAllSections a b) e now h.sections;
    taken =
        taken_together (IsSample (IsListed h.visited) a b rule) (IsSampleAt a b rule (point_at e.node))
        (IsSample (IsListed (h.visited ++ e ∷ [])) a b rule) earlier here either p q r h.taken k;
    was_open = λ i below. opened old (e ∷ now) p q h is_open i (omega (arith, below, length-append h.visited (e ∷ [])));
  }
    where
      earlier : (c : Cell) (d : Dim) → IsSample (IsListed h.visited) a b rule c d → IsSample (IsListed (h.visited ++ e ∷ [])) a b rule c d
      earlier c d s = record {
        v = s.v;
        is_node = any_left (λ f. IsSamePoint s.v (point_at f.node)) h.visited (e ∷ []) s.is_node;
        sample = s.sample;
      }

      here : (c : Cell) (d : Dim) → IsSampleAt a b rule (point_at e.node) c d → IsSample (IsListed (h.visited ++ e ∷ [])) a b rule c d
      here c d s = record {
        v = point_at e.node;
        is_node =
            any_right (λ f. IsSamePoint (point_at e.node) (point_at f.node)) h.visited (e ∷ [])
            (listed_here e [] (point_at e.node) (same_refl (point_at e.node)));
        sample = s;
      }

      either : (c : Cell) (d : Dim) → IsSample (IsListed (h.visited ++ e ∷ [])) a b rule c d
          → IsSample (IsListed h.visited) a b rule c d ⊎ IsSampleAt a b rule (point_at e.node) c d
      either c d s = by_part (listed_either s.v h.visited (e ∷ []) s.is_node)
        where
          at : IsSamePoint s.v (point_at e.node) ⊎ IsListed [] s.v → IsSampleAt a b rule (point_at e.node) c d
          at (inl same) = sample_same a b valid rule s.v (point_at e.node) same c d s.sample
          at (inr l) = absurd (listed_none s.v l)

          by_part : IsListed h.visited s.v ⊎ IsListed (e ∷ []) s.v
              → IsSample (IsListed h.visited) a b rule c d ⊎ IsSampleAt a b rule (point_at e.node) c d
          by_part (inl l) = inl (record { v = s.v; is_node = l; sample = s.sample })
          by_part (inr l) = inr (at (listed_first s.v e [] l))

  -- a sample at a visited entry is one of the table
  of_old : (old now : List Entry) (p q : Progress) → (h : HasVisited a b rule old now p q) → (c : Cell) (d : Dim)
      → IsSample (IsListed h.visited) a b rule c d → IsSample (IsListed old) a b rule c d
  of_old old now p q h c d s = record {
    v = s.v;
    is_node =
        subst (λ (t : List Entry). IsListed t s.v) (sym h.parts)
        (any_left (λ f. IsSamePoint s.v (point_at f.node)) h.visited now s.is_node);
    sample = s.sample;
  }

  -- in the end all
  pub visited_all : (old : List Entry) (p q : Progress) → HasVisited a b rule old [] p q
      → HasTakenIn (IsSample (IsListed old) a b rule) p q
  visited_all old p q h =
      taken_alike (IsSample (IsListed h.visited) a b rule) (IsSample (IsListed old) a b rule) (of_old old [] p q h)
      (λ c d s. record { v = s.v; is_node = all s.v s.is_node; sample = s.sample }) p q h.taken
    where
      all : (v : Point) → IsListed old v → IsListed h.visited v
      all v l = elim (listed_either v h.visited [] (subst (λ (t : List Entry). IsListed t v) h.parts l)) [
        | inl k ↦ k
        | inr k ↦ absurd (listed_none v k)
      ]

  -- or so many that the value is known
  pub visited_enough : (old now : List Entry) (p q : Progress) → HasVisited a b rule old now p q
      → HasTakenIn (IsSample (IsListed old) a b rule) q q → HasTakenIn (IsSample (IsListed old) a b rule) p q
  visited_enough old now p q h k =
      taken_together (IsSample (IsListed h.visited) a b rule) (IsSample (IsListed old) a b rule) (IsSample (IsListed old) a b rule)
      (of_old old now p q h) (λ c d s. s) (λ c d s. inr s) p q q h.taken k

  -- ---- the count
  -- no more looks than entries that were visited, and the next, before which the query was open
  pub run_and_next : (old now : List Entry) (e : Entry) (p q : Progress) → HasVisited a b rule old (e ∷ now) p q → IsOpen q
      → (before after : ℕ) → after + length now ≤ before + length old → IsRunOf a b rule old p before after
  run_and_next old now e p q h is_open before after few =
      let all : length old ≡ length h.visited + length (e ∷ now) = (λ j. length (h.parts j)) ∙ length-append h.visited (e ∷ now) in
      record {
        entered = length h.visited + 1;
        within = omega (arith, all);
        risen = omega (arith, all, few);
        was_open = opened old (e ∷ now) p q h is_open;
      }

-- no more looks than entries that were visited
pub run_so_far : {a b : Figure} {rule : Rule} {old now : List Entry} {p q : Progress} → HasVisited a b rule old now p q
    → {before after : ℕ} → after + length now ≤ before + length old → IsRunOf a b rule old p before after
run_so_far {old} {now} h few =
    let all : length old ≡ length h.visited + length now = (λ j. length (h.parts j)) ∙ length-append h.visited now in
    record { entered = length h.visited; within = omega (arith, all); risen = omega (arith, all, few); was_open = h.was_open }
