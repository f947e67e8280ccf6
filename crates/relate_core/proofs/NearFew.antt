-- Entries whose nodes are among some nodes, both in order: they are no more than the nodes, and those of the first i nodes are among the
-- first j entries, for some j that is at most i.
use Rattle.std.proofs.Common.{◌≡◌, ◌≤◌, ◌⊎◌, inl, inr, ℕ, zero, suc, ◌<◌, List, [], ◌∷◌, length, take, get_or}
use Rattle.std.proofs.Common.{sym, ◌∙◌, subst, arith, Less, Equal}
use Rattle.std.specs.List.{All, AllPairs}
use Rattle.std.proofs.lemmas.List.Elements.{All-cons, All-contains, All-weaker}
use Rattle.plane_laws.proofs.Points.Order.{compare_points_total, compare_points_same}
use Rattle.plane_laws.proofs.Points.Same.{same_refl, same_sym, same_trans}
use Rattle.plane_laws.specs.Plane.{Point, IsSamePoint}
use Rattle.plane_exact.proofs.Laws.{one_node}
use Rattle.plane_exact.specs.NodePoints.{point_at}
use Rattle.plane_exact.specs.declared.node.Node.{Node}
use Rattle.node_table.specs.Orders.{compare_nodes}
use Rattle.node_table.specs.Tables.{AreInOrder}
use Rattle.node_table.specs.declared.entry.Entry.{Entry}
use Rattle.relate_core.specs.Looks.{IsOneOf}
use Rattle.relate_core.specs.Tables.{IsListed}
use Rattle.relate_core.proofs.Entries.{listed_first}
use Rattle.relate_core.proofs.Runs.{listed_here, listed_later, listed_none}

-- ---- one of some nodes
-- the first of them or a later one
one_first : (v : Point) (n : Node) (nodes : List Node) → IsOneOf (n ∷ nodes) v → IsSamePoint v (point_at n) ⊎ IsOneOf nodes v
one_first v n nodes h = at h.0 h.2 h.3
  where
    at : (k : ℕ) → k < length (n ∷ nodes) → get_or (n ∷ nodes) k h.1 ≡ h.1 → IsSamePoint v (point_at n) ⊎ IsOneOf nodes v
    at zero below is = inl (subst (λ (m : Node). IsSamePoint v (point_at m)) (sym is) h.4)
    at (suc k) below is = inr (k, h.1, omega (arith, below), is, h.4)

-- no point is one of none
one_none : (v : Point) → ¬ IsOneOf [] v
one_none v h = let below = h.2 in omega (arith, below)

-- ---- in order
-- a node comes before some entries
abbrev IsBefore : Node → List Entry → Type 0
IsBefore n entries = All (λ e. compare_nodes n e.node ≡ Less) entries

-- and then none of them is at it
apart_from : (n : Node) (entries : List Entry) → IsBefore n entries → (v : Point) → IsListed entries v → ¬ IsSamePoint v (point_at n)
apart_from n entries before v h same =
    let less = All-contains (λ e. compare_nodes n e.node ≡ Less) entries h.1 before (h.0, h.2, h.3) in
    let equal = compare_points_same (point_at n) (point_at h.1.node) (same_trans (same_sym same) h.4) in
    clash (sym less ∙ equal)
  where
    clash : Less ≡ Equal → ⊥
    clash e = cc

-- what comes before the first entry comes before all
before_all :
    (n : Node) (e : Entry) (rest : List Entry) → compare_nodes n e.node ≡ Less → IsBefore e.node rest → IsBefore n (e ∷ rest)
before_all n e rest less before =
    All-cons (λ f. compare_nodes n f.node ≡ Less) e rest less
    (All-weaker (λ f. compare_nodes e.node f.node ≡ Less) (λ f. compare_nodes n f.node ≡ Less)
    (λ f later. compare_points_total.trans (point_at n) (point_at e.node) (point_at f.node) less later) rest before)

-- ---- a part
-- each entry is at one of the nodes, in their order, and the other nodes are left out
data IsPartOf : List Node → List Entry → Type 0 where
  nothing : IsPartOf [] []
  left_out :
      {n : Node} {nodes : List Node} {entries : List Entry} → ((v : Point) → IsListed entries v → ¬ IsSamePoint v (point_at n))
      → IsPartOf nodes entries → IsPartOf (n ∷ nodes) entries
  taken :
      {n : Node} {nodes : List Node} {e : Entry} {rest : List Entry} → IsSamePoint (point_at e.node) (point_at n)
      → IsPartOf nodes rest → IsPartOf (n ∷ nodes) (e ∷ rest)

-- entries in order at some of the nodes in order are a part of them
part_of :
    (nodes : List Node) (entries : List Entry) → AllPairs (λ m n. compare_nodes m n ≡ Less) nodes → AreInOrder entries
    → ((v : Point) → IsListed entries v → IsOneOf nodes v) → IsPartOf nodes entries
part_of [] [] up sorted only = nothing
part_of [] (e ∷ rest) up sorted only =
    absurd (one_none (point_at e.node) (only (point_at e.node) (listed_here e rest (point_at e.node) (same_refl (point_at e.node)))))
part_of (n ∷ nodes) [] up sorted only =
    left_out (λ v l. absurd (listed_none v l))
    (part_of nodes [] (λ i j d below within. up (suc i) (suc j) d (omega (arith, below)) (omega (arith, within))) sorted
    (λ v l. absurd (listed_none v l)))
part_of (n ∷ nodes) (e ∷ rest) up sorted only =
    by_first (one_first (point_at e.node) n nodes (only (point_at e.node) here)) (part_of nodes (e ∷ rest) up_next sorted)
    (part_of nodes rest up_next (λ i j d below within. sorted (suc i) (suc j) d (omega (arith, below)) (omega (arith, within))))
  where
    here : IsListed (e ∷ rest) (point_at e.node)
    here = listed_here e rest (point_at e.node) (same_refl (point_at e.node))

    up_next : AllPairs (λ m n. compare_nodes m n ≡ Less) nodes
    up_next i j d below within = up (suc i) (suc j) d (omega (arith, below)) (omega (arith, within))

    before : IsBefore e.node rest
    before k d below = sorted 0 (suc k) d (omega arith) (omega (arith, below))

    later : (entries : List Entry) → ((v : Point) → IsListed entries v → ¬ IsSamePoint v (point_at n))
        → ((v : Point) → IsListed entries v → IsListed (e ∷ rest) v) → (v : Point) → IsListed entries v → IsOneOf nodes v
    later entries apart within v l = elim (one_first v n nodes (only v (within v l))) [
      | inl same ↦ absurd (apart v l same)
      | inr k ↦ k
    ]

    by_first : IsSamePoint (point_at e.node) (point_at n) ⊎ IsOneOf nodes (point_at e.node)
        → (((v : Point) → IsListed (e ∷ rest) v → IsOneOf nodes v) → IsPartOf nodes (e ∷ rest))
        → (((v : Point) → IsListed rest v → IsOneOf nodes v) → IsPartOf nodes rest) → IsPartOf (n ∷ nodes) (e ∷ rest)
    by_first (inl same) skip next =
        taken same (next (later rest
        (λ v l at. apart_from e.node rest before v l (same_trans at (same_sym same))) (λ v l. listed_later e rest v l)))
    by_first (inr k) skip next =
        let less : compare_nodes n k.1 ≡ Less =
        All-contains (λ m. compare_nodes n m ≡ Less) nodes k.1
        (λ i d below. up 0 (suc i) d (omega arith) (omega (arith, below))) (k.0, k.2, k.3) in
        let ahead : compare_nodes n e.node ≡ Less = subst (λ (m : Node). compare_nodes n m ≡ Less) (sym (one_node e.node k.1 k.4)) less in
        let apart = apart_from n (e ∷ rest) (before_all n e rest ahead before) in
        left_out apart (skip (later (e ∷ rest) apart (λ v l. l)))

-- they are no more than the nodes
part_few : {nodes : List Node} {entries : List Entry} → IsPartOf nodes entries → length entries ≤ length nodes
part_few nothing = omega arith
part_few (left_out apart part) = let few = part_few part in omega (arith, few)
part_few (taken same part) = let few = part_few part in omega (arith, few)

-- Among the first i nodes there are only some of the first j entries.
pub record AreFirst (nodes : List Node) (entries : List Entry) (i : ℕ) : Type 0 where
  pub j : ℕ
  pub few : j ≤ i
  pub first : (v : Point) → IsOneOf (take i nodes) v → IsListed entries v → IsListed (take j entries) v

-- for each i there is such a j
part_first : {nodes : List Node} {entries : List Entry} → IsPartOf nodes entries → (i : ℕ) → AreFirst nodes entries i
part_first part zero = record { j = 0; few = omega arith; first = λ v h l. absurd (one_none v h) }
part_first nothing (suc i) = record { j = 0; few = omega arith; first = λ v h l. absurd (listed_none v l) }
part_first (left_out {n} {nodes} {entries} apart part) (suc i) =
    let k = part_first part i in
    let few = k.few in
    record { j = k.j; few = omega (arith, few); first = λ v h l. by_first k.j v l (k.first v) (one_first v n (take i nodes) h) }
  where
    by_first : (j : ℕ) (v : Point) → IsListed entries v → (IsOneOf (take i nodes) v → IsListed entries v → IsListed (take j entries) v)
        → IsSamePoint v (point_at n) ⊎ IsOneOf (take i nodes) v → IsListed (take j entries) v
    by_first j v l rest (inl same) = absurd (apart v l same)
    by_first j v l rest (inr h) = rest h l
part_first (taken {n} {nodes} {e} {rest} same part) (suc i) =
    let k = part_first part i in
    let few = k.few in
    record {
      j = suc k.j;
      few = omega (arith, few);
      first = λ v h l. by_first k.j v (k.first v) (one_first v n (take i nodes) h) (listed_first v e rest l);
    }
  where
    by_first : (j : ℕ) (v : Point) → (IsOneOf (take i nodes) v → IsListed rest v → IsListed (take j rest) v)
        → IsSamePoint v (point_at n) ⊎ IsOneOf (take i nodes) v → IsSamePoint v (point_at e.node) ⊎ IsListed rest v
        → IsListed (e ∷ take j rest) v
    by_first j v later h (inl at) = listed_here e (take j rest) v at
    by_first j v later (inl at) (inr l) = listed_here e (take j rest) v (same_trans at (same_sym same))
    by_first j v later (inr h) (inr l) = listed_later e (take j rest) v (later h l)

-- ---- both in order
module _ (nodes : List Node) (entries : List Entry) (up : AllPairs (λ m n. compare_nodes m n ≡ Less) nodes) (sorted : AreInOrder entries)
    (only : (v : Point) → IsListed entries v → IsOneOf nodes v) where
  pub no_more_entries : length entries ≤ length nodes
  no_more_entries = part_few (part_of nodes entries up sorted only)

  pub first_entries : (i : ℕ) → AreFirst nodes entries i
  first_entries = part_first (part_of nodes entries up sorted only)
