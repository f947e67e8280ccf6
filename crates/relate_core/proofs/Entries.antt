-- A table's entries when a node is put in: which points are listed then, and what holds of the entries.
use Rattle.std.proofs.Common.{◌≡◌, ◌⊎◌, inl, inr, ℕ, zero, suc, ◌<◌, List, [], ◌∷◌, ◌++◌, length, get_or, append_assoc, ap, refl, sym, ◌∙◌}
use Rattle.std.proofs.Common.{subst, arith, Ordering, Less, Equal}
use Rattle.std.specs.List.{All}
use Rattle.std.specs.Ordering.{match_ordering}
use Rattle.std.specs.declared.cmp.Ordering.TheVariants.{Greater}
use Rattle.std.proofs.lemmas.Cmp.{tied_itself}
use Rattle.std.proofs.lemmas.List.Elements.{All-head, All-tail, All-cons}
use Rattle.plane_laws.proofs.Points.Order.{compare_points_total, same_compare_points}
use Rattle.plane_laws.proofs.Points.Same.{same_trans}
use Rattle.plane_laws.specs.Plane.{Point, IsSamePoint}
use Rattle.plane_exact.specs.NodePoints.{point_at}
use Rattle.plane_exact.specs.declared.node.Node.{Node}
use Rattle.fan_order.specs.declared.section.Section.{Section}
use Rattle.node_table.specs.Orders.{compare_nodes}
use Rattle.node_table.specs.Tables.{entry, with_sections}
use Rattle.node_table.specs.declared.entry.Entry.{Entry}
use Rattle.relate_core.specs.Tables.{IsListed}

-- the entries with a node put in, by how it compares with the first
abbrev with_by : Ordering → Entry → List Entry → Node → List Section → List Entry
with_by o e entries n s =
    match_ordering o (entry n s ∷ e ∷ entries) (entry e.node (e.sections ++ s) ∷ entries) (e ∷ with_sections entries n s)

-- a node is equal to itself
itself : (n : Node) → compare_nodes n n ≡ Equal
itself n = tied_itself compare_points_total (point_at n)

-- ---- sections in two steps
-- a node put in with sections and then with more has them all
pub more_sections : (t : List Entry) (n : Node) (s more : List Section)
    → with_sections (with_sections t n s) n more ≡ with_sections t n (s ++ more)
more_sections [] n s more = ap (λ o. with_by o (entry n s) [] n more) (itself n)
more_sections (e ∷ t) n s more = go (compare_nodes n e.node) refl (more_sections t n s more)
  where
    go : (o : Ordering) → compare_nodes n e.node ≡ o → with_sections (with_sections t n s) n more ≡ with_sections t n (s ++ more)
        → with_sections (with_by o e t n s) n more ≡ with_by o e t n (s ++ more)
    go Less c r = ap (λ o. with_by o (entry n s) (e ∷ t) n more) (itself n)
    go Equal c r =
        ap (λ o. with_by o (entry e.node (e.sections ++ s)) t n more) c ∙ ap (λ x. entry e.node x ∷ t) (append_assoc e.sections s more)
    go Greater c r = ap (λ o. with_by o e (with_sections t n s) n more) c ∙ ap (λ rest. e ∷ rest) r

-- ---- the listed points
-- a point is listed, along the entries
abbrev IsAmong : Point → List Entry → Type 0
IsAmong v [] = ⊥
IsAmong v (e ∷ t) = IsSamePoint v (point_at e.node) ⊎ IsAmong v t

-- from the entry at a place
among : (t : List Entry) (v : Point) → IsListed t v → IsAmong v t
among t v h = go t h.0 h.2 h.3
  where
    go : (t : List Entry) (k : ℕ) → k < length t → get_or t k h.1 ≡ h.1 → IsAmong v t
    go [] k below is = absurd (omega (arith, below))
    go (e ∷ t) zero below is = inl (subst (λ (z : Entry). IsSamePoint v (point_at z.node)) (sym is) h.4)
    go (e ∷ t) (suc k) below is = inr (go t k (omega (arith, below)) is)

-- and back
listed : (t : List Entry) (v : Point) → IsAmong v t → IsListed t v
listed [] v h = absurd h
listed (e ∷ t) v (inl s) = (0, e, omega arith, refl, s)
listed (e ∷ t) v (inr h) = let k = listed t v h in (suc k.0, k.1, (let below = k.2 in omega (arith, below)), k.3, k.4)

-- a listed point is the first entry's node, or is listed behind it
pub listed_first : (v : Point) (e : Entry) (t : List Entry) → IsListed (e ∷ t) v → IsSamePoint v (point_at e.node) ⊎ IsListed t v
listed_first v e t h = go (among (e ∷ t) v h)
  where
    go : IsSamePoint v (point_at e.node) ⊎ IsAmong v t → IsSamePoint v (point_at e.node) ⊎ IsListed t v
    go (inl s) = inl s
    go (inr k) = inr (listed t v k)

module _ (n : Node) (s : List Section) (v : Point) where
  among_kept : (t : List Entry) → IsAmong v t → IsAmong v (with_sections t n s)
  among_kept [] h = absurd h
  among_kept (e ∷ t) h = go (compare_nodes n e.node) h (among_kept t)
    where
      go : (o : Ordering) → IsSamePoint v (point_at e.node) ⊎ IsAmong v t → (IsAmong v t → IsAmong v (with_sections t n s))
          → IsAmong v (with_by o e t n s)
      go Less h r = inr h
      go Equal h r = h
      go Greater (inl k) r = inl k
      go Greater (inr k) r = inr (r k)

  among_added : IsSamePoint v (point_at n) → (t : List Entry) → IsAmong v (with_sections t n s)
  among_added same [] = inl same
  among_added same (e ∷ t) = go (compare_nodes n e.node) refl (among_added same t)
    where
      go : (o : Ordering) → compare_nodes n e.node ≡ o → IsAmong v (with_sections t n s) → IsAmong v (with_by o e t n s)
      go Less c r = inl same
      go Equal c r = inl (same_trans same (same_compare_points (point_at n) (point_at e.node) c))
      go Greater c r = inr r

  among_only : (t : List Entry) → IsAmong v (with_sections t n s) → IsAmong v t ⊎ IsSamePoint v (point_at n)
  among_only [] (inl k) = inr k
  among_only [] (inr k) = absurd k
  among_only (e ∷ t) h = go (compare_nodes n e.node) h (among_only t)
    where
      later : IsAmong v t ⊎ IsSamePoint v (point_at n) → IsAmong v (e ∷ t) ⊎ IsSamePoint v (point_at n)
      later (inl k) = inl (inr k)
      later (inr k) = inr k

      go : (o : Ordering) → IsAmong v (with_by o e t n s) → (IsAmong v (with_sections t n s) → IsAmong v t ⊎ IsSamePoint v (point_at n))
          → IsAmong v (e ∷ t) ⊎ IsSamePoint v (point_at n)
      go Less (inl k) r = inr k
      go Less (inr k) r = inl k
      go Equal k r = inl k
      go Greater (inl k) r = inl (inl k)
      go Greater (inr k) r = later (r k)

  -- what was listed is listed when a node is put in
  pub listed_kept : (t : List Entry) → IsListed t v → IsListed (with_sections t n s) v
  listed_kept t h = listed (with_sections t n s) v (among_kept t (among t v h))

  -- so is the node
  pub listed_added : (t : List Entry) → IsSamePoint v (point_at n) → IsListed (with_sections t n s) v
  listed_added t same = listed (with_sections t n s) v (among_added same t)

  -- and nothing else
  pub listed_only : (t : List Entry) → IsListed (with_sections t n s) v → IsListed t v ⊎ IsSamePoint v (point_at n)
  listed_only t h = go (among_only t (among (with_sections t n s) v h))
    where
      go : IsAmong v t ⊎ IsSamePoint v (point_at n) → IsListed t v ⊎ IsSamePoint v (point_at n)
      go (inl k) = inl (listed t v k)
      go (inr k) = inr k

-- ---- all entries
-- what holds of all entries and of one with a new node holds of all when it is put in
pub all_new : (P : Entry → Type 0) (n : Node) (s : List Section) (t : List Entry) → All (λ e. ¬ (compare_nodes n e.node ≡ Equal)) t
    → P (entry n s) → All P t → All P (with_sections t n s)
all_new P n s [] apart here all = All-cons P (entry n s) [] here all
all_new P n s (e ∷ t) apart here all =
    go (compare_nodes n e.node) refl (All-head (λ z. ¬ (compare_nodes n z.node ≡ Equal)) e t apart)
    (all_new P n s t (All-tail (λ z. ¬ (compare_nodes n z.node ≡ Equal)) e t apart) here (All-tail P e t all))
  where
    go : (o : Ordering) → compare_nodes n e.node ≡ o → ¬ (compare_nodes n e.node ≡ Equal) → All P (with_sections t n s)
        → All P (with_by o e t n s)
    go Less c new r = All-cons P (entry n s) (e ∷ t) here all
    go Equal c new r = absurd (new c)
    go Greater c new r = All-cons P e (with_sections t n s) (All-head P e t all) r
