-- A table that is filled node by node, the least first, out of a table of nodes alone.
use Rattle.std.proofs.Common.{◌≡◌, ◌⊎◌, inl, inr, suc, List, [], ◌∷◌, sym, ◌∙◌, subst, arith, Less, Equal}
use Rattle.std.specs.List.{All}
use Rattle.std.proofs.lemmas.Cmp.{tied_back}
use Rattle.std.proofs.lemmas.List.Elements.{All-nil, All-head, All-tail, All-weaker}
use Rattle.plane_laws.proofs.Points.Order.{compare_points_total}
use Rattle.plane_laws.specs.Plane.{Point, IsSamePoint}
use Rattle.plane_exact.specs.NodePoints.{point_at}
use Rattle.point_set.specs.declared.figure.Figure.{Figure}
use Rattle.node_table.specs.Orders.{compare_nodes}
use Rattle.node_table.specs.Tables.{entry, with_sections, AreInOrder}
use Rattle.node_table.specs.declared.entry.Entry.{Entry}
use Rattle.relate_core.specs.Tables.{IsListed, AreNodes, HasItsSections, IsTableOf, AddsEntryOf}
use Rattle.relate_core.proofs.Entries.{listed_kept, listed_added, listed_first, all_new}

-- the entry comes before all of these
abbrev IsBeforeAll : List Entry → Entry → Type 0
IsBeforeAll rest e = All (λ r. compare_nodes e.node r.node ≡ Less) rest

-- the nodes of the entries are of the set
abbrev AreOf : (Point → Type 0) → List Entry → Type 0
AreOf Nodes t = All (λ e. Nodes (point_at e.node)) t

-- the entries done have their sections, all come before those that are left, and every point of the set is in one or the other
pub record IsFilledBefore (Nodes : Point → Type 0) (a b : Figure) (done rest : List Entry) : Type 0 where
  pub in_order : AreInOrder done
  pub sections : All (HasItsSections a b) done
  pub before : All (IsBeforeAll rest) done
  pub only_done : AreOf Nodes done
  pub only_rest : AreOf Nodes rest
  pub whole : (v : Point) → Nodes v → IsListed done v ⊎ IsListed rest v

module _ (Nodes : Point → Type 0) (a b : Figure) where
  -- at first none is done
  pub none_filled : (rest : List Entry) → AreNodes Nodes rest → IsFilledBefore Nodes a b [] rest
  none_filled rest h = record {
    in_order = λ i j d below within. absurd (omega (arith, within));
    sections = All-nil (HasItsSections a b);
    before = All-nil (IsBeforeAll rest);
    only_done = All-nil (λ e. Nodes (point_at e.node));
    only_rest = h.only;
    whole = λ v n. inr (h.whole v n);
  }

  -- then the least one that is left is put in with its sections
  pub one_filled : (done rest new : List Entry) (e : Entry) → AreInOrder (e ∷ rest) → AddsEntryOf a b e.node done new → AreInOrder new
      → IsFilledBefore Nodes a b done (e ∷ rest) → IsFilledBefore Nodes a b new rest
  one_filled done rest new e sorted adds in_order h = record {
    in_order = in_order;
    sections = all (HasItsSections a b) adds.has_its h.sections;
    before =
        all (IsBeforeAll rest) (λ k d below. sorted 0 (suc k) d (omega arith) (omega (arith, below)))
        (All-weaker (IsBeforeAll (e ∷ rest)) (IsBeforeAll rest) (λ d l. All-tail (λ r. compare_nodes d.node r.node ≡ Less) e rest l) done
        h.before);
    only_done = all (λ z. Nodes (point_at z.node)) (All-head (λ z. Nodes (point_at z.node)) e rest h.only_rest) h.only_done;
    only_rest = All-tail (λ z. Nodes (point_at z.node)) e rest h.only_rest;
    whole = λ v n. whole v (h.whole v n);
  }
    where
      apart : All (λ d. ¬ (compare_nodes e.node d.node ≡ Equal)) done
      apart =
          All-weaker (IsBeforeAll (e ∷ rest)) (λ d. ¬ (compare_nodes e.node d.node ≡ Equal))
          (λ d l same.
          let less = All-head (λ r. compare_nodes d.node r.node ≡ Less) e rest l in
          let tied = tied_back compare_points_total (point_at e.node) (point_at d.node) same in
          let both = sym less ∙ tied in cc)
          done h.before

      all : (P : Entry → Type 0) → P (entry e.node adds.sections) → All P done → All P new
      all P here kept =
          subst (λ (t : List Entry). All P t) (sym adds.new_is) (all_new P e.node adds.sections done apart here kept)

      there : (v : Point) → IsListed (with_sections done e.node adds.sections) v → IsListed new v
      there v l = subst (λ (t : List Entry). IsListed t v) (sym adds.new_is) l

      whole : (v : Point) → IsListed done v ⊎ IsListed (e ∷ rest) v → IsListed new v ⊎ IsListed rest v
      whole v (inl l) = inl (there v (listed_kept e.node adds.sections v done l))
      whole v (inr l) = by_first (listed_first v e rest l)
        where
          by_first : IsSamePoint v (point_at e.node) ⊎ IsListed rest v → IsListed new v ⊎ IsListed rest v
          by_first (inl same) = inl (there v (listed_added e.node adds.sections v done same))
          by_first (inr later) = inr later

  -- with none left the table is whole
  pub all_filled : (done : List Entry) → IsFilledBefore Nodes a b done [] → IsTableOf Nodes a b done
  all_filled done h = record {
    in_order = h.in_order;
    nodes = record { only = h.only_done; whole = λ v n. whole v (h.whole v n) };
    sections = h.sections;
  }
    where
      whole : (v : Point) → IsListed done v ⊎ IsListed [] v → IsListed done v
      whole v (inl l) = l
      whole v (inr l) = (let below = l.2 in absurd (omega (arith, below)))
