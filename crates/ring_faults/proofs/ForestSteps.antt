-- One link more of a sorted list, and what it does to the labels.
use Rattle.std.proofs.Common.{◌≡◌, ◌≢◌, ◌⊎◌, ℕ, ◌+◌, ◌-◌, ◌≤◌, List, [], ◌∷◌, ◌++◌, take, drop, ap, refl, sym, ◌∙◌, subst, Less, arith}
use Rattle.std.specs.List.{AllPairs, Contains, range_with_len}
use Rattle.std.proofs.lemmas.List.{take_more, take-append-drop}
use Rattle.std.proofs.lemmas.Option.{get_or_from_slice_get, slice_get_within}
use Rattle.plane_exact.specs.declared.node.Node.{Node}
use Rattle.point_set.specs.Validity.{IsAtPlace}
use Rattle.ring_faults.specs.declared.link.Link.{Link}
use Rattle.ring_faults.specs.Links.{compare_links, IsLinked, HasCycle, IsRelabelled}
use Rattle.ring_faults.proofs.FirstLinks.{first_link}
use Rattle.ring_faults.proofs.Labels.{own_label, merged_either}
use Rattle.ring_faults.proofs.LinkOrder.{new_there, old_before, fresh_there}
use Rattle.ring_faults.proofs.NextLinks.{cycle_link, next_link}
use Rattle.ring_faults.proofs.Ways.{cycle_more}
use Rattle.ring_faults.proofs.Forests.{IsForest, with_link}

-- ---- no links
none_linked : (n : Node) (i : ℕ) → ¬ IsLinked [] n i
none_linked n i h = let below = h.1 in omega (arith, below)

-- no links: each ring has a label of its own
pub none_forest : (count : ℕ) → IsForest [] (range_with_len 0 count)
none_forest count = record {
  joined = λ i j label h k. record {
    steps = [];
    path = own_label count i label h ∙ sym (own_label count j label k);
    apart = tt;
    short = λ z d below. absurd (omega (arith, below));
    within = λ z d below. absurd (omega (arith, below));
  };
  one = λ n i j h k. absurd (none_linked n i h);
  none = λ c. none_linked c.start.node c.start.place c.chain.0;
}

-- ---- the first link
pub one_forest : (links : List Link) (count : ℕ) → IsForest (take 1 links) (range_with_len 0 count)
one_forest [] count = none_forest count
one_forest (l ∷ ls) count = first_link [] (range_with_len 0 count) (none_forest count) l.node l.ring (λ j h. none_linked l.node j h)

-- ---- the later ones
module _ (links : List Link) (up : AllPairs (λ l m. compare_links l m ≡ Less) links) (h i : ℕ) (next : i ≡ h + 1) (head link : Link)
    (head_is : IsAtPlace links h head) (link_is : IsAtPlace links i link) where
  more : take (i + 1) links ≡ with_link (take i links) link.node link.ring
  more =
      take_more links i link (slice_get_within links i link link_is) ∙ ap (λ x. take i links ++ x ∷ [])
      (get_or_from_slice_get links i link link link_is)

  head_linked : head.node ≡ link.node → IsLinked (take i links) link.node head.ring
  head_linked same =
      let there : Contains (take i links) head =
      subst (λ z. Contains (take z links) head) (sym next) (old_before links up h head head_is) in
      subst (λ (n : Node). IsLinked (take i links) n head.ring) same there

  -- a new node
  pub apart_forest : (labels : List ℕ) → IsForest (take i links) labels → head.node ≢ link.node → IsForest (take (i + 1) links) labels
  apart_forest labels forest other =
      subst (λ (ls : List Link). IsForest ls labels) (sym more) (first_link (take i links) labels forest link.node link.ring
      (λ j there. fresh_there links up h head link head_is (subst (λ z. IsAtPlace links z link) next link_is) other
      (record { node = link.node; ring = j })
      (subst (λ z. IsLinked (take z links) link.node j) next there) refl))

  -- the node of the link before, and a ring of another label
  pub joined_forest :
      (labels new : List ℕ) (from to : ℕ) → IsForest (take i links) labels → head.node ≡ link.node → IsAtPlace labels link.ring from
      → IsAtPlace labels head.ring to → from ≢ to → IsRelabelled from to labels new ⊎ IsRelabelled to from labels new
      → IsForest (take (i + 1) links) new
  joined_forest labels new from to forest same at head_at other joined =
      let merged = merged_either from to labels new other joined in
      subst (λ (ls : List Link). IsForest ls new) (sym more)
      (next_link (take i links) labels forest link.node head.ring link.ring from to (head_linked same) at head_at other new merged.0
      merged.1)

  -- and a ring of the same label
  pub closed_cycle :
      (labels : List ℕ) (label : ℕ) → IsForest (take i links) labels → head.node ≡ link.node → IsAtPlace labels link.ring label
      → IsAtPlace labels head.ring label → HasCycle links
  closed_cycle labels label forest same at head_at =
      let some : HasCycle (take (i + 1) links) =
      subst HasCycle (sym more) (cycle_link (take i links) labels forest link.node head.ring link.ring label (head_linked same)
      (new_there links up i link link_is) at head_at) in
      subst HasCycle (take-append-drop (i + 1) links) (cycle_more (take (i + 1) links) (drop (i + 1) links) some)

-- a place from 1 on has a place before it
pub before_there : (i : ℕ) → 1 ≤ i → i ≡ (i - 1) + 1
before_there i h = omega arith
