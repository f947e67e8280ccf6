-- Whether a point is one of the few nodes is decided; so all of them stand in a finite list.
use Rattle.std.proofs.Common.{◌≡◌, ◌⊎◌, inl, inr, Bool, true, false, List, refl, sym, ◌∙◌, subst}
use Rattle.std.proofs.lemmas.Bool.{true≢false}
use Rattle.plane_laws.specs.Plane.{Point, IsSamePoint}
use Rattle.point_set.specs.declared.figure.Figure.{Figure}
use Rattle.point_set.specs.Lines.{is_at_some}
use Rattle.point_set.specs.Nodes.{IsFewNode, IsCrossing, segs_of, position, between, of_a, of_b}
use Rattle.point_set.specs.Shape.{has_item}
use Rattle.point_set.specs.Visible.{AreAllNodes}
use Rattle.figure_laws.proofs.Lists.Items.{Each, each_left, each_right, AreKept, filtered}
use Rattle.figure_laws.proofs.Lists.Least.{SomeItem}
use Rattle.node_laws.proofs.Nodes.Decided.{EndsElsewhere, crossing_decided, not_an_end}
use Rattle.node_laws.proofs.Nodes.Finite.{nodes_are_finite}
use Rattle.node_laws.proofs.Nodes.Positions.{positions_of_both}
use Rattle.cell_laws.proofs.Samples.Decided.{Decided}
use Rattle.few_laws.proofs.Nodes.Crossings.{few_is_node, few_same}

-- ---- a point at no position
module _ (a b : Figure) (p : Point) (nowhere : is_at_some p (positions_of_both a b) ≡ false) where
  -- no edge of the first figure ends there
  pub first_elsewhere : Each (EndsElsewhere p) (segs_of a)
  first_elsewhere = each_left (EndsElsewhere p) (segs_of a) (segs_of b) (not_an_end a b p nowhere)

  -- nor one of the second
  pub second_elsewhere : Each (EndsElsewhere p) (segs_of b)
  second_elsewhere = each_right (EndsElsewhere p) (segs_of a) (segs_of b) (not_an_end a b p nowhere)

  -- a crossing within a figure that has areas
  abbrev OwnCrossing : Figure → Type 0
  OwnCrossing f = (has_item f.areas ≡ true) × IsCrossing (segs_of f) (segs_of f) p

  -- it is decided
  own_decided : (f : Figure) → Decided (IsCrossing (segs_of f) (segs_of f) p) → Decided (OwnCrossing f)
  own_decided f crossing = by_areas (has_item f.areas) refl crossing
    where
      by_areas : (t : Bool) → has_item f.areas ≡ t → Decided (IsCrossing (segs_of f) (segs_of f) p) → Decided (OwnCrossing f)
      by_areas true some (inl c) = inl (some, c)
      by_areas true some (inr none) = inr (λ h. none h.1)
      by_areas false none c = inr (λ h. true≢false (sym h.0 ∙ none))

  -- so each of the three is decided, and the few node with them
  decided_elsewhere : Decided (IsFewNode a b p)
  decided_elsewhere =
      by_parts (crossing_decided p (segs_of a) (segs_of b) first_elsewhere second_elsewhere)
      (own_decided a (crossing_decided p (segs_of a) (segs_of a) first_elsewhere first_elsewhere))
      (own_decided b (crossing_decided p (segs_of b) (segs_of b) second_elsewhere second_elsewhere))
    where
      by_parts :
          Decided (IsCrossing (segs_of a) (segs_of b) p) → Decided (OwnCrossing a) → Decided (OwnCrossing b)
          → Decided (IsFewNode a b p)
      by_parts (inl c) own other = inl (between c)
      by_parts (inr none) (inl h) other = inl (of_a h.0 h.1)
      by_parts (inr none) (inr none_a) (inl h) = inl (of_b h.0 h.1)
      by_parts (inr none) (inr none_a) (inr none_b) = inr refute
        where
          refute : ¬ IsFewNode a b p
          refute (position at) = true≢false (sym at ∙ nowhere)
          refute (between c) = none c
          refute (of_a some c) = none_a (some, c)
          refute (of_b some c) = none_b (some, c)

-- ---- each point
-- whether a point is one of the few nodes is decided
pub few_decided : (a b : Figure) (p : Point) → Decided (IsFewNode a b p)
few_decided a b p = by_test (is_at_some p (positions_of_both a b)) refl
  where
    by_test : (t : Bool) → is_at_some p (positions_of_both a b) ≡ t → Decided (IsFewNode a b p)
    by_test true at = inl (position at)
    by_test false nowhere = decided_elsewhere a b p nowhere

-- ---- all of them stand in a list
-- each of the list is a few node, and each few node is the same point as one of the list
pub record AreAllFew (a b : Figure) (nodes : List Point) : Type 0 where
  pub only : Each (IsFewNode a b) nodes
  pub whole : (v : Point) → IsFewNode a b v → SomeItem (IsSamePoint v) nodes

-- those of all nodes that are few
pub few_are_finite : (a b : Figure) → (nodes : List Point) × AreAllFew a b nodes
few_are_finite a b = (kept.0, record { only = kept.1.only; whole = whole })
  where
    nodes : (nodes : List Point) × AreAllNodes a b nodes
    nodes = nodes_are_finite a b

    kept : (kept : List Point) × AreKept (IsFewNode a b) nodes.0 kept
    kept = filtered (IsFewNode a b) (few_decided a b) nodes.0

    whole : (v : Point) → IsFewNode a b v → SomeItem (IsSamePoint v) kept.0
    whole v few =
        let found = nodes.1.whole v (few_is_node few) in
        let s = kept.1.whole found.0 found.1 found.2 (few_same a b found.3 few) in
        record { place = s.place; item = s.item; item_is = s.item_is; is_so = subst (IsSamePoint v) (sym s.is_so) found.3 }
