-- Envelopes of lists of positions that are taken item by item.
use Rattle.std.proofs.Common.{◌≡◌, ◌+◌, ◌<◌, ℕ, Option, List, ◌∷◌, ◌++◌, length, drop, get_or, sym, ap, ◌∙◌}
use Rattle.std.proofs.lemmas.List.{append_assoc, at_drop_more}
use Rattle.plane_exact.specs.declared.point.Pt.{Pt}
use Rattle.plane_exact.specs.declared.window.Window.{Window}
use Rattle.point_set.specs.Extents.{IsEnvelope}

-- The envelope is that of the positions of the items before a place: those of the items from there on complete them to those of
-- all items.
pub record IsEnvelopeSoFar {X : Type 0} (positions : List X → List Pt) (items : List X) (place : ℕ) (envelope : Option Window)
    : Type 0 where
  pub done : List Pt
  pub whole : (done ++ positions (drop place items)) ≡ positions items
  pub is : IsEnvelope done envelope

-- with one item more
pub one_item_more :
    {X : Type 0} (positions : List X → List Pt) (items : List X) (place : ℕ) (item : X) (here : List Pt) (old new : Option Window)
    → place < length items → item ≡ get_or items place item
    → positions (item ∷ drop (place + 1) items) ≡ here ++ positions (drop (place + 1) items)
    → ((xs : List Pt) → IsEnvelope xs old → IsEnvelope (xs ++ here) new) → IsEnvelopeSoFar positions items place old
    → IsEnvelopeSoFar positions items (place + 1) new
one_item_more {X} positions items place item here old new below is first more so_far =
    let rest : List Pt = positions (drop (place + 1) items) in
    let left : positions (drop place items) ≡ here ++ rest =
    at_drop_more positions items place item below ∙ ap (λ (x : X). positions (x ∷ drop (place + 1) items)) (sym is) ∙ first in
    record {
      done = so_far.done ++ here;
      whole = append_assoc so_far.done here rest ∙ ap (λ (xs : List Pt). so_far.done ++ xs) (sym left) ∙ so_far.whole;
      is = more so_far.done so_far.is;
    }
