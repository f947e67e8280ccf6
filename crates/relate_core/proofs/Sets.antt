-- Sets of points near a box that are put into a table one after the other, item by item.
use Rattle.std.proofs.Common.{◌≡◌, ◌⊎◌, inl, inr, ℕ, ◌+◌, ◌<◌, ◌≤◌, List, length, sym, ◌∙◌, subst, arith}
use Rattle.std.proofs.lemmas.Bool.{cases_lt}
use Rattle.std.proofs.lemmas.Option.{slice_get_within}
use Rattle.plane_laws.specs.Plane.{Point}
use Rattle.plane_exact.specs.NodePoints.{point_at}
use Rattle.plane_exact.specs.declared.node.Node.{Node}
use Rattle.plane_exact.specs.declared.window.Window.{Window}
use Rattle.point_set.specs.Validity.{IsAtPlace}
use Rattle.figure_laws.proofs.Lists.Places.{some_same}
use Rattle.box_laws.specs.Boxes.{IsNearBox}
use Rattle.box_laws.proofs.Boxes.Round.{near_same}
use Rattle.fan_order.specs.declared.section.Section.{Section}
use Rattle.node_table.specs.Tables.{with_sections}
use Rattle.node_table.specs.declared.entry.Entry.{Entry}
use Rattle.relate_core.specs.Tables.{IsListed}
use Rattle.relate_core.specs.NodeSets.{AddsNear, IsAtThe, IsOfSome}
use Rattle.relate_core.proofs.Entries.{listed_kept, listed_added, listed_only}

-- a point is one of the set that belongs to some item before a place
pub record IsOfBefore {T : Type 0} (Set : T → Point → Type 0) (items : List T) (count : ℕ) (v : Point) : Type 0 where
  pub place : ℕ
  pub before : place < count
  pub item : T
  pub item_is : IsAtPlace items place item
  pub is_of : Set item v

module _ (w : Window) where
  -- ---- one step and the next
  -- a set of no near point
  pub adds_none : {Set : Point → Type 0} (t : List Entry) → ((v : Point) → IsNearBox w v → ¬ Set v) → AddsNear w Set t t
  adds_none t none = record { kept = λ v h. h; whole = λ v h near. absurd (none v near h); only = λ v h. inl h }

  -- the point of one node that is near
  pub adds_node : (old new : List Entry) (n : Node) (s : List Section) → new ≡ with_sections old n s → IsNearBox w (point_at n)
      → AddsNear w (IsAtThe (point_at n)) old new
  adds_node old new n s e near = subst (λ (t : List Entry). AddsNear w (IsAtThe (point_at n)) old t) (sym e) (record {
    kept = λ v h. listed_kept n s v old h;
    whole = λ v h k. listed_added n s v old h;
    only = λ v h. go v (listed_only n s v old h);
  })
    where
      go : (v : Point) → IsListed old v ⊎ IsAtThe (point_at n) v → IsListed old v ⊎ (IsAtThe (point_at n) v × IsNearBox w v)
      go v (inl l) = inl l
      go v (inr same) = inr (same, near_same w same near)

  -- one set after the other
  pub adds_both : {First Second : Point → Type 0} (old mid new : List Entry) → AddsNear w First old mid → AddsNear w Second mid new
      → AddsNear w (λ v. First v ⊎ Second v) old new
  adds_both {First} {Second} old mid new h k = record {
    kept = λ v l. k.kept v (h.kept v l);
    whole = whole;
    only = λ v l. only v (k.only v l);
  }
    where
      whole : (v : Point) → First v ⊎ Second v → IsNearBox w v → IsListed new v
      whole v (inl f) near = k.kept v (h.whole v f near)
      whole v (inr s) near = k.whole v s near

      before : (v : Point) → IsListed old v ⊎ (First v × IsNearBox w v) → IsListed old v ⊎ ((First v ⊎ Second v) × IsNearBox w v)
      before v (inl l) = inl l
      before v (inr f) = inr (inl f.0, f.1)

      only : (v : Point) → IsListed mid v ⊎ (Second v × IsNearBox w v) → IsListed old v ⊎ ((First v ⊎ Second v) × IsNearBox w v)
      only v (inl l) = before v (h.only v l)
      only v (inr s) = inr (inr s.0, s.1)

  -- a set of the same near points
  pub adds_same : {First Second : Point → Type 0} {old new : List Entry} → ((v : Point) → First v → Second v)
      → ((v : Point) → IsNearBox w v → Second v → First v) → AddsNear w First old new → AddsNear w Second old new
  adds_same {First} {Second} {old} {new} there back h = record {
    kept = h.kept;
    whole = λ v s near. h.whole v (back v near s) near;
    only = λ v l. go v (h.only v l);
  }
    where
      go : (v : Point) → IsListed old v ⊎ (First v × IsNearBox w v) → IsListed old v ⊎ (Second v × IsNearBox w v)
      go v (inl l) = inl l
      go v (inr f) = inr (there v f.0, f.1)

  -- ---- item by item
  module _ {T : Type 0} (Set : T → Point → Type 0) (items : List T) where
    -- one item more
    pub adds_next : (k : ℕ) (x : T) (old mid new : List Entry) → IsAtPlace items k x → AddsNear w (IsOfBefore Set items k) old mid
        → AddsNear w (Set x) mid new → AddsNear w (IsOfBefore Set items (k + 1)) old new
    adds_next k x old mid new is h more = adds_same there back (adds_both old mid new h more)
      where
        there : (v : Point) → IsOfBefore Set items k v ⊎ Set x v → IsOfBefore Set items (k + 1) v
        there v (inl p) =
            let before = p.before in
            record { place = p.place; before = omega (arith, before); item = p.item; item_is = p.item_is; is_of = p.is_of }
        there v (inr s) = record { place = k; before = omega arith; item = x; item_is = is; is_of = s }

        back : (v : Point) → IsNearBox w v → IsOfBefore Set items (k + 1) v → IsOfBefore Set items k v ⊎ Set x v
        back v near p = go (cases_lt p.place k)
          where
            go : (p.place < k) ⊎ (k ≤ p.place) → IsOfBefore Set items k v ⊎ Set x v
            go (inl l) = inl (record { place = p.place; before = l; item = p.item; item_is = p.item_is; is_of = p.is_of })
            go (inr l) =
                let same : p.place ≡ k = (let before = p.before in omega (arith, before, l)) in
                inr (subst (λ (z : T). Set z v)
                (some_same (sym (subst (λ (i : ℕ). IsAtPlace items i p.item) same p.item_is) ∙ is)) p.is_of)

    -- past the last item these are all
    pub adds_all : (k : ℕ) (old new : List Entry) → length items ≤ k → AddsNear w (IsOfBefore Set items k) old new
        → AddsNear w (IsOfSome Set items) old new
    adds_all k old new past h =
        adds_same (λ v p. record { place = p.place; item = p.item; item_is = p.item_is; is_of = p.is_of })
        (λ v near p.
        let within = slice_get_within items p.place p.item p.item_is in
        record { place = p.place; before = omega (arith, within, past); item = p.item; item_is = p.item_is; is_of = p.is_of })
        h
