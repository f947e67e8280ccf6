-- Labels of rings, of which one has taken the place of another.
use Rattle.std.proofs.Common.{◌≡◌, ◌≢◌, ◌⊎◌, inl, inr, ℕ, ◌<◌, ◌≤◌, Option, Some, None, List, [], ◌∷◌, ◌++◌, ◌+◌, length, get_or}
use Rattle.std.proofs.Common.{slice_get, ap, refl, sym, ◌∙◌}
use Rattle.std.proofs.Common.{arith}
use Rattle.std.proofs.lemmas.Bool.{cases_eq, cases_lt}
use Rattle.std.proofs.lemmas.List.{map-id}
use Rattle.std.proofs.lemmas.List.FromFn.{map-range_with_len_more, get_or-range_with_len, length-range_with_len}
use Rattle.std.specs.List.{range_with_len}
use Rattle.std.proofs.lemmas.Option.{slice_get_within, slice_get-get_or, slice_get_past, get_or_from_slice_get, none-some}
use Rattle.figure_laws.proofs.Lists.Places.{some_same}
use Rattle.point_set.specs.Validity.{IsAtPlace}
use Rattle.ring_faults.specs.Links.{IsRelabelled}

-- a ring has one label
pub one_label : (labels : List ℕ) (x a b : ℕ) → IsAtPlace labels x a → IsAtPlace labels x b → a ≡ b
one_label labels x a b h k = some_same (sym h ∙ k)

-- rings of different labels
pub label_differs :
    (labels : List ℕ) (x y a b : ℕ) → IsAtPlace labels x a → IsAtPlace labels y b → a ≢ b → slice_get labels x ≢ slice_get labels y
label_differs labels x y a b h k other e = other (some_same (sym h ∙ e ∙ k))

-- rings of different labels are different
pub ring_differs : (labels : List ℕ) (x y a b : ℕ) → IsAtPlace labels x a → IsAtPlace labels y b → a ≢ b → x ≢ y
ring_differs labels x y a b h k other e = label_differs labels x y a b h k other (ap (λ z. slice_get labels z) e)

module _ (from to : ℕ) (labels new : List ℕ) (r : IsRelabelled from to labels new) where
  -- what the label of a ring was
  abbrev pub WasLabel : ℕ → ℕ → Type 0
  WasLabel x label = (IsAtPlace labels x from × (label ≡ to)) ⊎ (IsAtPlace labels x label × (label ≢ from))

  new_of : (x old : ℕ) → IsAtPlace labels x old → (label : ℕ) → IsAtPlace new x label → WasLabel x label
  new_of x old h label k = by (cases_eq old from)
    where
      by : (old ≡ from) ⊎ (old ≡ from → ⊥) → WasLabel x label
      by (inl same) = let was : IsAtPlace labels x from = h ∙ ap Some same in inl (was, one_label new x label to k (r.replaced x was))
      by (inr other) =
          let same : label ≡ old = one_label new x label old k (r.kept x old other h) in
          inr (h ∙ ap Some (sym same), λ e. other (sym same ∙ e))

  pub was_label : (x label : ℕ) → IsAtPlace new x label → WasLabel x label
  was_label x label k =
      let below : x < length new = slice_get_within new x label k in
      let e = r.length_same in
      let there : x < length labels = omega arith in
      new_of x (get_or labels x 0) (slice_get-get_or labels x 0 there) label k

  none_past : (x : ℕ) → slice_get labels x ≡ None → slice_get new x ≡ None
  none_past x h = by (cases_lt x (length labels))
    where
      past : length labels ≤ x → slice_get new x ≡ None
      past beyond = let e = r.length_same in slice_get_past new x (omega arith)

      by : (x < length labels) ⊎ (length labels ≤ x) → slice_get new x ≡ None
      by (inl below) = absurd (none-some _ (sym h ∙ slice_get-get_or labels x 0 below))
      by (inr beyond) = past beyond

  by_label : (x y : ℕ) (o : Option ℕ) → slice_get labels x ≡ o → slice_get labels y ≡ o → slice_get new x ≡ slice_get new y
  by_label x y None h k = none_past x h ∙ sym (none_past y k)
  by_label x y (Some label) h k = by (cases_eq label from)
    where
      by : (label ≡ from) ⊎ (label ≡ from → ⊥) → slice_get new x ≡ slice_get new y
      by (inl same) = r.replaced x (h ∙ ap Some same) ∙ sym (r.replaced y (k ∙ ap Some same))
      by (inr other) = r.kept x label other h ∙ sym (r.kept y label other k)

  -- rings of one label have one label still
  pub same_still : (x y : ℕ) → slice_get labels x ≡ slice_get labels y → slice_get new x ≡ slice_get new y
  same_still x y e = by_label x y (slice_get labels y) e refl

-- ---- two labels that have become one
-- what the label of a ring was
abbrev pub WasMerged : ℕ → ℕ → ℕ → List ℕ → List ℕ → ℕ → ℕ → Type 0
WasMerged from to into labels new x label =
    (IsAtPlace labels x from × (label ≡ into))
    ⊎ ((IsAtPlace labels x to × (label ≡ into))
    ⊎ ((label ≢ into) × IsAtPlace labels x label × ((z : ℕ) → IsAtPlace labels z label → IsAtPlace new z label)))

-- the rings of two labels have one label, and the others have theirs
pub record AreMerged (from to into : ℕ) (labels new : List ℕ) : Type 0 where
  pub first : (x : ℕ) → IsAtPlace labels x from → IsAtPlace new x into
  pub second : (x : ℕ) → IsAtPlace labels x to → IsAtPlace new x into
  pub was : (x label : ℕ) → IsAtPlace new x label → WasMerged from to into labels new x label
  pub same : (x y : ℕ) → slice_get labels x ≡ slice_get labels y → slice_get new x ≡ slice_get new y

-- one label in place of another
relabelled_merged : (from to : ℕ) (labels new : List ℕ) → from ≢ to → IsRelabelled from to labels new → AreMerged from to to labels new
relabelled_merged from to labels new other r = record {
  first = λ x h. r.replaced x h;
  second = λ x h. r.kept x to (λ e. other (sym e)) h;
  was = λ x label h. by x label (was_label from to labels new r x label h) (cases_eq label to);
  same = same_still from to labels new r;
}
  where
    by :
        (x label : ℕ) → WasLabel from to labels new r x label → (label ≡ to) ⊎ (label ≡ to → ⊥)
        → WasMerged from to to labels new x label
    by x label (inl was) at = inl was
    by x label (inr was) (inl same) = inr (inl (was.0 ∙ ap Some same, same))
    by x label (inr was) (inr apart) = inr (inr (apart, was.0, λ z h. r.kept z label was.1 h))

-- the two labels exchanged
merged_swap : (from to into : ℕ) (labels new : List ℕ) → AreMerged from to into labels new → AreMerged to from into labels new
merged_swap from to into labels new m = record {
  first = λ x h. m.second x h;
  second = λ x h. m.first x h;
  was = λ x label h. by x label (m.was x label h);
  same = m.same;
}
  where
    by : (x label : ℕ) → WasMerged from to into labels new x label → WasMerged to from into labels new x label
    by x label (inl was) = inr (inl was)
    by x label (inr (inl was)) = inl was
    by x label (inr (inr was)) = inr (inr was)

-- one label in place of the other, either way
pub merged_either :
    (one other : ℕ) (labels new : List ℕ) → one ≢ other → IsRelabelled one other labels new ⊎ IsRelabelled other one labels new
    → (into : ℕ) × AreMerged one other into labels new
merged_either one other labels new apart (inl r) = (other, relabelled_merged one other labels new apart r)
merged_either one other labels new apart (inr r) =
    (one, merged_swap other one one labels new (relabelled_merged other one labels new (λ e. apart (sym e)) r))

-- ---- a label of its own for each ring
-- one label more
pub range_more : (last : ℕ) → range_with_len 0 (last + 1) ≡ range_with_len 0 last ++ last ∷ []
range_more last =
    sym (map-id (range_with_len 0 (last + 1))) ∙ map-range_with_len_more (λ (x : ℕ). x) 0 last last (omega arith)
    ∙ ap (λ (xs : List ℕ). xs ++ last ∷ []) (map-id (range_with_len 0 last))

-- a ring's own label is its place
pub own_label : (count i label : ℕ) → IsAtPlace (range_with_len 0 count) i label → i ≡ label
own_label count i label h =
    let within = slice_get_within (range_with_len 0 count) i label h in
    let below : i < count = omega (arith, within, length-range_with_len 0 count) in
    let e = get_or-range_with_len 0 count i 0 below in
    let f = get_or_from_slice_get (range_with_len 0 count) i label 0 h in
    omega (arith, e, f)
