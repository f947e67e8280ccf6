-- The rows of an index, from what it keeps.
use Rattle.std.proofs.Common.{◌≡◌, ◌≢◌, ℕ, ◌+◌, ◌-◌, ◌*◌, ◌/◌, ◌<◌, ◌≤◌, ◌⊎◌, inl, inr, List, length, refl, sym, ◌∙◌, ap, ap₂, arith}
use Rattle.std.specs.Prelude.{nat_lt, if◌then◌else◌, slice_index_or, slice_set}
use Rattle.std.specs.Int.{int_max, int_min}
use Rattle.std.proofs.lemmas.Bool.{cond_below, cond_above, cases_eq}
use Rattle.std.proofs.lemmas.List.{length-set, get_or-set_same, get_or-set_other}
use Rattle.plane_exact.specs.declared.point.Seg.{Seg}
use Rattle.plane_exact.specs.declared.window.Window.{Window}
use Rattle.plane_exact.specs.Windows.{join_boxes}
use Rattle.edge_index.specs.Rows.{no_window, leaf_window, window_at, AreJoined}

-- the sides of a joined box make it
pub joined_by_sides :
    (box one other : Window) → box.low_x ≡ int_min one.low_x other.low_x → box.low_y ≡ int_min one.low_y other.low_y
    → box.high_x ≡ int_max one.high_x other.high_x → box.high_y ≡ int_max one.high_y other.high_y → box ≡ join_boxes one other
joined_by_sides box one other low_x low_y high_x high_y =
    λ i. record { low_x = low_x i; low_y = low_y i; high_x = high_x i; high_y = high_y i }

module _ (segs : List Seg) (leaves : List ℕ) (inner : List Window) (place : ℕ) where
  -- the window of a row: kept, joined from two leaves, or that of a leaf
  pub window_kept : place < length inner → window_at segs leaves inner place ≡ slice_index_or inner place no_window
  window_kept kept = sym (cond_below place (length inner) _ _ kept)

  pub window_joined :
      length inner ≤ place → place + 1 < length leaves
      → window_at segs leaves inner place ≡ join_boxes (leaf_window segs leaves (2 * place + 2 - length leaves))
      (leaf_window segs leaves (2 * place + 3 - length leaves))
  window_joined past below = sym (cond_above place (length inner) _ _ _ past (cond_below (place + 1) (length leaves) _ _ below))

  pub window_leaf :
      length inner ≤ place → length leaves ≤ place + 1
      → window_at segs leaves inner place ≡ leaf_window segs leaves (place + 1 - length leaves)
  window_leaf past leaf = sym (cond_above place (length inner) _ _ _ past (cond_above (place + 1) (length leaves) _ _ _ leaf refl))

-- the kept windows from a place on are joined from those of the children
pub record AreJoinedFrom (segs : List Seg) (leaves : List ℕ) (inner : List Window) (from : ℕ) : Type 0 where
  pub count : length inner ≡ (length leaves - 1) / 2
  pub each :
      (place : ℕ) → from ≤ place → place < length inner
      → slice_index_or inner place no_window ≡ join_boxes (window_at segs leaves inner (2 * place + 1))
      (window_at segs leaves inner (2 * place + 2))

-- a write at a place leaves the windows of the rows at other places
window_at-set :
    (segs : List Seg) (leaves : List ℕ) (inner : List Window) (place other : ℕ) (box : Window) → other ≢ place
    → window_at segs leaves (slice_set inner place box) other ≡ window_at segs leaves inner other
window_at-set segs leaves inner place other box apart =
    let by = λ (count : ℕ) (kept : Window). if nat_lt other count then kept else
    (if nat_lt (other + 1) (length leaves) then join_boxes (leaf_window segs leaves (2 * other + 2 - length leaves))
    (leaf_window segs leaves (2 * other + 3 - length leaves)) else leaf_window segs leaves (other + 1 - length leaves)) in
    ap₂ by (length-set inner place box) (get_or-set_other inner place other box no_window apart)

-- one more window is joined
pub joined_more :
    (segs : List Seg) (leaves : List ℕ) (inner : List Window) (place : ℕ) (box left right : Window)
    → AreJoinedFrom segs leaves inner (place + 1) → place < length inner → left ≡ window_at segs leaves inner (2 * place + 1)
    → right ≡ window_at segs leaves inner (2 * place + 2) → box ≡ join_boxes left right
    → AreJoinedFrom segs leaves (slice_set inner place box) place
joined_more segs leaves inner place box left right before within l r e = record {
  count = length-set inner place box ∙ before.count;
  each = λ other from below. by_case other from (omega (arith, length-set inner place box)) (cases_eq other place);
}
  where
    children :
        (other : ℕ) → place ≤ other
        → join_boxes (window_at segs leaves inner (2 * other + 1)) (window_at segs leaves inner (2 * other + 2)) ≡ join_boxes
        (window_at segs leaves (slice_set inner place box) (2 * other + 1))
        (window_at segs leaves (slice_set inner place box) (2 * other + 2))
    children other from =
        ap₂ join_boxes (sym (window_at-set segs leaves inner place (2 * other + 1) box (omega arith)))
        (sym (window_at-set segs leaves inner place (2 * other + 2) box (omega arith)))

    by_case :
        (other : ℕ) → place ≤ other → other < length inner → (other ≡ place) ⊎ (other ≡ place → ⊥)
        → slice_index_or (slice_set inner place box) other no_window ≡ join_boxes
        (window_at segs leaves (slice_set inner place box) (2 * other + 1))
        (window_at segs leaves (slice_set inner place box) (2 * other + 2))
    by_case other from below (inl same) =
        let here = ap (λ (p : ℕ). slice_index_or (slice_set inner place box) p no_window) same
        ∙ get_or-set_same inner place box no_window within in
        here ∙ e ∙ ap₂ join_boxes l r
        ∙ ap (λ (p : ℕ). join_boxes (window_at segs leaves inner (2 * p + 1)) (window_at segs leaves inner (2 * p + 2))) (sym same)
        ∙ children other from
    by_case other from below (inr apart) =
        get_or-set_other inner place other box no_window apart ∙ before.each other (omega arith) below ∙ children other from
