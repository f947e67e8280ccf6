-- A fold over a part of the tree: which of its rows hold the height, and how many it looks at.
use Rattle.std.proofs.Common.{◌≡◌, ℕ, zero, suc, ◌+◌, ◌-◌, ◌*◌, ◌/◌, ◌^◌, ◌<◌, ◌≤◌, ℤ, ◌<ℤ◌, ◌≤ℤ◌, List, [], ◌∷◌, ◌++◌, length, ap, refl}
use Rattle.std.proofs.Common.{sym, ◌∙◌, subst, arith, length-append}
use Rattle.std.specs.Prelude.{Some, slice_get, slice_range, map, int_le, ◌&&◌, ◌*ℤ◌}
use Rattle.std.specs.List.{FoldsTo}
use Rattle.std.proofs.Math.Nat.{pow-suc}
use Rattle.std.proofs.lemmas.List.{append-nil}
use Rattle.std.proofs.lemmas.Bool.Decides.{same_from_decides, Decides-like}
use Rattle.std.proofs.lemmas.List.Elements.{All-nil, All-cons, filter_agree}
use Rattle.std.proofs.lemmas.Option.{get_or_from_slice_get}
use Rattle.whole_algebra.proofs.Laws.{linear}
use Rattle.plane_laws.proofs.Segments.On.{Decides-int_le}
use Rattle.plane_laws.specs.Plane.{Point}
use Rattle.y_index.proofs.Folds.{FoldsTo-append}
use Rattle.y_index.proofs.Hits.{none_above, none_below, some_between, rows_between-split, items_between-split, low_before, high_after}
use Rattle.y_index.proofs.Slices.{slice_split, slice_all, All-slice_range, at_slice_range}
use Rattle.y_index.specs.Heights.{holds_height, rows_at, items_at}
use Rattle.y_index.specs.Levels.{IsLevel}
use Rattle.y_index.specs.Parts.{is_between, rows_between, items_between, AreLow, RisesInPart, RisesInLowPart}
use Rattle.y_index.specs.Steps.{RisesWithin}
use Rattle.y_index.specs.Trees.{IsPartOf, whole, left, right, IsSpanTree, IsGreatestHigh, span_of}
use Rattle.y_index.specs.declared.rows.SpanRow.{SpanRow}

-- ---- numbers
-- each of the two parts beside a root has fewer than half as many rows
halved : (i j e : ℕ) → i < j → j - i < 2 ^ suc e → ((i + j) / 2 - i < 2 ^ e) × (j - ((i + j) / 2 + 1) < 2 ^ e)
halved i j e h k = (omega (arith, k, pow-suc 2 e), omega (arith, k, pow-suc 2 e))

-- digits that are enough for a part with a row are one more than some
more_digits : (i j : ℕ) (P : ℕ → Type 0) → i < j → ((e : ℕ) → j - i < 2 ^ suc e → P (suc e)) → (digits : ℕ) → j - i < 2 ^ digits → P digits
more_digits i j P h f zero k = absurd (omega (arith, h, k))
more_digits i j P h f (suc e) k = f e k

one_more : (u0 u1 u2 k e : ℕ) → u1 ≡ u0 + 1 → u2 ≤ u1 + 2 * (k + 1) * e → u2 ≤ u0 + 2 * (k + 1) * suc e
one_more u0 u1 u2 k e h l = omega (arith, h, l)

module _ (u0 u1 u2 u3 before at after k e : ℕ) (h : u1 ≡ u0 + 1) (l : u2 ≤ u1 + 2 * before * e + 1) (is : k ≡ before + (at + after)) where
  both_sides : u3 ≤ u2 + 2 * (after + 1) * e → u3 ≤ u0 + 2 * (k + 1) * suc e
  both_sides m = subst (λ n. u3 ≤ u0 + 2 * (n + 1) * suc e) (sym is) (omega (arith, h, l, m))

  both_low_sides : u3 ≤ u2 + 2 * after * e + 1 → 0 < k → u3 ≤ u0 + 2 * k * suc e + 1
  both_low_sides m some = subst (λ n. 0 < n → u3 ≤ u0 + 2 * n * suc e + 1) (sym is) (λ p. omega (arith, h, l, m, p)) some

-- ---- a part with its root
-- the rows from place i up to but without place j are a part of the tree, and m is the place of its root
pub record IsRooted (rows : List SpanRow) (i j m : ℕ) (root : SpanRow) : Type 0 where
  pub tree : IsSpanTree rows
  pub part : IsPartOf 0 (length rows) i j
  pub some : i < j
  pub within : j ≤ length rows
  pub at : m ≡ (i + j) / 2
  pub is : slice_get rows m ≡ Some root

-- the root at the place that the code works out
pub rooted : {rows : List SpanRow} {i j : ℕ} {root : SpanRow} → IsSpanTree rows → IsPartOf 0 (length rows) i j → i < j → j ≤ length rows →
    slice_get rows (i + (j - i) / 2) ≡ Some root → IsRooted rows i j (i + (j - i) / 2) root
rooted {rows} {i} {j} {root} tree part some within is =
    record { tree = tree; part = part; some = some; within = within; at = omega (arith, some); is = is }

module _ {rows : List SpanRow} {i j m : ℕ} {root : SpanRow} (r : IsRooted rows i j m root) where
  pub left_part : IsPartOf 0 (length rows) i m
  left_part = subst (IsPartOf 0 (length rows) i) (sym r.at) (left r.part r.some)

  pub right_part : IsPartOf 0 (length rows) (m + 1) j
  right_part = subst (λ n. IsPartOf 0 (length rows) (n + 1) j) (sym r.at) (right r.part r.some)

  greatest : IsGreatestHigh (slice_range rows i j) root.most
  greatest = r.tree.mosts i j r.part r.some root (subst (λ n. slice_get rows n ≡ Some root) r.at r.is)

  first : i ≤ m
  first = omega (arith, r.at, r.some)

  last : m < j
  last = omega (arith, r.at, r.some)

  split : slice_range rows i j ≡ slice_range rows i m ++ root ∷ slice_range rows (m + 1) j
  split = slice_split rows i m j root first last r.is

  halves : (e : ℕ) → j - i < 2 ^ suc e → (m - i < 2 ^ e) × (j - (m + 1) < 2 ^ e)
  halves e h = subst (λ n. (n - i < 2 ^ e) × (j - (n + 1) < 2 ^ e)) (sym r.at) (halved i j e r.some h)

  -- a root of a part of which no row begins above a height doesn't either
  root_is_low : (floor : ℤ) → AreLow floor (slice_range rows i j) → root.low ≤ℤ floor
  root_is_low floor all =
      let P : SpanRow → Type 0 = λ row. row.low ≤ℤ floor in
      subst P (get_or_from_slice_get rows m root root r.is) (at_slice_range rows P i j r.within all m root first last)

  right_is_low : (floor : ℤ) → AreLow floor (slice_range rows i j) → AreLow floor (slice_range rows (m + 1) j)
  right_is_low floor all =
      let P : SpanRow → Type 0 = λ row. row.low ≤ℤ floor in
      All-slice_range rows P (m + 1) j r.within
      (λ k d low high. at_slice_range rows P i j r.within all k d (omega (arith, first, low)) high)

-- how many rows of a part hold the height
abbrev hits_in : ℤ → ℤ → List SpanRow → ℕ
hits_in floor ceiling part = length (rows_between floor ceiling part)

module _ (floor ceiling : ℤ) {rows : List SpanRow} {i j m : ℕ} {root : SpanRow} (r : IsRooted rows i j m root) where
  -- a part whose greatest high is below the ceiling has no row that holds the height
  pruned : root.most <ℤ ceiling → rows_between floor ceiling (slice_range rows i j) ≡ []
  pruned h = none_above floor ceiling root.most (slice_range rows i j) (greatest r).above h

  pub folded_none : {P : Type 0} (R : P → ℕ → P → Type 0) (p : P) → root.most <ℤ ceiling →
      FoldsTo R p (items_between floor ceiling (slice_range rows i j)) p
  folded_none R p h = subst (λ (hits : List SpanRow). FoldsTo R p (map (λ (row : SpanRow). row.item) hits) p) (sym (pruned h)) refl

  -- ---- where the root begins above the floor, only its left part has rows that hold the height
  module _ (low : floor <ℤ root.low) where
    left_alone : rows_between floor ceiling (slice_range rows i j) ≡ rows_between floor ceiling (slice_range rows i m)
    left_alone =
        let before = rows_between floor ceiling (slice_range rows i m) in
        let after = slice_range rows (m + 1) j in
        let IsHigh : SpanRow → Type 0 = λ row. floor <ℤ row.low in
        let root_is_high = All-cons IsHigh root [] low (All-nil IsHigh) in
        ap (rows_between floor ceiling) (split r)
        ∙ rows_between-split floor ceiling (slice_range rows i m) root after
        ∙ ap (λ hits. before ++ (hits ++ rows_between floor ceiling after)) (none_below floor ceiling (root ∷ []) root_is_high)
        ∙ ap (λ hits. before ++ hits) (none_below floor ceiling after (high_after rows r.tree.sorted m root r.is floor j r.within low))
        ∙ append-nil before

    pub used_left : (u0 u1 u2 : ℕ) → u1 ≡ u0 + 1 → RisesInPart (hits_in floor ceiling (slice_range rows i m)) (m - i) u1 u2 →
        RisesInPart (hits_in floor ceiling (slice_range rows i j)) (j - i) u0 u2
    used_left u0 u1 u2 h before =
        let k = hits_in floor ceiling (slice_range rows i m) in
        subst (λ n. RisesInPart n (j - i) u0 u2) (sym (ap length left_alone))
        (more_digits i j (λ digits. u2 ≤ u0 + 2 * (k + 1) * digits) r.some (λ e l. one_more u0 u1 u2 k e h (before e (halves r e l).0)))

    -- the root is a row of the part that does begin above the floor
    pub used_never : (u0 u2 : ℕ) → AreLow floor (slice_range rows i j) →
        RisesInLowPart (hits_in floor ceiling (slice_range rows i j)) (j - i) u0 u2
    used_never u0 u2 all = let k = root_is_low r floor all in absurd (omega (arith, linear, low, k))

    pub folded_left : {P : Type 0} (R : P → ℕ → P → Type 0) (p q : P) →
        FoldsTo R p (items_between floor ceiling (slice_range rows i m)) q →
        FoldsTo R p (items_between floor ceiling (slice_range rows i j)) q
    folded_left R p q = subst (λ (hits : List SpanRow). FoldsTo R p (map (λ (row : SpanRow). row.item) hits) q) (sym left_alone)

  -- ---- where it doesn't, no row before it does
  module _ (low : root.low ≤ℤ floor) where
    hits : hits_in floor ceiling (slice_range rows i j) ≡
        hits_in floor ceiling (slice_range rows i m)
        + (hits_in floor ceiling (root ∷ []) + hits_in floor ceiling (slice_range rows (m + 1) j))
    hits =
        let before = rows_between floor ceiling (slice_range rows i m) in
        let at_root = rows_between floor ceiling (root ∷ []) in
        let after = rows_between floor ceiling (slice_range rows (m + 1) j) in
        ap (hits_in floor ceiling) (split r)
        ∙ ap length (rows_between-split floor ceiling (slice_range rows i m) root (slice_range rows (m + 1) j))
        ∙ length-append before (at_root ++ after)
        ∙ ap (λ n. length before + n) (length-append at_root after)

    module _ (u0 u1 u2 u3 : ℕ) (h : u1 ≡ u0 + 1)
        (before : AreLow floor (slice_range rows i m) → RisesInLowPart (hits_in floor ceiling (slice_range rows i m)) (m - i) u1 u2) where
      left_is_low : AreLow floor (slice_range rows i m)
      left_is_low = low_before rows r.tree.sorted m root r.is floor i low

      pub used_both : RisesInPart (hits_in floor ceiling (slice_range rows (m + 1) j)) (j - (m + 1)) u2 u3 →
          RisesInPart (hits_in floor ceiling (slice_range rows i j)) (j - i) u0 u3
      used_both after =
          let k = hits_in floor ceiling (slice_range rows i j) in
          let k_before = hits_in floor ceiling (slice_range rows i m) in
          let k_after = hits_in floor ceiling (slice_range rows (m + 1) j) in
          more_digits i j (λ digits. u3 ≤ u0 + 2 * (k + 1) * digits) r.some
          (λ e l. both_sides u0 u1 u2 u3 k_before (hits_in floor ceiling (root ∷ [])) k_after k e h
          (before left_is_low e (halves r e l).0) hits (after e (halves r e l).1))

      pub used_both_low : ceiling ≤ℤ root.most →
          (AreLow floor (slice_range rows (m + 1) j) →
          RisesInLowPart (hits_in floor ceiling (slice_range rows (m + 1) j)) (j - (m + 1)) u2 u3) →
          AreLow floor (slice_range rows i j) →
          RisesInLowPart (hits_in floor ceiling (slice_range rows i j)) (j - i) u0 u3
      used_both_low high after all =
          let k = hits_in floor ceiling (slice_range rows i j) in
          let k_before = hits_in floor ceiling (slice_range rows i m) in
          let k_after = hits_in floor ceiling (slice_range rows (m + 1) j) in
          let some = some_between floor ceiling root.most (slice_range rows i j) all (greatest r).reached high in
          more_digits i j (λ digits. u3 ≤ u0 + 2 * k * digits + 1) r.some
          (λ e l. both_low_sides u0 u1 u2 u3 k_before (hits_in floor ceiling (root ∷ [])) k_after k e h
          (before left_is_low e (halves r e l).0) hits (after (right_is_low r floor all) e (halves r e l).1) some)

  -- the folds over the left part, over the root and over the right part are the fold over the part
  pub folded : {P : Type 0} (R : P → ℕ → P → Type 0) (p q s t : P) → FoldsTo R p (items_between floor ceiling (slice_range rows i m)) q →
      FoldsTo R q (items_between floor ceiling (root ∷ [])) s → FoldsTo R s (items_between floor ceiling (slice_range rows (m + 1) j)) t →
      FoldsTo R p (items_between floor ceiling (slice_range rows i j)) t
  folded R p q s t before through after =
      let left_items = items_between floor ceiling (slice_range rows i m) in
      let root_items = items_between floor ceiling (root ∷ []) in
      let right_items = items_between floor ceiling (slice_range rows (m + 1) j) in
      subst (λ (items : List ℕ). FoldsTo R p items t)
      (sym (ap (items_between floor ceiling) (split r)
      ∙ items_between-split floor ceiling (slice_range rows i m) root (slice_range rows (m + 1) j)))
      (FoldsTo-append R p left_items q (root_items ++ right_items) t before (FoldsTo-append R q root_items s right_items t through after))

-- ---- the whole tree, by the height of a point
-- of all rows, those between the whole heights next to a point are those that hold its height
module _ {p : Point} {floor ceiling : ℤ} (level : IsLevel p floor ceiling) (rows : List SpanRow) (count : ℕ)
    (is : count ≡ length rows) where
  between_is : (row : SpanRow) → is_between floor ceiling row ≡ holds_height p (span_of row)
  between_is row =
      let low =
      Decides-like (int_le (row.low *ℤ p.w) p.y) (level.low row.low).1 (level.low row.low).0 (Decides-int_le (row.low *ℤ p.w) p.y) in
      let high =
      Decides-like (int_le p.y (row.high *ℤ p.w)) (level.high row.high).1 (level.high row.high).0
      (Decides-int_le p.y (row.high *ℤ p.w)) in
      let low_is = same_from_decides (int_le row.low floor) (int_le (row.low *ℤ p.w) p.y) (Decides-int_le row.low floor) low in
      let high_is = same_from_decides (int_le ceiling row.high) (int_le p.y (row.high *ℤ p.w)) (Decides-int_le ceiling row.high) high in
      λ i. low_is i && high_is i

  rows_at_is : rows_between floor ceiling (slice_range rows 0 count) ≡ rows_at p rows
  rows_at_is =
      ap (λ n. rows_between floor ceiling (slice_range rows 0 n)) is
      ∙ ap (rows_between floor ceiling) (slice_all rows)
      ∙ filter_agree (is_between floor ceiling) (λ row. holds_height p (span_of row)) between_is rows

  pub whole_part : IsPartOf 0 (length rows) 0 count
  whole_part = subst (IsPartOf 0 (length rows) 0) (sym is) whole

  pub folded_all : {P : Type 0} (R : P → ℕ → P → Type 0) (s t : P) →
      FoldsTo R s (items_between floor ceiling (slice_range rows 0 count)) t → FoldsTo R s (items_at p rows) t
  folded_all R s t = subst (λ (hits : List SpanRow). FoldsTo R s (map (λ (row : SpanRow). row.item) hits) t) rows_at_is

  pub used_all : (old new : ℕ) → RisesInPart (hits_in floor ceiling (slice_range rows 0 count)) (count - 0) old new →
      RisesWithin (length (rows_at p rows)) (length rows) old new
  used_all old new h = subst (λ (hits : List SpanRow). RisesWithin (length hits) (length rows) old new) rows_at_is
      (λ digits below. wider (hits_in floor ceiling (slice_range rows 0 count)) digits (h digits (omega (arith, below, is))))
    where
      wider : (k digits : ℕ) → new ≤ old + 2 * (k + 1) * digits → new ≤ old + 2 * (k + 1) * (digits + 2)
      wider k digits l = omega (arith, l)
