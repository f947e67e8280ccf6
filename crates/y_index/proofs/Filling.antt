-- Filling in the greatest highs of a tree: the parts below a root, and what becomes of them when a row elsewhere is written.
use Rattle.std.proofs.Common.{◌≡◌, ◌≢◌, ℕ, ◌+◌, ◌-◌, ◌/◌, ◌<◌, ◌≤◌, ◌⊎◌, inl, inr, ℤ, pos, negsuc, ◌-ℤ◌, ◌<ℤ◌, ◌≤ℤ◌, List, [], ◌∷◌, ◌++◌}
use Rattle.std.proofs.Common.{length, get_or, set, ap, refl, sym, ◌∙◌, subst, subst₂, arith, length-set, get_or-set_same, get_or-set_other}
use Rattle.std.specs.Prelude.{Some, slice_get, slice_range, map}
use Rattle.std.specs.List.{All}
use Rattle.std.specs.Int.{int_max}
use Rattle.std.proofs.lemmas.Int.{ints, clamps}
use Rattle.std.proofs.lemmas.List.{length-map, map-set, set-get_or, get_or-map, same_lists}
use Rattle.std.proofs.lemmas.List.Elements.{All-nil, All-cons, All-head, All-tail, All-append, All-weaker}
use Rattle.std.proofs.lemmas.Option.{slice_get-get_or, get_or_from_slice_get, same_Some}
use Rattle.whole_algebra.proofs.Laws.{linear}
use Rattle.y_index.proofs.Slices.{slice_none, slice_split, length-slice_range, get_or-slice_range}
use Rattle.y_index.specs.Rows.{row_of, SameOutside, IsFilled}
use Rattle.y_index.specs.Trees.{IsPartOf, whole, left, right, HasMosts, IsGreatestHigh, placed}
use Rattle.y_index.specs.declared.row.Row.{Row}
use Rattle.y_index.specs.declared.rows.SpanRow.{SpanRow}

-- ---- the parts of a tree
pub part_within : {from to i j : ℕ} → IsPartOf from to i j → from ≤ to → (from ≤ i) × (i ≤ j) × (j ≤ to)
part_within whole h = (omega arith, h, omega arith)
part_within (left p some) h = let r = part_within p h in (r.0, omega (arith, some), omega (arith, some, r.2))
part_within (right p some) h = let r = part_within p h in (omega (arith, r.0, some), omega (arith, some), r.2)

-- a part is the whole, or a part of the left or of the right part of the whole
pub part_cases : {from to i j : ℕ} → IsPartOf from to i j →
    ((i ≡ from) × (j ≡ to)) ⊎ (IsPartOf from ((from + to) / 2) i j ⊎ IsPartOf ((from + to) / 2 + 1) to i j)
part_cases whole = inl (refl, refl)
part_cases {from} {to} (left {i} {j} p some) = go (part_cases p)
  where
    go : ((i ≡ from) × (j ≡ to)) ⊎ (IsPartOf from ((from + to) / 2) i j ⊎ IsPartOf ((from + to) / 2 + 1) to i j) →
        ((i ≡ from) × ((i + j) / 2 ≡ to)) ⊎
        (IsPartOf from ((from + to) / 2) i ((i + j) / 2) ⊎ IsPartOf ((from + to) / 2 + 1) to i ((i + j) / 2))
    go (inl e) = inr (inl (subst₂ (λ k l. IsPartOf from ((from + to) / 2) k ((k + l) / 2)) (sym e.0) (sym e.1) whole))
    go (inr (inl q)) = inr (inl (left q some))
    go (inr (inr q)) = inr (inr (left q some))
part_cases {from} {to} (right {i} {j} p some) = go (part_cases p)
  where
    go : ((i ≡ from) × (j ≡ to)) ⊎ (IsPartOf from ((from + to) / 2) i j ⊎ IsPartOf ((from + to) / 2 + 1) to i j) →
        (((i + j) / 2 + 1 ≡ from) × (j ≡ to)) ⊎
        (IsPartOf from ((from + to) / 2) ((i + j) / 2 + 1) j ⊎ IsPartOf ((from + to) / 2 + 1) to ((i + j) / 2 + 1) j)
    go (inl e) = inr (inr (subst₂ (λ k l. IsPartOf ((from + to) / 2 + 1) to ((k + l) / 2 + 1) l) (sym e.0) (sym e.1) whole))
    go (inr (inl q)) = inr (inl (right q some))
    go (inr (inr q)) = inr (inr (right q some))

-- ---- rows that agree on a part
-- the two lists have the same rows from one place up to but without another
pub record AgreeOn (from to : ℕ) (rows others : List SpanRow) : Type 0 where
  pub long : length rows ≡ length others
  pub within : to ≤ length others
  pub same : (k : ℕ) (d : SpanRow) → from ≤ k → k < to → get_or others k d ≡ get_or rows k d

slice_same : {from to : ℕ} {rows others : List SpanRow} → AgreeOn from to rows others → (i j : ℕ) → from ≤ i → j ≤ to →
    slice_range rows i j ≡ slice_range others i j
slice_same {rows} {others} h i j low high =
    let long : length (slice_range rows i j) ≡ j - i = length-slice_range rows i j (omega (arith, high, h.within, h.long)) in
    let other_long : length (slice_range others i j) ≡ j - i = length-slice_range others i j (omega (arith, high, h.within)) in
    same_lists (slice_range rows i j) (slice_range others i j) (long ∙ sym other_long)
    (λ k d below.
    let inside : k < j - i = omega (arith, below, long) in
    get_or-slice_range rows i j k d inside
    ∙ sym (h.same (i + k) d (omega (arith, low)) (omega (arith, inside, high)))
    ∙ sym (get_or-slice_range others i j k d inside))

mosts_kept : {from to : ℕ} {rows others : List SpanRow} → from ≤ to → AgreeOn from to rows others → HasMosts from to rows →
    HasMosts from to others
mosts_kept {from} {to} {rows} {others} h agree mosts i j part some root is =
    let r = part_within part h in
    let middle = (i + j) / 2 in
    let same_root : get_or rows middle root ≡ root = sym (agree.same middle root (omega (arith, r.0, some)) (omega (arith, r.2, some)))
    ∙ get_or_from_slice_get others middle root root is in
    let there = slice_get-get_or rows middle root (omega (arith, r.2, some, agree.long, agree.within)) ∙ ap Some same_root in
    subst (λ (part : List SpanRow). IsGreatestHigh part root.most) (slice_same agree i j r.0 r.2) (mosts i j part some root there)

-- ---- the greatest high of a part
-- a number is at least this one exactly where no high is above it; so it is the greatest high, where a row is there
greatest_by_bound : (greatest : ℤ) (row : SpanRow) (part : List SpanRow) → negsuc 2147483647 ≤ℤ greatest → negsuc 2147483647 ≤ℤ row.high →
    All (λ (row : SpanRow). row.high <ℤ greatest) part → row.high <ℤ greatest →
    ((z : ℤ) → negsuc 2147483647 ≤ℤ z → All (λ (row : SpanRow). row.high ≤ℤ z) part → greatest ≤ℤ z) → ⊥
greatest_by_bound greatest row part least low all at_row bound =
    let l : greatest ≤ℤ (greatest -ℤ pos 1) =
    bound (greatest -ℤ pos 1) (omega (arith, ints, low, at_row))
    (All-weaker (λ (row : SpanRow). row.high <ℤ greatest) (λ row. row.high ≤ℤ (greatest -ℤ pos 1))
    (λ row k. omega (arith, ints, k)) part all) in
    omega (arith, ints, l)

-- all items of a list pass, so all items of each of its parts do
All-front : {X : Type 0} (P : X → Type 0) (xs ys : List X) → All P (xs ++ ys) → All P xs × All P ys
All-front P [] ys h = (All-nil P, h)
All-front P (x ∷ xs) ys h = let r = All-front P xs ys (All-tail P x (xs ++ ys) h) in (All-cons P x xs (All-head P x (xs ++ ys) h) r.0, r.1)

-- ---- the root of a part is written, once both sides are filled in
-- of the rows at first, after the left part was filled in, after the right part was, and after the root was written
pub record IsJoined (from to m : ℕ) (first second third : List SpanRow) (root : SpanRow) (before after : ℤ) : Type 0 where
  pub some : from < to
  pub at : m ≡ (from + to) / 2
  pub long : length first ≡ length third
  pub as_long : length second ≡ length third
  pub within : to ≤ length third
  pub left_filled : IsFilled from m first before
  pub right_filled : IsFilled (m + 1) to second after
  pub right_alone : SameOutside (m + 1) to first second
  pub root_alone : (k : ℕ) (d : SpanRow) → k ≢ m → get_or third k d ≡ get_or second k d
  pub root_is : slice_get third m ≡ Some root
  pub high_fits : negsuc 2147483647 ≤ℤ root.high
  pub most_is : root.most ≡ int_max (int_max before root.high) after

module _ {from to m : ℕ} {first second third : List SpanRow} {root : SpanRow} {before after : ℤ}
    (j : IsJoined from to m first second third root before after) where
  left_agrees : AgreeOn from m first third
  left_agrees = record {
    long = j.long;
    within = omega (arith, j.at, j.some, j.within);
    same = λ k d low high. j.root_alone k d (omega arith) ∙ j.right_alone k d (inl (omega (arith, high)));
  }

  right_agrees : AgreeOn (m + 1) to second third
  right_agrees = record { long = j.as_long; within = j.within; same = λ k d low high. j.root_alone k d (omega (arith, low)) }

  split : slice_range third from to ≡ slice_range first from m ++ root ∷ slice_range second (m + 1) to
  split =
      slice_split third from m to root (omega (arith, j.at, j.some)) (omega (arith, j.at, j.some)) j.root_is
      ∙ ap (λ part. part ++ root ∷ slice_range third (m + 1) to) (sym (slice_same left_agrees from m (omega arith) (omega arith)))
      ∙ ap (λ part. slice_range first from m ++ root ∷ part) (sym (slice_same right_agrees (m + 1) to (omega arith) (omega arith)))

  -- what the number at the root is at most
  bound_up : (z : ℤ) → negsuc 2147483647 ≤ℤ z → root.most ≤ℤ z → All (λ (row : SpanRow). row.high ≤ℤ z) (slice_range third from to)
  bound_up z low h =
      let IsUnder : SpanRow → Type 0 = λ row. row.high ≤ℤ z in
      let before_under : before ≤ℤ z = omega (arith, ints, clamps, j.most_is, h) in
      let root_under : root.high ≤ℤ z = omega (arith, ints, clamps, j.most_is, h) in
      let after_under : after ≤ℤ z = omega (arith, ints, clamps, j.most_is, h) in
      let on_left = (j.left_filled.bound z low).0 before_under in
      let on_right = (j.right_filled.bound z low).0 after_under in
      subst (All IsUnder) (sym split)
      (All-append IsUnder (slice_range first from m) (root ∷ slice_range second (m + 1) to) on_left
      (All-cons IsUnder root (slice_range second (m + 1) to) root_under on_right))

  bound_down : (z : ℤ) → negsuc 2147483647 ≤ℤ z → All (λ (row : SpanRow). row.high ≤ℤ z) (slice_range third from to) → root.most ≤ℤ z
  bound_down z low h =
      let IsUnder : SpanRow → Type 0 = λ row. row.high ≤ℤ z in
      let sides = All-front IsUnder (slice_range first from m) (root ∷ slice_range second (m + 1) to) (subst (All IsUnder) split h) in
      let before_under = (j.left_filled.bound z low).1 sides.0 in
      let root_under = All-head IsUnder root (slice_range second (m + 1) to) sides.1 in
      let after_under = (j.right_filled.bound z low).1 (All-tail IsUnder root (slice_range second (m + 1) to) sides.1) in
      omega (arith, ints, clamps, j.most_is, before_under, root_under, after_under)

  most_fits : negsuc 2147483647 ≤ℤ root.most
  most_fits = let l = j.left_filled.least in omega (arith, ints, clamps, j.most_is, l)

  root_has_greatest : IsGreatestHigh (slice_range third from to) root.most
  root_has_greatest = record {
    above = bound_up root.most most_fits (omega (arith, linear));
    reached = λ all. greatest_by_bound root.most root (slice_range third from to) most_fits j.high_fits all (at_root all) bound_down;
  }
    where
      at_root : All (λ (row : SpanRow). row.high <ℤ root.most) (slice_range third from to) → root.high <ℤ root.most
      at_root all =
          let IsUnder : SpanRow → Type 0 = λ row. row.high <ℤ root.most in
          let sides = All-front IsUnder (slice_range first from m) (root ∷ slice_range second (m + 1) to) (subst (All IsUnder) split all) in
          All-head IsUnder root (slice_range second (m + 1) to) sides.1

  joined_mosts : HasMosts from to third
  joined_mosts i k part some row is = go (part_cases part)
    where
      at_whole : (i ≡ from) × (k ≡ to) → IsGreatestHigh (slice_range third i k) row.most
      at_whole e =
          let place : (i + k) / 2 ≡ m = (λ n. (e.0 n + e.1 n) / 2) ∙ sym j.at in
          let row_is : root ≡ row = same_Some root row (sym j.root_is ∙ ap (slice_get third) (sym place) ∙ is) in
          subst (λ (r : SpanRow). IsGreatestHigh (slice_range third i k) r.most) row_is
          (subst₂ (λ n l. IsGreatestHigh (slice_range third n l) root.most) (sym e.0) (sym e.1) root_has_greatest)

      at_left : IsPartOf from ((from + to) / 2) i k → IsGreatestHigh (slice_range third i k) row.most
      at_left p =
          mosts_kept (omega (arith, j.at, j.some)) left_agrees j.left_filled.mosts i k (subst (λ n. IsPartOf from n i k) (sym j.at) p)
          some row is

      at_right : IsPartOf ((from + to) / 2 + 1) to i k → IsGreatestHigh (slice_range third i k) row.most
      at_right p =
          mosts_kept (omega (arith, j.at, j.some)) right_agrees j.right_filled.mosts i k
          (subst (λ n. IsPartOf (n + 1) to i k) (sym j.at) p) some row is

      go : ((i ≡ from) × (k ≡ to)) ⊎ (IsPartOf from ((from + to) / 2) i k ⊎ IsPartOf ((from + to) / 2 + 1) to i k) →
          IsGreatestHigh (slice_range third i k) row.most
      go (inl e) = at_whole e
      go (inr (inl p)) = at_left p
      go (inr (inr p)) = at_right p

  pub joined : IsFilled from to third root.most
  joined = record { mosts = joined_mosts; least = most_fits; bound = λ z low. (bound_up z low, bound_down z low) }

-- a part without a row is filled in
pub filled_none : (from to : ℕ) (rows : List SpanRow) → to ≤ from → from ≤ to → IsFilled from to rows (negsuc 2147483647)
filled_none from to rows h k = record {
  mosts = λ i j part some. absurd (let r = part_within part k in omega (arith, some, r.0, r.2, h));
  least = omega (arith, linear);
  bound = λ z low. (
    λ l. subst (All (λ (row : SpanRow). row.high ≤ℤ z)) (sym (slice_none rows from to h))
        (All-nil (λ (row : SpanRow). row.high ≤ℤ z)),
    λ all. low,
  );
}

-- ---- a row is written
module _ (rows : List Row) (m : ℕ) (d : Row) (most : ℤ) (within : m < length rows) where
  -- the row at m, with another `most`
  abbrev written : Row
  written = record { low = (get_or rows m d).low; high = (get_or rows m d).high; item = (get_or rows m d).item; most = most }

  pub written_spans : map placed (map row_of (set rows m written)) ≡ map placed (map row_of rows)
  written_spans =
      let spans = map placed (map row_of rows) in
      let old = placed (row_of (get_or rows m d)) in
      let stays : get_or spans m old ≡ old =
      get_or-map placed (map row_of rows) m (row_of (get_or rows m d)) old (omega (arith, within, length-map rows row_of))
      ∙ ap placed (get_or-map row_of rows m d (row_of (get_or rows m d)) within) in
      ap (map placed) (map-set row_of rows m written)
      ∙ map-set placed (map row_of rows) m (row_of written)
      ∙ ap (set spans m) (sym stays)
      ∙ set-get_or spans m old

  pub written_others : (k : ℕ) (e : SpanRow) → k ≢ m → get_or (map row_of (set rows m written)) k e ≡ get_or (map row_of rows) k e
  written_others k e apart = ap (λ list. get_or list k e) (map-set row_of rows m written)
      ∙ get_or-set_other (map row_of rows) m k (row_of written) e apart

  pub written_root : slice_get (map row_of (set rows m written)) m ≡ Some (row_of written)
  written_root =
      let list = map row_of rows in
      let inside : m < length list = omega (arith, within, length-map rows row_of) in
      ap (λ rows. slice_get rows m) (map-set row_of rows m written)
      ∙ slice_get-get_or (set list m (row_of written)) m (row_of written) (omega (arith, inside, length-set list m (row_of written)))
      ∙ ap Some (get_or-set_same list m (row_of written) (row_of written) inside)

  pub length_written : length (map row_of (set rows m written)) ≡ length rows
  length_written = length-map (set rows m written) row_of ∙ length-set rows m written
