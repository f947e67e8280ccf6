-- Where two lists of segments first differ.
use Rattle.std.proofs.Common.{◌≡◌, ◌≢◌, ℕ, ◌+◌, ◌<◌, ◌≤◌, ◌⊎◌, inl, inr, ◌&&◌, List, length, get_or, min, Decides, sym, ◌∙◌, ap, subst}
use Rattle.std.proofs.Common.{arith}
use Rattle.std.specs.Prelude.{slice_get, Some}
use Rattle.std.specs.Ordering.{int_eq}
use Rattle.std.proofs.lemmas.Bool.{cases_lt}
use Rattle.std.proofs.lemmas.Bool.Decides.{Decides-int_eq, Decides-and}
use Rattle.std.proofs.lemmas.List.{same_lists}
use Rattle.std.proofs.lemmas.Option.{slice_get-get_or, slice_get_past}
use Rattle.plane_exact.specs.declared.point.Seg.{Seg}
use Rattle.edge_index.specs.Rows.{no_segment}
use Rattle.edge_index.specs.Segments.{IsFirstDifference}

-- the test of the four coordinates
pub Decides-same :
    (one other : Seg)
    → Decides ((int_eq one.a.x other.a.x && int_eq one.a.y other.a.y) && (int_eq one.b.x other.b.x && int_eq one.b.y other.b.y))
    (one ≡ other)
Decides-same one other =
    let both = Decides-and _ _ (Decides-and _ _ (Decides-int_eq one.a.x other.a.x) (Decides-int_eq one.a.y other.a.y))
    (Decides-and _ _ (Decides-int_eq one.b.x other.b.x) (Decides-int_eq one.b.y other.b.y)) in (
      λ e. let h = both.0 e in λ i. record { a = record { x = h.0.0 i; y = h.0.1 i }; b = record { x = h.1.0 i; y = h.1.1 i } },
      λ e. both.1 ((ap (λ (s : Seg). s.a.x) e, ap (λ (s : Seg). s.a.y) e), (ap (λ (s : Seg). s.b.x) e, ap (λ (s : Seg). s.b.y) e)),
    )

-- two lists have the same items before a place
abbrev pub AreSameBefore : List Seg → List Seg → ℕ → Type 0
AreSameBefore segs others place = (earlier : ℕ) → earlier < place → slice_get segs earlier ≡ slice_get others earlier

-- one more place
pub same_more :
    (segs others : List Seg) (place : ℕ) (one other : Seg) → AreSameBefore segs others place → slice_get segs place ≡ Some one
    → slice_get others place ≡ Some other → one ≡ other → AreSameBefore segs others (place + 1)
same_more segs others place one other before here there same = λ earlier below. by_side earlier (cases_lt earlier place) below
  where
    by_side :
        (earlier : ℕ) → (earlier < place) ⊎ (place ≤ earlier) → earlier < place + 1 → slice_get segs earlier ≡ slice_get others earlier
    by_side earlier (inl below) h = before earlier below
    by_side earlier (inr past) h =
        let last : place ≡ earlier = omega arith in
        subst (λ (p : ℕ). slice_get segs p ≡ slice_get others p) last (here ∙ ap (λ (s : Seg). Some s) same ∙ sym there)

-- two items that differ
pub first_apart :
    (segs others : List Seg) (place : ℕ) (one other : Seg) → AreSameBefore segs others place → slice_get segs place ≡ Some one
    → slice_get others place ≡ Some other → one ≢ other → IsFirstDifference segs others place
first_apart segs others place one other before here there apart = record { same = before; differ = λ same. apart cc }

-- past its end a list has nothing, where the longer one has an item
ends_before :
    (segs others : List Seg) (place : ℕ) → length segs ≤ place → place < length others → slice_get segs place ≢ slice_get others place
ends_before segs others place past within same =
    let none = slice_get_past segs place past in
    let some = slice_get-get_or others place no_segment within in
    cc

-- the shorter list ends
pub first_end :
    (segs others : List Seg) (place : ℕ) → place ≡ min (length segs) (length others) → AreSameBefore segs others place
    → length segs ≢ length others → IsFirstDifference segs others place
first_end segs others place e before apart = record { same = before; differ = by_length (cases_lt (length segs) (length others)) }
  where
    by_length : (length segs < length others) ⊎ (length others ≤ length segs) → slice_get segs place ≢ slice_get others place
    by_length (inl shorter) = ends_before segs others place (omega arith) (omega arith)
    by_length (inr longer) = λ same. ends_before others segs place (omega arith) (omega arith) (sym same)

-- lists of one length without a difference are equal
pub all_same :
    (segs others : List Seg) (place : ℕ) → place ≡ min (length segs) (length others) → AreSameBefore segs others place
    → length segs ≡ length others → segs ≡ others
all_same segs others place e before long = same_lists segs others long (λ k d h. item k d h (omega arith))
  where
    item : (k : ℕ) (d : Seg) → k < length segs → k < length others → get_or segs k d ≡ get_or others k d
    item k d h h' =
        let here = slice_get-get_or segs k d h in
        let there = slice_get-get_or others k d h' in
        let same = before k (omega arith) in
        cc
