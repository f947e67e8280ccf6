-- Each position of a way that moves is on one of its edges; and what the positions are at that a test keeps.
use Rattle.std.proofs.Common.{◌≡◌, ◌⊎◌, inl, inr, Bool, true, false, not, ◌||◌, ◌&&◌, if◌then◌else◌, List, [], ◌∷◌, ap, refl, sym}
use Rattle.std.proofs.Common.{subst, ◌∙◌, ◌++◌}
use Rattle.std.specs.List.{list_all}
use Rattle.std.proofs.lemmas.Bool.{true≢false, and_parts, or_left, or_right}
use Rattle.plane_laws.specs.Plane.{Point}
use Rattle.plane_exact.specs.Places.{point_of}
use Rattle.plane_exact.specs.declared.point.Pt.{Pt}
use Rattle.point_set.specs.Lines.{is_at, is_at_some, is_still, last_after, ends_of, is_at_still_line, is_on_lines, count_at}
use Rattle.point_set.specs.Lines.{is_boundary_count, ends_of_lines}
use Rattle.point_set.specs.Rings.{is_same_position, edge_before, edges_after, edges_of, is_on_edge, is_on_edges}
use Rattle.point_set.specs.Extents.{keep_if, moving_positions, still_positions, boundary_ends}
use Rattle.point_set.specs.declared.rule.Rule.{Rule}
use Rattle.plane_laws.proofs.Points.Same.{same_refl, same_sym, Decides-is_same_point}
use Rattle.plane_laws.proofs.Segments.Mixes.{start_on_segment, end_on_segment, segment_same}
use Rattle.plane_laws.proofs.Segments.On.{Decides-is_on_segment}
use Rattle.figure_laws.proofs.Lists.Places.{same_position}
use Rattle.figure_laws.proofs.Points.Same.{count_at-same}

-- ---- positions on edges
-- a point at a position that equals another is at the other
at_equal : (m : Point) (p q : Pt) → is_same_position p q ≡ true → is_at m p ≡ true → is_at m q ≡ true
at_equal m p q same at = subst (λ z. is_at m z ≡ true) (same_position p q same) at

-- where all equal p, a point at one of them is at p
at_one :
    (m : Point) (p : Pt) (others : List Pt) → list_all (is_same_position p) others ≡ true → is_at_some m others ≡ true → is_at m p ≡ true
at_one m p [] same h = absurd (true≢false (sym h))
at_one m p (q ∷ others) same h = by (is_at m q) refl h (at_one m p others tests.1)
  where
    tests : (is_same_position p q ≡ true) × (list_all (is_same_position p) others ≡ true)
    tests = and_parts (is_same_position p q) (list_all (is_same_position p) others) same

    by : (b : Bool) → is_at m q ≡ b → b || is_at_some m others ≡ true → (is_at_some m others ≡ true → is_at m p ≡ true) → is_at m p ≡ true
    by true at e rest = subst (λ z. is_at m z ≡ true) (sym (same_position p q tests.0)) at
    by false at e rest = rest e

-- and a point at p or at one of them is at p
at_first :
    (m : Point) (p : Pt) (others : List Pt) → list_all (is_same_position p) others ≡ true → is_at_some m (p ∷ others) ≡ true
    → is_at m p ≡ true
at_first m p others same h = by (is_at m p) refl h
  where
    by : (b : Bool) → is_at m p ≡ b → b || is_at_some m others ≡ true → is_at m p ≡ true
    by true at k = at
    by false at k = at_one m p others same k

-- a point at an end of an edge is on it
at_start : (m : Point) (p q : Pt) → is_at m p ≡ true → is_on_edge m (record { a = p; b = q }) ≡ true
at_start m p q at =
    (Decides-is_on_segment (point_of p) (point_of q) m).1
    (segment_same (same_refl (point_of p)) (same_refl (point_of q)) (same_sym ((Decides-is_same_point m (point_of p)).0 at))
    (start_on_segment (point_of p) (point_of q)))

-- and at the other end
at_end : (m : Point) (p q : Pt) → is_at m q ≡ true → is_on_edge m (record { a = p; b = q }) ≡ true
at_end m p q at =
    (Decides-is_on_segment (point_of p) (point_of q) m).1
    (segment_same (same_refl (point_of p)) (same_refl (point_of q)) (same_sym ((Decides-is_same_point m (point_of q)).0 at))
    (end_on_segment (point_of p) (point_of q)))

-- of a way that goes on from p and doesn't stay there
on_after :
    (m : Point) (p : Pt) (others : List Pt) → list_all (is_same_position p) others ≡ false → is_at_some m (p ∷ others) ≡ true
    → is_on_edges m (edges_after p others) ≡ true
on_after m p [] moves h = absurd (true≢false moves)
on_after m p (q ∷ others) moves h =
    by_same (is_same_position p q) refl moves (is_at m p) refl h (list_all (is_same_position q) others) refl (on_after m q others)
  where
    by_same :
        (b : Bool) → is_same_position p q ≡ b → b && list_all (is_same_position p) others ≡ false → (c : Bool) → is_at m p ≡ c
        → c || is_at_some m (q ∷ others) ≡ true → (d : Bool) → list_all (is_same_position q) others ≡ d
        → (list_all (is_same_position q) others ≡ false → is_at_some m (q ∷ others) ≡ true → is_on_edges m (edges_after q others) ≡ true)
        → is_on_edges m (edge_before b p q (edges_after q others)) ≡ true
    by_same true same k true at e d still rest =
        rest (subst (λ z. list_all (is_same_position z) others ≡ false) (same_position p q same) k)
        (or_left (is_at m q) (is_at_some m others) (at_equal m p q same at))
    by_same true same k false at e d still rest =
        rest (subst (λ z. list_all (is_same_position z) others ≡ false) (same_position p q same) k) e
    by_same false same k true at e d still rest =
        or_left (is_on_edge m (record { a = p; b = q })) (is_on_edges m (edges_after q others)) (at_start m p q at)
    by_same false same k false at e true still rest =
        or_left (is_on_edge m (record { a = p; b = q })) (is_on_edges m (edges_after q others)) (at_end m p q (at_first m q others still e))
    by_same false same k false at e false still rest =
        or_right (is_on_edge m (record { a = p; b = q })) (is_on_edges m (edges_after q others)) (rest still e)

-- of a way that moves
pub position_on : (m : Point) (way : List Pt) → is_still way ≡ false → is_at_some m way ≡ true → is_on_edges m (edges_of way) ≡ true
position_on m [] moves h = absurd (true≢false moves)
position_on m (p ∷ others) moves h = on_after m p others moves h

-- ---- the ends of a way
-- the last position is one of them
at_last : (m : Point) (p : Pt) (others : List Pt) → is_at m (last_after p others) ≡ true → is_at_some m (p ∷ others) ≡ true
at_last m p [] h = or_left (is_at m p) false h
at_last m p (q ∷ others) h = or_right (is_at m p) (is_at_some m (q ∷ others)) (at_last m q others h)

-- a point at an end of a line is on one of its edges
end_on : (m : Point) (line : List Pt) → is_at_some m (ends_of line) ≡ true → is_on_edges m (edges_of line) ≡ true
end_on m [] h = absurd (true≢false (sym h))
end_on m (p ∷ others) h = by (is_still (p ∷ others)) refl h
  where
    by :
        (b : Bool) → is_still (p ∷ others) ≡ b → is_at_some m (if b then [] else p ∷ last_after p others ∷ []) ≡ true
        → is_on_edges m (edges_of (p ∷ others)) ≡ true
    by true still k = absurd (true≢false (sym k))
    by false moves k = position_on m (p ∷ others) moves (at (is_at m p) refl k)
      where
        at :
            (c : Bool) → is_at m p ≡ c → c || (is_at m (last_after p others) || false) ≡ true → is_at_some m (p ∷ others) ≡ true
        at true e g = or_left (is_at m p) (is_at_some m others) e
        at false e g = at_last m p others (or_none (is_at m (last_after p others)) g)
          where
            or_none : (z : Bool) → z || false ≡ true → z ≡ true
            or_none true y = refl
            or_none false y = y

-- ---- kept positions
-- at one of two lists
pub some_append : (m : Point) (xs ys : List Pt) → is_at_some m (xs ++ ys) ≡ true → (is_at_some m xs ≡ true) ⊎ (is_at_some m ys ≡ true)
some_append m [] ys h = inr h
some_append m (x ∷ xs) ys h = by (is_at m x) refl h (some_append m xs ys)
  where
    by :
        (b : Bool) → is_at m x ≡ b → b || is_at_some m (xs ++ ys) ≡ true
        → (is_at_some m (xs ++ ys) ≡ true → (is_at_some m xs ≡ true) ⊎ (is_at_some m ys ≡ true))
        → (is_at_some m (x ∷ xs) ≡ true) ⊎ (is_at_some m ys ≡ true)
    by true at e rest = inl (or_left (is_at m x) (is_at_some m xs) at)
    by false at e rest = elim (rest e) [
      | inl k ↦ inl (or_right (is_at m x) (is_at_some m xs) k)
      | inr k ↦ inr k
    ]

-- at a way that is kept, or at another
kept_split :
    (m : Point) (b : Bool) (way others : List Pt) → is_at_some m (keep_if b way others) ≡ true
    → ((b ≡ true) × (is_at_some m way ≡ true)) ⊎ (is_at_some m others ≡ true)
kept_split m true way others h = elim (some_append m way others h) [
  | inl k ↦ inl (refl, k)
  | inr k ↦ inr k
]
kept_split m false way others h = inr h

-- at a position of a line that moves: on the line
pub moving_on : (m : Point) (lines : List (List Pt)) → is_at_some m (moving_positions lines) ≡ true → is_on_lines m lines ≡ true
moving_on m [] h = absurd (true≢false (sym h))
moving_on m (line ∷ lines) h = elim (kept_split m (not (is_still line)) line (moving_positions lines) h) [
  | inl k ↦ or_left (is_on_edges m (edges_of line)) (is_on_lines m lines) (position_on m line (moves (is_still line) k.0) k.1)
  | inr k ↦ or_right (is_on_edges m (edges_of line)) (is_on_lines m lines) (moving_on m lines k)
]
  where
    moves : (b : Bool) → not b ≡ true → b ≡ false
    moves true e = absurd (true≢false (sym e))
    moves false e = refl

-- at a position of a still line
pub still_at : (m : Point) (lines : List (List Pt)) → is_at_some m (still_positions lines) ≡ true → is_at_still_line m lines ≡ true
still_at m [] h = absurd (true≢false (sym h))
still_at m (line ∷ lines) h = elim (kept_split m (is_still line) line (still_positions lines) h) [
  | inl k ↦ or_left (is_still line && is_at_some m line) (is_at_still_line m lines) (λ i. k.0 i && k.1 i)
  | inr k ↦ or_right (is_still line && is_at_some m line) (is_at_still_line m lines) (still_at m lines k)
]

-- at a line end: on the line
pub ends_on : (m : Point) (lines : List (List Pt)) → is_at_some m (ends_of_lines lines) ≡ true → is_on_lines m lines ≡ true
ends_on m [] h = absurd (true≢false (sym h))
ends_on m (line ∷ lines) h = elim (some_append m (ends_of line) (ends_of_lines lines) h) [
  | inl k ↦ or_left (is_on_edges m (edges_of line)) (is_on_lines m lines) (end_on m line k)
  | inr k ↦ or_right (is_on_edges m (edges_of line)) (is_on_lines m lines) (ends_on m lines k)
]

-- at a kept line end: the count is a boundary one
pub kept_bound :
    (rule : Rule) (all : List Pt) (m : Point) (ends : List Pt) → is_at_some m (boundary_ends rule all ends) ≡ true
    → is_boundary_count rule (count_at m all) ≡ true
kept_bound rule all m [] h = absurd (true≢false (sym h))
kept_bound rule all m (p ∷ ends) h =
    elim (kept_split m (is_boundary_count rule (count_at (point_of p) all)) (p ∷ []) (boundary_ends rule all ends) h) [
      | inl k ↦ ap (is_boundary_count rule) (count_at-same ((Decides-is_same_point m (point_of p)).0 (one (is_at m p) k.1)) all) ∙ k.0
      | inr k ↦ kept_bound rule all m ends k
    ]
  where
    one : (b : Bool) → b || false ≡ true → b ≡ true
    one true e = refl
    one false e = e
