-- What a figure has lies in its four envelopes; so what lies outside of a box shows that one of the four sticks out of it.
use Rattle.std.proofs.Common.{◌≡◌, inl, inr, ◌+◌, ℤ, pos, ◌<ℤ◌, Bool, true, false, not, ◌||◌, ◌&&◌, List, [], ◌∷◌, ◌++◌, ap}
use Rattle.std.proofs.Common.{refl, sym, subst, ◌∙◌, arith}
use Rattle.std.specs.Prelude.{if◌then◌else◌, Option, Some, None, int_le}
use Rattle.std.specs.List.{AllByRecursion, list_all}
use Rattle.std.proofs.lemmas.Bool.{true≢false, and_parts, or_from, or_left, or_right}
use Rattle.plane_laws.specs.Plane.{Point}
use Rattle.plane_exact.specs.Places.{point_of}
use Rattle.plane_exact.specs.Windows.{IsWithin}
use Rattle.plane_exact.specs.declared.point.Pt.{Pt}
use Rattle.plane_exact.specs.declared.window.Window.{Window}
use Rattle.point_set.specs.declared.figure.Figure.{Figure}
use Rattle.point_set.specs.declared.rule.Rule.{Rule}
use Rattle.point_set.specs.declared.rule.Rule.TheVariants.{Mod2, Endpoint, Multivalent, Monovalent}
use Rattle.point_set.specs.Lines.{is_at, is_at_some, is_at_still_line, is_on_lines, is_still, count_at, is_boundary_count, ends_of_lines}
use Rattle.point_set.specs.Location.{is_covered, is_on_line, is_line_boundary, is_at_point}
use Rattle.point_set.specs.Rings.{is_same_position, edge_before, edges_after, edges_of, is_on_edges}
use Rattle.point_set.specs.Shape.{IsWellShaped}
use Rattle.point_set.specs.Nodes.{positions_of_ways, rings_of_areas}
use Rattle.point_set.specs.Extents.{IsEnvelope, IsExtent, keep_if, moving_positions, still_positions, boundary_ends}
use Rattle.point_set.specs.declared.extent.Extent.{Extent}
use Rattle.box_laws.specs.Boxes.{is_within, sticks_out, IsInBox}
use Rattle.plane_laws.proofs.Points.Same.{Decides-is_same_point}
use Rattle.plane_laws.proofs.Segments.On.{Decides-int_le}
use Rattle.figure_laws.proofs.Lists.Places.{same_position}
use Rattle.figure_laws.proofs.Points.Same.{count_at-same}
use Rattle.kind_laws.proofs.Location.EdgeRays.{all_split}
use Rattle.plane_exact.proofs.Laws.{within_holds}
use Rattle.box_laws.proofs.Boxes.Sides.{none_inside, in_window, Side, distance}
use Rattle.box_laws.proofs.Envelopes.Past.{IsBehind, IsBeyondAll, in_envelope_or_past, uncovered_beyond, off_all_behind, none_at}
use Rattle.box_laws.proofs.Envelopes.Ways.{both_of_way}

-- ---- a box that doesn't stick out
-- the test of being within
within_by_test : (inner outer : Window) → is_within inner outer ≡ true → IsWithin inner outer
within_by_test inner outer h =
    let both = and_parts (int_le outer.low_x inner.low_x && int_le inner.high_x outer.high_x)
    (int_le outer.low_y inner.low_y && int_le inner.high_y outer.high_y) h in
    let across = and_parts (int_le outer.low_x inner.low_x) (int_le inner.high_x outer.high_x) both.0 in
    let above = and_parts (int_le outer.low_y inner.low_y) (int_le inner.high_y outer.high_y) both.1 in
    record {
      left = (Decides-int_le outer.low_x inner.low_x).0 across.0;
      right = (Decides-int_le inner.high_x outer.high_x).0 across.1;
      bottom = (Decides-int_le outer.low_y inner.low_y).0 above.0;
      top = (Decides-int_le inner.high_y outer.high_y).0 above.1;
    }

-- what is in a box that doesn't stick out of another is in the other
pub stays_in : (envelope w : Option Window) → sticks_out envelope w ≡ false → (p : Point) → IsInBox envelope p → IsInBox w p
stays_in None w h p inside = absurd (none_inside inside)
stays_in (Some envelope) None h p inside = absurd (true≢false h)
stays_in (Some envelope) (Some w) h p inside = record {
  box = w;
  is = refl;
  within = within_holds (within_by_test envelope w (by (is_within envelope w) h)) p (in_window inside);
}
  where
    by : (b : Bool) → not b ≡ false → b ≡ true
    by true e = refl
    by false e = absurd (true≢false e)

-- so a point of the one that isn't in the other shows that it sticks out
pub shows_out : (envelope w : Option Window) (p : Point) → IsInBox envelope p → ¬ IsInBox w p → sticks_out envelope w ≡ true
shows_out envelope w p inside out = by (sticks_out envelope w) refl
  where
    by : (b : Bool) → sticks_out envelope w ≡ b → sticks_out envelope w ≡ true
    by true h = h
    by false h = absurd (out (stays_in envelope w h p inside))

-- what fails beyond all positions holds only in their envelope
in_envelope_by :
    (positions : List Pt) (envelope : Option Window) → IsEnvelope positions envelope → (p : Point) → ¬ IsBeyondAll positions p
    → IsInBox envelope p
in_envelope_by positions envelope is p near = elim (in_envelope_or_past positions envelope is p) [
  | inl h ↦ h
  | inr h ↦ absurd (near h)
]

-- ---- positions kept by a test
-- what holds of all kept positions holds of those of one way, where it is kept
keep_split :
    (P : Pt → Type 0) (b : Bool) (way others : List Pt) → AllByRecursion P (keep_if b way others)
    → (b ≡ true → AllByRecursion P way) × AllByRecursion P others
keep_split P true way others all = let both = all_split P way others all in (λ e. both.0, both.1)
keep_split P false way others all = (λ e. absurd (true≢false (sym e)), all)

-- ---- lines
-- a way whose positions are all equal has no edge
no_edge_after :
    (m : Point) (p : Pt) (others : List Pt) → list_all (is_same_position p) others ≡ true → is_on_edges m (edges_after p others) ≡ false
no_edge_after m p [] h = refl
no_edge_after m p (q ∷ others) h =
    let both = and_parts (is_same_position p q) (list_all (is_same_position p) others) h in
    ap (λ b. is_on_edges m (edge_before b p q (edges_after q others))) both.0
    ∙ no_edge_after m q others (subst (λ z. list_all (is_same_position z) others ≡ true) (same_position p q both.0) both.1)

-- so no point is on one
still_off : (m : Point) (line : List Pt) → is_still line ≡ true → is_on_edges m (edges_of line) ≡ false
still_off m [] h = refl
still_off m (p ∷ others) h = no_edge_after m p others h

-- beyond all positions of lines that move there is no line
lines_beyond :
    (side : Side) (m : ℤ) (p : Point) → pos 0 <ℤ distance side m p → (lines : List (List Pt))
    → AllByRecursion (IsBehind side m) (moving_positions lines) → is_on_lines p lines ≡ false
lines_beyond side m p ahead [] all = refl
lines_beyond side m p ahead (line ∷ lines) all =
    let both = keep_split (IsBehind side m) (not (is_still line)) line (moving_positions lines) all in
    or_from (is_on_edges p (edges_of line)) (is_on_lines p lines) (by_still (is_still line) refl both.0)
    (lines_beyond side m p ahead lines both.1)
  where
    by_still :
        (b : Bool) → is_still line ≡ b → (not (is_still line) ≡ true → AllByRecursion (IsBehind side m) line)
        → is_on_edges p (edges_of line) ≡ false
    by_still true h moving = still_off p line h
    by_still false h moving =
        off_all_behind side m p ahead (edges_of line) (both_of_way (IsBehind side m) line (moving (ap not h)))

-- beyond all positions of still lines there is none of them
still_beyond :
    (side : Side) (m : ℤ) (p : Point) → pos 0 <ℤ distance side m p → (lines : List (List Pt))
    → AllByRecursion (IsBehind side m) (still_positions lines) → is_at_still_line p lines ≡ false
still_beyond side m p ahead [] all = refl
still_beyond side m p ahead (line ∷ lines) all =
    let both = keep_split (IsBehind side m) (is_still line) line (still_positions lines) all in
    or_from (is_still line && is_at_some p line) (is_at_still_line p lines) (by_still (is_still line) both.0)
    (still_beyond side m p ahead lines both.1)
  where
    by_still : (b : Bool) → (b ≡ true → AllByRecursion (IsBehind side m) line) → b && is_at_some p line ≡ false
    by_still true still = none_at side m p ahead line (still refl)
    by_still false still = refl

-- ---- line ends
-- no end here: none is counted
count_none : (m : Point) (positions : List Pt) → is_at_some m positions ≡ false → count_at m positions ≡ 0
count_none m [] h = refl
count_none m (p ∷ positions) h = by (is_at m p) (is_at_some m positions) h (count_none m positions)
  where
    by :
        (b c : Bool) → b || c ≡ false → (c ≡ false → count_at m positions ≡ 0) → (if b then 1 else 0) + count_at m positions ≡ 0
    by true c e rest = absurd (true≢false e)
    by false c e rest = let zero_is = rest e in omega (arith, zero_is)

-- no ends are boundary under no rule
none_bound : (rule : Rule) → is_boundary_count rule 0 ≡ false
none_bound Mod2 = refl
none_bound Endpoint = refl
none_bound Multivalent = refl
none_bound Monovalent = refl

-- a point with a boundary count that is at an end is at one of those kept
bound_kept :
    (rule : Rule) (all : List Pt) (m : Point) → is_boundary_count rule (count_at m all) ≡ true → (ends : List Pt)
    → is_at_some m ends ≡ true → is_at_some m (boundary_ends rule all ends) ≡ true
bound_kept rule all m bound [] h = h
bound_kept rule all m bound (p ∷ ends) h =
    by (is_at m p) refl (is_boundary_count rule (count_at (point_of p) all)) refl h (bound_kept rule all m bound ends)
  where
    by :
        (b : Bool) → is_at m p ≡ b → (c : Bool) → is_boundary_count rule (count_at (point_of p) all) ≡ c
        → b || is_at_some m ends ≡ true → (is_at_some m ends ≡ true → is_at_some m (boundary_ends rule all ends) ≡ true)
        → is_at_some m (keep_if c (p ∷ []) (boundary_ends rule all ends)) ≡ true
    by true at true e k rest = or_left (is_at m p) (is_at_some m (boundary_ends rule all ends)) at
    by true at false e k rest =
        absurd (true≢false (sym bound ∙ ap (is_boundary_count rule) (count_at-same ((Decides-is_same_point m (point_of p)).0 at) all) ∙ e))
    by false at true e k rest = or_right (is_at m p) (is_at_some m (boundary_ends rule all ends)) (rest k)
    by false at false e k rest = rest k

-- a boundary count is counted at an end
pub bound_at_end :
    (rule : Rule) (ends : List Pt) (m : Point) → is_boundary_count rule (count_at m ends) ≡ true → is_at_some m ends ≡ true
bound_at_end rule ends m bound = by (is_at_some m ends) refl
  where
    by : (b : Bool) → is_at_some m ends ≡ b → is_at_some m ends ≡ true
    by true h = h
    by false h = absurd (true≢false (sym bound ∙ ap (is_boundary_count rule) (count_none m ends h) ∙ none_bound rule))

-- ---- the four envelopes of a figure
module _ (f : Figure) (shaped : IsWellShaped f) (rule : Rule) (x : Extent) (is : IsExtent f rule x) (p : Point) where
  -- what the areas cover is in the first
  pub covered_in : is_covered f p ≡ true → IsInBox x.areas p
  covered_in on = in_envelope_by (positions_of_ways (rings_of_areas f.areas)) x.areas is.areas p (λ h.
      true≢false (sym on ∙ uncovered_beyond h.side h.m p h.ahead f.areas shaped.areas h.behind))

  -- what is on a line is in the second
  pub line_in : is_on_line f p ≡ true → IsInBox x.lines p
  line_in on = in_envelope_by (moving_positions f.lines) x.lines is.lines p (λ h.
      true≢false (sym on ∙ lines_beyond h.side h.m p h.ahead f.lines h.behind))

  -- what is at a point, or at a still line, is in the third
  pub point_in : is_at_point f p ≡ true → IsInBox x.points p
  point_in on = in_envelope_by (f.points ++ still_positions f.lines) x.points is.points p (λ h.
      let both = all_split (IsBehind h.side h.m) f.points (still_positions f.lines) h.behind in
      true≢false (sym on ∙ or_from (is_at_some p f.points) (is_at_still_line p f.lines) (none_at h.side h.m p h.ahead f.points both.0)
      (still_beyond h.side h.m p h.ahead f.lines both.1)))

  -- where line ends are boundary is in the fourth
  pub end_in : is_line_boundary f rule p ≡ true → IsInBox x.ends p
  end_in on = in_envelope_by (boundary_ends rule (ends_of_lines f.lines) (ends_of_lines f.lines)) x.ends is.ends p (λ h.
      true≢false
      (sym (bound_kept rule (ends_of_lines f.lines) p on (ends_of_lines f.lines) (bound_at_end rule (ends_of_lines f.lines) p on))
      ∙ none_at h.side h.m p h.ahead (boundary_ends rule (ends_of_lines f.lines) (ends_of_lines f.lines)) h.behind))
