-- The six kinds of location exclude each other, and off the areas one of them holds.
use Rattle.std.proofs.Common.{◌≡◌, ◌⊎◌, inl, inr, Bool, true, false, [], ap, refl, sym, ◌∙◌}
use Rattle.std.proofs.lemmas.Bool.{true≢false, cases_Bool}
use Rattle.im_matrix.specs.declared.Loc.{Loc}
use Rattle.plane_laws.proofs.Segments.Mixes.{in_from_strictly_in}
use Rattle.plane_laws.specs.Plane.{Point}
use Rattle.point_set.specs.declared.dim_loc.DimLoc.{DimLoc}
use Rattle.point_set.specs.declared.dim_loc.DimLoc.TheVariants as kind
use Rattle.point_set.specs.declared.figure.Figure.{Figure}
use Rattle.point_set.specs.declared.rule.Rule.{Rule}
use Rattle.point_set.specs.Location.{is_covered, is_covered_by, IsAreaInterior, is_on_line, is_line_boundary, is_at_point, IsKind, part_of}
use Rattle.point_set.specs.Location.{IsLocation}

pub interior_is_covered : {f : Figure} {p : Point} → IsAreaInterior f p → is_covered f p ≡ true
interior_is_covered {f} {p} inside = inside.covered p (in_from_strictly_in inside.strictly)

-- ---- off the areas, by three tests: on a line, boundary by the rule, at a point
abbrev pub kind_by : Bool → Bool → Bool → DimLoc
kind_by true true at = kind.LineBoundary
kind_by true false at = kind.LineInterior
kind_by false boundary true = kind.PointInterior
kind_by false boundary false = kind.Exterior

abbrev pub uncovered_kind : Figure → Rule → Point → DimLoc
uncovered_kind f rule p = kind_by (is_on_line f p) (is_line_boundary f rule p) (is_at_point f p)

pub kind_of_uncovered : (f : Figure) (rule : Rule) (p : Point) → is_covered f p ≡ false → IsKind f rule p (uncovered_kind f rule p)
kind_of_uncovered f rule p off = by_tests (is_on_line f p) (is_line_boundary f rule p) (is_at_point f p) refl refl refl
  where
    by_tests : (on boundary at : Bool) → is_on_line f p ≡ on → is_line_boundary f rule p ≡ boundary → is_at_point f p ≡ at
        → IsKind f rule p (kind_by on boundary at)
    by_tests true true at g h i = (off, g, h)
    by_tests true false at g h i = (off, g, h)
    by_tests false boundary true g h i = (off, g, i)
    by_tests false boundary false g h i = (off, g, i)

uncovered_only : (f : Figure) (rule : Rule) (p : Point) (k : DimLoc) → is_covered f p ≡ false → IsKind f rule p k
    → k ≡ uncovered_kind f rule p
uncovered_only f rule p kind.AreaInterior off h = absurd (true≢false (sym (interior_is_covered h) ∙ off))
uncovered_only f rule p kind.AreaBoundary off h = absurd (true≢false (sym h.0 ∙ off))
uncovered_only f rule p kind.LineBoundary off h = λ i. kind_by (sym h.1 i) (sym h.2 i) (is_at_point f p)
uncovered_only f rule p kind.LineInterior off h = λ i. kind_by (sym h.1 i) (sym h.2 i) (is_at_point f p)
uncovered_only f rule p kind.PointInterior off h = λ i. kind_by (sym h.1 i) (is_line_boundary f rule p) (sym h.2 i)
uncovered_only f rule p kind.Exterior off h = λ i. kind_by (sym h.1 i) (is_line_boundary f rule p) (sym h.2 i)

-- ---- in the areas
covered_only : (f : Figure) (rule : Rule) (p : Point) (k : DimLoc) → is_covered f p ≡ true → IsKind f rule p k
    → ((k ≡ kind.AreaInterior) × IsAreaInterior f p) ⊎ ((k ≡ kind.AreaBoundary) × (¬ IsAreaInterior f p))
covered_only f rule p kind.AreaInterior on h = inl (refl, h)
covered_only f rule p kind.AreaBoundary on h = inr (refl, h.1)
covered_only f rule p kind.LineBoundary on h = absurd (true≢false (sym on ∙ h.0))
covered_only f rule p kind.LineInterior on h = absurd (true≢false (sym on ∙ h.0))
covered_only f rule p kind.PointInterior on h = absurd (true≢false (sym on ∙ h.0))
covered_only f rule p kind.Exterior on h = absurd (true≢false (sym on ∙ h.0))

-- ---- one kind, and so one part
pub one_kind : (f : Figure) (rule : Rule) (p : Point) (k l : DimLoc) → IsKind f rule p k → IsKind f rule p l → k ≡ l
one_kind f rule p k l hk hl = by_cover (cases_Bool (is_covered f p))
  where
    both : ((k ≡ kind.AreaInterior) × IsAreaInterior f p) ⊎ ((k ≡ kind.AreaBoundary) × (¬ IsAreaInterior f p))
        → ((l ≡ kind.AreaInterior) × IsAreaInterior f p) ⊎ ((l ≡ kind.AreaBoundary) × (¬ IsAreaInterior f p)) → k ≡ l
    both (inl g) (inl h) = g.0 ∙ sym h.0
    both (inl g) (inr h) = absurd (h.1 g.1)
    both (inr g) (inl h) = absurd (g.1 h.1)
    both (inr g) (inr h) = g.0 ∙ sym h.0

    by_cover : (is_covered f p ≡ true) ⊎ (is_covered f p ≡ false) → k ≡ l
    by_cover (inl on) = both (covered_only f rule p k on hk) (covered_only f rule p l on hl)
    by_cover (inr off) = uncovered_only f rule p k off hk ∙ sym (uncovered_only f rule p l off hl)

pub one_part : {f : Figure} {rule : Rule} {p : Point} {a b : Loc} → IsLocation f rule p a → IsLocation f rule p b → a ≡ b
one_part {f} {rule} {p} g h =
    sym g.gives ∙ ap part_of (one_kind f rule p g.decided_by h.decided_by g.decides h.decides) ∙ h.gives

-- ---- a figure without areas
pub uncovered_without_areas : (f : Figure) (p : Point) → f.areas ≡ [] → is_covered f p ≡ false
uncovered_without_areas f p e = ap (is_covered_by p) e

pub one_of_four : (f : Figure) (rule : Rule) (p : Point) → is_covered f p ≡ false → IsKind f rule p kind.LineInterior
    ⊎ (IsKind f rule p kind.LineBoundary ⊎ (IsKind f rule p kind.PointInterior ⊎ IsKind f rule p kind.Exterior))
one_of_four f rule p off = by_tests (is_on_line f p) (is_line_boundary f rule p) (is_at_point f p) (kind_of_uncovered f rule p off)
  where
    by_tests : (on boundary at : Bool) → IsKind f rule p (kind_by on boundary at) → IsKind f rule p kind.LineInterior
        ⊎ (IsKind f rule p kind.LineBoundary ⊎ (IsKind f rule p kind.PointInterior ⊎ IsKind f rule p kind.Exterior))
    by_tests true true at h = inr (inl h)
    by_tests true false at h = inl h
    by_tests false boundary true h = inr (inr (inl h))
    by_tests false boundary false h = inr (inr (inr h))
