-- The positions of ways and of lines that a test keeps, and the ends of lines that are boundary, one after the other.
use Rattle.std.proofs.Common.{◌≡◌, ℕ, Option, Some, Bool, true, false, List, [], ◌∷◌, ◌++◌, cond, refl, sym, ap, ◌∙◌, subst}
use Rattle.std.proofs.lemmas.List.{append-nil, append_assoc}
use Rattle.std.proofs.lemmas.List.Elements.{All-head, All-tail}
use Rattle.plane_exact.specs.Places.{point_of, IsInLimit}
use Rattle.plane_exact.specs.declared.point.Pt.{Pt}
use Rattle.plane_exact.specs.declared.window.Window.{Window}
use Rattle.point_set.specs.declared.figure.Area.{Area}
use Rattle.point_set.specs.declared.figure.Figure.{Figure}
use Rattle.point_set.specs.declared.rule.Rule.{Rule}
use Rattle.point_set.specs.Extents.{IsEnvelope, keep_if, boundary_ends}
use Rattle.point_set.specs.Lines.{count_at, ends_of, ends_of_lines, is_boundary_count, is_still, last_after}
use Rattle.point_set.specs.Nodes.{positions_of_ways, rings_of_areas}
use Rattle.point_set.specs.Shape.{IsWayInLimit}

-- ---- positions
-- those of some ways and then of others
pub ways_append : (ways others : List (List Pt)) → positions_of_ways (ways ++ others) ≡ positions_of_ways ways ++ positions_of_ways others
ways_append [] others = refl
ways_append (way ∷ ways) others =
    ap (λ (xs : List Pt). way ++ xs) (ways_append ways others) ∙ sym (append_assoc way (positions_of_ways ways) (positions_of_ways others))

-- those of the rings of areas
abbrev pub positions_of_areas : List Area → List Pt
positions_of_areas areas = positions_of_ways (rings_of_areas areas)

-- what is kept stands in front
pub keep_if_append : (b : Bool) (way others more : List Pt) → keep_if b way (others ++ more) ≡ keep_if b way others ++ more
keep_if_append true way others more = sym (append_assoc way others more)
keep_if_append false way others more = refl

-- so does a whole way that is kept
pub kept_in_front : (b : Bool) (way others : List Pt) → keep_if b way others ≡ keep_if b way [] ++ others
kept_in_front b way others = keep_if_append b way [] others

-- with a way that is kept
pub kept : (b : Bool) (way : List Pt) (old new : Option Window) → b ≡ true
    → ((xs : List Pt) → IsEnvelope xs old → IsEnvelope (xs ++ way) new) → (xs : List Pt) → IsEnvelope xs old
    → IsEnvelope (xs ++ keep_if b way []) new
kept b way old new keeps more xs h =
    subst (λ (ys : List Pt). IsEnvelope (xs ++ ys) new) (sym (ap (λ (c : Bool). keep_if c way []) keeps ∙ append-nil way)) (more xs h)

-- with a way that is left out
pub left_out : (b : Bool) (way : List Pt) (old new : Option Window) → b ≡ false → new ≡ old → (xs : List Pt) → IsEnvelope xs old
    → IsEnvelope (xs ++ keep_if b way []) new
left_out b way old new leaves same xs h =
    subst (λ (ys : List Pt). IsEnvelope ys new) (sym (ap (λ (c : Bool). xs ++ keep_if c way []) leaves ∙ append-nil xs))
    (subst (λ (e : Option Window). IsEnvelope xs e) (sym same) h)

-- ---- line ends
-- the ends of some lines of a figure that are boundary under a rule
abbrev pub boundary_ends_of : Rule → Figure → List (List Pt) → List Pt
boundary_ends_of rule f lines = boundary_ends rule (ends_of_lines f.lines) (ends_of_lines lines)

-- boundary ends of some ends and then of others
pub ends_append : (rule : Rule) (all ends others : List Pt)
    → boundary_ends rule all (ends ++ others) ≡ boundary_ends rule all ends ++ boundary_ends rule all others
ends_append rule all [] others = refl
ends_append rule all (p ∷ ends) others =
    let b : Bool = is_boundary_count rule (count_at (point_of p) all) in
    ap (λ (xs : List Pt). keep_if b (p ∷ []) xs) (ends_append rule all ends others)
    ∙ keep_if_append b (p ∷ []) (boundary_ends rule all ends) (boundary_ends rule all others)

-- with a line end more, where it is boundary
pub one_end :
    (rule : Rule) (all : List Pt) (p : Pt) (count : ℕ) (more : Bool) (here : Window) (old new : Option Window)
    → count ≡ count_at (point_of p) all → more ≡ is_boundary_count rule count
    → ((xs ys : List Pt) → IsEnvelope xs old → IsEnvelope ys (Some here) → IsEnvelope (xs ++ keep_if more ys []) new)
    → IsEnvelope (p ∷ []) (Some here) → (xs : List Pt) → IsEnvelope xs old → IsEnvelope (xs ++ boundary_ends rule all (p ∷ [])) new
one_end rule all p count more here old new counted tested joined own xs h =
    subst (λ (b : Bool). IsEnvelope (xs ++ keep_if b (p ∷ []) []) new) (tested ∙ ap (is_boundary_count rule) counted)
    (joined xs (p ∷ []) h own)

-- the ends of a line within the limit are within it
pub ends_in_limit : (line : List Pt) (first last : Pt) → IsWayInLimit line → ends_of line ≡ first ∷ last ∷ []
    → IsInLimit first × IsInLimit last
ends_in_limit [] first last all e = cc
ends_in_limit (p ∷ others) first last all e = by_test (is_still (p ∷ others)) e
  where
    last_in : (q : Pt) (rest : List Pt) → IsInLimit q → IsWayInLimit rest → IsInLimit (last_after q rest)
    last_in q [] here h = here
    last_in q (r ∷ rest) here h = last_in r rest (All-head IsInLimit r rest h) (All-tail IsInLimit r rest h)

    by_test : (b : Bool) → cond b [] (p ∷ last_after p others ∷ []) ≡ first ∷ last ∷ [] → IsInLimit first × IsInLimit last
    by_test true h = cc
    by_test false h =
        let start : p ≡ first = cc in
        let end : last_after p others ≡ last = cc in
        let here = All-head IsInLimit p others all in
        (subst IsInLimit start here, subst IsInLimit end (last_in p others here (All-tail IsInLimit p others all)))
