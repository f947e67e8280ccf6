-- Lines and their ends, and the four boundary node rules. The rule mod2 is that of OGC 06-103r4, 6.1.8.
use Rattle.std.specs.Prelude.{ℕ, ◌+◌, ◌%◌, Bool, true, ◌&&◌, List, [], ◌∷◌, ◌++◌, ◌==◌, nat_le, if◌then◌else◌}
use Rattle.std.specs.List.{list_any, list_all}
use Rattle.plane_laws.specs.Plane.{Point, is_same_point}
use Rattle.plane_exact.specs.Places.{point_of}
use Rattle.plane_exact.specs.declared.point.Pt.{Pt}
use Rattle.point_set.specs.declared.rule.Rule.{Rule}
use Rattle.point_set.specs.declared.rule.Rule.TheVariants.{Mod2, Endpoint, Multivalent, Monovalent}
use Rattle.point_set.specs.Rings.{is_same_position, edges_of, is_on_edges}

-- The last of p and the positions after it.
abbrev pub last_after : Pt → List Pt → Pt
last_after p [] = p
last_after p (q ∷ others) = last_after q others

-- Whether all positions of a way are equal.
abbrev pub is_still : List Pt → Bool
is_still [] = true
is_still (p ∷ others) = list_all (is_same_position p) others

-- The two ends of a line, its first and its last position; a line whose positions are all equal has none.
abbrev pub ends_of : List Pt → List Pt
ends_of [] = []
ends_of (p ∷ others) = if is_still (p ∷ others) then [] else p ∷ last_after p others ∷ []

-- The ends of all lines; a closed line gives its start twice.
abbrev pub ends_of_lines : List (List Pt) → List Pt
ends_of_lines [] = []
ends_of_lines (line ∷ lines) = ends_of line ++ ends_of_lines lines

-- Whether a point is at a position.
abbrev pub is_at : Point → Pt → Bool
is_at p q = is_same_point p (point_of q)

-- How many of the positions a point is at.
abbrev pub count_at : Point → List Pt → ℕ
count_at p [] = 0
count_at p (q ∷ others) = (if is_at p q then 1 else 0) + count_at p others

-- Whether a point with n line ends is boundary under a rule.
abbrev pub is_boundary_count : Rule → ℕ → Bool
is_boundary_count Mod2 n = n % 2 == 1
is_boundary_count Endpoint n = nat_le 1 n
is_boundary_count Multivalent n = nat_le 2 n
is_boundary_count Monovalent n = n == 1

-- Whether a point is on an edge of one of the lines.
abbrev pub is_on_lines : Point → List (List Pt) → Bool
is_on_lines p lines = list_any (λ line. is_on_edges p (edges_of line)) lines

-- Whether a point is at one of the positions.
abbrev pub is_at_some : Point → List Pt → Bool
is_at_some p positions = list_any (is_at p) positions

-- Whether a point is at the position of a line whose positions are all equal.
abbrev pub is_at_still_line : Point → List (List Pt) → Bool
is_at_still_line p lines = list_any (λ line. is_still line && is_at_some p line) lines
