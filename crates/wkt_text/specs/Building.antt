-- What the reader's roles build, token by token. Nothing that the crate promises is said by these words: see Rules and Faults.
use Rattle.std.specs.Prelude.{◌≡◌, ℕ, ◌+◌, ◌-◌, ◌≤◌, ℤ, Bool, true, false, IsTrue, nat_lt, if◌then◌else◌, Option, Some, None, Result, Ok}
use Rattle.std.specs.Prelude.{Err, IsOk, List, [], ◌∷◌, ◌++◌, length, slice_get}
use Rattle.plane_exact.specs.declared.point.Pt.{Pt}
use Rattle.point_set.specs.declared.figure.Area.{Area}
use Rattle.point_set.specs.declared.figure.Figure.{Figure}
use Rattle.wkt_text.specs.declared.build.Build.{Build}
use Rattle.wkt_text.specs.declared.build.Stop.{Stop}
use Rattle.wkt_text.specs.declared.build.Stop.TheVariants as stop
use Rattle.wkt_text.specs.declared.number.Numeral.{Numeral}
use Rattle.wkt_text.specs.declared.number.Numeral.TheVariants.{Long, Malformed, Fraction, Wide, Whole}
use Rattle.wkt_text.specs.declared.token.Token.{Token}
use Rattle.wkt_text.specs.declared.token.Token.TheVariants as token
use Rattle.wkt_text.specs.declared.state.Role.{Role}
use Rattle.wkt_text.specs.declared.state.Role.TheVariants as role
use Rattle.wkt_text.specs.declared.control.WktKind.{WktKind}
use Rattle.wkt_text.specs.declared.control.WktKind.TheVariants.{Syntax, NotWhole, TooWide, LongNumber, Deep, TooMany}
use Rattle.plane_exact.specs.Limits.{most_positions}
use Rattle.wkt_text.specs.Rules.{drop_fault, line_fault, ring_fault}

-- A step with a value, or its fault.
infixl 10 ◌>>=◌
abbrev pub ◌>>=◌ : {A B : Type 0} → Result A WktKind → (A → Result B WktKind) → Result B WktKind
(Ok x) >>= f = f x
(Err e) >>= f = Err e

-- The value of a number in the place of x or y, or its fault.
abbrev pub numeral_value : Numeral → Result ℤ WktKind
numeral_value Long = Err LongNumber
numeral_value Malformed = Err Syntax
numeral_value Fraction = Err NotWhole
numeral_value Wide = Err TooWide
numeral_value (Whole z) = Ok z

abbrev pub place_value : Token → Result ℤ WktKind
place_value (token.Number n) = numeral_value n
place_value other = Err Syntax

-- This is built, unless there is a fault.
abbrev pub unless : Option WktKind → Build → Result Build WktKind
unless (Some k) b = Err k
unless None b = Ok b

-- Before any token.
abbrev pub empty_figure : Figure
empty_figure = record { points = []; lines = []; areas = [] }

abbrev pub start_build : Build
start_build = record { figure = empty_figure; way = []; shell = None; holes = []; x = None; count = 0; group = 0 }

-- A figure with other points, lines or areas.
abbrev pub with_points : Figure → List Pt → Figure
with_points f points = record { points = points; lines = f.lines; areas = f.areas }

abbrev pub with_lines : Figure → List (List Pt) → Figure
with_lines f lines = record { points = f.points; lines = lines; areas = f.areas }

abbrev pub with_areas : Figure → List Area → Figure
with_areas f areas = record { points = f.points; lines = f.lines; areas = areas }

-- The number of a group that begins after these areas: one more than that of the last area, or 0 where there is none. A group
-- without an area takes no number.
abbrev pub group_after : Option Area → ℕ
group_after None = 0
group_after (Some area) = area.group + 1

abbrev pub next_group : List Area → ℕ
next_group areas = group_after (slice_get areas (length areas - 1))

-- The areas to come have a group of their own.
abbrev pub with_group : Build → Build
with_group b = record b { group = next_group b.figure.areas }

-- A first ordinate begins a position. The position 1,048,577 is one too many.
abbrev pub with_x : Build → ℤ → Build
with_x b z = record b { x = Some z; count = b.count + 1 }

abbrev pub act_x : Build → Token → Result Build WktKind
act_x b t = if nat_lt b.count most_positions then (place_value t >>= λ z. Ok (with_x b z)) else Err TooMany

-- A second ordinate ends a position, of a loose point or of a line or ring.
abbrev pub with_point : Build → Option ℤ → ℤ → Build
with_point b None z = b
with_point b (Some x) z =
    record b { figure = with_points b.figure (b.figure.points ++ (record { x = x; y = z }) ∷ []); x = None }

abbrev pub act_point : Build → Token → Result Build WktKind
act_point b t = place_value t >>= λ z. Ok (with_point b b.x z)

abbrev pub with_position : Build → Option ℤ → ℤ → Build
with_position b None z = b
with_position b (Some x) z = record b { way = b.way ++ (record { x = x; y = z }) ∷ []; x = None }

abbrev pub act_way : Build → Token → Result Build WktKind
act_way b t = place_value t >>= λ z. Ok (with_position b b.x z)

-- A line ends.
abbrev pub with_line : Build → Build
with_line b = record b { figure = with_lines b.figure (b.figure.lines ++ b.way ∷ []); way = [] }

abbrev pub end_line : Build → Result Build WktKind
end_line b = unless (line_fault b.way) (with_line b)

-- A ring ends: a shell or a hole.
abbrev pub with_shell : Build → Build
with_shell b = record b { way = []; shell = Some b.way }

abbrev pub end_shell : Build → Result Build WktKind
end_shell b = unless (ring_fault b.way) (with_shell b)

abbrev pub with_hole : Build → Build
with_hole b = record b { way = []; holes = b.holes ++ b.way ∷ [] }

abbrev pub end_hole : Build → Result Build WktKind
end_hole b = unless (ring_fault b.way) (with_hole b)

-- A polygon with a shell ends.
abbrev pub with_area : Build → Option (List Pt) → Build
with_area b None = b
with_area b (Some shell) = record b {
  figure = with_areas b.figure (b.figure.areas ++ (record { shell = shell; holes = b.holes; group = b.group }) ∷ []);
  shell = None;
  holes = [];
}

-- What a token does that is there for this, or the rule that it breaks.
abbrev pub act_by : Build → Role → Token → Result Build WktKind
act_by b role.Head t = Ok b
act_by b role.Deep t = Err Deep
act_by b role.Mark t = Ok b
act_by b role.Group t = Ok (with_group b)
act_by b role.X t = act_x b t
act_by b role.PointY t = act_point b t
act_by b role.WayY t = act_way b t
act_by b role.Demanded t = unless (drop_fault t) b
act_by b role.Further t = unless (drop_fault t) b
act_by b role.EndLine t = end_line b
act_by b role.EndShell t = end_shell b
act_by b role.EndHole t = end_hole b
act_by b role.EndArea t = Ok (with_area b b.shell)

unfoldable pub act : Build → Role → Token → Result Build WktKind
act b r t = act_by b r t

-- Whether a token that is there for this takes memory: it adds a position, a line, a hole or an area to a list.
abbrev pub takes_memory : Role → Bool
takes_memory role.PointY = true
takes_memory role.WayY = true
takes_memory role.EndLine = true
takes_memory role.EndHole = true
takes_memory role.EndArea = true
takes_memory other = false

-- A stop is the fault that this gives. Memory is wanting only where this gives none.
abbrev pub StopsAt : Stop → Result Build WktKind → Type 0
StopsAt (stop.Fault k) r = r ≡ Err k
StopsAt stop.NoMemory r = IsOk r

-- Memory is wanting only for a token that takes memory.
abbrev pub IsWantFor : Stop → Role → Type 0
IsWantFor (stop.Fault k) r = Unit {0}
IsWantFor stop.NoMemory r = IsTrue (takes_memory r)

-- How many positions are begun and not ended, and how many shells are whole and in no area yet.
abbrev pub begun : Option ℤ → ℕ
begun None = 0
begun (Some z) = 1

abbrev pub shells : Option (List Pt) → ℕ
shells None = 0
shells (Some way) = 1

-- There are no more groups than areas, no more areas than positions, and no more positions than there may be.
pub record IsCounted (b : Build) : Type 0 where
  pub group : b.group ≤ length b.figure.areas
  pub next : next_group b.figure.areas ≤ length b.figure.areas
  pub areas : ((length b.figure.areas + shells b.shell) + length b.way) + begun b.x ≤ b.count
  pub most : b.count ≤ most_positions
