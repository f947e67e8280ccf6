-- A walk along a way of rays passes the sections of areas that run along them. Between two passes of an area it stays inside this
-- area, or outside.
use Rattle.std.specs.Prelude.{◌≡◌, ◌↔◌, ℕ, ◌+◌, ◌*◌, ◌<◌, ◌≤◌, false, IsTrue, List, [], ◌∷◌, ◌++◌, length, slice_index, slice_index_or}
use Rattle.std.specs.List.{All, Any, Contains}
use Rattle.im_matrix.specs.declared.Which.{Which}
use Rattle.plane_exact.specs.declared.dir.Dir.{Dir}
use Rattle.point_set.specs.declared.edge.Hand.TheVariants as hand
use Rattle.point_set.specs.Validity.{IsAtPlace}
use Rattle.fan_order.specs.declared.pass.Pass.{Pass}
use Rattle.fan_order.specs.declared.section.Section.{Section}
use Rattle.fan_order.specs.declared.walk.Walk.{Walk}
use Rattle.fan_order.specs.Sections.{IsAreaAlong, IsLineAlong, IsSectorInside, AreHandsAlike, AreSided}

-- The way of a walk twice round the rays.
abbrev pub twice : List Dir → List Dir
twice rays = rays ++ rays

-- A pass is that of a section of an area of the figure, along the ray at the pass's place of the way. It enters the area where the
-- area lies on the section's left.
pub record IsPassOf (which : Which) (way : List Dir) (s : Section) (pass : Pass) : Type 0 where
  pub ray : Dir
  pub ray_is : IsAtPlace way pass.place ray
  pub along : IsAreaAlong which pass.area ray s
  pub enters : IsTrue pass.enters ↔ (s.hand ≡ hand.Left)

-- Some pass is of the area at the place.
pub record IsPassedAt (passes : List Pass) (area place : ℕ) : Type 0 where
  pub pass : Pass
  pub there : Contains passes pass
  pub area_is : pass.area ≡ area
  pub place_is : pass.place ≡ place

-- The passes of the sections of a figure's areas along a way.
pub record ArePasses (which : Which) (way : List Dir) (sections : List Section) (passes : List Pass) : Type 0 where
  pub only : All (λ pass. Any (λ s. IsPassOf which way s pass) sections) passes
  pub whole :
      (s : Section) → Contains sections s → (place : ℕ) (ray : Dir) → IsAtPlace way place ray → (area : ℕ)
      → IsAreaAlong which area ray s → IsPassedAt passes area place

-- A list has grown by the passes of a section, of which there are at most two.
pub record AddsPasses (which : Which) (way : List Dir) (s : Section) (old new : List Pass) : Type 0 where
  pub more : List Pass
  pub are : ArePasses which way (s ∷ []) more
  pub few : length more ≤ 2
  pub new_is : new ≡ old ++ more

-- Up to where nothing changes after the pass at place i of a list: to the place of the next in the list where that is of the same
-- area, else to the end of the way.
pub record IsUntil (passes : List Pass) (end i until : ℕ) : Type 0 where
  pub next :
      (pass next : Pass) → IsAtPlace passes i pass → IsAtPlace passes (i + 1) next → next.area ≡ pass.area → until ≡ next.place
  pub last :
      (pass : Pass) → IsAtPlace passes i pass
      → ((next : Pass) → IsAtPlace passes (i + 1) next → ¬ (next.area ≡ pass.area)) → until ≡ end

-- The pass at place i of a list enters its area at a place of the way, and nothing changes up to beyond another place.
pub record IsOpened (passes : List Pass) (end i place beyond : ℕ) : Type 0 where
  pub pass : Pass
  pub pass_is : IsAtPlace passes i pass
  pub enters : IsTrue pass.enters
  pub place_is : pass.place ≡ place
  pub until : ℕ
  pub until_is : IsUntil passes end i until
  pub far : beyond < until

-- After a place of the way the walk is inside some area: it was entered there or before, and nothing changed since.
pub record IsOpenAt (passes : List Pass) (end place : ℕ) : Type 0 where
  pub i : ℕ
  pub start : ℕ
  pub before : start ≤ place
  pub opened : IsOpened passes end i start place

-- For each place of a way how far some area that is entered there stays open.
abbrev pub AreReaches : List Pass → List ℕ → Type 0
AreReaches passes reach =
    (place beyond : ℕ) → place < length reach
    → (beyond < slice_index reach place ↔ ((i : ℕ) × IsOpened passes (length reach) i place beyond))

-- Some place, or one before it, reaches beyond it.
pub record IsReachedOver (reach : List ℕ) (place : ℕ) : Type 0 where
  pub start : ℕ
  pub before : start ≤ place
  pub far : place < slice_index reach start

-- What a walk twice round the rays finds of a figure: on the second turn it is inside an area exactly in the sectors that are inside
-- one by the hands, and it finds the lines along the rays.
pub record IsRound (which : Which) (sections : List Section) (rays : List Dir) (walk : Walk) : Type 0 where
  pub turns : length walk.inside.items ≡ 2 * length rays
  pub inside :
      AreHandsAlike which sections → AreSided which sections → (i : ℕ) → i < length rays
      → (IsTrue (slice_index_or walk.inside.items (length rays + i) false) ↔ IsSectorInside which sections rays i)
  pub rays_all : length walk.lines.items ≡ length rays
  pub lines :
      (i : ℕ) (ray : Dir) → IsAtPlace rays i ray → (IsTrue (slice_index_or walk.lines.items i false) ↔ IsLineAlong which sections ray)
