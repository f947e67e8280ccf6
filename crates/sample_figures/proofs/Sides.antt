-- When level and upright edges meet, and when edges lie on two sides of a line.
use Rattle.std.proofs.Common.{◌≡◌, ◌≤◌, ℕ, ℤ, pos, ◌*ℤ◌, ◌≤ℤ◌, ◌<ℤ◌, List, [], ◌∷◌, refl, sym, subst, ◌∙◌, arith}
use Rattle.std.specs.Int.{int_max, int_min}
use Rattle.std.specs.List.{AllByRecursion}
use Rattle.std.proofs.lemmas.Int.{ints, clamps}
use Rattle.whole_algebra.proofs.Laws.{*ℤ_one}
use Rattle.whole_algebra.proofs.Signs.{≤ℤ_antisymm}
use Rattle.plane_laws.specs.Plane.{Point}
use Rattle.plane_exact.specs.Windows.{IsInWindow, HasCommonPoint}
use Rattle.plane_exact.proofs.Laws.{least_of_ends, low_at_most_high}
use Rattle.plane_exact.specs.declared.point.Pt.{Pt}
use Rattle.plane_exact.specs.declared.point.Seg.{Seg}
use Rattle.plane_exact.specs.declared.window.Window.{Window}
use Rattle.point_set.specs.Validity.{IsOnEdge}
use Rattle.sample_figures.proofs.Joints.{IsOff, MeetAt}

-- The least box of an edge.
abbrev box_of : Seg → Window
box_of e = record { low_x = int_min e.a.x e.b.x; low_y = int_min e.a.y e.b.y; high_x = int_max e.a.x e.b.x; high_y = int_max e.a.y e.b.y }

-- an edge lies in its box
in_box : (e : Seg) (p : Point) → IsOnEdge e p → IsInWindow (box_of e) p
in_box e = (least_of_ends (box_of e) e.a e.b refl refl refl refl).holds

-- a coordinate of a point of an edge whose ends have it in common
common_coordinate : (x a b px w : ℤ) → a ≡ x → b ≡ x → (int_min a b *ℤ w) ≤ℤ px → px ≤ℤ (int_max a b *ℤ w) → x *ℤ w ≡ px *ℤ pos 1
common_coordinate x a b px w from to low high =
    let least : int_min a b ≡ x = omega (arith, ints, clamps, from, to) in
    let most : int_max a b ≡ x = omega (arith, ints, clamps, from, to) in
    ≤ℤ_antisymm (subst (λ (m : ℤ). (m *ℤ w) ≤ℤ px) least low) (subst (λ (m : ℤ). px ≤ℤ (m *ℤ w)) most high) ∙ sym (*ℤ_one px)

-- an edge whose ends have one abscissa has it at all its points
on_upright : (x : ℤ) (e : Seg) → e.a.x ≡ x → e.b.x ≡ x → (p : Point) → IsOnEdge e p → x *ℤ p.w ≡ p.x *ℤ pos 1
on_upright x e from to p on =
    let box = in_box e p on in
    common_coordinate x e.a.x e.b.x p.x p.w from to box.left box.right

-- an edge whose ends have one height has it at all its points
on_level : (y : ℤ) (e : Seg) → e.a.y ≡ y → e.b.y ≡ y → (p : Point) → IsOnEdge e p → y *ℤ p.w ≡ p.y *ℤ pos 1
on_level y e from to p on =
    let box = in_box e p on in
    common_coordinate y e.a.y e.b.y p.y p.w from to box.bottom box.top

-- a level and an upright edge meet in one point at the most
pub level_upright : (q : Pt) (e f : Seg) → e.a.y ≡ q.y → e.b.y ≡ q.y → f.a.x ≡ q.x → f.b.x ≡ q.x → MeetAt q e f
level_upright q e f from to from' to' p on_e on_f =
    record { across = on_upright q.x f from' to' p on_f; above = on_level q.y e from to p on_e }

-- the same in the other order
pub upright_level : (q : Pt) (e f : Seg) → e.a.x ≡ q.x → e.b.x ≡ q.x → f.a.y ≡ q.y → f.b.y ≡ q.y → MeetAt q e f
upright_level q e f from to from' to' p on_e on_f = level_upright q f e from' to' from to p on_f on_e

-- Both ends of an edge are at most as far right as m.
abbrev pub IsLeftOf : ℕ → Seg → Type 0
IsLeftOf m e = int_max e.a.x e.b.x ≤ℤ pos m

-- Both ends are farther right than m.
abbrev pub IsRightOf : ℕ → Seg → Type 0
IsRightOf m e = pos m <ℤ int_min e.a.x e.b.x

-- Both ends are at most as high as m.
abbrev pub IsBelow : ℕ → Seg → Type 0
IsBelow m e = int_max e.a.y e.b.y ≤ℤ pos m

-- Both ends are higher than m.
abbrev pub IsAbove : ℕ → Seg → Type 0
IsAbove m e = pos m <ℤ int_min e.a.y e.b.y

-- a common point of two edges is in both boxes
both_in_boxes : (e f : Seg) (p : Point) → IsOnEdge e p → IsOnEdge f p → HasCommonPoint (box_of e) (box_of f)
both_in_boxes e f p on_e on_f = record { point = p; here = in_box e p on_e; there = in_box f p on_f }

-- edges on two sides of an upright line have no common point
pub off_left : (m : ℕ) (e f : Seg) → IsRightOf m e → IsLeftOf m f → IsOff e f
off_left m e f right left p on_e on_f =
    let order = (low_at_most_high (box_of e) (box_of f) (both_in_boxes e f p on_e on_f)).0 in
    omega (arith, ints, clamps, right, left, order)

-- nor have edges on two sides of a level line
pub off_up : (m : ℕ) (e f : Seg) → IsBelow m e → IsAbove m f → IsOff e f
off_up m e f below above p on_e on_f =
    let order = (low_at_most_high (box_of e) (box_of f) (both_in_boxes e f p on_e on_f)).1 in
    omega (arith, ints, clamps, below, above, order)

-- the higher one first
pub off_down : (m : ℕ) (e f : Seg) → IsAbove m e → IsBelow m f → IsOff e f
off_down m e f above below p on_e on_f = off_up m f e below above p on_f on_e

-- an edge is off all edges left of it
pub all_off_left : (m : ℕ) (e : Seg) (fs : List Seg) → IsRightOf m e → AllByRecursion (IsLeftOf m) fs → AllByRecursion (IsOff e) fs
all_off_left m e [] right left = tt
all_off_left m e (f ∷ fs) right left = (off_left m e f right left.0, all_off_left m e fs right left.1)

-- what is left of an abscissa is left of a greater one
pub all_left_of : (m n : ℕ) (fs : List Seg) → m ≤ n → AllByRecursion (IsLeftOf m) fs → AllByRecursion (IsLeftOf n) fs
all_left_of m n [] order left = tt
all_left_of m n (f ∷ fs) order left = (omega (arith, ints, order, left.0), all_left_of m n fs order left.1)
