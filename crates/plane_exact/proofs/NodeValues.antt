-- Nodes as values: a node is its three numbers, and reduced numbers of one point are the same.
use Rattle.std.proofs.Common.{◌≡◌, ℤ, pos, ap, subst}
use lib.Dec.{T_prop}
use native.Mathlib.Nat.{ℕ_set}
use Rattle.std.proofs.Math.Nat.{dvd-one}
use Rattle.whole_algebra.proofs.Divisors.{Reduced, reduced_same}
use Rattle.plane_exact.specs.Nodes.{IsFraction, IsReduced}
use Rattle.plane_laws.proofs.Points.Numbers.{same_numbers}
use Rattle.plane_exact.specs.NodePoints.{point_at}
use Rattle.plane_exact.specs.Places.{point_of}
use Rattle.plane_exact.specs.declared.point.Pt.{Pt}
use Rattle.plane_laws.specs.Plane.{IsSamePoint}
use Rattle.plane_exact.specs.declared.node.Node.{Node}

-- what a node says of its three numbers
record Bounds (x y w : ℤ) : Type 0 where
  across : IsFraction x w
  above : IsFraction y w
  reduced : IsReduced x y w

abbrev with_bounds : (x y w : ℤ) → Bounds x y w → Node
with_bounds x y w h = record { x = x; y = y; w = w; across = h.across; above = h.above; reduced = h.reduced }

abbrev bounds_of : (n : Node) → Bounds n.x n.y n.w
bounds_of n = record { across = n.across; above = n.above; reduced = n.reduced }

Bounds-prop : (x y w : ℤ) → IsProp (Bounds x y w)
Bounds-prop x y w = hlevel (T_prop, ℕ_set)

same_node : (m n : Node) → m.x ≡ n.x → m.y ≡ n.y → m.w ≡ n.w → m ≡ n
same_node m n ex ey ew =
    subst (λ (w : ℤ). (h : Bounds n.x n.y w) → m ≡ with_bounds n.x n.y w h) ew
    (subst (λ (x : ℤ). (h : Bounds x n.y m.w) → m ≡ with_bounds x n.y m.w h) ex
    (subst (λ (y : ℤ). (h : Bounds m.x y m.w) → m ≡ with_bounds m.x y m.w h) ey
    (λ h. ap (with_bounds m.x m.y m.w) (Bounds-prop m.x m.y m.w (bounds_of m) h))))
    (bounds_of n)

reduced_of : (n : Node) → Reduced n.x n.y n.w
reduced_of n d p q r = dvd-one.1 (n.reduced.only d p q r)

pub one_node : (m n : Node) → IsSamePoint (point_at m) (point_at n) → m ≡ n
one_node m n s =
    let e = reduced_same m.x m.y m.w n.x n.y n.w (reduced_of m) (reduced_of n) m.across.heavy n.across.heavy s.across s.above in
    same_node m n e.0 e.1 e.2

-- a node that is the same point as a position is that position
pub node_at_position : (n : Node) (p : Pt) → IsSamePoint (point_at n) (point_of p) → point_at n ≡ point_of p
node_at_position n p same =
    let whole : Reduced p.x p.y (pos 1) = λ d x y w. w in
    let e = reduced_same n.x n.y n.w p.x p.y (pos 1) (reduced_of n) whole n.across.heavy (point_of p).heavy same.across same.above in
    same_numbers (point_at n) (point_of p) e.0 e.1 e.2
