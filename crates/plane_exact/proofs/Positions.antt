-- Turns and distances of positions, as the code works them out.
use Rattle.std.proofs.Common.{◌≡◌, ◌-ℤ◌, ◌*ℤ◌, pos, [], ◌∷◌, refl}
use Rattle.whole_algebra.proofs.Polynomials.{var, num, ◌⊖◌, ◌⊗◌, identity}
use Rattle.plane_laws.specs.Plane.{Point, turn, shift, rise}
use Rattle.plane_exact.specs.Places.{point_of}
use Rattle.plane_exact.specs.declared.point.Pt.{Pt}
use Rattle.plane_laws.proofs.Turns.Turns.{turn_p}

-- three positions: the cross product of two ways
pub turn-positions :
    (a b c : Pt) → (b.x -ℤ a.x) *ℤ (c.y -ℤ a.y) -ℤ (b.y -ℤ a.y) *ℤ (c.x -ℤ a.x) ≡ turn (point_of a) (point_of b) (point_of c)
unfolding turn
turn-positions a b c =
    identity (((var 2 ⊖ var 0) ⊗ (var 5 ⊖ var 1)) ⊖ ((var 3 ⊖ var 1) ⊗ (var 4 ⊖ var 0)))
    (turn_p (var 0) (var 1) (num (pos 1)) (var 2) (var 3) (num (pos 1)) (var 4) (var 5) (num (pos 1)))
    (a.x ∷ a.y ∷ b.x ∷ b.y ∷ c.x ∷ c.y ∷ []) refl

-- two positions and any point: the point's numbers, less its weight times the first position
pub turn-point :
    (a b : Pt) (p : Point) → (b.x -ℤ a.x) *ℤ (p.y -ℤ a.y *ℤ p.w) -ℤ (b.y -ℤ a.y) *ℤ (p.x -ℤ a.x *ℤ p.w) ≡ turn (point_of a) (point_of b) p
unfolding turn
turn-point a b p =
    identity (((var 2 ⊖ var 0) ⊗ (var 5 ⊖ var 1 ⊗ var 6)) ⊖ ((var 3 ⊖ var 1) ⊗ (var 4 ⊖ var 0 ⊗ var 6)))
    (turn_p (var 0) (var 1) (num (pos 1)) (var 2) (var 3) (num (pos 1)) (var 4) (var 5) (var 6))
    (a.x ∷ a.y ∷ b.x ∷ b.y ∷ p.x ∷ p.y ∷ p.w ∷ []) refl

-- ---- positions: the distances of a point to one, and both weights 1
pub shift-to_position : (p : Point) (b : Pt) → shift p (point_of b) ≡ b.x *ℤ p.w -ℤ p.x
unfolding shift
shift-to_position p b = identity (var 1 ⊗ var 2 ⊖ var 0 ⊗ num (pos 1)) (var 1 ⊗ var 2 ⊖ var 0) (p.x ∷ b.x ∷ p.w ∷ []) refl

pub rise-to_position : (p : Point) (b : Pt) → rise p (point_of b) ≡ b.y *ℤ p.w -ℤ p.y
unfolding rise
rise-to_position p b = identity (var 1 ⊗ var 2 ⊖ var 0 ⊗ num (pos 1)) (var 1 ⊗ var 2 ⊖ var 0) (p.y ∷ b.y ∷ p.w ∷ []) refl

pub shift-positions : (a b : Pt) → shift (point_of a) (point_of b) ≡ b.x -ℤ a.x
unfolding shift
shift-positions a b = identity (var 1 ⊗ num (pos 1) ⊖ var 0 ⊗ num (pos 1)) (var 1 ⊖ var 0) (a.x ∷ b.x ∷ []) refl

pub rise-positions : (a b : Pt) → rise (point_of a) (point_of b) ≡ b.y -ℤ a.y
unfolding rise
rise-positions a b = identity (var 1 ⊗ num (pos 1) ⊖ var 0 ⊗ num (pos 1)) (var 1 ⊖ var 0) (a.y ∷ b.y ∷ []) refl
