-- What holds near a point along a direction, and the cone between two directions.
use Rattle.std.specs.Prelude.{◌≡◌, ℕ, ◌<◌, ℤ, pos, ◌+ℤ◌, ◌*ℤ◌, ◌≤ℤ◌, ◌<ℤ◌}
use Rattle.plane_laws.specs.Plane.{Point, shift, rise}
use Rattle.plane_laws.specs.Directions.{Direction}

-- p is v + d/n, with denominators cleared; n is at least 1 wherever this is asked.
pub record IsAway (v : Point) (d : Direction) (n : ℕ) (p : Point) : Type 0 where
  pub across : p.x *ℤ (v.w *ℤ pos n) ≡ ((v.x *ℤ pos n) +ℤ (d.x *ℤ v.w)) *ℤ p.w
  pub above : p.y *ℤ (v.w *ℤ pos n) ≡ ((v.y *ℤ pos n) +ℤ (d.y *ℤ v.w)) *ℤ p.w

-- From some n on, the set has all points v + d/n.
pub record HoldsAlong (Set : Point → Type 0) (v : Point) (d : Direction) : Type 0 where
  pub from : ℕ
  pub holds : (n : ℕ) → from < n → (p : Point) → IsAway v d n p → Set p

-- A point lies from v in a direction between d and e, the less way round: it is v + i·d + j·e, up to a positive factor, for
-- i and j of at least 0 that aren't both 0.
pub record IsInCone (v : Point) (d e : Direction) (p : Point) : Type 0 where
  pub i : ℤ
  pub j : ℤ
  pub first : pos 0 ≤ℤ i
  pub second : pos 0 ≤ℤ j
  pub some : pos 0 <ℤ (i +ℤ j)
  pub times : ℤ
  pub positive : pos 0 <ℤ times
  pub across : times *ℤ shift v p ≡ (i *ℤ d.x) +ℤ (j *ℤ e.x)
  pub above : times *ℤ rise v p ≡ (i *ℤ d.y) +ℤ (j *ℤ e.y)
