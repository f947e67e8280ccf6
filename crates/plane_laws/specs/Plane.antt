-- The plane of fractions: its points, mixes of points, segments and triangles, and the numbers from which all signs are read.
use Rattle.std.specs.Prelude.{◌≡◌, ℤ, pos, ◌+ℤ◌, ◌-ℤ◌, ◌*ℤ◌, ◌≤ℤ◌, ◌<ℤ◌, Bool, ◌&&◌, ◌||◌, int_le}
use Rattle.std.specs.Ordering.{int_eq}

-- A point: three whole numbers of any size, the weight w positive. It stands for (x/w, y/w).
pub record Point : Type 0 where
  pub x : ℤ
  pub y : ℤ
  pub w : ℤ
  pub heavy : pos 0 <ℤ w

-- Two triples stand for the same point: their fractions are equal.
pub record IsSamePoint (p q : Point) : Type 0 where
  pub across : p.x *ℤ q.w ≡ q.x *ℤ p.w
  pub above : p.y *ℤ q.w ≡ q.y *ℤ p.w

-- The point p is (x/w, y/w).
pub record IsAt (p : Point) (x y w : ℤ) : Type 0 where
  pub across : p.x *ℤ w ≡ x *ℤ p.w
  pub above : p.y *ℤ w ≡ y *ℤ p.w

-- A point (x, y, w) is read as a mass w that stands at (x/w, y/w). Putting s copies of a and t copies of b together gives
-- k copies of p: so p is the mean of a and b under the weights s·a.w and t·b.w. Weights range over all whole numbers from 0
-- on, not both 0, and so do these.
pub record IsMix (a b p : Point) (s t : ℤ) : Type 0 where
  pub first : pos 0 ≤ℤ s
  pub second : pos 0 ≤ℤ t
  pub times : ℤ
  pub some : pos 0 <ℤ times
  pub across : times *ℤ p.x ≡ (s *ℤ a.x) +ℤ (t *ℤ b.x)
  pub above : times *ℤ p.y ≡ (s *ℤ a.y) +ℤ (t *ℤ b.y)
  pub mass : times *ℤ p.w ≡ (s *ℤ a.w) +ℤ (t *ℤ b.w)

-- The same for three points.
pub record IsMixOfThree (a b c p : Point) (s t u : ℤ) : Type 0 where
  pub first : pos 0 ≤ℤ s
  pub second : pos 0 ≤ℤ t
  pub third : pos 0 ≤ℤ u
  pub times : ℤ
  pub some : pos 0 <ℤ times
  pub across : times *ℤ p.x ≡ ((s *ℤ a.x) +ℤ (t *ℤ b.x)) +ℤ (u *ℤ c.x)
  pub above : times *ℤ p.y ≡ ((s *ℤ a.y) +ℤ (t *ℤ b.y)) +ℤ (u *ℤ c.y)
  pub mass : times *ℤ p.w ≡ ((s *ℤ a.w) +ℤ (t *ℤ b.w)) +ℤ (u *ℤ c.w)

-- The mean of two points under weights, in the usual reading: p is (s·a + t·b)/(s + t), with denominators cleared.
pub record IsMean (a b p : Point) (s t : ℤ) : Type 0 where
  pub first : pos 0 ≤ℤ s
  pub second : pos 0 ≤ℤ t
  pub some : pos 0 <ℤ (s +ℤ t)
  pub across : (p.x *ℤ (s +ℤ t)) *ℤ (a.w *ℤ b.w) ≡ p.w *ℤ (((s *ℤ a.x) *ℤ b.w) +ℤ ((t *ℤ b.x) *ℤ a.w))
  pub above : (p.y *ℤ (s +ℤ t)) *ℤ (a.w *ℤ b.w) ≡ p.w *ℤ (((s *ℤ a.y) *ℤ b.w) +ℤ ((t *ℤ b.y) *ℤ a.w))

-- p is on the segment from a to b, ends included: it is a mix of the two.
pub record IsOnSegment (a b p : Point) : Type 0 where
  pub s : ℤ
  pub t : ℤ
  pub mix : IsMix a b p s t

-- p is strictly between a and b: both weights can be positive, and the ends differ.
pub record IsStrictlyBetween (a b p : Point) : Type 0 where
  pub s : ℤ
  pub t : ℤ
  pub mix : IsMix a b p s t
  pub some_first : pos 0 <ℤ s
  pub some_second : pos 0 <ℤ t
  pub apart : ¬ IsSamePoint a b

-- Twice the area of the triangle a b c, cleared of denominators: the 3 by 3 determinant of the three triples.
-- Positive where c is on the left of the way from a to b, and 0 where the three are on one line.
unfoldable pub turn : Point → Point → Point → ℤ
turn a b c =
    ((a.x *ℤ ((b.y *ℤ c.w) -ℤ (b.w *ℤ c.y))) -ℤ (a.y *ℤ ((b.x *ℤ c.w) -ℤ (b.w *ℤ c.x))))
    +ℤ (a.w *ℤ ((b.x *ℤ c.y) -ℤ (b.y *ℤ c.x)))

-- How much higher b is than a, cleared of denominators.
unfoldable pub rise : Point → Point → ℤ
rise a b = (b.y *ℤ a.w) -ℤ (a.y *ℤ b.w)

-- How much farther right b is than a, cleared of denominators.
unfoldable pub shift : Point → Point → ℤ
shift a b = (b.x *ℤ a.w) -ℤ (a.x *ℤ b.w)

-- p is in the triangle a b c, sides and corners included.
pub record IsInTriangle (a b c p : Point) : Type 0 where
  pub s : ℤ
  pub t : ℤ
  pub u : ℤ
  pub mix : IsMixOfThree a b c p s t u

-- p is strictly in the triangle a b c: all three weights can be positive, and the corners aren't on one line.
pub record IsStrictlyInTriangle (a b c p : Point) : Type 0 where
  pub s : ℤ
  pub t : ℤ
  pub u : ℤ
  pub mix : IsMixOfThree a b c p s t u
  pub some_first : pos 0 <ℤ s
  pub some_second : pos 0 <ℤ t
  pub some_third : pos 0 <ℤ u
  pub broad : ¬ (turn a b c ≡ pos 0)

-- Whether two triples stand for the same point.
abbrev pub is_same_point : Point → Point → Bool
is_same_point p q = int_eq (p.x *ℤ q.w) (q.x *ℤ p.w) && int_eq (p.y *ℤ q.w) (q.y *ℤ p.w)

-- Whether two steps go the same way: neither of them backward, or neither forward.
abbrev pub is_same_way : ℤ → ℤ → Bool
is_same_way u v = (int_le (pos 0) u && int_le (pos 0) v) || (int_le u (pos 0) && int_le v (pos 0))

-- Whether p is on the segment from a to b, computed: the three are on one line, and the step from a to p goes the same way
-- as the step from p to b, both across and up. A law says that this is the same as `IsOnSegment`.
abbrev pub is_on_segment : Point → Point → Point → Bool
is_on_segment a b p =
    int_eq (turn a b p) (pos 0) && (is_same_way (shift a p) (shift p b) && is_same_way (rise a p) (rise p b))
