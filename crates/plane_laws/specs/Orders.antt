-- The orders of points: by x and then by y, and along a segment.
use Rattle.std.specs.Prelude.{◌≡◌, ℤ, ◌+ℤ◌, ◌*ℤ◌}
use Rattle.std.specs.declared.cmp.Ordering.{Ordering}
use Rattle.std.specs.declared.cmp.Ordering.TheVariants.{Less}
use Rattle.std.specs.Ordering.{ordering_then, int_cmp}
use Rattle.plane_laws.specs.Plane.{Point, shift, rise}

-- How the fraction x/w compares with the fraction u/v, for positive w and v.
abbrev pub compare_fractions : ℤ → ℤ → ℤ → ℤ → Ordering
compare_fractions x w u v = int_cmp (x *ℤ v) (u *ℤ w)

-- Points by x, and those of the same x by y.
abbrev pub compare_points : Point → Point → Ordering
compare_points p q = ordering_then (compare_fractions p.x p.w q.x q.w) (compare_fractions p.y p.w q.y q.w)

-- How far p is along the way from a to b, cleared of denominators: the way's length times the length of a to p, where p is on it.
unfoldable pub along : Point → Point → Point → ℤ
along a b p = (shift a b *ℤ shift a p) +ℤ (rise a b *ℤ rise a p)

-- Points by how far they are along the way from a to b.
abbrev pub compare_along : Point → Point → Point → Point → Ordering
compare_along a b p q = compare_fractions (along a b p) p.w (along a b q) q.w

-- p is before q, by x and then by y.
abbrev pub IsBefore : Point → Point → Type 0
IsBefore p q = compare_points p q ≡ Less
