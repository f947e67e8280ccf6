-- What is seen from v up to p is the germ at v towards p.
use Rattle.std.proofs.Common.{◌≡◌, ℕ, ◌<◌, ◌*ℤ◌, Bool, true, false, refl, arith}
use Rattle.std.proofs.lemmas.Bool.Decides.{not_from_Decides}
use Rattle.plane_laws.proofs.Points.Same.{Decides-is_same_point}
use Rattle.plane_laws.specs.Plane.{Point, is_same_point}
use Rattle.plane_laws.specs.Along.{IsAway, IsInCone}
use Rattle.point_set.specs.Relation.{IsInCell}
use Rattle.ring_laws.proofs.Germs.Areas.{toward_on}
use Rattle.plane_laws.proofs.Near.Near.{size_of}
use Rattle.figure_laws.proofs.Points.Same.{IsLocation-same}
use Rattle.germ_laws.proofs.Room.Germs.{away_cone}
use Rattle.kind_laws.proofs.Hands.InSector.{strictly_from_on}
use Rattle.germ_laws.proofs.Room.Starry.{not_here}
use Rattle.point_set.specs.Visible.{IsSeenFrom}
use Rattle.im_matrix.specs.declared.Cell.{Cell}
use Rattle.plane_laws.specs.Directions.{Direction}
use Rattle.point_set.specs.declared.figure.Figure.{Figure}
use Rattle.point_set.specs.declared.rule.Rule.{Rule}
use Rattle.point_set.specs.Germ.{IsPairGerm}

-- a point v + d/n is strictly between v and p, or it is p
pub seen_is_germ :
    (a b : Figure) (rule : Rule) (v p : Point) (d : Direction) → IsInCone v d d p → (c : Cell) → IsInCell a b rule c p
    → IsSeenFrom a b rule v p → IsPairGerm a b rule v d c
seen_is_germ a b rule v p d c cell at seen = record {
  from = size_of ((c.times *ℤ v.w) *ℤ p.w);
  holds = λ n far q away. by_test n far q away (is_same_point p q) refl;
}
  where
    by_test :
        (n : ℕ) → size_of ((c.times *ℤ v.w) *ℤ p.w) < n → (q : Point) → IsAway v d n q → (t : Bool) → is_same_point p q ≡ t
        → IsInCell a b rule cell q
    by_test n far q away true h =
        let one = (Decides-is_same_point p q).0 h in
        record { in_a = IsLocation-same one a rule at.in_a; in_b = IsLocation-same one b rule at.in_b }
    by_test n far q away false h =
        seen cell at q
        (strictly_from_on (not_here c) (toward_on v d p c n q far away) (not_here (away_cone (omega (arith, far)) away))
        (not_from_Decides (is_same_point p q) (Decides-is_same_point p q) h))
