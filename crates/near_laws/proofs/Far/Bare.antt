-- Along each direction from a point outside of a box there are points, as near as one likes, that are outside of it too and at none of some
-- positions.
use Rattle.std.proofs.Common.{◌≡◌, ℕ, ◌+◌, ◌≤◌, false, List, arith}
use Rattle.std.specs.Prelude.{Option}
use Rattle.plane_laws.specs.Plane.{Point}
use Rattle.plane_laws.specs.Directions.{Direction}
use Rattle.plane_exact.specs.declared.point.Pt.{Pt}
use Rattle.plane_exact.specs.declared.window.Window.{Window}
use Rattle.point_set.specs.Lines.{is_at_some}
use Rattle.box_laws.specs.Boxes.{IsInBox}
use Rattle.plane_laws.proofs.Near.Away.{away_point, away_point_is, away_near, far_for}
use Rattle.plane_laws.proofs.Near.Near.{IsNear}
use Rattle.germ_laws.proofs.Room.Germs.{away_cone}
use Rattle.germ_laws.proofs.Room.Lonely.{IsLonely, lonely}
use Rattle.germ_laws.proofs.Room.Starry.{not_here}
use Rattle.box_laws.proofs.Boxes.Sides.{HasRoomOff, room_off}

-- how far in such a point is
pub record HasBarePoint (w : Option Window) (positions : List Pt) (v : Point) (d : Direction) (from : ℕ) : Type 0 where
  pub m : ℕ
  pub far : from ≤ m
  pub out : ¬ IsInBox w (away_point v d m)
  pub bare : is_at_some (away_point v d m) positions ≡ false

-- far enough along the direction
pub bare_point :
    (w : Option Window) (positions : List Pt) (v : Point) (d : Direction) (from : ℕ) → ¬ IsInBox w v → HasBarePoint w positions v d from
bare_point w positions v d from out = record {
  m = m;
  far = omega arith;
  out = r.off k (omega arith) (away_point v d m) near;
  bare = (alone.none k (omega arith) (away_point v d m) near (not_here (away_cone (omega arith) (away_point_is v d m)))).0;
}
  where
    r : HasRoomOff w v
    r = room_off w v out

    alone : IsLonely v positions
    alone = lonely v positions

    k : ℕ
    k = r.n + alone.n

    m : ℕ
    m = far_for d k + from

    near : IsNear v k (away_point v d m)
    near = away_near k (omega arith) (away_point_is v d m)
