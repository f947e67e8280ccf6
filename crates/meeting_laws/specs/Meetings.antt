-- The first meeting of a segment with edges.
use Rattle.std.specs.Prelude.{◌≡◌, ◌⊎◌, true, false, List, [], ◌∷◌}
use Rattle.plane_laws.specs.Plane.{Point, IsSamePoint, IsOnSegment}
use Rattle.plane_exact.specs.declared.point.Seg.{Seg}
use Rattle.point_set.specs.Rings.{is_on_edge, is_on_edges}

-- q is the first point on the way from p to t that is on an edge.
pub record IsFirstMeeting (edges : List Seg) (p t q : Point) : Type 0 where
  pub on_way : IsOnSegment p t q
  pub on : is_on_edges q edges ≡ true
  pub first : (m : Point) → IsOnSegment p q m → is_on_edges m edges ≡ true → IsSamePoint m q

abbrev pub LawFirstOfOne : Type 0
LawFirstOfOne =
    (e : Seg) (p t : Point) → is_on_edge p e ≡ false
    → ((m : Point) → IsOnSegment p t m → is_on_edge m e ≡ false) ⊎ ((q : Point) × IsFirstMeeting (e ∷ []) p t q)

abbrev pub LawFirstMeeting : Type 0
LawFirstMeeting =
    (edges : List Seg) (p t : Point) → is_on_edges p edges ≡ false
    → ((m : Point) → IsOnSegment p t m → is_on_edges m edges ≡ false) ⊎ ((q : Point) × IsFirstMeeting edges p t q)
