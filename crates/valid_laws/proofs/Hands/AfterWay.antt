-- The hand of an edge of a clean area, seen from any of its points, says what the sector after its way is.
use Rattle.std.proofs.Common.{◌≡◌, ◌⊎◌, inl, inr, ℕ, suc, Bool, true, false}
use Rattle.im_matrix.specs.declared.Loc.TheVariants.{Interior, Exterior}
use Rattle.plane_laws.proofs.Near.Away.{away_point, away_point_is}
use Rattle.plane_laws.proofs.Segments.On.{Decides-is_on_segment}
use Rattle.plane_laws.specs.Along.{IsInCone, HoldsAlong}
use Rattle.plane_laws.specs.Directions.{Direction, IsStrictlyWithin}
use Rattle.plane_laws.specs.Plane.{Point}
use Rattle.plane_exact.specs.Places.{point_of}
use Rattle.plane_exact.specs.declared.point.Seg.{Seg}
use Rattle.point_set.specs.declared.edge.Hand.{Hand}
use Rattle.point_set.specs.declared.edge.Hand.TheVariants as hand
use Rattle.point_set.specs.declared.figure.Area.{Area}
use Rattle.point_set.specs.Edges.{IsAreaHand, IsOnEdgeAlone, far_end, hand_of_way}
use Rattle.point_set.specs.Germ.{IsGerm}
use Rattle.point_set.specs.Sectors.{HasNoEdgeWithin}
use Rattle.point_set.specs.Validity.{IsAtPlace, IsOnEdge, ShareSegment}
use Rattle.point_set.specs.Rings.{is_on_edge}
use Rattle.plane_laws.proofs.Segments.Mixes.{start_on_segment, end_on_segment}
use Rattle.kind_laws.proofs.Hands.InSector.{hand_where_alone}
use Rattle.valid_laws.specs.Entering.{edges_in, IsClean, RunsAlong}
use Rattle.valid_laws.proofs.Edges.Alone.{alone}
use Rattle.valid_laws.proofs.Edges.Sharing.{share_along}

-- an edge runs from a point of it towards each of its ends
pub runs_toward : (forward : Bool) (e : Seg) (v : Point) → IsOnEdge e v → (d : Direction) → IsInCone v d d (point_of (far_end forward e))
    → RunsAlong v d e
runs_toward forward e v on d c =
    record { on = (Decides-is_on_segment (point_of e.a) (point_of e.b) v).1 on; end = by_end forward c }
  where
    by_end : (forward : Bool) → IsInCone v d d (point_of (far_end forward e))
        → IsInCone v d d (point_of e.a) ⊎ IsInCone v d d (point_of e.b)
    by_end true c = inr c
    by_end false c = inl c

-- in a sector that begins at the way of an edge, and in which no edge runs, a clean area is inside where it is on the left of the
-- way, and outside where it is on the right
pub hand_after_way : (area : Area) → IsClean area → (place : ℕ) (e : Seg) → IsAtPlace (edges_in area) place e → (forward : Bool)
    (v : Point) → IsOnEdge e v → (r : Direction) → IsInCone v r r (point_of (far_end forward e)) → (side : Hand)
    → IsAreaHand area e (hand_of_way forward side) → (s : Direction) → HasNoEdgeWithin area v r s → (d : Direction)
    → IsStrictlyWithin r s d → (side ≡ hand.Left → IsGerm area v d Interior) × (side ≡ hand.Right → IsGerm area v d Exterior)
hand_after_way area clean place e e_is forward v on r c =
    hand_where_alone area clean.shaped e forward v on r c near.from
    (λ n far. near.holds (suc n) far (away_point v r n) (away_point_is v r n))
  where
    near : HoldsAlong (IsOnEdgeAlone area e) v r
    near = alone area clean place e e_is v r (runs_toward forward e v on r c)

-- none of an area's edges runs along the way of an edge that has no segment in common with them
pub free_ahead : (area : Area) (e : Seg) → ((place : ℕ) (f : Seg) → IsAtPlace (edges_in area) place f → ¬ ShareSegment e f) → (v : Point)
    → IsOnEdge e v → (d : Direction) → IsInCone v d d (point_of e.b) → (place : ℕ) (f : Seg) → IsAtPlace (edges_in area) place f
    → ¬ RunsAlong v d f
free_ahead area e unshared v on d c place f f_is runs = unshared place f f_is (by_end runs.end)
  where
    v_on : is_on_edge v e ≡ true
    v_on = (Decides-is_on_segment (point_of e.a) (point_of e.b) v).1 on

    by_end : IsInCone v d d (point_of f.a) ⊎ IsInCone v d d (point_of f.b) → ShareSegment e f
    by_end (inl k) =
        share_along v d e f v_on runs.on (point_of e.b) (point_of f.a) (end_on_segment (point_of e.a) (point_of e.b))
        (start_on_segment (point_of f.a) (point_of f.b)) c k
    by_end (inr k) =
        share_along v d e f v_on runs.on (point_of e.b) (point_of f.b) (end_on_segment (point_of e.a) (point_of e.b))
        (end_on_segment (point_of f.a) (point_of f.b)) c k
