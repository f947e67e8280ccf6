-- From an edge to a point beside it.
use Rattle.std.proofs.Common.{◌≡◌, ◌≢◌, inl, inr, ℕ, zero, suc, Bool, true, false, List, ap, refl, sym, ◌∙◌, subst, arith}
use Rattle.std.specs.List.{list_any}
use Rattle.std.proofs.lemmas.Bool.{true≢false, false_from_ne_true}
use Rattle.im_matrix.specs.declared.Loc.TheVariants.{Interior, Boundary}
use Rattle.plane_laws.proofs.Points.Same.{same_sym, same_trans, Decides-is_same_point}
use Rattle.plane_laws.specs.Plane.{Point, IsSamePoint, is_same_point}
use Rattle.plane_exact.specs.Places.{point_of}
use Rattle.plane_laws.specs.Directions.{Direction}
use Rattle.plane_exact.specs.declared.point.Pt.{Pt}
use Rattle.plane_exact.specs.declared.point.Seg.{Seg}
use Rattle.point_set.specs.declared.edge.Hand.{Hand}
use Rattle.point_set.specs.declared.edge.Hand.TheVariants as hand
use Rattle.point_set.specs.declared.figure.Area.{Area}
use Rattle.point_set.specs.Rings.{edges_of, is_on_edge, is_on_edges, is_inside}
use Rattle.point_set.specs.Location.{location, location_by, rings_of}
use Rattle.point_set.specs.Shape.{IsAreaShaped}
use Rattle.plane_laws.specs.Along.{HoldsAlong}
use Rattle.point_set.specs.Sides.{other_hand}
use Rattle.point_set.specs.Edges.{IsOnEdgeAlone, IsAreaHand}
use Rattle.point_set.specs.Validity.{IsAtPlace, CrossesItself}
use Rattle.figure_laws.proofs.Lists.Places.{some_same}
use Rattle.figure_laws.proofs.Edges.Owners.{HasRing, ring_of}
use Rattle.plane_laws.proofs.Near.Near.{near_mix}
use Rattle.ring_laws.proofs.Room.Edges.{room}
use Rattle.plane_laws.proofs.Near.Away.{away_near, far_for}
use Rattle.ring_laws.proofs.Germs.Areas.{location_stays}
use Rattle.germ_laws.proofs.Rays.WayTo.{way_to, way_to_is}
use Rattle.germ_laws.proofs.Room.Starry.{near_self}
use Rattle.germ_laws.proofs.Sectors.Closed.{none_held}
use Rattle.side_laws.proofs.Rings.Hand.{some_inside_hand}
use Rattle.side_laws.proofs.Areas.Hands.{AreRingsClean, hole_shaped, shell_hand, hole_hand, some_way, along_both, along_some}
use Rattle.valid_laws.specs.Entering.{edges_in, IsClean, RunsAlong, LawAlone, LawBeside, LawMoving}
use Rattle.valid_laws.proofs.Entering.Walk.{Placed, some_place}
use Rattle.figure_laws.proofs.Lists.Places.{all_at}

-- ---- near a point off an area's edges the location stays
settled_area : (area : Area) → IsAreaShaped area → (v : Point) → is_on_edges v (edges_in area) ≡ false → (d : Direction)
    → HoldsAlong (λ q. location area q ≡ location area v) v d
settled_area area shaped v off d =
    let r = room v (edges_in area) in
    record {
      from = far_for d r.n;
      holds = λ n far q away. location_stays q v area shaped (record {
        off = λ m on. none_held v m (edges_in area) off
            (r.free r.n (omega arith) m (near_mix (away_near r.n far away) (near_self v r.n) on));
      });
    }

-- ---- the hand of each edge of a clean area
record HasHandOf (area : Area) (e : Seg) : Type 0 where
  side : Hand
  is : IsAreaHand area e side

rings_clean : {area : Area} → IsClean area → AreRingsClean area
rings_clean c = record { shaped = c.shaped; unshared = c.unshared; within = c.within; unlapped = c.unlapped }

hand_at : (area : Area) → IsClean area → (i : ℕ) (e : Seg) → IsAtPlace (edges_in area) i e → HasHandOf area e
hand_at area clean i e is = by_ring (ring_of (rings_of area) i e is)
  where
    by_place : (k : ℕ) (ring : List Pt) (j : ℕ) → IsAtPlace (rings_of area) k ring → IsAtPlace (edges_of ring) j e → HasHandOf area e
    by_place zero ring j is_ring is_e =
        let shell : area.shell ≡ ring = some_same is_ring in
        let hand = some_inside_hand area.shell clean.shaped.shell.closed
        (all_at (λ w. ¬ CrossesItself w) (rings_of area) 0 area.shell clean.simple refl) in
        record {
          side = hand.0;
          is = shell_hand area (rings_clean clean) hand.0 hand.1 j e
              (subst (λ w. IsAtPlace (edges_of w) j e) (sym shell) is_e);
        }
    by_place (suc k) ring j is_ring is_e =
        let hand = some_inside_hand ring (hole_shaped area clean.shaped k ring is_ring).closed
        (all_at (λ w. ¬ CrossesItself w) (rings_of area) (suc k) ring clean.simple is_ring) in
        record { side = other_hand hand.0; is = hole_hand area (rings_clean clean) k ring is_ring hand.0 hand.1 j e is_e }

    by_ring : HasRing (rings_of area) e → HasHandOf area e
    by_ring h = by_place h.k h.ring h.i h.ring_is h.is

-- ---- some direction along an edge
record HasRun (v : Point) (e : Seg) : Type 0 where
  d : Direction
  runs : RunsAlong v d e

some_run : (v : Point) (e : Seg) → is_on_edge v e ≡ true → ¬ IsSamePoint (point_of e.a) (point_of e.b) → HasRun v e
some_run v e on apart = go (is_same_point v (point_of e.a)) refl
  where
    go : (b : Bool) → is_same_point v (point_of e.a) ≡ b → HasRun v e
    go true h =
        let other : ¬ IsSamePoint v (point_of e.b) = λ one. apart
        (same_trans (same_sym ((Decides-is_same_point v (point_of e.a)).0 h)) one) in
        record { d = way_to v (point_of e.b) other; runs = record { on = on; end = inr (way_to_is v (point_of e.b) other) } }
    go false h =
        let other : ¬ IsSamePoint v (point_of e.a) = λ one. true≢false (sym ((Decides-is_same_point v (point_of e.a)).1 one) ∙ h) in
        record { d = way_to v (point_of e.a) other; runs = record { on = on; end = inl (way_to_is v (point_of e.a) other) } }

-- ---- the lemma
pub beside : LawMoving → LawAlone → LawBeside
beside moving alone one other clean shaped part inner enters = by_place (some_place (edges_in one) enters.x enters.on)
  where
    boundary : (x : Point) → is_on_edges x (edges_in other) ≡ true → location other x ≡ Boundary
    boundary x on = ap (λ z. location_by z (is_inside x other.shell) (list_any (is_inside x) other.holes)) on

    off : (x : Point) → location other x ≡ part → is_on_edges x (edges_in other) ≡ false
    off x lies = false_from_ne_true (is_on_edges x (edges_in other)) (λ on. inner (sym lies ∙ boundary x on))

    by_hand : (e : Seg) → HasHandOf one e → ¬ IsSamePoint (point_of e.a) (point_of e.b) → (v : Point) → IsOnEdgeAlone one e v
        → location other v ≡ part → (p : Point) × (location one p ≡ Interior) × (location other p ≡ part)
    by_hand e h apart v on_alone lies =
        let way = some_way h.side h.is.sided e apart in
        let found = along_some (along_both (h.is.inside v on_alone way.d way.to) (settled_area other shaped v (off v lies) way.d)) in
        (found.q, found.is.0, found.is.1 ∙ lies)

    by_place : Placed (edges_in one) enters.x → (p : Point) × (location one p ≡ Interior) × (location other p ≡ part)
    by_place (i, e, is, on) =
        let run = some_run enters.x e on (moving one i e is) in
        let near = along_some
        (along_both (alone one clean i e is enters.x run.d run.runs)
        (settled_area other shaped enters.x (off enters.x enters.lies) run.d)) in
        by_hand e (hand_at one clean i e is) (moving one i e is) near.q near.is.0 (near.is.1 ∙ enters.lies)
