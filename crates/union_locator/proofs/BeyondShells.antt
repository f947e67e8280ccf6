-- In a valid figure an area is nowhere but near the box of its shell: where the least box round a point has no common point with that
-- box, the point is on no edge of the shell and not inside it, and it is on no edge of a hole, since what is inside a hole is inside
-- the shell.
use Rattle.std.proofs.Common.{◌≡◌, inl, ℕ, suc, false, List, [], ◌∷◌, refl, ◌∙◌, arith}
use Rattle.std.specs.List.{list_any}
use Rattle.std.specs.Prelude.{◌↔◌}
use Rattle.std.proofs.lemmas.Bool.{false_from_ne_true}
use Rattle.im_matrix.specs.declared.Loc.TheVariants.{Exterior}
use Rattle.plane_laws.specs.Plane.{Point, IsSamePoint}
use Rattle.plane_laws.proofs.Points.Same.{same_refl}
use Rattle.plane_exact.specs.Windows.{IsInWindow, HasCommonPoint, IsLeastWindow}
use Rattle.plane_exact.specs.declared.point.Pt.{Pt}
use Rattle.plane_exact.specs.declared.window.Window.{Window}
use Rattle.plane_exact.proofs.Laws.{within_holds}
use Rattle.point_set.specs.declared.figure.Area.{Area}
use Rattle.point_set.specs.declared.figure.Figure.{Figure}
use Rattle.point_set.specs.Location.{location, location_by, edges_of_rings, rings_of}
use Rattle.point_set.specs.Rings.{edges_of, is_on_edge, is_on_edges, is_inside}
use Rattle.point_set.specs.Shape.{IsWellShaped}
use Rattle.point_set.specs.Validity.{IsAtPlace, CrossesItself, EdgesShareSegment, IsValid, ring_cross}
use Rattle.figure_laws.proofs.Edges.Lists.{none_joined}
use Rattle.figure_laws.proofs.Edges.Windows.{one_least_window}
use Rattle.side_laws.proofs.Areas.Hands.{AreRingsClean, area_clean, hole_shaped}
use Rattle.valid_laws.specs.Entering.{IsSimpleRing}
use Rattle.valid_laws.proofs.Clauses.OverAllPoints.{disc_location}
use Rattle.valid_laws.proofs.Clauses.Laws.{hole_outside}
use Rattle.union_locator.specs.Shells.{IsShellBox, IsShellNear}
use Rattle.union_locator.proofs.RingBoxes.{off_edges, none_inside}

-- off the edges of each of several rings is off all their edges
off_rings :
    (p : Point) (rings : List (List Pt)) → ((i : ℕ) (ring : List Pt) → IsAtPlace rings i ring → is_on_edges p (edges_of ring) ≡ false)
    → is_on_edges p (edges_of_rings rings) ≡ false
off_rings p [] each = refl
off_rings p (ring ∷ rings) each =
    none_joined (is_on_edge p) (edges_of ring) (edges_of_rings rings) (each 0 ring refl)
    (off_rings p rings (λ i other is. each (suc i) other is))

-- an area of a valid figure, and a point out of the box of its shell
module _ (f : Figure) (shaped : IsWellShaped f) (valid : IsValid f) (place : ℕ) (area : Area) (at : IsAtPlace f.areas place area)
    (box : Window) (is : IsShellBox area box) (p : Point) (out : ¬ IsInWindow box p)
  where
    clean : AreRingsClean area
    clean = area_clean f shaped valid place area at

    -- no ring crosses itself
    ring_simple : (k : ℕ) (ring : List Pt) → IsAtPlace (rings_of area) k ring → ¬ CrossesItself ring
    ring_simple k ring ring_is crosses =
        valid place ring_cross
        (record { area = area; area_is = at; is_so = record { place = k; ring = ring; ring_is = ring_is; is_so = crosses } })

    -- the point is off the shell
    off_shell : is_on_edges p (edges_of area.shell) ≡ false
    off_shell = off_edges area.shell clean.shaped.shell.closed box is p out

    not_inside : is_inside p area.shell ≡ false
    not_inside = none_inside area.shell clean.shaped.shell.closed box is p out

    -- so it is on no edge of a hole, else some point would be inside the hole and not inside the shell
    off_hole : (i : ℕ) (hole : List Pt) → IsAtPlace area.holes i hole → is_on_edges p (edges_of hole) ≡ false
    off_hole i hole hole_is = false_from_ne_true (is_on_edges p (edges_of hole)) (λ on.
        let leaves = (hole_outside area.shell hole shell inner unshared).1 (inl (record {
          x = p;
          on = on;
          lies = disc_location p area.shell ∙ (λ j. location_by (off_shell j) (not_inside j) false);
        })) in
        clean.within
        (record { i = i; hole = hole; hole_is = hole_is; p = leaves.p; in_hole = leaves.in_hole; off_shell = leaves.off_shell }))
      where
        shell : IsSimpleRing area.shell
        shell = record { shaped = clean.shaped.shell; simple = ring_simple 0 area.shell refl }

        inner : IsSimpleRing hole
        inner = record { shaped = hole_shaped area clean.shaped i hole hole_is; simple = ring_simple (suc i) hole hole_is }

        unshared : ¬ EdgesShareSegment (edges_of area.shell) (edges_of hole)
        unshared share = clean.unshared (record {
          i = 0;
          j = suc i;
          earlier = omega arith;
          one = area.shell;
          other = hole;
          one_is = refl;
          other_is = hole_is;
          share = share;
        })

    -- and the area is exterior there
    pub outside_exterior : location area p ≡ Exterior
    outside_exterior =
        let edges =
        none_joined (is_on_edge p) (edges_of area.shell) (edges_of_rings area.holes) off_shell (off_rings p area.holes off_hole) in
        λ j. location_by (edges j) (not_inside j) (list_any (is_inside p) area.holes)

-- ---- near shells
-- a shell is near a point exactly where any least box round the point has a common point with any box of the shell
pub near_by_boxes :
    (area : Area) (p : Point) (window box : Window) → IsLeastWindow (IsSamePoint p) window → IsShellBox area box
    → IsShellNear area p ↔ HasCommonPoint window box
near_by_boxes area p window box round is = (
  λ near. record {
    point = near.common.point;
    here = within_holds (one_least_window near.round round) near.common.point near.common.here;
    there = within_holds (one_least_window near.is.1 is.1) near.common.point near.common.there;
  },
  λ common. record { window = window; round = round; box = box; is = is; common = common },
)

-- a point whose least box has no common point with a box is out of it
pub apart_is_out :
    (p : Point) (window box : Window) → IsLeastWindow (IsSamePoint p) window → ¬ HasCommonPoint window box → ¬ IsInWindow box p
apart_is_out p window box round none inside = none (record { point = p; here = round.holds p (same_refl p); there = inside })
