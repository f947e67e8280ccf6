-- The boxes round two areas meet where the areas have a common segment of their edges or a common interior point.
use Rattle.std.proofs.Common.{◌≡◌, ℕ, Bool, true, false, List, [], ◌∷◌, refl}
use Rattle.std.specs.List.{All, list_any}
use Rattle.std.proofs.lemmas.List.Elements.{All-append, All-head, All-nil, All-tail}
use Rattle.im_matrix.specs.declared.Loc.TheVariants.{Interior}
use Rattle.plane_laws.specs.Plane.{Point}
use Rattle.plane_laws.proofs.Segments.Mixes.{start_on_segment}
use Rattle.plane_exact.specs.declared.point.Pt.{Pt}
use Rattle.plane_exact.specs.declared.point.Seg.{Seg}
use Rattle.plane_exact.specs.declared.window.Window.{Window}
use Rattle.plane_exact.specs.Windows.{IsInWindow}
use Rattle.plane_exact.proofs.Laws.{in_window-mix}
use Rattle.point_set.specs.declared.figure.Area.{Area}
use Rattle.point_set.specs.Location.{edges_of_rings, location, location_by, rings_of}
use Rattle.point_set.specs.Rings.{edges_of, is_inside, is_on_edges}
use Rattle.point_set.specs.Shape.{IsAreaShaped}
use Rattle.point_set.specs.Validity.{IsAtPlace, IsOnEdge}
use Rattle.figure_laws.proofs.Lists.Places.{all_at}
use Rattle.geom_valid.specs.Boxes.{AreRound, IsRoundArea, IsRoundRing, MeetAt}
use Rattle.geom_valid.specs.Elements.{HaveInCommon, OnInterior}
use Rattle.geom_valid.specs.declared.elements.Common.{Common}
use Rattle.geom_valid.specs.declared.elements.Common.TheVariants as common
use Rattle.geom_valid.proofs.NearPlaces.{meet_at}
use Rattle.geom_valid.proofs.RingBoxes.{AreEndsIn, ends_in, inside_in_box}

-- ---- an area's points are in its box
-- those of its edges
ends_in_rings : (box : Window) (rings : List (List Pt)) → All (IsRoundRing box) rings → All (AreEndsIn box) (edges_of_rings rings)
ends_in_rings box [] h = All-nil (AreEndsIn box)
ends_in_rings box (ring ∷ rings) h =
    All-append (AreEndsIn box) (edges_of ring) (edges_of_rings rings) (ends_in box ring (All-head (IsRoundRing box) ring rings h))
    (ends_in_rings box rings (All-tail (IsRoundRing box) ring rings h))

edge_in_box : (box : Window) (area : Area) → IsRoundArea box area → (i : ℕ) (e : Seg) → IsAtPlace (edges_of_rings (rings_of area)) i e
    → (p : Point) → IsOnEdge e p → IsInWindow box p
edge_in_box box area round i e is p on =
    let ends = all_at (AreEndsIn box) (edges_of_rings (rings_of area)) i e (ends_in_rings box (rings_of area) round) is in
    in_window-mix box e.a e.b p ends.start.left ends.end.left ends.start.right ends.end.right ends.start.bottom ends.end.bottom
    ends.start.top
    ends.end.top on

-- and the interior ones
shell_by : (on shell hole : Bool) → location_by on shell hole ≡ Interior → shell ≡ true
shell_by true shell hole e = cc
shell_by false true hole e = refl
shell_by false false hole e = cc

interior_in_box :
    (box : Window) (area : Area) → IsAreaShaped area → IsRoundArea box area → (p : Point) → location area p ≡ Interior → IsInWindow box p
interior_in_box box area shaped round p interior =
    inside_in_box box area.shell shaped.shell.closed (All-head (IsRoundRing box) area.shell area.holes round) p
    (shell_by (is_on_edges p (edges_of_rings (rings_of area))) (is_inside p area.shell) (list_any (is_inside p) area.holes) interior)

-- ---- what is known where interior points are asked for
pub on_interior : (what : Common) {P Q : Type 0} → (P → Q) → OnInterior what P → OnInterior what Q
on_interior common.Segment follows known = tt
on_interior common.Interior follows known = follows known

-- ---- two areas of a list
-- their boxes meet where they have a segment or an interior point in common
pub common_boxes_meet : (what : Common) (areas : List Area) (boxes : List Window) → AreRound IsRoundArea areas boxes
    → OnInterior what (All IsAreaShaped areas) → (place k : ℕ) (area other : Area) → IsAtPlace areas place area → IsAtPlace areas k other
    → HaveInCommon what area other → MeetAt boxes k place
common_boxes_meet common.Segment areas boxes round shaped place k area other area_is other_is h =
    let s = h.share in
    let both = s.held s.a (start_on_segment s.a s.b) in
    meet_at IsRoundArea areas boxes round place k area other area_is other_is (λ box beside here there. record {
      point = s.a;
      here = edge_in_box box other here h.j h.f h.f_is s.a both.1;
      there = edge_in_box beside area there h.i h.e h.e_is s.a both.0;
    })
common_boxes_meet common.Interior areas boxes round shaped place k area other area_is other_is h =
    meet_at IsRoundArea areas boxes round place k area other area_is other_is (λ box beside here there. record {
      point = h.p;
      here = interior_in_box box other (all_at IsAreaShaped areas k other shaped other_is) here h.p h.in_other;
      there = interior_in_box beside area (all_at IsAreaShaped areas place area shaped area_is) there h.p h.in_area;
    })
