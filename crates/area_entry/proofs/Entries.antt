-- Where edges run on into a part of an area: at a node, from one edge of the area, from any, and what it says of entering the part.
use Rattle.std.proofs.Common.{◌≡◌, ◌≢◌, ◌↔◌, ℕ, suc, ◌+◌, ◌<◌, ◌*ℤ◌, Bool, true, false, IsTrue, List, [], ◌∷◌, length, get_or, refl, sym}
use Rattle.std.proofs.Common.{◌∙◌, subst, arith}
use Rattle.std.specs.List.{All, Any}
use Rattle.std.proofs.lemmas.Option.{slice_get_within, get_or_from_slice_get, slice_get_read, slice_get-get_or}
use Rattle.im_matrix.specs.declared.Loc.{Loc}
use Rattle.im_matrix.specs.declared.Loc.TheVariants.{Boundary}
use Rattle.plane_laws.proofs.Near.Away.{away_point, away_point_is}
use Rattle.plane_laws.proofs.Near.Near.{size_of}
use Rattle.plane_laws.proofs.Points.Same.{same_sym}
use Rattle.plane_laws.proofs.Segments.Mixes.{start_on_segment, end_on_segment}
use Rattle.plane_laws.proofs.Segments.On.{Decides-is_on_segment}
use Rattle.plane_laws.specs.Along.{IsAway, IsInCone}
use Rattle.plane_laws.specs.Directions.{Direction}
use Rattle.plane_laws.specs.Plane.{Point, IsSamePoint}
use Rattle.plane_exact.specs.NodePoints.{point_at}
use Rattle.plane_exact.specs.Places.{point_of}
use Rattle.plane_exact.specs.declared.node.Node.{Node}
use Rattle.plane_exact.specs.declared.point.Pt.{Pt}
use Rattle.plane_exact.specs.declared.point.Seg.{Seg}
use Rattle.point_set.specs.declared.edge.Edge.{Edge}
use Rattle.point_set.specs.declared.figure.Area.{Area}
use Rattle.point_set.specs.Germ.{IsGerm}
use Rattle.point_set.specs.Location.{location}
use Rattle.point_set.specs.Rings.{edges_of, is_on_edge, is_on_edges}
use Rattle.point_set.specs.Validity.{EdgesShareSegment, IsAtPlace, IsOnEdge}
use Rattle.side_laws.proofs.Edges.Places.{first_begins}
use Rattle.ring_laws.proofs.Germs.Areas.{germ_one, toward_on}
use Rattle.ring_laws.proofs.Germs.Edges.{on_true}
use Rattle.germ_laws.proofs.Rays.Ways.{one_way}
use Rattle.germ_laws.proofs.Room.Starry.{not_here}
use Rattle.germ_laws.proofs.Room.Ways.{germ_of_way, germ_of_point, cone_of_point}
use Rattle.kind_laws.proofs.Cover.Inside.{on_some_edge}
use Rattle.seg_cross.specs.Meets.{IsMeet}
use Rattle.seg_cross.specs.declared.answer.Meet.TheVariants.{At}
use Rattle.valid_laws.specs.Entering.{edges_in, Enters, IsClean, IsHeldOut, IsSimpleRing}
use Rattle.valid_laws.proofs.Edges.Sharing.{between_on}
use Rattle.valid_laws.proofs.Entering.Walk.{some_place, walk}
use Rattle.area_entry.specs.Entries.{BeginsIn, IsUnshared, RunsInto, RunsOn, RunsOnAtPlace, RunsOnFrom, RunsOnFromRow, SomeRunsOnFrom}
use Rattle.area_entry.specs.Grounds.{AreRowsOf}
use Rattle.area_entry.proofs.Bends.{not_so}
use Rattle.area_entry.proofs.RowPlaces.{HasRow, row_there, row_of_edge, row_of_seg, seg_there}
use Rattle.area_entry.specs.RowSections.{AreNear, segs_of_rows}
use Rattle.area_entry.proofs.PlacedRows.{near_row}

-- the test whether a point is on an edge
on_edge : {v : Point} (e : Seg) → IsOnEdge e v → is_on_edge v e ≡ true
on_edge {v} e on = (Decides-is_on_segment (point_of e.a) (point_of e.b) v).1 on

-- ---- at a node
-- the node is the edge's end
pub no_way_on : {e : Seg} {area : Area} {part : Loc} {v : Point} → IsSamePoint (point_of e.b) v → ¬ RunsOn e area part v
no_way_on at_end r = not_here r.toward (same_sym at_end)

-- the germ along the edge's way decides
pub by_germ : (area : Area) → IsClean area → (e : Seg) (v : Point) → IsOnEdge e v → (d : Direction) → IsInCone v d d (point_of e.b)
    → (part germ : Loc) → IsGerm area v d germ → (b : Bool) → (IsTrue b ↔ (germ ≡ part)) → (IsTrue b ↔ RunsOn e area part v)
by_germ area clean e v on d ahead part germ is b decides = (
  λ t. record { on = on; way = d; toward = ahead; germ = subst (λ z. IsGerm area v d z) (decides.0 t) is },
  λ r.
      let along = germ_of_way area clean.shaped v r.way d (one_way v r.way d (point_of e.b) r.toward ahead) part r.germ in
      decides.1 (germ_one area v d germ part is along),
)

-- ---- from an edge of the area
-- they meet at one point
pub at_meeting : (area : Area) (part : Loc) (e f : Seg) (n : Node) → IsMeet e f (At n) → (b : Bool)
    → (IsTrue b ↔ RunsOn e area part (point_at n)) → (IsTrue b ↔ RunsOnFrom e f area part)
at_meeting area part e f n only b decides = (
  λ t. record { v = point_at n; there = only.common.second; runs = decides.0 t },
  λ r.
      let here : IsSamePoint r.v (point_at n) = only.only r.v (record { first = r.runs.on; second = r.there }) in
      decides.1 (record {
        on = only.common.first;
        way = r.runs.way;
        toward = cone_of_point here r.runs.toward;
        germ = germ_of_point area here part r.runs.germ;
      }),
)

-- ---- from any edge of the area
-- a point of a row's edge is on the area's edges
pub on_row : (area : Area) (rows : List Edge) → AreRowsOf area rows → (place : ℕ) (row : Edge) → IsAtPlace rows place row → (v : Point)
    → IsOnEdge row.seg v → is_on_edges v (edges_in area) ≡ true
on_row area rows are_rows place row is v on =
    on_some_edge (edges_in area) place row.seg v (row_there area rows are_rows place row is) (on_edge row.seg on)

module _ (area : Area) (rows : List Edge) (are_rows : AreRowsOf area rows) (part : Loc) (e : Seg) where
  -- from one of the rows
  pub from_row : (place : ℕ) (row : Edge) → IsAtPlace rows place row → RunsOnFrom e row.seg area part → RunsInto area part e
  from_row place row is r = record { v = r.v; there = on_row area rows are_rows place row is r.v r.there; runs = r.runs }

  -- a row's edge holds the point
  pub some_row : RunsInto area part e → Any (λ row. RunsOnFrom e row.seg area part) rows
  some_row r =
      let p = some_place (edges_in area) r.v r.there in
      let row = row_of_edge area rows are_rows p.0 p.1 p.2 in (
        p.0,
        row.row,
        slice_get_within rows p.0 row.row row.is,
        get_or_from_slice_get rows p.0 row.row row.row row.is,
        record {
          v = r.v;
          there = subst (λ (g : Seg). IsOnEdge g r.v) (sym row.same) (on_true p.3);
          runs = r.runs;
        },
      )

  -- so it is enough to look at the rows near the edge
  pub by_places : (places : List ℕ) → AreNear (IsOnEdge e) rows places → (b : Bool)
      → (IsTrue b ↔ Any (RunsOnFromRow e rows area part) places) → (IsTrue b ↔ RunsInto area part e)
  by_places places near b decides = (λ t. onto (decides.0 t), λ r. decides.1 (back (some_row r)))
    where
      onto : Any (RunsOnFromRow e rows area part) places → RunsInto area part e
      onto a = from_row a.1 a.4.row a.4.row_is a.4.from

      back : Any (λ row. RunsOnFrom e row.seg area part) rows → Any (RunsOnFromRow e rows area part) places
      back a =
          let is = slice_get_read rows (length rows) a.0 a.1 refl a.2 (sym a.3) in
          let there = near_row e rows places near a.0 a.1 is a.4.v a.4.runs.on a.4.there in
          (there.0, a.0, there.1, there.2, record { row = a.1; row_is = is; from = a.4 })

-- ---- from an edge of the area, over the edges of a ring
-- it is enough to look at the ring's edges near that edge
pub by_ring_places :
    (ring : List Edge) (area : Area) (part : Loc) (other : Edge) (places : List ℕ) → AreNear (IsOnEdge other.seg) ring places
    → (b : Bool) → (IsTrue b ↔ Any (RunsOnAtPlace ring other.seg area part) places) → (IsTrue b ↔ SomeRunsOnFrom ring area part other)
by_ring_places ring area part other places near b decides = (λ t. onto (decides.0 t), λ r. decides.1 (back r))
  where
    onto : Any (RunsOnAtPlace ring other.seg area part) places → SomeRunsOnFrom ring area part other
    onto a =
        let at = a.4 in (
          a.1,
          at.row,
          slice_get_within ring a.1 at.row at.row_is,
          get_or_from_slice_get ring a.1 at.row at.row at.row_is,
          at.from,
        )

    back : SomeRunsOnFrom ring area part other → Any (RunsOnAtPlace ring other.seg area part) places
    back a =
        let is = slice_get_read ring (length ring) a.0 a.1 refl a.2 (sym a.3) in
        let there = near_row other.seg ring places near a.0 a.1 is a.4.v a.4.there a.4.runs.on in
        (there.0, a.0, there.1, there.2, record { row = a.1; row_is = is; from = a.4 })

-- some edge of the ring runs on from some edge of the area exactly where some edge of the ring runs on from the area's edges
pub by_rows : (area : Area) (rows : List Edge) → AreRowsOf area rows → (part : Loc) (ring : List Edge) (b : Bool)
    → (IsTrue b ↔ Any (SomeRunsOnFrom ring area part) rows) → (IsTrue b ↔ Any (λ edge. RunsInto area part edge.seg) ring)
by_rows area rows are_rows part ring b decides = (λ t. onto (decides.0 t), λ r. decides.1 (back r))
  where
    onto : Any (SomeRunsOnFrom ring area part) rows → Any (λ edge. RunsInto area part edge.seg) ring
    onto a =
        let here = a.4 in
        let is = slice_get_read rows (length rows) a.0 a.1 refl a.2 (sym a.3) in
        (here.0, here.1, here.2, here.3, from_row area rows are_rows part here.1.seg a.0 a.1 is here.4)

    back : Any (λ edge. RunsInto area part edge.seg) ring → Any (SomeRunsOnFrom ring area part) rows
    back a =
        let from = some_row area rows are_rows part a.1.seg a.4 in
        (from.0, from.1, from.2, from.3, (a.0, a.1, a.2, a.3, from.4))

-- ---- the ring
-- its first edge begins at its first position
first_in : (way : List Pt) (area : Area) (first : Loc) → BeginsIn way area first → (e : Seg) → IsAtPlace (edges_of way) 0 e
    → location area (point_of e.a) ≡ first
first_in [] area first begins e is = cc
first_in (p ∷ others) area first begins e is =
    subst (λ (q : Pt). location area (point_of q) ≡ first) (sym (first_begins p others e is)) (begins p refl)

-- a list that isn't empty has a first item
some_first : (ring : List Edge) → 0 < length ring → (row : Edge) × IsAtPlace ring 0 row
some_first [] some = absurd (omega (arith, some))
some_first (row ∷ ring) some = (row, refl)

module _ (way : List Pt) (area : Area) (part : Loc) (ring : List Edge) (segs : segs_of_rows ring ≡ edges_of way) where
  -- the edge of a row is one of the ring's
  edge_there : (place : ℕ) (row : Edge) → IsAtPlace ring place row → IsAtPlace (edges_of way) place row.seg
  edge_there place row is = subst (λ (es : List Seg). IsAtPlace es place row.seg) segs (seg_there ring place row is)

  -- none of them has a segment in common with the area's edges
  pub unshared_rows : ¬ EdgesShareSegment (edges_of way) (edges_in area) → All (λ row. IsUnshared area row.seg) ring
  unshared_rows none i d below place f f_is share = none (record {
    i = i;
    j = place;
    e = (get_or ring i d).seg;
    f = f;
    e_is = edge_there i (get_or ring i d) (slice_get-get_or ring i d below);
    f_is = f_is;
    share = share;
  })

  -- an edge that runs on into the part has a point there
  pub runs_in : Any (λ row. RunsInto area part row.seg) ring → Enters (edges_of way) area part
  runs_in a = record {
    x = x;
    on = on_some_edge (edges_of way) a.0 e x (edge_there a.0 a.1 (slice_get_read ring (length ring) a.0 a.1 refl a.2 (sym a.3))) on_e;
    lies = r.germ.holds (suc n) (omega arith) x away;
  }
    where
      e : Seg
      e = a.1.seg

      v : Point
      v = a.4.v

      r : RunsOn e area part v
      r = a.4.runs

      n : ℕ
      n = r.germ.from + size_of ((r.toward.times *ℤ v.w) *ℤ (point_of e.b).w)

      x : Point
      x = away_point v r.way n

      away : IsAway v r.way (suc n) x
      away = away_point_is v r.way n

      on_e : is_on_edge x e ≡ true
      on_e =
          between_on v e (point_of e.b) (on_edge e r.on) (end_on_segment (point_of e.a) (point_of e.b)) x
          (toward_on v r.way (point_of e.b) r.toward (suc n) x (omega arith) away)

  -- a ring that begins in the part has a point there
  pub begins_there : (first : Loc) → BeginsIn way area first → first ≡ part → 0 < length ring → Enters (edges_of way) area part
  begins_there first begins same some =
      let row = some_first ring some in
      let e = row.0.seg in
      let is = edge_there 0 row.0 row.1 in
      record {
        x = point_of e.a;
        on =
            on_some_edge (edges_of way) 0 e (point_of e.a) is (on_edge e (start_on_segment (point_of e.a) (point_of e.b)));
        lies = first_in way area first begins e is ∙ same;
      }

  -- any other one has a point there only where an edge runs on into it
  pub stays_out : IsSimpleRing way → IsClean area → part ≢ Boundary → (first : Loc) → BeginsIn way area first
      → ¬ ((first ≡ part) × (0 < length ring)) → ¬ Any (λ row. RunsInto area part row.seg) ring → ¬ Enters (edges_of way) area part
  stays_out simple clean inner first begins not_first none = walk way area simple clean.shaped part inner start held
    where
      row_at : (place : ℕ) (e : Seg) → IsAtPlace (edges_of way) place e → HasRow ring place e
      row_at place e is = row_of_seg ring place e (subst (λ (es : List Seg). IsAtPlace es place e) (sym segs) is)

      start : (e : Seg) → IsAtPlace (edges_of way) 0 e → location area (point_of e.a) ≢ part
      start e is at =
          let row = row_at 0 e is in
          not_first (sym (first_in way area first begins e is) ∙ at, slice_get_within ring 0 row.row row.is)

      held : IsHeldOut (edges_of way) area part
      held place e is v on there d ahead germ =
          let row = row_at place e is in
          none (
            place,
            row.row,
            slice_get_within ring place row.row row.is,
            get_or_from_slice_get ring place row.row row.row row.is,
            subst (λ (g : Seg). RunsInto area part g) (sym row.same)
                (record { v = v; there = there; runs = record { on = on_true on; way = d; toward = ahead; germ = germ } }),
          )

  -- so the test of the edges decides
  pub decided : IsSimpleRing way → IsClean area → part ≢ Boundary → (first : Loc) → BeginsIn way area first
      → ¬ ((first ≡ part) × (0 < length ring)) → (b : Bool) → (IsTrue b ↔ Any (λ row. RunsInto area part row.seg) ring)
      → (IsTrue b ↔ Enters (edges_of way) area part)
  decided simple clean inner first begins not_first b test = (λ t. runs_in (test.0 t), λ h. by_answer h b refl)
    where
      by_answer : Enters (edges_of way) area part → (answer : Bool) → b ≡ answer → IsTrue b
      by_answer h true e = e
      by_answer h false e = absurd (stays_out simple clean inner first begins not_first (not_so b test e) h)
