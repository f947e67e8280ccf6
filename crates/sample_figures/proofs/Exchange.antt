-- Exchanging x and y in all positions keeps edges apart and joints joints.
use Rattle.std.proofs.Common.{List, [], ◌∷◌, map}
use Rattle.std.specs.List.{AllByRecursion}
use Rattle.plane_laws.specs.Plane.{Point}
use Rattle.plane_exact.specs.declared.point.Pt.{Pt}
use Rattle.plane_exact.specs.declared.point.Seg.{Seg}
use Rattle.point_set.specs.Validity.{IsOnEdge}
use Rattle.sample_figures.specs.Samples.{exchanged}
use Rattle.sample_figures.proofs.Joints.{IsOff, MeetAt, IsSimpleWay, IsClosedBy, MeetAtJoints}
use Rattle.sample_figures.proofs.Steps.{exchanged_edge}

-- The point with x and y exchanged.
abbrev exchanged_point : Point → Point
exchanged_point p = record { x = p.y; y = p.x; w = p.w; heavy = p.heavy }

-- a point on an exchanged edge, exchanged, is on the edge
on_exchanged : (e : Seg) (p : Point) → IsOnEdge (exchanged_edge e) p → IsOnEdge e (exchanged_point p)
on_exchanged e p on =
    let m = on.mix in
    record {
      s = on.s;
      t = on.t;
      mix = record {
        first = m.first;
        second = m.second;
        times = m.times;
        some = m.some;
        across = m.above;
        above = m.across;
        mass = m.mass;
      };
    }

-- so exchanged edges are apart where the edges are
off_exchanged : (e f : Seg) → IsOff e f → IsOff (exchanged_edge e) (exchanged_edge f)
off_exchanged e f off p on_e on_f = off (exchanged_point p) (on_exchanged e p on_e) (on_exchanged f p on_f)

-- and meet at the exchanged position
meet_exchanged : (q : Pt) (e f : Seg) → MeetAt q e f → MeetAt (exchanged q) (exchanged_edge e) (exchanged_edge f)
meet_exchanged q e f meet p on_e on_f =
    let same = meet (exchanged_point p) (on_exchanged e p on_e) (on_exchanged f p on_f) in
    record { across = same.above; above = same.across }

-- an edge stays apart from all edges of a list
all_off_exchanged : (e : Seg) (fs : List Seg) → AllByRecursion (IsOff e) fs
    → AllByRecursion (IsOff (exchanged_edge e)) (map exchanged_edge fs)
all_off_exchanged e [] all = tt
all_off_exchanged e (f ∷ fs) all = (off_exchanged e f all.0, all_off_exchanged e fs all.1)

-- a simple way stays one
way_exchanged : (es : List Seg) → IsSimpleWay es → IsSimpleWay (map exchanged_edge es)
way_exchanged [] way = tt
way_exchanged (e ∷ []) way = tt
way_exchanged (e ∷ f ∷ fs) way = (meet_exchanged f.a e f way.0, (all_off_exchanged e fs way.1.0, way_exchanged (f ∷ fs) way.1.1))

-- edges that close an edge still do
closed_exchanged : (e : Seg) (fs : List Seg) → IsClosedBy e fs → IsClosedBy (exchanged_edge e) (map exchanged_edge fs)
closed_exchanged e [] closed = tt
closed_exchanged e (f ∷ []) closed = meet_exchanged e.a e f closed
closed_exchanged e (f ∷ g ∷ gs) closed = (off_exchanged e f closed.0, closed_exchanged e (g ∷ gs) closed.1)

-- so the edges of a ring that meet at joints alone still do
pub joints_exchanged : (es : List Seg) → MeetAtJoints es → MeetAtJoints (map exchanged_edge es)
joints_exchanged [] ring = tt
joints_exchanged (e ∷ []) ring = tt
joints_exchanged (e ∷ f ∷ fs) ring = (meet_exchanged f.a e f ring.0, (closed_exchanged e fs ring.1.0, way_exchanged (f ∷ fs) ring.1.1))
