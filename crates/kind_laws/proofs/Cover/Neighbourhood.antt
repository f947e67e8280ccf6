-- A point is interior to the union of areas exactly where it is covered, and along every direction from it the union covers.
use Rattle.std.proofs.Common.{◌≡◌, ℕ, suc, ◌+◌, ◌≤◌, Bool, true, false, ◌||◌, List, [], ◌∷◌, refl, sym, ◌∙◌, arith}
use Rattle.std.specs.List.{All}
use Rattle.std.proofs.lemmas.Bool.Decides.{not_from_Decides}
use Rattle.std.proofs.lemmas.List.Elements.{All-head, All-tail}
use Rattle.plane_laws.proofs.Points.Same.{Decides-is_same_point}
use Rattle.plane_laws.specs.Plane.{Point, is_same_point}
use Rattle.plane_laws.specs.Directions.{Direction}
use Rattle.point_set.specs.declared.figure.Area.{Area}
use Rattle.point_set.specs.declared.figure.Figure.{Figure}
use Rattle.plane_laws.specs.Along.{IsInCone}
use Rattle.point_set.specs.Location.{is_not_exterior, is_covered_by, is_covered, IsAreaInterior, edges_of_rings, rings_of}
use Rattle.point_set.specs.Shape.{IsAreaShaped, IsWellShaped}
use Rattle.plane_laws.proofs.Near.Near.{IsNear}
use Rattle.plane_laws.proofs.Near.Away.{away_point, away_point_is, away_near, far_for}
use Rattle.figure_laws.proofs.Points.Kinds.{interior_is_covered}
use Rattle.figure_laws.proofs.Points.Same.{is_covered-same}
use Rattle.germ_laws.proofs.Rays.WayTo.{way_to, way_to_is}
use Rattle.germ_laws.proofs.Room.Germs.{starry, location_alike, away_cone}
use Rattle.plane_laws.proofs.Near.Triangles.{holds_near, near_triangle}
use Rattle.point_set.specs.Cover.{IsCoveredAround}

-- ---- near a point the union covers all points of a direction or none
pub record HasCoverRoom (areas : List Area) (v : Point) : Type 0 where
  pub n : ℕ
  pub alike : (k : ℕ) → n ≤ k → (d : Direction) (p q : Point) → IsNear v k p → IsNear v k q → IsInCone v d d p → IsInCone v d d q
      → is_covered_by p areas ≡ is_covered_by q areas

pub cover_room : (areas : List Area) → All IsAreaShaped areas → (v : Point) → HasCoverRoom areas v
cover_room [] shaped v = record { n = 0; alike = λ k far d p q near_p near_q c c'. refl }
cover_room (area ∷ areas) shaped v =
    let first = starry v (edges_of_rings (rings_of area)) in
    let rest = cover_room areas (All-tail IsAreaShaped area areas shaped) v in
    record {
      n = first.n + rest.n;
      alike = λ k far d p q near_p near_q c c'.
          (λ i. is_not_exterior
          (location_alike area (All-head IsAreaShaped area areas shaped) v first k (omega arith) d p q near_p near_q c c' i) ||
          rest.alike k (omega arith) d p q near_p near_q c c' i);
    }

pub around_from_interior : (f : Figure) (v : Point) → IsAreaInterior f v → IsCoveredAround f v
around_from_interior f v t =
    let r = holds_near t.a t.b t.c v t.strictly in
    record {
      here = interior_is_covered t;
      along = λ d. record { from = far_for d r.n; holds = λ n far q away. t.covered q (r.held q (away_near r.n far away)) };
    }

pub interior_from_around : (f : Figure) → IsWellShaped f → (v : Point) → IsCoveredAround f v → IsAreaInterior f v
interior_from_around f shaped v around =
    let r = cover_room f.areas shaped.areas v in
    let t = near_triangle v r.n in
    record {
      a = t.a;
      b = t.b;
      c = t.c;
      strictly = t.strictly;
      covered = λ q within. at r q (t.near q within) (is_same_point v q) refl;
    }
  where
    at : (r : HasCoverRoom f.areas v) (q : Point) → IsNear v r.n q → (b : Bool) → is_same_point v q ≡ b → is_covered f q ≡ true
    at r q near true h = sym (is_covered-same ((Decides-is_same_point v q).0 h) f) ∙ around.here
    at r q near false h =
        let apart = not_from_Decides (is_same_point v q) (Decides-is_same_point v q) h in
        let d = way_to v q apart in
        let held = around.along d in
        let n = held.from + far_for d r.n in
        let away = away_point_is v d n in
        sym (r.alike r.n (omega arith) d (away_point v d n) q (away_near r.n (omega arith) away) near (away_cone (omega arith) away)
        (way_to_is v q apart))
        ∙ held.holds (suc n) (omega arith) (away_point v d n) away
