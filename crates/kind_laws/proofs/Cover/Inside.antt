-- A point inside one area is interior to the union of the areas.
use Rattle.std.proofs.Common.{◌≡◌, ℕ, zero, suc, Bool, true, false}
use Rattle.std.proofs.Common.{List, [], ◌∷◌, ap, refl, sym, ◌∙◌, subst}
use Rattle.std.specs.List.{list_any}
use Rattle.std.proofs.lemmas.Bool.{or_left, or_right}
use Rattle.im_matrix.specs.declared.Loc.TheVariants.{Interior}
use Rattle.plane_laws.specs.Plane.{Point}
use Rattle.plane_laws.specs.Directions.{Direction}
use Rattle.plane_exact.specs.declared.point.Seg.{Seg}
use Rattle.point_set.specs.declared.figure.Area.{Area}
use Rattle.point_set.specs.declared.figure.Figure.{Figure}
use Rattle.plane_laws.specs.Along.{HoldsAlong}
use Rattle.point_set.specs.Location.{location, location_by, is_not_exterior, is_covered, IsAreaInterior, edges_of_rings, rings_of}
use Rattle.point_set.specs.Rings.{is_on_edge, is_on_edges, is_inside}
use Rattle.point_set.specs.Shape.{IsWellShaped}
use Rattle.point_set.specs.Validity.{IsAtPlace}
use Rattle.figure_laws.proofs.Lists.Places.{some_same}
use Rattle.side_laws.proofs.Areas.Hands.{area_shaped}
use Rattle.germ_laws.proofs.Sectors.Closed.{settled}
use Rattle.kind_laws.proofs.Cover.Neighbourhood.{interior_from_around}
use Rattle.kind_laws.proofs.Cover.Sectors.{covered_at}

-- ---- what is inside one area is interior to the union
off_inside : (area : Area) (v : Point) → location area v ≡ Interior → is_on_edges v (edges_of_rings (rings_of area)) ≡ false
off_inside area v = go (is_on_edges v (edges_of_rings (rings_of area))) (is_inside v area.shell) (list_any (is_inside v) area.holes)
  where
    go : (b s h : Bool) → location_by b s h ≡ Interior → b ≡ false
    go true s h e = cc
    go false s h e = refl

-- round it nothing else is met, so it is covered in all directions
pub interior_of_one : (f : Figure) → IsWellShaped f → (place : ℕ) (area : Area) → IsAtPlace f.areas place area → (v : Point)
    → location area v ≡ Interior → IsAreaInterior f v
interior_of_one f shaped place area is v inside = interior_from_around f shaped v (record { here = covers v inside; along = along })
  where
    covers : (q : Point) → location area q ≡ Interior → is_covered f q ≡ true
    covers q h = covered_at f.areas place area is q (ap is_not_exterior h)

    along : (d : Direction) → HoldsAlong (λ q. is_covered f q ≡ true) v d
    along d =
        let g = settled area (area_shaped f shaped place area is) v (off_inside area v inside) d in
        record { from = g.from; holds = λ n far q away. covers q (g.holds n far q away ∙ inside) }

-- ---- no area has the point inside
abbrev pub IsNoAreaInteriorAt : Figure → Point → Type 0
IsNoAreaInteriorAt f v = (place : ℕ) (area : Area) → IsAtPlace f.areas place area → ¬ (location area v ≡ Interior)

-- a point of one of the edges is on the edges
pub on_some_edge : (edges : List Seg) (place : ℕ) (e : Seg) (v : Point) → IsAtPlace edges place e → is_on_edge v e ≡ true
    → is_on_edges v edges ≡ true
on_some_edge [] place e v is on = cc
on_some_edge (g ∷ edges) zero e v is on =
    or_left (is_on_edge v g) (is_on_edges v edges) (subst (λ (z : Seg). is_on_edge v z ≡ true) (sym (some_same is)) on)
on_some_edge (g ∷ edges) (suc place) e v is on = or_right (is_on_edge v g) (is_on_edges v edges) (on_some_edge edges place e v is on)
