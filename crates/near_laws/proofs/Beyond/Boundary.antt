-- The ray before a bare sector is boundary, where an edge of an area runs along it.
use Rattle.std.proofs.Common.{◌≡◌, ℕ, suc, ◌+◌, Bool, true, false, List, [], ◌∷◌, ap, refl, sym, ◌∙◌, arith}
use Rattle.std.proofs.lemmas.Bool.{true≢false, or_left, or_right}
use Rattle.plane_laws.specs.Plane.{Point}
use Rattle.plane_laws.specs.Directions.{Direction, IsStrictlyWithin}
use Rattle.plane_laws.specs.Along.{HoldsAlong}
use Rattle.im_matrix.specs.declared.Loc.TheVariants.{Boundary}
use Rattle.point_set.specs.declared.dim_loc.DimLoc.{DimLoc}
use Rattle.point_set.specs.declared.figure.Area.{Area}
use Rattle.point_set.specs.declared.figure.Figure.{Figure}
use Rattle.point_set.specs.declared.rule.Rule.{Rule}
use Rattle.point_set.specs.Location.{location, is_not_exterior, is_covered, is_covered_by, IsAreaInterior, IsKind, IsLocation, part_of}
use Rattle.point_set.specs.Location.{edges_of_rings, rings_of}
use Rattle.point_set.specs.Rings.{is_on_edge, is_on_edges}
use Rattle.point_set.specs.Shape.{IsWellShaped}
use Rattle.point_set.specs.Validity.{IsValid}
use Rattle.point_set.specs.Nodes.{rings_of_areas}
use Rattle.point_set.specs.declared.dim_loc.DimLoc.TheVariants as kind
use Rattle.plane_laws.proofs.Near.Away.{away_point, away_point_is}
use Rattle.figure_laws.proofs.Edges.Lists.{rings_append, none_joined}
use Rattle.figure_laws.proofs.Points.Kinds.{one_kind}
use Rattle.germ_laws.proofs.Room.Germs.{on_boundary}
use Rattle.kind_laws.proofs.Cover.BesideRay.{bare_left}
use Rattle.stay_laws.proofs.Stays.Germs.{kind_settles}
use Rattle.near_laws.proofs.Beyond.Rays.{IsAlongAreas}

-- ---- on an edge of the areas is covered
-- by the first area of which an edge holds the point
pub covered_on :
    (p : Point) (areas : List Area) → is_on_edges p (edges_of_rings (rings_of_areas areas)) ≡ true → is_covered_by p areas ≡ true
covered_on p [] h = absurd (true≢false (sym h))
covered_on p (area ∷ areas) h =
    by (is_on_edges p (edges_of_rings (rings_of area))) refl (is_on_edges p (edges_of_rings (rings_of_areas areas))) refl
    (covered_on p areas)
  where
    by :
        (b : Bool) → is_on_edges p (edges_of_rings (rings_of area)) ≡ b → (c : Bool)
        → is_on_edges p (edges_of_rings (rings_of_areas areas)) ≡ c
        → (is_on_edges p (edges_of_rings (rings_of_areas areas)) ≡ true → is_covered_by p areas ≡ true)
        → is_covered_by p (area ∷ areas) ≡ true
    by true on c e later = or_left (is_not_exterior (location area p)) (is_covered_by p areas) (ap is_not_exterior (on_boundary area p on))
    by false off true on later = or_right (is_not_exterior (location area p)) (is_covered_by p areas) (later on)
    by false off false none later =
        absurd (true≢false (sym h ∙ ap (is_on_edges p) (rings_append (rings_of area) (rings_of_areas areas))
        ∙ none_joined (is_on_edge p) (edges_of_rings (rings_of area)) (edges_of_rings (rings_of_areas areas)) off none))

-- ---- along the ray before a bare sector there is no area interior
-- so where points of the ray are on edges of areas, the ray is boundary
pub boundary_before :
    (f : Figure) → IsWellShaped f → IsValid f → (rule : Rule) (v : Point) (r s : Direction)
    → ((d : Direction) → IsStrictlyWithin r s d → HoldsAlong (λ q. is_covered f q ≡ false) v d) → IsAlongAreas f v r
    → HoldsAlong (λ p. IsLocation f rule p Boundary) v r
boundary_before f shaped valid rule v r s bare on = by (kind_settles f shaped valid rule v r) (bare_left f shaped v r s bare)
  where
    by :
        (k : DimLoc) × HoldsAlong (λ p. IsKind f rule p k) v r → HoldsAlong (λ p. ¬ IsAreaInterior f p) v r
        → HoldsAlong (λ p. IsLocation f rule p Boundary) v r
    by k clear = record {
      from = k.1.from;
      holds = λ n far p away. record { decided_by = k.0; decides = k.1.holds n far p away; gives = λ i. part_of (of_boundary i) };
    }
      where
        n : ℕ
        n = (k.1.from + on.from) + clear.from

        of_boundary : k.0 ≡ kind.AreaBoundary
        of_boundary =
            let p = away_point v r n in
            let away = away_point_is v r n in
            one_kind f rule p k.0 kind.AreaBoundary (k.1.holds (suc n) (omega arith) p away)
            (covered_on p f.areas (on.holds (suc n) (omega arith) p away), clear.holds (suc n) (omega arith) p away)
