-- What the envelopes tell of a cell is there.
use Rattle.std.proofs.Common.{◌≡◌, ◌⊎◌, inl, inr, Bool, true, false, List, refl, arith, ◌<◌, [], ◌∷◌}
use Rattle.std.specs.Prelude.{Option}
use Rattle.plane_laws.specs.Plane.{Point}
use Rattle.plane_laws.specs.Directions.{Direction}
use Rattle.plane_laws.specs.Along.{HoldsAlong}
use Rattle.plane_exact.specs.Places.{point_of}
use Rattle.plane_exact.specs.declared.window.Window.{Window}
use Rattle.plane_exact.specs.declared.dir.Dir.{Dir}
use Rattle.im_matrix.specs.Cells.{cell}
use Rattle.im_matrix.specs.declared.Dim.{Dim}
use Rattle.im_matrix.specs.declared.Dim.TheVariants.{Empty, Zero, One, Two}
use Rattle.im_matrix.specs.declared.Loc.{Loc}
use Rattle.im_matrix.specs.declared.Loc.TheVariants.{Interior, Boundary, Exterior}
use Rattle.point_set.specs.declared.figure.Figure.{Figure}
use Rattle.point_set.specs.declared.rule.Rule.{Rule}
use Rattle.point_set.specs.Dimension.{HoldsTriangle, ShowsDimension}
use Rattle.point_set.specs.Location.{IsLocation, IsAreaInterior}
use Rattle.point_set.specs.Relation.{IsInCell}
use Rattle.point_set.specs.Shape.{IsWellShaped}
use Rattle.point_set.specs.Nodes.{positions_of_ways, rings_of_areas}
use Rattle.point_set.specs.Visible.{AreValid}
use Rattle.point_set.specs.declared.extent.Extent.{Extent}
use Rattle.point_set.specs.Extents.{IsExtent}
use Rattle.point_set.specs.Germ.{IsPairGerm}
use Rattle.point_set.specs.Sectors.{sectors_of}
use Rattle.point_set.specs.declared.dim_loc.DimLoc.TheVariants as kind
use Rattle.box_laws.specs.Boxes.{IsInBox, HoldsCommonPart, sticks_out}
use Rattle.near_laws.specs.Near.{interior_by, boundary_by, beyond, beyond_parts, LawBeyondIsThere}
use Rattle.kind_laws.proofs.Cover.BesideRay.{interior_is_open}
use Rattle.kind_laws.proofs.Cover.Inside.{interior_of_one}
use Rattle.kind_laws.proofs.Location.Decided.{HasSectorWay, sector_way}
use Rattle.cell_laws.proofs.Cells.Outside.{outside_holds_triangle}
use Rattle.cell_laws.proofs.Directions.Exist.{HasDirections, directions_exist}
use Rattle.cell_laws.proofs.Germs.Sectors.{sector_is_one}
use Rattle.figure_laws.proofs.Valid.Pairs.{valid_turned}
use Rattle.few_laws.proofs.Seen.Turned.{cell_turned}
use Rattle.near_laws.proofs.Beyond.Areas.{area_boundary}
use Rattle.near_laws.proofs.Beyond.Inside.{HasInsideOut, inside_out, HasAreaAt, area_at}
use Rattle.near_laws.proofs.Beyond.Lines.{points_shown, ends_shown, lines_shown, germ_out}
use Rattle.near_laws.proofs.Beyond.Positions.{HasFarPosition, far_position}

-- ---- what holds of a set holds of a greater one
-- of each dimension
shows_map : {Set Other : Point → Type 0} → ((p : Point) → Set p → Other p) → (d : Dim) → ShowsDimension Set d → ShowsDimension Other d
shows_map f Empty h = tt
shows_map f Zero h = record { p = h.p; held = f h.p h.held }
shows_map f One h = record { a = h.a; b = h.b; apart = h.apart; held = λ p on. f p (h.held p on) }
shows_map f Two h = record { a = h.a; b = h.b; c = h.c; broad = h.broad; held = λ p on. f p (h.held p on) }

-- ---- areas: the interior
-- there is a first sector
first_sector : (rays : List Dir) → 0 < sectors_of rays
first_sector [] = omega arith
first_sector (ray ∷ rays) = omega arith

-- near a point interior to the areas all is interior
interior_along :
    (f : Figure) → IsWellShaped f → (rule : Rule) (t : Point) → IsAreaInterior f t → (d : Direction)
    → HoldsAlong (λ p. IsLocation f rule p Interior) t d
interior_along f shaped rule t inside d =
    let inner = interior_is_open f shaped t inside d in
    record {
      from = inner.from;
      holds = λ n far p away.
          record { decided_by = kind.AreaInterior; decides = inner.holds n far p away; gives = refl };
    }

-- a figure and another, and the areas that the first has outside of the common part
module _ (a b : Figure) (valid : AreValid a b) (rule : Rule) (x : Extent) (is : IsExtent a rule x) (w : Option Window)
    (holds : HoldsCommonPart a b rule w)
  where
    -- where areas stick out, a triangle of the interior is shown: in a sector at a point inside one of them
    areas_shown : sticks_out x.areas w ≡ true → HoldsTriangle (IsInCell a b rule (cell Interior Exterior))
    areas_shown some =
        (sector_is_one a b valid rule t.t e.rays e.are.rays_at 0 (first_sector e.rays) m.d m.d m.within m.within (cell Interior Exterior)
        germ).1
      where
        far : HasFarPosition w (positions_of_ways (rings_of_areas a.areas))
        far = far_position (positions_of_ways (rings_of_areas a.areas)) x.areas w is.areas some

        h : HasAreaAt a.areas (point_of far.p)
        h = area_at a.areas (point_of far.p) far.at

        t : HasInsideOut a valid.a_shaped valid.a_valid h.k h.area h.is w
        t = inside_out a valid.a_shaped valid.a_valid h.k h.area h.is w (point_of far.p) far.out h.at

        e : HasDirections a b t.t
        e = directions_exist a b valid t.t

        m : HasSectorWay e.rays 0
        m = sector_way e.rays 0 (first_sector e.rays)

        germ : IsPairGerm a b rule t.t m.d (cell Interior Exterior)
        germ =
            germ_out a b valid rule x is w holds t.t t.out m.d Interior (λ e. cc)
            (interior_along a valid.a_shaped rule t.t (interior_of_one a valid.a_shaped h.k h.area h.is t.t t.inside) m.d)

-- ---- the parts of one figure
-- the interior
interior_there :
    (a b : Figure) → AreValid a b → (rule : Rule) (x : Extent) → IsExtent a rule x → (w : Option Window) → HoldsCommonPart a b rule w
    → ShowsDimension (IsInCell a b rule (cell Interior Exterior)) (beyond x w Interior)
interior_there a b valid rule x is w holds = by (sticks_out x.areas w) refl (sticks_out x.lines w) refl (sticks_out x.points w) refl
  where
    by :
        (c : Bool) → sticks_out x.areas w ≡ c → (l : Bool) → sticks_out x.lines w ≡ l → (p : Bool) → sticks_out x.points w ≡ p
        → ShowsDimension (IsInCell a b rule (cell Interior Exterior)) (interior_by c l p)
    by true h l i p j = areas_shown a b valid rule x is w holds h
    by false h true i p j = lines_shown a b valid rule x is w holds h i
    by false h false i true j = points_shown a b valid rule x is w holds h i j
    by false h false i false j = tt

-- the boundary
boundary_there :
    (a b : Figure) → AreValid a b → (rule : Rule) (x : Extent) → IsExtent a rule x → (w : Option Window) → HoldsCommonPart a b rule w
    → ShowsDimension (IsInCell a b rule (cell Boundary Exterior)) (beyond x w Boundary)
boundary_there a b valid rule x is w holds = by (sticks_out x.areas w) refl (sticks_out x.ends w) refl
  where
    by :
        (c : Bool) → sticks_out x.areas w ≡ c → (e : Bool) → sticks_out x.ends w ≡ e
        → ShowsDimension (IsInCell a b rule (cell Boundary Exterior)) (boundary_by c e)
    by true h e i = area_boundary a b valid rule x is w holds h
    by false h true i = ends_shown a b valid rule x is w holds h i
    by false h false i = tt

-- ---- two figures
-- the box holds their common part
swapped_holds : (a b : Figure) (rule : Rule) (w : Option Window) → HoldsCommonPart a b rule w → HoldsCommonPart b a rule w
swapped_holds a b rule w holds p = by (holds p)
  where
    by :
        IsLocation a rule p Exterior ⊎ (IsLocation b rule p Exterior ⊎ IsInBox w p)
        → IsLocation b rule p Exterior ⊎ (IsLocation a rule p Exterior ⊎ IsInBox w p)
    by (inl h) = inr (inl h)
    by (inr (inl h)) = inl h
    by (inr (inr h)) = inr (inr h)

-- part by part
pub beyond_is_there : (a b : Figure) → AreValid a b → (rule : Rule) → LawBeyondIsThere a b rule
beyond_is_there a b valid rule x y is_x is_y w holds c = by c.a c.b
  where
    back : AreValid b a
    back = valid_turned valid

    by : (p q : Loc) → ShowsDimension (IsInCell a b rule (cell p q)) (beyond_parts x y w p q)
    by Exterior Exterior = outside_holds_triangle a b valid rule
    by Interior Exterior = interior_there a b valid rule x is_x w holds
    by Boundary Exterior = boundary_there a b valid rule x is_x w holds
    by Exterior Interior =
        shows_map (cell_turned b a rule (cell Interior Exterior)) (beyond y w Interior)
        (interior_there b a back rule y is_y w (swapped_holds a b rule w holds))
    by Exterior Boundary =
        shows_map (cell_turned b a rule (cell Boundary Exterior)) (beyond y w Boundary)
        (boundary_there b a back rule y is_y w (swapped_holds a b rule w holds))
    by Interior Interior = tt
    by Interior Boundary = tt
    by Boundary Interior = tt
    by Boundary Boundary = tt
