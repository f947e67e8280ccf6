-- Nothing is known at first: a new session's cells are as a session's cells are.
use Rattle.std.proofs.Common.{◌≡◌, ℕ, List, [], ◌∷◌, length, zero, suc, refl, ap, sym, subst}
use Rattle.std.specs.Prelude.{map}
use Rattle.plane_exact.specs.declared.point.Seg.{Seg}
use Rattle.point_set.specs.declared.figure.Figure.{Figure}
use Rattle.point_set.specs.Validity.{IsAtPlace}
use Rattle.figure_laws.proofs.Lists.Places.{some_same}
use Rattle.relate_prep.specs.Cells.{SeenCell, IsOrigin, IsCellOver, AreAreaCells, area_edges, new_cell}

-- each of new cells is new
new_at :
    (names : List ℕ) (place : ℕ) (c : SeenCell) (edges : List Seg) → IsAtPlace (map new_cell names) place c
    → IsOrigin edges c.known c.origin
new_at [] place c edges at = cc
new_at (name ∷ names) zero c edges at = subst (λ (z : SeenCell). IsOrigin edges z.known z.origin) (some_same at) refl
new_at (name ∷ names) (suc place) c edges at = new_at names place c edges at

-- the names of new cells
names_of_new : (names : List ℕ) → map (λ (c : SeenCell). c.name) (map new_cell names) ≡ names
names_of_new [] = refl
names_of_new (name ∷ names) = ap (λ (z : List ℕ). name ∷ z) (names_of_new names)

-- A new cell is one over any edges.
pub new_over : (edges : List Seg) (name : ℕ) (c : SeenCell) → c ≡ new_cell name → IsCellOver edges name c
new_over edges name c is = subst (λ (z : SeenCell). IsCellOver edges name z) (sym is) (record { name_is = refl; origin = refl })

-- New cells of as many areas are cells of these areas.
pub new_area_cells : (f : Figure) (names : List ℕ) (cells : List SeenCell) → length names ≡ length f.areas → cells ≡ map new_cell names
    → AreAreaCells f names cells
new_area_cells f names cells count are = subst (λ (z : List SeenCell). AreAreaCells f names z) (sym are) (record {
  count = count;
  names_are = names_of_new names;
  origins = λ place c at. new_at names place c (area_edges f place) at;
})
