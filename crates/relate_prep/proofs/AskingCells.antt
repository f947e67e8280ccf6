-- Cells of areas that are asked for one by one: each stays the cell of its area, is the same cell later, and those of far areas stay as
-- they were.
use Rattle.std.proofs.Common.{◌≡◌, ◌⊎◌, inl, inr, ℕ, zero, suc, ◌+◌, ◌<◌, ◌≤◌, List, [], ◌∷◌, length, get_or, set, refl, sym, ◌∙◌, ap}
use Rattle.std.proofs.Common.{subst, arith}
use Rattle.std.specs.Prelude.{Result, Ok, Err, OnOk, map, slice_get}
use Rattle.std.specs.Option.{option_map}
use Rattle.std.proofs.lemmas.Bool.{cases_eq, cases_lt}
use Rattle.std.proofs.lemmas.Grind.{get_or_default_zero}
use Rattle.std.proofs.lemmas.List.{length-map, length-set, get_or-set_same}
use Rattle.std.proofs.lemmas.Option.{get_or_from_slice_get, slice_get_read, slice_get_within, slice_get-map}
use Rattle.std.proofs.Math.Seq.{map-set_same}
use Rattle.plane_laws.specs.Plane.{Point}
use Rattle.point_set.specs.declared.figure.Area.{Area}
use Rattle.point_set.specs.declared.figure.Figure.{Figure}
use Rattle.point_set.specs.Validity.{IsAtPlace}
use Rattle.figure_laws.proofs.Lists.Places.{some_same}
use Rattle.relate_prep.specs.Cells.{SeenCell, IsOrigin, IsLater, AreLater, WasAsked, AreAreaCells, area_edges}
use Rattle.relate_prep.specs.Sessions.{AreAskedNear, AreKeptFar}
use Rattle.union_locator.specs.Shells.{AreShellsNear, IsShellNear, IsShellNearAt}

-- ---- one item of a list changes
-- it is there
set_here : {X : Type 0} (xs : List X) (k : ℕ) (x y : X) → IsAtPlace xs k x → IsAtPlace (set xs k y) k y
set_here xs k x y at =
    let within = slice_get_within xs k x at in
    slice_get_read (set xs k y) (length xs) k y (sym (length-set xs k y)) within (sym (get_or-set_same xs k y y within))

-- and all others stay
set_other : {X : Type 0} (xs : List X) (k place : ℕ) (y : X) → ¬ (place ≡ k) → slice_get (set xs k y) place ≡ slice_get xs place
set_other [] k place y differ = refl
set_other (x ∷ xs) zero zero y differ = absurd (differ refl)
set_other (x ∷ xs) zero (suc place) y differ = refl
set_other (x ∷ xs) (suc k) zero y differ = refl
set_other (x ∷ xs) (suc k) (suc place) y differ = set_other xs k place y (λ e. differ (ap (λ n. suc n) e))

-- so each item is the new one, or stands where it stood
record IsHere {X : Type 0} (k place : ℕ) (y z : X) : Type 0 where
  same : place ≡ k
  new : y ≡ z

record IsElsewhere {X : Type 0} (xs : List X) (k place : ℕ) (z : X) : Type 0 where
  differ : ¬ (place ≡ k)
  was : IsAtPlace xs place z

set_cases :
    {X : Type 0} (xs : List X) (k place : ℕ) (x y z : X) → IsAtPlace xs k x → IsAtPlace (set xs k y) place z
    → IsHere k place y z ⊎ IsElsewhere xs k place z
set_cases xs k place x y z at is = elim (cases_eq place k) [
  | inl same ↦ inl (record {
    same = same;
    new = some_same (sym (subst (λ n. IsAtPlace (set xs k y) n y) (sym same) (set_here xs k x y at)) ∙ is);
  })
  | inr differ ↦ inr (record { differ = differ; was = sym (set_other xs k place y differ) ∙ is })
]

-- ---- one cell, later
later_refl : (c : SeenCell) → IsLater c c
later_refl c = record { name = refl; known = λ x is. is; origin = λ asked. refl }

later_trans : {a b c : SeenCell} → IsLater a b → IsLater b c → IsLater a c
later_trans h k = record {
  name = k.name ∙ h.name;
  known = λ x is. k.known x (h.known x is);
  origin = λ asked. k.origin (λ unused. asked (sym (h.origin asked) ∙ unused)) ∙ h.origin asked;
}

-- ---- all cells, later
later_at :
    (old new : List SeenCell) (k : ℕ) (c d : SeenCell) → AreLater old new → IsAtPlace new k c → IsLater c d → AreLater old (set new k d)
later_at old new k c d later at here = record {
  count = length-set new k d ∙ later.count;
  each = λ place a b is_a is_b. elim (set_cases new k place c d b at is_b) [
    | inl h ↦
        subst (λ z. IsLater a z) h.new
        (later_trans (later.each place a c is_a (subst (λ n. IsAtPlace new n c) (sym h.same) at)) here)
    | inr h ↦ later.each place a b is_a h.was
  ];
}

-- ---- they stay the cells of their areas
pub cells_at :
    (f : Figure) (names : List ℕ) (cells : List SeenCell) (k : ℕ) (c d : SeenCell) → AreAreaCells f names cells → IsAtPlace cells k c
    → d.name ≡ c.name → IsOrigin (area_edges f k) d.known d.origin → AreAreaCells f names (set cells k d)
cells_at f names cells k c d are at name origin = record {
  count = are.count;
  names_are =
      map-set_same (λ (z : SeenCell). z.name) cells k d c
      (name ∙ ap (λ (z : SeenCell). z.name) (sym (get_or_from_slice_get cells k c c at)))
      ∙ are.names_are;
  origins = λ place b is. elim (set_cases cells k place c d b at is) [
    | inl h ↦
        subst (λ (z : SeenCell). IsOrigin (area_edges f place) z.known z.origin) h.new
        (subst (λ n. IsOrigin (area_edges f n) d.known d.origin) (sym h.same) origin)
    | inr h ↦ are.origins place b h.was
  ];
}

-- there are as many of them as areas
pub cells_count : (f : Figure) (names : List ℕ) (cells : List SeenCell) → AreAreaCells f names cells → length cells ≡ length f.areas
cells_count f names cells are = sym (length-map cells (λ (z : SeenCell). z.name)) ∙ ap (λ zs. length zs) are.names_are ∙ are.count

-- and each has its name
pub name_at :
    {X : Type 0} (name : X → ℕ) (f : Figure) (xs : List X) (cells : List SeenCell) → AreAreaCells f (map name xs) cells → (k : ℕ)
    (c : SeenCell) (x : X) → IsAtPlace cells k c → IsAtPlace xs k x → c.name ≡ name x
name_at name f xs cells are k c x is_c is_x =
    some_same
    (sym (slice_get-map (λ (z : SeenCell). z.name) cells k ∙ ap (λ o. option_map (λ (z : SeenCell). z.name) o) is_c)
    ∙ ap (λ zs. slice_get zs k) are.names_are
    ∙ slice_get-map name xs k
    ∙ ap (λ o. option_map name o) is_x)

-- ---- the cells of areas at the first of some places were asked for
pub record AreAskedTo (areas : List Area) (p : Point) (old new : List SeenCell) (places : List ℕ) (count : ℕ) : Type 0 where
  pub later : AreLater old new
  pub kept : AreKeptFar areas p old new
  pub asked : (i : ℕ) → i < count → (c : SeenCell) → IsAtPlace new (get_or places i 0) c → WasAsked c

-- and each cell is the one of its area, and the areas at the places are those that are near
pub record IsAskedSo (f : Figure) (p : Point) (names : List ℕ) (old new : List SeenCell) (places : List ℕ) (count : ℕ) : Type 0 where
  pub cells : AreAreaCells f names new
  pub near : AreShellsNear f.areas p places
  pub to : AreAskedTo f.areas p old new places count

-- at first none was
pub asked_none :
    (f : Figure) (p : Point) (names : List ℕ) (cells : List SeenCell) (places : List ℕ) → AreAreaCells f names cells
    → AreShellsNear f.areas p places → IsAskedSo f p names cells cells places 0
asked_none f p names cells places are near = record {
  cells = are;
  near = near;
  to = record {
    later = record { count = refl; each = λ place c d is_c is_d. subst (IsLater c) (some_same (sym is_c ∙ is_d)) (later_refl c) };
    kept = λ place area is far. refl;
    asked = λ i below. absurd (omega (arith, below));
  };
}

-- the cells of far areas stay where that of a near one changes
kept_at :
    (areas : List Area) (p : Point) (old new : List SeenCell) (k : ℕ) (area : Area) (d : SeenCell) → AreKeptFar areas p old new
    → IsAtPlace areas k area → IsShellNear area p → AreKeptFar areas p old (set new k d)
kept_at areas p old new k area d kept at near place other is far = elim (cases_eq place k) [
  | inl same ↦ absurd (far (subst (λ z. IsShellNear z p) (some_same (sym at ∙ ap (λ n. slice_get areas n) (sym same) ∙ is)) near))
  | inr differ ↦ set_other new k place d differ ∙ kept place other is far
]

-- the one at the next place is asked for
pub asked_here :
    (areas : List Area) (p : Point) (old new : List SeenCell) (places : List ℕ) (i : ℕ) (c d : SeenCell)
    → AreAskedTo areas p old new places i → IsShellNearAt areas p (get_or places i 0) → IsAtPlace new (get_or places i 0) c → IsLater c d
    → WasAsked d
    → AreAskedTo areas p old (set new (get_or places i 0) d) places (i + 1)
asked_here areas p old new places i c d to near at_c later asked = record {
  later = later_at old new k c d to.later at_c later;
  kept = kept_at areas p old new k near.area d to.kept near.area_is near.near;
  asked = λ j next b is_b. elim (set_cases new k (get_or places j 0) c d b at_c is_b) [
    | inl h ↦ subst WasAsked h.new asked
    | inr h ↦ elsewhere j next b h.differ h.was (cases_lt j i)
  ];
}
  where
    k : ℕ
    k = get_or places i 0

    elsewhere :
        (j : ℕ) → j < i + 1 → (b : SeenCell) → ¬ (get_or places j 0 ≡ k) → IsAtPlace new (get_or places j 0) b → (j < i) ⊎ (i ≤ j)
        → WasAsked b
    elsewhere j next b differ was (inl before) = to.asked j before b was
    elsewhere j next b differ was (inr past) =
        let same : j ≡ i = omega (arith, next, past) in
        absurd (differ (ap (λ n. get_or places n 0) same))

-- ---- the next place
module _ {f : Figure} {p : Point} {names : List ℕ} {old new : List SeenCell} {places : List ℕ} {i : ℕ}
    (h : IsAskedSo f p names old new places i) (below : i < length places) where
  -- the area there has a cell
  pub cell_within : get_or places i 0 < length new
  cell_within =
      let near = h.near.near i 0 below in
      let within = slice_get_within f.areas (get_or places i 0) near.area near.area_is in
      omega (arith, within, cells_count f names new h.cells)

  -- and a name
  pub name_within : get_or places i 0 < length names
  name_within = let count = cells_count f names new h.cells in let named = h.cells.count in omega (arith, cell_within, count, named)

  -- the cell that is read there
  module _ {c : SeenCell} (is : c ≡ get_or new (get_or places i 0) c) where
    at_place : IsAtPlace new (get_or places i 0) c
    at_place = slice_get_read new (length new) (get_or places i 0) c refl cell_within is

    -- it comes from the area's edges
    pub origin_here :
        IsOrigin (area_edges f (get_or places i 0)) (get_or new (get_or places i 0) c).known (get_or new (get_or places i 0) c).origin
    origin_here =
        subst (λ (z : SeenCell). IsOrigin (area_edges f (get_or places i 0)) z.known z.origin) is
        (h.cells.origins (get_or places i 0) c at_place)

    -- with it asked for, one place more is passed
    pub asked_next : (d : SeenCell) → IsLater (get_or new (get_or places i 0) c) d
        → IsOrigin (area_edges f (get_or places i 0)) d.known d.origin → WasAsked d
        → IsAskedSo f p names old (set new (get_or places i 0) d) places (i + 1)
    asked_next d later origin asked =
        let from : IsLater c d = subst (λ (z : SeenCell). IsLater z d) (sym is) later in
        record {
          cells = cells_at f names new (get_or places i 0) c d h.cells at_place from.name origin;
          near = h.near;
          to = asked_here f.areas p old new places i c d h.to (h.near.near i 0 below) at_place from asked;
        }

-- it has the name there
pub name_here : {X : Type 0} (name : X → ℕ) (xs : List X) {f : Figure} {p : Point} {old new : List SeenCell} {places : List ℕ} {i : ℕ}
    → IsAskedSo f p (map name xs) old new places i → i < length places → {c : SeenCell} → c ≡ get_or new (get_or places i 0) c → {x : X}
    → x ≡ get_or xs (get_or places i 0) x → (get_or new (get_or places i 0) c).name ≡ name x
name_here name xs {f} {p} {old} {new} {places} {i} h below {c} is {x} x_is =
    let within : get_or places i 0 < length xs = omega (arith, name_within h below, length-map xs name) in
    ap (λ (z : SeenCell). z.name) (sym is)
    ∙ name_at name f xs new h.cells (get_or places i 0) c x (at_place h below is)
    (slice_get_read xs (length xs) (get_or places i 0) x refl within x_is)

-- with all places passed, all near areas were asked for
pub asked_all :
    (areas : List Area) (p : Point) (old new : List SeenCell) (places : List ℕ) (count : ℕ) → AreAskedTo areas p old new places count
    → length places ≤ count → AreShellsNear areas p places → AreAskedNear areas p new
asked_all areas p old new places count to all near place area c is is_c is_near =
    let there = near.whole place (record { area = area; area_is = is; near = is_near }) in
    let below = there.1 in
    let same : place ≡ get_or places there.0 0 = sym there.2 ∙ get_or_default_zero places there.0 place below in
    to.asked there.0 (omega (arith, below, all)) c (subst (λ n. IsAtPlace new n c) same is_c)

-- what holds holds where an answer is Ok
pub on_ok : {T E P : Type 0} (r : Result T E) → P → OnOk r P
on_ok (Ok value) h = h
on_ok (Err error) h = tt
