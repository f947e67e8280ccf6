-- The figure of parts: part by part, and list by list.
use Rattle.std.proofs.Common.{◌≡◌, ℕ, suc, ◌+◌, ◌-◌, List, [], ◌∷◌, ◌++◌, map, length, refl, sym, ap, ◌∙◌, arith}
use Rattle.std.specs.List.{flat_map}
use Rattle.std.proofs.lemmas.List.{append_assoc, append-nil, map-append, length_push, get_or_push}
use Rattle.std.proofs.lemmas.Option.{slice_get_read}
use Rattle.point_set.specs.declared.figure.Area.{Area}
use Rattle.point_set.specs.declared.figure.Figure.{Figure}
use Rattle.wkt_text.specs.Figures.{Region, Part, points_of_part, lines_of_part, regions_of_part, area_of, numbered}
use Rattle.wkt_text.specs.Building.{next_group}

-- A figure with a part more: its areas are a group of their own.
abbrev pub with_part : Figure → Part → Figure
with_part f p = record {
  points = f.points ++ points_of_part p;
  lines = f.lines ++ lines_of_part p;
  areas = f.areas ++ map (area_of (next_group f.areas)) (regions_of_part p);
}

-- What a list's items give, changed one by one or all at once.
pub map-flat_map : {A B C : Type 0} (g : B → C) (f : A → List B) (xs : List A) → flat_map (λ x. map g (f x)) xs ≡ map g (flat_map f xs)
map-flat_map g f [] = refl
map-flat_map g f (x ∷ xs) = ap (λ l. map g (f x) ++ l) (map-flat_map g f xs) ∙ sym (map-append g (f x) (flat_map f xs))

-- A figure with more parts.
abbrev pub with_parts : Figure → List Part → Figure
with_parts f [] = f
with_parts f (p ∷ ps) = with_parts (with_part f p) ps

pub with_parts-append : (f : Figure) (ps qs : List Part) → with_parts f (ps ++ qs) ≡ with_parts (with_parts f ps) qs
with_parts-append f [] qs = refl
with_parts-append f (p ∷ ps) qs = with_parts-append (with_part f p) ps qs

-- The group after one more area.
pub last_push : (l : List Area) (x : Area) → next_group (l ++ x ∷ []) ≡ x.group + 1
last_push l x =
    let e : length (l ++ x ∷ []) - 1 ≡ length l = rw (length_push l x) (omega arith) in
    let last = sym (get_or_push l x x (length l) refl) in
    let i = slice_get_read (l ++ x ∷ []) (length l + 1) (length l) x (sym (length_push l x)) (omega arith) last in
    rw (e, i) refl

-- After the areas of a group the next group has the next number.
next_group-areas : (l : List Area) (n : ℕ) (r : Region) (rs : List Region) → next_group (l ++ map (area_of n) (r ∷ rs)) ≡ suc n
next_group-areas l n r [] = last_push l (area_of n r) ∙ omega arith
next_group-areas l n r (s ∷ rs) =
    ap next_group (sym (append_assoc l (area_of n r ∷ []) (map (area_of n) (s ∷ rs)))) ∙ next_group-areas (l ++ area_of n r ∷ []) n s rs

group_more : (l : List Area) (rs : List Region) (groups : List (List Region)) → let n = next_group l in
    (l ++ map (area_of n) rs) ++ numbered (next_group (l ++ map (area_of n) rs)) groups ≡ l ++ numbered n (rs ∷ groups)
group_more l [] groups = rw (append-nil l) refl
group_more l (r ∷ rs) groups =
    let n = next_group l in
    ap (λ m. (l ++ map (area_of n) (r ∷ rs)) ++ numbered m groups) (next_group-areas l n r rs)
    ∙ append_assoc l (map (area_of n) (r ∷ rs)) (numbered (suc n) groups)

-- A figure with more parts, list by list.
abbrev along_parts : Figure → List Part → Figure
along_parts f ps = record {
  points = f.points ++ flat_map points_of_part ps;
  lines = f.lines ++ flat_map lines_of_part ps;
  areas = f.areas ++ numbered (next_group f.areas) (map regions_of_part ps);
}

pub with_parts-lists : (f : Figure) (ps : List Part) → with_parts f ps ≡ along_parts f ps
with_parts-lists f [] = rw (append-nil f.points, append-nil f.lines, append-nil f.areas) refl
with_parts-lists f (p ∷ ps) =
    let a = append_assoc f.points (points_of_part p) (flat_map points_of_part ps) in
    let b = append_assoc f.lines (lines_of_part p) (flat_map lines_of_part ps) in
    let c = group_more f.areas (regions_of_part p) (map regions_of_part ps) in
    with_parts-lists (with_part f p) ps ∙ (λ i. record { points = a i; lines = b i; areas = c i })
