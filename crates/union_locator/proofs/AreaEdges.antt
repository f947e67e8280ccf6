-- The edges of each area of a figure, as a pass over the areas collects them.
use Rattle.std.proofs.Common.{◌≡◌, ℕ, ◌+◌, ◌<◌, List, [], ◌∷◌, ◌++◌, length, take, get_or, ap, sym, ◌∙◌}
use Rattle.std.specs.Prelude.{map}
use Rattle.std.proofs.lemmas.List.{map_push, take_more}
use Rattle.std.proofs.lemmas.Option.{slice_get-get_or}
use Rattle.plane_exact.specs.declared.point.Seg.{Seg}
use Rattle.point_set.specs.declared.figure.Area.{Area}
use Rattle.point_set.specs.Validity.{IsAtPlace}
use Rattle.area_locator.specs.Indexed.{edges_of_area}
use Rattle.union_locator.proofs.SingleAreas.{some_item}

-- the edges of one area more
pub area_more :
    (areas : List Area) (k : ℕ) (lists : List (List Seg)) (edges : List Seg) → k < length areas
    → ((area : Area) → IsAtPlace areas k area → edges ≡ edges_of_area area) → lists ≡ map edges_of_area (take k areas)
    → lists ++ edges ∷ [] ≡ map edges_of_area (take (k + 1) areas)
area_more areas k lists edges below is before =
    let x = some_item areas k below in
    let area = get_or areas k x.0 in
    let own : edges ≡ edges_of_area area = is area (slice_get-get_or areas k x.0 below) in
    ap (λ (z : List (List Seg)). z ++ edges ∷ []) before
    ∙ ap (λ (z : List Seg). map edges_of_area (take k areas) ++ z ∷ []) own
    ∙ sym (map_push edges_of_area (take k areas) area)
    ∙ ap (map edges_of_area) (sym (take_more areas k x.0 below))
