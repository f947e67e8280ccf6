-- The sections of rows at a point, one row more at a time; and what stands in the list.
use Rattle.std.proofs.Common.{◌≡◌, ℕ, zero, suc, Bool, true, false, List, [], ◌∷◌, ◌++◌, append_assoc, append-nil, ap, refl, sym, ◌∙◌}
use Rattle.std.proofs.Common.{subst, arith}
use Rattle.std.specs.List.{All, Any}
use Rattle.std.proofs.lemmas.List.Elements.{All-append, All-cons, All-nil, All-head, All-tail}
use Rattle.std.proofs.lemmas.Bool.Decides.{not_from_Decides}
use Rattle.im_matrix.specs.declared.Which.TheVariants.{A}
use Rattle.plane_exact.specs.Places.{point_of}
use Rattle.plane_laws.proofs.Points.Same.{Decides-is_same_point}
use Rattle.plane_laws.proofs.Segments.On.{Decides-is_on_segment}
use Rattle.plane_laws.specs.Plane.{Point, IsSamePoint, is_same_point}
use Rattle.point_set.specs.declared.edge.Edge.{Edge}
use Rattle.point_set.specs.Edges.{far_end}
use Rattle.point_set.specs.Rings.{is_on_edge}
use Rattle.point_set.specs.Validity.{IsAtPlace, IsOnEdge}
use Rattle.figure_laws.proofs.Lists.Places.{some_same}
use Rattle.figure_laws.proofs.Lists.Search.{any_left, any_right}
use Rattle.fan_order.specs.declared.section.Section.{Section}
use Rattle.fan_order.specs.Sections.{IsSectionOfEdge, AreToward}
use Rattle.area_entry.specs.RowSections.{AreSectionsOfRow, AreSectionsOfRows}

-- ---- one row more
pub rows_more : (v : Point) (rows : List Edge) (row : Edge) (sections more : List Section) → AreSectionsOfRows v rows sections
    → AreSectionsOfRow v row more → AreSectionsOfRows v (rows ++ row ∷ []) (sections ++ more)
rows_more v [] row sections more none are =
    (more, [], ap (λ (xs : List Section). xs ++ more) none ∙ sym (append-nil more), are, refl)
rows_more v (first ∷ rows) row sections more are last = (
  are.0,
  are.1 ++ more,
  ap (λ (xs : List Section). xs ++ more) are.2 ∙ append_assoc are.0 are.1 more,
  are.3,
  rows_more v rows row are.1 more are.4 last,
)

-- ---- what stands in the list
-- A section is that of a row's edge towards an end that isn't the point.
pub record IsOfRow (v : Point) (rows : List Edge) (s : Section) : Type 0 where
  pub place : ℕ
  pub row : Edge
  pub row_is : IsAtPlace rows place row
  pub on : IsOnEdge row.seg v
  pub forward : Bool
  pub away : ¬ IsSamePoint (point_of (far_end forward row.seg)) v
  pub toward : IsSectionOfEdge A row forward s

-- it is one of the rows after a first one
of_rest : (v : Point) (first : Edge) (rows : List Edge) (s : Section) → IsOfRow v rows s → IsOfRow v (first ∷ rows) s
of_rest v first rows s h = record {
  place = suc h.place;
  row = h.row;
  row_is = h.row_is;
  on = h.on;
  forward = h.forward;
  away = h.away;
  toward = h.toward;
}

all_rest : (v : Point) (first : Edge) (rows : List Edge) (sections : List Section) → All (IsOfRow v rows) sections
    → All (IsOfRow v (first ∷ rows)) sections
all_rest v first rows [] h = All-nil (IsOfRow v (first ∷ rows))
all_rest v first rows (s ∷ sections) h =
    All-cons (IsOfRow v (first ∷ rows)) s sections (of_rest v first rows s (All-head (IsOfRow v rows) s sections h))
    (all_rest v first rows sections (All-tail (IsOfRow v rows) s sections h))

-- the sections of the first row towards one end
toward_first : (v : Point) (row : Edge) (rows : List Edge) → IsOnEdge row.seg v → (forward : Bool) (sections : List Section)
    → AreToward A row v forward sections → All (IsOfRow v (row ∷ rows)) sections
toward_first v row rows on forward sections are = go (is_same_point end v) refl
  where
    end : Point
    end = point_of (far_end forward row.seg)

    go : (b : Bool) → is_same_point end v ≡ b → All (IsOfRow v (row ∷ rows)) sections
    go true e =
        subst (λ (xs : List Section). All (IsOfRow v (row ∷ rows)) xs) (sym (are.here ((Decides-is_same_point end v).0 e)))
        (All-nil (IsOfRow v (row ∷ rows)))
    go false e =
        let away = not_from_Decides (is_same_point end v) (Decides-is_same_point end v) e in
        let h = are.away away in
        subst (λ (xs : List Section). All (IsOfRow v (row ∷ rows)) xs) (sym h.1)
        (All-cons (IsOfRow v (row ∷ rows)) h.0 []
        (record { place = 0; row = row; row_is = refl; on = on; forward = forward; away = away; toward = h.2 })
        (All-nil (IsOfRow v (row ∷ rows))))

-- all its sections
first_only : (v : Point) (row : Edge) (rows : List Edge) (sections : List Section) → AreSectionsOfRow v row sections
    → All (IsOfRow v (row ∷ rows)) sections
first_only v row rows sections are = go (is_on_edge v row.seg) refl
  where
    go : (b : Bool) → is_on_edge v row.seg ≡ b → All (IsOfRow v (row ∷ rows)) sections
    go true e =
        let on = (Decides-is_on_segment (point_of row.seg.a) (point_of row.seg.b) v).0 e in
        let h = are.on on in
        subst (λ (xs : List Section). All (IsOfRow v (row ∷ rows)) xs) (sym h.parts)
        (All-append (IsOfRow v (row ∷ rows)) h.ahead h.back (toward_first v row rows on true h.ahead h.are_ahead)
        (toward_first v row rows on false h.back h.are_back))
    go false e =
        subst (λ (xs : List Section). All (IsOfRow v (row ∷ rows)) xs)
        (sym (are.off (not_from_Decides (is_on_edge v row.seg) (Decides-is_on_segment (point_of row.seg.a) (point_of row.seg.b) v) e)))
        (All-nil (IsOfRow v (row ∷ rows)))

-- nothing else stands there
pub rows_only : (v : Point) (rows : List Edge) (sections : List Section) → AreSectionsOfRows v rows sections → All (IsOfRow v rows) sections
rows_only v [] sections none = subst (λ (xs : List Section). All (IsOfRow v []) xs) (sym none) (All-nil (IsOfRow v []))
rows_only v (row ∷ rows) sections are =
    subst (λ (xs : List Section). All (IsOfRow v (row ∷ rows)) xs) (sym are.2)
    (All-append (IsOfRow v (row ∷ rows)) are.0 are.1 (first_only v row rows are.0 are.3)
    (all_rest v row rows are.1 (rows_only v rows are.1 are.4)))

-- the section of a row's edge towards an end that isn't the point
toward_whole : (v : Point) (row : Edge) (forward : Bool) → ¬ IsSamePoint (point_of (far_end forward row.seg)) v → (sections : List Section)
    → AreToward A row v forward sections → Any (IsSectionOfEdge A row forward) sections
toward_whole v row forward away sections are =
    let h = are.away away in
    subst (λ (xs : List Section). Any (IsSectionOfEdge A row forward) xs) (sym h.1) (0, h.0, omega arith, refl, h.2)

first_whole : (v : Point) (row : Edge) → IsOnEdge row.seg v → (forward : Bool)
    → ¬ IsSamePoint (point_of (far_end forward row.seg)) v → (sections : List Section) → AreSectionsOfRow v row sections
    → Any (IsSectionOfEdge A row forward) sections
first_whole v row on true away sections are =
    let h = are.on on in
    subst (λ (xs : List Section). Any (IsSectionOfEdge A row true) xs) (sym h.parts)
    (any_left (IsSectionOfEdge A row true) h.ahead h.back (toward_whole v row true away h.ahead h.are_ahead))
first_whole v row on false away sections are =
    let h = are.on on in
    subst (λ (xs : List Section). Any (IsSectionOfEdge A row false) xs) (sym h.parts)
    (any_right (IsSectionOfEdge A row false) h.ahead h.back (toward_whole v row false away h.back h.are_back))

-- and each of these stands there
pub rows_whole : (v : Point) (rows : List Edge) (sections : List Section) → AreSectionsOfRows v rows sections → (place : ℕ) (row : Edge)
    → IsAtPlace rows place row → IsOnEdge row.seg v → (forward : Bool) → ¬ IsSamePoint (point_of (far_end forward row.seg)) v
    → Any (IsSectionOfEdge A row forward) sections
rows_whole v [] sections are place row is on forward away = cc
rows_whole v (first ∷ rows) sections are zero row is on forward away =
    let one : first ≡ row = some_same is in
    subst (λ (xs : List Section). Any (IsSectionOfEdge A row forward) xs) (sym are.2)
    (any_left (IsSectionOfEdge A row forward) are.0 are.1
    (first_whole v row on forward away are.0 (subst (λ (e : Edge). AreSectionsOfRow v e are.0) one are.3)))
rows_whole v (first ∷ rows) sections are (suc place) row is on forward away =
    subst (λ (xs : List Section). Any (IsSectionOfEdge A row forward) xs) (sym are.2)
    (any_right (IsSectionOfEdge A row forward) are.0 are.1 (rows_whole v rows are.1 are.4 place row is on forward away))
