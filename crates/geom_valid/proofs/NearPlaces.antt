-- Boxes near each other, as an index of their diagonals finds them, and searches among the places of those near one.
use Rattle.std.proofs.Common.{◌≡◌, ◌⊎◌, inl, inr, ℕ, zero, suc, ◌+◌, ◌<◌, ◌≤◌, pos, List, [], ◌∷◌, ◌++◌, length, get_or, map, ap, refl, sym}
use Rattle.std.proofs.Common.{◌∙◌, subst, arith}
use Rattle.std.specs.Prelude.{option_map}
use Rattle.std.specs.List.{Contains}
use Rattle.std.proofs.lemmas.Option.{none-some, slice_get-get_or, slice_get-map, slice_get_read, slice_get_within}
use Rattle.plane_exact.specs.declared.point.Seg.{Seg}
use Rattle.plane_exact.specs.declared.window.Window.{Window}
use Rattle.plane_exact.specs.Windows.{HasCommonPoint}
use Rattle.plane_exact.proofs.Laws.{diagonal_window}
use Rattle.edge_index.specs.Segments.{ArePlacesIn}
use Rattle.point_set.specs.Validity.{IsAtPlace}
use Rattle.figure_laws.proofs.Lists.Places.{some_same}
use Rattle.plane_exact.specs.Windows.{diagonal_of}
use Rattle.geom_valid.specs.Boxes.{AreRound, HoldsNear, MeetAt}
use Rattle.geom_valid.proofs.RingLists.{NoneBefore}

-- ---- one item more at the end of a list
-- the items are those before, and the new one at the last place
pub pushed_at : {X : Type 0} (xs : List X) (last : X) (i : ℕ) (x : X) → IsAtPlace (xs ++ last ∷ []) i x
    → IsAtPlace xs i x ⊎ ((i ≡ length xs) × (last ≡ x))
pushed_at [] last zero x is = inr (refl, some_same is)
pushed_at [] last (suc i) x is = absurd (none-some x is)
pushed_at (y ∷ xs) last zero x is = inl is
pushed_at (y ∷ xs) last (suc i) x is = on (pushed_at xs last i x is)
  where
    on : IsAtPlace xs i x ⊎ ((i ≡ length xs) × (last ≡ x)) → IsAtPlace (y ∷ xs) (suc i) x ⊎ ((suc i ≡ length (y ∷ xs)) × (last ≡ x))
    on (inl before) = inl before
    on (inr (at, same)) = inr (omega (arith, at), same)

pub length_pushed : {X : Type 0} (xs : List X) (last : X) → length (xs ++ last ∷ []) ≡ length xs + 1
length_pushed [] last = refl
length_pushed (x ∷ xs) last = omega (arith, length_pushed xs last)

-- ---- boxes round figures
-- of the figures before a place; those of the figures after it are still to come
pub record AreRoundBefore {X : Type 0} (IsRound : Window → X → Type 0) (figures : List X) (boxes : List Window) (i : ℕ) : Type 0 where
  pub count : length boxes ≡ i
  pub round : (place : ℕ) (box : Window) (figure : X) → IsAtPlace boxes place box → IsAtPlace figures place figure → IsRound box figure

pub round_none :
    {X : Type 0} (IsRound : Window → X → Type 0) (figures : List X) (boxes : List Window) → boxes ≡ []
    → AreRoundBefore IsRound figures boxes 0
round_none IsRound figures boxes empty = record {
  count = ap length empty;
  round = λ place box figure is figure_is. absurd (none-some box (subst (λ (bs : List Window). IsAtPlace bs place box) empty is));
}

pub round_on :
    {X : Type 0} (IsRound : Window → X → Type 0) (figures : List X) (boxes more : List Window) (i : ℕ) (box : Window) (figure : X)
    → AreRoundBefore IsRound figures boxes i → more ≡ boxes ++ box ∷ [] → IsAtPlace figures i figure → IsRound box figure
    → AreRoundBefore IsRound figures more (i + 1)
round_on {X} IsRound figures boxes more i box figure before same figure_is round = record {
  count = ap length same ∙ length_pushed boxes box ∙ ap (λ n. n + 1) before.count;
  round =
      λ place b x b_is x_is. at place b x x_is (pushed_at boxes box place b (subst (λ (bs : List Window). IsAtPlace bs place b) same b_is));
}
  where
    at :
        (place : ℕ) (b : Window) (x : X) → IsAtPlace figures place x → IsAtPlace boxes place b ⊎ ((place ≡ length boxes) × (box ≡ b))
        → IsRound b x
    at place b x x_is (inl b_is) = before.round place b x b_is x_is
    at place b x x_is (inr (last, b_is)) =
        let here : figure ≡ x = some_same (sym figure_is ∙ subst (λ n. IsAtPlace figures n x) (last ∙ before.count) x_is) in
        subst (λ (y : X). IsRound b y) here (subst (λ (c : Window). IsRound c figure) b_is round)

pub round_all :
    {X : Type 0} (IsRound : Window → X → Type 0) (figures : List X) (boxes : List Window) (i : ℕ) → AreRoundBefore IsRound figures boxes i
    → i ≡ length figures → AreRound IsRound figures boxes
round_all IsRound figures boxes i before whole = record { count = before.count ∙ whole; round = before.round }

-- a figure's box
record RoundAt {X : Type 0} (IsRound : Window → X → Type 0) (boxes : List Window) (place : ℕ) (figure : X) : Type 0 where
  pub box : Window
  pub box_is : IsAtPlace boxes place box
  pub round : IsRound box figure

round_at : {X : Type 0} (IsRound : Window → X → Type 0) (figures : List X) (boxes : List Window) → AreRound IsRound figures boxes
    → (place : ℕ) (figure : X) → IsAtPlace figures place figure → RoundAt IsRound boxes place figure
round_at IsRound figures boxes are place figure is =
    let nowhere : Window = record { low_x = pos 0; low_y = pos 0; high_x = pos 0; high_y = pos 0 } in
    let below : place < length boxes = omega (arith, slice_get_within figures place figure is, are.count) in
    let there = slice_get-get_or boxes place nowhere below in
    record { box = get_or boxes place nowhere; box_is = there; round = are.round place (get_or boxes place nowhere) figure there is }

-- the boxes of two figures meet where any two boxes round them do
pub meet_at : {X : Type 0} (IsRound : Window → X → Type 0) (figures : List X) (boxes : List Window) → AreRound IsRound figures boxes
    → (place k : ℕ) (figure other : X) → IsAtPlace figures place figure → IsAtPlace figures k other
    → ((box beside : Window) → IsRound box other → IsRound beside figure → HasCommonPoint box beside) → MeetAt boxes k place
meet_at IsRound figures boxes are place k figure other figure_is other_is common =
    let here = round_at IsRound figures boxes are k other other_is in
    let there = round_at IsRound figures boxes are place figure figure_is in
    record {
      box = here.box;
      beside = there.box;
      box_is = here.box_is;
      beside_is = there.box_is;
      common = common here.box there.box here.round there.round;
    }

-- ---- the places that an index of the diagonals finds
pub near_found :
    (boxes : List Window) (segs : List Seg) → segs ≡ map diagonal_of boxes → (place : ℕ) (box : Window) → IsAtPlace boxes place box
    → (found : List ℕ) → ArePlacesIn box segs found → HoldsNear boxes place found
near_found boxes segs same place box is found places other meet =
    let own : meet.beside ≡ box = some_same (sym meet.beside_is ∙ is) in
    let diagonal : IsAtPlace (map diagonal_of boxes) other (diagonal_of meet.box)
    = slice_get-map diagonal_of boxes other ∙ ap (option_map diagonal_of) meet.box_is in
    places.whole other (record {
      seg = diagonal_of meet.box;
      seg_is = subst (λ (ss : List Seg). IsAtPlace ss other (diagonal_of meet.box)) (sym same) diagonal;
      meets = record {
        box = meet.box;
        least = diagonal_window meet.box meet.beside meet.common;
        common = subst (HasCommonPoint meet.box) own meet.common;
      };
    })

-- ---- a search among the places near one
-- the item at a place is so, and is before a given place
pub record IsSoEarlier {X : Type 0} (IsSo : X → Type 0) (xs : List X) (place k : ℕ) : Type 0 where
  pub earlier : k < place
  pub item : X
  pub item_is : IsAtPlace xs k item
  pub is_so : IsSo item

-- no earlier item is so, where those that could be are among the places, and none of these is so
pub none_earlier : {X : Type 0} (IsSo : X → Type 0) (xs : List X) (place : ℕ) (near : List ℕ) (last : ℕ) → length near ≤ last
    → NoneBefore (IsSoEarlier IsSo xs place) near last → ((k : ℕ) → IsSoEarlier IsSo xs place k → Contains near k)
    → (k : ℕ) → ¬ IsSoEarlier IsSo xs place k
none_earlier IsSo xs place near last past none whole k so =
    let there = whole k so in
    let below : there.0 < length near = there.1 in
    none there.0 k (omega (arith, below, past)) (slice_get_read near (length near) there.0 k refl below (sym there.2)) so
