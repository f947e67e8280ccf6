-- Which shells of areas are near a point, found by a scan of their boxes or by an index of the diagonals of the boxes, and what this
-- means for the areas.
use Rattle.std.proofs.Common.{◌≡◌, ℕ, ◌<◌, List, [], ◌∷◌, length, get_or, refl, sym, subst, arith}
use Rattle.std.specs.Prelude.{Some, map}
use Rattle.std.proofs.lemmas.Bool.{or_left}
use Rattle.std.proofs.lemmas.List.Elements.{All-weaker}
use Rattle.std.proofs.lemmas.Option.{slice_get_read, slice_get_within}
use Rattle.im_matrix.specs.declared.Loc.TheVariants.{Exterior}
use Rattle.plane_laws.specs.Plane.{Point, IsSamePoint}
use Rattle.plane_laws.proofs.Points.Same.{same_refl, Decides-is_same_point}
use Rattle.plane_exact.specs.Places.{point_of}
use Rattle.plane_exact.specs.Windows.{HasCommonPoint, IsLeastWindow}
use Rattle.plane_exact.specs.declared.point.Pt.{Pt}
use Rattle.plane_exact.specs.declared.point.Seg.{Seg}
use Rattle.plane_exact.specs.declared.window.Window.{Window}
use Rattle.plane_exact.proofs.Laws.{diagonal_window, within_holds}
use Rattle.edge_index.specs.Segments.{ArePlacesIn, IsWindowOf, MeetsAtPlace}
use Rattle.point_set.specs.declared.figure.Area.{Area}
use Rattle.point_set.specs.declared.figure.Figure.{Figure}
use Rattle.point_set.specs.Extents.{IsEnvelope}
use Rattle.point_set.specs.Lines.{is_at, is_at_some}
use Rattle.point_set.specs.Shape.{IsWellShaped}
use Rattle.point_set.specs.Validity.{IsAtPlace, IsValid}
use Rattle.figure_laws.proofs.Edges.Windows.{one_least_window}
use Rattle.union_locator.specs.Areas.{AreNearAreas, IsInAreaAt}
use Rattle.plane_exact.specs.Windows.{diagonal_of}
use Rattle.union_locator.specs.Shells.{AreBoxesNear, AreShellBoxes, AreShellsNear, IsBoxNearAt, IsShellNearAt}
use Rattle.union_locator.proofs.BeyondShells.{apart_is_out, near_by_boxes, outside_exterior}
use Rattle.union_locator.proofs.MeetingPlaces.{image_at, source_at}
use Rattle.union_locator.proofs.SingleAreas.{item_at}

-- ---- the box of a shell
-- it has a point
some_held : (positions : List Pt) (box : Window) → IsEnvelope positions (Some box) → HasCommonPoint box box
some_held [] box is = absurd (is.0 refl)
some_held (q ∷ others) box is =
    let at = (Decides-is_same_point (point_of q) (point_of q)).1 (same_refl (point_of q)) in
    let inside = is.1.holds (point_of q) (or_left (is_at (point_of q) q) (is_at_some (point_of q) others) at) in
    record { point = point_of q; here = inside; there = inside }

-- ---- near boxes are those of near shells
-- where one of two lists that are as long has an item, the other has one
other_item : {X Y : Type 0} (xs : List X) (ys : List Y) → length xs ≡ length ys → (place : ℕ) (x : X) → IsAtPlace xs place x
    → (y : Y) × IsAtPlace ys place y
other_item xs ys count place x is = let within = slice_get_within xs place x is in item_at ys place (omega (arith, count, within))

module _ (areas : List Area) (boxes : List Window) (are : AreShellBoxes areas boxes) (w : Window) where
  -- ---- by the index
  module _ (segs : List Seg) (same : segs ≡ map diagonal_of boxes) where
    box_of_seg : (place : ℕ) → MeetsAtPlace w segs place → IsBoxNearAt w boxes place
    box_of_seg place m =
        let s = source_at diagonal_of boxes place m.seg (subst (λ (xs : List Seg). IsAtPlace xs place m.seg) same m.seg_is) in
        let area = other_item boxes areas are.count place s.item s.is in
        let own = diagonal_window s.item s.item (some_held area.0.shell s.item (are.each place area.0 s.item area.1 s.is)) in
        let found : IsWindowOf (diagonal_of s.item) m.meets.box = subst (λ z. IsWindowOf z m.meets.box) (sym s.same) m.meets.least in
        record {
          box = s.item;
          box_is = s.is;
          common = record {
            point = m.meets.common.point;
            here = m.meets.common.there;
            there = within_holds (one_least_window found own) m.meets.common.point m.meets.common.here;
          };
        }

    seg_of_box : (place : ℕ) → IsBoxNearAt w boxes place → MeetsAtPlace w segs place
    seg_of_box place near =
        let common : HasCommonPoint near.box w = record { point = near.common.point; here = near.common.there; there = near.common.here } in
        record {
          seg = diagonal_of near.box;
          seg_is =
              subst (λ (xs : List Seg). IsAtPlace xs place (diagonal_of near.box)) (sym same)
              (image_at diagonal_of boxes place near.box near.box_is);
          meets = record { box = near.box; least = diagonal_window near.box w common; common = common };
        }

    pub boxes_by_index : (out : List ℕ) → ArePlacesIn w segs out → AreBoxesNear w boxes out
    boxes_by_index out found = record {
      ascending = found.ascending;
      near = All-weaker (MeetsAtPlace w segs) (IsBoxNearAt w boxes) (λ place m. box_of_seg place m) out found.meet;
      whole = λ place near. found.whole place (seg_of_box place near);
    }

  -- ---- shells by their boxes
  pub shells_by_boxes :
      (p : Point) → IsLeastWindow (IsSamePoint p) w → (out : List ℕ) → AreBoxesNear w boxes out → AreShellsNear areas p out
  shells_by_boxes p round out found = record {
    window = w;
    round = round;
    ascending = found.ascending;
    near = All-weaker (IsBoxNearAt w boxes) (IsShellNearAt areas p) (λ place n. shell_near place n) out found.near;
    whole = λ place n. found.whole place (box_near place n);
  }
    where
      shell_near : (place : ℕ) → IsBoxNearAt w boxes place → IsShellNearAt areas p place
      shell_near place n =
          let area = other_item boxes areas are.count place n.box n.box_is in
          let near = (near_by_boxes area.0 p w n.box round (are.each place area.0 n.box area.1 n.box_is)).1 n.common in
          record { area = area.0; area_is = area.1; near = near }

      box_near : (place : ℕ) → IsShellNearAt areas p place → IsBoxNearAt w boxes place
      box_near place n =
          let box = other_item areas boxes (sym are.count) place n.area n.area_is in
          let common = (near_by_boxes n.area p w box.0 round (are.each place n.area box.0 n.area_is box.1)).0 n.near in
          record { box = box.0; box_is = box.1; common = common }

-- ---- a point is outside of every area whose shell isn't near it
pub near_areas : (f : Figure) (boxes : List Window) (p : Point) (places : List ℕ) → IsWellShaped f → IsValid f → AreShellBoxes f.areas boxes
    → AreShellsNear f.areas p places → AreNearAreas f.areas p places
near_areas f boxes p places shaped valid are found = record {
  ascending = found.ascending;
  within =
      All-weaker (IsShellNearAt f.areas p) (λ place. place < length f.areas)
      (λ place n. slice_get_within f.areas place n.area n.area_is) places
      found.near;
  far = λ place area is none.
      let box = other_item f.areas boxes (sym are.count) place area is in
      let own = are.each place area box.0 is box.1 in
      outside_exterior f shaped valid place area is box.0 own p
      (apart_is_out p found.window box.0 found.round (λ common.
      none
      (found.whole place
      (record { area = area; area_is = is; near = (near_by_boxes area p found.window box.0 found.round own).1 common }))));
}

-- outside of one at a place whose box has no common point with the least box round the point
pub far_area : {f own : Figure} → f ≡ own → IsWellShaped f → IsValid f → {shells : List Window} → AreShellBoxes f.areas shells
    → (place : ℕ) {box : Window} → box ≡ get_or shells place box → (p : Point) {window : Window} → IsLeastWindow (IsSamePoint p) window
    → ¬ HasCommonPoint window box → IsInAreaAt own place p Exterior
far_area {f} {own} same shaped valid {shells} are place {box} item p {window} round apart area at =
    let at_f : IsAtPlace f.areas place area = subst (λ (z : Figure). IsAtPlace z.areas place area) (sym same) at in
    let within = slice_get_within f.areas place area at_f in
    let count = are.count in
    let at_box : IsAtPlace shells place box = slice_get_read shells (length shells) place box refl (omega (arith, count, within)) item in
    sym (outside_exterior f shaped valid place area at_f box (are.each place area box at_f at_box) p
    (apart_is_out p window box round apart))
