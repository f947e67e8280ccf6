-- An envelope that sticks out of a box has a position outside of the box.
use Rattle.std.proofs.Common.{◌≡◌, ◌⊎◌, inl, inr, ◌≤ℤ◌, Bool, true, false, not, ◌||◌, ◌&&◌, List, [], ◌∷◌, ap, refl, sym}
use Rattle.std.proofs.Common.{◌∙◌, arith}
use Rattle.std.specs.Prelude.{Option, Some, None}
use Rattle.std.specs.List.{AllByRecursion}
use Rattle.std.proofs.lemmas.Bool.{true≢false, or_left, or_right}
use Rattle.whole_algebra.proofs.Laws.{linear, *ℤ_one}
use Rattle.plane_laws.specs.Plane.{Point}
use Rattle.plane_exact.specs.Places.{point_of}
use Rattle.plane_exact.specs.Windows.{IsInWindow, IsWithin}
use Rattle.plane_exact.specs.declared.point.Pt.{Pt}
use Rattle.plane_exact.specs.declared.window.Window.{Window}
use Rattle.point_set.specs.Lines.{is_at, is_at_some}
use Rattle.point_set.specs.Extents.{IsEnvelope}
use Rattle.box_laws.specs.Boxes.{is_within, sticks_out, IsInBox}
use Rattle.plane_laws.proofs.Points.Same.{same_refl, same_sym, Decides-is_same_point}
use Rattle.plane_laws.proofs.Segments.Mixes.{start_on_segment, segment_same}
use Rattle.plane_laws.proofs.Segments.On.{Decides-int_le}
use Rattle.plane_exact.proofs.Laws.{in_window-mix}
use Rattle.box_laws.proofs.Boxes.Sides.{none_inside, in_window, in_box_decided}
use Rattle.box_laws.proofs.Envelopes.Ways.{at_itself}

-- ---- a position outside of a box
-- some position of a list is outside of a box
pub record HasFarPosition (w : Option Window) (positions : List Pt) : Type 0 where
  pub p : Pt
  pub at : is_at_some (point_of p) positions ≡ true
  pub out : ¬ IsInBox w (point_of p)

-- all positions are in the box, or one isn't
all_or_far : (w : Option Window) (positions : List Pt) → AllByRecursion (λ p. IsInBox w (point_of p)) positions ⊎ HasFarPosition w positions
all_or_far w [] = inl tt
all_or_far w (p ∷ positions) = by (in_box_decided w (point_of p)) (all_or_far w positions)
  where
    by :
        IsInBox w (point_of p) ⊎ (¬ IsInBox w (point_of p)) → AllByRecursion (λ q. IsInBox w (point_of q)) positions
        ⊎ HasFarPosition w positions
        → AllByRecursion (λ q. IsInBox w (point_of q)) (p ∷ positions) ⊎ HasFarPosition w (p ∷ positions)
    by (inr out) rest =
        inr (record { p = p; at = or_left (is_at (point_of p) p) (is_at_some (point_of p) positions) (at_itself p); out = out })
    by (inl inside) (inl all) = inl (inside, all)
    by (inl inside) (inr far) =
        inr (record { p = far.p; at = or_right (is_at (point_of far.p) p) (is_at_some (point_of far.p) positions) far.at; out = far.out })

-- a point at a position that is in a window is in it
at_in_window : (w : Window) (p : Pt) → IsInWindow w (point_of p) → (m : Point) → is_at m p ≡ true → IsInWindow w m
at_in_window w p h m at =
    let left : w.low_x ≤ℤ p.x = let k = h.left in omega (arith, linear, k, *ℤ_one w.low_x) in
    let right : p.x ≤ℤ w.high_x = let k = h.right in omega (arith, linear, k, *ℤ_one w.high_x) in
    let bottom : w.low_y ≤ℤ p.y = let k = h.bottom in omega (arith, linear, k, *ℤ_one w.low_y) in
    let top : p.y ≤ℤ w.high_y = let k = h.top in omega (arith, linear, k, *ℤ_one w.high_y) in
    in_window-mix w p p m left left right right bottom bottom top top
    (segment_same (same_refl (point_of p)) (same_refl (point_of p)) (same_sym ((Decides-is_same_point m (point_of p)).0 at))
    (start_on_segment (point_of p) (point_of p)))

-- where all positions are in a window, all points at positions are
all_in_window :
    (w : Window) (positions : List Pt) → AllByRecursion (λ p. IsInBox (Some w) (point_of p)) positions → (m : Point)
    → is_at_some m positions ≡ true → IsInWindow w m
all_in_window w [] all m h = absurd (true≢false (sym h))
all_in_window w (p ∷ positions) all m h = by (is_at m p) refl h (all_in_window w positions all.1 m)
  where
    by :
        (b : Bool) → is_at m p ≡ b → b || is_at_some m positions ≡ true → (is_at_some m positions ≡ true → IsInWindow w m) → IsInWindow w m
    by true at k rest = at_in_window w p (in_window all.0) m at
    by false at k rest = rest k

-- the test of being within, from what it tests
test_of_within : (inner outer : Window) → IsWithin inner outer → is_within inner outer ≡ true
test_of_within inner outer h =
    both (both ((Decides-int_le outer.low_x inner.low_x).1 h.left) ((Decides-int_le inner.high_x outer.high_x).1 h.right))
    (both ((Decides-int_le outer.low_y inner.low_y).1 h.bottom) ((Decides-int_le inner.high_y outer.high_y).1 h.top))
  where
    both : {b c : Bool} → b ≡ true → c ≡ true → b && c ≡ true
    both h k = (λ i. h i && k i)

-- so an envelope that sticks out has a position outside
pub far_position :
    (positions : List Pt) (envelope w : Option Window) → IsEnvelope positions envelope → sticks_out envelope w ≡ true
    → HasFarPosition w positions
far_position positions None w is h = absurd (true≢false (sym h))
far_position positions (Some box) None is h = by positions is.0
  where
    by : (others : List Pt) → ¬ (others ≡ []) → HasFarPosition None others
    by [] some = absurd (some refl)
    by (p ∷ others) some = record {
      p = p;
      at = or_left (is_at (point_of p) p) (is_at_some (point_of p) others) (at_itself p);
      out = none_inside;
    }
far_position positions (Some box) (Some w) is h = elim (all_or_far (Some w) positions) [
  | inl all ↦ absurd (true≢false (sym h ∙ ap not (test_of_within box w (is.1.least w (all_in_window w positions all)))))
  | inr far ↦ far
]
