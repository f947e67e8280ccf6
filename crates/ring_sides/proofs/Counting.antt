-- The count of crossings along a way, one position on.
use Rattle.std.proofs.Common.{◌≡◌, ℕ, ◌+◌, ◌<◌, Bool, true, false, not, List, ◌∷◌, length, drop, get_or, ap, refl, sym, ◌∙◌, subst, add-one}
use Rattle.std.proofs.Math.Seq.{drop-cons}
use Rattle.plane_laws.specs.Plane.{Point, turn}
use Rattle.plane_exact.specs.Places.{point_of}
use Rattle.plane_exact.specs.declared.point.Pt.{Pt}
use Rattle.plane_exact.specs.declared.point.Seg.{Seg}
use Rattle.point_set.specs.Rings.{is_same_position, edge_before, edges_after, is_low, crosses, differ, is_odd}
use Rattle.ring_laws.proofs.Parity.Tests.{differ_assoc}
use Rattle.figure_laws.proofs.Lists.Places.{same_position}
use Rattle.side_laws.proofs.Rings.Ray.{crosses_level}

no_crossing : (m : Point) (p : Pt) → crosses m (record { a = p; b = p }) ≡ false
no_crossing m p = crosses_level (is_low m (point_of p)) (is_low m (point_of p)) (turn (point_of p) (point_of p) m) refl

-- two equal positions are no edge, and a ray crosses nothing there
pub odd_before :
    (m : Point) (same : Bool) (p q : Pt) (edges : List Seg) → is_same_position p q ≡ same
    → is_odd m (edge_before same p q edges) ≡ differ (crosses m (record { a = p; b = q })) (is_odd m edges)
odd_before m false p q edges h = refl
odd_before m true p q edges h = sym (ap (λ z. differ z (is_odd m edges)) (uncrossed (same_position p q h)))
  where
    uncrossed : p ≡ q → crosses m (record { a = p; b = q }) ≡ false
    uncrossed e = subst (λ r. crosses m (record { a = p; b = r }) ≡ false) e (no_crossing m p)

pub odd_step :
    (m : Point) (first : Pt) (others : List Pt) (last : Pt) (i : ℕ) (odd : Bool) (d : Pt) → i < length others
    → is_odd m (edges_after first others) ≡ differ odd (is_odd m (edges_after last (drop i others)))
    → is_odd m (edges_after first others) ≡ differ (differ odd (crosses m (record { a = last; b = get_or others i d })))
    (is_odd m (edges_after (get_or others i d) (drop (i + 1) others)))
odd_step m first others last i odd d below h =
    let p = get_or others i d in
    h ∙ ap (λ left. differ odd (is_odd m (edges_after last left)))
    (drop-cons others i d below ∙ ap (λ n. p ∷ drop n others) (sym (add-one i)))
    ∙ ap (differ odd) (odd_before m (is_same_position last p) last p (edges_after p (drop (i + 1) others)) refl)
    ∙ sym (differ_assoc odd (crosses m (record { a = last; b = p })) (is_odd m (edges_after p (drop (i + 1) others))))

pub toggled : (b c : Bool) → c ≡ true → differ b c ≡ not b
toggled true c h = ap not h
toggled false c h = h

pub kept : (b c : Bool) → c ≡ false → b ≡ differ b c
kept true c h = sym (ap not h)
kept false c h = sym h
