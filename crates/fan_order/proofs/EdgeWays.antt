-- The sections of an edge: the way from one of its ends to the other, and the list that the sections are added to.
use Rattle.std.proofs.Common.{◌≡◌, ℤ, pos, ◌-ℤ◌, ◌≤◌, unsigned_abs, w64, Bool, true, false, List, [], ◌∷◌, ◌++◌, append_assoc, append-nil}
use Rattle.std.proofs.Common.{refl, sym, ◌∙◌, ap, subst, arith}
use Rattle.std.specs.List.{All}
use Rattle.std.proofs.lemmas.Int.{ints}
use Rattle.std.proofs.lemmas.List.Elements.{All-push}
use Rattle.im_matrix.specs.declared.Which.{Which}
use Rattle.whole_algebra.proofs.Computed.{Computes, read, difference, stored, narrow}
use Rattle.plane_laws.specs.Plane.{Point, IsSamePoint, is_same_point}
use Rattle.plane_laws.proofs.Points.Same.{Decides-is_same_point}
use Rattle.plane_exact.specs.Limits.{spread}
use Rattle.plane_exact.specs.Directions.{IsWay}
use Rattle.plane_exact.specs.Places.{IsInLimit, point_of}
use Rattle.plane_exact.specs.declared.dir.Dir.{Dir}
use Rattle.plane_exact.specs.declared.point.Pt.{Pt}
use Rattle.plane_exact.proofs.Laws.{abscissa_size, height_size}
use Rattle.point_set.specs.declared.edge.Edge.{Edge}
use Rattle.point_set.specs.Edges.{far_end}
use Rattle.fan_order.specs.declared.section.Section.{Section}
use Rattle.fan_order.specs.Rays.{IsShort}
use Rattle.fan_order.specs.Sections.{IsSectionOfEdge, AreToward, AddsSectionsOf}

-- ---- the way from one position to another
-- the code's difference of two coordinates is exact
step : (x y : ℤ) → unsigned_abs x ≤ 1048575 → unsigned_abs y ≤ 1048575 → Computes (narrow (narrow y -ℤ narrow x)) (y -ℤ x) spread
step x y h k = stored w64 (difference (read w64 y k refl) (read w64 x h refl)) refl

-- to the right
pub across_is : (a b : Pt) → IsInLimit a → IsInLimit b → narrow (narrow b.x -ℤ narrow a.x) ≡ b.x -ℤ a.x
across_is a b h k = (step a.x b.x (abscissa_size a h) (abscissa_size b k)).is

-- and up
pub above_is : (a b : Pt) → IsInLimit a → IsInLimit b → narrow (narrow b.y -ℤ narrow a.y) ≡ b.y -ℤ a.y
above_is a b h k = (step a.y b.y (height_size a h) (height_size b k)).is

-- two positions without a way between them are one
no_way : (a b : Pt) → b.x -ℤ a.x ≡ pos 0 → b.y -ℤ a.y ≡ pos 0 → a ≡ b
no_way a b h k =
    let ex : a.x ≡ b.x = omega (arith, ints, h) in
    let ey : a.y ≡ b.y = omega (arith, ints, k) in
    λ i. record { x = ex i; y = ey i }

-- the way between two positions is one of a direction
pub IsWay-between : (a b : Pt) → IsInLimit a → IsInLimit b → ¬ (a ≡ b) → IsWay (b.x -ℤ a.x) (b.y -ℤ a.y)
IsWay-between a b h k apart = record {
  left = omega (arith, ints, h.left, h.right, k.left, k.right);
  right = omega (arith, ints, h.left, h.right, k.left, k.right);
  bottom = omega (arith, ints, h.bottom, h.top, k.bottom, k.top);
  top = omega (arith, ints, h.bottom, h.top, k.bottom, k.top);
  turned = λ z. apart (no_way a b z.0 z.1);
}

-- and it is short
IsShort-between : (a b : Pt) → IsInLimit a → IsInLimit b → (d : Dir) → d.dx ≡ b.x -ℤ a.x → d.dy ≡ b.y -ℤ a.y → IsShort d
IsShort-between a b h k d ex ey = record {
  across = subst (λ (z : ℤ). unsigned_abs z ≤ spread) (sym ex) (omega (arith, ints, h.left, h.right, k.left, k.right));
  above = subst (λ (z : ℤ). unsigned_abs z ≤ spread) (sym ey) (omega (arith, ints, h.bottom, h.top, k.bottom, k.top));
}

-- so the directions of an edge's sections are short
pub IsShort-section : (which : Which) (edge : Edge) → IsInLimit edge.seg.a → IsInLimit edge.seg.b → (forward : Bool) (s : Section)
    → IsSectionOfEdge which edge forward s → IsShort s.dir
IsShort-section which edge a b true s h = IsShort-between edge.seg.a edge.seg.b a b s.dir h.across h.above
IsShort-section which edge a b false s h = IsShort-between edge.seg.b edge.seg.a b a s.dir h.across h.above

-- ---- what is added
-- the list before and after one section, with what was added
pub record HasGrown (which : Which) (edge : Edge) (v : Point) (forward : Bool) (old new : List Section) : Type 0 where
  pub more : List Section
  pub are : AreToward which edge v forward more
  pub new_is : new ≡ old ++ more
  pub short : IsInLimit edge.seg.a → IsInLimit edge.seg.b → All (λ s. IsShort s.dir) old → All (λ s. IsShort s.dir) new

-- by whether the point is at the end
pub grown : (which : Which) (edge : Edge) (v : Point) (forward : Bool) (old new : List Section) (s : Section)
    → IsSectionOfEdge which edge forward s → (IsSamePoint (point_of (far_end forward edge.seg)) v → new ≡ old)
    → (¬ IsSamePoint (point_of (far_end forward edge.seg)) v → new ≡ old ++ s ∷ []) → HasGrown which edge v forward old new
grown which edge v forward old new s is here away = go (is_same_point end v) refl
  where
    end : Point
    end = point_of (far_end forward edge.seg)

    go : (b : Bool) → is_same_point end v ≡ b → HasGrown which edge v forward old new
    go true e =
        let at = (Decides-is_same_point end v).0 e in
        record {
          more = [];
          are = record { here = λ _. refl; away = λ n. absurd (n at) };
          new_is = here at ∙ sym (append-nil old);
          short = λ _ _ h. subst (λ (xs : List Section). All (λ t. IsShort t.dir) xs) (sym (here at)) h;
        }
    go false e =
        let off : ¬ IsSamePoint end v = λ h. let t = sym e ∙ (Decides-is_same_point end v).1 h in cc in
        record {
          more = s ∷ [];
          are = record { here = λ h. absurd (off h); away = λ _. (s, refl, is) };
          new_is = away off;
          short = λ a b h.
              subst (λ (xs : List Section). All (λ t. IsShort t.dir) xs) (sym (away off))
              (All-push (λ t. IsShort t.dir) old s h (IsShort-section which edge a b forward s is));
        }

-- first towards the end, then back
pub grown_twice : (which : Which) (edge : Edge) (v : Point) (old mid new : List Section) → HasGrown which edge v true old mid
    → HasGrown which edge v false mid new → AddsSectionsOf which edge v old new
grown_twice which edge v old mid new h k = record {
  more = h.more ++ k.more;
  are = record { ahead = h.more; back = k.more; parts = refl; are_ahead = h.are; are_back = k.are };
  new_is = k.new_is ∙ ap (λ (xs : List Section). xs ++ k.more) h.new_is ∙ append_assoc old h.more k.more;
}
