-- Items at places of a list, and positions that a test finds equal.
use Rattle.std.proofs.Common.{◌≡◌, ◌-◌, ◌<◌, ℕ, true, List, length, get_or, refl, subst}
use Rattle.std.specs.Prelude.{Some}
use Rattle.std.specs.List.{All}
use Rattle.std.proofs.lemmas.Option.{slice_get_read, slice_get_within, get_or_from_slice_get}
use Rattle.std.specs.Ordering.{int_eq}
use Rattle.std.proofs.lemmas.Bool.{and_parts}
use Rattle.std.proofs.lemmas.Bool.Decides.{Decides-int_eq}
use Rattle.plane_exact.specs.declared.point.Pt.{Pt}
use Rattle.point_set.specs.Rings.{is_same_position}
use Rattle.point_set.specs.Validity.{IsAtPlace}

pub same_position : (p q : Pt) → is_same_position p q ≡ true → p ≡ q
same_position p q h = go (and_parts (int_eq p.x q.x) (int_eq p.y q.y) h)
  where
    go : (int_eq p.x q.x ≡ true) × (int_eq p.y q.y ≡ true) → p ≡ q
    go k =
        let ex : p.x ≡ q.x = (Decides-int_eq p.x q.x).0 k.0 in
        let ey : p.y ≡ q.y = (Decides-int_eq p.y q.y).0 k.1 in
        λ i. record { x = ex i; y = ey i }

pub some_same : {T : Type 0} {x y : T} → Some x ≡ Some y → x ≡ y
some_same e = cc

-- what holds of all items holds of the one at a place
pub all_at : {X : Type 0} (P : X → Type 0) (xs : List X) (i : ℕ) (x : X) → All P xs → IsAtPlace xs i x → P x
all_at P xs i x all is = subst P (get_or_from_slice_get xs i x x is) (all i x (slice_get_within xs i x is))

-- an item that was read within a list is the one at that place
pub read_at : {X : Type 0} (items xs : List X) (i : ℕ) (x : X) → items ≡ xs → i < length items → x ≡ get_or items i x → IsAtPlace xs i x
read_at items xs i x same below is = subst (λ ys. IsAtPlace ys i x) same (slice_get_read items (length items) i x refl below is)
