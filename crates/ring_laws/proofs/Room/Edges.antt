-- Room round a point: near a point only those edges of a list lie that hold it.
use Rattle.std.proofs.Common.{◌≡◌, ℕ, ◌+◌, ◌≤◌, Bool, true, false, List, [], ◌∷◌, refl, sym, ◌∙◌, arith}
use Rattle.std.proofs.lemmas.Bool.{false_from_ne_true, true≢false}
use lib.Signed.{<ℤ_irrefl, <ℤ-≤ℤ_trans}
use Rattle.plane_laws.proofs.Segments.On.{Decides-is_on_segment}
use Rattle.plane_laws.specs.Plane.{Point}
use Rattle.plane_exact.specs.Places.{point_of}
use Rattle.plane_exact.specs.declared.point.Seg.{Seg}
use Rattle.point_set.specs.Rings.{is_on_edge}
use Rattle.plane_laws.proofs.Near.Parted.{AreParted, affine_on, off_parted}
use Rattle.plane_laws.proofs.Near.Near.{IsNear, reach_of, positive_near}

-- ---- room
-- each of the edges that holds p holds v
abbrev pub HoldBoth : Point → Point → List Seg → Type 0
HoldBoth v p [] = Unit {0}
HoldBoth v p (e ∷ edges) = (is_on_edge v e ≡ false → is_on_edge p e ≡ false) × HoldBoth v p edges

-- nearer to v than 1/n there is no edge that doesn't hold v
pub record HasRoom (v : Point) (edges : List Seg) : Type 0 where
  pub n : ℕ
  pub free : (k : ℕ) → n ≤ k → (p : Point) → IsNear v k p → HoldBoth v p edges

record HasRoomBeside (v : Point) (e : Seg) : Type 0 where
  n : ℕ
  free : (k : ℕ) → n ≤ k → (p : Point) → IsNear v k p → is_on_edge v e ≡ false → is_on_edge p e ≡ false

room_beside : (v : Point) (e : Seg) → HasRoomBeside v e
room_beside v e = go (is_on_edge v e) refl
  where
    parted_room : AreParted (point_of e.a) (point_of e.b) v → HasRoomBeside v e
    parted_room parted = record {
      n = reach_of parted.by v;
      free = λ k far p near off.
          false_from_ne_true (is_on_edge p e)
          (λ on. <ℤ_irrefl (<ℤ-≤ℤ_trans (positive_near parted.by v p k parted.positive_at far near)
          (affine_on parted.by ((Decides-is_on_segment (point_of e.a) (point_of e.b) p).0 on) parted.first parted.second)));
    }

    go : (b : Bool) → is_on_edge v e ≡ b → HasRoomBeside v e
    go true on = record { n = 0; free = λ k far p near off. absurd (true≢false (sym on ∙ off)) }
    go false off = parted_room (off_parted (point_of e.a) (point_of e.b) v off)

pub room : (v : Point) (edges : List Seg) → HasRoom v edges
room v [] = record { n = 0; free = λ k far p near. tt }
room v (e ∷ edges) =
    let first = room_beside v e in
    let rest = room v edges in
    record {
      n = first.n + rest.n;
      free = λ k far p near. (first.free k (omega arith) p near, rest.free k (omega arith) p near);
    }
