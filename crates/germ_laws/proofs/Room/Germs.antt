-- The location of a near point is the germ in its direction.
use Rattle.std.proofs.Common.{◌≡◌, ℕ, ◌+◌, ◌≤◌, ◌<◌, ℤ, ◌+ℤ◌, ◌*ℤ◌, Bool, true, false, ◌||◌, List, [], ◌∷◌, ap, refl, sym, ◌∙◌}
use Rattle.std.proofs.Common.{arith}
use Rattle.std.specs.List.{list_any}
use Rattle.im_matrix.specs.declared.Loc.TheVariants.{Boundary}
use Rattle.whole_algebra.proofs.Polynomials.{var, ◌⊕◌, ◌⊗◌}
use Rattle.whole_algebra.proofs.Certificates.{same, same_from, scaled, ◌⊞◌}
use Rattle.whole_algebra.proofs.Signs.{<ℤ_weaken, pos-*-pos, nonneg-*-nonneg}
use Rattle.plane_laws.proofs.Segments.Mixes.{start_on_segment}
use Rattle.plane_laws.specs.Plane.{Point, IsOnSegment, rise, shift}
use Rattle.plane_laws.specs.Directions.{Direction}
use Rattle.plane_exact.specs.declared.point.Seg.{Seg}
use Rattle.point_set.specs.declared.figure.Area.{Area}
use Rattle.plane_laws.specs.Along.{IsAway, IsInCone}
use Rattle.point_set.specs.Germ.{IsGerm}
use Rattle.point_set.specs.Location.{location, location_by, edges_of_rings, rings_of}
use Rattle.point_set.specs.Rings.{is_on_edge, is_on_edges, is_inside}
use Rattle.point_set.specs.Shape.{IsAreaShaped}
use Rattle.plane_laws.proofs.Near.Near.{IsNear, near_mix, shift_mix, rise_mix}
use Rattle.plane_laws.proofs.Near.Away.{cone_some, away_near, far_for, between_in_cone, some_weight}
use Rattle.ring_laws.proofs.Germs.Areas.{location_stays}
use Rattle.germ_laws.proofs.Room.Starry.{starry_beside}

pub bool_same : (b c : Bool) → (b ≡ true → c ≡ true) → (c ≡ true → b ≡ true) → b ≡ c
bool_same true c h k = sym (h refl)
bool_same false true h k = k refl
bool_same false false h k = refl

abbrev pub AreAllAlike : Point → Point → List Seg → Type 0
AreAllAlike p q [] = Unit {0}
AreAllAlike p q (e ∷ edges) = (is_on_edge p e ≡ is_on_edge q e) × AreAllAlike p q edges

pub record IsStarry (v : Point) (edges : List Seg) : Type 0 where
  pub n : ℕ
  pub alike : (k : ℕ) → n ≤ k → (d : Direction) (p q : Point) → IsNear v k p → IsNear v k q → IsInCone v d d p → IsInCone v d d q
      → AreAllAlike p q edges

pub starry : (v : Point) (edges : List Seg) → IsStarry v edges
starry v [] = record { n = 0; alike = λ k far d p q near_p near_q c c'. tt }
starry v (e ∷ edges) =
    let first = starry_beside v e in
    let rest = starry v edges in
    record {
      n = first.n + rest.n;
      alike = λ k far d p q near_p near_q c c'. (
        bool_same (is_on_edge p e) (is_on_edge q e) (first.alike k (omega arith) d p q near_p near_q c c')
            (first.alike k (omega arith) d q p near_q near_p c' c),
        rest.alike k (omega arith) d p q near_p near_q c c',
      );
    }

pub alike_on_edges : (p q : Point) (edges : List Seg) → AreAllAlike p q edges → is_on_edges p edges ≡ is_on_edges q edges
alike_on_edges p q [] h = refl
alike_on_edges p q (e ∷ edges) h = λ i. h.0 i || alike_on_edges p q edges h.1 i

-- ---- what is between two points in a direction is in that direction
cone_step : (k s t ip jp tp iq jq tq x z p q : ℤ) → k *ℤ z ≡ (s *ℤ p) +ℤ (t *ℤ q) → tp *ℤ p ≡ (ip *ℤ x) +ℤ (jp *ℤ x)
    → tq *ℤ q ≡ (iq *ℤ x) +ℤ (jq *ℤ x) → (k *ℤ (tp *ℤ tq)) *ℤ z ≡ (((s *ℤ tq) *ℤ (ip +ℤ jp)) *ℤ x) +ℤ (((t *ℤ tp) *ℤ (iq +ℤ jq)) *ℤ x)
cone_step k s t ip jp tp iq jq tq x z p q e f g =
    same_from ((var 0 ⊗ (var 5 ⊗ var 8)) ⊗ var 10)
    (((var 1 ⊗ var 8) ⊗ (var 3 ⊕ var 4)) ⊗ var 9 ⊕ ((var 2 ⊗ var 5) ⊗ (var 6 ⊕ var 7)) ⊗ var 9)
    (k ∷ s ∷ t ∷ ip ∷ jp ∷ tp ∷ iq ∷ jq ∷ tq ∷ x ∷ z ∷ p ∷ q ∷ [])
    (scaled (var 5 ⊗ var 8) (same (var 0 ⊗ var 10) (var 1 ⊗ var 11 ⊕ var 2 ⊗ var 12) e)
    ⊞ scaled (var 1 ⊗ var 8) (same (var 5 ⊗ var 11) (var 3 ⊗ var 9 ⊕ var 4 ⊗ var 9) f)
    ⊞ scaled (var 2 ⊗ var 5) (same (var 8 ⊗ var 12) (var 6 ⊗ var 9 ⊕ var 7 ⊗ var 9) g)) refl

pub cone_mix : {v : Point} {d : Direction} {p q m : Point} → IsInCone v d d p → IsInCone v d d q → IsOnSegment p q m → IsInCone v d d m
cone_mix {v} {d} {p} {q} {m} c k on =
    let x = on.mix in
    record {
      i = (on.s *ℤ k.times) *ℤ (c.i +ℤ c.j);
      j = (on.t *ℤ c.times) *ℤ (k.i +ℤ k.j);
      first = nonneg-*-nonneg (nonneg-*-nonneg x.first (<ℤ_weaken k.positive)) (<ℤ_weaken c.some);
      second = nonneg-*-nonneg (nonneg-*-nonneg x.second (<ℤ_weaken c.positive)) (<ℤ_weaken k.some);
      some = cone_some on.s on.t c.times k.times (c.i +ℤ c.j) (k.i +ℤ k.j) x.first x.second
          (some_weight x) c.positive k.positive c.some k.some;
      times = x.times *ℤ (c.times *ℤ k.times);
      positive = pos-*-pos x.some (pos-*-pos c.positive k.positive);
      across = cone_step x.times on.s on.t c.i c.j c.times k.i k.j k.times d.x (shift v m) (shift v p) (shift v q)
          (shift_mix v x) c.across k.across;
      above = cone_step x.times on.s on.t c.i c.j c.times k.i k.j k.times d.y (rise v m) (rise v p) (rise v q)
          (rise_mix v x) c.above k.above;
    }

pub away_cone : {v : Point} {d : Direction} {n : ℕ} {p : Point} → 0 < n → IsAway v d n p → IsInCone v d d p
away_cone {v} {d} {n} {p} h away = between_in_cone h h away away (start_on_segment p p)

-- ---- the location of a near point
pub on_boundary : (area : Area) (p : Point) → is_on_edges p (edges_of_rings (rings_of area)) ≡ true → location area p ≡ Boundary
on_boundary area p h = ap (λ z. location_by z (is_inside p area.shell) (list_any (is_inside p) area.holes)) h

pub location_alike : (area : Area) → IsAreaShaped area → (v : Point) (r : IsStarry v (edges_of_rings (rings_of area))) (k : ℕ) → r.n ≤ k
    → (d : Direction) (p q : Point) → IsNear v k p → IsNear v k q → IsInCone v d d p → IsInCone v d d q → location area p ≡ location area q
location_alike area shaped v r k far d p q near_p near_q c c' = by_test (is_on_edges q edges) refl
  where
    edges : List Seg
    edges = edges_of_rings (rings_of area)

    alike : (m : Point) → IsNear v k m → IsInCone v d d m → is_on_edges m edges ≡ is_on_edges q edges
    alike m near c_m = alike_on_edges m q edges (r.alike k far d m q near near_q c_m c')

    by_test : (b : Bool) → is_on_edges q edges ≡ b → location area p ≡ location area q
    by_test true h = on_boundary area p (alike p near_p c ∙ h) ∙ sym (on_boundary area q h)
    by_test false h = location_stays p q area shaped (record { off = λ m on. alike m (near_mix near_p near_q on) (cone_mix c c' on) ∙ h })

pub record HasGermRoom (area : Area) (v : Point) : Type 0 where
  pub n : ℕ
  pub germ : (k : ℕ) → n ≤ k → (q : Point) → IsNear v k q → (d : Direction) → IsInCone v d d q → IsGerm area v d (location area q)

pub germ_room : (area : Area) → IsAreaShaped area → (v : Point) → HasGermRoom area v
germ_room area shaped v =
    let r = starry v (edges_of_rings (rings_of area)) in
    record {
      n = r.n;
      germ = λ k far q near d c.
          record {
            from = far_for d k;
            holds = λ n beyond p away. location_alike area shaped v r k far d p q (away_near k beyond away) near
                (away_cone (omega arith) away) c;
          };
    }
