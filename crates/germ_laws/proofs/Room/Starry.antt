-- Near a point all points in one direction are on the same edges.
use Rattle.std.proofs.Common.{◌≡◌, ◌⊎◌, inl, inr, ℕ, ◌≤◌, ℤ, pos, ◌+ℤ◌, ◌-ℤ◌, ◌*ℤ◌, ◌≤ℤ◌, Bool, true, false, [], ◌∷◌, ap, refl, sym}
use Rattle.std.proofs.Common.{◌∙◌, arith}
use Rattle.std.proofs.lemmas.Bool.{true≢false}
use Rattle.std.proofs.lemmas.Bool.Decides.{not_from_Decides}
use Rattle.std.proofs.lemmas.Int.{by_lt_z}
use Rattle.whole_algebra.proofs.Laws.{linear}
use Rattle.whole_algebra.proofs.Polynomials.{var, num, ◌⊕◌, ◌⊖◌, ◌⊗◌, minus}
use Rattle.whole_algebra.proofs.Certificates.{same, same_from, scaled, ◌⊞◌}
use Rattle.whole_algebra.proofs.Signs.{<ℤ_weaken, pos-*-pos}
use Rattle.plane_laws.proofs.Turns.Turns.{OneSign-zero, shift_same, rise_same}
use Rattle.plane_laws.proofs.Segments.Mixes.{start_on_segment, end_on_segment}
use Rattle.plane_laws.proofs.Points.Same.{same_refl, same_sym}
use Rattle.plane_laws.proofs.Segments.On.{Decides-is_on_segment, on_segment_of_same}
use Rattle.plane_laws.specs.Plane.{Point, IsSamePoint, IsOnSegment, rise, shift}
use Rattle.plane_exact.specs.Places.{point_of}
use Rattle.plane_laws.specs.Directions.{Direction}
use Rattle.plane_exact.specs.declared.point.Pt.{Pt}
use Rattle.plane_exact.specs.declared.point.Seg.{Seg}
use Rattle.plane_laws.specs.Along.{IsInCone}
use Rattle.point_set.specs.Rings.{is_on_edge}
use Rattle.plane_laws.proofs.Near.Near.{IsNear, near_mix}
use Rattle.ring_laws.proofs.Room.Edges.{HasRoom, room}
pub use Rattle.ring_laws.proofs.Germs.Edges.{near_self}
use Rattle.ring_laws.proofs.Germs.Edges.{cone_moved, shift_self, rise_self, on_true, ends_decide, direction_pointed, is_toward}
use Rattle.ring_laws.proofs.Germs.Edges.{Decides-is_toward}
use Rattle.ring_laws.proofs.Germs.Areas.{segment_within}

-- ---- two points in one direction: one of them is on the way to the other
step_on : (cp tp cq tq v vw p pw q qw : ℤ) → cq *ℤ (tp *ℤ ((p *ℤ vw) -ℤ (v *ℤ pw))) ≡ cp *ℤ (tq *ℤ ((q *ℤ vw) -ℤ (v *ℤ qw)))
    → ((cq *ℤ tp) *ℤ vw) *ℤ p ≡ ((((cq *ℤ tp) *ℤ pw) -ℤ ((cp *ℤ tq) *ℤ qw)) *ℤ v) +ℤ (((cp *ℤ tq) *ℤ vw) *ℤ q)
step_on cp tp cq tq v vw p pw q qw e =
    same_from (((var 2 ⊗ var 1) ⊗ var 5) ⊗ var 6)
    (((var 2 ⊗ var 1) ⊗ var 7 ⊖ (var 0 ⊗ var 3) ⊗ var 9) ⊗ var 4 ⊕ ((var 0 ⊗ var 3) ⊗ var 5) ⊗ var 8)
    (cp ∷ tp ∷ cq ∷ tq ∷ v ∷ vw ∷ p ∷ pw ∷ q ∷ qw ∷ [])
    (same (var 2 ⊗ (var 1 ⊗ (var 6 ⊗ var 5 ⊖ var 4 ⊗ var 7))) (var 0 ⊗ (var 3 ⊗ (var 8 ⊗ var 5 ⊖ var 4 ⊗ var 9))) e) refl

step_mass : (cp tp cq tq vw pw qw : ℤ) → ((cq *ℤ tp) *ℤ vw) *ℤ pw ≡ ((((cq *ℤ tp) *ℤ pw) -ℤ ((cp *ℤ tq) *ℤ qw)) *ℤ vw) +ℤ
    (((cp *ℤ tq) *ℤ vw) *ℤ qw)
step_mass cp tp cq tq vw pw qw =
    same_from (((var 2 ⊗ var 1) ⊗ var 4) ⊗ var 5)
    (((var 2 ⊗ var 1) ⊗ var 5 ⊖ (var 0 ⊗ var 3) ⊗ var 6) ⊗ var 4 ⊕ ((var 0 ⊗ var 3) ⊗ var 4) ⊗ var 6)
    (cp ∷ tp ∷ cq ∷ tq ∷ vw ∷ pw ∷ qw ∷ []) (same (num (pos 0)) (num (pos 0)) refl) refl

step_like : (ip jp tp iq jq tq x p q : ℤ) → tp *ℤ p ≡ (ip *ℤ x) +ℤ (jp *ℤ x) → tq *ℤ q ≡ (iq *ℤ x) +ℤ (jq *ℤ x)
    → (iq +ℤ jq) *ℤ (tp *ℤ p) ≡ (ip +ℤ jp) *ℤ (tq *ℤ q)
step_like ip jp tp iq jq tq x p q e f =
    same_from ((var 3 ⊕ var 4) ⊗ (var 2 ⊗ var 7)) ((var 0 ⊕ var 1) ⊗ (var 5 ⊗ var 8)) (ip ∷ jp ∷ tp ∷ iq ∷ jq ∷ tq ∷ x ∷ p ∷ q ∷ [])
    (scaled (var 3 ⊕ var 4) (same (var 2 ⊗ var 7) (var 0 ⊗ var 6 ⊕ var 1 ⊗ var 6) e)
    ⊞ scaled (minus (var 0 ⊕ var 1)) (same (var 5 ⊗ var 8) (var 3 ⊗ var 6 ⊕ var 4 ⊗ var 6) f)) refl

nearer : {v : Point} {d : Direction} {p q : Point} (c : IsInCone v d d p) (k : IsInCone v d d q)
    → (((c.i +ℤ c.j) *ℤ k.times) *ℤ q.w) ≤ℤ (((k.i +ℤ k.j) *ℤ c.times) *ℤ p.w) → IsOnSegment v q p
unfolding shift rise
nearer {v} {d} {p} {q} c k h = record {
  s = (((k.i +ℤ k.j) *ℤ c.times) *ℤ p.w) -ℤ (((c.i +ℤ c.j) *ℤ k.times) *ℤ q.w);
  t = ((c.i +ℤ c.j) *ℤ k.times) *ℤ v.w;
  mix = record {
    first = omega (arith, linear, h);
    second = <ℤ_weaken (pos-*-pos (pos-*-pos c.some k.positive) v.heavy);
    times = ((k.i +ℤ k.j) *ℤ c.times) *ℤ v.w;
    some = pos-*-pos (pos-*-pos k.some c.positive) v.heavy;
    across = step_on (c.i +ℤ c.j) c.times (k.i +ℤ k.j) k.times v.x v.w p.x p.w q.x q.w
        (step_like c.i c.j c.times k.i k.j k.times d.x ((p.x *ℤ v.w) -ℤ (v.x *ℤ p.w)) ((q.x *ℤ v.w) -ℤ (v.x *ℤ q.w)) c.across k.across);
    above = step_on (c.i +ℤ c.j) c.times (k.i +ℤ k.j) k.times v.y v.w p.y p.w q.y q.w
        (step_like c.i c.j c.times k.i k.j k.times d.y ((p.y *ℤ v.w) -ℤ (v.y *ℤ p.w)) ((q.y *ℤ v.w) -ℤ (v.y *ℤ q.w)) c.above k.above);
    mass = step_mass (c.i +ℤ c.j) c.times (k.i +ℤ k.j) k.times v.w p.w q.w;
  };
}

pub ray_order : {v : Point} {d : Direction} {p q : Point} → IsInCone v d d p → IsInCone v d d q → IsOnSegment v q p ⊎ IsOnSegment v p q
ray_order {v} {d} {p} {q} c k =
    by_lt_z (((k.i +ℤ k.j) *ℤ c.times) *ℤ p.w) (((c.i +ℤ c.j) *ℤ k.times) *ℤ q.w) (λ h. inr (nearer k c (<ℤ_weaken h)))
    (λ h. inl (nearer c k h))

-- ---- a point in a direction isn't the point itself
-- nor is a point between two directions that aren't opposite
pub between_apart : {v : Point} {d e : Direction} {p : Point} → ¬ IsInCone v d e v → IsInCone v d e p → ¬ IsSamePoint v p
between_apart {v} {d} {e} {p} pointed c alike = pointed (cone_moved c
    (ap (λ z. c.times *ℤ z) (shift_self v ∙ sym ((OneSign-zero (shift_same (same_refl v) (same_sym alike))).1 (shift_self v))) ∙ c.across)
    (ap (λ z. c.times *ℤ z) (rise_self v ∙ sym ((OneSign-zero (rise_same (same_refl v) (same_sym alike))).1 (rise_self v))) ∙ c.above))

pub not_here : {v : Point} {d : Direction} {p : Point} → IsInCone v d d p → ¬ IsSamePoint v p
not_here {v} {d} c = between_apart (direction_pointed v d) c

-- ---- one edge
pub stub : Pt → Seg
stub p = record { a = p; b = p }

abbrev pub AreAlikeNear : Point → Seg → ℕ → Type 0
AreAlikeNear v e k = (d : Direction) (p q : Point) → IsNear v k p → IsNear v k q → IsInCone v d d p → IsInCone v d d q
    → is_on_edge p e ≡ true → is_on_edge q e ≡ true

pub record IsStarryBeside (v : Point) (e : Seg) : Type 0 where
  pub n : ℕ
  pub alike : (k : ℕ) → n ≤ k → AreAlikeNear v e k

pub starry_beside : (v : Point) (e : Seg) → IsStarryBeside v e
unfolding stub
starry_beside v e = record { n = r.n; alike = go }
  where
    r : HasRoom v (e ∷ stub e.a ∷ stub e.b ∷ [])
    r = room v (e ∷ stub e.a ∷ stub e.b ∷ [])

    -- an end that is near is v
    here : (a : Pt) → (is_on_edge v (stub a) ≡ false → is_on_edge (point_of a) (stub a) ≡ false) → IsSamePoint v (point_of a)
    here a held = by_test (is_on_edge v (stub a)) refl
      where
        by_test : (b : Bool) → is_on_edge v (stub a) ≡ b → IsSamePoint v (point_of a)
        by_test true on = same_sym (on_segment_of_same (same_refl (point_of a)) (on_true on))
        by_test false off = absurd
            (true≢false (sym ((Decides-is_on_segment (point_of a) (point_of a) (point_of a)).1
            (start_on_segment (point_of a) (point_of a))) ∙ held off))

    go : (k : ℕ) → r.n ≤ k → AreAlikeNear v e k
    go k far d p q near_p near_q c c' on = by_v (is_on_edge v e) refl
      where
        on_e : IsOnSegment (point_of e.a) (point_of e.b) q → is_on_edge q e ≡ true
        on_e h = (Decides-is_on_segment (point_of e.a) (point_of e.b) q).1 h

        to_end : (a : Pt) → is_on_edge v e ≡ true → IsOnSegment (point_of e.a) (point_of e.b) (point_of a)
            → (IsNear v k (point_of a) → IsSamePoint v (point_of a)) → IsInCone v d d (point_of a) → is_on_edge q e ≡ true
        to_end a on_v on_a lonely c_a = by_order (ray_order c' c_a)
          where
            by_order : IsOnSegment v (point_of a) q ⊎ IsOnSegment v q (point_of a) → is_on_edge q e ≡ true
            by_order (inl h) = on_e (segment_within (on_true on_v) on_a h)
            by_order (inr h) = absurd (not_here c_a (lonely (near_mix (near_self v k) near_q h)))

        by_ends : (b c : Bool) → is_toward v d (point_of e.a) ≡ b → is_toward v d (point_of e.b) ≡ c → is_on_edge v e ≡ true
            → is_on_edge q e ≡ true
        by_ends true y h l on_v = to_end e.a on_v (start_on_segment (point_of e.a) (point_of e.b))
            (λ near. here e.a (r.free k far (point_of e.a) near).1.0) ((Decides-is_toward v d (point_of e.a)).0 h)
        by_ends false true h l on_v = to_end e.b on_v (end_on_segment (point_of e.a) (point_of e.b))
            (λ near. here e.b (r.free k far (point_of e.b) near).1.1.0) ((Decides-is_toward v d (point_of e.b)).0 l)
        by_ends false false h l on_v =
            absurd (ends_decide v d d (point_of e.a) (point_of e.b) p (direction_pointed v d) (on_true on_v) (on_true on)
            (record {
              first = not_from_Decides (is_toward v d (point_of e.a)) (Decides-is_toward v d (point_of e.a)) h;
              second = not_from_Decides (is_toward v d (point_of e.b)) (Decides-is_toward v d (point_of e.b)) l;
            }) c)

        by_v : (b : Bool) → is_on_edge v e ≡ b → is_on_edge q e ≡ true
        by_v true h = by_ends (is_toward v d (point_of e.a)) (is_toward v d (point_of e.b)) refl refl h
        by_v false h = absurd (true≢false (sym on ∙ (r.free k far p near_p).0 h))
