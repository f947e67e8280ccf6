-- Whether the areas cover what is near a point of a ray: to its left as the sector after the ray, to its right as the sector before it,
-- and ahead and back as the ray itself.
use Rattle.std.proofs.Common.{◌≡◌, ℕ, zero, suc, ◌+◌, ◌*◌, ◌<◌, ℤ, pos, ◌+ℤ◌, ◌-ℤ◌, ◌*ℤ◌, neg_ℤ, ◌<ℤ◌, ◌≤ℤ◌, Bool, true, false}
use Rattle.std.proofs.Common.{[], ◌∷◌, refl, sym, ◌∙◌, arith}
use Rattle.std.proofs.lemmas.Bool.{true≢false}
use lib.IntN.{+ℤ_comm}
use Rattle.whole_algebra.proofs.Laws.{linear}
use Rattle.whole_algebra.proofs.Polynomials.{var, num, ◌⊕◌, ◌⊖◌, ◌⊗◌, minus}
use Rattle.whole_algebra.proofs.Certificates.{natural, positive, at_most, vanishing, same, same_from, less, less_by, whole}
use Rattle.whole_algebra.proofs.Certificates.{scaled, ◌⊞◌, ◌⊠◌}
use Rattle.whole_algebra.proofs.Signs.{by_sign, <ℤ_weaken, <ℤ_apart, pos-*-pos}
use Rattle.plane_laws.specs.Plane.{Point, rise, shift}
use Rattle.plane_laws.specs.Directions.{Direction, bend_of, IsStrictlyWithin}
use Rattle.point_set.specs.declared.figure.Figure.{Figure}
use Rattle.plane_laws.specs.Along.{IsAway, HoldsAlong, IsInCone}
use Rattle.point_set.specs.Location.{is_covered, IsAreaInterior}
use Rattle.point_set.specs.Shape.{IsWellShaped}
use Rattle.plane_laws.proofs.Near.Away.{away_point, away_point_is, away_near, far_for, away_shift, away_rise}
use Rattle.ring_laws.proofs.Germs.Edges.{squares}
use Rattle.germ_laws.proofs.Sectors.Germ.{dot_of_ways}
use Rattle.figure_laws.proofs.Points.Kinds.{interior_is_covered}
use Rattle.plane_laws.proofs.Near.Near.{IsNear, size_of, size_is}
use Rattle.germ_laws.proofs.Room.Germs.{away_cone}
use Rattle.germ_laws.proofs.Room.Starry.{near_self}
use Rattle.kind_laws.proofs.Cover.Neighbourhood.{HasCoverRoom, cover_room, around_from_interior, interior_from_around}
use Rattle.germ_laws.proofs.Room.TwoSteps.{near_near, both_ways, two_steps, two_steps_cone}
use Rattle.germ_laws.proofs.Sectors.Closed.{just_left}
use Rattle.germ_laws.proofs.Sectors.JustRight.{right_turn, right_turn_right, right_bent, just_right}
use Rattle.plane_laws.proofs.Near.Triangles.{HoldsNear, holds_near}
use Rattle.germ_laws.proofs.Room.Ways.{left_turn, left_turn_left}

-- what is covered along a direction isn't uncovered along it
pub not_uncovered : (f : Figure) (v : Point) (d : Direction) → HoldsAlong (λ q. is_covered f q ≡ true) v d
    → HoldsAlong (λ q. is_covered f q ≡ false) v d → ⊥
not_uncovered f v d h k =
    let n = h.from + k.from in
    let q = away_point v d n in
    let away = away_point_is v d n in
    true≢false (sym (h.holds (suc n) (omega arith) q away) ∙ k.holds (suc n) (omega arith) q away)

-- what is interior along a direction is covered along it
pub covered_where_interior : {f : Figure} {v : Point} {d : Direction} → HoldsAlong (λ q. IsAreaInterior f q) v d
    → HoldsAlong (λ q. is_covered f q ≡ true) v d
covered_where_interior h = record { from = h.from; holds = λ n far q away. interior_is_covered (h.holds n far q away) }

-- ---- two steps on one line
-- a long step along r and a short one along t, that has no bend to r, end in the direction of r
level_weight : (rx ry n l dot size : ℤ) → pos 0 ≤ℤ n → pos 0 ≤ℤ l → pos 0 <ℤ ((rx *ℤ rx) +ℤ (ry *ℤ ry)) → (n *ℤ size) <ℤ l
    → neg_ℤ size ≤ℤ dot → pos 0 <ℤ ((l *ℤ ((rx *ℤ rx) +ℤ (ry *ℤ ry))) +ℤ (n *ℤ dot))
level_weight rx ry n l dot size hn hl hr far h =
    less_by (num (pos 0)) (var 3 ⊗ (var 0 ⊗ var 0 ⊕ var 1 ⊗ var 1) ⊕ var 2 ⊗ var 4) (rx ∷ ry ∷ n ∷ l ∷ dot ∷ size ∷ [])
    (λ denied. denied ⊞ natural (var 3) hl ⊠ whole (positive (var 0 ⊗ var 0 ⊕ var 1 ⊗ var 1) hr)
    ⊞ natural (var 2) hn ⊠ at_most (minus (var 5)) (var 4) h ⊞ less (var 2 ⊗ var 5) (var 3) far) refl

-- the sums of the two coordinates
level_across : (k w n l z rx ry tx ty : ℤ) → (rx *ℤ ty) -ℤ (ry *ℤ tx) ≡ pos 0
    → k *ℤ z ≡ (w *ℤ ((l *ℤ rx) +ℤ (n *ℤ tx))) +ℤ (pos 0 *ℤ ((l *ℤ rx) +ℤ (n *ℤ tx)))
    → (k *ℤ ((rx *ℤ rx) +ℤ (ry *ℤ ry))) *ℤ z
    ≡ ((w *ℤ ((l *ℤ ((rx *ℤ rx) +ℤ (ry *ℤ ry))) +ℤ (n *ℤ ((rx *ℤ tx) +ℤ (ry *ℤ ty))))) *ℤ rx) +ℤ (pos 0 *ℤ rx)
level_across k w n l z rx ry tx ty level e =
    same_from ((var 0 ⊗ (var 5 ⊗ var 5 ⊕ var 6 ⊗ var 6)) ⊗ var 4)
    ((var 1 ⊗ (var 3 ⊗ (var 5 ⊗ var 5 ⊕ var 6 ⊗ var 6) ⊕ var 2 ⊗ (var 5 ⊗ var 7 ⊕ var 6 ⊗ var 8))) ⊗ var 5 ⊕ num (pos 0) ⊗ var 5)
    (k ∷ w ∷ n ∷ l ∷ z ∷ rx ∷ ry ∷ tx ∷ ty ∷ [])
    (scaled (var 5 ⊗ var 5 ⊕ var 6 ⊗ var 6)
    (same (var 0 ⊗ var 4) (var 1 ⊗ (var 3 ⊗ var 5 ⊕ var 2 ⊗ var 7) ⊕ num (pos 0) ⊗ (var 3 ⊗ var 5 ⊕ var 2 ⊗ var 7)) e)
    ⊞ scaled (minus (var 1 ⊗ (var 2 ⊗ var 6))) (vanishing (var 5 ⊗ var 8 ⊖ var 6 ⊗ var 7) level)) refl

-- and of the other coordinate
level_above : (k w n l z rx ry tx ty : ℤ) → (rx *ℤ ty) -ℤ (ry *ℤ tx) ≡ pos 0
    → k *ℤ z ≡ (w *ℤ ((l *ℤ ry) +ℤ (n *ℤ ty))) +ℤ (pos 0 *ℤ ((l *ℤ ry) +ℤ (n *ℤ ty)))
    → (k *ℤ ((rx *ℤ rx) +ℤ (ry *ℤ ry))) *ℤ z
    ≡ ((w *ℤ ((l *ℤ ((rx *ℤ rx) +ℤ (ry *ℤ ry))) +ℤ (n *ℤ ((rx *ℤ tx) +ℤ (ry *ℤ ty))))) *ℤ ry) +ℤ (pos 0 *ℤ ry)
level_above k w n l z rx ry tx ty level e =
    let size = +ℤ_comm (ry *ℤ ry) (rx *ℤ rx) in
    let dot = +ℤ_comm (ry *ℤ ty) (rx *ℤ tx) in
    (λ i. (k *ℤ +ℤ_comm (rx *ℤ rx) (ry *ℤ ry) i) *ℤ z) ∙ level_across k w n l z ry rx ty tx (omega (arith, linear, level)) e
    ∙ (λ i. ((w *ℤ ((l *ℤ size i) +ℤ (n *ℤ dot i))) *ℤ ry) +ℤ (pos 0 *ℤ ry))

-- so the end lies in the direction of r
level_cone : {v q p : Point} (r t : Direction) → bend_of r t ≡ pos 0 → (n l : ℕ) → IsAway v r (suc n) q → IsAway q t (suc l) p
    → (pos (suc n) *ℤ pos (size_of (dot_of_ways r t))) <ℤ pos (suc l) → IsInCone v r r p
unfolding bend_of dot_of_ways shift rise
level_cone {v} {q} {p} r t level n l away away' far = record {
  i = ((v.w *ℤ q.w) *ℤ p.w) *ℤ ((pos (suc l) *ℤ ((r.x *ℤ r.x) +ℤ (r.y *ℤ r.y))) +ℤ (pos (suc n) *ℤ ((r.x *ℤ t.x) +ℤ (r.y *ℤ t.y))));
  j = pos 0;
  first = <ℤ_weaken weight;
  second = omega (arith, linear);
  some = omega (arith, linear, weight);
  times = ((pos (suc n) *ℤ pos (suc l)) *ℤ q.w) *ℤ ((r.x *ℤ r.x) +ℤ (r.y *ℤ r.y));
  positive = pos-*-pos (pos-*-pos (pos-*-pos some_n some_l) q.heavy) moves;
  across =
      level_across ((pos (suc n) *ℤ pos (suc l)) *ℤ q.w) ((v.w *ℤ q.w) *ℤ p.w) (pos (suc n)) (pos (suc l)) (shift v p) r.x r.y t.x t.y level
      (two_steps (pos (suc n)) (pos (suc l)) r.x t.x q.x q.w v.x v.w p.x p.w (away_shift away) (away_shift away'));
  above =
      level_above ((pos (suc n) *ℤ pos (suc l)) *ℤ q.w) ((v.w *ℤ q.w) *ℤ p.w) (pos (suc n)) (pos (suc l)) (rise v p) r.x r.y t.x t.y level
      (two_steps (pos (suc n)) (pos (suc l)) r.y t.y q.y q.w v.y v.w p.y p.w (away_rise away) (away_rise away'));
}
  where
    some_n : pos 0 <ℤ pos (suc n)
    some_n = omega (arith, linear)

    some_l : pos 0 <ℤ pos (suc l)
    some_l = omega (arith, linear)

    moves : pos 0 <ℤ ((r.x *ℤ r.x) +ℤ (r.y *ℤ r.y))
    moves = squares r.x r.y r.moves

    weight : pos 0 <ℤ (((v.w *ℤ q.w) *ℤ p.w)
        *ℤ ((pos (suc l) *ℤ ((r.x *ℤ r.x) +ℤ (r.y *ℤ r.y))) +ℤ (pos (suc n) *ℤ ((r.x *ℤ t.x) +ℤ (r.y *ℤ t.y)))))
    weight =
        pos-*-pos (pos-*-pos (pos-*-pos v.heavy q.heavy) p.heavy)
        (level_weight r.x r.y (pos (suc n)) (pos (suc l)) ((r.x *ℤ t.x) +ℤ (r.y *ℤ t.y)) (pos (size_of ((r.x *ℤ t.x) +ℤ (r.y *ℤ t.y))))
        (<ℤ_weaken some_n) (<ℤ_weaken some_l) moves far (size_is ((r.x *ℤ t.x) +ℤ (r.y *ℤ t.y))).above)

-- to the right of r has r to the left
bent_back : (r t : Direction) → bend_of r t <ℤ pos 0 → pos 0 <ℤ bend_of t r
unfolding bend_of
bent_back r t h =
    less_by (num (pos 0)) (var 2 ⊗ var 1 ⊖ var 3 ⊗ var 0) (r.x ∷ r.y ∷ t.x ∷ t.y ∷ [])
    (λ denied. denied ⊞ less (var 0 ⊗ var 3 ⊖ var 1 ⊗ var 2) (num (pos 0)) h) refl

module _ (f : Figure) (shaped : IsWellShaped f) (v : Point) where
  -- how near is near enough
  cover : HasCoverRoom f.areas v
  cover = cover_room f.areas shaped.areas v

  -- near v a point is covered where its direction is
  cover_of_way : (b : Bool) (d : Direction) → HoldsAlong (λ q. is_covered f q ≡ b) v d → (p : Point) → IsNear v cover.n p → IsInCone v d d p
      → is_covered f p ≡ b
  cover_of_way b d held p near c =
      let n = held.from + far_for d cover.n in
      let away = away_point_is v d n in
      let first = away_near cover.n (omega arith) away in
      sym (cover.alike cover.n (omega arith) d (away_point v d n) p first near (away_cone (omega arith) away) c)
      ∙ held.holds (suc n) (omega arith) (away_point v d n) away

  -- how far along r the points v + r/n are near enough for two steps
  pub cover_reach : Direction → ℕ
  cover_reach r = far_for r (cover.n + cover.n)

  -- the points of r from which is looked
  module _ (r : Direction) (n : ℕ) (far : cover_reach r < suc n) (q : Point) (away : IsAway v r (suc n) q) where
    -- a second step that is short enough stays near
    near_twice : (t : Direction) (l : ℕ) → cover_reach t < suc l → (p : Point) → IsAway q t (suc l) p → IsNear v cover.n p
    unfolding cover_reach
    near_twice t l beyond p away' = near_near cover.n (away_near (cover.n + cover.n) far away) (away_near (cover.n + cover.n) beyond away')

    -- along t near q the areas cover what they cover along the directions in which the two steps end, if the second is short enough
    cover_beside : (b : Bool) (t : Direction) (size : ℕ)
        → ((l : ℕ) → (pos (suc n) *ℤ pos size) <ℤ pos (suc l) → (p : Point) → IsAway q t (suc l) p
        → (d : Direction) × HoldsAlong (λ p. is_covered f p ≡ b) v d × IsInCone v d d p) → HoldsAlong (λ p. is_covered f p ≡ b) q t
    cover_beside b t size ends = record { from = bound; holds = at }
      where
        bound : ℕ
        bound = cover_reach t + suc n * size

        at : (m : ℕ) → bound < m → (p : Point) → IsAway q t m p → is_covered f p ≡ b
        at zero beyond p away' = absurd (omega (arith, beyond))
        at (suc l) beyond p away' =
            let end = ends l (omega (arith, linear, beyond)) p away' in
            cover_of_way b end.0 end.1 p (near_twice t l (omega (arith, beyond)) p away') end.2

    -- to the left
    pub cover_left : (s : Direction) (b : Bool) → ((d : Direction) → IsStrictlyWithin r s d → HoldsAlong (λ p. is_covered f p ≡ b) v d)
        → (t : Direction) → pos 0 <ℤ bend_of r t → HoldsAlong (λ p. is_covered f p ≡ b) q t
    cover_left s b sector t left =
        let bent = λ (z : bend_of r t ≡ pos 0). <ℤ_apart left (sym z) in
        cover_beside b t (size_of (bend_of t s)) (λ l short p away'.
        let d = both_ways r t bent n l in
        (d, sector d (just_left r s t left bent n l short), two_steps_cone r t bent n l away away'))

    -- to the right
    pub cover_right : (s : Direction) (b : Bool) → ((d : Direction) → IsStrictlyWithin s r d → HoldsAlong (λ p. is_covered f p ≡ b) v d)
        → (t : Direction) → pos 0 <ℤ bend_of t r → HoldsAlong (λ p. is_covered f p ≡ b) q t
    cover_right s b sector t right =
        let bent = right_bent r t right in
        cover_beside b t (size_of (bend_of s t)) (λ l short p away'.
        let d = both_ways r t bent n l in
        (d, sector d (just_right s r t right bent n l short), two_steps_cone r t bent n l away away'))

    -- ahead and back
    pub cover_level : (b : Bool) → HoldsAlong (λ p. is_covered f p ≡ b) v r → (t : Direction) → bend_of r t ≡ pos 0
        → HoldsAlong (λ p. is_covered f p ≡ b) q t
    cover_level b along t level =
        cover_beside b t (size_of (dot_of_ways r t)) (λ l short p away'. (r, along, level_cone r t level n l away away' short))

  -- along each direction of a sector the union covers, or along none
  abbrev pub IsSectorCovered : Bool → Direction → Direction → Type 0
  IsSectorCovered b r s = (d : Direction) → IsStrictlyWithin r s d → HoldsAlong (λ p. is_covered f p ≡ b) v d

  -- ---- between two covered sectors a covered ray is interior
  pub interior_between : (q r s : Direction) → IsSectorCovered true q r → IsSectorCovered true r s
      → HoldsAlong (λ p. is_covered f p ≡ true) v r → HoldsAlong (λ p. IsAreaInterior f p) v r
  interior_between q r s before after along = record { from = bound; holds = at }
    where
      bound : ℕ
      bound = along.from + cover_reach r

      at : (m : ℕ) → bound < m → (p : Point) → IsAway v r m p → IsAreaInterior f p
      at zero far p away = absurd (omega (arith, far))
      at (suc n) far p away =
          interior_from_around f shaped p (record { here = along.holds (suc n) (omega (arith, far)) p away; along = around })
        where
          near : cover_reach r < suc n
          near = omega (arith, far)

          around : (t : Direction) → HoldsAlong (λ z. is_covered f z ≡ true) p t
          around t =
              by_sign (bend_of r t) (λ h. cover_right r n near p away q true before t (bent_back r t h))
              (λ h. cover_level r n near p away true along t h) (λ h. cover_left r n near p away s true after t h)

  -- ---- beside an uncovered sector nothing on the ray is interior
  -- where about its points some way is uncovered
  bare_along : (r t : Direction) → ((n : ℕ) → cover_reach r < suc n → (p : Point) → IsAway v r (suc n) p
      → HoldsAlong (λ q. is_covered f q ≡ false) p t) → HoldsAlong (λ p. ¬ IsAreaInterior f p) v r
  bare_along r t uncovered = record { from = cover_reach r; holds = at }
    where
      at : (m : ℕ) → cover_reach r < m → (p : Point) → IsAway v r m p → ¬ IsAreaInterior f p
      at zero far p away inside = omega (arith, far)
      at (suc n) far p away inside = not_uncovered f p t ((around_from_interior f p inside).along t) (uncovered n far p away)

  -- as where the sector after the ray is uncovered
  pub bare_left : (r s : Direction) → IsSectorCovered false r s → HoldsAlong (λ p. ¬ IsAreaInterior f p) v r
  bare_left r s after =
      bare_along r (left_turn r) (λ n far p away. cover_left r n far p away s false after (left_turn r) (left_turn_left r))

  -- or the sector before it
  pub bare_right : (q r : Direction) → IsSectorCovered false q r → HoldsAlong (λ p. ¬ IsAreaInterior f p) v r
  bare_right q r before =
      bare_along r (right_turn r) (λ n far p away. cover_right r n far p away q false before (right_turn r) (right_turn_right r))

  -- ---- what is interior is so in all directions
  pub interior_is_open : IsAreaInterior f v → (d : Direction) → HoldsAlong (λ p. IsAreaInterior f p) v d
  interior_is_open h d = record { from = far_for d (t.n + t.n); holds = at }
    where
      t : HoldsNear h.a h.b h.c v
      t = holds_near h.a h.b h.c v h.strictly

      at : (m : ℕ) → far_for d (t.n + t.n) < m → (p : Point) → IsAway v d m p → IsAreaInterior f p
      at m far p away =
          interior_from_around f shaped p (record {
            here = holds p (near_self p (t.n + t.n));
            along = λ e. record {
              from = far_for e (t.n + t.n);
              holds = λ l beyond z away'. holds z (away_near (t.n + t.n) beyond away');
            };
          })
        where
          holds : (z : Point) → IsNear p (t.n + t.n) z → is_covered f z ≡ true
          holds z near = h.covered z (t.held z (near_near t.n (away_near (t.n + t.n) far away) near))
