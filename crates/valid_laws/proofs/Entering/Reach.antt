-- From a point to an edge.
use Rattle.std.proofs.Common.{◌≡◌, ◌≢◌, ◌⊎◌, inl, inr, ℕ, zero, suc, ◌+◌, ◌<◌, ℤ, pos, ◌+ℤ◌, ◌*ℤ◌, neg_ℤ, ◌<ℤ◌, not, Bool, true, false}
use Rattle.std.proofs.Common.{◌||◌, List, [], ◌∷◌, ◌++◌, ap, refl, sym, ◌∙◌, subst, arith}
use Rattle.std.specs.List.{list_any}
use Rattle.std.proofs.lemmas.Bool.{true≢false, false_from_ne_true, and_parts, or_left, or_right, or_parts, or_from}
use Rattle.im_matrix.specs.declared.Loc.{Loc}
use Rattle.im_matrix.specs.declared.Loc.TheVariants.{Interior, Boundary}
use Rattle.plane_laws.proofs.Segments.Mixes.{start_on_segment, end_on_segment, segment_flip, segment_same}
use Rattle.plane_laws.proofs.Segments.On.{same_from_steps, Decides-is_on_segment}
use lib.Signed.{<ℤ_irrefl}
use lib.IntN.{*ℤ-zero}
use Rattle.whole_algebra.proofs.Laws.{linear}
use Rattle.whole_algebra.proofs.Polynomials.{var, num, minus, ◌⊕◌, ◌⊖◌, ◌⊗◌}
use Rattle.whole_algebra.proofs.Certificates.{same, same_from, scaled, ◌⊞◌}
use Rattle.whole_algebra.proofs.Signs.{by_sign, zero_factor, pos_nonzero, <ℤ_apart}
use Rattle.plane_laws.proofs.Points.Same.{same_refl, same_sym, same_trans, Decides-is_same_point}
use Rattle.plane_laws.specs.Plane.{Point, IsOnSegment, IsSamePoint, is_same_point, rise, shift}
use Rattle.plane_exact.specs.Places.{point_of}
use Rattle.plane_laws.specs.Directions.{Direction}
use Rattle.plane_exact.specs.declared.point.Seg.{Seg}
use Rattle.point_set.specs.declared.figure.Area.{Area}
use Rattle.point_set.specs.Rings.{edges_of, is_odd, is_on_edge, is_on_edges, is_inside}
use Rattle.point_set.specs.Location.{location, location_by, edges_of_rings}
use Rattle.point_set.specs.Shape.{IsAreaShaped}
use Rattle.plane_laws.specs.Along.{IsAway, IsInCone}
use Rattle.point_set.specs.Germ.{IsGerm}
use Rattle.point_set.specs.Validity.{IsAtPlace, ShareSegment, AreasShareSegment}
use Rattle.ring_laws.proofs.Germs.Areas.{segment_within, location_stays, toward_on}
use Rattle.ring_laws.proofs.Germs.Edges.{on_true, direction_pointed, shift_self, rise_self, cross_of, dot_of, moving, cone_toward}
use Rattle.plane_laws.proofs.Near.Away.{away_point, away_point_is, away_near, far_for, between_in_cone}
use Rattle.ring_laws.proofs.Room.Edges.{HasRoom, HoldBoth, room}
use Rattle.plane_laws.proofs.Near.Near.{IsNear, near_mix, size_of}
use Rattle.figure_laws.proofs.Points.Same.{is_on_edges-same}
use Rattle.side_laws.proofs.Edges.Beside.{held_at}
use Rattle.meeting_laws.proofs.Meetings.FirstOfOne.{meeting}
use Rattle.valid_laws.proofs.Edges.Moving.{moving as edges_move}
use Rattle.valid_laws.proofs.Edges.Sharing.{between_on, share_along}
use Rattle.valid_laws.specs.Entering.{edges_in, Enters, LawMoving, LawReach}
use Rattle.meeting_laws.specs.Meetings.{IsFirstMeeting, LawFirstMeeting}
use Rattle.figure_laws.proofs.Lists.Places.{some_same}
use Rattle.germ_laws.proofs.Rays.WayTo.{way_to, way_to_is}
use Rattle.valid_laws.proofs.Entering.Walk.{Placed, some_place, cone_mix, away_cone}

-- ---- edges of two lists
pub in_left : (xs ys : List Seg) (p : Point) → is_on_edges p xs ≡ true → is_on_edges p (xs ++ ys) ≡ true
in_left [] ys p on = cc
in_left (e ∷ xs) ys p on = go (in_left xs ys p) (is_on_edge p e) refl
  where
    go : (is_on_edges p xs ≡ true → is_on_edges p (xs ++ ys) ≡ true) → (b : Bool) → is_on_edge p e ≡ b
        → is_on_edges p (e ∷ (xs ++ ys)) ≡ true
    go more true h = or_left (is_on_edge p e) (is_on_edges p (xs ++ ys)) h
    go more false h = or_right (is_on_edge p e) (is_on_edges p (xs ++ ys)) (more (ap (λ b. b || is_on_edges p xs) (sym h) ∙ on))

pub in_right : (xs ys : List Seg) (p : Point) → is_on_edges p ys ≡ true → is_on_edges p (xs ++ ys) ≡ true
in_right [] ys p on = on
in_right (e ∷ xs) ys p on = or_right (is_on_edge p e) (is_on_edges p (xs ++ ys)) (in_right xs ys p on)

off_lists : (xs ys : List Seg) (p : Point) → is_on_edges p xs ≡ false → is_on_edges p ys ≡ false → is_on_edges p (xs ++ ys) ≡ false
off_lists [] ys p off others = others
off_lists (e ∷ xs) ys p off others =
    let parts = or_parts (is_on_edge p e) (is_on_edges p xs) off in
    or_from (is_on_edge p e) (is_on_edges p (xs ++ ys)) parts.0 (off_lists xs ys p parts.1 others)

-- ---- up to the first meeting the location in an area stays
module _ (area : Area) (shaped : IsAreaShaped area) (all : List Seg)
    (among : (m : Point) → is_on_edges m (edges_in area) ≡ true → is_on_edges m all ≡ true) where
  stays : {p t y : Point} → IsFirstMeeting all p t y → is_on_edges y (edges_in area) ≡ false → location area y ≡ location area p
  stays {p} {t} {y} meeting off = location_stays y p area shaped (record {
    off = λ m within. false_from_ne_true (is_on_edges m (edges_in area))
        (λ on. true≢false (sym on ∙ is_on_edges-same (meeting.first m (segment_flip within) (among m on)) (edges_in area) ∙ off));
  })

  germ_towards : {p t q : Point} → IsFirstMeeting all p t q → (d : Direction) → IsInCone q d d p → IsGerm area q d (location area p)
  germ_towards {p} {t} {q} meeting d c = record {
    from = size_of ((c.times *ℤ q.w) *ℤ p.w);
    holds = λ n far r away.
        let on = toward_on q d p c n r far away in
        location_stays r p area shaped (record { off = λ m within. free n r far away on m within });
  }
    where
      at_start : (n : ℕ) (r : Point) → size_of ((c.times *ℤ q.w) *ℤ p.w) < n → IsAway q d n r → (m : Point) → IsOnSegment r p m
          → IsSamePoint m q → ⊥
      at_start n r far away m within same_q =
          direction_pointed q d (cone_mix (away_cone (omega (arith, far)) away) c (segment_same (same_refl r) (same_refl p) same_q within))

      free : (n : ℕ) (r : Point) → size_of ((c.times *ℤ q.w) *ℤ p.w) < n → IsAway q d n r → IsOnSegment q p r → (m : Point)
          → IsOnSegment r p m → is_on_edges m (edges_in area) ≡ false
      free n r far away on m within = false_from_ne_true (is_on_edges m (edges_in area))
          (λ held. at_start n r far away m within
          (meeting.first m (segment_flip (segment_within on (end_on_segment q p) within)) (among m held)))

-- ---- two areas without a common segment of their edges
module _ (first : LawFirstMeeting) (one other : Area) (shaped_one : IsAreaShaped one) (shaped_other : IsAreaShaped other)
    (unshared : ¬ AreasShareSegment one other) (part : Loc) (inner : part ≢ Boundary) where
  abbrev all : List Seg
  all = edges_in one ++ edges_in other

  abbrev Found : Type 0
  Found = Enters (edges_in one) other part ⊎ Enters (edges_in other) one Interior

  record IsThere (p : Point) : Type 0 where
    in_one : location one p ≡ Interior
    in_other : location other p ≡ part

  boundary : (area : Area) (x : Point) → is_on_edges x (edges_in area) ≡ true → location area x ≡ Boundary
  boundary area x on = ap (λ z. location_by z (is_inside x area.shell) (list_any (is_inside x) area.holes)) on

  not_boundary : ¬ (Interior ≡ Boundary)
  not_boundary e = cc

  off_all : {p : Point} → IsThere p → is_on_edges p all ≡ false
  off_all {p} there = off_lists (edges_in one) (edges_in other) p
      (false_from_ne_true (is_on_edges p (edges_in one)) (λ on. not_boundary (sym there.in_one ∙ boundary one p on)))
      (false_from_ne_true (is_on_edges p (edges_in other)) (λ on. inner (sym there.in_other ∙ boundary other p on)))

  record IsBoth (y : Point) : Type 0 where
    of_one : is_on_edges y (edges_in one) ≡ true
    of_other : is_on_edges y (edges_in other) ≡ true

  settle : {p t y : Point} → IsThere p → IsFirstMeeting all p t y → (b c : Bool) → is_on_edges y (edges_in one) ≡ b
      → is_on_edges y (edges_in other) ≡ c → IsBoth y ⊎ Found
  settle {p} {t} {y} there meeting true true on_one on_other = inl (record { of_one = on_one; of_other = on_other })
  settle {p} {t} {y} there meeting true false on off = inr (inl (record {
    x = y;
    on = on;
    lies = stays other shaped_other all (λ m h. in_right (edges_in one) (edges_in other) m h) meeting off ∙ there.in_other;
  }))
  settle {p} {t} {y} there meeting false true off on = inr (inr (record {
    x = y;
    on = on;
    lies = stays one shaped_one all (λ m h. in_left (edges_in one) (edges_in other) m h) meeting off ∙ there.in_one;
  }))
  settle {p} {t} {y} there meeting false false off_one off_other =
      absurd (true≢false (sym meeting.on ∙ off_lists (edges_in one) (edges_in other) y off_one off_other))

  -- no edges of the two areas share a segment
  none_shared : (i j : ℕ) (g h : Seg) → IsAtPlace (edges_in one) i g → IsAtPlace (edges_in other) j h → ¬ ShareSegment g h
  none_shared i j g h is_g is_h share = unshared (record { i = i; j = j; e = g; f = h; e_is = is_g; f_is = is_h; share = share })

  -- near q, two edges of the two areas that have another common point share a segment
  none_near : (q y : Point) (r : HasRoom q (edges_in one)) (k : HasRoom q (edges_in other)) → HoldBoth q y (edges_in one)
      → HoldBoth q y (edges_in other) → ¬ IsSamePoint q y → ¬ IsBoth y
  none_near q y r k held held_other apart both =
      by_places (some_place (edges_in one) y both.of_one) (some_place (edges_in other) y both.of_other)
    where
      through : (edges : List Seg) → HoldBoth q y edges → (i : ℕ) (g : Seg) → IsAtPlace edges i g → is_on_edge y g ≡ true → (b : Bool)
          → is_on_edge q g ≡ b → is_on_edge q g ≡ true
      through edges h i g is on true e = e
      through edges h i g is on false e = absurd (true≢false (sym on ∙ held_at q y edges h i g is e))

      by_places : Placed (edges_in one) y → Placed (edges_in other) y → ⊥
      by_places (i, g, is_g, on_g) (j, h, is_h, on_h) =
          let q_g = on_true (through (edges_in one) held i g is_g on_g (is_on_edge q g) refl) in
          let q_h = on_true (through (edges_in other) held_other j h is_h on_h (is_on_edge q h) refl) in
          none_shared i j g h is_g is_h
          (record {
            a = q;
            b = y;
            apart = apart;
            held = λ m on. (
              segment_within q_g (on_true on_g) on,
              segment_within q_h
                  (on_true on_h) on,
            );
          })

  -- an edge that runs from q along r, another way than straight on
  record IsTurned (q : Point) (d : Direction) : Type 0 where
    r : Direction
    a : Point
    c : IsInCone q r r a
    on : (x : Point) → IsOnSegment q a x → is_on_edges x all ≡ true
    pointed : ¬ IsInCone q d r q

  round_both : {p t q : Point} → IsThere p → IsFirstMeeting all p t q → (d : Direction) → IsInCone q d d p → IsTurned q d → Found
  round_both {p} {t} {q} there meeting d c turned = by_meeting (first all p' x (off_all there'))
    where
      in_one : IsGerm one q d (location one p)
      in_one = germ_towards one shaped_one all (λ m h. in_left (edges_in one) (edges_in other) m h) meeting d c

      in_other : IsGerm other q d (location other p)
      in_other = germ_towards other shaped_other all (λ m h. in_right (edges_in one) (edges_in other) m h) meeting d c

      room_one : HasRoom q (edges_in one)
      room_one = room q (edges_in one)

      room_other : HasRoom q (edges_in other)
      room_other = room q (edges_in other)

      k : ℕ
      k = room_one.n + room_other.n

      n : ℕ
      n = ((in_one.from + in_other.from) + (far_for d k + far_for turned.r k)) + size_of ((turned.c.times *ℤ q.w) *ℤ turned.a.w)

      p' : Point
      p' = away_point q d n

      x : Point
      x = away_point q turned.r n

      there' : IsThere p'
      there' = record {
        in_one = in_one.holds (suc n) (omega (arith)) p' (away_point_is q d n) ∙ there.in_one;
        in_other = in_other.holds (suc n) (omega (arith)) p' (away_point_is q d n) ∙ there.in_other;
      }

      on_x : is_on_edges x all ≡ true
      on_x = turned.on x (toward_on q turned.r turned.a turned.c (suc n) x (omega (arith)) (away_point_is q turned.r n))

      by_both : (y : Point) → IsFirstMeeting all p' x y → IsBoth y ⊎ Found → Found
      by_both y again (inr found) = found
      by_both y again (inl both) = absurd
          (none_near q y room_one room_other (room_one.free k (omega (arith)) y near) (room_other.free k (omega (arith)) y near) apart both)
        where
          near : IsNear q k y
          near = near_mix (away_near k (omega (arith)) (away_point_is q d n))
              (away_near k (omega (arith)) (away_point_is q turned.r n)) again.on_way

          apart : ¬ IsSamePoint q y
          apart same =
              turned.pointed (between_in_cone (omega (arith)) (omega (arith)) (away_point_is q d n) (away_point_is q turned.r n)
              (segment_same (same_refl p') (same_refl x) (same_sym same) again.on_way))

      by_meeting : ((m : Point) → IsOnSegment p' x m → is_on_edges m all ≡ false) ⊎ ((y : Point) × IsFirstMeeting all p' x y) → Found
      by_meeting (inl free) = absurd (true≢false (sym on_x ∙ free x (end_on_segment p' x)))
      by_meeting (inr (y, again)) = by_both y again
          (settle there' again (is_on_edges y (edges_in one)) (is_on_edges y (edges_in other)) refl refl)

  -- ---- some edge runs from a common point another way than straight on
  back_of : Direction → Direction
  back_of d = record { x = neg_ℤ d.x; y = neg_ℤ d.y; moves = λ z. d.moves (omega (arith, linear, z.0), omega (arith, linear, z.1)) }

  -- an end of an edge that isn't q
  record HasFarEnd (q : Point) (g : Seg) : Type 0 where
    a : Point
    on : IsOnSegment (point_of g.a) (point_of g.b) a
    apart : ¬ IsSamePoint q a

  far_end : (q : Point) (g : Seg) → ¬ IsSamePoint (point_of g.a) (point_of g.b) → HasFarEnd q g
  far_end q g moving = go (is_same_point q (point_of g.a)) refl
    where
      go : (b : Bool) → is_same_point q (point_of g.a) ≡ b → HasFarEnd q g
      go true h = record {
        a = point_of g.b;
        on = end_on_segment (point_of g.a) (point_of g.b);
        apart = λ same. moving (same_trans (same_sym ((Decides-is_same_point q (point_of g.a)).0 h)) same);
      }
      go false h = record {
        a = point_of g.a;
        on = start_on_segment (point_of g.a) (point_of g.b);
        apart = λ same. true≢false (sym ((Decides-is_same_point q (point_of g.a)).1 same) ∙ h);
      }

  -- a point lies straight on along d, straight back, or to a side
  data IsSeen (q : Point) (d : Direction) (a : Point) : Type 0 where
    ahead : IsInCone q d d a → IsSeen q d a
    behind : IsInCone q (back_of d) (back_of d) a → IsSeen q d a
    beside : ¬ (cross_of q d a ≡ pos 0) → IsSeen q d a

  back_cross : (q : Point) (d : Direction) (a : Point) → cross_of q d a ≡ pos 0 → cross_of q (back_of d) a ≡ pos 0
  unfolding cross_of back_of
  back_cross q d a h = same_from (minus (var 0) ⊗ var 3 ⊖ minus (var 1) ⊗ var 2) (num (pos 0)) (d.x ∷ d.y ∷ shift q a ∷ rise q a ∷ [])
      (scaled (num (pos 0) ⊖ num (pos 1)) (same (var 0 ⊗ var 3 ⊖ var 1 ⊗ var 2) (num (pos 0)) h)) refl

  back_dot : (q : Point) (d : Direction) (a : Point) → dot_of q (back_of d) a ≡ neg_ℤ (dot_of q d a)
  unfolding dot_of back_of
  back_dot q d a = same_from (minus (var 0) ⊗ var 2 ⊕ minus (var 1) ⊗ var 3) (minus (var 0 ⊗ var 2 ⊕ var 1 ⊗ var 3))
      (d.x ∷ d.y ∷ shift q a ∷ rise q a ∷ []) (same (num (pos 0)) (num (pos 0)) refl) refl

  no_step : (q : Point) (d : Direction) (a : Point) → cross_of q d a ≡ pos 0 → dot_of q d a ≡ pos 0 → IsSamePoint q a
  unfolding cross_of dot_of
  no_step q d a h k = same_from_steps q a
      (zero_factor (d.x *ℤ d.x +ℤ d.y *ℤ d.y) (shift q a) (pos_nonzero (moving d))
      (same_from ((var 0 ⊗ var 0 ⊕ var 1 ⊗ var 1) ⊗ var 2) (num (pos 0)) (d.x ∷ d.y ∷ shift q a ∷ rise q a ∷ [])
      (scaled (var 0) (same (var 0 ⊗ var 2 ⊕ var 1 ⊗ var 3) (num (pos 0)) k)
      ⊞ scaled (minus (var 1)) (same (var 0 ⊗ var 3 ⊖ var 1 ⊗ var 2) (num (pos 0)) h)) refl))
      (zero_factor (d.x *ℤ d.x +ℤ d.y *ℤ d.y) (rise q a) (pos_nonzero (moving d))
      (same_from ((var 0 ⊗ var 0 ⊕ var 1 ⊗ var 1) ⊗ var 3) (num (pos 0)) (d.x ∷ d.y ∷ shift q a ∷ rise q a ∷ [])
      (scaled (var 1) (same (var 0 ⊗ var 2 ⊕ var 1 ⊗ var 3) (num (pos 0)) k)
      ⊞ scaled (var 0) (same (var 0 ⊗ var 3 ⊖ var 1 ⊗ var 2) (num (pos 0)) h)) refl))

  seen : (q : Point) (d : Direction) (a : Point) → ¬ IsSamePoint q a → IsSeen q d a
  seen q d a apart = by_sign (cross_of q d a) (λ h. beside (<ℤ_apart h)) level (λ h. beside (pos_nonzero h))
    where
      level : cross_of q d a ≡ pos 0 → IsSeen q d a
      level h = by_sign (dot_of q d a)
          (λ less. behind (cone_toward q (back_of d) a (back_cross q d a h)
          (subst (λ z. pos 0 <ℤ z) (sym (back_dot q d a)) (omega (arith, linear, less)))))
          (λ k. absurd (apart (no_step q d a h k)))
          (λ more. ahead (cone_toward q d a h more))

  none_of_cone : (q : Point) (d : Direction) (a : Point) (apart : ¬ IsSamePoint q a) → ¬ (cross_of q d a ≡ pos 0)
      → ¬ IsInCone q d (way_to q a apart) q
  unfolding cross_of shift way_to
  none_of_cone q d a apart turned c = by_weights (zero_factor (cross_of q d a) c.i turned by_first)
      (zero_factor (cross_of q d a) c.j turned by_second)
    where
      still_x : (c.i *ℤ d.x) +ℤ (c.j *ℤ shift q a) ≡ pos 0
      still_x = sym c.across ∙ ap (λ z. c.times *ℤ z) (shift_self q) ∙ *ℤ-zero c.times

      still_y : (c.i *ℤ d.y) +ℤ (c.j *ℤ rise q a) ≡ pos 0
      still_y = sym c.above ∙ ap (λ z. c.times *ℤ z) (rise_self q) ∙ *ℤ-zero c.times

      by_first : cross_of q d a *ℤ c.i ≡ pos 0
      by_first = same_from ((var 0 ⊗ var 3 ⊖ var 1 ⊗ var 2) ⊗ var 4) (num (pos 0)) (d.x ∷ d.y ∷ shift q a ∷ rise q a ∷ c.i ∷ c.j ∷ [])
          (scaled (var 3) (same (var 4 ⊗ var 0 ⊕ var 5 ⊗ var 2) (num (pos 0)) still_x)
          ⊞ scaled (minus (var 2)) (same (var 4 ⊗ var 1 ⊕ var 5 ⊗ var 3) (num (pos 0)) still_y)) refl

      by_second : cross_of q d a *ℤ c.j ≡ pos 0
      by_second = same_from ((var 0 ⊗ var 3 ⊖ var 1 ⊗ var 2) ⊗ var 5) (num (pos 0)) (d.x ∷ d.y ∷ shift q a ∷ rise q a ∷ c.i ∷ c.j ∷ [])
          (scaled (minus (var 1)) (same (var 4 ⊗ var 0 ⊕ var 5 ⊗ var 2) (num (pos 0)) still_x)
          ⊞ scaled (var 0) (same (var 4 ⊗ var 1 ⊕ var 5 ⊗ var 3) (num (pos 0)) still_y)) refl

      by_weights : c.i ≡ pos 0 → c.j ≡ pos 0 → ⊥
      by_weights z w = let some = c.some in <ℤ_irrefl (subst (λ s. pos 0 <ℤ s) (λ k. z k +ℤ w k) some)

  on_at_place : (edges : List Seg) (i : ℕ) (g : Seg) (x : Point) → IsAtPlace edges i g → is_on_edge x g ≡ true → is_on_edges x edges ≡ true
  on_at_place [] i g x is on = cc
  on_at_place (e ∷ edges) zero g x is on = or_left (is_on_edge x e) (is_on_edges x edges) (ap (is_on_edge x) (some_same is) ∙ on)
  on_at_place (e ∷ edges) (suc i) g x is on = or_right (is_on_edge x e) (is_on_edges x edges) (on_at_place edges i g x is on)

  -- no edge runs from q straight on to p
  not_ahead : (area : Area) (l : Loc) → l ≢ Boundary → (q : Point) (d : Direction) → IsGerm area q d l → (i : ℕ) (g : Seg)
      → IsAtPlace (edges_in area) i g → is_on_edge q g ≡ true → (a : Point) → IsOnSegment (point_of g.a) (point_of g.b) a
      → ¬ IsInCone q d d a
  not_ahead area l free q d germ i g is on a on_a c =
      let n = germ.from + size_of ((c.times *ℤ q.w) *ℤ a.w) in
      let x = away_point q d n in
      let away = away_point_is q d n in
      free (sym (germ.holds (suc n) (omega arith) x away) ∙ boundary area x
      (on_at_place (edges_in area) i g x is (between_on q g a on on_a x (toward_on q d a c (suc n) x (omega arith) away))))

  -- so no two edges run from q along one direction
  shared_along : (q : Point) (d : Direction) (i j : ℕ) (g h : Seg) → IsAtPlace (edges_in one) i g → IsAtPlace (edges_in other) j h
      → is_on_edge q g ≡ true → is_on_edge q h ≡ true → (a b : Point) → IsOnSegment (point_of g.a) (point_of g.b) a
      → IsOnSegment (point_of h.a) (point_of h.b) b → IsInCone q d d a → ¬ IsInCone q d d b
  shared_along q d i j g h is_g is_h on_g on_h a b on_a on_b c k =
      none_shared i j g h is_g is_h (share_along q d g h on_g on_h a b on_a on_b c k)

  module _ (moving_edges : LawMoving) where
    at_common : {p t q : Point} → IsThere p → IsFirstMeeting all p t q → IsBoth q → Found
    at_common {p} {t} {q} there meeting both = by_places (some_place (edges_in one) q both.of_one)
        (some_place (edges_in other) q both.of_other)
      where
        apart : ¬ IsSamePoint q p
        apart same = true≢false (sym meeting.on ∙ is_on_edges-same same all ∙ off_all there)

        d : Direction
        d = way_to q p apart

        c : IsInCone q d d p
        c = way_to_is q p apart

        germ_one : IsGerm one q d (location one p)
        germ_one = germ_towards one shaped_one all (λ m h. in_left (edges_in one) (edges_in other) m h) meeting d c

        germ_other : IsGerm other q d (location other p)
        germ_other = germ_towards other shaped_other all (λ m h. in_right (edges_in one) (edges_in other) m h) meeting d c

        turn_to : (g : Seg) → is_on_edge q g ≡ true → (e : HasFarEnd q g)
            → ((x : Point) → is_on_edge x g ≡ true → is_on_edges x all ≡ true) → ¬ (cross_of q d e.a ≡ pos 0) → Found
        turn_to g on e among turned = round_both there meeting d c (record {
          r = way_to q e.a e.apart;
          a = e.a;
          c = way_to_is q e.a e.apart;
          on = λ x within. among x (between_on q g e.a on e.on x within);
          pointed = none_of_cone q d e.a e.apart turned;
        })

        by_places : Placed (edges_in one) q → Placed (edges_in other) q → Found
        by_places (i, g, is_g, on_g) (j, h, is_h, on_h) = by_seen (seen q d far.a far.apart) (seen q d far'.a far'.apart)
          where
            far : HasFarEnd q g
            far = far_end q g (moving_edges one i g is_g)

            far' : HasFarEnd q h
            far' = far_end q h (moving_edges other j h is_h)

            by_seen : IsSeen q d far.a → IsSeen q d far'.a → Found
            by_seen (ahead k) s = absurd
                (not_ahead one (location one p) (λ z. not_boundary (sym there.in_one ∙ z)) q d germ_one i g is_g on_g far.a far.on k)
            by_seen (beside k) s = turn_to g on_g far
                (λ x on. in_left (edges_in one) (edges_in other) x (on_at_place (edges_in one) i g x is_g on)) k
            by_seen (behind k) (ahead l) = absurd
                (not_ahead other (location other p) (λ z. inner (sym there.in_other ∙ z)) q d germ_other j h is_h on_h far'.a far'.on l)
            by_seen (behind k) (beside l) = turn_to h on_h far'
                (λ x on. in_right (edges_in one) (edges_in other) x (on_at_place (edges_in other) j h x is_h on)) l
            by_seen (behind k) (behind l) = absurd (shared_along q (back_of d) i j g h is_g is_h on_g on_h far.a far'.a far.on far'.on k l)

    -- ---- from any point that breaks the clause
    inside_shell : (p : Point) → location one p ≡ Interior → is_inside p one.shell ≡ true
    inside_shell p h = go (is_on_edges p (edges_in one)) (is_inside p one.shell) (list_any (is_inside p) one.holes) h
      where
        go : (b s k : Bool) → location_by b s k ≡ Interior → s ≡ true
        go true s k e = cc
        go false true k e = refl
        go false false k e = cc

    odd_edges : (p : Point) (edges : List Seg) → is_odd p edges ≡ true → (t : Point) × (is_on_edges t edges ≡ true)
    odd_edges p [] h = cc
    odd_edges p (e ∷ edges) h = (
      point_of e.a,
      or_left (is_on_edge (point_of e.a) e) (is_on_edges (point_of e.a) edges)
          ((Decides-is_on_segment (point_of e.a) (point_of e.b) (point_of e.a)).1 (start_on_segment (point_of e.a) (point_of e.b))),
    )

    reach : (p : Point) → IsThere p → Found
    reach p there = by_target
        (odd_edges p (edges_of one.shell)
        (and_parts (not (is_on_edges p (edges_of one.shell))) (is_odd p (edges_of one.shell)) (inside_shell p there.in_one)).1)
      where
        by_target : ((t : Point) × (is_on_edges t (edges_of one.shell) ≡ true)) → Found
        by_target (t, on) = by_meeting (first all p t (off_all there))
          where
            on_all : is_on_edges t all ≡ true
            on_all = in_left (edges_in one) (edges_in other) t (in_left (edges_of one.shell) (edges_of_rings one.holes) t on)

            by_both : (q : Point) → IsFirstMeeting all p t q → IsBoth q ⊎ Found → Found
            by_both q meeting (inr found) = found
            by_both q meeting (inl both) = at_common there meeting both

            by_meeting : ((m : Point) → IsOnSegment p t m → is_on_edges m all ≡ false) ⊎ ((q : Point) × IsFirstMeeting all p t q) → Found
            by_meeting (inl free) = absurd (true≢false (sym on_all ∙ free t (end_on_segment p t)))
            by_meeting (inr (q, meeting)) = by_both q meeting
                (settle there meeting (is_on_edges q (edges_in one)) (is_on_edges q (edges_in other)) refl refl)

reached : LawFirstMeeting → LawMoving → LawReach
reached first moves one other shaped_one shaped_other unshared p in_one part inner in_other =
    reach first one other shaped_one shaped_other unshared part inner moves p (record { in_one = in_one; in_other = in_other })

-- as the first meeting exists, and edges move
pub reaches : LawReach
reaches = reached meeting edges_move
