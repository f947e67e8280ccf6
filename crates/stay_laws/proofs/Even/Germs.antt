-- From p to q each edge of a valid figure holds all or none, and no position is met: then each area has the same germ at p and at q along
-- every direction.
use Rattle.std.proofs.Common.{◌≡◌, ◌⊎◌, inl, inr, ℕ, zero, suc, ℤ, pos, ◌-ℤ◌, ◌*ℤ◌, neg_ℤ, ◌<ℤ◌, Bool, true, false, ◌||◌, List, []}
use Rattle.std.proofs.Common.{◌∷◌, ap, refl, sym, ◌∙◌, subst, arith}
use Rattle.std.proofs.lemmas.Bool.{true≢false, or_left, or_right}
use Rattle.im_matrix.specs.declared.Loc.{Loc}
use Rattle.im_matrix.specs.declared.Loc.TheVariants.{Interior, Boundary, Exterior}
use lib.IntN.{zero-*ℤ}
use Rattle.whole_algebra.proofs.Laws.{linear}
use Rattle.whole_algebra.proofs.Polynomials.{var, num, ◌⊗◌, minus}
use Rattle.whole_algebra.proofs.Certificates.{same, same_from, scaled, ◌⊞◌}
use Rattle.whole_algebra.proofs.Signs.{by_sign, sign_of, <ℤ_weaken, <ℤ_apart}
use Rattle.plane_laws.proofs.Segments.Mixes.{start_on_segment, end_on_segment, on_from_strictly_between}
use Rattle.plane_laws.proofs.Segments.On.{Decides-is_on_segment, mix_shift_start, mix_shift_end, mix_rise_start, mix_rise_end}
use Rattle.plane_laws.proofs.Points.Same.{same_sym}
use Rattle.plane_exact.proofs.Laws.{shift-positions, rise-positions}
use Rattle.plane_laws.specs.Plane.{Point, IsSamePoint, IsOnSegment, IsStrictlyBetween, rise, shift}
use Rattle.plane_exact.specs.Places.{point_of}
use Rattle.plane_laws.specs.Directions.{Direction, PointSameWay}
use Rattle.plane_exact.specs.declared.point.Pt.{Pt}
use Rattle.plane_exact.specs.declared.point.Seg.{Seg}
use Rattle.point_set.specs.declared.edge.Hand.{Hand}
use Rattle.point_set.specs.declared.edge.Hand.TheVariants as hand
use Rattle.point_set.specs.declared.figure.Area.{Area}
use Rattle.point_set.specs.declared.figure.Figure.{Figure}
use Rattle.point_set.specs.Edges.{IsAreaHand, IsOnEdgeAlone}
use Rattle.point_set.specs.Germ.{IsGerm}
use Rattle.plane_laws.specs.Along.{IsInCone}
use Rattle.point_set.specs.Location.{location, edges_of_rings, rings_of}
use Rattle.point_set.specs.Rings.{edges_of, is_on_edge, is_on_edges}
use Rattle.point_set.specs.Shape.{IsAreaShaped, IsWellShaped}
use Rattle.point_set.specs.Sides.{slope, other_hand, IsInsideHand}
use Rattle.point_set.specs.Validity.{IsAtPlace, IsOnEdge, IsValid, CrossesItself, ring_cross}
use Rattle.ring_laws.proofs.Germs.Areas.{segment_within, toward_on, germ_one}
use Rattle.ring_laws.proofs.Germs.Edges.{on_true}
use Rattle.figure_laws.proofs.Lists.Places.{some_same}
use Rattle.plane_laws.proofs.Near.Near.{size_of}
use Rattle.side_laws.proofs.Rings.Hand.{some_inside_hand}
use Rattle.side_laws.proofs.Areas.Hands.{area_shaped, hole_shaped, area_clean, shell_hand, hole_hand}
use Rattle.germ_laws.proofs.Sectors.Closed.{settled}
use Rattle.germ_laws.proofs.Room.Germs.{AreAllAlike}
use Rattle.figure_laws.proofs.Edges.Owners.{HasRing, ring_of}
use Rattle.kind_laws.proofs.Hands.InSector.{one_edge_a_way, moving, strictly_from_on, shift_back, rise_back}
use Rattle.germ_laws.proofs.Room.Ways.{germ_of_way}
use Rattle.point_set.specs.Nodes.{all_positions}
use Rattle.kind_laws.proofs.Location.EdgeRays.{all_place, one_of_two}
use Rattle.stay_laws.proofs.Edges.Ends.{HasEndsIn, ends_in_area, not_at}
use Rattle.stay_laws.proofs.Even.Even.{IsEvenBetween, even_area, even_location, on_boundary}

-- ---- on one edge of a list, and so on the list
-- the edge at a place of the list holds the point
pub on_edges_at : (p : Point) (edges : List Seg) (i : ℕ) (e : Seg) → IsAtPlace edges i e → IsOnEdge e p → is_on_edges p edges ≡ true
on_edges_at p [] i e is on = cc
on_edges_at p (first ∷ edges) zero e is on =
    or_left (is_on_edge p first) (is_on_edges p edges)
    (subst (λ (g : Seg). is_on_edge p g ≡ true) (sym (some_same is)) ((Decides-is_on_segment (point_of e.a) (point_of e.b) p).1 on))
on_edges_at p (first ∷ edges) (suc i) e is on = or_right (is_on_edge p first) (is_on_edges p edges) (on_edges_at p edges i e is on)

-- an edge that holds the point
pub record HasEdgeAt (edges : List Seg) (p : Point) : Type 0 where
  pub i : ℕ
  pub e : Seg
  pub is : IsAtPlace edges i e
  pub on : IsOnEdge e p

-- the first edge that holds it
pub edge_at : (p : Point) (edges : List Seg) → is_on_edges p edges ≡ true → HasEdgeAt edges p
edge_at p [] h = absurd (true≢false (sym h))
edge_at p (e ∷ edges) h = by_test (is_on_edge p e) refl h (edge_at p edges)
  where
    later : HasEdgeAt edges p → HasEdgeAt (e ∷ edges) p
    later r = record { i = suc r.i; e = r.e; is = r.is; on = r.on }

    by_test :
        (b : Bool) → is_on_edge p e ≡ b → b || is_on_edges p edges ≡ true → (is_on_edges p edges ≡ true → HasEdgeAt edges p)
        → HasEdgeAt (e ∷ edges) p
    by_test true t k rest = record { i = 0; e = e; is = refl; on = on_true {p = p} {f = e} t }
    by_test false t k rest = later (rest k)

-- the edge at a place holds both points or neither
pub alike_place :
    (p m : Point) (edges : List Seg) → AreAllAlike p m edges → (j : ℕ) (g : Seg) → IsAtPlace edges j g → is_on_edge p g ≡ is_on_edge m g
alike_place p m [] h j g is = cc
alike_place p m (e ∷ edges) h zero g is = subst (λ (x : Seg). is_on_edge p x ≡ is_on_edge m x) (some_same is) h.0
alike_place p m (e ∷ edges) h (suc j) g is = alike_place p m edges h.1 j g is

-- ---- along an edge the germ is Boundary
module _ (area : Area) (i : ℕ) (e : Seg) (e_is : IsAtPlace (edges_of_rings (rings_of area)) i e) (v : Point) where
  -- from a point of the edge towards another one
  boundary_toward : IsOnEdge e v → (d : Direction) (a : Point) → IsOnEdge e a → IsInCone v d d a → IsGerm area v d Boundary
  boundary_toward on d a on_a c = record {
    from = size_of ((c.times *ℤ v.w) *ℤ a.w);
    holds = λ n far q away. on_boundary area q
        (on_edges_at q (edges_of_rings (rings_of area)) i e e_is (segment_within on on_a (toward_on v d a c n q far away)));
  }

  -- the way of the edge, and the way back
  edge_way : ¬ IsSamePoint (point_of e.a) (point_of e.b) → Direction
  edge_way apart = record {
    x = e.b.x -ℤ e.a.x;
    y = e.b.y -ℤ e.a.y;
    moves = λ z. apart (record {
      across = ap (λ c. c *ℤ pos 1) (level e.b.x e.a.x z.0);
      above = ap (λ c. c *ℤ pos 1) (level e.b.y e.a.y z.1);
    });
  }
    where
      level : (x y : ℤ) → x -ℤ y ≡ pos 0 → y ≡ x
      level x y h = omega (arith, linear, h)

  -- a direction turned round
  back_way : Direction → Direction
  back_way d = record { x = neg_ℤ d.x; y = neg_ℤ d.y; moves = λ z. d.moves (none d.x z.0, none d.y z.1) }
    where
      none : (x : ℤ) → neg_ℤ x ≡ pos 0 → x ≡ pos 0
      none x h = omega (arith, linear, h)

  -- a point to which k steps from v are s of a direction lies along it
  along_way :
      (d : Direction) (p : Point) (s k : ℤ) → pos 0 <ℤ s → pos 0 <ℤ k → k *ℤ shift v p ≡ s *ℤ d.x → k *ℤ rise v p ≡ s *ℤ d.y
      → IsInCone v d d p
  along_way d p s k hs hk across above = record {
    i = s;
    j = pos 0;
    first = <ℤ_weaken hs;
    second = omega (arith, linear);
    some = omega (arith, linear, hs);
    times = k;
    positive = hk;
    across = omega (arith, linear, across, zero-*ℤ d.x);
    above = omega (arith, linear, above, zero-*ℤ d.y);
  }

  -- k of the step are s of the edge
  ahead : (k s step whole edge : ℤ) → k *ℤ step ≡ s *ℤ whole → whole ≡ edge → k *ℤ step ≡ s *ℤ edge
  ahead k s step whole edge h l = h ∙ ap (λ z. s *ℤ z) l

  -- k of the step back are t of the edge turned round
  behind : (k t step back whole edge : ℤ) → step ≡ neg_ℤ back → k *ℤ back ≡ t *ℤ whole → whole ≡ edge → k *ℤ step ≡ t *ℤ neg_ℤ edge
  behind k t step back whole edge b h l =
      same_from (var 0 ⊗ var 2) (var 1 ⊗ minus (var 5)) (k ∷ t ∷ step ∷ back ∷ whole ∷ edge ∷ [])
      (scaled (var 0) (same (var 2) (minus (var 3)) b) ⊞ scaled (minus (num (pos 1))) (same (var 0 ⊗ var 3) (var 1 ⊗ var 4) h)
      ⊞ scaled (minus (var 1)) (same (var 4) (var 5) l)) refl

  -- the second end lies ahead of a point strictly between
  cone_ahead : (b : IsStrictlyBetween (point_of e.a) (point_of e.b) v) → IsInCone v (edge_way b.apart) (edge_way b.apart) (point_of e.b)
  unfolding edge_way
  cone_ahead b =
      along_way (edge_way b.apart) (point_of e.b) b.s b.mix.times b.some_first b.mix.some
      (ahead b.mix.times b.s _ _ _ (mix_shift_end b.mix) (shift-positions e.a e.b))
      (ahead b.mix.times b.s _ _ _ (mix_rise_end b.mix) (rise-positions e.a e.b))

  -- and the first one behind
  cone_behind :
      (b : IsStrictlyBetween (point_of e.a) (point_of e.b) v)
      → IsInCone v (back_way (edge_way b.apart)) (back_way (edge_way b.apart)) (point_of e.a)
  unfolding edge_way back_way
  cone_behind b =
      along_way (back_way (edge_way b.apart)) (point_of e.a) b.t b.mix.times b.some_second b.mix.some
      (behind b.mix.times b.t _ _ _ _ (shift_back (point_of e.a) v) (mix_shift_start b.mix) (shift-positions e.a e.b))
      (behind b.mix.times b.t _ _ _ _ (rise_back (point_of e.a) v) (mix_rise_start b.mix) (rise-positions e.a e.b))

  -- to point the same way goes both ways
  way_turned : {u w : Direction} → PointSameWay u w → PointSameWay w u
  way_turned h = record { m = h.n; n = h.m; some = h.other; other = h.some; across = sym h.across; above = sym h.above }

  -- along a direction that is along the edge the germ is Boundary
  pub boundary_along :
      IsAreaShaped area → IsStrictlyBetween (point_of e.a) (point_of e.b) v → (d : Direction) → slope e d ≡ pos 0 → IsGerm area v d Boundary
  unfolding edge_way back_way
  boundary_along shaped b d z = by_way (one_of_two d (edge_way b.apart) (back_way (edge_way b.apart)) refl refl z)
    where
      on : IsOnEdge e v
      on = on_from_strictly_between b

      by_way : PointSameWay d (edge_way b.apart) ⊎ PointSameWay d (back_way (edge_way b.apart)) → IsGerm area v d Boundary
      by_way (inl w) =
          germ_of_way area shaped v (edge_way b.apart) d (way_turned w) Boundary
          (boundary_toward on (edge_way b.apart) (point_of e.b) (end_on_segment (point_of e.a) (point_of e.b)) (cone_ahead b))
      by_way (inr w) =
          germ_of_way area shaped v (back_way (edge_way b.apart)) d (way_turned w) Boundary
          (boundary_toward on (back_way (edge_way b.apart)) (point_of e.a) (start_on_segment (point_of e.a) (point_of e.b)) (cone_behind b))

-- ---- every edge of an area of a valid figure has a hand
-- the hand of an edge on which its area lies
pub record HasAreaHand (area : Area) (e : Seg) : Type 0 where
  pub side : Hand
  pub is : IsAreaHand area e side

-- by the ring of the edge: the shell, or a hole
pub edge_hand :
    (f : Figure) → IsWellShaped f → IsValid f → (k : ℕ) (area : Area) → IsAtPlace f.areas k area → (i : ℕ) (e : Seg)
    → IsAtPlace (edges_of_rings (rings_of area)) i e → HasAreaHand area e
edge_hand f shaped valid k area is i e e_is = go r.k r.ring r.ring_is r.i r.is
  where
    r : HasRing (rings_of area) e
    r = ring_of (rings_of area) i e e_is

    uncrossed : (j : ℕ) (ring : List Pt) → IsAtPlace (rings_of area) j ring → ¬ CrossesItself ring
    uncrossed j ring ring_is h =
        valid k ring_cross (record { area = area; area_is = is; is_so = record { place = j; ring = ring; ring_is = ring_is; is_so = h } })

    of_shell : (j : ℕ) → IsAtPlace (edges_of area.shell) j e → (side : Hand) × IsInsideHand area.shell side → HasAreaHand area e
    of_shell j j_is h = record { side = h.0; is = shell_hand area (area_clean f shaped valid k area is) h.0 h.1 j e j_is }

    of_hole :
        (l : ℕ) (hole : List Pt) → IsAtPlace area.holes l hole → (j : ℕ) → IsAtPlace (edges_of hole) j e
        → (side : Hand) × IsInsideHand hole side → HasAreaHand area e
    of_hole l hole hole_is j j_is h =
        record { side = other_hand h.0; is = hole_hand area (area_clean f shaped valid k area is) l hole hole_is h.0 h.1 j e j_is }

    go : (l : ℕ) (ring : List Pt) → IsAtPlace (rings_of area) l ring → (j : ℕ) → IsAtPlace (edges_of ring) j e → HasAreaHand area e
    go zero ring ring_is j j_is =
        of_shell j (subst (λ (s : List Pt). IsAtPlace (edges_of s) j e) (sym (some_same ring_is)) j_is)
        (some_inside_hand area.shell (area_shaped f shaped k area is).shell.closed (uncrossed 0 area.shell refl))
    go (suc l) ring ring_is j j_is =
        of_hole l ring ring_is j j_is
        (some_inside_hand ring (hole_shaped area (area_shaped f shaped k area is) l ring ring_is).closed (uncrossed (suc l) ring ring_is))

-- ---- the same germ from two points that are on one edge alone
-- off the line of the edge its hand says the germ, at both points
same_by_hand :
    (area : Area) (e : Seg) (side : Hand) → IsAreaHand area e side → (p q : Point) → IsOnEdgeAlone area e p → IsOnEdgeAlone area e q
    → (d : Direction) → ¬ (slope e d ≡ pos 0) → (g : Loc) → IsGerm area p d g → IsGerm area q d g
same_by_hand area e hand.Line h p q one_p one_q d bent g is = absurd (h.sided refl)
same_by_hand area e hand.Left h p q one_p one_q d bent g is = by_sign (slope e d)
    (λ s. subst (λ z. IsGerm area q d z) (germ_one area p d Exterior g (h.outside p one_p d s) is) (h.outside q one_q d s))
    (λ z. absurd (bent z))
    (λ s. subst (λ z. IsGerm area q d z) (germ_one area p d Interior g (h.inside p one_p d s) is) (h.inside q one_q d s))
same_by_hand area e hand.Right h p q one_p one_q d bent g is = by_sign (slope e d)
    (λ s. subst (λ z. IsGerm area q d z) (germ_one area p d Interior g (h.inside p one_p d s) is) (h.inside q one_q d s))
    (λ z. absurd (bent z))
    (λ s. subst (λ z. IsGerm area q d z) (germ_one area p d Exterior g (h.outside p one_p d s) is) (h.outside q one_q d s))

-- ---- one area, from p to q
module _ (f : Figure) (shaped : IsWellShaped f) (valid : IsValid f) (p q : Point) (apart : ¬ IsSamePoint p q) (even : IsEvenBetween f p q)
    (k : ℕ) (area : Area) (is : IsAtPlace f.areas k area) where
  -- an edge that holds one point of the way holds each
  carries :
      (j : ℕ) (g : Seg) → IsAtPlace (edges_of_rings (rings_of area)) j g → (x y : Point) → IsOnSegment p q x → IsOnSegment p q y
      → IsOnEdge g x → IsOnEdge g y
  carries j g g_is x y on_x on_y h =
      let edges = edges_of_rings (rings_of area) in
      let at_x = alike_place p x edges (even_area f shaped p q even k area is x on_x) j g g_is in
      let at_y = alike_place p y edges (even_area f shaped p q even k area is y on_y) j g g_is in
      on_true {p = y} {f = g} (sym at_y ∙ at_x ∙ (Decides-is_on_segment (point_of g.a) (point_of g.b) x).1 h)

  -- strictly between the ends of each edge that holds it
  within_edge :
      (i : ℕ) (e : Seg) → IsAtPlace (edges_of_rings (rings_of area)) i e → (m : Point) → IsOnSegment p q m → IsOnEdge e m
      → IsStrictlyBetween (point_of e.a) (point_of e.b) m
  within_edge i e e_is m on_m h =
      let ends = all_place (HasEndsIn (all_positions f)) (edges_of_rings (rings_of area)) (ends_in_area f k area is) i e e_is in
      strictly_from_on (moving f shaped valid k area is i e e_is) h
      (not_at (all_positions f) (point_of e.a) m ends.first (even.lone m on_m))
      (not_at (all_positions f) (point_of e.b) m ends.second (even.lone m on_m))

  -- and on that edge alone
  alone_on :
      (i : ℕ) (e : Seg) → IsAtPlace (edges_of_rings (rings_of area)) i e → (x y : Point) → ¬ IsSamePoint x y → IsOnSegment p q x
      → IsOnSegment p q y → IsOnEdge e x → IsOnEdge e y → IsOnEdgeAlone area e y
  alone_on i e e_is x y moves on_x on_y h l = record {
    between = within_edge i e e_is y on_y l;
    alone = λ j other other_is held. sym
        (one_edge_a_way f shaped valid k area is i j e other e_is other_is x y moves h (carries j other other_is y x on_y on_x held) held
        (within_edge i e e_is y on_y l));
  }

  -- the germ at p is the germ at q
  pub germ_carried : (d : Direction) (g : Loc) → IsGerm area p d g → IsGerm area q d g
  germ_carried d g germ = by_test (is_on_edges p edges) refl
    where
      edges : List Seg
      edges = edges_of_rings (rings_of area)

      sh : IsAreaShaped area
      sh = area_shaped f shaped k area is

      on_p : IsOnSegment p q p
      on_p = start_on_segment p q

      on_q : IsOnSegment p q q
      on_q = end_on_segment p q

      off_at_q : is_on_edges p edges ≡ false → (b : Bool) → is_on_edges q edges ≡ b → is_on_edges q edges ≡ false
      off_at_q off true h =
          let r = edge_at q edges h in
          absurd (true≢false (sym (on_edges_at p edges r.i r.e r.is (carries r.i r.e r.is q p on_q on_p r.on)) ∙ off))
      off_at_q off false h = h

      on_one : HasEdgeAt edges p → IsGerm area q d g
      on_one r = by_slope (sign_of (slope r.e d))
        where
          at_q : IsOnEdge r.e q
          at_q = carries r.i r.e r.is p q on_p on_q r.on

          bent : ¬ (slope r.e d ≡ pos 0) → IsGerm area q d g
          bent n =
              let h = edge_hand f shaped valid k area is r.i r.e r.is in
              same_by_hand area r.e h.side h.is p q
              (alone_on r.i r.e r.is q p (λ same. apart (same_sym same)) on_q on_p at_q r.on)
              (alone_on r.i r.e r.is p q apart on_p on_q r.on at_q)
              d n g germ

          by_slope : (slope r.e d <ℤ pos 0) ⊎ ((slope r.e d ≡ pos 0) ⊎ (pos 0 <ℤ slope r.e d)) → IsGerm area q d g
          by_slope (inr (inl z)) =
              subst (λ l. IsGerm area q d l)
              (germ_one area p d Boundary g (boundary_along area r.i r.e r.is p sh (within_edge r.i r.e r.is p on_p r.on) d z) germ)
              (boundary_along area r.i r.e r.is q sh (within_edge r.i r.e r.is q on_q at_q) d z)
          by_slope (inl s) = bent (<ℤ_apart s)
          by_slope (inr (inr s)) = bent (λ z. <ℤ_apart s (sym z))

      by_test : (b : Bool) → is_on_edges p edges ≡ b → IsGerm area q d g
      by_test true h = on_one (edge_at p edges h)
      by_test false h =
          subst (λ l. IsGerm area q d l)
          (sym (even_location f shaped p q even k area is) ∙ germ_one area p d (location area p) g (settled area sh p h d) germ)
          (settled area sh q (off_at_q h (is_on_edges q edges) refl) d)
