-- The germ of the location in an area: it exists along every direction, and is the same along two directions that no edge comes between.
use Rattle.std.proofs.Common.{◌≡◌, ◌⊎◌, inl, inr, ℕ, suc, ◌+◌, ◌<◌, ℤ, pos, ◌+ℤ◌, ◌-ℤ◌, ◌*ℤ◌, ◌<ℤ◌, ◌≤ℤ◌, Bool, true, false, ◌||◌, List, []}
use Rattle.std.proofs.Common.{◌∷◌, ap, refl, sym, ◌∙◌, arith}
use Rattle.std.specs.List.{All, list_any}
use Rattle.std.proofs.lemmas.Bool.{or_left, or_right, true≢false}
use Rattle.std.proofs.lemmas.Bool.Decides.{not_from_Decides}
use Rattle.std.proofs.lemmas.List.Elements.{All-head, All-tail}
use Rattle.im_matrix.specs.declared.Cell.{Cell}
use Rattle.im_matrix.specs.declared.Loc.{Loc}
use Rattle.im_matrix.specs.declared.Loc.TheVariants.{Boundary}
use Rattle.whole_algebra.proofs.Laws.{linear}
use Rattle.whole_algebra.proofs.Polynomials.{var, num, ◌⊕◌, ◌⊖◌, ◌⊗◌}
use Rattle.whole_algebra.proofs.Certificates.{positive, at_most, same, same_from, at_most_by, whole, scaled, ◌⊞◌, ◌⊠◌}
use Rattle.whole_algebra.proofs.Signs.{<ℤ_weaken, pos-*-pos, nonneg-*-nonneg, nonneg-+-nonneg}
use Rattle.plane_laws.proofs.Segments.Mixes.{start_on_segment, end_on_segment}
use Rattle.plane_laws.proofs.Segments.On.{Decides-is_on_segment}
use Rattle.plane_laws.specs.Plane.{Point, IsMix, IsOnSegment, rise, shift}
use Rattle.plane_exact.specs.Places.{point_of}
use Rattle.plane_laws.specs.Directions.{Direction}
use Rattle.plane_exact.specs.declared.point.Pt.{Pt}
use Rattle.plane_exact.specs.declared.point.Seg.{Seg}
use Rattle.point_set.specs.declared.figure.Area.{Area}
use Rattle.point_set.specs.declared.figure.Figure.{Figure}
use Rattle.point_set.specs.declared.rule.Rule.{Rule}
use Rattle.point_set.specs.Rings.{edges_of, is_on_edge, is_on_edges, is_inside}
use Rattle.point_set.specs.Location.{location, location_by, rings_of, edges_of_rings}
use Rattle.point_set.specs.Shape.{IsRingShaped, IsAreaShaped}
use Rattle.point_set.specs.Validity.{IsAtPlace}
use Rattle.plane_laws.specs.Along.{IsAway, HoldsAlong, IsInCone}
use Rattle.point_set.specs.Germ.{IsGerm, IsPairGerm}
use Rattle.ring_laws.proofs.Parity.Ring.{Misses, inside_stays, misses_left, misses_right, misses_start, misses_end}
use Rattle.plane_laws.proofs.Near.Near.{size_of, size_is}
use Rattle.plane_laws.proofs.Near.Away.{away_point, away_point_is, away_shift, away_rise}
use Rattle.figure_laws.proofs.Points.Kinds.{one_part}
use Rattle.ring_laws.proofs.Germs.Edges.{AreClear, AreJoined, joined_between, direction_pointed, is_toward, Decides-is_toward, on_true}

-- ---- a segment between two points of a segment is part of it
part_of_sum : (k s t l e f m g h a b u w p : ℤ) → k *ℤ p ≡ (s *ℤ u) +ℤ (t *ℤ w) → l *ℤ u ≡ (e *ℤ a) +ℤ (f *ℤ b)
    → m *ℤ w ≡ (g *ℤ a) +ℤ (h *ℤ b) → (k *ℤ (l *ℤ m)) *ℤ p ≡ ((((s *ℤ m) *ℤ e) +ℤ ((t *ℤ l) *ℤ g)) *ℤ a) +ℤ
    ((((s *ℤ m) *ℤ f) +ℤ ((t *ℤ l) *ℤ h)) *ℤ b)
part_of_sum k s t l e f m g h a b u w p x y z =
    same_from ((var 0 ⊗ (var 3 ⊗ var 6)) ⊗ var 13)
    (((var 1 ⊗ var 6) ⊗ var 4 ⊕ (var 2 ⊗ var 3) ⊗ var 7) ⊗ var 9 ⊕ ((var 1 ⊗ var 6) ⊗ var 5 ⊕ (var 2 ⊗ var 3) ⊗ var 8) ⊗ var 10)
    (k ∷ s ∷ t ∷ l ∷ e ∷ f ∷ m ∷ g ∷ h ∷ a ∷ b ∷ u ∷ w ∷ p ∷ [])
    (scaled (var 3 ⊗ var 6) (same (var 0 ⊗ var 13) (var 1 ⊗ var 11 ⊕ var 2 ⊗ var 12) x)
    ⊞ scaled (var 1 ⊗ var 6) (same (var 3 ⊗ var 11) (var 4 ⊗ var 9 ⊕ var 5 ⊗ var 10) y)
    ⊞ scaled (var 2 ⊗ var 3) (same (var 6 ⊗ var 12) (var 7 ⊗ var 9 ⊕ var 8 ⊗ var 10) z)) refl

pub mix_within : {a b u w p : Point} {e f g h s t : ℤ} (y : IsMix a b u e f) (z : IsMix a b w g h) (x : IsMix u w p s t)
    → IsMix a b p (((s *ℤ z.times) *ℤ e) +ℤ ((t *ℤ y.times) *ℤ g)) (((s *ℤ z.times) *ℤ f) +ℤ ((t *ℤ y.times) *ℤ h))
mix_within {a} {b} {u} {w} {p} {e} {f} {g} {h} {s} {t} y z x = record {
  first = nonneg-+-nonneg (nonneg-*-nonneg (nonneg-*-nonneg x.first (<ℤ_weaken z.some)) y.first)
      (nonneg-*-nonneg (nonneg-*-nonneg x.second (<ℤ_weaken y.some)) z.first);
  second = nonneg-+-nonneg (nonneg-*-nonneg (nonneg-*-nonneg x.first (<ℤ_weaken z.some)) y.second)
      (nonneg-*-nonneg (nonneg-*-nonneg x.second (<ℤ_weaken y.some)) z.second);
  times = x.times *ℤ (y.times *ℤ z.times);
  some = pos-*-pos x.some (pos-*-pos y.some z.some);
  across = part_of_sum x.times s t y.times e f z.times g h a.x b.x u.x w.x p.x x.across y.across z.across;
  above = part_of_sum x.times s t y.times e f z.times g h a.y b.y u.y w.y p.y x.above y.above z.above;
  mass = part_of_sum x.times s t y.times e f z.times g h a.w b.w u.w w.w p.w x.mass y.mass z.mass;
}

pub segment_within : {a b u w p : Point} → IsOnSegment a b u → IsOnSegment a b w → IsOnSegment u w p → IsOnSegment a b p
segment_within on_u on_w on = record {
  s = ((on.s *ℤ on_w.mix.times) *ℤ on_u.s) +ℤ ((on.t *ℤ on_u.mix.times) *ℤ on_w.s);
  t = ((on.s *ℤ on_w.mix.times) *ℤ on_u.t) +ℤ ((on.t *ℤ on_u.mix.times) *ℤ on_w.t);
  mix = mix_within on_u.mix on_w.mix on.mix;
}

-- ---- an edge that runs from v along d has the points v + d/n
-- c steps of the way to a are r of d, and n of the way to p are d
toward_sum : (n r c d v v_w a a_w p p_w : ℤ) → n *ℤ ((p *ℤ v_w) -ℤ (v *ℤ p_w)) ≡ d *ℤ (v_w *ℤ p_w)
    → c *ℤ ((a *ℤ v_w) -ℤ (v *ℤ a_w)) ≡ r *ℤ d → ((n *ℤ r) *ℤ v_w) *ℤ p ≡ ((p_w *ℤ ((n *ℤ r) -ℤ ((c *ℤ v_w) *ℤ a_w))) *ℤ v) +ℤ
    (((p_w *ℤ c) *ℤ (v_w *ℤ v_w)) *ℤ a)
toward_sum n r c d v v_w a a_w p p_w e f =
    same_from (((var 0 ⊗ var 1) ⊗ var 5) ⊗ var 8)
    ((var 9 ⊗ (var 0 ⊗ var 1 ⊖ (var 2 ⊗ var 5) ⊗ var 7)) ⊗ var 4 ⊕ ((var 9 ⊗ var 2) ⊗ (var 5 ⊗ var 5)) ⊗ var 6)
    (n ∷ r ∷ c ∷ d ∷ v ∷ v_w ∷ a ∷ a_w ∷ p ∷ p_w ∷ [])
    (scaled (var 1) (same (var 0 ⊗ (var 8 ⊗ var 5 ⊖ var 4 ⊗ var 9)) (var 3 ⊗ (var 5 ⊗ var 9)) e)
    ⊞ scaled (var 5 ⊗ var 9) (same (var 1 ⊗ var 3) (var 2 ⊗ (var 6 ⊗ var 5 ⊖ var 4 ⊗ var 7)) (sym f))) refl

toward_mass : (n r c v_w a_w p_w : ℤ) → ((n *ℤ r) *ℤ v_w) *ℤ p_w ≡ ((p_w *ℤ ((n *ℤ r) -ℤ ((c *ℤ v_w) *ℤ a_w))) *ℤ v_w) +ℤ
    (((p_w *ℤ c) *ℤ (v_w *ℤ v_w)) *ℤ a_w)
toward_mass n r c v_w a_w p_w =
    same_from (((var 0 ⊗ var 1) ⊗ var 3) ⊗ var 5)
    ((var 5 ⊗ (var 0 ⊗ var 1 ⊖ (var 2 ⊗ var 3) ⊗ var 4)) ⊗ var 3 ⊕ ((var 5 ⊗ var 2) ⊗ (var 3 ⊗ var 3)) ⊗ var 4)
    (n ∷ r ∷ c ∷ v_w ∷ a_w ∷ p_w ∷ []) (same (num (pos 0)) (num (pos 0)) refl) refl

joined_step : (c i j x z : ℤ) → c *ℤ z ≡ (i *ℤ x) +ℤ (j *ℤ x) → c *ℤ z ≡ (i +ℤ j) *ℤ x
joined_step c i j x z e = same_from (var 0 ⊗ var 4) ((var 1 ⊕ var 2) ⊗ var 3) (c ∷ i ∷ j ∷ x ∷ z ∷ [])
    (same (var 0 ⊗ var 4) (var 1 ⊗ var 3 ⊕ var 2 ⊗ var 3) e) refl

far_enough : (n r g : ℤ) → pos 0 <ℤ r → pos 0 <ℤ n → g ≤ℤ n → pos 0 ≤ℤ ((n *ℤ r) -ℤ g)
far_enough n r g hr hn h =
    at_most_by (num (pos 0)) (var 0 ⊗ var 1 ⊖ var 2) (n ∷ r ∷ g ∷ [])
    (λ denied. denied ⊞ whole (positive (var 1) hr) ⊠ positive (var 0) hn ⊞ at_most (var 2) (var 0) h) refl

pub toward_on : (v : Point) (d : Direction) (a : Point) (c : IsInCone v d d a) (n : ℕ) (p : Point) → size_of ((c.times *ℤ v.w) *ℤ a.w) < n
    → IsAway v d n p → IsOnSegment v a p
unfolding shift rise
toward_on v d a c n p far away =
    let r = c.i +ℤ c.j in
    let some_n : pos 0 <ℤ pos n = omega (arith, linear, far) in
    let reach : ((c.times *ℤ v.w) *ℤ a.w) ≤ℤ pos n = omega (arith, linear, (size_is ((c.times *ℤ v.w) *ℤ a.w)).below, far) in
    record {
      s = p.w *ℤ ((pos n *ℤ r) -ℤ ((c.times *ℤ v.w) *ℤ a.w));
      t = (p.w *ℤ c.times) *ℤ (v.w *ℤ v.w);
      mix = record {
        first = nonneg-*-nonneg (<ℤ_weaken p.heavy) (far_enough (pos n) r ((c.times *ℤ v.w) *ℤ a.w) c.some some_n reach);
        second = <ℤ_weaken (pos-*-pos (pos-*-pos p.heavy c.positive) (pos-*-pos v.heavy v.heavy));
        times = (pos n *ℤ r) *ℤ v.w;
        some = pos-*-pos (pos-*-pos some_n c.some) v.heavy;
        across = toward_sum (pos n) r c.times d.x v.x v.w a.x a.w p.x p.w (away_shift away)
            (joined_step c.times c.i c.j d.x (shift v a) c.across);
        above = toward_sum (pos n) r c.times d.y v.y v.w a.y a.w p.y p.w (away_rise away)
            (joined_step c.times c.i c.j d.y (rise v a) c.above);
        mass = toward_mass (pos n) r c.times v.w a.w p.w;
      };
    }

pub edge_along : (v : Point) (d : Direction) (f : Seg) → is_on_edge v f ≡ true → (a : Point) → IsOnSegment (point_of f.a) (point_of f.b) a
    → is_toward v d a ≡ true → HoldsAlong (λ p. is_on_edge p f ≡ true) v d
edge_along v d f on a on_a toward =
    let c = (Decides-is_toward v d a).0 toward in
    record {
      from = size_of ((c.times *ℤ v.w) *ℤ a.w);
      holds = λ n far p away. (Decides-is_on_segment (point_of f.a) (point_of f.b) p).1
          (segment_within (on_true on) on_a (toward_on v d a c n p far away));
    }

-- either an edge runs from v along d, and then the points v + d/n are on it, or no edge does
pub along_or_clear : (v : Point) (d : Direction) (edges : List Seg) → HoldsAlong (λ p. is_on_edges p edges ≡ true) v d
    ⊎ AreClear v d d edges
along_or_clear v d [] = inr tt
along_or_clear v d (f ∷ edges) = by_rest (along_or_clear v d edges)
  where
    first_along : HoldsAlong (λ p. is_on_edge p f ≡ true) v d → HoldsAlong (λ p. is_on_edges p (f ∷ edges) ≡ true) v d
    first_along h = record { from = h.from; holds = λ n far p away. or_left (is_on_edge p f) (is_on_edges p edges) (h.holds n far p away) }

    by_ends : (b c : Bool) → is_toward v d (point_of f.a) ≡ b → is_toward v d (point_of f.b) ≡ c → is_on_edge v f ≡ true
        → AreClear v d d edges → HoldsAlong (λ p. is_on_edges p (f ∷ edges) ≡ true) v d ⊎ AreClear v d d (f ∷ edges)
    by_ends true c h k on clear = inl (first_along (edge_along v d f on (point_of f.a) (start_on_segment (point_of f.a) (point_of f.b)) h))
    by_ends false true h k on clear = inl
        (first_along (edge_along v d f on (point_of f.b) (end_on_segment (point_of f.a) (point_of f.b)) k))
    by_ends false false h k on clear =
        inr (
          λ on'. record {
            first = not_from_Decides (is_toward v d (point_of f.a)) (Decides-is_toward v d (point_of f.a)) h;
            second = not_from_Decides (is_toward v d (point_of f.b)) (Decides-is_toward v d (point_of f.b)) k;
          },
          clear,
        )

    by_v : (b : Bool) → is_on_edge v f ≡ b → AreClear v d d edges → HoldsAlong (λ p. is_on_edges p (f ∷ edges) ≡ true) v d
        ⊎ AreClear v d d (f ∷ edges)
    by_v true on clear = by_ends (is_toward v d (point_of f.a)) (is_toward v d (point_of f.b)) refl refl on clear
    by_v false off clear = inr (λ on. absurd (true≢false (sym on ∙ off)), clear)

    by_rest : HoldsAlong (λ p. is_on_edges p edges ≡ true) v d ⊎ AreClear v d d edges
        → HoldsAlong (λ p. is_on_edges p (f ∷ edges) ≡ true) v d ⊎ AreClear v d d (f ∷ edges)
    by_rest (inl h) = inl
        (record { from = h.from; holds = λ n far p away. or_right (is_on_edge p f) (is_on_edges p edges) (h.holds n far p away) })
    by_rest (inr clear) = by_v (is_on_edge v f) refl clear

-- ---- the location along a segment that meets no edge of the area
holes_stay : (p q : Point) (holes : List (List Pt)) → All IsRingShaped holes → Misses p q (edges_of_rings holes)
    → list_any (is_inside p) holes ≡ list_any (is_inside q) holes
holes_stay p q [] shaped miss = refl
holes_stay p q (hole ∷ holes) shaped miss = λ i.
    inside_stays p q hole (All-head IsRingShaped hole holes shaped).closed (misses_left (edges_of hole) (edges_of_rings holes) miss) i
    || holes_stay p q holes (All-tail IsRingShaped hole holes shaped) (misses_right (edges_of hole) (edges_of_rings holes) miss) i

pub location_stays : (p q : Point) (area : Area) → IsAreaShaped area → Misses p q (edges_of_rings (rings_of area))
    → location area p ≡ location area q
location_stays p q area shaped miss = λ i. location_by (on_edges i) (shell i) (holes i)
  where
    on_edges : is_on_edges p (edges_of_rings (rings_of area)) ≡ is_on_edges q (edges_of_rings (rings_of area))
    on_edges = misses_start miss ∙ sym (misses_end miss)

    shell : is_inside p area.shell ≡ is_inside q area.shell
    shell = inside_stays p q area.shell shaped.shell.closed (misses_left (edges_of area.shell) (edges_of_rings area.holes) miss)

    holes : list_any (is_inside p) area.holes ≡ list_any (is_inside q) area.holes
    holes = holes_stay p q area.holes shaped.holes (misses_right (edges_of area.shell) (edges_of_rings area.holes) miss)

-- ---- the germ of the location
pub record HasGerm (area : Area) (v : Point) (d : Direction) : Type 0 where
  pub germ : Loc
  pub is : IsGerm area v d germ

on_boundary : (area : Area) (p : Point) → is_on_edges p (edges_of_rings (rings_of area)) ≡ true → location area p ≡ Boundary
on_boundary area p h = ap (λ z. location_by z (is_inside p area.shell) (list_any (is_inside p) area.holes)) h

pub germ_exists : (area : Area) → IsAreaShaped area → (v : Point) (d : Direction) → HasGerm area v d
germ_exists area shaped v d = go (along_or_clear v d (edges_of_rings (rings_of area)))
  where
    settled : AreJoined v d d (edges_of_rings (rings_of area)) → HasGerm area v d
    settled j = record {
      germ = location area (away_point v d j.from);
      is = record {
        from = j.from;
        holds = λ n far p away.
            location_stays p (away_point v d j.from) area shaped
            (j.free n (suc j.from) far (omega arith) p (away_point v d j.from) away (away_point_is v d j.from));
      };
    }

    go : HoldsAlong (λ p. is_on_edges p (edges_of_rings (rings_of area)) ≡ true) v d ⊎ AreClear v d d (edges_of_rings (rings_of area))
        → HasGerm area v d
    go (inl along) = record
        { germ = Boundary; is = record { from = along.from; holds = λ n far p away. on_boundary area p (along.holds n far p away) } }
    go (inr clear) = settled (joined_between v d d (direction_pointed v d) (edges_of_rings (rings_of area)) clear)

-- no two germs along one direction, and the same germ along two directions that no edge comes between
pub germ_same : (area : Area) → IsAreaShaped area → (v : Point) (d e : Direction) → ¬ IsInCone v d e v
    → AreClear v d e (edges_of_rings (rings_of area)) → (g h : Loc) → IsGerm area v d g → IsGerm area v e h → g ≡ h
germ_same area shaped v d e pointed clear g h is_g is_h =
    let j = joined_between v d e pointed (edges_of_rings (rings_of area)) clear in
    let n = (is_g.from + is_h.from) + j.from in
    sym (is_g.holds (suc n) (omega arith) (away_point v d n) (away_point_is v d n))
    ∙ location_stays (away_point v d n) (away_point v e n) area shaped
    (j.free (suc n) (suc n) (omega arith) (omega arith) (away_point v d n) (away_point v e n) (away_point_is v d n) (away_point_is v e n))
    ∙ is_h.holds (suc n) (omega arith) (away_point v e n) (away_point_is v e n)

pub germ_one : (area : Area) (v : Point) (d : Direction) (g h : Loc) → IsGerm area v d g → IsGerm area v d h → g ≡ h
germ_one area v d g h is_g is_h =
    let n = is_g.from + is_h.from in
    sym (is_g.holds (suc n) (omega arith) (away_point v d n) (away_point_is v d n))
    ∙ is_h.holds (suc n) (omega arith) (away_point v d n) (away_point_is v d n)

pub pair_germ_one : (a b : Figure) (rule : Rule) (v : Point) (d : Direction) (g h : Cell) → IsPairGerm a b rule v d g
    → IsPairGerm a b rule v d h → g ≡ h
pair_germ_one a b rule v d g h is_g is_h =
    let n = is_g.from + is_h.from in
    let p = is_g.holds (suc n) (omega arith) (away_point v d n) (away_point_is v d n) in
    let q = is_h.holds (suc n) (omega arith) (away_point v d n) (away_point_is v d n) in
    λ i. record { a = one_part p.in_a q.in_a i; b = one_part p.in_b q.in_b i }

pub clear_from : (v : Point) (d e : Direction) (edges : List Seg)
    → ((place : ℕ) (f : Seg) → IsAtPlace edges place f → is_on_edge v f ≡ true → (¬ IsInCone v d e (point_of f.a))
    × (¬ IsInCone v d e (point_of f.b))) → AreClear v d e edges
clear_from v d e [] h = tt
clear_from v d e (f ∷ edges) h = (
  λ on. let ends = h 0 f refl on in record { first = ends.0; second = ends.1 },
  clear_from v d e edges
      (λ place g is on. h (suc place) g is on),
)
