-- The ways of all edges of a figure's areas, in the order of their angles: they are rays of each area at every point.
use Rattle.std.proofs.Common.{◌≡◌, ◌⊎◌, inl, inr, ℕ, zero, suc, ℤ, pos, negsuc, ◌+ℤ◌, ◌-ℤ◌, ◌*ℤ◌, neg_ℤ, ◌<ℤ◌, ◌≤ℤ◌, Bool, true, false}
use Rattle.std.proofs.Common.{Less, List, [], ◌∷◌, ◌++◌, ap, refl, sym, ◌∙◌, subst, arith}
use Rattle.std.specs.List.{AllByRecursion, AllPairs}
use Rattle.std.proofs.lemmas.Bool.{true≢false}
use Rattle.std.proofs.lemmas.List.Elements.{recursion_from_All}
use lib.IntN.{zero-*ℤ}
use Rattle.whole_algebra.proofs.Laws.{linear}
use Rattle.whole_algebra.proofs.Polynomials.{var, num, ◌⊕◌, ◌⊖◌, ◌⊗◌, minus}
use Rattle.whole_algebra.proofs.Certificates.{same, same_from, vanishing, scaled, ◌⊞◌}
use Rattle.whole_algebra.proofs.Signs.{by_sign, zero_factor, pos_nonzero, pos-*-pos}
use Rattle.plane_laws.proofs.Segments.On.{mix_shift_start, mix_shift_end, mix_rise_start, mix_rise_end}
use Rattle.plane_laws.proofs.Points.Same.{same_refl}
use Rattle.plane_exact.proofs.Laws.{shift-positions, rise-positions}
use Rattle.plane_laws.specs.Plane.{Point, rise, shift}
use Rattle.plane_exact.specs.Places.{point_of, IsInLimit}
use Rattle.plane_laws.specs.Directions.{Direction, PointSameWay}
use Rattle.plane_exact.specs.Directions.{IsWay}
use Rattle.plane_exact.specs.Orders.{direction_of, compare_angles}
use Rattle.plane_exact.specs.declared.dir.Dir.{Dir}
use Rattle.plane_exact.specs.declared.point.Pt.{Pt}
use Rattle.plane_exact.specs.declared.point.Seg.{Seg}
use Rattle.point_set.specs.declared.figure.Area.{Area}
use Rattle.point_set.specs.declared.figure.Figure.{Figure}
use Rattle.plane_laws.specs.Along.{IsInCone}
use Rattle.point_set.specs.Location.{edges_of_rings, rings_of}
use Rattle.point_set.specs.Rings.{is_same_position, edge_before, edges_after, edges_of, is_on_edge}
use Rattle.point_set.specs.Sectors.{AreRaysAt}
use Rattle.point_set.specs.Shape.{IsAreaShaped, IsRingShaped, IsWellShaped, IsWayInLimit}
use Rattle.point_set.specs.Sides.{slope}
use Rattle.point_set.specs.Validity.{IsAtPlace, IsOnEdge}
use Rattle.ring_laws.proofs.Germs.Edges.{on_true, squares}
use Rattle.figure_laws.proofs.Lists.Places.{some_same, same_position}
use Rattle.side_laws.proofs.Edges.Places.{same_positions}
use Rattle.kind_laws.proofs.Hands.InSector.{step_ahead, step_back, shift_back, rise_back}
use Rattle.point_set.specs.Nodes.{rings_of_areas}
use Rattle.figure_laws.proofs.Edges.Lists.{rings_append}
use Rattle.kind_laws.proofs.Location.RayLists.{HasWay, AreAscending, ascending_pairs, some_way, HasInserted, inserted}

-- ---- what holds of each item
-- of the item at a place
pub all_place : {X : Type 0} (P : X → Type 0) (xs : List X) → AllByRecursion P xs → (i : ℕ) (x : X) → IsAtPlace xs i x → P x
all_place P [] all i x is = cc
all_place P (y ∷ xs) all zero x is = subst P (some_same is) all.0
all_place P (y ∷ xs) all (suc i) x is = all_place P xs all.1 i x is

-- of the items of two lists apart
pub all_split : {X : Type 0} (P : X → Type 0) (xs ys : List X) → AllByRecursion P (xs ++ ys) → AllByRecursion P xs × AllByRecursion P ys
all_split P [] ys all = (tt, all)
all_split P (x ∷ xs) ys all = let rest = all_split P xs ys all.1 in ((all.0, rest.0), rest.1)

-- and together
pub all_joined : {X : Type 0} (P : X → Type 0) (xs ys : List X) → AllByRecursion P xs → AllByRecursion P ys → AllByRecursion P (xs ++ ys)
all_joined P [] ys all more = more
all_joined P (x ∷ xs) ys all more = (all.0, all_joined P xs ys all.1 more)

-- and what follows from it
pub all_map : {X : Type 0} (P Q : X → Type 0) → ((x : X) → P x → Q x) → (xs : List X) → AllByRecursion P xs → AllByRecursion Q xs
all_map P Q f [] all = tt
all_map P Q f (x ∷ xs) all = (f x all.0, all_map P Q f xs all.1)

-- of the edges of one of the areas
pub all_area :
    (P : Seg → Type 0) (areas : List Area) → AllByRecursion P (edges_of_rings (rings_of_areas areas)) → (k : ℕ) (area : Area)
    → IsAtPlace areas k area → AllByRecursion P (edges_of_rings (rings_of area))
all_area P [] all k area is = cc
all_area P (first ∷ areas) all zero area is =
    subst (λ (a : Area). AllByRecursion P (edges_of_rings (rings_of a))) (some_same is)
    (all_split P (edges_of_rings (rings_of first)) (edges_of_rings (rings_of_areas areas))
    (subst (λ edges. AllByRecursion P edges) (rings_append (rings_of first) (rings_of_areas areas)) all)).0
all_area P (first ∷ areas) all (suc k) area is =
    all_area P areas
    (all_split P (edges_of_rings (rings_of first)) (edges_of_rings (rings_of_areas areas))
    (subst (λ edges. AllByRecursion P edges) (rings_append (rings_of first) (rings_of_areas areas)) all)).1
    k area is

-- ---- edges of ways within the limit
-- the ends are within the limit, and differ
pub record IsFit (e : Seg) : Type 0 where
  pub first : IsInLimit e.a
  pub second : IsInLimit e.b
  pub apart : is_same_position e.a e.b ≡ false

-- one edge more, or none where its ends are equal
fit_before :
    (b : Bool) (p q : Pt) (edges : List Seg) → (b ≡ false → IsFit (record { a = p; b = q })) → AllByRecursion IsFit edges
    → AllByRecursion IsFit (edge_before b p q edges)
fit_before true p q edges fit all = all
fit_before false p q edges fit all = (fit refl, all)

-- the edges of a way that goes on from p are fit
fit_after : (p : Pt) (others : List Pt) → IsInLimit p → AllByRecursion IsInLimit others → AllByRecursion IsFit (edges_after p others)
fit_after p [] h all = tt
fit_after p (q ∷ others) h all =
    fit_before (is_same_position p q) p q (edges_after q others) (λ apart. record { first = h; second = all.0; apart = apart })
    (fit_after q others all.0 all.1)

-- the edges of a way within the limit are fit
fit_way : (way : List Pt) → AllByRecursion IsInLimit way → AllByRecursion IsFit (edges_of way)
fit_way [] all = tt
fit_way (p ∷ others) all = fit_after p others all.0 all.1

-- the edges of ways within the limit are fit
fit_rings : (rings : List (List Pt)) → AllByRecursion IsWayInLimit rings → AllByRecursion IsFit (edges_of_rings rings)
fit_rings [] all = tt
fit_rings (ring ∷ rings) all =
    all_joined IsFit (edges_of ring) (edges_of_rings rings) (fit_way ring (recursion_from_All IsInLimit ring all.0)) (fit_rings rings all.1)

-- the rings of well shaped areas are within the limit
areas_within : (areas : List Area) → AllByRecursion IsAreaShaped areas → AllByRecursion IsWayInLimit (rings_of_areas areas)
areas_within [] all = tt
areas_within (area ∷ areas) all = (
  all.0.shell.within,
  all_joined IsWayInLimit area.holes (rings_of_areas areas)
      (all_map IsRingShaped IsWayInLimit (λ ring shaped. shaped.within) area.holes (recursion_from_All IsRingShaped area.holes all.0.holes))
      (areas_within areas all.1),
)

-- ---- the two ways of an edge
-- the edge turned round
unfoldable pub swapped : Seg → Seg
swapped e = record { a = e.b; b = e.a }

-- the step between two coordinates within the limit is short enough for a way
limit_step :
    (x y : ℤ) → negsuc 1048574 ≤ℤ x → x ≤ℤ pos 1048575 → negsuc 1048574 ≤ℤ y → y ≤ℤ pos 1048575
    → (negsuc 8388607 ≤ℤ (y -ℤ x)) × ((y -ℤ x) ≤ℤ pos 8388608)
limit_step x y h k l m = (omega (arith, linear, h, k, l, m), omega (arith, linear, h, k, l, m))

-- no step at all: the positions are equal
no_step : (p q : Pt) → (q.x -ℤ p.x ≡ pos 0) × (q.y -ℤ p.y ≡ pos 0) → is_same_position p q ≡ true
no_step p q z =
    same_positions p q (record {
      across = ap (λ c. c *ℤ pos 1) (level q.x p.x z.0);
      above = ap (λ c. c *ℤ pos 1) (level q.y p.y z.1);
    })
  where
    level : (x y : ℤ) → x -ℤ y ≡ pos 0 → y ≡ x
    level x y e = omega (arith, linear, e)

-- the step from the first end to the second is that of a way
pub way_is : (e : Seg) → IsFit e → IsWay (e.b.x -ℤ e.a.x) (e.b.y -ℤ e.a.y)
way_is e fit =
    let x = limit_step e.a.x e.b.x fit.first.left fit.first.right fit.second.left fit.second.right in
    let y = limit_step e.a.y e.b.y fit.first.bottom fit.first.top fit.second.bottom fit.second.top in
    record {
      left = x.0;
      right = x.1;
      bottom = y.0;
      top = y.1;
      turned = λ z. true≢false (sym (no_step e.a e.b z) ∙ fit.apart);
    }

-- the way from the first end to the second
unfoldable pub way_of : (e : Seg) → IsFit e → Dir
way_of e fit = record { dx = e.b.x -ℤ e.a.x; dy = e.b.y -ℤ e.a.y; way = way_is e fit }

-- an edge turned round is fit too
pub swapped_fit : (e : Seg) → IsFit e → IsFit (swapped e)
unfolding swapped
swapped_fit e fit = record { first = fit.second; second = fit.first; apart = by_test (is_same_position e.b e.a) refl }
  where
    turned : is_same_position e.b e.a ≡ true → is_same_position e.a e.b ≡ true
    turned h = ap (λ (p : Pt). is_same_position p e.b) (sym (same_position e.b e.a h)) ∙ same_positions e.b e.b (same_refl (point_of e.b))

    by_test : (b : Bool) → is_same_position e.b e.a ≡ b → is_same_position e.b e.a ≡ false
    by_test true h = absurd (true≢false (sym (turned h) ∙ fit.apart))
    by_test false h = h

-- ---- a direction along an edge's line points one of the two ways
-- on one line, a square of d times t is their dot product times d: across
with_dot_x : (dx dy tx ty : ℤ) → (dx *ℤ ty) -ℤ (dy *ℤ tx) ≡ pos 0 → ((dx *ℤ dx) +ℤ (dy *ℤ dy)) *ℤ tx ≡ ((tx *ℤ dx) +ℤ (ty *ℤ dy)) *ℤ dx
with_dot_x dx dy tx ty e =
    same_from ((var 0 ⊗ var 0 ⊕ var 1 ⊗ var 1) ⊗ var 2) ((var 2 ⊗ var 0 ⊕ var 3 ⊗ var 1) ⊗ var 0) (dx ∷ dy ∷ tx ∷ ty ∷ [])
    (scaled (minus (var 1)) (vanishing (var 0 ⊗ var 3 ⊖ var 1 ⊗ var 2) e)) refl

-- and above
with_dot_y : (dx dy tx ty : ℤ) → (dx *ℤ ty) -ℤ (dy *ℤ tx) ≡ pos 0 → ((dx *ℤ dx) +ℤ (dy *ℤ dy)) *ℤ ty ≡ ((tx *ℤ dx) +ℤ (ty *ℤ dy)) *ℤ dy
with_dot_y dx dy tx ty e =
    same_from ((var 0 ⊗ var 0 ⊕ var 1 ⊗ var 1) ⊗ var 3) ((var 2 ⊗ var 0 ⊕ var 3 ⊗ var 1) ⊗ var 1) (dx ∷ dy ∷ tx ∷ ty ∷ [])
    (scaled (var 0) (vanishing (var 0 ⊗ var 3 ⊖ var 1 ⊗ var 2) e)) refl

-- a factor and a step, both turned round
both_turned : (n x y : ℤ) → y ≡ neg_ℤ x → n *ℤ x ≡ neg_ℤ n *ℤ y
both_turned n x y e =
    same_from (var 0 ⊗ var 1) (minus (var 0) ⊗ var 2) (n ∷ x ∷ y ∷ []) (scaled (var 0) (same (var 2) (minus (var 1)) e)) refl

-- of d and its opposite e, t points one of the ways
pub one_of_two :
    (t d e : Direction) → e.x ≡ neg_ℤ d.x → e.y ≡ neg_ℤ d.y → (d.x *ℤ t.y) -ℤ (d.y *ℤ t.x) ≡ pos 0 → PointSameWay t d ⊎ PointSameWay t e
one_of_two t d e ex ey z = by_sign dot
    (λ h. inr (record {
      m = size;
      n = neg_ℤ dot;
      some = squares d.x d.y d.moves;
      other = omega (arith, linear, h);
      across = with_dot_x d.x d.y t.x t.y z ∙ both_turned dot d.x e.x ex;
      above = with_dot_y d.x d.y t.x t.y z ∙ both_turned dot d.y e.y ey;
    }))
    (λ h. absurd (t.moves (none t.x d.x (with_dot_x d.x d.y t.x t.y z) h, none t.y d.y (with_dot_y d.x d.y t.x t.y z) h)))
    (λ h. inl (record {
      m = size;
      n = dot;
      some = squares d.x d.y d.moves;
      other = h;
      across = with_dot_x d.x d.y t.x t.y z;
      above = with_dot_y d.x d.y t.x t.y z;
    }))
  where
    dot : ℤ
    dot = (t.x *ℤ d.x) +ℤ (t.y *ℤ d.y)

    size : ℤ
    size = (d.x *ℤ d.x) +ℤ (d.y *ℤ d.y)

    none : (x y : ℤ) → size *ℤ x ≡ dot *ℤ y → dot ≡ pos 0 → x ≡ pos 0
    none x y f h = zero_factor size x (pos_nonzero (squares d.x d.y d.moves)) (f ∙ ap (λ z. z *ℤ y) h ∙ zero-*ℤ y)

-- ---- from a point of an edge, the directions to its ends are along its line
-- k·w of the edge are m·c of t: the edge and t are on one line
level_by :
    (k w m c x y tx ty : ℤ) → pos 0 <ℤ m → pos 0 <ℤ c → k *ℤ (w *ℤ x) ≡ m *ℤ (c *ℤ tx) → k *ℤ (w *ℤ y) ≡ m *ℤ (c *ℤ ty)
    → (x *ℤ ty) -ℤ (y *ℤ tx) ≡ pos 0
level_by k w m c x y tx ty hm hc e f =
    zero_factor (m *ℤ c) ((x *ℤ ty) -ℤ (y *ℤ tx)) (pos_nonzero (pos-*-pos hm hc))
    (same_from ((var 2 ⊗ var 3) ⊗ (var 4 ⊗ var 7 ⊖ var 5 ⊗ var 6)) (num (pos 0)) (k ∷ w ∷ m ∷ c ∷ x ∷ y ∷ tx ∷ ty ∷ [])
    (scaled (minus (var 4)) (same (var 0 ⊗ (var 1 ⊗ var 5)) (var 2 ⊗ (var 3 ⊗ var 7)) f)
    ⊞ scaled (var 5) (same (var 0 ⊗ (var 1 ⊗ var 4)) (var 2 ⊗ (var 3 ⊗ var 6)) e)) refl)

-- the same of the edge turned round
turned_level : (x y tx ty : ℤ) → (neg_ℤ x *ℤ ty) -ℤ (neg_ℤ y *ℤ tx) ≡ pos 0 → (x *ℤ ty) -ℤ (y *ℤ tx) ≡ pos 0
turned_level x y tx ty e =
    same_from (var 0 ⊗ var 3 ⊖ var 1 ⊗ var 2) (num (pos 0)) (x ∷ y ∷ tx ∷ ty ∷ [])
    (scaled (num (negsuc 0)) (vanishing (minus (var 0) ⊗ var 3 ⊖ minus (var 1) ⊗ var 2) e)) refl

-- the direction to the second end is along the edge
level_to_second : (e : Seg) {v : Point} {t : Direction} → IsOnEdge e v → IsInCone v t t (point_of e.b) → slope e t ≡ pos 0
level_to_second e {v} {t} on c =
    level_by c.times on.s on.mix.times (c.i +ℤ c.j) (e.b.x -ℤ e.a.x) (e.b.y -ℤ e.a.y) t.x t.y on.mix.some c.some
    (step_ahead c.times on.mix.times on.s c.i c.j (shift v (point_of e.b)) (e.b.x -ℤ e.a.x) t.x c.across
    (mix_shift_end on.mix ∙ ap (λ z. on.s *ℤ z) (shift-positions e.a e.b)))
    (step_ahead c.times on.mix.times on.s c.i c.j (rise v (point_of e.b)) (e.b.y -ℤ e.a.y) t.y c.above
    (mix_rise_end on.mix ∙ ap (λ z. on.s *ℤ z) (rise-positions e.a e.b)))

-- the direction to the first end is along the edge
level_to_first : (e : Seg) {v : Point} {t : Direction} → IsOnEdge e v → IsInCone v t t (point_of e.a) → slope e t ≡ pos 0
level_to_first e {v} {t} on c =
    turned_level (e.b.x -ℤ e.a.x) (e.b.y -ℤ e.a.y) t.x t.y
    (level_by c.times on.t on.mix.times (c.i +ℤ c.j) (neg_ℤ (e.b.x -ℤ e.a.x)) (neg_ℤ (e.b.y -ℤ e.a.y)) t.x t.y on.mix.some c.some
    (step_back c.times on.mix.times on.t c.i c.j (shift v (point_of e.a)) (shift (point_of e.a) v) (e.b.x -ℤ e.a.x) t.x c.across
    (shift_back (point_of e.a) v) (mix_shift_start on.mix ∙ ap (λ z. on.t *ℤ z) (shift-positions e.a e.b)))
    (step_back c.times on.mix.times on.t c.i c.j (rise v (point_of e.a)) (rise (point_of e.a) v) (e.b.y -ℤ e.a.y) t.y c.above
    (rise_back (point_of e.a) v) (mix_rise_start on.mix ∙ ap (λ z. on.t *ℤ z) (rise-positions e.a e.b))))

-- the way back is the way turned round
turned_x : (e : Seg) (fit : IsFit e) → (way_of (swapped e) (swapped_fit e fit)).dx ≡ neg_ℤ (way_of e fit).dx
unfolding way_of swapped
turned_x e fit = omega (arith, linear)

-- and above
turned_y : (e : Seg) (fit : IsFit e) → (way_of (swapped e) (swapped_fit e fit)).dy ≡ neg_ℤ (way_of e fit).dy
unfolding way_of swapped
turned_y e fit = omega (arith, linear)

-- the slope is the bend from the way
slope_way : (e : Seg) (fit : IsFit e) (t : Direction) → slope e t ≡ pos 0 → ((way_of e fit).dx *ℤ t.y) -ℤ ((way_of e fit).dy *ℤ t.x) ≡ pos 0
unfolding way_of
slope_way e fit t z = z

-- ---- the rays
-- a direction along an edge's line points the way of a ray
abbrev pub HasWaysOf : List Dir → Seg → Type 0
HasWaysOf rays e = (t : Direction) → slope e t ≡ pos 0 → HasWay t rays

-- rays in order that have the ways of all the edges
pub record HasRays (edges : List Seg) : Type 0 where
  pub rays : List Dir
  pub ascending : AreAscending rays
  pub ways : AllByRecursion (HasWaysOf rays) edges

-- the two ways of each edge, put in one by one
pub rays_for : (edges : List Seg) → AllByRecursion IsFit edges → HasRays edges
rays_for [] fit = record { rays = []; ascending = tt; ways = tt }
rays_for (e ∷ edges) fit = more (rays_for edges fit.1)
  where
    more : HasRays edges → HasRays (e ∷ edges)
    more rest =
        let first = inserted (way_of e fit.0) rest.rays rest.ascending in
        let second = inserted (way_of (swapped e) (swapped_fit e fit.0)) first.list first.ascending in
        record {
          rays = second.list;
          ascending = second.ascending;
          ways = (
            λ t z. by_way t first second (one_of_two t (direction_of (way_of e fit.0))
                (direction_of (way_of (swapped e) (swapped_fit e fit.0))) (turned_x e fit.0) (turned_y e fit.0) (slope_way e fit.0 t z)),
            all_map (HasWaysOf rest.rays) (HasWaysOf second.list) (λ g has t z. second.keeps t (first.keeps t (has t z))) edges rest.ways,
          );
        }
      where
        by_way :
            (t : Direction) (first : HasInserted (way_of e fit.0) rest.rays)
            (second : HasInserted (way_of (swapped e) (swapped_fit e fit.0)) first.list)
            → PointSameWay t (direction_of (way_of e fit.0)) ⊎ PointSameWay t (direction_of (way_of (swapped e) (swapped_fit e fit.0)))
            → HasWay t second.list
        by_way t first second (inl w) = second.keeps t (first.has t w)
        by_way t first second (inr w) = second.has t w

-- ---- of all areas of a figure
-- rays that are those of each area, at every point
pub record HasAreaRays (f : Figure) : Type 0 where
  pub rays : List Dir
  pub ascending : AllPairs (λ d e. compare_angles d e ≡ Less) rays
  pub at : (v : Point) (k : ℕ) (area : Area) → IsAtPlace f.areas k area → AreRaysAt v (edges_of_rings (rings_of area)) rays

-- the ways of all edges of all areas: an edge that v is not on does no harm
pub area_rays : (f : Figure) → IsWellShaped f → HasAreaRays f
area_rays f shaped = record {
  rays = r.rays;
  ascending = ascending_pairs r.rays r.ascending;
  at = λ v k area is. record {
    ascending = ascending_pairs r.rays r.ascending;
    whole = λ place g g_is on t toward.
        some_way t r.rays (all_place (HasWaysOf r.rays) (edges_of_rings (rings_of area))
        (all_area (HasWaysOf r.rays) f.areas r.ways k area is) place g g_is t (level g v t on toward));
  };
}
  where
    r : HasRays (edges_of_rings (rings_of_areas f.areas))
    r =
        rays_for (edges_of_rings (rings_of_areas f.areas))
        (fit_rings (rings_of_areas f.areas) (areas_within f.areas (recursion_from_All IsAreaShaped f.areas shaped.areas)))

    level :
        (g : Seg) (v : Point) (t : Direction) → is_on_edge v g ≡ true → IsInCone v t t (point_of g.a) ⊎ IsInCone v t t (point_of g.b)
        → slope g t ≡ pos 0
    level g v t on (inl c) = level_to_first g (on_true {p = v} {f = g} on) c
    level g v t on (inr c) = level_to_second g (on_true {p = v} {f = g} on) c
