-- Just to the left of a ray one is strictly within the sector after it; so what an area covers in a sector, it covers on the
-- sector's first ray.
use Rattle.std.proofs.Common.{◌≡◌, inl, ℕ, suc, ◌+◌, ◌*◌, ℤ, pos, ◌+ℤ◌, ◌-ℤ◌, ◌*ℤ◌, neg_ℤ, ◌<ℤ◌, ◌≤ℤ◌, Bool, true, false, List, [], ◌∷◌}
use Rattle.std.proofs.Common.{refl, sym, ◌∙◌, arith}
use Rattle.std.specs.List.{list_any}
use Rattle.im_matrix.specs.declared.Loc.{Loc}
use Rattle.im_matrix.specs.declared.Loc.TheVariants.{Exterior}
use Rattle.std.proofs.lemmas.Bool.{or_parts, or_from}
use Rattle.whole_algebra.proofs.Laws.{linear}
use Rattle.whole_algebra.proofs.Polynomials.{var, num, ◌⊕◌, ◌⊖◌, ◌⊗◌, minus}
use Rattle.whole_algebra.proofs.Certificates.{natural, positive, at_most, less, less_by, whole, ◌⊞◌, ◌⊠◌}
use Rattle.whole_algebra.proofs.Signs.{<ℤ_apart}
use Rattle.plane_laws.proofs.Directions.Angles.{no_bend}
use Rattle.plane_laws.specs.Plane.{Point}
use Rattle.plane_laws.specs.Directions.{Direction, bend_of, IsStrictlyWithin}
use Rattle.plane_exact.specs.declared.point.Seg.{Seg}
use Rattle.point_set.specs.declared.figure.Area.{Area}
use Rattle.point_set.specs.Germ.{IsGerm}
use Rattle.point_set.specs.Location.{location, location_by, edges_of_rings, rings_of}
use Rattle.point_set.specs.Rings.{is_on_edge, is_on_edges, is_inside}
use Rattle.point_set.specs.Sectors.{HasNoEdgeWithin}
use Rattle.point_set.specs.Shape.{IsAreaShaped}
use Rattle.plane_laws.proofs.Near.Near.{near_mix, size_of, size_is}
use Rattle.ring_laws.proofs.Room.Edges.{HoldBoth, room}
use Rattle.plane_laws.proofs.Near.Away.{away_point, away_point_is, away_near, far_for}
use Rattle.ring_laws.proofs.Germs.Areas.{location_stays}
use Rattle.germ_laws.proofs.Sectors.Germ.{same_in_sector}
use Rattle.germ_laws.proofs.Room.Starry.{near_self}
use Rattle.germ_laws.proofs.Room.Germs.{germ_room}
use Rattle.germ_laws.proofs.Room.TwoSteps.{both_ways, germ_from_step}

-- ---- just to the left of a ray
left_of_sum : (rx ry tx ty n l : ℤ) → pos 0 <ℤ n → pos 0 <ℤ ((rx *ℤ ty) -ℤ (ry *ℤ tx))
    → pos 0 <ℤ ((rx *ℤ ((l *ℤ ry) +ℤ (n *ℤ ty))) -ℤ (ry *ℤ ((l *ℤ rx) +ℤ (n *ℤ tx))))
left_of_sum rx ry tx ty n l hn h =
    less_by (num (pos 0)) (var 0 ⊗ (var 5 ⊗ var 1 ⊕ var 4 ⊗ var 3) ⊖ var 1 ⊗ (var 5 ⊗ var 0 ⊕ var 4 ⊗ var 2))
    (rx ∷ ry ∷ tx ∷ ty ∷ n ∷ l ∷ [])
    (λ denied. denied ⊞ positive (var 4) hn ⊠ positive (var 0 ⊗ var 3 ⊖ var 1 ⊗ var 2) h) refl

right_of_sum : (rx ry tx ty sx sy n l size : ℤ) → pos 0 ≤ℤ n → pos 0 ≤ℤ l → (n *ℤ size) <ℤ l → pos 0 <ℤ ((rx *ℤ sy) -ℤ (ry *ℤ sx))
    → neg_ℤ size ≤ℤ ((tx *ℤ sy) -ℤ (ty *ℤ sx)) → pos 0 <ℤ ((((l *ℤ rx) +ℤ (n *ℤ tx)) *ℤ sy) -ℤ (((l *ℤ ry) +ℤ (n *ℤ ty)) *ℤ sx))
right_of_sum rx ry tx ty sx sy n l size hn hl far h k =
    less_by (num (pos 0)) ((var 7 ⊗ var 0 ⊕ var 6 ⊗ var 2) ⊗ var 5 ⊖ (var 7 ⊗ var 1 ⊕ var 6 ⊗ var 3) ⊗ var 4)
    (rx ∷ ry ∷ tx ∷ ty ∷ sx ∷ sy ∷ n ∷ l ∷ size ∷ [])
    (λ denied. denied ⊞ natural (var 7) hl ⊠ whole (positive (var 0 ⊗ var 5 ⊖ var 1 ⊗ var 4) h)
    ⊞ natural (var 6) hn ⊠ at_most (minus (var 8)) (var 2 ⊗ var 5 ⊖ var 3 ⊗ var 4) k
    ⊞ less (var 6 ⊗ var 8) (var 7) far) refl

pub just_left : (r s t : Direction) (h : pos 0 <ℤ bend_of r t) (bent : ¬ (bend_of r t ≡ pos 0)) (n l : ℕ)
    → (pos (suc n) *ℤ pos (size_of (bend_of t s))) <ℤ pos (suc l) → IsStrictlyWithin r s (both_ways r t bent n l)
unfolding bend_of both_ways
just_left r s t h bent n l far = record {
  left = λ k. (
    left,
    right_of_sum r.x r.y t.x t.y s.x s.y (pos (suc n)) (pos (suc l)) (pos (size_of ((t.x *ℤ s.y) -ℤ (t.y *ℤ s.x))))
        (omega (arith, linear)) (omega (arith, linear)) far k (size_is ((t.x *ℤ s.y) -ℤ (t.y *ℤ s.x))).above,
  );
  right = λ _. inl left;
  opposite = λ _ _. left;
  same = λ _ q. <ℤ_apart left (sym (no_bend q));
}
  where
    left : pos 0 <ℤ ((r.x *ℤ ((pos (suc l) *ℤ r.y) +ℤ (pos (suc n) *ℤ t.y))) -ℤ (r.y *ℤ ((pos (suc l) *ℤ r.x) +ℤ (pos (suc n) *ℤ t.x))))
    left = left_of_sum r.x r.y t.x t.y (pos (suc n)) (pos (suc l)) (omega (arith, linear)) h

-- ---- near a point that is on no edge the location stays
-- what is on no more edges than v is on none
pub none_held : (v m : Point) (edges : List Seg) → is_on_edges v edges ≡ false → HoldBoth v m edges → is_on_edges m edges ≡ false
none_held v m [] off both = refl
none_held v m (e ∷ edges) off both =
    let tests = or_parts (is_on_edge v e) (is_on_edges v edges) off in
    or_from (is_on_edge m e) (is_on_edges m edges) (both.0 tests.0) (none_held v m edges tests.1 both.1)

pub settled : (area : Area) → IsAreaShaped area → (v : Point) → is_on_edges v (edges_of_rings (rings_of area)) ≡ false → (d : Direction)
    → IsGerm area v d (location area v)
settled area shaped v off d =
    let edges = edges_of_rings (rings_of area) in
    let r = room v edges in
    record {
      from = far_for d r.n;
      holds = λ n far q away.
          location_stays q v area shaped
          (record {
            off = λ m on. none_held v m edges off
                (r.free r.n (omega arith) m (near_mix (away_near r.n far away) (near_self v r.n) on));
          });
    }

pub off_edges : (area : Area) (q : Point) → location area q ≡ Exterior → is_on_edges q (edges_of_rings (rings_of area)) ≡ false
off_edges area q = go (is_on_edges q (edges_of_rings (rings_of area))) (is_inside q area.shell) (list_any (is_inside q) area.holes)
  where
    go : (b s h : Bool) → location_by b s h ≡ Exterior → b ≡ false
    go true s h e = cc
    go false s h e = refl

-- ---- what is in a sector is on its first ray: by the germs, where the first ray is outside, so is the sector
pub sector_is_closed : (area : Area) → IsAreaShaped area → (v : Point) (r s : Direction) → HasNoEdgeWithin area v r s → (t : Direction)
    → pos 0 <ℤ bend_of r t → IsGerm area v r Exterior → (d : Direction) → IsStrictlyWithin r s d → (g : Loc) → IsGerm area v d g
    → g ≡ Exterior
sector_is_closed area shaped v r s free t left out d within g is =
    let rooms = germ_room area shaped v in
    let n = out.from + far_for r (rooms.n + rooms.n) in
    let q = away_point v r n in
    let here = out.holds (suc n) (omega arith) q (away_point_is v r n) in
    let bent : ¬ (bend_of r t ≡ pos 0) = λ z. <ℤ_apart left (sym z) in
    let beside = settled area shaped q (off_edges area q here) t in
    let size = size_of (bend_of t s) in
    let l = (beside.from + far_for t (rooms.n + rooms.n)) + suc n * size in
    let aside = germ_from_step area v rooms r t bent n (omega arith) (location area q) beside l (omega arith) in
    same_in_sector area shaped v r s free d (both_ways r t bent n l) within (just_left r s t left bent n l (omega (arith, linear))) g
    (location area q) is aside ∙ here
