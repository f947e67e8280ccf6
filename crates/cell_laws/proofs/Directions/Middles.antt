-- Each sector has a middle, which lies strictly within it; along the directions of a sector no edge runs.
use Rattle.std.proofs.Common.{◌≡◌, ◌⊎◌, inl, inr, ℕ, ◌+◌, ◌%◌, ◌<◌, ℤ, pos, ◌+ℤ◌, ◌-ℤ◌, ◌*ℤ◌, neg_ℤ, ◌<ℤ◌, ◌≤ℤ◌, List, [], ◌∷◌, length}
use Rattle.std.proofs.Common.{refl, sym, ◌∙◌, subst, arith}
use Rattle.std.proofs.lemmas.Option.{slice_get_read}
use Rattle.whole_algebra.proofs.Laws.{linear}
use Rattle.whole_algebra.proofs.Polynomials.{var, num, ◌⊕◌, ◌⊖◌, ◌⊗◌, minus, identity}
use Rattle.whole_algebra.proofs.Certificates.{positive, same, scaled, impossible_by, ◌⊞◌}
use Rattle.whole_algebra.proofs.Signs.{by_sign, <ℤ_apart, <ℤ_weaken}
use Rattle.plane_laws.specs.Plane.{Point}
use Rattle.plane_laws.specs.Directions.{Direction, bend_of, PointSameWay, IsStrictlyWithin, IsMiddleBetween}
use Rattle.plane_exact.specs.Orders.{direction_of}
use Rattle.plane_exact.specs.declared.dir.Dir.{Dir}
use Rattle.plane_exact.specs.declared.point.Seg.{Seg}
use Rattle.point_set.specs.Nodes.{RunsFrom}
use Rattle.point_set.specs.Sectors.{AreRaysAt, IsMiddle, IsInSector, sectors_of}
use Rattle.plane_laws.proofs.Directions.Angles.{no_bend}
use Rattle.ring_laws.proofs.Germs.Edges.{moving}
use Rattle.germ_laws.proofs.Rays.Places.{HasItem, item_at}
use Rattle.germ_laws.proofs.Sectors.Germ.{within_left, within_right, within_opposite, within_whole, same_or_opposite}
use Rattle.germ_laws.proofs.Sectors.Rays.{off_sector}

-- ---- a middle lies strictly within
-- a turn isn't both at least 1 and at most 0
not_both : {z : ℤ} → pos 0 <ℤ z → z ≤ℤ pos 0 → ⊥
not_both h k = omega (arith, linear, h, k)

-- the sum of two directions, of which the second is to the left of the first
sum_within : (r s m : Direction) → pos 0 <ℤ bend_of r s → m.x ≡ r.x +ℤ s.x → m.y ≡ r.y +ℤ s.y → IsStrictlyWithin r s m
unfolding bend_of
sum_within r s m h across above =
    within_left h (subst (λ (z : ℤ). pos 0 <ℤ z) (sym after) h) (subst (λ (z : ℤ). pos 0 <ℤ z) (sym before) h)
  where
    after : (r.x *ℤ m.y) -ℤ (r.y *ℤ m.x) ≡ (r.x *ℤ s.y) -ℤ (r.y *ℤ s.x)
    after =
        (λ i. (r.x *ℤ above i) -ℤ (r.y *ℤ across i))
        ∙ identity (var 0 ⊗ (var 1 ⊕ var 3) ⊖ var 1 ⊗ (var 0 ⊕ var 2)) (var 0 ⊗ var 3 ⊖ var 1 ⊗ var 2) (r.x ∷ r.y ∷ s.x ∷ s.y ∷ []) refl

    before : (m.x *ℤ s.y) -ℤ (m.y *ℤ s.x) ≡ (r.x *ℤ s.y) -ℤ (r.y *ℤ s.x)
    before =
        (λ i. (across i *ℤ s.y) -ℤ (above i *ℤ s.x))
        ∙ identity ((var 0 ⊕ var 2) ⊗ var 3 ⊖ (var 1 ⊕ var 3) ⊗ var 2) (var 0 ⊗ var 3 ⊖ var 1 ⊗ var 2) (r.x ∷ r.y ∷ s.x ∷ s.y ∷ []) refl

-- r turned left by a quarter is to the left of r
quarter_left : (r m : Direction) → m.x ≡ neg_ℤ r.y → m.y ≡ r.x → pos 0 <ℤ bend_of r m
unfolding bend_of
quarter_left r m across above =
    subst (λ (z : ℤ). pos 0 <ℤ z)
    (identity (var 0 ⊗ var 0 ⊕ var 1 ⊗ var 1) (var 0 ⊗ var 0 ⊖ var 1 ⊗ minus (var 1)) (r.x ∷ r.y ∷ []) refl
    ∙ (λ i. (r.x *ℤ sym above i) -ℤ (r.y *ℤ sym across i))) (moving r)

-- so it lies within where the second isn't to the left of the first
quarter_within : (r s m : Direction) → bend_of r s ≤ℤ pos 0 → m.x ≡ neg_ℤ r.y → m.y ≡ r.x → IsStrictlyWithin r s m
quarter_within r s m h across above =
    by_sign (bend_of r s) (λ n. within_right n (inl left)) (λ z. level z (same_or_opposite r s z)) (λ p. absurd (not_both p h))
  where
    left : pos 0 <ℤ bend_of r m
    left = quarter_left r m across above

    level : bend_of r s ≡ pos 0 → PointSameWay r s ⊎ (¬ PointSameWay r s) → IsStrictlyWithin r s m
    level z (inl same) = within_whole same (λ q. <ℤ_apart left (sym (no_bend q)))
    level z (inr n) = within_opposite z n left

-- either way
middle_within : (r s m : Direction) → IsMiddleBetween r s m → IsStrictlyWithin r s m
middle_within r s m is = by_sign (bend_of r s) (λ n. turned (<ℤ_weaken n)) (λ z. turned (level z)) summed
  where
    level : bend_of r s ≡ pos 0 → bend_of r s ≤ℤ pos 0
    level z = omega (arith, linear, z)

    turned : bend_of r s ≤ℤ pos 0 → IsStrictlyWithin r s m
    turned h = quarter_within r s m h (is.quarter h).0 (is.quarter h).1

    summed : pos 0 <ℤ bend_of r s → IsStrictlyWithin r s m
    summed h = sum_within r s m h (is.sum h).0 (is.sum h).1

-- the middle of a sector lies in it
pub middle_in_sector : (rays : List Dir) (i : ℕ) (m : Direction) → IsMiddle rays i m → IsInSector rays i m
middle_in_sector [] i m is = tt
middle_in_sector (ray ∷ rays) i m is = record {
  ray = is.ray;
  next = is.next;
  ray_is = is.ray_is;
  next_is = is.next_is;
  holds = middle_within (direction_of is.ray) (direction_of is.next) m is.holds;
}

-- ---- there is one
-- between two directions
record HasMiddleBetween (r s : Direction) : Type 0 where
  m : Direction
  is : IsMiddleBetween r s m

-- the sum isn't zero
sum_moves : (r s : Direction) → pos 0 <ℤ bend_of r s → ¬ ((r.x +ℤ s.x ≡ pos 0) × (r.y +ℤ s.y ≡ pos 0))
unfolding bend_of
sum_moves r s h z = go r.x r.y s.x s.y z.0 z.1 h
  where
    go : (rx ry sx sy : ℤ) → rx +ℤ sx ≡ pos 0 → ry +ℤ sy ≡ pos 0 → pos 0 <ℤ ((rx *ℤ sy) -ℤ (ry *ℤ sx)) → ⊥
    go rx ry sx sy e f h =
        impossible_by (rx ∷ ry ∷ sx ∷ sy ∷ [])
        (positive (var 0 ⊗ var 3 ⊖ var 1 ⊗ var 2) h ⊞ scaled (var 1) (same (var 0 ⊕ var 2) (num (pos 0)) e)
        ⊞ scaled (minus (var 0)) (same (var 1 ⊕ var 3) (num (pos 0)) f)) refl

-- the sum, or the quarter
middle_between : (r s : Direction) → HasMiddleBetween r s
middle_between r s = by_sign (bend_of r s) (λ n. turned (<ℤ_weaken n)) (λ z. turned (level z)) summed
  where
    level : bend_of r s ≡ pos 0 → bend_of r s ≤ℤ pos 0
    level z = omega (arith, linear, z)

    turned : bend_of r s ≤ℤ pos 0 → HasMiddleBetween r s
    turned h = record {
      m = record { x = neg_ℤ r.y; y = r.x; moves = λ z. r.moves (z.1, none r.y z.0) };
      is = record { sum = λ k. absurd (not_both k h); quarter = λ k. (refl, refl) };
    }
      where
        none : (y : ℤ) → neg_ℤ y ≡ pos 0 → y ≡ pos 0
        none y e = omega (arith, linear, e)

    summed : pos 0 <ℤ bend_of r s → HasMiddleBetween r s
    summed h = record {
      m = record { x = r.x +ℤ s.x; y = r.y +ℤ s.y; moves = sum_moves r s h };
      is = record { sum = λ k. (refl, refl); quarter = λ k. absurd (not_both h k) };
    }

-- of a sector
pub record HasMiddle (rays : List Dir) (i : ℕ) : Type 0 where
  pub m : Direction
  pub is : IsMiddle rays i m

-- each sector has one
pub middle_of : (rays : List Dir) (i : ℕ) → i < sectors_of rays → HasMiddle rays i
middle_of [] i below = record {
  m = record { x = pos 1; y = pos 0; moves = λ z. let e = z.0 in omega (arith, linear, e) };
  is = (refl, refl);
}
middle_of (ray ∷ rays) i below =
    let first : HasItem (ray ∷ rays) i = item_at (ray ∷ rays) i below in
    let second : HasItem (ray ∷ rays) ((i + 1) % length (ray ∷ rays)) =
    item_at (ray ∷ rays) ((i + 1) % length (ray ∷ rays)) (omega (arith, below)) in
    let k = middle_between (direction_of first.item) (direction_of second.item) in
    record { m = k.m; is = record { ray = first.item; next = second.item; ray_is = first.is; next_is = second.is; holds = k.is } }

-- ---- no edge in a sector
-- along a direction of a sector no edge runs
pub sector_free :
    (v : Point) (edges : List Seg) (rays : List Dir) → AreRaysAt v edges rays → (i : ℕ) (d : Direction) → IsInSector rays i d
    → ¬ RunsFrom v edges d
sector_free v edges [] are i d in_d run =
    let below = (are.whole run.place run.edge run.edge_is run.holds d run.leads).2 in
    omega (arith, below)
sector_free v edges (ray ∷ rays) are i d in_d run =
    let k = are.whole run.place run.edge run.edge_is run.holds d run.leads in
    off_sector (ray ∷ rays) are.ascending i k.0 in_d.ray in_d.next k.1 in_d.ray_is
    (slice_get_read (ray ∷ rays) (length (ray ∷ rays)) k.0 k.1 refl k.2 (sym k.3)) d k.4 in_d.next_is in_d.holds
