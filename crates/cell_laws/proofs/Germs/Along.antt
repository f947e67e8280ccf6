-- Near a point, all points in one direction have one pair. So a pair germ is said of the way, its cell holds a segment, and it is
-- decided whether a cell is it.
use Rattle.std.proofs.Common.{◌≡◌, ◌≢◌, ◌⊎◌, inl, inr, ℕ, suc, ◌+◌, ◌≤◌, ◌<◌, ℤ, pos, ◌-ℤ◌, ◌*ℤ◌, ◌<ℤ◌, [], ◌∷◌, refl, subst, arith}
use Rattle.whole_algebra.proofs.Laws.{linear}
use Rattle.whole_algebra.proofs.Polynomials.{var, num, ◌⊖◌, ◌⊗◌, minus}
use Rattle.whole_algebra.proofs.Certificates.{same, same_from, scaled, ◌⊞◌}
use Rattle.whole_algebra.proofs.Signs.{pos-*-pos, pos_nonzero, zero_factor}
use Rattle.im_matrix.proofs.Laws.{same_cell?}
use Rattle.im_matrix.specs.declared.Cell.{Cell}
use Rattle.plane_laws.specs.Plane.{Point, IsSamePoint, rise, shift}
use Rattle.plane_laws.specs.Directions.{Direction, PointSameWay}
use Rattle.plane_laws.specs.Along.{IsAway, IsInCone}
use Rattle.point_set.specs.declared.dim_loc.DimLoc.{DimLoc}
use Rattle.point_set.specs.declared.figure.Figure.{Figure}
use Rattle.point_set.specs.declared.rule.Rule.{Rule}
use Rattle.point_set.specs.Germ.{IsPairGerm}
use Rattle.point_set.specs.Location.{IsKind, part_of}
use Rattle.point_set.specs.Relation.{IsInCell}
use Rattle.point_set.specs.Visible.{AreValid, LawGermHoldsSegment}
use Rattle.plane_laws.proofs.Near.Away.{away_point, away_point_is, away_near, away_shift, away_rise, far_for}
use Rattle.plane_laws.proofs.Near.Near.{IsNear, near_mix}
use Rattle.figure_laws.proofs.Points.Kinds.{one_part}
use Rattle.ring_laws.proofs.Germs.Areas.{pair_germ_one}
use Rattle.germ_laws.proofs.Room.Germs.{away_cone, cone_mix}
use Rattle.germ_laws.proofs.Room.Ways.{cone_way}
use Rattle.kind_laws.proofs.Location.Decided.{kind_exists}
use Rattle.stay_laws.proofs.Stays.Germs.{ray_room, even_along, pair_germ_exists}
use Rattle.stay_laws.proofs.Stays.OffEdges.{part_of_kinds}
use Rattle.stay_laws.proofs.Stays.OnEdge.{kind_carried}

-- ---- v + d/n and v + d/m are two points
-- where they were one, no step of d leads anywhere
no_part :
    (n m d v vw p pw q qw : ℤ) → n <ℤ m → pos 0 <ℤ vw → pos 0 <ℤ pw → pos 0 <ℤ qw → n *ℤ ((p *ℤ vw) -ℤ (v *ℤ pw)) ≡ d *ℤ (vw *ℤ pw)
    → m *ℤ ((q *ℤ vw) -ℤ (v *ℤ qw)) ≡ d *ℤ (vw *ℤ qw) → p *ℤ qw ≡ q *ℤ pw → d ≡ pos 0
no_part n m d v vw p pw q qw less hv hp hq e f g =
    zero_factor ((m -ℤ n) *ℤ (vw *ℤ (pw *ℤ qw))) d (pos_nonzero (pos-*-pos apart (pos-*-pos hv (pos-*-pos hp hq))))
    (same_from (((var 1 ⊖ var 0) ⊗ (var 4 ⊗ (var 6 ⊗ var 8))) ⊗ var 2) (num (pos 0)) (n ∷ m ∷ d ∷ v ∷ vw ∷ p ∷ pw ∷ q ∷ qw ∷ [])
    (scaled (minus (var 1 ⊗ var 8)) (same (var 0 ⊗ (var 5 ⊗ var 4 ⊖ var 3 ⊗ var 6)) (var 2 ⊗ (var 4 ⊗ var 6)) e)
    ⊞ scaled (var 0 ⊗ var 6) (same (var 1 ⊗ (var 7 ⊗ var 4 ⊖ var 3 ⊗ var 8)) (var 2 ⊗ (var 4 ⊗ var 8)) f)
    ⊞ scaled ((var 0 ⊗ var 1) ⊗ var 4) (same (var 5 ⊗ var 8) (var 7 ⊗ var 6) g)) refl)
  where
    apart : pos 0 <ℤ (m -ℤ n)
    apart = omega (arith, linear, less)

-- so they are two
away_apart : (v : Point) (d : Direction) (n m : ℕ) (p q : Point) → n < m → IsAway v d n p → IsAway v d m q → ¬ IsSamePoint p q
unfolding shift rise
away_apart v d n m p q below away away' same = d.moves (
  no_part (pos n) (pos m) d.x v.x v.w p.x p.w q.x q.w less v.heavy p.heavy q.heavy (away_shift away) (away_shift away') same.across,
  no_part (pos n) (pos m) d.y v.y v.w p.y p.w q.y q.w less v.heavy p.heavy q.heavy (away_rise away) (away_rise away') same.above,
)
  where
    less : pos n <ℤ pos m
    less = omega (arith, linear, below)

-- ---- two valid figures
module _ (a b : Figure) (valid : AreValid a b) (rule : Rule) where
  -- how near one has to be
  pair_room : Point → ℕ
  pair_room v = ray_room a v + ray_room b v

  -- near v, from a point in a direction to another in the same direction the pair is carried
  pair_carried :
      (v : Point) (d : Direction) (k : ℕ) → pair_room v ≤ k → (p q : Point) → IsNear v k p → IsNear v k q → IsInCone v d d p
      → IsInCone v d d q → (c : Cell) → IsInCell a b rule c p → IsInCell a b rule c q
  unfolding pair_room
  pair_carried v d k far p q near_p near_q c_p c_q c held = record {
    in_a =
        part_of_kinds a rule p q (kind_carried a valid.a_shaped valid.a_valid rule p q
        (even_along a v d k (omega (arith, far)) p q near_p near_q c_p c_q)) c.a held.in_a;
    in_b =
        part_of_kinds b rule p q (kind_carried b valid.b_shaped valid.b_valid rule p q
        (even_along b v d k (omega (arith, far)) p q near_p near_q c_p c_q)) c.b held.in_b;
  }

  -- so a pair germ along a direction is one along each that points the same way
  pub pair_germ_of_way :
      (v : Point) (d e : Direction) → PointSameWay d e → (c : Cell) → IsPairGerm a b rule v d c → IsPairGerm a b rule v e c
  pair_germ_of_way v d e q c g = record {
    from = far_for e (pair_room v);
    holds = λ l far p away.
        pair_carried v e (pair_room v) (omega arith) (away_point v d n) p (away_near (pair_room v) (omega arith) to_n)
        (away_near (pair_room v) far away) (cone_way q (away_cone (omega arith) to_n)) (away_cone (omega (arith, far)) away) c
        (g.holds (suc n) (omega arith) (away_point v d n) to_n);
  }
    where
      n : ℕ
      n = g.from + far_for d (pair_room v)

      to_n : IsAway v d (suc n) (away_point v d n)
      to_n = away_point_is v d n

  -- and its cell holds a segment
  pub germ_holds_segment : LawGermHoldsSegment a b rule
  germ_holds_segment v d c g = record {
    a = p;
    b = q;
    apart = away_apart v d (suc n) (suc (suc n)) p q (omega arith) to_p to_q;
    held = λ m on.
        pair_carried v d (pair_room v) (omega arith) p m near_p (near_mix near_p near_q on) cone_p (cone_mix cone_p cone_q on) c
        (g.holds (suc n) (omega arith) p to_p);
  }
    where
      n : ℕ
      n = g.from + far_for d (pair_room v)

      p : Point
      p = away_point v d n

      q : Point
      q = away_point v d (suc n)

      to_p : IsAway v d (suc n) p
      to_p = away_point_is v d n

      to_q : IsAway v d (suc (suc n)) q
      to_q = away_point_is v d (suc n)

      near_p : IsNear v (pair_room v) p
      near_p = away_near (pair_room v) (omega arith) to_p

      near_q : IsNear v (pair_room v) q
      near_q = away_near (pair_room v) (omega arith) to_q

      cone_p : IsInCone v d d p
      cone_p = away_cone (omega arith) to_p

      cone_q : IsInCone v d d q
      cone_q = away_cone (omega arith) to_q

  -- ---- which cell it is
  -- whether a cell is the germ is decided
  pub germ_decided : (v : Point) (d : Direction) (c : Cell) → IsPairGerm a b rule v d c ⊎ (¬ IsPairGerm a b rule v d c)
  germ_decided v d c = by_cell (same_cell? found.0 c)
    where
      found : (cell : Cell) × IsPairGerm a b rule v d cell
      found = pair_germ_exists a b valid rule v d

      by_cell : (found.0 ≡ c) ⊎ (found.0 ≢ c) → IsPairGerm a b rule v d c ⊎ (¬ IsPairGerm a b rule v d c)
      by_cell (inl e) = inl (subst (IsPairGerm a b rule v d) e found.1)
      by_cell (inr n) = inr (λ g. n (pair_germ_one a b rule v d found.0 c found.1 g))

  -- and so is whether a cell is that of a point
  pub cell_decided : (p : Point) (c : Cell) → IsInCell a b rule c p ⊎ (¬ IsInCell a b rule c p)
  cell_decided p c = both (kind_exists a valid.a_shaped p rule) (kind_exists b valid.b_shaped p rule)
    where
      both : (k : DimLoc) × IsKind a rule p k → (k : DimLoc) × IsKind b rule p k → IsInCell a b rule c p ⊎ (¬ IsInCell a b rule c p)
      both (k, is) (l, is') = by_cell (same_cell? here c)
        where
          here : Cell
          here = record { a = part_of k; b = part_of l }

          in_here : IsInCell a b rule here p
          in_here = record {
            in_a = record { decided_by = k; decides = is; gives = refl };
            in_b = record { decided_by = l; decides = is'; gives = refl };
          }

          by_cell : (here ≡ c) ⊎ (here ≢ c) → IsInCell a b rule c p ⊎ (¬ IsInCell a b rule c p)
          by_cell (inl e) = inl (subst (λ (z : Cell). IsInCell a b rule z p) e in_here)
          by_cell (inr n) = inr (λ h. n (λ i. record { a = one_part in_here.in_a h.in_a i; b = one_part in_here.in_b h.in_b i }))
