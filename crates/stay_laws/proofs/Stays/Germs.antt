-- From every point, along every direction, the kind of a point's location in a valid figure settles.
use Rattle.std.proofs.Common.{◌≡◌, ℕ, ◌+◌, ◌≤◌, Bool, true, false, List, [], ◌∷◌, refl, sym, ◌∙◌, arith}
use Rattle.std.proofs.lemmas.Bool.{true≢false, or_from, false_from_ne_true}
use Rattle.im_matrix.specs.declared.Loc.{Loc}
use Rattle.plane_laws.proofs.Segments.Mixes.{start_on_segment, segment_same}
use Rattle.plane_laws.proofs.Segments.On.{Decides-is_on_segment, on_segment_of_same}
use Rattle.plane_laws.proofs.Points.Same.{same_refl, same_sym, same_trans, Decides-is_same_point}
use Rattle.plane_laws.specs.Plane.{Point, IsSamePoint}
use Rattle.plane_exact.specs.Places.{point_of}
use Rattle.plane_laws.specs.Directions.{Direction}
use Rattle.plane_exact.specs.declared.point.Pt.{Pt}
use Rattle.plane_exact.specs.declared.point.Seg.{Seg}
use Rattle.point_set.specs.declared.dim_loc.DimLoc.{DimLoc}
use Rattle.point_set.specs.declared.figure.Figure.{Figure}
use Rattle.point_set.specs.declared.rule.Rule.{Rule}
use Rattle.plane_laws.specs.Along.{HoldsAlong, IsInCone}
use Rattle.point_set.specs.Lines.{is_at, is_at_some}
use Rattle.point_set.specs.Location.{IsKind, part_of, IsLocation}
use Rattle.point_set.specs.Rings.{is_on_edge}
use Rattle.point_set.specs.Shape.{IsWellShaped}
use Rattle.point_set.specs.Validity.{IsValid}
use Rattle.plane_laws.proofs.Near.Away.{away_point, away_point_is, away_near, far_for}
use Rattle.ring_laws.proofs.Germs.Edges.{on_true}
use Rattle.plane_laws.proofs.Near.Near.{IsNear, near_mix}
use Rattle.ring_laws.proofs.Room.Edges.{HasRoom, room}
use Rattle.germ_laws.proofs.Room.Germs.{IsStarry, starry, cone_mix, away_cone}
use Rattle.germ_laws.proofs.Room.Starry.{not_here}
use Rattle.point_set.specs.Nodes.{all_positions, segs_of}
use Rattle.point_set.specs.Visible.{AreValid, LawGermExists}
use Rattle.stay_laws.proofs.Even.Even.{IsEvenBetween}
use Rattle.kind_laws.proofs.Location.Decided.{kind_exists}
use Rattle.stay_laws.proofs.Stays.OnEdge.{kind_carried}

-- ---- near a point there is no position but the point itself
-- the edge that stays at one position
abbrev spot : Pt → Seg
spot p = record { a = p; b = p }

-- a point at a position is on the edge that stays there
on_spot : (m : Point) (p : Pt) → is_at m p ≡ true → is_on_edge m (spot p) ≡ true
on_spot m p h =
    (Decides-is_on_segment (point_of p) (point_of p) m).1
    (segment_same (same_refl (point_of p)) (same_refl (point_of p)) (same_sym ((Decides-is_same_point m (point_of p)).0 h))
    (start_on_segment (point_of p) (point_of p)))

-- and the other way round
spot_at : (m : Point) (p : Pt) → is_on_edge m (spot p) ≡ true → IsSamePoint (point_of p) m
spot_at m p h = on_segment_of_same (same_refl (point_of p)) (on_true {p = m} {f = spot p} h)

-- all near points but v itself are at none of the positions
pub record HasLonely (v : Point) (positions : List Pt) : Type 0 where
  pub n : ℕ
  pub alone : (k : ℕ) → n ≤ k → (q : Point) → IsNear v k q → ¬ IsSamePoint v q → is_at_some q positions ≡ false

-- one position at a time, by the room that the edge at it leaves
pub lonely : (v : Point) (positions : List Pt) → HasLonely v positions
lonely v [] = record { n = 0; alone = λ k far q near apart. refl }
lonely v (p ∷ positions) = more (lonely v positions)
  where
    r : HasRoom v (spot p ∷ [])
    r = room v (spot p ∷ [])

    off : (k : ℕ) → r.n ≤ k → (q : Point) → IsNear v k q → ¬ IsSamePoint v q → is_at q p ≡ false
    off k far q near apart = false_from_ne_true (is_at q p) (λ at. by_test at (is_on_edge v (spot p)) refl)
      where
        by_test : is_at q p ≡ true → (b : Bool) → is_on_edge v (spot p) ≡ b → ⊥
        by_test at true h = apart (same_trans (same_sym (spot_at v p h)) (spot_at q p (on_spot q p at)))
        by_test at false h = true≢false (sym (on_spot q p at) ∙ (r.free k far q near).0 h)

    more : HasLonely v positions → HasLonely v (p ∷ positions)
    more rest = record {
      n = r.n + rest.n;
      alone = λ k far q near apart. or_from (is_at q p) (is_at_some q positions) (off k (omega (arith, far)) q near apart)
          (rest.alone k (omega (arith, far)) q near apart);
    }

-- ---- near a point all is even along each direction
module _ (f : Figure) (v : Point) where
  -- near v, points in one direction are on the same edges
  starred : IsStarry v (segs_of f)
  starred = starry v (segs_of f)

  -- and at no position but v
  alone : HasLonely v (all_positions f)
  alone = lonely v (all_positions f)

  -- from here on both are so
  pub ray_room : ℕ
  ray_room = starred.n + alone.n

  -- from one near point of a direction to another all is even
  pub even_along :
      (d : Direction) (k : ℕ) → ray_room ≤ k → (p q : Point) → IsNear v k p → IsNear v k q → IsInCone v d d p → IsInCone v d d q
      → IsEvenBetween f p q
  unfolding ray_room
  even_along d k far p q near_p near_q c_p c_q = record {
    alike = λ m on. starred.alike k (omega (arith, far)) d p m near_p (near_mix near_p near_q on) c_p (cone_mix c_p c_q on);
    lone = λ m on. alone.alone k (omega (arith, far)) m (near_mix near_p near_q on) (not_here (cone_mix c_p c_q on));
  }

-- ---- one figure
module _ (f : Figure) (shaped : IsWellShaped f) (valid : IsValid f) (rule : Rule) (v : Point) (d : Direction) where
  -- the kind at one near point is the kind at all that are nearer
  pub kind_settles : (k : DimLoc) × HoldsAlong (λ p. IsKind f rule p k) v d
  kind_settles =
      let n = far_for d (ray_room f v) in
      let q = away_point v d n in
      let away = away_point_is v d n in
      let kind = kind_exists f shaped q rule in (
        kind.0,
        record {
          from = n;
          holds = λ m far p away_p.
              kind_carried f shaped valid rule q p
              (even_along f v d (ray_room f v) (omega arith) q p (away_near (ray_room f v) (omega arith) away)
              (away_near (ray_room f v) far away_p)
              (away_cone (omega arith) away) (away_cone (omega (arith, far)) away_p))
              kind.0 kind.1;
        },
      )

  -- the part of the plane settles with the kind
  pub location_settles : (part : Loc) × HoldsAlong (λ p. IsLocation f rule p part) v d
  location_settles =
      let kind = kind_settles in (
        part_of kind.0,
        record {
          from = kind.1.from;
          holds = λ n far p away.
              record { decided_by = kind.0; decides = kind.1.holds n far p away; gives = refl };
        },
      )

-- ---- two figures: a pair germ exists along every direction, at every point
-- the germ of the pair is the pair of the two parts
pub pair_germ_exists : (a b : Figure) → AreValid a b → (rule : Rule) → LawGermExists a b rule
pair_germ_exists a b valid rule v d =
    let of_a = location_settles a valid.a_shaped valid.a_valid rule v d in
    let of_b = location_settles b valid.b_shaped valid.b_valid rule v d in (
      record { a = of_a.0; b = of_b.0 },
      record {
        from = of_a.1.from + of_b.1.from;
        holds = λ n far p away. record {
          in_a = of_a.1.holds n (omega (arith, far)) p away;
          in_b = of_b.1.holds n (omega (arith, far)) p
              away;
        };
      },
    )
