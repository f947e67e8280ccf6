-- Near a point no other position lies, so near it no line ends and no lone point is.
use Rattle.std.proofs.Common.{◌≡◌, ℕ, ◌+◌, ◌≤◌, Bool, true, false, ◌&&◌, if◌then◌else◌}
use Rattle.std.proofs.Common.{List, [], ◌∷◌, refl, sym, ◌∙◌, arith}
use Rattle.std.proofs.lemmas.Bool.{true≢false, false_from_ne_true, or_from, and_right}
use Rattle.plane_laws.proofs.Segments.Mixes.{start_on_segment, segment_same}
use Rattle.plane_laws.proofs.Segments.On.{Decides-is_on_segment, on_segment_of_same}
use Rattle.plane_laws.proofs.Points.Same.{same_refl, same_sym, same_trans, Decides-is_same_point}
use Rattle.plane_laws.specs.Plane.{Point, IsSamePoint}
use Rattle.plane_exact.specs.Places.{point_of}
use Rattle.plane_laws.specs.Directions.{Direction}
use Rattle.plane_exact.specs.declared.point.Pt.{Pt}
use Rattle.plane_exact.specs.declared.point.Seg.{Seg}
use Rattle.point_set.specs.declared.figure.Figure.{Figure}
use Rattle.plane_laws.specs.Along.{HoldsAlong}
use Rattle.point_set.specs.Lines.{ends_of_lines, is_still, is_at, count_at, is_at_some, is_at_still_line}
use Rattle.point_set.specs.Location.{is_at_point}
use Rattle.point_set.specs.Rings.{is_on_edge}
use Rattle.plane_laws.proofs.Near.Away.{away_near, far_for}
use Rattle.ring_laws.proofs.Germs.Edges.{on_true}
use Rattle.plane_laws.proofs.Near.Near.{IsNear}
use Rattle.ring_laws.proofs.Room.Edges.{HasRoom, room}
use Rattle.germ_laws.proofs.Room.Germs.{away_cone}
use Rattle.germ_laws.proofs.Room.Starry.{not_here}

-- ---- near a point there is no other position
record IsLonelySpot (v : Point) (p : Pt) : Type 0 where
  n : ℕ
  none : (k : ℕ) → n ≤ k → (q : Point) → IsNear v k q → ¬ IsSamePoint v q → is_at q p ≡ false

-- a position as an edge without length
abbrev spot : Pt → Seg
spot p = record { a = p; b = p }

-- near v only v itself can be at the position
lonely_spot : (v : Point) (p : Pt) → IsLonelySpot v p
lonely_spot v p = record {
  n = r.n;
  none = λ k far q near apart.
      false_from_ne_true (is_at q p) (λ h. not_at k far q near apart ((Decides-is_same_point q (point_of p)).0 h));
}
  where
    r : HasRoom v (spot p ∷ [])
    r = room v (spot p ∷ [])

    here : (q : Point) → IsSamePoint q (point_of p) → is_on_edge q (spot p) ≡ true
    here q h =
        (Decides-is_on_segment (point_of p) (point_of p) q).1
        (segment_same (same_refl (point_of p)) (same_refl (point_of p)) (same_sym h) (start_on_segment (point_of p) (point_of p)))

    not_at : (k : ℕ) → r.n ≤ k → (q : Point) → IsNear v k q → ¬ IsSamePoint v q → IsSamePoint q (point_of p) → ⊥
    not_at k far q near apart h = by_v (is_on_edge v (spot p)) refl
      where
        by_v : (b : Bool) → is_on_edge v (spot p) ≡ b → ⊥
        by_v true on =
            apart (same_trans (same_sym (on_segment_of_same (same_refl (point_of p)) (on_true {p = v} {f = spot p} on))) (same_sym h))
        by_v false off = true≢false (sym (here q h) ∙ (r.free k far q near).0 off)

-- no near point but v is at one of the positions
pub record IsLonely (v : Point) (positions : List Pt) : Type 0 where
  pub n : ℕ
  pub none :
      (k : ℕ) → n ≤ k → (q : Point) → IsNear v k q → ¬ IsSamePoint v q
      → (is_at_some q positions ≡ false) × (count_at q positions ≡ 0)

-- position by position
pub lonely : (v : Point) (positions : List Pt) → IsLonely v positions
lonely v [] = record { n = 0; none = λ k far q near apart. (refl, refl) }
lonely v (p ∷ positions) =
    let first = lonely_spot v p in
    let rest = lonely v positions in
    record {
      n = first.n + rest.n;
      none = λ k far q near apart.
          let off = first.none k (omega (arith, far)) q near apart in
          let others = rest.none k (omega (arith, far)) q near apart in
          (or_from (is_at q p) (is_at_some q positions) off others.0, (λ i. (if off i then 1 else 0) + others.1 i));
    }

-- nor at one of a still line
record AreStillLonely (v : Point) (lines : List (List Pt)) : Type 0 where
  n : ℕ
  none : (k : ℕ) → n ≤ k → (q : Point) → IsNear v k q → ¬ IsSamePoint v q → is_at_still_line q lines ≡ false

-- the same of the positions of still lines
still_lonely : (v : Point) (lines : List (List Pt)) → AreStillLonely v lines
still_lonely v [] = record { n = 0; none = λ k far q near apart. refl }
still_lonely v (line ∷ lines) =
    let first = lonely v line in
    let rest = still_lonely v lines in
    record {
      n = first.n + rest.n;
      none = λ k far q near apart.
          or_from (is_still line && is_at_some q line) (is_at_still_line q lines)
          (and_right (is_still line) (is_at_some q line) (first.none k (omega (arith, far)) q near apart).0)
          (rest.none k (omega (arith, far)) q near apart);
    }

-- along every direction no point of the figure is met, and no line's end
pub points_off : (f : Figure) (v : Point) (d : Direction) → HoldsAlong (λ q. is_at_point f q ≡ false) v d
points_off f v d =
    let points = lonely v f.points in
    let still = still_lonely v f.lines in
    record {
      from = far_for d points.n + far_for d still.n;
      holds = λ n far q away.
          let apart = not_here (away_cone (omega (arith, far)) away) in
          or_from (is_at_some q f.points) (is_at_still_line q f.lines)
          (points.none points.n (omega arith) q (away_near points.n (omega (arith, far)) away) apart).0
          (still.none still.n (omega arith) q (away_near still.n (omega (arith, far)) away) apart);
    }

-- the same of the lines' ends
pub ends_off : (f : Figure) (v : Point) (d : Direction) → HoldsAlong (λ q. count_at q (ends_of_lines f.lines) ≡ 0) v d
ends_off f v d =
    let ends = lonely v (ends_of_lines f.lines) in
    record {
      from = far_for d ends.n;
      holds = λ n far q away.
          let apart = not_here (away_cone (omega (arith, far)) away) in
          (ends.none ends.n (omega arith) q (away_near ends.n far away) apart).1;
    }
