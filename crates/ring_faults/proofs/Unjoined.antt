-- Two edges of a ring have a common point that isn't their joint exactly where the answer of `meet` says so.
use Rattle.std.proofs.Common.{◌↔◌, ◌⊎◌, inl, inr, ℕ, ◌+◌, List, length, arith}
use Rattle.std.proofs.lemmas.Bool.{cases_eq}
use Rattle.plane_exact.specs.NodePoints.{point_at}
use Rattle.plane_exact.specs.Places.{point_of}
use Rattle.plane_laws.specs.Plane.{Point, IsSamePoint, IsOnSegment, IsStrictlyBetween}
use Rattle.plane_exact.specs.declared.point.Pt.{Pt}
use Rattle.plane_exact.specs.declared.point.Seg.{Seg}
use Rattle.plane_laws.proofs.Segments.Mixes.{start_on_segment, end_on_segment, on_from_strictly_between}
use Rattle.plane_laws.proofs.Points.Same.{same_sym, same_trans}
use Rattle.seg_cross.specs.Meets.{IsMeet, IsOverlap}
use Rattle.seg_cross.specs.declared.answer.Meet.{Meet}
use Rattle.seg_cross.specs.declared.answer.Meet.TheVariants.{Apart, At, Along}
use Rattle.point_set.specs.Validity.{IsJoint}
use Rattle.side_laws.proofs.Edges.Germ.{between_not_start, between_not_end}
use Rattle.side_laws.proofs.Rings.Joint.{near_start}
use Rattle.ring_faults.specs.Joints.{HasUnjoinedPoint}
use Rattle.meeting_laws.proofs.Ways.OneLine.{same_or_not}
use Rattle.seg_cross.proofs.Laws.{overlap_ends_apart}

-- What a meeting says of the joint: the edges have a common point, and not the joint alone.
abbrev pub IsUnjoined : List Seg → ℕ → ℕ → Seg → Seg → Meet → Type 0
IsUnjoined edges i j e f Apart = ⊥
IsUnjoined edges i j e f (At n) = ¬ IsJoint edges i j e f (point_at n)
IsUnjoined edges i j e f (Along p q) = Unit {0}

-- ---- whether a point is the joint is decided
both_or_not : {P Q : Type 0} → P ⊎ (¬ P) → Q ⊎ (¬ Q) → (P × Q) ⊎ (¬ (P × Q))
both_or_not {P} {Q} (inl p) (inl q) = inl (p, q)
both_or_not {P} {Q} (inl p) (inr denied) = inr (λ h. denied h.1)
both_or_not {P} {Q} (inr denied) q = inr (λ h. denied h.0)

all_or_not : {P Q R : Type 0} → P ⊎ (¬ P) → Q ⊎ (¬ Q) → R ⊎ (¬ R) → (P × Q × R) ⊎ (¬ (P × Q × R))
all_or_not {P} {Q} {R} (inl p) (inl q) (inl r) = inl (p, q, r)
all_or_not {P} {Q} {R} (inl p) (inl q) (inr denied) = inr (λ h. denied h.2)
all_or_not {P} {Q} {R} (inl p) (inr denied) r = inr (λ h. denied h.1)
all_or_not {P} {Q} {R} (inr denied) q r = inr (λ h. denied h.0)

one_or_not : {P Q : Type 0} → P ⊎ (¬ P) → Q ⊎ (¬ Q) → (P ⊎ Q) ⊎ (¬ (P ⊎ Q))
one_or_not {P} {Q} (inl p) q = inl (inl p)
one_or_not {P} {Q} (inr denied) (inl q) = inl (inr q)
one_or_not {P} {Q} (inr denied) (inr none) = inr neither
  where
    neither : ¬ (P ⊎ Q)
    neither (inl p) = denied p
    neither (inr q) = none q

module _ (edges : List Seg) (i j : ℕ) (e f : Seg) where
  joint_or_not : (p : Point) → IsJoint edges i j e f p ⊎ (¬ IsJoint edges i j e f p)
  joint_or_not p =
      one_or_not (both_or_not (cases_eq j (i + 1)) (same_or_not (point_of f.a) p))
      (all_or_not (cases_eq i 0) (cases_eq (j + 1) (length edges)) (same_or_not (point_of e.a) p))

  -- the joint at one point is the joint at the same point
  joint_same : (p q : Point) → IsSamePoint p q → IsJoint edges i j e f p → IsJoint edges i j e f q
  joint_same p q same (inl h) = inl (h.0, same_trans h.1 same)
  joint_same p q same (inr h) = inr (h.0, h.1, same_trans h.2 same)

  -- a joint is the start of one of the two edges
  joint_start : (p : Point) → IsJoint edges i j e f p → IsSamePoint (point_of f.a) p ⊎ IsSamePoint (point_of e.a) p
  joint_start p (inl h) = inl h.1
  joint_start p (inr h) = inr h.2

-- of three different points one is neither of two
two_of_three :
    (a b p q m : Point) → ¬ IsSamePoint p q → ¬ IsSamePoint p m → ¬ IsSamePoint q m → IsSamePoint a p ⊎ IsSamePoint b p
    → IsSamePoint a q ⊎ IsSamePoint b q → IsSamePoint a m ⊎ IsSamePoint b m → ⊥
two_of_three a b p q m pq pm qm (inl x) (inl y) z = pq (same_trans (same_sym x) y)
two_of_three a b p q m pq pm qm (inl x) (inr y) (inl z) = pm (same_trans (same_sym x) z)
two_of_three a b p q m pq pm qm (inl x) (inr y) (inr z) = qm (same_trans (same_sym y) z)
two_of_three a b p q m pq pm qm (inr x) (inl y) (inl z) = qm (same_trans (same_sym y) z)
two_of_three a b p q m pq pm qm (inr x) (inl y) (inr z) = pm (same_trans (same_sym x) z)
two_of_three a b p q m pq pm qm (inr x) (inr y) z = pq (same_trans (same_sym x) y)

-- of an overlap one of its ends or a point between them isn't the joint
along_at :
    (edges : List Seg) (i j : ℕ) (e f : Seg) (p q : Pt) → IsOverlap e f p q → (m : Point) → IsStrictlyBetween (point_of p) (point_of q) m
    → HasUnjoinedPoint edges i j e f
along_at edges i j e f p q over m between = by (joint_or_not edges i j e f (point_of p)) (joint_or_not edges i j e f (point_of q))
  where
    at : (r : Point) → IsOnSegment (point_of p) (point_of q) r → ¬ IsJoint edges i j e f r → HasUnjoinedPoint edges i j e f
    at r on denied = let c = over.common r on in record { p = r; on_e = c.first; on_f = c.second; unjoined = denied }

    third : IsJoint edges i j e f (point_of p) → IsJoint edges i j e f (point_of q) → ¬ IsJoint edges i j e f m
    third x y z =
        two_of_three (point_of f.a) (point_of e.a) (point_of p) (point_of q) m (overlap_ends_apart e f p q over) (between_not_start between)
        (between_not_end between)
        (joint_start edges i j e f (point_of p) x) (joint_start edges i j e f (point_of q) y) (joint_start edges i j e f m z)

    by :
        IsJoint edges i j e f (point_of p) ⊎ (¬ IsJoint edges i j e f (point_of p))
        → IsJoint edges i j e f (point_of q) ⊎ (¬ IsJoint edges i j e f (point_of q)) → HasUnjoinedPoint edges i j e f
    by (inr denied) y = at (point_of p) (start_on_segment (point_of p) (point_of q)) denied
    by (inl x) (inr denied) = at (point_of q) (end_on_segment (point_of p) (point_of q)) denied
    by (inl x) (inl y) = at m (on_from_strictly_between between) (third x y)

along_unjoined : (edges : List Seg) (i j : ℕ) (e f : Seg) (p q : Pt) → IsOverlap e f p q → HasUnjoinedPoint edges i j e f
along_unjoined edges i j e f p q over =
    let apart = overlap_ends_apart e f p q over in along_at edges i j e f p q over _ (near_start p q apart 1 (omega arith))

-- the answer of `meet` decides it; the places and the ring itself do not matter
pub unjoined :
    (edges : List Seg) (i j : ℕ) (e f : Seg) (m : Meet) → IsMeet e f m → IsUnjoined edges i j e f m ↔ HasUnjoinedPoint edges i j e f
unjoined edges i j e f Apart none = (λ h. absurd h, λ h. none h.p (record { first = h.on_e; second = h.on_f }))
unjoined edges i j e f (At n) only = (
  λ h. record { p = point_at n; on_e = only.common.first; on_f = only.common.second; unjoined = h },
  λ h joint. h.unjoined (joint_same edges i j e f (point_at n) h.p (same_sym (only.only h.p (record { first = h.on_e; second = h.on_f })))
      joint),
)
unjoined edges i j e f (Along p q) over = (λ h. along_unjoined edges i j e f p q over, λ h. tt)
