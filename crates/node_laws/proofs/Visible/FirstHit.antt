-- The first hit on the way to a node: the nearest node of the way, or the first point of an edge before it.
use Rattle.std.proofs.Common.{◌≡◌, ◌⊎◌, inl, inr, ℕ, Bool, true, false, List, refl, sym, ◌∙◌}
use Rattle.std.proofs.lemmas.Bool.{true≢false, false_from_ne_true}
use Rattle.plane_laws.proofs.Segments.Mixes.{segment_same, start_on_segment, end_on_segment}
use Rattle.plane_laws.proofs.Segments.On.{Decides-is_on_segment}
use Rattle.plane_laws.proofs.Points.Same.{same_refl, same_sym, same_trans}
use Rattle.plane_laws.specs.Plane.{Point, IsSamePoint, IsOnSegment, is_on_segment}
use Rattle.ring_laws.proofs.Germs.Areas.{segment_within}
use Rattle.point_set.specs.declared.figure.Figure.{Figure}
use Rattle.point_set.specs.Rings.{is_on_edges}
use Rattle.point_set.specs.Validity.{IsAtPlace}
use Rattle.meeting_laws.specs.Meetings.{IsFirstMeeting}
use Rattle.point_set.specs.Nodes.{IsNode, segs_of_both}
use Rattle.point_set.specs.Visible.{AreAllNodes}
use Rattle.node_laws.specs.Seen.{IsFirstHit, LawFirstHit}
use Rattle.meeting_laws.proofs.Ways.AlongWay.{one_nearer}
use Rattle.meeting_laws.proofs.Meetings.FirstMeeting.{both_ways, first_meeting}
use Rattle.meeting_laws.proofs.Meetings.FirstOfOne.{first_of_one}
use Rattle.figure_laws.proofs.Lists.Least.{Least, least_of, NoItem}
use Rattle.node_laws.proofs.Nodes.Finite.{nodes_are_finite}

-- whether a point is on a way is decided
on_or_not : (p x m : Point) → IsOnSegment p x m ⊎ (¬ IsOnSegment p x m)
on_or_not p x m = go (is_on_segment p x m) refl
  where
    go : (b : Bool) → is_on_segment p x m ≡ b → IsOnSegment p x m ⊎ (¬ IsOnSegment p x m)
    go true e = inl ((Decides-is_on_segment p x m).0 e)
    go false e = inr (λ on. true≢false (sym ((Decides-is_on_segment p x m).1 on) ∙ e))

-- ---- the nearest node on a way
-- n is the only node from p to n, and is on the way from p to x
pub record IsNearestNode (a b : Figure) (p x n : Point) : Type 0 where
  pub on : IsOnSegment p x n
  pub is_node : IsNode a b n
  pub only : (m : Point) → IsOnSegment p n m → IsNode a b m → IsSamePoint m n

module _ (a b : Figure) (nodes : List Point) (all : AreAllNodes a b nodes) (p x : Point) where
  abbrev NearestOf : Type 0
  NearestOf = Least (IsOnSegment p x) (λ m n. IsOnSegment p n m) (on_or_not p x) (λ m n f g. one_nearer f g)
      (λ l m n f g h before after. segment_within (start_on_segment p n) after before) nodes

  -- the least of the nodes on the way is the nearest
  nearest_is : NearestOf → (n : Point) × IsNearestNode a b p x n
  nearest_is l = (l.least, record { on = l.good; is_node = all.only l.place l.least l.least_is; only = only })
    where
      only : (m : Point) → IsOnSegment p l.least m → IsNode a b m → IsSamePoint m l.least
      only m within node = go (all.whole m node)
        where
          go : (place : ℕ) × (w : Point) × IsAtPlace nodes place w × IsSamePoint m w → IsSamePoint m l.least
          go (place, w, is, same) =
              let on_x = segment_within (start_on_segment p x) l.good within in
              let before = l.before place w is (segment_same (same_refl p) (same_refl x) same on_x) in
              both_ways within (segment_same (same_refl p) (same_sym same) (same_refl l.least) before)

  -- there is one, where x is a node
  nearest : IsNode a b x → (n : Point) × IsNearestNode a b p x n
  nearest node = go (least_of (IsOnSegment p x) (λ m n. IsOnSegment p n m) (on_or_not p x) (λ m n f g. one_nearer f g)
      (λ l m n f g h before after. segment_within (start_on_segment p n) after before) nodes) (all.whole x node)
    where
      go : NearestOf ⊎ NoItem (IsOnSegment p x) nodes → (place : ℕ) × (w : Point) × IsAtPlace nodes place w × IsSamePoint x w
          → (n : Point) × IsNearestNode a b p x n
      go (inl l) some = nearest_is l
      go (inr none) (place, w, is, same) = absurd (none place w is (segment_same (same_refl p) (same_refl x) same (end_on_segment p x)))

-- of the nodes of two figures
pub nearest_node : (a b : Figure) (p x : Point) → IsNode a b x → (n : Point) × IsNearestNode a b p x n
nearest_node a b p x node = let all = nodes_are_finite a b in nearest a b all.0 all.1 p x node

-- ---- the first hit
module _ (a b : Figure) (p x n : Point) (near : IsNearestNode a b p x n) where
  -- no edge comes before the node
  at_node : ((m : Point) → IsOnSegment p n m → is_on_edges m (segs_of_both a b) ≡ false) → IsFirstHit a b p x n
  at_node free = record {
    on = near.on;
    hit = inr near.is_node;
    first = λ m within apart. (free m within, λ node. apart (near.only m within node));
  }

  -- an edge does
  at_edge : (q : Point) → IsFirstMeeting (segs_of_both a b) p n q → IsFirstHit a b p x q
  at_edge q meeting = record {
    on = segment_within (start_on_segment p x) near.on meeting.on_way;
    hit = inl meeting.on;
    first = λ m within apart. (
      false_from_ne_true (is_on_edges m (segs_of_both a b)) (λ on. apart (meeting.first m within on)),
      λ node.
          apart (last m within node),
    );
  }
    where
      last : (m : Point) → IsOnSegment p q m → IsNode a b m → IsSamePoint m q
      last m within node =
          let same = near.only m (segment_within (start_on_segment p n) meeting.on_way within) node in
          same_trans same (same_sym (both_ways meeting.on_way (segment_same (same_refl p) (same_refl q) same within)))

pub first_hit : LawFirstHit
first_hit a b p x off node = by_node (nearest_node a b p x node)
  where
    by_node : (n : Point) × IsNearestNode a b p x n → (h : Point) × IsFirstHit a b p x h
    by_node (n, near) = by_meeting (first_meeting first_of_one (segs_of_both a b) p n off)
      where
        by_meeting : ((m : Point) → IsOnSegment p n m → is_on_edges m (segs_of_both a b) ≡ false)
            ⊎ ((q : Point) × IsFirstMeeting (segs_of_both a b) p n q)
            → (h : Point) × IsFirstHit a b p x h
        by_meeting (inl free) = (n, at_node a b p x n near free)
        by_meeting (inr (q, meeting)) = (q, at_edge a b p x n near q meeting)
