-- What is seen from a point: the first hit on a way, and the seen node.
use Rattle.std.specs.Prelude.{◌≡◌, ◌⊎◌, true, false, ℕ, List, pos, ◌<ℤ◌}
use Rattle.plane_laws.specs.Plane.{Point, IsSamePoint, IsOnSegment, IsStrictlyBetween, turn}
use Rattle.plane_exact.specs.Places.{point_of}
use Rattle.plane_exact.specs.declared.point.Seg.{Seg}
use Rattle.point_set.specs.declared.figure.Figure.{Figure}
use Rattle.point_set.specs.Rings.{is_on_edges}
use Rattle.point_set.specs.Validity.{IsAtPlace}
use Rattle.point_set.specs.Nodes.{IsNode, segs_of_both}
use Rattle.point_set.specs.Visible.{AreAllNodes}

-- Whether a point is a node is decided.
abbrev pub LawNodeIsDecided : Type 0
LawNodeIsDecided = (a b : Figure) (p : Point) → IsNode a b p ⊎ (¬ IsNode a b p)

-- There is such a list.
abbrev pub LawNodesAreFinite : Type 0
LawNodesAreFinite = (a b : Figure) → (nodes : List Point) × AreAllNodes a b nodes

-- The first hit: on the way from p to x, a node, there is a first point on an edge or at a node.
pub record IsFirstHit (a b : Figure) (p x h : Point) : Type 0 where
  pub on : IsOnSegment p x h
  pub hit : (is_on_edges h (segs_of_both a b) ≡ true) ⊎ IsNode a b h
  pub first : (m : Point) → IsOnSegment p h m → ¬ IsSamePoint m h → (is_on_edges m (segs_of_both a b) ≡ false) × (¬ IsNode a b m)

-- There is one, from any point off the edges.
abbrev pub LawFirstHit : Type 0
LawFirstHit =
    (a b : Figure) (p x : Point) → is_on_edges p (segs_of_both a b) ≡ false → IsNode a b x → (h : Point) × IsFirstHit a b p x h

-- u and v are the two ends of one of the edges.
pub record IsEnd (edges : List Seg) (u v : Point) : Type 0 where
  pub place : ℕ
  pub edge : Seg
  pub edge_is : IsAtPlace edges place edge
  pub ends : ((u ≡ point_of edge.a) × (v ≡ point_of edge.b)) ⊎ ((u ≡ point_of edge.b) × (v ≡ point_of edge.a))

-- A point is one of a list.
pub record IsAmong (nodes : List Point) (v : Point) : Type 0 where
  pub place : ℕ
  pub node : Point
  pub node_is : IsAtPlace nodes place node
  pub same : IsSamePoint node v

-- No edge comes strictly between p and a node of the list.
pub record Sees (edges : List Seg) (nodes : List Point) (p : Point) : Type 0 where
  pub node : Point
  pub is_node : IsAmong nodes node
  pub free : (u v y : Point) → IsEnd edges u v → IsOnSegment u v y → ¬ IsStrictlyBetween p node y

-- The seen node. p is on no edge; x is the first point of an edge on the way from p, and all edges that hold it lie on the line
-- of x and a, a node to the left of the way; every crossing of that line's piece from x to a with an edge that
-- comes from its right is a node. Then some node w has no edge strictly between p and w.
abbrev pub LawSeenNode : Type 0
LawSeenNode =
    (edges : List Seg) (nodes : List Point) (p x a : Point) → pos 0 <ℤ turn p x a → IsAmong nodes a
    → ((u v : Point) → IsEnd edges u v → IsAmong nodes u)
    → is_on_edges p edges ≡ false
    → ((u v m : Point) → IsEnd edges u v → IsOnSegment u v m → IsOnSegment p x m → IsSamePoint m x)
    → ((u v : Point) → IsEnd edges u v → IsOnSegment u v x → (turn x a u ≡ pos 0) × (turn x a v ≡ pos 0))
    → ((u v q : Point) → IsEnd edges u v → IsOnSegment u v q → IsOnSegment x a q → turn x a u <ℤ pos 0 → IsAmong nodes q)
    → Sees edges nodes p
