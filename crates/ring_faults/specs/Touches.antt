-- Where edges of two parts touch, as links.
use Rattle.std.specs.Prelude.{◌⊎◌, ◌<◌, ℕ, List, Contains}
use Rattle.plane_exact.specs.NodePoints.{point_at}
use Rattle.plane_laws.specs.Plane.{Point, IsSamePoint}
use Rattle.plane_exact.specs.declared.node.Node.{Node}
use Rattle.seg_cross.specs.Meets.{IsCommon}
use Rattle.point_set.specs.Validity.{IsAtPlace}
use Rattle.ring_faults.specs.declared.link.Link.{Link}
use Rattle.ring_faults.specs.declared.part.PartEdge.{PartEdge}
use Rattle.ring_faults.specs.Links.{IsLinked}
use Rattle.ring_faults.specs.Parts.{IsOnPart}

-- A node at a point is linked with two rings.
pub record AreLinkedAt (links : List Link) (p : Point) (i j : ℕ) : Type 0 where
  pub node : Node
  pub at : IsSamePoint (point_at node) p
  pub first : IsLinked links node i
  pub second : IsLinked links node j

-- An edge is at one of some places.
pub record IsAmong (edges : List PartEdge) (places : List ℕ) (edge : PartEdge) : Type 0 where
  pub place : ℕ
  pub there : Contains places place
  pub is : IsAtPlace edges place edge

-- Links of the common points of an edge with edges of earlier parts were added: all those of some edges, and no other link
-- than that of a point with a part that holds it.
pub record AddsTouches (edges : List PartEdge) (e : PartEdge) (IsDone : PartEdge → Type 0) (old new : List Link) : Type 0 where
  pub kept : (l : Link) → Contains old l → Contains new l
  pub sound : (l : Link) → Contains new l → Contains old l ⊎ IsOnPart edges l.ring (point_at l.node)
  pub whole : (f : PartEdge) → IsDone f → f.part < e.part → (p : Point) → IsCommon e.seg f.seg p → AreLinkedAt new p e.part f.part

-- The links of the common points of edges of two parts: each link is of a point with a part that holds it, and each common
-- point of one of some edges with an edge of an earlier part has its links.
pub record AreLinksOfParts (edges : List PartEdge) (IsDone : PartEdge → Type 0) (links : List Link) : Type 0 where
  pub sound : (l : Link) → Contains links l → IsOnPart edges l.ring (point_at l.node)
  pub whole :
      (e f : PartEdge) → IsDone e → Contains edges f → f.part < e.part → (p : Point) → IsCommon e.seg f.seg p
      → AreLinkedAt links p e.part f.part
