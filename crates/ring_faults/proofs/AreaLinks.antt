-- The links of the edges by rings are those of the area.
use Rattle.std.proofs.Common.{◌≡◌, ◌≢◌, ◌↔◌, ◌⊎◌, inl, inr, ℕ, ◌<◌, ◌≤◌, true, List, length, map, sym, subst, arith}
use Rattle.std.specs.List.{All, Contains}
use Rattle.std.proofs.lemmas.Bool.{cases_lt}
use Rattle.std.proofs.lemmas.Map.Keys.{any_passes_from_place}
use Rattle.std.proofs.lemmas.Option.{slice_get_within}
use Rattle.std.proofs.lemmas.List.Elements.{All-weaker, All-contains, All-contains_itself}
use Rattle.plane_exact.specs.NodePoints.{point_at}
use Rattle.plane_exact.specs.Places.{point_of}
use Rattle.plane_laws.specs.Plane.{Point, IsSamePoint}
use Rattle.plane_laws.proofs.Segments.On.{Decides-is_on_segment}
use Rattle.plane_exact.specs.declared.node.Node.{Node}
use Rattle.plane_exact.specs.declared.point.Seg.{Seg}
use Rattle.point_set.specs.declared.figure.Area.{Area}
use Rattle.point_set.specs.Location.{rings_of}
use Rattle.point_set.specs.Rings.{edges_of, is_on_edge, is_on_edges}
use Rattle.point_set.specs.Validity.{IsAtPlace, IsOnEdge, IsOnRingAt}
use Rattle.figure_laws.proofs.Lists.Least.{SomeItem}
use Rattle.valid_laws.proofs.Entering.Walk.{some_place}
use Rattle.ring_faults.specs.declared.link.Link.{Link}
use Rattle.ring_faults.specs.declared.part.PartEdge.{PartEdge}
use Rattle.ring_faults.specs.Links.{IsLinked}
use Rattle.ring_faults.specs.Parts.{IsOnPart, part_edge, edges_of_parts}
use Rattle.ring_faults.specs.Touches.{AreLinkedAt, AreLinksOfParts}
use Rattle.ring_faults.proofs.PartEdges.{contained_at, contains_at, comes_from_part, stands_in_row}
use Rattle.ring_faults.proofs.PartsShare.{ring_at, edges_at}
use Rattle.ring_faults.proofs.Forests.{AreLinksOf}

-- ---- a point on a ring
-- what is on an edge of a ring's part is on the ring
pub on_ring : (area : Area) (part : ℕ) (p : Point) → IsOnPart (edges_of_parts 0 (map edges_of (rings_of area))) part p
    → IsOnRingAt area part p
on_ring area part p at =
    let edges = edges_of_parts 0 (map edges_of (rings_of area)) in
    let from = comes_from_part (map edges_of (rings_of area)) 0 at.there.0 at.edge (contained_at edges at.edge at.there) in
    let number : from.number ≡ part = (let a = from.part_is in let b = at.part_is in omega (arith, a, b)) in
    let ring = ring_at (rings_of area) from.number from.segs from.segs_is in
    record {
      ring = ring.ring;
      ring_is = subst (λ m. IsAtPlace (rings_of area) m ring.ring) number ring.ring_is;
      on = subst (λ (segs : List Seg). is_on_edges p segs ≡ true) (sym ring.edges_is)
          (any_passes_from_place (is_on_edge p) from.segs from.place at.edge.seg from.seg_is
          ((Decides-is_on_segment (point_of at.edge.seg.a) (point_of at.edge.seg.b) p).1 at.on));
    }

-- an edge of the row that holds a point, of a ring
record HasRingEdge (edges : List PartEdge) (part : ℕ) (p : Point) : Type 0 where
  seg : Seg
  there : Contains edges (part_edge part seg)
  on : IsOnEdge seg p

-- and back
ring_edge : (area : Area) (part : ℕ) (p : Point) → IsOnRingAt area part p
    → HasRingEdge (edges_of_parts 0 (map edges_of (rings_of area))) part p
ring_edge area part p at =
    let held = some_place (edges_of at.ring) p at.on in
    let edges = edges_of_parts 0 (map edges_of (rings_of area)) in
    in_row held.1 ((Decides-is_on_segment (point_of held.1.a) (point_of held.1.b) p).0 held.3)
    (stands_in_row (map edges_of (rings_of area)) 0 part (edges_of at.ring) held.0 held.1 part
    (edges_at (rings_of area) part at.ring at.ring_is) held.2 (omega arith))
  where
    in_row : (e : Seg) → IsOnEdge e p
        → SomeItem (λ (edge : PartEdge). edge ≡ part_edge part e) (edges_of_parts 0 (map edges_of (rings_of area)))
        → HasRingEdge (edges_of_parts 0 (map edges_of (rings_of area))) part p
    in_row e on item =
        let edges = edges_of_parts 0 (map edges_of (rings_of area)) in
        let edge = part_edge part e in
        let is : IsAtPlace edges item.place edge = subst (λ (x : PartEdge). IsAtPlace edges item.place x) item.is_so item.item_is in
        record {
          seg = e;
          there = contains_at edges item.place edge is;
          on = on;
        }

-- ---- the links
-- the links of all edges are those of the area
pub area_links :
    (area : Area) (links : List Link)
    → (let edges : List PartEdge = edges_of_parts 0 (map edges_of (rings_of area)) in AreLinksOfParts edges (λ e. Contains edges e) links)
    → AreLinksOf area links
area_links area links h = record {
  sound =
      All-weaker (Contains links) (λ l. IsOnRingAt area l.ring (point_at l.node))
      (λ l there. on_ring area l.ring (point_at l.node) (h.sound l there)) links (All-contains_itself links);
  whole = whole;
}
  where
    edges : List PartEdge
    edges = edges_of_parts 0 (map edges_of (rings_of area))

    whole :
        (i j : ℕ) → i ≢ j → (p : Point) → IsOnRingAt area i p → IsOnRingAt area j p
        → (n : Node) × IsSamePoint (point_at n) p × IsLinked links n i
    whole i j other p a b = by (ring_edge area i p a) (ring_edge area j p b) (cases_lt i j)
      where
        by : HasRingEdge (edges_of_parts 0 (map edges_of (rings_of area))) i p
            → HasRingEdge (edges_of_parts 0 (map edges_of (rings_of area))) j p
            → (i < j) ⊎ (j ≤ i) → (n : Node) × IsSamePoint (point_at n) p × IsLinked links n i
        by one two (inl below) =
            let l : AreLinkedAt links p j i =
            h.whole (part_edge j two.seg) (part_edge i one.seg) two.there one.there below p
            (record { first = two.on; second = one.on }) in
            (l.node, l.at, l.second)
        by one two (inr beyond) =
            let l : AreLinkedAt links p i j =
            h.whole (part_edge i one.seg) (part_edge j two.seg) one.there two.there (omega arith) p
            (record { first = one.on; second = two.on }) in
            (l.node, l.at, l.first)

-- the same links in another order
pub links_same :
    (area : Area) (old new : List Link) → AreLinksOf area old → ((l : Link) → Contains old l ↔ Contains new l) → AreLinksOf area new
links_same area old new of same = record {
  sound =
      All-weaker (Contains new) (λ l. IsOnRingAt area l.ring (point_at l.node))
      (λ l there. All-contains (λ l. IsOnRingAt area l.ring (point_at l.node)) old l of.sound ((same l).1 there)) new
      (All-contains_itself new);
  whole = λ i j other p a b. let l = of.whole i j other p a b in (l.0, l.1, (same (record { node = l.0; ring = i })).0 l.2);
}

-- the rings of links are rings of the area
pub rings_below :
    (area : Area) (links : List Link) (n : ℕ) → n ≡ length (rings_of area) → AreLinksOf area links → All (λ l. l.ring < n) links
rings_below area links n e of =
    All-weaker (λ l. IsOnRingAt area l.ring (point_at l.node)) (λ l. l.ring < n)
    (λ l on. let below = slice_get_within (rings_of area) l.ring on.ring on.ring_is in omega (arith, below, e)) links of.sound
