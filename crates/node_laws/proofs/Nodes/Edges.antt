-- Edges of a list by their places and their ends.
use Rattle.std.proofs.Common.{◌≡◌, ◌⊎◌, inl, inr, ℕ, zero, suc, Bool, true, false, ◌||◌, List, [], ◌∷◌, ap, refl, sym, ◌∙◌, subst}
use Rattle.std.proofs.lemmas.Bool.{true≢false, or_left, or_right}
use Rattle.plane_laws.proofs.Segments.Mixes.{segment_flip}
use Rattle.plane_laws.proofs.Segments.On.{Decides-is_on_segment}
use Rattle.plane_laws.specs.Plane.{Point, IsOnSegment}
use Rattle.plane_exact.specs.Places.{point_of}
use Rattle.plane_exact.specs.declared.point.Seg.{Seg}
use Rattle.ring_laws.proofs.Germs.Edges.{on_true}
use Rattle.figure_laws.proofs.Lists.Places.{some_same}
use Rattle.point_set.specs.Rings.{is_on_edge, is_on_edges}
use Rattle.point_set.specs.Validity.{IsAtPlace, IsOnEdge}
use Rattle.node_laws.specs.Seen.{IsEnd}

-- the test of an edge from the relation
pub edge_true : {p : Point} (e : Seg) → IsOnEdge e p → is_on_edge p e ≡ true
edge_true {p} e on = (Decides-is_on_segment (point_of e.a) (point_of e.b) p).1 on

-- a point of an edge is on one of the edges
pub edges_true : (p : Point) (edges : List Seg) (place : ℕ) (e : Seg) → IsAtPlace edges place e → IsOnEdge e p → is_on_edges p edges ≡ true
edges_true p [] place e is on = cc
edges_true p (f ∷ edges) zero e is on = or_left (is_on_edge p f) (is_on_edges p edges)
    (edge_true f (subst (λ g. IsOnEdge g p) (sym (some_same is)) on))
edges_true p (f ∷ edges) (suc place) e is on = or_right (is_on_edge p f) (is_on_edges p edges) (edges_true p edges place e is on)

-- a point on one of the edges, with that edge
pub record OnSome (p : Point) (edges : List Seg) : Type 0 where
  pub place : ℕ
  pub edge : Seg
  pub edge_is : IsAtPlace edges place edge
  pub on : IsOnEdge edge p

-- from the test
pub on_some : (p : Point) (edges : List Seg) → is_on_edges p edges ≡ true → OnSome p edges
on_some p [] h = absurd (true≢false (sym h))
on_some p (e ∷ edges) h = go (is_on_edge p e) refl (on_some p edges)
  where
    go : (b : Bool) → is_on_edge p e ≡ b → (is_on_edges p edges ≡ true → OnSome p edges) → OnSome p (e ∷ edges)
    go true k later = record { place = 0; edge = e; edge_is = refl; on = on_true k }
    go false k later =
        let rest = later (ap (λ b. b || is_on_edges p edges) (sym k) ∙ h) in
        record { place = suc rest.place; edge = rest.edge; edge_is = rest.edge_is; on = rest.on }

-- ---- edges by their ends
-- a point between the ends is on the edge
pub on_end : {edges : List Seg} {u v q : Point} (e : IsEnd edges u v) → IsOnSegment u v q → IsOnEdge e.edge q
on_end {edges} {u} {v} {q} e on = go e.ends
  where
    go : ((u ≡ point_of e.edge.a) × (v ≡ point_of e.edge.b)) ⊎ ((u ≡ point_of e.edge.b) × (v ≡ point_of e.edge.a)) → IsOnEdge e.edge q
    go (inl h) = subst (λ z. IsOnSegment (point_of e.edge.a) z q) h.1 (subst (λ z. IsOnSegment z v q) h.0 on)
    go (inr h) = segment_flip (subst (λ z. IsOnSegment (point_of e.edge.b) z q) h.1 (subst (λ z. IsOnSegment z v q) h.0 on))

-- a point off the edges is on none of them
pub off_end : (edges : List Seg) (p : Point) → is_on_edges p edges ≡ false → {u v : Point} → IsEnd edges u v → ¬ IsOnSegment u v p
off_end edges p off e on = true≢false (sym (edges_true p edges e.place e.edge e.edge_is (on_end e on)) ∙ off)
