-- The law of the seen node off the edges: a point off all edges that is no node is seen from a node, if there is any.
use Rattle.std.proofs.Common.{◌≡◌, ◌⊎◌, inl, inr, ℕ, ℤ, pos, ◌+ℤ◌, ◌*ℤ◌, neg_ℤ, ◌<ℤ◌, true, false, List, [], ◌∷◌, refl, sym, ◌∙◌}
use Rattle.std.proofs.Common.{ap, subst, arith}
use Rattle.std.proofs.lemmas.Bool.{true≢false, false_from_ne_true}
use Rattle.whole_algebra.proofs.Laws.{linear}
use Rattle.whole_algebra.proofs.Polynomials.{var, num, ◌⊕◌, ◌⊗◌, identity}
use Rattle.whole_algebra.proofs.Certificates.{same, same_from}
use Rattle.whole_algebra.proofs.Signs.{by_sign, <ℤ_apart}
use Rattle.plane_laws.proofs.Segments.Lines.{three_on_line}
use Rattle.plane_laws.proofs.Segments.Mixes.{on_from_strictly_between, segment_flip, segment_same, start_on_segment, end_on_segment}
use Rattle.plane_laws.proofs.Segments.On.{mix_turn, on_segment_of_same, same_from_steps}
use Rattle.plane_laws.proofs.Points.Same.{same_refl, same_sym, same_trans}
use Rattle.plane_laws.proofs.Turns.Turns.{turn_cycle, turn_swap}
use Rattle.plane_laws.specs.Plane.{Point, IsSamePoint, IsOnSegment, turn, shift, rise}
use Rattle.plane_laws.specs.Directions.{Direction}
use Rattle.plane_exact.specs.Places.{point_of}
use Rattle.plane_exact.specs.declared.point.Seg.{Seg}
use Rattle.ring_laws.proofs.Germs.Areas.{segment_within}
use Rattle.ring_laws.proofs.Germs.Edges.{on_true}
use Rattle.plane_laws.proofs.Near.Parted.{turn_ends}
use Rattle.figure_laws.proofs.Points.Same.{is_on_edges-same}
use Rattle.side_laws.proofs.Edges.Germ.{between_not_start}
use Rattle.point_set.specs.declared.figure.Figure.{Figure}
use Rattle.point_set.specs.declared.rule.Rule.{Rule}
use Rattle.plane_laws.specs.Along.{IsInCone}
use Rattle.point_set.specs.Lines.{is_at_some}
use Rattle.point_set.specs.Rings.{is_on_edges}
use Rattle.point_set.specs.Validity.{IsAtPlace, IsOnEdge}
use Rattle.plane_laws.proofs.Segments.Crossings.{apart_right}
use Rattle.point_set.specs.Nodes.{IsNode, position, crossing, segs_of_both, RunsFrom}
use Rattle.point_set.specs.Shape.{IsWellShaped}
use Rattle.stay_laws.proofs.Stays.OffEdges.{pair_stays}
use Rattle.point_set.specs.Visible.{IsSeenFrom, IsVisibleOff, LawVisibleOff, AreAllNodes, PairStays}
use Rattle.node_laws.specs.Seen.{IsFirstHit, IsEnd, IsAmong, Sees}
use Rattle.meeting_laws.proofs.Ways.AlongWay.{strictly, one_ray, cone_apart}
use Rattle.meeting_laws.proofs.Ways.Corners.{turn_back}
use Rattle.node_laws.proofs.Nodes.Edges.{OnSome, on_some, edges_true, on_end, off_end}
use Rattle.node_laws.proofs.Visible.FirstHit.{IsNearestNode, nearest_node, first_hit}
use Rattle.meeting_laws.proofs.Meetings.FirstMeeting.{both_ways}
use Rattle.node_laws.proofs.Nodes.Decided.{node_is_decided, node_same}
use Rattle.node_laws.proofs.Nodes.Finite.{nodes_are_finite}
use Rattle.meeting_laws.proofs.Ways.OneLine.{zero_or_not, same_or_not, another, one_line}
use Rattle.node_laws.proofs.Nodes.Positions.{ends_are_positions, positions_of_both}
use Rattle.germ_laws.proofs.Rays.WayTo.{way_to, way_to_is}
use Rattle.node_laws.proofs.Visible.SeenNode.{seen_node}

-- a node from which no edge comes before p
record SeesOverEdges (a b : Figure) (p : Point) : Type 0 where
  v : Point
  is_node : IsNode a b v
  free : (y : Point) → IsOnSegment p v y → ¬ IsSamePoint y v → is_on_edges y (segs_of_both a b) ≡ false

-- both ends of an edge
end_of : {q : Point} {edges : List Seg} (s : OnSome q edges) → IsEnd edges (point_of s.edge.a) (point_of s.edge.b)
end_of s = record { place = s.place; edge = s.edge; edge_is = s.edge_is; ends = inl (refl, refl) }

-- and the other way round
turned_end : {q : Point} {edges : List Seg} (s : OnSome q edges) → IsEnd edges (point_of s.edge.b) (point_of s.edge.a)
turned_end s = record { place = s.place; edge = s.edge; edge_is = s.edge_is; ends = inr (refl, refl) }

-- a point of an edge, by the edge's ends
from_end : {edges : List Seg} {u v q : Point} (e : IsEnd edges u v) → IsOnEdge e.edge q → IsOnSegment u v q
from_end {edges} {u} {v} {q} e on = go e.ends
  where
    go : ((u ≡ point_of e.edge.a) × (v ≡ point_of e.edge.b)) ⊎ ((u ≡ point_of e.edge.b) × (v ≡ point_of e.edge.a)) → IsOnSegment u v q
    go (inl h) = subst (λ z. IsOnSegment z v q) (sym h.0) (subst (λ z. IsOnSegment (point_of e.edge.a) z q) (sym h.1) on)
    go (inr h) = subst (λ z. IsOnSegment z v q) (sym h.0) (subst (λ z. IsOnSegment (point_of e.edge.b) z q) (sym h.1) (segment_flip on))

module _ (a b : Figure) where
  abbrev Edges : List Seg
  Edges = segs_of_both a b

  -- an end of an edge is a node
  end_is_node : {u v : Point} → IsEnd Edges u v → IsNode a b u
  end_is_node {u} {v} e = position (go e.ends)
    where
      at_ends : (is_at_some (point_of e.edge.a) (positions_of_both a b) ≡ true)
          × (is_at_some (point_of e.edge.b) (positions_of_both a b) ≡ true)
      at_ends = ends_are_positions a b e.place e.edge e.edge_is

      go : ((u ≡ point_of e.edge.a) × (v ≡ point_of e.edge.b)) ⊎ ((u ≡ point_of e.edge.b) × (v ≡ point_of e.edge.a))
          → is_at_some u (positions_of_both a b) ≡ true
      go (inl h) = ap (λ z. is_at_some z (positions_of_both a b)) h.0 ∙ at_ends.0
      go (inr h) = ap (λ z. is_at_some z (positions_of_both a b)) h.0 ∙ at_ends.1

  -- a common point of two edges that aren't on one line is a node
  apart_node : {u v r s : Point} → IsEnd Edges u v → IsEnd Edges r s → (q : Point) → IsOnSegment u v q → IsOnSegment r s q
      → ¬ ((turn u v r ≡ pos 0) × (turn u v s ≡ pos 0)) → IsNode a b q
  apart_node {u} {v} {r} {s} e f q on held apart = crossing (record {
    i = e.place;
    j = f.place;
    e = e.edge;
    f = f.edge;
    e_is = e.edge_is;
    f_is = f.edge_is;
    meet = record { on_e = on_end e on; on_f = on_end f held; only = λ m on_e on_f. only m on_e on_f (same_or_not m q) };
  })
    where
      only : (m : Point) → IsOnEdge e.edge m → IsOnEdge f.edge m → IsSamePoint m q ⊎ (¬ IsSamePoint m q) → IsSamePoint m q
      only m on_e on_f (inl same) = same
      only m on_e on_f (inr n) = absurd (apart (one_line u v r s m q n (from_end e on_e) on (from_end f on_f) held))

  -- a point of an edge isn't off the edges
  clash : {p : Point} {u v : Point} → is_on_edges p Edges ≡ false → IsEnd Edges u v → ¬ IsOnSegment u v p
  clash {p} off e = off_end Edges p off e

  module _ (p : Point) (off : is_on_edges p Edges ≡ false) (not_node : ¬ IsNode a b p) where
    -- ---- the first hit is inside an edge
    module _ (x h : Point) (hit : IsFirstHit a b p x h) (h_not_node : ¬ IsNode a b h) where
      -- the edge from u to v, with u to the left of the way from p to h
      module _ (u v : Point) (e : IsEnd Edges u v) (on : IsOnSegment u v h) (broad : pos 0 <ℤ turn p h u) (nodes : List Point)
          (all : AreAllNodes a b nodes) where
        -- each node is in the list
        among : (q : Point) → IsNode a b q → IsAmong nodes q
        among q node = go (all.whole q node)
          where
            go : (place : ℕ) × (w : Point) × IsAtPlace nodes place w × IsSamePoint q w → IsAmong nodes q
            go (place, w, is, same) = record { place = place; node = w; node_is = is; same = same_sym same }

        -- the first hit isn't the edge's end
        not_u : ¬ IsSamePoint u h
        not_u same = h_not_node (node_same a b same (end_is_node e))

        -- the edge's ends differ
        moving : ¬ IsSamePoint u v
        moving same = not_u (on_segment_of_same same on)

        -- what is on the line of the edge is on that of h and u
        about_h : (q : Point) → turn u v q ≡ pos 0 → turn h u q ≡ pos 0
        about_h q level = three_on_line u v h u q moving (mix_turn on.mix) (turn_ends u v).0 level

        free : (r s m : Point) → IsEnd Edges r s → IsOnSegment r s m → IsOnSegment p h m → IsSamePoint m h
        free r s m f held within = go (same_or_not m h)
          where
            go : IsSamePoint m h ⊎ (¬ IsSamePoint m h) → IsSamePoint m h
            go (inl same) = same
            go (inr n) = absurd (clash (hit.first m within n).0 f held)

        -- an edge through the first hit is on the line of this one
        lone : (r s : Point) → IsEnd Edges r s → IsOnSegment r s h → (turn h u r ≡ pos 0) × (turn h u s ≡ pos 0)
        lone r s f held = go (zero_or_not (turn u v r)) (zero_or_not (turn u v s))
          where
            go : (turn u v r ≡ pos 0) ⊎ (¬ (turn u v r ≡ pos 0)) → (turn u v s ≡ pos 0) ⊎ (¬ (turn u v s ≡ pos 0)) → (turn h u r ≡ pos 0)
                × (turn h u s ≡ pos 0)
            go (inl y) (inl z) = (about_h r y, about_h s z)
            go (inl y) (inr n) = absurd (h_not_node (apart_node e f h on held (λ l. n l.1)))
            go (inr n) z = absurd (h_not_node (apart_node e f h on held (λ l. n l.0)))

        -- an edge that crosses this one does it at a node
        crossed : (r s q : Point) → IsEnd Edges r s → IsOnSegment r s q → IsOnSegment h u q → turn h u r <ℤ pos 0 → IsAmong nodes q
        crossed r s q f held line below =
            among q (apart_node e f q (segment_within on (start_on_segment u v) line) held (λ l. <ℤ_apart below (about_h r l.0)))

        -- so some node is seen over the edges
        sees_by_edge : SeesOverEdges a b p
        sees_by_edge = go (seen_node Edges nodes p h u broad (among u (end_is_node e)) (λ r s f. among r (end_is_node f)) off free lone
            crossed)
          where
            go : Sees Edges nodes p → SeesOverEdges a b p
            go s = record {
              v = s.node;
              is_node = node_same a b s.is_node.same (all.only s.is_node.place s.is_node.node s.is_node.node_is);
              free = λ y within apart. false_from_ne_true (is_on_edges y Edges)
                  (λ on_edges. blocked y within apart (on_some y Edges on_edges));
            }
              where
                blocked : (y : Point) → IsOnSegment p s.node y → ¬ IsSamePoint y s.node → OnSome y Edges → ⊥
                blocked y within apart some =
                    let held = edges_true y Edges some.place some.edge some.edge_is some.on in
                    let not_p : ¬ IsSamePoint y p = λ same. true≢false (sym held ∙ is_on_edges-same same Edges ∙ off) in
                    s.free (point_of some.edge.a) (point_of some.edge.b) y (end_of some) some.on (strictly within not_p apart)

      -- an edge through h isn't on the line of p and h
      no_level : (u v : Point) → IsEnd Edges u v → IsEnd Edges v u → IsOnSegment u v h → ¬ (turn p h u ≡ pos 0)
      no_level u v e back on level =
          let m = another u v p h on (λ same. not_end e (same_sym same)) (λ same. not_end back (same_sym same)) not_h line in
          clash (hit.first m.m m.on_second m.apart).0 e m.on_first
        where
          not_end : {r s : Point} → IsEnd Edges r s → ¬ IsSamePoint r h
          not_end f same = h_not_node (node_same a b same (end_is_node f))

          not_h : ¬ IsSamePoint p h
          not_h same = clash off e (segment_same (same_refl u) (same_refl v) (same_sym same) on)

          at_p : turn u h p ≡ pos 0
          at_p = turn_swap h u p ∙ ap neg_ℤ (sym (turn_cycle p h u) ∙ level)

          at_v : turn u h v ≡ pos 0
          at_v = turn_back u v h ∙ ap neg_ℤ (mix_turn on.mix)

          line : turn u v p ≡ pos 0
          line = three_on_line u h u v p (not_end e) (turn_ends u h).0 at_v at_p

      -- one of the ends is to the left of the way
      sees_by_hit : OnSome h Edges → SeesOverEdges a b p
      sees_by_hit s = by_sign (turn p h (point_of s.edge.a)) by_other
          (λ z. absurd (no_level (point_of s.edge.a) (point_of s.edge.b) (end_of s) (turned_end s) s.on z))
          (λ l. let all = nodes_are_finite a b in sees_by_edge (point_of s.edge.a) (point_of s.edge.b) (end_of s) s.on l all.0 all.1)
        where
          by_other : turn p h (point_of s.edge.a) <ℤ pos 0 → SeesOverEdges a b p
          by_other l = by_sign (turn p h (point_of s.edge.b))
              (λ k. absurd (apart_right p h (point_of s.edge.a) (point_of s.edge.b) h l k s.on (turn_ends p h).1))
              (λ z. absurd (no_level (point_of s.edge.b) (point_of s.edge.a) (turned_end s) (end_of s) (segment_flip s.on) z))
              (λ k. let all = nodes_are_finite a b in sees_by_edge (point_of s.edge.b) (point_of s.edge.a) (turned_end s)
              (segment_flip s.on) k all.0 all.1)

    -- ---- a node that sees p over the edges
    -- a node that sees p over the edges, by the first hit on the way to some node
    over_edges : (x : Point) → IsNode a b x → SeesOverEdges a b p
    over_edges x node = by_hit (first_hit a b p x off node)
      where
        by_hit : (h : Point) × IsFirstHit a b p x h → SeesOverEdges a b p
        by_hit (h, hit) = by_node (node_is_decided a b h) hit.hit
          where
            by_node : IsNode a b h ⊎ (¬ IsNode a b h) → (is_on_edges h Edges ≡ true) ⊎ IsNode a b h → SeesOverEdges a b p
            by_node (inl is) k = record { v = h; is_node = is; free = λ y within apart. (hit.first y within apart).0 }
            by_node (inr n) (inl on) = sees_by_hit x h hit n (on_some h Edges on)
            by_node (inr n) (inr is) = absurd (n is)

    -- ---- the nearest node on the way to it
    -- between it and p there is nothing
    record SeesAll : Type 0 where
      v : Point
      is_node : IsNode a b v
      free : (y : Point) → IsOnSegment p v y → ¬ IsSamePoint y v → (is_on_edges y Edges ≡ false) × (¬ IsNode a b y)

    -- the nearest node on the way to one that sees p over the edges
    sees_all : SeesOverEdges a b p → SeesAll
    sees_all s = go (nearest_node a b p s.v s.is_node)
      where
        go : (n : Point) × IsNearestNode a b p s.v n → SeesAll
        go (n, near) = record { v = n; is_node = near.is_node; free = free }
          where
            free : (y : Point) → IsOnSegment p n y → ¬ IsSamePoint y n → (is_on_edges y Edges ≡ false) × (¬ IsNode a b y)
            free y within apart = (
              s.free y (segment_within (start_on_segment p s.v) near.on within) not_v,
              λ node. apart
                  (near.only y within node),
            )
              where
                not_v : ¬ IsSamePoint y s.v
                not_v same = apart (same_trans same (same_sym (both_ways near.on (segment_same (same_refl p) (same_refl n) same within))))

    -- ---- seen
    -- two parts in one direction
    joined : (c i j x z : ℤ) → c *ℤ z ≡ (i *ℤ x) +ℤ (j *ℤ x) → c *ℤ z ≡ (i +ℤ j) *ℤ x
    joined c i j x z e = same_from (var 0 ⊗ var 4) ((var 1 ⊕ var 2) ⊗ var 3) (c ∷ i ∷ j ∷ x ∷ z ∷ [])
        (same (var 0 ⊗ var 4) (var 1 ⊗ var 3 ⊕ var 2 ⊗ var 3) e) refl

    module _ (s : SeesAll) where
      -- the node isn't p
      apart : ¬ IsSamePoint s.v p
      apart same = not_node (node_same a b same s.is_node)

      -- the direction from the node to p
      way : Direction
      way = way_to s.v p apart

      -- p lies that way
      toward : IsInCone s.v way way p
      unfolding way
      toward = way_to_is s.v p apart

      -- no edge through the node has an end z in that direction
      none_leads : (u z : Point) → IsEnd Edges u z → IsOnSegment u z s.v → ¬ IsInCone s.v way way z
      unfolding way way_to
      none_leads u z e on c = go (one_ray s.v p z c.times (c.i +ℤ c.j) c.positive c.some
          (joined c.times c.i c.j (shift s.v p) (shift s.v z) c.across) (joined c.times c.i c.j (rise s.v p) (rise s.v z) c.above))
        where
          go : IsOnSegment s.v p z ⊎ IsOnSegment s.v z p → ⊥
          go (inl within) = clash (s.free z (segment_flip within) (cone_apart c)).0 e (end_on_segment u z)
          go (inr beyond) = clash off e (segment_within on (end_on_segment u z) beyond)

      -- so no edge runs that way
      free_way : ¬ RunsFrom s.v Edges way
      free_way r = go r.leads
        where
          here : OnSome s.v Edges
          here = record { place = r.place; edge = r.edge; edge_is = r.edge_is; on = on_true r.holds }

          go : IsInCone s.v way way (point_of r.edge.a) ⊎ IsInCone s.v way way (point_of r.edge.b) → ⊥
          go (inl c) = none_leads (point_of r.edge.b) (point_of r.edge.a) (turned_end here) (segment_flip here.on) c
          go (inr c) = none_leads (point_of r.edge.a) (point_of r.edge.b) (end_of here) here.on c

      module _ (rule : Rule) (stays : PairStays a b rule) where
        -- each point strictly between has the pair of p
        seen : IsSeenFrom a b rule s.v p
        seen c held q between = stays p q clear c held
          where
            on_way : IsOnSegment p s.v q
            on_way = segment_flip (on_from_strictly_between between)

            clear : (m : Point) → IsOnSegment p q m → (is_on_edges m Edges ≡ false) × (¬ IsNode a b m)
            clear m within = s.free m (segment_within (start_on_segment p s.v) on_way within) not_v
              where
                not_v : ¬ IsSamePoint m s.v
                not_v same = between_not_start between (same_sym (both_ways on_way (segment_same (same_refl p) (same_refl q) same within)))

        -- p is seen from the node
        visible : IsVisibleOff a b rule p
        visible = record { v = s.v; is_node = s.is_node; d = way; toward = toward; free = free_way; seen = seen }

-- ---- the law
-- some node, or none
some_node : (a b : Figure) (nodes : List Point) → AreAllNodes a b nodes → ((v : Point) → ¬ IsNode a b v) ⊎ ((v : Point) × IsNode a b v)
some_node a b [] all = inl none
  where
    nowhere : (v : Point) → (place : ℕ) × (w : Point) × IsAtPlace [] place w × IsSamePoint v w → ⊥
    nowhere v (place, w, is, same) = cc

    none : (v : Point) → ¬ IsNode a b v
    none v node = nowhere v (all.whole v node)
some_node a b (v ∷ nodes) all = inr (v, all.only 0 v refl)

-- the law, where the pair stays off edges and nodes
visible_where : (a b : Figure) (rule : Rule) → PairStays a b rule → LawVisibleOff a b rule
visible_where a b rule stays p off not_node = go (let all = nodes_are_finite a b in some_node a b all.0 all.1)
  where
    go : ((v : Point) → ¬ IsNode a b v) ⊎ ((v : Point) × IsNode a b v) → ((v : Point) → ¬ IsNode a b v) ⊎ IsVisibleOff a b rule p
    go (inl none) = inl none
    go (inr (x, node)) = inr (visible a b p off not_node (sees_all a b p off not_node (over_edges a b p off not_node x node)) rule stays)

pub visible_off : (a b : Figure) → IsWellShaped a → IsWellShaped b → (rule : Rule) → LawVisibleOff a b rule
visible_off a b a_shaped b_shaped rule = visible_where a b rule (pair_stays a b a_shaped b_shaped rule)
