-- The near nodes of two figures put together: the near positions of each, and the near only common points of two edges, one of each, or
-- both of one figure that has areas.
use Rattle.std.proofs.Common.{◌≡◌, ◌⊎◌, inl, inr, ℕ, true, ◌||◌, List, [], ◌∷◌, get_or, sym, subst, arith}
use Rattle.std.specs.Prelude.{Some}
use Rattle.std.proofs.lemmas.Bool.{or_left, or_right}
use Rattle.std.proofs.lemmas.List.{get_or_default}
use Rattle.plane_laws.proofs.Points.Same.{same_refl, same_sym, Decides-is_same_point}
use Rattle.plane_laws.proofs.Segments.Mixes.{segment_same, start_on_segment, end_on_segment}
use Rattle.plane_laws.specs.Plane.{Point}
use Rattle.plane_exact.specs.NodePoints.{point_at}
use Rattle.plane_exact.specs.Places.{point_of}
use Rattle.plane_exact.specs.declared.point.Pt.{Pt}
use Rattle.plane_exact.specs.declared.point.Seg.{Seg}
use Rattle.plane_exact.specs.declared.window.Window.{Window}
use Rattle.point_set.specs.declared.figure.Figure.{Figure}
use Rattle.point_set.specs.Lines.{is_at, is_at_some}
use Rattle.point_set.specs.Edges.{edges_of_figure, MeetsAtPlace}
use Rattle.point_set.specs.Nodes.{IsFewNode, IsCrossing, position, between, of_a, of_b, all_positions, segs_of}
use Rattle.point_set.specs.Validity.{IsAtPlace, IsOnEdge, IsValid}
use Rattle.figure_laws.proofs.Lists.Items.{Each, each_both, some_left, some_right}
use Rattle.figure_laws.proofs.Lists.Least.{SomeItem, by_place}
use Rattle.node_laws.proofs.Nodes.Edges.{edge_true}
use Rattle.node_laws.proofs.Nodes.Positions.{HasEnds, ends_of_figure, positions_of_both, at_some}
use Rattle.box_laws.proofs.Boxes.Edges.{near_edges_meet}
use Rattle.box_laws.specs.Boxes.{IsNearBox}
use Rattle.near_laws.specs.Near.{IsNearNode}
use Rattle.node_table.specs.declared.entry.Entry.{Entry}
use Rattle.relate_core.specs.Tables.{IsListed, AreNodes}
use Rattle.relate_core.specs.NodeSets.{AddsNear, IsOfSome, AreEdgesNear, CrossesSome, CrossesWithin}
use Rattle.relate_core.specs.NodeSets.{IsAtEnd, IsAtOneOf, IsAtPosition, IsAtStart, IsAtEitherEnd}
use Rattle.relate_core.proofs.FigureEdges.{edge_of_seg}
use Rattle.relate_core.proofs.Positions.{each_position, line_position, point_position}
use Rattle.relate_core.proofs.Sets.{adds_both, adds_same}

-- ---- a set for each item, and items by their places
item_of : {T : Type 0} {Set : T → Point → Type 0} {items : List T} {v : Point} → IsOfSome Set items v → SomeItem (λ x. Set x v) items
item_of h = record { place = h.place; item = h.item; item_is = h.item_is; is_so = h.is_of }

of_item : {T : Type 0} {Set : T → Point → Type 0} {items : List T} {v : Point} → SomeItem (λ x. Set x v) items → IsOfSome Set items v
of_item h = record { place = h.place; item = h.item; item_is = h.item_is; is_of = h.is_so }

-- ---- the positions of one figure
-- each position of some is at one of them
each_itself : (positions : List Pt) → Each (λ q. (v : Point) → IsAtPosition q v → IsAtOneOf positions v) positions
each_itself positions place q is v same = record { place = place; item = q; item_is = is; is_of = same }

-- an edge of a figure that holds a near point meets the box
meets_there : (w : Window) (f : Figure) (v : Point) → IsNearBox w v → (place : ℕ) (e : Seg) → IsAtPlace (segs_of f) place e → IsOnEdge e v
    → MeetsAtPlace w (edges_of_figure f) place
meets_there w f v near place e is on =
    let t = edge_of_seg f place e is in
    near_edges_meet f w v near place t.edge t.edge_is (edge_true t.edge.seg (subst (λ (z : Seg). IsOnEdge z v) (sym t.seg_is) on))

-- an edge holds the points at both of its ends
holds_start : (e : Seg) (v : Point) → IsAtPosition e.a v → IsOnEdge e v
holds_start e v at =
    segment_same (same_refl (point_of e.a)) (same_refl (point_of e.b)) (same_sym at) (start_on_segment (point_of e.a) (point_of e.b))

holds_end : (e : Seg) (v : Point) → IsAtPosition e.b v → IsOnEdge e v
holds_end e v at =
    segment_same (same_refl (point_of e.a)) (same_refl (point_of e.b)) (same_sym at) (end_on_segment (point_of e.a) (point_of e.b))

-- the points, the first positions of the lines and the ends of the edges that meet the box are all positions of a valid figure near it
pub positions_added : (w : Window) (f : Figure) → IsValid f → (edges : List Seg) → AreEdgesNear w f edges → (old one two new : List Entry)
    → AddsNear w (IsAtOneOf f.points) old one → AddsNear w (IsAtStart f.lines) one two → AddsNear w (IsAtEnd edges) two new
    → AddsNear w (IsAtOneOf (all_positions f)) old new
positions_added w f valid edges are old one two new h k l =
    adds_same w there back (adds_both w old two new (adds_both w old one two h k) l)
  where
    ends : (v : Point) → Each (HasEnds (λ q. IsAtPosition q v → IsAtOneOf (all_positions f) v)) (segs_of f)
    ends v =
        ends_of_figure (λ q. IsAtPosition q v → IsAtOneOf (all_positions f) v) f
        (λ place q is. each_itself (all_positions f) place q is v)

    at_end : (v : Point) (e : Seg) → (i : ℕ) × IsAtPlace (segs_of f) i e → IsAtEitherEnd e v → IsAtOneOf (all_positions f) v
    at_end v e (i, is) (inl a) = (ends v i e is).0 a
    at_end v e (i, is) (inr b) = (ends v i e is).1 b

    there : (v : Point) → (IsAtOneOf f.points v ⊎ IsAtStart f.lines v) ⊎ IsAtEnd edges v → IsAtOneOf (all_positions f) v
    there v (inl (inl p)) = of_item (point_position f (λ q. IsAtPosition q v) (item_of p))
    there v (inl (inr s)) =
        let first = s.is_of in
        of_item (line_position f s.place s.item first.0 (λ q. IsAtPosition q v) s.item_is first.1 first.2)
    there v (inr e) = at_end v e.item (are.only e.place e.item e.item_is) e.is_of

    -- an edge with a near end is one of those that meet the box
    ended : (v : Point) → IsNearBox w v → (place : ℕ) (e : Seg) → IsAtPlace (segs_of f) place e → IsOnEdge e v → IsAtEitherEnd e v
        → IsAtEnd edges v
    ended v near place e is on at =
        let p = are.whole place e is (meets_there w f v near place e is on) in
        record { place = p.0; item = e; item_is = p.1; is_of = at }

    each : (v : Point) → IsNearBox w v
        → Each (λ q. IsAtPosition q v → (IsAtOneOf f.points v ⊎ IsAtStart f.lines v) ⊎ IsAtEnd edges v) (all_positions f)
    each v near =
        each_position f valid (λ q. IsAtPosition q v → (IsAtOneOf f.points v ⊎ IsAtStart f.lines v) ⊎ IsAtEnd edges v)
        (λ place q is at. inl (inl (record { place = place; item = q; item_is = is; is_of = at })))
        (λ place line is q first at. inl (inr (record { place = place; item = line; item_is = is; is_of = (q, first, at) })))
        (λ place e is. (
          (λ at. inr (ended v near place e is (holds_start e v at) (inl at))),
          (λ at. inr (ended v near place e is (holds_end e v at) (inr at))),
        ))

    back : (v : Point) → IsNearBox w v → IsAtOneOf (all_positions f) v
        → (IsAtOneOf f.points v ⊎ IsAtStart f.lines v) ⊎ IsAtEnd edges v
    back v near p = each v near p.place p.item p.item_is p.is_of

-- ---- the near nodes of both
-- the test of positions
at_true : (v : Point) (positions : List Pt) → Each (λ q. IsAtPosition q v → is_at_some v positions ≡ true) positions
at_true v [] = λ place q is. cc
at_true v (p ∷ others) =
    by_place p others (λ q. IsAtPosition q v → is_at v p || is_at_some v others ≡ true)
    (λ at. or_left (is_at v p) (is_at_some v others) ((Decides-is_same_point v (point_of p)).1 at))
    (λ place q is at. or_right (is_at v p) (is_at_some v others) (at_true v others place q is at))

-- the only common point of one of some edges of a figure and one of some others
of_crossing : (f : Figure) (edges others : List Seg) (v : Point)
    → ((place : ℕ) (e : Seg) → IsAtPlace edges place e → (i : ℕ) × IsAtPlace (segs_of f) i e) → CrossesSome edges others v
    → IsCrossing (segs_of f) others v
of_crossing f edges others v only c =
    let d = c.is_of in
    let p = only c.place c.item c.item_is in
    record { i = p.0; j = d.place; e = c.item; f = d.item; e_is = p.1; f_is = d.item_is; meet = d.is_of }

-- is found where it is near
some_crossing : (w : Window) (f : Figure) (edges others : List Seg) → AreEdgesNear w f edges → (v : Point) → IsNearBox w v
    → IsCrossing (segs_of f) others v → CrossesSome edges others v
some_crossing w f edges others are v near c =
    let p = are.whole c.i c.e c.e_is (meets_there w f v near c.i c.e c.e_is c.meet.on_e) in
    record { place = p.0; item = c.e; item_is = p.1; is_of = record { place = c.j; item = c.f; item_is = c.f_is; is_of = c.meet } }

module _ (w : Window) (a b : Figure) (near_a near_b : List Seg) (are_a : AreEdgesNear w a near_a) (are_b : AreEdgesNear w b near_b) where
  -- the positions of the first and of the second figure, and the crossings between both, within the first and within the second
  abbrev Found : Point → Type 0
  Found v =
      (((IsAtOneOf (all_positions a) v ⊎ IsAtOneOf (all_positions b) v) ⊎ CrossesSome near_a (segs_of b) v)
      ⊎ CrossesWithin near_a a v) ⊎ CrossesWithin near_b b v

  at_position : (v : Point) → SomeItem (λ q. IsAtPosition q v) (positions_of_both a b) → IsFewNode a b v
  at_position v r = position (at_true v (positions_of_both a b) r.place r.item r.item_is r.is_so)

  found_is_few : (v : Point) → Found v → IsFewNode a b v
  found_is_few v (inl (inl (inl (inl p)))) =
      at_position v (some_left (λ q. IsAtPosition q v) (all_positions a) (all_positions b) (item_of p))
  found_is_few v (inl (inl (inl (inr p)))) =
      at_position v (some_right (λ q. IsAtPosition q v) (all_positions a) (all_positions b) (item_of p))
  found_is_few v (inl (inl (inr c))) = between (of_crossing a near_a (segs_of b) v are_a.only c)
  found_is_few v (inl (inr c)) = of_a c.0 (of_crossing a near_a (segs_of a) v are_a.only c.1)
  found_is_few v (inr c) = of_b c.0 (of_crossing b near_b (segs_of b) v are_b.only c.1)

  position_found : (v : Point) → Each (λ q. IsAtPosition q v → Found v) (positions_of_both a b)
  position_found v =
      each_both (λ q. IsAtPosition q v → Found v) (all_positions a) (all_positions b)
      (λ place q is at. inl (inl (inl (inl (record { place = place; item = q; item_is = is; is_of = at })))))
      (λ place q is at. inl (inl (inl (inr (record { place = place; item = q; item_is = is; is_of = at })))))

  few_is_found : (v : Point) → IsNearBox w v → IsFewNode a b v → Found v
  few_is_found v near (position at) =
      let p = at_some v (positions_of_both a b) at in
      position_found v p.place p.item p.item_is p.is_so
  few_is_found v near (between c) = inl (inl (inr (some_crossing w a near_a (segs_of b) are_a v near c)))
  few_is_found v near (of_a has c) = inl (inr (has, some_crossing w a near_a (segs_of a) are_a v near c))
  few_is_found v near (of_b has c) = inr (has, some_crossing w b near_b (segs_of b) are_b v near c)

  -- all together
  pub nodes_together : (one two three four five : List Entry) → AddsNear w (IsAtOneOf (all_positions a)) [] one
      → AddsNear w (IsAtOneOf (all_positions b)) one two → AddsNear w (CrossesSome near_a (segs_of b)) two three
      → AddsNear w (CrossesWithin near_a a) three four → AddsNear w (CrossesWithin near_b b) four five
      → AreNodes (IsNearNode (Some w) a b) five
  nodes_together one two three four five h1 h2 h3 h4 h5 = record {
    only = λ k d below. is_node (get_or five k d)
        (k, get_or five k d, below, get_or_default five k (get_or five k d) d below, same_refl (point_at (get_or five k d).node));
    whole = λ v n. all.whole v (few_is_found v n.1 n.0) n.1;
  }
    where
      all : AddsNear w Found [] five
      all =
          adds_both w [] four five
          (adds_both w [] three four (adds_both w [] two three (adds_both w [] one two h1 h2) h3) h4) h5

      is_node : (e : Entry) → IsListed five (point_at e.node) → IsNearNode (Some w) a b (point_at e.node)
      is_node e l = go (all.only (point_at e.node) l)
        where
          go : IsListed [] (point_at e.node) ⊎ (Found (point_at e.node) × IsNearBox w (point_at e.node))
              → IsNearNode (Some w) a b (point_at e.node)
          go (inl none) = (let below = none.2 in absurd (omega (arith, below)))
          go (inr found) = (found_is_few (point_at e.node) found.0, found.1)
