-- Near a node there is no other position of a line's end, a still line or a point; and lines are there exactly along the rays on which
-- a section of a line runs.
use Rattle.std.proofs.Common.{◌≡◌, ◌⊎◌, inl, inr, ℕ, suc, ◌+◌, ◌<◌, Bool, true, false}
use Rattle.std.proofs.Common.{List, [], ◌∷◌, refl, sym, arith}
use Rattle.std.specs.List.{Any, Contains}
use Rattle.std.proofs.lemmas.Bool.{or_from}
use Rattle.std.proofs.lemmas.Option.{slice_get_within}
use Rattle.im_matrix.specs.declared.Which.{Which}
use Rattle.plane_laws.proofs.Segments.On.{Decides-is_on_segment}
use Rattle.plane_laws.proofs.Points.Same.{same_sym}
use Rattle.plane_laws.specs.Plane.{Point, IsSamePoint}
use Rattle.plane_exact.specs.Places.{point_of}
use Rattle.plane_laws.specs.Directions.{Direction}
use Rattle.plane_exact.specs.Orders.{direction_of, IsSameDirection}
use Rattle.plane_exact.specs.declared.dir.Dir.{Dir}
use Rattle.plane_exact.specs.declared.point.Pt.{Pt}
use Rattle.plane_exact.specs.declared.point.Seg.{Seg}
use Rattle.point_set.specs.declared.edge.Hand.{Hand}
use Rattle.point_set.specs.declared.edge.Hand.TheVariants as hand
use Rattle.point_set.specs.declared.edge.Owner.{Owner}
use Rattle.point_set.specs.declared.edge.Owner.TheVariants.{Line, Ring}
use Rattle.point_set.specs.declared.figure.Figure.{Figure}
use Rattle.point_set.specs.Edges.{OwnedEdge, edges_of_figure, HasHand, far_end, hand_of_way}
use Rattle.plane_laws.specs.Along.{HoldsAlong, IsInCone}
use Rattle.point_set.specs.Lines.{is_on_lines}
use Rattle.point_set.specs.Location.{is_on_line}
use Rattle.point_set.specs.Rings.{edges_of, is_on_edge, is_on_edges}
use Rattle.point_set.specs.Sectors.{IsInSector}
use Rattle.point_set.specs.Validity.{IsAtPlace, IsOnEdge}
use Rattle.ring_laws.proofs.Germs.Areas.{edge_along, clear_from}
use Rattle.ring_laws.proofs.Germs.Edges.{on_true, joined_between, direction_pointed, Decides-is_toward}
use Rattle.ring_laws.proofs.Parity.Ring.{misses_start}
use Rattle.germ_laws.proofs.Sectors.Rays.{off_sector}
use Rattle.fan_order.specs.declared.section.Section.{Section}
use Rattle.fan_order.specs.Sections.{IsSectionToward, IsLineAlong, IsFanOf}
use Rattle.germ_laws.proofs.Room.Starry.{not_here}
use Rattle.germ_laws.proofs.Room.Ways.{cone_way}
use Rattle.kind_laws.proofs.Hands.InSector.{on_far}
use Rattle.figure_laws.proofs.Edges.Owners.{HasPlace, IsEdgeOf, IsLineEdge, edge_of_owner, owner_has_edge}
use Rattle.germ_laws.proofs.Rays.Ways.{one_way, HasRay, ray_of_any, place_of_seg}
use Rattle.fan_laws.proofs.Fans.Rays.{section_cone, figure_rays}
use Rattle.fan_laws.proofs.Fans.Hands.{line_hand, hand_line, at_point}
use Rattle.germ_laws.proofs.Rays.Neighbours.{between_rays}
use Rattle.kind_laws.proofs.Cover.Inside.{on_some_edge}
use Rattle.figure_laws.proofs.Lists.Search.{HasSome, search_for}
use Rattle.fan_order.proofs.Laws.{same_which, same_direction}
use Rattle.figure_laws.proofs.Edges.Lines.{on_some_line}

-- ---- lines along a direction
-- no edge of the way runs from v along d
abbrev IsClearWay : Point → Direction → List Pt → Type 0
IsClearWay v d way =
    (place : ℕ) (e : Seg) → IsAtPlace (edges_of way) place e → is_on_edge v e ≡ true
    → (¬ IsInCone v d d (point_of e.a)) × (¬ IsInCone v d d (point_of e.b))

-- then no near point along d is on a line
lines_off : (v : Point) (d : Direction) (lines : List (List Pt)) → ((k : ℕ) (way : List Pt) → IsAtPlace lines k way → IsClearWay v d way)
    → HoldsAlong (λ q. is_on_lines q lines ≡ false) v d
lines_off v d [] clear = record { from = 0; holds = λ n far q away. refl }
lines_off v d (line ∷ lines) clear =
    let joined = joined_between v d d (direction_pointed v d) (edges_of line) (clear_from v d d (edges_of line) (clear 0 line refl)) in
    let rest = lines_off v d lines (λ k way is. clear (suc k) way is) in
    record {
      from = joined.from + rest.from;
      holds = λ n far q away.
          let near : joined.from < n = omega (arith, far) in
          or_from (is_on_edges q (edges_of line)) (is_on_lines q lines) (misses_start (joined.free n n near near q q away away))
          (rest.holds n (omega (arith, far)) q away);
    }

-- where an edge of a line runs from v along d, the near points are on it
lines_on : (f : Figure) (v : Point) (d : Direction) (k : ℕ) (e : Seg) → IsLineEdge f.lines k e → IsOnEdge e v → (forward : Bool)
    → IsInCone v d d (point_of (far_end forward e)) → HoldsAlong (λ q. is_on_line f q ≡ true) v d
lines_on f v d k e h on forward c =
    let last = point_of (far_end forward e) in
    let on_v = (Decides-is_on_segment (point_of e.a) (point_of e.b) v).1 on in
    let along = edge_along v d e on_v last (on_far forward e) ((Decides-is_toward v d last).1 c) in
    record {
      from = along.from;
      holds = λ n far q away.
          on_some_line f.lines k h.way q h.way_is (on_some_edge (edges_of h.way) h.here.place e q h.here.is (along.holds n far q away));
    }

-- ---- in a fan
-- an edge whose hand is Line is one of a line
line_of_hand : (f : Figure) (owner : Owner) (e : Seg) (side : Hand) → IsEdgeOf f owner e → HasHand f owner e side → side ≡ hand.Line
    → (k : ℕ) × IsLineEdge f.lines k e
line_of_hand f (Line k) e side edge h line = (k, edge)
line_of_hand f (Ring k r) e side edge h line = absurd ((h edge.area edge.area_is).sided line)

-- whether a section runs along a ray and is one of a line
pub line_or_not : (which : Which) (sections : List Section) (ray : Dir)
    → IsLineAlong which sections ray ⊎ (¬ IsLineAlong which sections ray)
line_or_not which sections ray = by_search (search_for IsOfLine decide sections)
  where
    IsOfLine : Section → Type 0
    IsOfLine s = (s.which ≡ which) × ((s.hand ≡ hand.Line) × IsSameDirection s.dir ray)

    is_line : (side : Hand) → (side ≡ hand.Line) ⊎ (side ≡ hand.Line → ⊥)
    is_line hand.Line = inl refl
    is_line hand.Left = inr (λ e. cc)
    is_line hand.Right = inr (λ e. cc)

    decide : (s : Section) → IsOfLine s ⊎ (IsOfLine s → ⊥)
    decide s = go (same_which s.which which) (is_line s.hand) (same_direction s.dir ray)
      where
        go : (s.which ≡ which) ⊎ (s.which ≡ which → ⊥) → (s.hand ≡ hand.Line) ⊎ (s.hand ≡ hand.Line → ⊥)
            → IsSameDirection s.dir ray ⊎ (IsSameDirection s.dir ray → ⊥) → IsOfLine s ⊎ (IsOfLine s → ⊥)
        go (inl a) (inl b) (inl c) = inl (a, (b, c))
        go (inr n) b c = inr (λ h. n h.0)
        go (inl a) (inr n) c = inr (λ h. n h.1.0)
        go (inl a) (inl b) (inr n) = inr (λ h. n h.1.1)

    by_search : HasSome IsOfLine sections ⊎ ((s : Section) → Contains sections s → IsOfLine s → ⊥)
        → IsLineAlong which sections ray ⊎ (¬ IsLineAlong which sections ray)
    by_search (inl h) = inl (record { s = h.item; there = h.there; which_is = h.holds.0; of_line = h.holds.1.0; along = h.holds.1.1 })
    by_search (inr none) = inr (λ l. none l.s l.there (l.which_is, (l.of_line, l.along)))

module _ (which : Which) (f : Figure) (v : Point) (sections : List Section) (rays : List Dir) (fan : IsFanOf which f v sections rays) where
  -- an edge of a line stands in the figure's list
  line_place : (k : ℕ) (way : List Pt) → IsAtPlace f.lines k way → (place : ℕ) (e : Seg) → IsAtPlace (edges_of way) place e
      → HasPlace (edges_of_figure f) (record { seg = e; owner = Line k })
  line_place k way way_is place e is =
      owner_has_edge f (Line k) e (record { way = way; way_is = way_is; here = record { place = place; is = is } })

  -- in a sector there is no line
  pub no_line_in_sector : (i : ℕ) (d : Direction) → IsInSector rays i d → HoldsAlong (λ q. is_on_line f q ≡ false) v d
  no_line_in_sector i d in_d = lines_off v d f.lines clear
    where
      outside : HasRay rays d → ⊥
      outside r =
          let b = between_rays rays i d (let h = slice_get_within rays r.place r.ray r.is in omega (arith, h)) in_d in
          off_sector rays fan.are_rays.ascending i r.place b.ray b.next r.ray b.ray_is r.is d r.same b.next_is b.within

      clear : (k : ℕ) (way : List Pt) → IsAtPlace f.lines k way → IsClearWay v d way
      clear k way way_is place e is on =
          let p = line_place k way way_is place e is in
          let there = place_of_seg (edges_of_figure f) p.place (record { seg = e; owner = Line k }) p.is in
          let whole = (figure_rays which f v sections rays fan).whole p.place e there on d in
          (λ c. outside (ray_of_any rays d (whole (inl c))), λ c. outside (ray_of_any rays d (whole (inr c))))

  -- nor along a ray on which no line's section runs
  pub no_line_on_ray : (ray : Dir) → ¬ IsLineAlong which sections ray → HoldsAlong (λ q. is_on_line f q ≡ false) v (direction_of ray)
  no_line_on_ray ray none = lines_off v (direction_of ray) f.lines clear
    where
      at_end : (place : ℕ) (k : ℕ) (e : Seg) → IsAtPlace (edges_of_figure f) place (record { seg = e; owner = Line k }) → IsOnEdge e v
          → (forward : Bool) → IsInCone v (direction_of ray) (direction_of ray) (point_of (far_end forward e)) → ⊥
      at_end place k e is on forward c = none (record {
        s = a.1;
        there = (a.0, a.2, a.3);
        which_is = a.4.which_is;
        of_line = hand_line forward a.1.hand a.4.side;
        along =
            one_way v (direction_of a.1.dir) (direction_of ray) (point_of (far_end forward e))
            (section_cone which f edge v on forward away a.1 a.4) c;
      })
        where
          edge : OwnedEdge
          edge = record { seg = e; owner = Line k }

          away : ¬ IsSamePoint (point_of (far_end forward e)) v
          away alike = not_here c (same_sym alike)

          a : Any (IsSectionToward which f edge forward) sections
          a = fan.are_sections.whole place edge is on forward away

      clear : (k : ℕ) (way : List Pt) → IsAtPlace f.lines k way → IsClearWay v (direction_of ray) way
      clear k way way_is place e is on =
          let p = line_place k way way_is place e is in
          let on' = on_true {p = v} {f = e} on in
          (λ c. at_end p.place k e p.is on' false c, λ c. at_end p.place k e p.is on' true c)

  -- and along a ray on which one runs all near points are on a line
  pub line_on_ray : (ray : Dir) → IsLineAlong which sections ray → HoldsAlong (λ q. is_on_line f q ≡ true) v (direction_of ray)
  line_on_ray ray h =
      let x = at_point which f v sections rays fan h.s h.there h.which_is in
      let edge = edge_of_owner f x.edge (record { place = x.place; is = x.edge_is }) in
      let side = line_hand x.forward h.s.hand h.of_line in
      let line = line_of_hand f x.edge.owner x.edge.seg (hand_of_way x.forward h.s.hand) edge x.toward.side side in
      lines_on f v (direction_of ray) line.0 x.edge.seg line.1 x.on x.forward
      (cone_way h.along (section_cone which f x.edge v x.on x.forward x.away h.s x.toward))
