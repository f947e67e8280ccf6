-- The sections at a point that a pass over the places of the edges near it adds: exactly those of the figure, each once.
use Rattle.std.proofs.Common.{◌≡◌, ◌⊎◌, inl, inr, ℕ, zero, suc, ◌+◌, ◌-◌, ◌<◌, ◌≤◌, Bool, true, false, List, [], ◌∷◌, ◌++◌, length, take}
use Rattle.std.proofs.Common.{get_or, append_assoc, append-nil, ap, refl, sym, ◌∙◌, subst, arith}
use Rattle.std.specs.List.{All, Any}
use Rattle.std.specs.Prelude.{slice_get, None}
use Rattle.std.proofs.lemmas.Bool.{cases_lt}
use Rattle.std.proofs.lemmas.Bool.Decides.{not_from_Decides}
use Rattle.std.proofs.lemmas.List.{take_more, take_all}
use Rattle.std.proofs.lemmas.List.Elements.{All-nil, All-cons, All-append, All-weaker}
use Rattle.std.proofs.lemmas.List.Kept.{AllPairs-from_increasing}
use Rattle.std.proofs.lemmas.Option.{slice_get_cases, slice_get_within, get_or_from_slice_get}
use Rattle.im_matrix.specs.declared.Which.{Which}
use Rattle.im_matrix.specs.declared.Which.TheVariants.{A, B}
use Rattle.plane_laws.proofs.Points.Same.{same_refl, Decides-is_same_point}
use Rattle.plane_laws.specs.Plane.{Point, IsSamePoint, is_same_point}
use Rattle.plane_exact.specs.NodePoints.{point_at}
use Rattle.plane_exact.specs.Places.{point_of}
use Rattle.plane_exact.specs.Windows.{IsLeastWindow}
use Rattle.plane_exact.specs.declared.node.Node.{Node}
use Rattle.plane_exact.specs.declared.window.Window.{Window}
use Rattle.point_set.specs.declared.edge.Edge.{Edge}
use Rattle.point_set.specs.declared.figure.Figure.{Figure}
use Rattle.point_set.specs.Edges.{OwnedEdge, edges_of_figure, HasHand, far_end, ArePlacesIn}
use Rattle.point_set.specs.Validity.{IsAtPlace, IsOnEdge}
use Rattle.figure_laws.proofs.Edges.Owners.{HasPlace}
use Rattle.figure_laws.proofs.Lists.Items.{Each}
use Rattle.figure_laws.proofs.Lists.Places.{some_same}
use Rattle.figure_laws.proofs.Lists.Search.{any_left, any_right}
use Rattle.node_laws.proofs.Nodes.Decided.{on_edge_or_not}
use Rattle.fan_order.specs.declared.section.Section.{Section}
use Rattle.fan_order.specs.Rays.{IsShort}
use Rattle.fan_order.specs.Sections.{AreToward, AreSectionsOf, IsSectionAt, IsSectionToward}
use Rattle.fan_laws.proofs.Fans.Added.{section_toward}
use Rattle.relate_core.specs.Tables.{AreTowardEnd, AreOfEdge, AreOfEdges, AreEachOnce, AddsSectionsAt, HasItsSections}
use Rattle.node_table.specs.Tables.{entry}
use Rattle.relate_core.proofs.FigureEdges.{HasPlaceIn, near_place}

module _ (which : Which) (f : Figure) (v : Point) where
  -- ---- of one edge
  -- what is added towards an end of an edge that holds v
  toward_end : (edge : Edge) → HasHand f edge.owner edge.seg edge.hand → IsOnEdge edge.seg v → (forward : Bool) (more : List Section)
      → AreToward which edge v forward more → AreTowardEnd which f v (record { seg = edge.seg; owner = edge.owner }) forward more
  toward_end edge side on forward more are = record {
    one = λ _ away. let h = are.away away in (h.0, h.1, section_toward which f edge side forward h.0 h.2);
    none_at_end = are.here;
    none_off = λ off. absurd (off on);
  }

  -- what is added for it
  pub of_edge : (edge : Edge) → HasHand f edge.owner edge.seg edge.hand → IsOnEdge edge.seg v → (more : List Section)
      → AreSectionsOf which edge v more → AreOfEdge which f v (record { seg = edge.seg; owner = edge.owner }) more
  of_edge edge side on more are = record {
    ahead = are.ahead;
    back = are.back;
    parts = are.parts;
    are_ahead = toward_end edge side on true are.ahead are.are_ahead;
    are_back = toward_end edge side on false are.back are.are_back;
  }

  -- an edge that doesn't hold v has no section there
  none_toward : (edge : OwnedEdge) → ¬ IsOnEdge edge.seg v → (forward : Bool) → AreTowardEnd which f v edge forward []
  none_toward edge off forward = record { one = λ on away. absurd (off on); none_at_end = λ _. refl; none_off = λ _. refl }

  -- towards neither end
  pub none_of_edge : (edge : OwnedEdge) → ¬ IsOnEdge edge.seg v → AreOfEdge which f v edge []
  none_of_edge edge off = record {
    ahead = [];
    back = [];
    parts = refl;
    are_ahead = none_toward edge off true;
    are_back = none_toward edge off false;
  }

  -- ---- of edges in a row
  -- one edge more behind them
  one_edge : (edges : List OwnedEdge) (edge : OwnedEdge) (more last : List Section) → AreOfEdges which f v edges more
      → AreOfEdge which f v edge last → AreOfEdges which f v (edges ++ edge ∷ []) (more ++ last)
  one_edge [] edge more last h k =
      (last, [], ap (λ (xs : List Section). xs ++ last) h ∙ sym (append-nil last), k, refl)
  one_edge (x ∷ edges) edge more last h k = (
    h.0,
    h.1 ++ last,
    ap (λ (xs : List Section). xs ++ last) h.2 ∙ append_assoc h.0 h.1 last,
    h.3,
    one_edge edges edge h.1 last h.4 k,
  )

  -- the first edges and one more
  first_edges : (edges : List OwnedEdge) (k : ℕ) (edge : OwnedEdge) → IsAtPlace edges k edge → (more last : List Section)
      → AreOfEdges which f v (take k edges) more → AreOfEdge which f v edge last → AreOfEdges which f v (take (k + 1) edges) (more ++ last)
  first_edges edges k edge is more last h here =
      subst (λ (xs : List OwnedEdge). AreOfEdges which f v xs (more ++ last))
      (sym (take_more edges k edge (slice_get_within edges k edge is)
      ∙ ap (λ (x : OwnedEdge). take k edges ++ x ∷ []) (get_or_from_slice_get edges k edge edge is)))
      (one_edge (take k edges) edge more last h here)

  -- and some more that don't hold v
  first_off : (edges : List OwnedEdge) (k j : ℕ)
      → ((q : ℕ) (edge : OwnedEdge) → k ≤ q → q < k + j → IsAtPlace edges q edge → ¬ IsOnEdge edge.seg v)
      → (more : List Section) → AreOfEdges which f v (take k edges) more → AreOfEdges which f v (take (k + j) edges) more
  first_off edges k zero off more h = subst (λ (n : ℕ). AreOfEdges which f v (take n edges) more) (omega arith) h
  first_off edges k (suc j) off more h =
      subst (λ (n : ℕ). AreOfEdges which f v (take n edges) more) (omega arith)
      (go (slice_get_cases edges (k + j)).1
      (first_off edges k j (λ q edge from below is. off q edge from (omega (arith, below)) is) more h))
    where
      go : ((x : OwnedEdge) × (k + j < length edges) × IsAtPlace edges (k + j) x × (get_or edges (k + j) x ≡ x))
          ⊎ ((length edges ≤ k + j) × (slice_get edges (k + j) ≡ None))
          → AreOfEdges which f v (take (k + j) edges) more → AreOfEdges which f v (take ((k + j) + 1) edges) more
      go (inl x) so_far =
          subst (λ (xs : List Section). AreOfEdges which f v (take ((k + j) + 1) edges) xs) (append-nil more)
          (first_edges edges (k + j) x.0 x.2 more [] so_far (none_of_edge x.0 (off (k + j) x.0 (omega arith) (omega arith) x.2)))
      go (inr past) so_far =
          let long = past.0 in
          subst (λ (xs : List OwnedEdge). AreOfEdges which f v xs more)
          (take_all (k + j) edges long ∙ sym (take_all ((k + j) + 1) edges (omega (arith, long)))) so_far

  -- ---- as the places are passed
  -- the sections of the edges at the first k places
  pub record HasSectionsBefore (places : List ℕ) (k : ℕ) (old new : List Section) : Type 0 where
    pub next : ℕ
    pub more : List Section
    pub new_is : new ≡ old ++ more
    pub are : AreOfEdges which f v (take next (edges_of_figure f)) more
    pub behind : (i : ℕ) → i < k → get_or places i 0 < next
    pub ahead : (i : ℕ) → k ≤ i → i < length places → next ≤ get_or places i 0
    pub short : All (λ s. IsShort s.dir) old → All (λ s. IsShort s.dir) new

  -- at first there are none
  pub no_sections : (places : List ℕ) (old : List Section) → HasSectionsBefore places 0 old old
  no_sections places old = record {
    next = 0;
    more = [];
    new_is = sym (append-nil old);
    are = refl;
    behind = λ i below. absurd (omega (arith, below));
    ahead = λ i from below. omega arith;
    short = λ h. h;
  }

  module _ (w : Window) (round : IsLeastWindow (IsSamePoint v) w) (places : List ℕ) (near : ArePlacesIn w (edges_of_figure f) places)
      (k : ℕ) (old new : List Section) (h : HasSectionsBefore places k old new) where
    -- an edge whose place was passed over, up to some place, doesn't hold v
    passed_over : (limit : ℕ) → ((i : ℕ) → k ≤ i → i < length places → limit ≤ get_or places i 0) → (q : ℕ) (edge : OwnedEdge) → h.next ≤ q
        → q < limit → IsAtPlace (edges_of_figure f) q edge → ¬ IsOnEdge edge.seg v
    passed_over limit beyond q edge from below is on = go (cases_lt p.index k)
      where
        p : HasPlaceIn places q
        p = near_place f w places near q edge is v on (round.holds v (same_refl v))

        go : (p.index < k) ⊎ (k ≤ p.index) → ⊥
        go (inl l) = let behind = h.behind p.index l in absurd (omega (arith, behind, p.reads 0, from))
        go (inr l) = let beyond = beyond p.index l p.below in absurd (omega (arith, beyond, p.reads 0, below))

    -- the edge at the next place
    module _ (within : k < length places) (edge : OwnedEdge) (is : IsAtPlace (edges_of_figure f) (get_or places k 0) edge)
        (last : List Section) (here : AreOfEdge which f v edge last) where
      place : ℕ
      place = get_or places k 0

      after : (i : ℕ) → k < i → i < length places → place < get_or places i 0
      unfolding place
      after i later below = AllPairs-from_increasing places near.ascending k i 0 later below

      from_here : (i : ℕ) → k ≤ i → i < length places → place ≤ get_or places i 0
      unfolding place
      from_here i from below = go (cases_lt k i)
        where
          go : (k < i) ⊎ (i ≤ k) → get_or places k 0 ≤ get_or places i 0
          go (inl l) = let less = after i l below in omega (arith, less)
          go (inr l) = let same : k ≡ i = omega (arith, l, from) in
              subst (λ (j : ℕ). get_or places k 0 ≤ get_or places j 0) same (omega arith)

      so_far : AreOfEdges which f v (take (place + 1) (edges_of_figure f)) (h.more ++ last)
      unfolding place
      so_far =
          first_edges (edges_of_figure f) place edge is h.more last
          (subst (λ (n : ℕ). AreOfEdges which f v (take n (edges_of_figure f)) h.more)
          (let reach = h.ahead k (omega arith) within in omega (arith, reach))
          (first_off (edges_of_figure f) h.next (place - h.next)
          (λ q z from below at.
          let reach = h.ahead k (omega arith) within in
          passed_over place from_here q z from (omega (arith, below, reach)) at)
          h.more h.are))
          here

      -- is passed with its sections
      pub sections_more : (newest : List Section) → newest ≡ new ++ last
          → (All (λ s. IsShort s.dir) new → All (λ s. IsShort s.dir) newest) → HasSectionsBefore places (k + 1) old newest
      unfolding place
      sections_more newest e short = record {
        next = place + 1;
        more = h.more ++ last;
        new_is = e ∙ ap (λ (xs : List Section). xs ++ last) h.new_is ∙ append_assoc old h.more last;
        are = so_far;
        behind = λ i below. by_index i below (cases_lt i k);
        ahead = λ i from below. (let less = after i (omega (arith, from)) below in omega (arith, less));
        short = λ s. short (h.short s);
      }
        where
          by_index : (i : ℕ) → i < k + 1 → (i < k) ⊎ (k ≤ i) → get_or places i 0 < place + 1
          by_index i below (inl l) =
              let behind = h.behind i l in
              let reach = h.ahead k (omega arith) within in
              omega (arith, behind, reach)
          by_index i below (inr l) =
              let same : k ≡ i = omega (arith, l, below) in
              subst (λ (j : ℕ). get_or places j 0 < place + 1) same (omega arith)

    -- past the last place these are all
    pub all_sections : length places ≤ k → AddsSectionsAt which f v old new
    all_sections past = record { more = h.more; are = are; new_is = h.new_is }
      where
        count : ℕ
        count = length (edges_of_figure f)

        are : AreEachOnce which f v h.more
        are =
            subst (λ (edges : List OwnedEdge). AreOfEdges which f v edges h.more)
            (take_all (h.next + (count - h.next)) (edges_of_figure f) (omega arith))
            (first_off (edges_of_figure f) h.next (count - h.next)
            (λ q z from below at.
            passed_over (h.next + (count - h.next)) (λ i later within. absurd (omega (arith, past, later, within))) q z from below at)
            h.more h.are)

  -- ---- what they are
  -- each of them is a section of the figure at v
  only_toward : (place : ℕ) (edge : OwnedEdge) → IsAtPlace (edges_of_figure f) place edge → (forward : Bool) (sections : List Section)
      → AreTowardEnd which f v edge forward sections → All (IsSectionAt which f v) sections
  only_toward place edge is forward sections h = go (on_edge_or_not v edge.seg)
    where
      end : Point
      end = point_of (far_end forward edge.seg)

      none : sections ≡ [] → All (IsSectionAt which f v) sections
      none e = subst (λ (xs : List Section). All (IsSectionAt which f v) xs) (sym e) (All-nil (IsSectionAt which f v))

      by_end : IsOnEdge edge.seg v → (b : Bool) → is_same_point end v ≡ b → All (IsSectionAt which f v) sections
      by_end on true e = none (h.none_at_end ((Decides-is_same_point end v).0 e))
      by_end on false e =
          let away = not_from_Decides (is_same_point end v) (Decides-is_same_point end v) e in
          let one = h.one on away in
          subst (λ (xs : List Section). All (IsSectionAt which f v) xs) (sym one.1)
          (All-cons (IsSectionAt which f v) one.0 []
          (record { place = place; edge = edge; edge_is = is; on = on; forward = forward; away = away; toward = one.2 })
          (All-nil (IsSectionAt which f v)))

      go : IsOnEdge edge.seg v ⊎ (¬ IsOnEdge edge.seg v) → All (IsSectionAt which f v) sections
      go (inl on) = by_end on (is_same_point end v) refl
      go (inr off) = none (h.none_off off)

  -- of edges in a row
  only_of_edges : (edges : List OwnedEdge) → Each (HasPlace (edges_of_figure f)) edges → (sections : List Section)
      → AreOfEdges which f v edges sections → All (IsSectionAt which f v) sections
  only_of_edges [] places sections h =
      subst (λ (xs : List Section). All (IsSectionAt which f v) xs) (sym h) (All-nil (IsSectionAt which f v))
  only_of_edges (edge ∷ edges) places sections h =
      let first = h.3 in
      let p = places 0 edge refl in
      subst (λ (xs : List Section). All (IsSectionAt which f v) xs) (sym (h.2 ∙ ap (λ (xs : List Section). xs ++ h.1) first.parts))
      (All-append (IsSectionAt which f v) (first.ahead ++ first.back) h.1
      (All-append (IsSectionAt which f v) first.ahead first.back (only_toward p.place edge p.is true first.ahead first.are_ahead)
      (only_toward p.place edge p.is false first.back first.are_back))
      (only_of_edges edges (λ i z is. places (suc i) z is) h.1 h.4))

  -- so it is with those of all edges
  pub each_only : (sections : List Section) → AreEachOnce which f v sections → All (IsSectionAt which f v) sections
  each_only sections h = only_of_edges (edges_of_figure f) (λ i edge is. record { place = i; is = is }) sections h

  -- and there is one for each edge that holds v and each end of it that isn't v
  any_toward : (edge : OwnedEdge) → IsOnEdge edge.seg v → (forward : Bool) → ¬ IsSamePoint (point_of (far_end forward edge.seg)) v
      → (sections : List Section) → AreTowardEnd which f v edge forward sections → Any (IsSectionToward which f edge forward) sections
  any_toward edge on forward away sections h =
      let one = h.one on away in
      subst (λ (xs : List Section). Any (IsSectionToward which f edge forward) xs) (sym one.1) (0, one.0, omega arith, refl, one.2)

  -- among those of the edge
  any_of_edge : (edge : OwnedEdge) → IsOnEdge edge.seg v → (forward : Bool) → ¬ IsSamePoint (point_of (far_end forward edge.seg)) v
      → (sections : List Section) → AreOfEdge which f v edge sections → Any (IsSectionToward which f edge forward) sections
  any_of_edge edge on true away sections h =
      subst (λ (xs : List Section). Any (IsSectionToward which f edge true) xs) (sym h.parts)
      (any_left (IsSectionToward which f edge true) h.ahead h.back (any_toward edge on true away h.ahead h.are_ahead))
  any_of_edge edge on false away sections h =
      subst (λ (xs : List Section). Any (IsSectionToward which f edge false) xs) (sym h.parts)
      (any_right (IsSectionToward which f edge false) h.ahead h.back (any_toward edge on false away h.back h.are_back))

  -- among those of edges in a row
  whole_of_edges : (edges : List OwnedEdge) (place : ℕ) (edge : OwnedEdge) → IsAtPlace edges place edge → IsOnEdge edge.seg v
      → (forward : Bool) → ¬ IsSamePoint (point_of (far_end forward edge.seg)) v → (sections : List Section)
      → AreOfEdges which f v edges sections → Any (IsSectionToward which f edge forward) sections
  whole_of_edges [] place edge is on forward away sections h = cc
  whole_of_edges (x ∷ edges) zero edge is on forward away sections h =
      subst (λ (xs : List Section). Any (IsSectionToward which f edge forward) xs) (sym h.2)
      (any_left (IsSectionToward which f edge forward) h.0 h.1
      (any_of_edge edge on forward away h.0 (subst (λ (z : OwnedEdge). AreOfEdge which f v z h.0) (some_same is) h.3)))
  whole_of_edges (x ∷ edges) (suc place) edge is on forward away sections h =
      subst (λ (xs : List Section). Any (IsSectionToward which f edge forward) xs) (sym h.2)
      (any_right (IsSectionToward which f edge forward) h.0 h.1 (whole_of_edges edges place edge is on forward away h.1 h.4))

  -- so all edges have theirs
  pub each_whole : (sections : List Section) → AreEachOnce which f v sections → (place : ℕ) (edge : OwnedEdge)
      → IsAtPlace (edges_of_figure f) place edge → IsOnEdge edge.seg v → (forward : Bool)
      → ¬ IsSamePoint (point_of (far_end forward edge.seg)) v → Any (IsSectionToward which f edge forward) sections
  each_whole sections h place edge is on forward away =
      whole_of_edges (edges_of_figure f) place edge is on forward away sections h

-- ---- of two figures
-- sections of the first figure, and then of the second, are those of both
pub both_sections : (a b : Figure) (n : Node) (mid new : List Section) → AddsSectionsAt A a (point_at n) [] mid
    → AddsSectionsAt B b (point_at n) mid new → All (λ s. IsShort s.dir) new → HasItsSections a b (entry n new)
both_sections a b n mid new h k short = record {
  of_a = record {
    only = subst (λ (xs : List Section). All (λ s. s.which ≡ A → IsSectionAt A a v s) xs) (sym parts)
        (All-append (λ s. s.which ≡ A → IsSectionAt A a v s) h.more k.more
        (All-weaker (IsSectionAt A a v) (λ s. s.which ≡ A → IsSectionAt A a v s) (λ s at is. at) h.more (each_only A a v h.more h.are))
        (All-weaker (IsSectionAt B b v) (λ s. s.which ≡ A → IsSectionAt A a v s)
        (λ s at is. let both = sym at.toward.which_is ∙ is in cc) k.more (each_only B b v k.more k.are)));
    whole = λ place edge is on forward away.
        subst (λ (xs : List Section). Any (IsSectionToward A a edge forward) xs) (sym parts)
        (any_left (IsSectionToward A a edge forward) h.more k.more (each_whole A a v h.more h.are place edge is on forward away));
  };
  of_b = record {
    only = subst (λ (xs : List Section). All (λ s. s.which ≡ B → IsSectionAt B b v s) xs) (sym parts)
        (All-append (λ s. s.which ≡ B → IsSectionAt B b v s) h.more k.more
        (All-weaker (IsSectionAt A a v) (λ s. s.which ≡ B → IsSectionAt B b v s)
        (λ s at is. let both = sym at.toward.which_is ∙ is in cc) h.more (each_only A a v h.more h.are))
        (All-weaker (IsSectionAt B b v) (λ s. s.which ≡ B → IsSectionAt B b v s) (λ s at is. at) k.more (each_only B b v k.more k.are)));
    whole = λ place edge is on forward away.
        subst (λ (xs : List Section). Any (IsSectionToward B b edge forward) xs) (sym parts)
        (any_right (IsSectionToward B b edge forward) h.more k.more (each_whole B b v k.more k.are place edge is on forward away));
  };
  once = record { of_a = h.more; of_b = k.more; parts = parts; are_of_a = h.are; are_of_b = k.are };
  short = short;
}
  where
    v : Point
    v = point_at n

    parts : new ≡ h.more ++ k.more
    parts = k.new_is ∙ ap (λ (xs : List Section). xs ++ k.more) h.new_is
