-- Edges that cross, and edges that run from a point, in two lists put together; so a few node is a node. A few node is said of the
-- point, and not of its triple.
use Rattle.std.proofs.Common.{◌≡◌, ◌⊎◌, inl, inr, ℕ, zero, suc, true, List, [], ◌∷◌, ◌++◌, sym, ◌∙◌}
use Rattle.plane_laws.specs.Plane.{Point, IsSamePoint}
use Rattle.plane_laws.specs.Directions.{Direction}
use Rattle.plane_laws.specs.Along.{IsInCone}
use Rattle.plane_exact.specs.Places.{point_of}
use Rattle.plane_exact.specs.declared.point.Seg.{Seg}
use Rattle.point_set.specs.declared.figure.Figure.{Figure}
use Rattle.point_set.specs.Nodes.{IsNode, IsFewNode, IsCrossing, IsOnlyCommonPoint, RunsFrom, all_positions, segs_of}
use Rattle.point_set.specs.Nodes.{position, crossing, between, of_a, of_b}
use Rattle.point_set.specs.Rings.{is_on_edge}
use Rattle.point_set.specs.Validity.{IsAtPlace}
use Rattle.plane_laws.proofs.Points.Same.{same_refl, same_trans}
use Rattle.plane_laws.proofs.Segments.Mixes.{segment_same}
use Rattle.figure_laws.proofs.Lists.Items.{some_left, some_right, some_later}
use Rattle.figure_laws.proofs.Lists.Least.{SomeItem}
use Rattle.figure_laws.proofs.Points.Same.{is_at_some-same}

-- ---- items of two lists
-- an item of both lists stands in the first or in the second
split_at :
    {X : Type 0} (IsSo : X → Type 0) (xs ys : List X) (i : ℕ) (x : X) → IsAtPlace (xs ++ ys) i x → IsSo x
    → SomeItem IsSo xs ⊎ SomeItem IsSo ys
split_at IsSo [] ys i x is h = inr (record { place = i; item = x; item_is = is; is_so = h })
split_at IsSo (y ∷ xs) ys zero x is h = inl (record { place = 0; item = x; item_is = is; is_so = h })
split_at IsSo (y ∷ xs) ys (suc i) x is h = by_part (split_at IsSo xs ys i x is h)
  where
    by_part : SomeItem IsSo xs ⊎ SomeItem IsSo ys → SomeItem IsSo (y ∷ xs) ⊎ SomeItem IsSo ys
    by_part (inl k) = inl (some_later y k)
    by_part (inr k) = inr k

-- some item of both lists is one of the first or of the second
some_split : {X : Type 0} (IsSo : X → Type 0) (xs ys : List X) → SomeItem IsSo (xs ++ ys) → SomeItem IsSo xs ⊎ SomeItem IsSo ys
some_split IsSo xs ys h = split_at IsSo xs ys h.place h.item h.item_is h.is_so

-- so it is one of both in the other order
some_turned : {X : Type 0} (IsSo : X → Type 0) (xs ys : List X) → SomeItem IsSo (xs ++ ys) → SomeItem IsSo (ys ++ xs)
some_turned IsSo xs ys h = by_part (some_split IsSo xs ys h)
  where
    by_part : SomeItem IsSo xs ⊎ SomeItem IsSo ys → SomeItem IsSo (ys ++ xs)
    by_part (inl k) = some_right IsSo ys xs k
    by_part (inr k) = some_left IsSo ys xs k

-- ---- crossings
-- v is the only common point of e and some edge of a list
abbrev pub HasPartner : Point → List Seg → Seg → Type 0
HasPartner v others e = SomeItem (λ f. IsOnlyCommonPoint e f v) others

-- two edges whose only common point is v, as items of two lists
abbrev pub HasCrossing : Point → List Seg → List Seg → Type 0
HasCrossing v edges others = SomeItem (HasPartner v others) edges

-- they cross
pub crossing_of : {edges others : List Seg} {v : Point} → HasCrossing v edges others → IsCrossing edges others v
crossing_of s = record {
  i = s.place;
  j = s.is_so.place;
  e = s.item;
  f = s.is_so.item;
  e_is = s.item_is;
  f_is = s.is_so.item_is;
  meet = s.is_so.is_so;
}

-- and back
items_of : {edges others : List Seg} {v : Point} → IsCrossing edges others v → HasCrossing v edges others
items_of c = record {
  place = c.i;
  item = c.e;
  item_is = c.e_is;
  is_so = record { place = c.j; item = c.f; item_is = c.f_is; is_so = c.meet };
}

-- a crossing, with the second edge first
pub crossing_turned : {edges others : List Seg} {v : Point} → IsCrossing edges others v → IsCrossing others edges v
crossing_turned c = record {
  i = c.j;
  j = c.i;
  e = c.f;
  f = c.e;
  e_is = c.f_is;
  f_is = c.e_is;
  meet = record { on_e = c.meet.on_f; on_f = c.meet.on_e; only = λ p on_f on_e. c.meet.only p on_e on_f };
}

-- two edges of two lists cross: an edge of the one and an edge of the other, or two of the first, or two of the second
pub crossing_split :
    (xs ys : List Seg) (v : Point) → IsCrossing (xs ++ ys) (xs ++ ys) v
    → IsCrossing xs ys v ⊎ (IsCrossing xs xs v ⊎ IsCrossing ys ys v)
crossing_split xs ys v c = by_first (some_split (HasPartner v (xs ++ ys)) xs ys (items_of c))
  where
    Parted : Type 0
    Parted = IsCrossing xs ys v ⊎ (IsCrossing xs xs v ⊎ IsCrossing ys ys v)

    joined : (edges others : List Seg) (s : HasCrossing v edges (xs ++ ys)) → HasPartner v others s.item → IsCrossing edges others v
    joined edges others s other = crossing_of (record { place = s.place; item = s.item; item_is = s.item_is; is_so = other })

    of_first : (s : HasCrossing v xs (xs ++ ys)) → HasPartner v xs s.item ⊎ HasPartner v ys s.item → Parted
    of_first s (inl other) = inr (inl (joined xs xs s other))
    of_first s (inr other) = inl (joined xs ys s other)

    of_second : (s : HasCrossing v ys (xs ++ ys)) → HasPartner v xs s.item ⊎ HasPartner v ys s.item → Parted
    of_second s (inl other) = inl (crossing_turned (joined ys xs s other))
    of_second s (inr other) = inr (inr (joined ys ys s other))

    by_first : HasCrossing v xs (xs ++ ys) ⊎ HasCrossing v ys (xs ++ ys) → Parted
    by_first (inl s) = of_first s (some_split (λ f. IsOnlyCommonPoint s.item f v) xs ys s.is_so)
    by_first (inr s) = of_second s (some_split (λ f. IsOnlyCommonPoint s.item f v) xs ys s.is_so)

-- a crossing of edges that are all among others is a crossing of those
wider :
    {edges others all : List Seg} {v : Point} → ((IsSo : Seg → Type 0) → SomeItem IsSo edges → SomeItem IsSo all)
    → ((IsSo : Seg → Type 0) → SomeItem IsSo others → SomeItem IsSo all) → IsCrossing edges others v → IsCrossing all all v
wider {edges} {others} {all} {v} first second c =
    let s = items_of c in
    crossing_of (first (HasPartner v all) (record {
      place = s.place;
      item = s.item;
      item_is = s.item_is;
      is_so = second (λ f. IsOnlyCommonPoint s.item f v) s.is_so;
    }))

-- a few node is a node
pub few_is_node : {a b : Figure} {v : Point} → IsFewNode a b v → IsNode a b v
few_is_node (position at) = position at
few_is_node {a} {b} (between c) =
    crossing (wider (λ IsSo. some_left IsSo (segs_of a) (segs_of b)) (λ IsSo. some_right IsSo (segs_of a) (segs_of b)) c)
few_is_node {a} {b} (of_a some c) =
    crossing (wider (λ IsSo. some_left IsSo (segs_of a) (segs_of b)) (λ IsSo. some_left IsSo (segs_of a) (segs_of b)) c)
few_is_node {a} {b} (of_b some c) =
    crossing (wider (λ IsSo. some_right IsSo (segs_of a) (segs_of b)) (λ IsSo. some_right IsSo (segs_of a) (segs_of b)) c)

-- ---- edges that run from a point
-- an edge holds v and has an end in a direction from v
abbrev Runs : Point → Direction → Seg → Type 0
Runs v d e = (is_on_edge v e ≡ true) × (IsInCone v d d (point_of e.a) ⊎ IsInCone v d d (point_of e.b))

-- some edge of a list runs so
some_run : {v : Point} {edges : List Seg} {d : Direction} → RunsFrom v edges d → SomeItem (Runs v d) edges
some_run r = record { place = r.place; item = r.edge; item_is = r.edge_is; is_so = (r.holds, r.leads) }

-- and back
run_of : {v : Point} {edges : List Seg} {d : Direction} → SomeItem (Runs v d) edges → RunsFrom v edges d
run_of s = record { place = s.place; edge = s.item; edge_is = s.item_is; holds = s.is_so.0; leads = s.is_so.1 }

-- of two lists, an edge of the first runs or one of the second
pub run_split : (v : Point) (xs ys : List Seg) (d : Direction) → RunsFrom v (xs ++ ys) d → RunsFrom v xs d ⊎ RunsFrom v ys d
run_split v xs ys d r = by_part (some_split (Runs v d) xs ys (some_run r))
  where
    by_part : SomeItem (Runs v d) xs ⊎ SomeItem (Runs v d) ys → RunsFrom v xs d ⊎ RunsFrom v ys d
    by_part (inl s) = inl (run_of s)
    by_part (inr s) = inr (run_of s)

-- so in the other order too
pub run_turned : (v : Point) (xs ys : List Seg) (d : Direction) → RunsFrom v (xs ++ ys) d → RunsFrom v (ys ++ xs) d
run_turned v xs ys d r = run_of (some_turned (Runs v d) xs ys (some_run r))

-- ---- they are said of the point
-- an only common point, in another triple
only_same : {e f : Seg} {v w : Point} → IsSamePoint v w → IsOnlyCommonPoint e f v → IsOnlyCommonPoint e f w
only_same {e} {f} same c = record {
  on_e = segment_same (same_refl (point_of e.a)) (same_refl (point_of e.b)) same c.on_e;
  on_f = segment_same (same_refl (point_of f.a)) (same_refl (point_of f.b)) same c.on_f;
  only = λ q on_e on_f. same_trans (c.only q on_e on_f) same;
}

-- a crossing too
crossing_same : {edges others : List Seg} {v w : Point} → IsSamePoint v w → IsCrossing edges others v → IsCrossing edges others w
crossing_same same c =
    record { i = c.i; j = c.j; e = c.e; f = c.f; e_is = c.e_is; f_is = c.f_is; meet = only_same same c.meet }

-- and so a few node
pub few_same : (a b : Figure) {v w : Point} → IsSamePoint v w → IsFewNode a b v → IsFewNode a b w
few_same a b same (position at) = position (sym (is_at_some-same same (all_positions a ++ all_positions b)) ∙ at)
few_same a b same (between c) = between (crossing_same same c)
few_same a b same (of_a some c) = of_a some (crossing_same same c)
few_same a b same (of_b some c) = of_b some (crossing_same same c)
