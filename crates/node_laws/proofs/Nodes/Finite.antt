-- The nodes of two figures are finite: their positions, and a point for each two edges that aren't parallel, kept where it is a node.
use Rattle.std.proofs.Common.{◌≡◌, ℕ, ℤ, pos, ◌+ℤ◌, ◌-ℤ◌, ◌*ℤ◌, neg_ℤ, ◌<ℤ◌, Bool, true, false, List, [], ◌∷◌, ◌++◌, map, refl}
use Rattle.std.proofs.Common.{sym, ◌∙◌, ap, subst}
use lib.IntN.{*ℤ-zero}
use Rattle.whole_algebra.proofs.Polynomials.{var, num, minus, ◌⊕◌, ◌⊖◌, ◌⊗◌}
use Rattle.whole_algebra.proofs.Certificates.{same, same_from, less, less_by, vanishing, scaled, ◌⊞◌}
use Rattle.whole_algebra.proofs.Signs.{by_sign, zero_factor, pos_nonzero, pos-*-pos}
use Rattle.plane_laws.proofs.Segments.Mixes.{segment_flip}
use Rattle.plane_laws.proofs.Segments.On.{mix_turn}
use Rattle.plane_laws.proofs.Turns.Turns.{turn_swap}
use Rattle.plane_laws.proofs.Segments.Onto.{turn-mix}
use Rattle.plane_laws.specs.Plane.{Point, IsSamePoint, IsOnSegment, turn}
use Rattle.plane_exact.specs.Places.{point_of}
use Rattle.plane_exact.specs.declared.point.Seg.{Seg}
use Rattle.point_set.specs.declared.figure.Figure.{Figure}
use Rattle.point_set.specs.Lines.{is_at_some}
use Rattle.point_set.specs.Validity.{IsAtPlace, IsOnEdge}
use Rattle.plane_laws.proofs.Segments.Crossings.{only}
use Rattle.point_set.specs.Nodes.{IsNode, position, crossing, segs_of_both}
use Rattle.point_set.specs.Visible.{AreAllNodes}
use Rattle.node_laws.specs.Seen.{LawNodesAreFinite}
use Rattle.figure_laws.proofs.Lists.Items.{some_left, some_right, some_map, AreKept, filtered}
use Rattle.figure_laws.proofs.Lists.Least.{SomeItem, by_place}
use Rattle.node_laws.proofs.Nodes.Decided.{IsOnLineOf, crossing_apart, node_is_decided, node_same, not_an_end}
use Rattle.node_laws.proofs.Nodes.Positions.{positions_of_both, at_some}

-- ---- the common points of two segments
-- a list of points, at one of which each point of both segments is, where they aren't on one line
record HasMeeting (c d p t : Point) : Type 0 where
  points : List Point
  whole : (m : Point) → IsOnSegment c d m → IsOnSegment p t m → ¬ ((turn c d p ≡ pos 0) × (turn c d t ≡ pos 0))
      → SomeItem (IsSamePoint m) points

-- parallel segments with a common point are on one line: y and z are the turns of p and t about the first
level_first : (s r k y z pw tw mw : ℤ) → s *ℤ y +ℤ r *ℤ z ≡ pos 0 → z *ℤ pw -ℤ y *ℤ tw ≡ pos 0 → k *ℤ mw ≡ s *ℤ pw +ℤ r *ℤ tw
    → pos 0 <ℤ k → pos 0 <ℤ mw → y ≡ pos 0
level_first s r k y z pw tw mw e f g hk hm =
    zero_factor (k *ℤ mw) y (pos_nonzero (pos-*-pos hk hm))
    (same_from ((var 2 ⊗ var 7) ⊗ var 3) (num (pos 0)) (s ∷ r ∷ k ∷ y ∷ z ∷ pw ∷ tw ∷ mw ∷ [])
    (scaled (var 3) (same (var 2 ⊗ var 7) (var 0 ⊗ var 5 ⊕ var 1 ⊗ var 6) g)
    ⊞ scaled (var 5) (vanishing (var 0 ⊗ var 3 ⊕ var 1 ⊗ var 4) e)
    ⊞ scaled (minus (var 1)) (vanishing (var 4 ⊗ var 5 ⊖ var 3 ⊗ var 6) f)) refl)

-- then so is the turn of t
level_second : (y z pw tw : ℤ) → z *ℤ pw -ℤ y *ℤ tw ≡ pos 0 → pos 0 <ℤ pw → y ≡ pos 0 → z ≡ pos 0
level_second y z pw tw e hp h =
    zero_factor pw z (pos_nonzero hp)
    (same_from (var 2 ⊗ var 1) (num (pos 0)) (y ∷ z ∷ pw ∷ tw ∷ [])
    (vanishing (var 1 ⊗ var 2 ⊖ var 0 ⊗ var 3) e ⊞ scaled (var 3) (vanishing (var 0) h)) refl)

-- parallel segments need no point
none_parallel : (c d p t : Point) → turn c d t *ℤ p.w -ℤ turn c d p *ℤ t.w ≡ pos 0 → HasMeeting c d p t
none_parallel c d p t e = record { points = []; whole = λ m on held apart. absurd (apart (level m on held)) }
  where
    level : (m : Point) → IsOnSegment c d m → IsOnSegment p t m → (turn c d p ≡ pos 0) × (turn c d t ≡ pos 0)
    level m on held =
        let balance = sym (turn-mix p t m held.s held.t held.mix c d) ∙ ap (λ z. held.mix.times *ℤ z) (mix_turn on.mix)
        ∙ *ℤ-zero held.mix.times in
        let first = level_first held.s held.t held.mix.times (turn c d p) (turn c d t) p.w t.w m.w balance e held.mix.mass held.mix.some
        m.heavy in
        (first, level_second (turn c d p) (turn c d t) p.w t.w e p.heavy first)

-- the mean of p and t under their turns
one_meeting : (c d p t : Point) → pos 0 <ℤ (turn c d t *ℤ p.w -ℤ turn c d p *ℤ t.w) → HasMeeting c d p t
one_meeting c d p t some = record {
  points = q ∷ [];
  whole = λ m on held apart. record {
    place = 0;
    item = q;
    item_is = refl;
    is_so = only p t c d q (record { across = refl; above = refl })
        some m held on;
  };
}
  where
    q : Point
    q = record {
      x = turn c d t *ℤ p.x -ℤ turn c d p *ℤ t.x;
      y = turn c d t *ℤ p.y -ℤ turn c d p *ℤ t.y;
      w = turn c d t *ℤ p.w -ℤ turn c d p *ℤ t.w;
      heavy = some;
    }

-- the ends of the first segment change places
turned_meeting : {c d p t : Point} → HasMeeting d c p t → HasMeeting c d p t
turned_meeting {c} {d} {p} {t} h = record {
  points = h.points;
  whole = λ m on held apart. h.whole m (segment_flip on) held (λ level. apart (back p level.0, back t level.1));
}
  where
    back : (x : Point) → turn d c x ≡ pos 0 → turn c d x ≡ pos 0
    back x e = turn_swap d c x ∙ ap neg_ℤ e

-- by the sign of the difference of their slopes
has_meeting : (c d p t : Point) → HasMeeting c d p t
has_meeting c d p t = by_sign (turn c d t *ℤ p.w -ℤ turn c d p *ℤ t.w) (λ h. turned_meeting (one_meeting d c p t (against h)))
    (none_parallel c d p t) (one_meeting c d p t)
  where
    against : (turn c d t *ℤ p.w -ℤ turn c d p *ℤ t.w) <ℤ pos 0 → pos 0 <ℤ (turn d c t *ℤ p.w -ℤ turn d c p *ℤ t.w)
    against h =
        less_by (num (pos 0)) (var 4 ⊗ var 2 ⊖ var 5 ⊗ var 3) (turn c d t ∷ turn c d p ∷ p.w ∷ t.w ∷ turn d c t ∷ turn d c p ∷ [])
        (λ denied. denied ⊞ less (var 0 ⊗ var 2 ⊖ var 1 ⊗ var 3) (num (pos 0)) h
        ⊞ scaled (var 2) (same (var 4) (minus (var 0)) (turn_swap c d t))
        ⊞ scaled (minus (var 3)) (same (var 5) (minus (var 1)) (turn_swap c d p))) refl

-- ---- of one edge with some, and of some with some
record HasMeetings (IsFirst : Seg → Type 0) (others : List Seg) : Type 0 where
  points : List Point
  whole : (e : Seg) → IsFirst e → (j : ℕ) (f : Seg) → IsAtPlace others j f → (m : Point) → IsOnEdge e m → IsOnEdge f m → ¬ IsOnLineOf e f
      → SomeItem (IsSamePoint m) points

-- of one edge with each of some
meetings_of_one : (e : Seg) (others : List Seg) → HasMeetings (λ g. g ≡ e) others
meetings_of_one e [] = record { points = []; whole = λ g same j f is. cc }
meetings_of_one e (f ∷ others) =
    let here = has_meeting (point_of e.a) (point_of e.b) (point_of f.a) (point_of f.b) in
    let rest = meetings_of_one e others in
    record {
      points = here.points ++ rest.points;
      whole = λ g same.
          by_place f others (λ h. (m : Point) → IsOnEdge g m → IsOnEdge h m → ¬ IsOnLineOf g h
          → SomeItem (IsSamePoint m) (here.points ++ rest.points))
          (subst (λ k. (m : Point) → IsOnEdge k m → IsOnEdge f m → ¬ IsOnLineOf k f
          → SomeItem (IsSamePoint m) (here.points ++ rest.points)) (sym same)
          (λ m on held apart. some_left (IsSamePoint m) here.points rest.points (here.whole m on held apart)))
          (λ j h is m on held apart. some_right (IsSamePoint m) here.points rest.points (rest.whole g same j h is m on held apart));
    }

-- e is at some place of a list
abbrev IsOneOf : List Seg → Seg → Type 0
IsOneOf edges e = (i : ℕ) × IsAtPlace edges i e

-- of each of some edges with each of others
meetings : (edges others : List Seg) → HasMeetings (IsOneOf edges) others
meetings [] others = record { points = []; whole = λ e one. absurd (nowhere e one) }
  where
    nowhere : (e : Seg) → IsOneOf [] e → ⊥
    nowhere e (i, is) = cc
meetings (e ∷ edges) others =
    let here = meetings_of_one e others in
    let rest = meetings edges others in
    record {
      points = here.points ++ rest.points;
      whole = λ g one.
          by_place e edges (λ h. (j : ℕ) (f : Seg) → IsAtPlace others j f → (m : Point) → IsOnEdge h m → IsOnEdge f m → ¬ IsOnLineOf h f
          → SomeItem (IsSamePoint m) (here.points ++ rest.points))
          (λ j f is m on held apart. some_left (IsSamePoint m) here.points rest.points (here.whole e refl j f is m on held apart))
          (λ i h at j f is m on held apart. some_right (IsSamePoint m) here.points rest.points
          (rest.whole h (i, at) j f is m on held apart))
          one.0 g one.1;
    }

-- ---- all nodes
module _ (a b : Figure) where
  -- of all edges of the figures with each other
  crossings : HasMeetings (IsOneOf (segs_of_both a b)) (segs_of_both a b)
  crossings = meetings (segs_of_both a b) (segs_of_both a b)

  -- the positions, and the points where edges meet
  candidates : List Point
  candidates = map point_of (positions_of_both a b) ++ crossings.points

  -- a point at a position is one of them
  at_candidate : (v : Point) → is_at_some v (positions_of_both a b) ≡ true → SomeItem (IsSamePoint v) candidates
  unfolding candidates
  at_candidate v at =
      some_left (IsSamePoint v) (map point_of (positions_of_both a b)) crossings.points
      (some_map (IsSamePoint v) point_of (positions_of_both a b) (at_some v (positions_of_both a b) at))

  -- each node is one of them
  node_is_candidate : (v : Point) → IsNode a b v → SomeItem (IsSamePoint v) candidates
  unfolding candidates
  node_is_candidate v (position at) = at_candidate v at
  node_is_candidate v (crossing c) = go (is_at_some v (positions_of_both a b)) refl
    where
      go : (t : Bool) → is_at_some v (positions_of_both a b) ≡ t → SomeItem (IsSamePoint v) candidates
      go true at = at_candidate v at
      go false at =
          some_right (IsSamePoint v) (map point_of (positions_of_both a b)) crossings.points
          (crossings.whole c.e (c.i, c.e_is) c.j c.f c.f_is v c.meet.on_e c.meet.on_f
          (crossing_apart v (segs_of_both a b) (segs_of_both a b) (not_an_end a b v at) (not_an_end a b v at) c))

  -- those that are nodes
  kept_nodes : (nodes : List Point) × AreKept (IsNode a b) candidates nodes
  kept_nodes = filtered (IsNode a b) (node_is_decided a b) candidates

  -- they are all nodes
  all_nodes : (nodes : List Point) × AreAllNodes a b nodes
  all_nodes = (kept_nodes.0, record { only = kept_nodes.1.only; whole = λ v node. whole v node (node_is_candidate v node) })
    where
      whole : (v : Point) → IsNode a b v → SomeItem (IsSamePoint v) candidates → (place : ℕ) × (w : Point)
          × IsAtPlace kept_nodes.0 place w × IsSamePoint v w
      whole v node s =
          let k = kept_nodes.1.whole s.place s.item s.item_is (node_same a b s.is_so node) in
          (k.place, k.item, k.item_is, subst (λ z. IsSamePoint v z) (sym k.is_so) s.is_so)

-- all nodes of two figures stand in a finite list
pub nodes_are_finite : LawNodesAreFinite
nodes_are_finite a b = all_nodes a b
