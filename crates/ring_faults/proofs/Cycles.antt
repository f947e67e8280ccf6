-- The cycles of an area's links are the cycles of its touching rings.
use Rattle.std.proofs.Common.{◌≡◌, ◌≢◌, ◌↔◌, ℕ, List, [], ◌∷◌, refl, sym, ◌∙◌, subst}
use Rattle.std.specs.List.{All}
use Rattle.std.proofs.lemmas.List.Elements.{All-nil, All-cons, All-head, All-tail, All-contains}
use Rattle.plane_exact.specs.NodePoints.{point_at}
use Rattle.plane_laws.specs.Plane.{Point, IsSamePoint}
use Rattle.plane_exact.specs.declared.node.Node.{Node}
use Rattle.plane_exact.proofs.Laws.{one_node}
use Rattle.plane_laws.proofs.Points.Same.{same_sym, same_trans}
use Rattle.point_set.specs.declared.figure.Area.{Area}
use Rattle.point_set.specs.Validity.{IsOnRingAt, Touch, IsTouchChain, AreApart, HasTouchCycle}
use Rattle.ring_faults.specs.declared.link.Link.{Link}
use Rattle.ring_faults.specs.Links.{IsLinked, Step, IsApartFrom, AreStepsApart, IsStepChain, HasCycle}
use Rattle.ring_faults.proofs.NodesApart.{node_point}
use Rattle.ring_faults.proofs.Forests.{AreLinksOf}

-- ---- from links to touches
abbrev touch_of : Step → Touch
touch_of s = record { place = s.place; point = point_at s.node }

abbrev touches_of : List Step → List Touch
touches_of [] = []
touches_of (s ∷ ss) = touch_of s ∷ touches_of ss

abbrev AreTouchesApart : Touch → Touch → Type 0
AreTouchesApart t u = (t.place ≢ u.place) × (¬ IsSamePoint t.point u.point)

touch_apart : (s : Step) (ss : List Step) → All (IsApartFrom s) ss → All (AreTouchesApart (touch_of s)) (touches_of ss)
touch_apart s [] h = All-nil (AreTouchesApart (touch_of s))
touch_apart s (t ∷ ts) h =
    let here = All-head (IsApartFrom s) t ts h in
    All-cons (AreTouchesApart (touch_of s)) (touch_of t) (touches_of ts) (here.0, λ same. here.1 (one_node s.node t.node same))
    (touch_apart s ts (All-tail (IsApartFrom s) t ts h))

touches_apart : (ss : List Step) → AreStepsApart ss → AreApart (touches_of ss)
touches_apart [] h = tt
touches_apart (s ∷ ss) h = (touch_apart s ss h.0, touches_apart ss h.1)

module _ (area : Area) (links : List Link) (of : AreLinksOf area links) where
  on_ring : (n : Node) (i : ℕ) → IsLinked links n i → IsOnRingAt area i (point_at n)
  on_ring n i h = All-contains (λ l. IsOnRingAt area l.ring (point_at l.node)) links (record { node = n; ring = i }) of.sound h

  touch_chain :
      (start : Step) (s : Step) (ss : List Step) → IsStepChain links start.place s ss
      → IsTouchChain area (touch_of start) (touch_of s) (touches_of ss)
  touch_chain start s [] h = (on_ring s.node s.place h.0, on_ring s.node start.place h.1)
  touch_chain start s (t ∷ ts) h = (on_ring s.node s.place h.0, on_ring s.node t.place h.1, touch_chain start t ts h.2)

  touches : HasCycle links → HasTouchCycle area
  touches c = record {
    start = touch_of c.start;
    second = touch_of c.second;
    others = touches_of c.others;
    apart = touches_apart (c.start ∷ c.second ∷ c.others) c.apart;
    chain = touch_chain c.start c.start (c.second ∷ c.others) c.chain;
  }

  -- ---- from touches to links
  -- the step of a touch: its ring, and the node at its point
  record IsStepOf (t : Touch) (s : Step) : Type 0 where
    same_ring : s.place ≡ t.place
    same_point : IsSamePoint (point_at s.node) t.point

  -- a common point of two rings is the point of a node that is linked with both
  record AreLinkedAt (p : Point) (i j : ℕ) : Type 0 where
    node : Node
    at : IsSamePoint (point_at node) p
    first : IsLinked links node i
    second : IsLinked links node j

  linked_at : (p : Point) (i j : ℕ) → i ≢ j → IsOnRingAt area i p → IsOnRingAt area j p → AreLinkedAt p i j
  linked_at p i j other h k =
      let one = of.whole i j other p h k in
      let two = of.whole j i (λ e. other (sym e)) p k h in
      let same : two.0 ≡ one.0 = one_node two.0 one.0 (same_trans two.1 (same_sym one.1)) in
      record { node = one.0; at = one.1; first = one.2; second = subst (λ (m : Node). IsLinked links m j) same two.2 }

  abbrev AreStepsOf : List Touch → List Step → Type 0
  AreStepsOf [] [] = Unit {0}
  AreStepsOf [] (s ∷ ss) = ⊥
  AreStepsOf (t ∷ ts) [] = ⊥
  AreStepsOf (t ∷ ts) (s ∷ ss) = IsStepOf t s × AreStepsOf ts ss

  -- the steps of touches in a chain
  record IsLinkChain (start : ℕ) (t : Touch) (ts : List Touch) : Type 0 where
    step : Step
    steps : List Step
    first : IsStepOf t step
    rest : AreStepsOf ts steps
    chain : IsStepChain links start step steps

  later_steps :
      (start t : Touch) (ts : List Touch) → IsTouchChain area start t ts → AreApart (t ∷ ts) → All (λ u. u.place ≢ start.place) (t ∷ ts)
      → IsLinkChain start.place t ts
  later_steps start t [] h apart short =
      let l = linked_at t.point t.place start.place (All-head (λ (u : Touch). u.place ≢ start.place) t [] short) h.0 h.1 in
      record {
        step = record { place = t.place; node = l.node };
        steps = [];
        first = record { same_ring = refl; same_point = l.at };
        rest = tt;
        chain = (l.first, l.second);
      }
  later_steps start t (u ∷ us) h apart short =
      let l = linked_at t.point t.place u.place (All-head (AreTouchesApart t) u us apart.0).0 h.0 h.1 in
      let w = later_steps start u us h.2 apart.1 (All-tail (λ (v : Touch). v.place ≢ start.place) t (u ∷ us) short) in
      record {
        step = record { place = t.place; node = l.node };
        steps = w.step ∷ w.steps;
        first = record { same_ring = refl; same_point = l.at };
        rest = (w.first, w.rest);
        chain = (l.first, subst (λ z. IsLinked links l.node z) (sym w.first.same_ring) l.second, w.chain);
      }

  -- steps are apart where their touches are
  step_apart : (t u : Touch) (s r : Step) → IsStepOf t s → IsStepOf u r → AreTouchesApart t u → IsApartFrom s r
  step_apart t u s r h k apart = (
    λ e. apart.0 (sym h.same_ring ∙ e ∙ k.same_ring),
    λ e. apart.1
        (same_trans (same_sym h.same_point) (same_trans (node_point s.node r.node e) k.same_point)),
  )

  step_apart_all :
      (t : Touch) (s : Step) → IsStepOf t s → (ts : List Touch) (ss : List Step) → AreStepsOf ts ss → All (AreTouchesApart t) ts
      → All (IsApartFrom s) ss
  step_apart_all t s h [] [] k apart = All-nil (IsApartFrom s)
  step_apart_all t s h [] (r ∷ rs) k apart = absurd k
  step_apart_all t s h (u ∷ us) [] k apart = absurd k
  step_apart_all t s h (u ∷ us) (r ∷ rs) k apart =
      All-cons (IsApartFrom s) r rs (step_apart t u s r h k.0 (All-head (AreTouchesApart t) u us apart))
      (step_apart_all t s h us rs k.1 (All-tail (AreTouchesApart t) u us apart))

  steps_apart : (ts : List Touch) (ss : List Step) → AreStepsOf ts ss → AreApart ts → AreStepsApart ss
  steps_apart [] [] h apart = tt
  steps_apart [] (s ∷ ss) h apart = absurd h
  steps_apart (t ∷ ts) [] h apart = absurd h
  steps_apart (t ∷ ts) (s ∷ ss) h apart = (step_apart_all t s h.0 ts ss h.1 apart.0, steps_apart ts ss h.1 apart.1)

  steps : HasTouchCycle area → HasCycle links
  steps c =
      let l =
      linked_at c.start.point c.start.place c.second.place (All-head (AreTouchesApart c.start) c.second c.others c.apart.0).0 c.chain.0
      c.chain.1 in
      let w = later_steps c.start c.second c.others c.chain.2 c.apart.1 (λ i d below same. (c.apart.0 i d below).0 (sym same)) in
      let s : Step = record { place = c.start.place; node = l.node } in
      let first : IsStepOf c.start s = record { same_ring = refl; same_point = l.at } in
      record {
        start = s;
        second = w.step;
        others = w.steps;
        apart = steps_apart (c.start ∷ c.second ∷ c.others) (s ∷ w.step ∷ w.steps) (first, (w.first, w.rest)) c.apart;
        chain = (l.first, subst (λ z. IsLinked links l.node z) (sym w.first.same_ring) l.second, w.chain);
      }

-- the rings of an area touch in a cycle exactly where its links have one
pub cycle :
    (area : Area) (links : List Link) → AreLinksOf area links → HasTouchCycle area ↔ HasCycle links
cycle area links of = (steps area links of, touches area links of)
