-- Ways over links: more links, two ways joined, a way cut at a node, and a way that comes back.
use Rattle.std.proofs.Common.{◌≡◌, ◌≢◌, ◌⊎◌, inl, inr, ℕ, ◌<◌, List, [], ◌∷◌, ◌++◌, length, ap, sym, subst, arith}
use Rattle.std.specs.List.{All}
use Rattle.std.proofs.lemmas.List.Elements.{All-nil, All-cons, Contains-append_left}
use Rattle.plane_exact.specs.declared.node.Node.{Node}
use Rattle.ring_faults.specs.declared.link.Link.{Link}
use Rattle.ring_faults.specs.Links.{IsLinked, Step, AreStepsApart, IsStepChain, HasCycle}
use Rattle.ring_faults.proofs.NodesApart.{same_or_not}
use Rattle.ring_faults.proofs.Forests.{IsPath}

-- links that are kept among others
abbrev pub AreKept : List Link → List Link → Type 0
AreKept links more = (n : Node) (i : ℕ) → IsLinked links n i → IsLinked more n i

-- links are kept where more are added
pub kept_left : (links more : List Link) → AreKept links (links ++ more)
kept_left links more n i h = Contains-append_left links more (record { node = n; ring = i }) h

-- a way by kept links
pub path_more :
    (links more : List Link) → AreKept links more → (i j : ℕ) (steps : List Step) → IsPath links i steps j → IsPath more i steps j
path_more links more kept i j [] h = h
path_more links more kept i j (step ∷ steps) h =
    let to = h.2 in (h.0, kept step.node i h.1, (to.0, kept step.node to.0 to.1, path_more links more kept to.0 j steps to.2))

-- two ways, the second from where the first ends
pub path_joined :
    (links : List Link) (i k j : ℕ) (xs ys : List Step) → IsPath links i xs k → IsPath links k ys j → IsPath links i (xs ++ ys) j
path_joined links i k j [] ys h g = subst (λ (z : ℕ). IsPath links z ys j) (sym h) g
path_joined links i k j (x ∷ xs) ys h g = let to = h.2 in (h.0, h.1, (to.0, to.1, path_joined links to.0 k j xs ys to.2 g))

-- each step of a way has a link of its own ring
pub path_links : (links : List Link) (i j : ℕ) (steps : List Step) → IsPath links i steps j → All (λ s. IsLinked links s.node s.place) steps
path_links links i j [] h = All-nil (λ s. IsLinked links s.node s.place)
path_links links i j (step ∷ steps) h =
    All-cons (λ s. IsLinked links s.node s.place) step steps (subst (λ (z : ℕ). IsLinked links step.node z) (sym h.0) h.1)
    (path_links links h.2.0 j steps h.2.2)

-- a way that passes a node, at the first step that leaves by it
pub record IsCutAt (links : List Link) (n : Node) (i j : ℕ) (steps : List Step) : Type 0 where
  pub front : List Step
  pub place : ℕ
  pub next : ℕ
  pub back : List Step
  pub whole : steps ≡ front ++ (record { place = place; node = n }) ∷ back
  pub before : IsPath links i front place
  pub leaves : IsLinked links n place
  pub enters : IsLinked links n next
  pub after : IsPath links next back j

-- a step leaves by another node
abbrev pub AvoidsNode : Node → Step → Type 0
AvoidsNode n s = s.node ≢ n

-- a way avoids a node or is cut there
pub cut :
    (links : List Link) (n : Node) (i j : ℕ) (steps : List Step) → IsPath links i steps j
    → All (AvoidsNode n) steps ⊎ IsCutAt links n i j steps
cut links n i j [] h = inl (All-nil (AvoidsNode n))
cut links n i j (step ∷ steps) h = by (same_or_not step.node n) (cut links n h.2.0 j steps h.2.2)
  where
    later :
        step.node ≢ n → All (AvoidsNode n) steps ⊎ IsCutAt links n h.2.0 j steps
        → All (AvoidsNode n) (step ∷ steps) ⊎ IsCutAt links n i j (step ∷ steps)
    later other (inl avoids) = inl (All-cons (AvoidsNode n) step steps other avoids)
    later other (inr c) = inr (record {
      front = step ∷ c.front;
      place = c.place;
      next = c.next;
      back = c.back;
      whole = ap (λ (l : List Step). step ∷ l) c.whole;
      before = (h.0, h.1, (h.2.0, h.2.1, c.before));
      leaves = c.leaves;
      enters = c.enters;
      after = c.after;
    })

    by :
        (step.node ≡ n) ⊎ (step.node ≢ n) → All (AvoidsNode n) steps ⊎ IsCutAt links n h.2.0 j steps
        → All (AvoidsNode n) (step ∷ steps) ⊎ IsCutAt links n i j (step ∷ steps)
    by (inl same) rest = inr (record {
      front = [];
      place = step.place;
      next = h.2.0;
      back = steps;
      whole = ap (λ (m : Node). record { place = step.place; node = m } ∷ steps) same;
      before = sym h.0;
      leaves = subst (λ (m : Node). IsLinked links m step.place) same (subst (λ (z : ℕ). IsLinked links step.node z) (sym h.0) h.1);
      enters = subst (λ (m : Node). IsLinked links m h.2.0) same h.2.1;
      after = h.2.2;
    })
    by (inr other) rest = later other rest

-- a way as a chain that ends at the ring where the way ends
pub path_chain :
    (links : List Link) (j : ℕ) (step : Step) (steps : List Step) → IsPath links step.place (step ∷ steps) j
    → IsStepChain links j step steps
path_chain links j step [] h = (h.1, subst (λ (z : ℕ). IsLinked links step.node z) h.2.2 h.2.1)
path_chain links j step (next ∷ others) h =
    let to = h.2 in
    let there = sym to.2.0 in
    let Linked : ℕ → Type 0 = λ z. IsLinked links step.node z in
    (h.1, subst Linked there to.1, path_chain links j next others (subst (λ (z : ℕ). IsPath links z (next ∷ others) j) there to.2))

-- a way of two steps or more that comes back to its first ring
pub path_cycle :
    (links : List Link) (i : ℕ) (steps : List Step) → IsPath links i steps i → AreStepsApart steps → 1 < length steps → HasCycle links
path_cycle links i [] h apart more = absurd (omega (arith, more))
path_cycle links i (one ∷ []) h apart more = absurd (omega (arith, more))
path_cycle links i (start ∷ second ∷ others) h apart more = record {
  start = start;
  second = second;
  others = others;
  apart = apart;
  chain = path_chain links start.place start (second ∷ others) (subst (λ (z : ℕ). IsPath links z (start ∷ second ∷ others) z) (sym h.0) h);
}

chain_more :
    (links more : List Link) → AreKept links more → (start : ℕ) (step : Step) (steps : List Step) → IsStepChain links start step steps
    → IsStepChain more start step steps
chain_more links more kept start step [] h = (kept step.node step.place h.0, kept step.node start h.1)
chain_more links more kept start step (next ∷ others) h =
    (kept step.node step.place h.0, kept step.node next.place h.1, chain_more links more kept start next others h.2)

-- more links keep a cycle
pub cycle_more :
    (links more : List Link) → HasCycle links → HasCycle (links ++ more)
cycle_more links more c = record {
  start = c.start;
  second = c.second;
  others = c.others;
  apart = c.apart;
  chain = chain_more links (links ++ more) (kept_left links more) c.start.place c.start (c.second ∷ c.others) c.chain;
}
