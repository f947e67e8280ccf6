-- A node without a link takes its first link: ways and labels stay, and no cycle comes up.
use Rattle.std.proofs.Common.{◌≡◌, ◌≢◌, ◌⊎◌, inl, inr, ℕ, List, [], ◌∷◌, ap, refl, sym, ◌∙◌, subst, slice_get}
use Rattle.std.specs.List.{All}
use Rattle.std.proofs.lemmas.List.Elements.{All-head, All-tail, Contains-push, Contains-push_cases}
use Rattle.plane_exact.specs.declared.node.Node.{Node}
use Rattle.ring_faults.specs.declared.link.Link.{Link}
use Rattle.ring_faults.specs.Links.{IsLinked, Step, IsApartFrom, AreStepsApart, IsStepChain, HasCycle}
use Rattle.ring_faults.proofs.Ways.{kept_left, path_more, path_chain}
use Rattle.ring_faults.proofs.Forests.{IsForest, IsJoined, IsPath, with_link}

-- the new link's node and ring
abbrev pub IsNew : Node → ℕ → Node → ℕ → Type 0
IsNew n i m j = (n ≡ m) × (i ≡ j)

-- a link among the new ones is an old one or the new one
pub link_cases :
    (links : List Link) (n : Node) (i : ℕ) (m : Node) (j : ℕ) → IsLinked (with_link links n i) m j → IsLinked links m j ⊎ IsNew n i m j
link_cases links n i m j h = by (Contains-push_cases links (record { node = n; ring = i }) (record { node = m; ring = j }) h)
  where
    by :
        IsLinked links m j ⊎ ((let l : Link = record { node = n; ring = i } in l) ≡ record { node = m; ring = j })
        → IsLinked links m j ⊎ IsNew n i m j
    by (inl old) = inl old
    by (inr e) = inr (ap (λ (l : Link). l.node) e, ap (λ (l : Link). l.ring) e)

-- the added link is there
pub link_new : (links : List Link) (n : Node) (i : ℕ) → IsLinked (with_link links n i) n i
link_new links n i = Contains-push links (record { node = n; ring = i })

-- ways by more links
pub joined_more :
    (links more : List Link) (labels : List ℕ) (label i j : ℕ) → ((n : Node) (k : ℕ) → IsLinked links n k → IsLinked more n k)
    → IsJoined links labels label i j → IsJoined more labels label i j
joined_more links more labels label i j kept w = record {
  steps = w.steps;
  path = path_more links more kept i j w.steps w.path;
  apart = w.apart;
  short = w.short;
  within = w.within;
}

-- a way each of whose steps leads to another ring
abbrev pub IsRound : List Link → ℕ → List Step → ℕ → Type 0
IsRound links i [] j = i ≡ j
IsRound links i (step ∷ steps) j =
    (step.place ≡ i) × IsLinked links step.node i × ((k : ℕ) × (i ≢ k) × IsLinked links step.node k × IsRound links k steps j)

-- the later steps of a cycle
round_rest :
    (links : List Link) (start : ℕ) (step : Step) (steps : List Step) → IsStepChain links start step steps → AreStepsApart (step ∷ steps)
    → All (λ s. s.place ≢ start) (step ∷ steps) → IsRound links step.place (step ∷ steps) start
round_rest links start step [] h apart short = (refl, h.0, (start, All-head (λ s. s.place ≢ start) step [] short, h.1, refl))
round_rest links start step (next ∷ others) h apart short = (
  refl,
  h.0,
  (
    next.place,
    (All-head (IsApartFrom step) next others apart.0).0,
    h.1,
    round_rest links start next others h.2 apart.1 (All-tail (λ s. s.place ≢ start) step (next ∷ others) short),
  ),
)

-- a cycle goes round
pub cycle_round : (links : List Link) (c : HasCycle links) → IsRound links c.start.place (c.start ∷ c.second ∷ c.others) c.start.place
cycle_round links c = (
  refl,
  c.chain.0,
  (
    c.second.place,
    (All-head (IsApartFrom c.start) c.second c.others c.apart.0).0,
    c.chain.1,
    round_rest links c.start.place c.second c.others c.chain.2 c.apart.1 (λ i d below same. (c.apart.0 i d below).0 (sym same)),
  ),
)

-- it is a way
round_path : (links : List Link) (i j : ℕ) (steps : List Step) → IsRound links i steps j → IsPath links i steps j
round_path links i j [] h = h
round_path links i j (step ∷ steps) h = let to = h.2 in (h.0, h.1, (to.0, to.2, round_path links to.0 j steps to.3))

-- so a cycle of links that goes round by other links is one of those
pub round_cycle :
    (links more : List Link) (c : HasCycle more) → IsRound links c.start.place (c.start ∷ c.second ∷ c.others) c.start.place
    → HasCycle links
round_cycle links more c h = record {
  start = c.start;
  second = c.second;
  others = c.others;
  apart = c.apart;
  chain =
      path_chain links c.start.place c.start (c.second ∷ c.others)
      (round_path links c.start.place c.start.place (c.start ∷ c.second ∷ c.others) h);
}

module _ (links : List Link) (n : Node) (i : ℕ) (fresh : (j : ℕ) → ¬ IsLinked links n j) where
  -- two rings that are linked with one node are so by old links
  both_old :
      (m : Node) (a b : ℕ) → a ≢ b → IsLinked (with_link links n i) m a → IsLinked (with_link links n i) m b
      → IsLinked links m a × IsLinked links m b
  both_old m a b other h k = by (link_cases links n i m a h) (link_cases links n i m b k)
    where
      fresh_at : (z : ℕ) → n ≡ m → ¬ IsLinked links m z
      fresh_at z e l = fresh z (subst (λ (v : Node). IsLinked links v z) (sym e) l)

      by : IsLinked links m a ⊎ IsNew n i m a → IsLinked links m b ⊎ IsNew n i m b → IsLinked links m a × IsLinked links m b
      by (inl old) (inl too) = (old, too)
      by (inl old) (inr new) = absurd (fresh_at a new.0 old)
      by (inr new) (inl old) = absurd (fresh_at b new.0 old)
      by (inr new) (inr again) = absurd (other (sym new.1 ∙ again.1))

  round_old : (a b : ℕ) (steps : List Step) → IsRound (with_link links n i) a steps b → IsRound links a steps b
  round_old a b [] h = h
  round_old a b (step ∷ steps) h =
      let to = h.2 in
      let old = both_old step.node a to.0 to.1 h.1 to.2 in
      (h.0, old.0, (to.0, to.1, old.1, round_old to.0 b steps to.3))

  one_still :
      (labels : List ℕ) → IsForest links labels → (m : Node) (a b : ℕ) → IsLinked (with_link links n i) m a
      → IsLinked (with_link links n i) m b → slice_get labels a ≡ slice_get labels b
  one_still labels forest m a b h k = by (link_cases links n i m a h) (link_cases links n i m b k)
    where
      fresh_at : (z : ℕ) → n ≡ m → ¬ IsLinked links m z
      fresh_at z e l = fresh z (subst (λ (v : Node). IsLinked links v z) (sym e) l)

      by : IsLinked links m a ⊎ IsNew n i m a → IsLinked links m b ⊎ IsNew n i m b → slice_get labels a ≡ slice_get labels b
      by (inl old) (inl too) = forest.one m a b old too
      by (inl old) (inr new) = absurd (fresh_at a new.0 old)
      by (inr new) (inl old) = absurd (fresh_at b new.0 old)
      by (inr new) (inr again) = ap (λ z. slice_get labels z) (sym new.1 ∙ again.1)

-- a node without a link takes its first: the labels stay those of a forest
pub first_link :
    (links : List Link) (labels : List ℕ) → IsForest links labels → (n : Node) (i : ℕ)
    → ((j : ℕ) → ¬ IsLinked links n j) → IsForest (with_link links n i) labels
first_link links labels forest n i fresh = record {
  joined =
      λ a b label h k. joined_more links (with_link links n i) labels label a b (kept_left links ((record { node = n; ring = i }) ∷ []))
      (forest.joined a b label h k);
  one = one_still links n i fresh labels forest;
  none =
      λ c. forest.none (round_cycle links (with_link links n i) c
      (round_old links n i fresh c.start.place c.start.place (c.start ∷ c.second ∷ c.others) (cycle_round (with_link links n i) c)));
}
