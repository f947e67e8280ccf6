-- A node that has links takes another: with a ring of an equal label that closes a cycle, and with a ring of a different
-- label the two labels become one, and no cycle comes up.
use Rattle.std.proofs.Common.{◌≡◌, ◌≢◌, ◌⊎◌, inl, inr, ℕ, ◌<◌, List, [], ◌∷◌, ◌++◌, length, length-append, ap, refl, sym, ◌∙◌, subst}
use Rattle.std.proofs.Common.{slice_get, arith}
use Rattle.std.specs.List.{All}
use Rattle.std.proofs.lemmas.List.Elements.{All-nil, All-cons, All-head, All-tail, All-append}
use Rattle.plane_exact.specs.declared.node.Node.{Node}
use Rattle.point_set.specs.Validity.{IsAtPlace}
use Rattle.ring_faults.specs.declared.link.Link.{Link}
use Rattle.ring_faults.specs.Links.{IsLinked, Step, IsApartFrom, AreStepsApart, HasCycle}
use Rattle.ring_faults.proofs.Steps.{all_front, all_rest, AreAcross, apart_front, apart_rest, apart_across, apart_joined, across_by}
use Rattle.ring_faults.proofs.Ways.{AreKept, kept_left, path_more, path_joined, path_links, AvoidsNode, IsCutAt, cut, path_cycle}
use Rattle.ring_faults.proofs.FirstLinks.{IsNew, link_cases, link_new, IsRound, cycle_round, round_cycle}
use Rattle.ring_faults.proofs.Labels.{label_differs, ring_differs, WasMerged, AreMerged}
use Rattle.ring_faults.proofs.Forests.{IsForest, IsJoined, IsPath, with_link}

-- a step has another ring than the stated one, and another node
abbrev pub AvoidsStep : ℕ → Node → Step → Type 0
AvoidsStep p n s = (s.place ≢ p) × (s.node ≢ n)

-- a way up to a ring that is linked with a node, over other rings and other nodes
record ReachesNode (links more : List Link) (n : Node) (x : ℕ) (IsSo : ℕ → Type 0) : Type 0 where
  front : List Step
  place : ℕ
  path : IsPath links x front place
  leaves : IsLinked more n place
  apart : AreStepsApart front
  avoids : All (AvoidsStep place n) front
  within : All (λ s. IsSo s.place) front
  so : IsSo place

-- and a way on from such a ring
record LeavesNode (links more : List Link) (n : Node) (y : ℕ) (IsSo : ℕ → Type 0) : Type 0 where
  next : ℕ
  back : List Step
  enters : IsLinked more n next
  path : IsPath links next back y
  apart : AreStepsApart back
  avoids : All (AvoidsNode n) back
  short : All (λ s. s.place ≢ y) back
  within : All (λ s. IsSo s.place) back

module _ (links more : List Link) (kept : AreKept links more) (labels : List ℕ) (label : ℕ) (n : Node) where
  abbrev Reaches : ℕ → Type 0
  Reaches x = ReachesNode links more n x (λ z. IsAtPlace labels z label)

  abbrev Leaves : ℕ → Type 0
  Leaves y = LeavesNode links more n y (λ z. IsAtPlace labels z label)

  -- a way that avoids the node, and ends at a ring that is linked with it
  whole_front :
      (x j : ℕ) → IsLinked more n j → IsAtPlace labels j label → (w : IsJoined links labels label x j) → All (AvoidsNode n) w.steps
      → Reaches x
  whole_front x j linked at w avoids = record {
    front = w.steps;
    place = j;
    path = w.path;
    leaves = linked;
    apart = w.apart;
    avoids = λ i d below. (w.short i d below, avoids i d below);
    within = w.within;
    so = at;
  }

  -- and one that begins there
  whole_back : (i y : ℕ) → IsLinked more n i → (w : IsJoined links labels label i y) → All (AvoidsNode n) w.steps → Leaves y
  whole_back i y linked w avoids = record {
    next = i;
    back = w.steps;
    enters = linked;
    path = w.path;
    apart = w.apart;
    avoids = avoids;
    short = w.short;
    within = w.within;
  }

  -- the front of a way to a ring that is linked with a node, up to the first ring that is
  front_of : (x j : ℕ) → IsLinked links n j → IsAtPlace labels j label → IsJoined links labels label x j → Reaches x
  front_of x j linked at w = by (cut links n x j w.steps w.path)
    where
      by : All (AvoidsNode n) w.steps ⊎ IsCutAt links n x j w.steps → Reaches x
      by (inl avoids) = whole_front x j (kept n j linked) at w avoids
      by (inr c) =
          let IsSo : Step → Type 0 = λ s. IsAtPlace labels s.place label in
          let here : Step = record { place = c.place; node = n } in
          let rest : List Step = here ∷ c.back in
          let apart : AreStepsApart (c.front ++ rest) = subst (λ l. AreStepsApart l) c.whole w.apart in
          let within : All IsSo (c.front ++ rest) = subst (λ l. All IsSo l) c.whole w.within in
          let across : AreAcross c.front rest = apart_across c.front rest apart in
          record {
            front = c.front;
            place = c.place;
            path = c.before;
            leaves = kept n c.place c.leaves;
            apart = apart_front c.front rest apart;
            avoids = λ i d below. All-head (IsApartFrom _) here c.back (across i d below);
            within = all_front IsSo c.front rest within;
            so = All-head IsSo here c.back (all_rest IsSo c.front rest within);
          }

  -- the rest of a way from such a ring, after the one step that leaves by the node
  back_of : (i y : ℕ) → IsLinked links n i → IsJoined links labels label i y → Leaves y
  back_of i y linked w = by (cut links n i y w.steps w.path)
    where
      by : All (AvoidsNode n) w.steps ⊎ IsCutAt links n i y w.steps → Leaves y
      by (inl avoids) = whole_back i y (kept n i linked) w avoids
      by (inr c) =
          let IsSo : Step → Type 0 = λ s. IsAtPlace labels s.place label in
          let Short : Step → Type 0 = λ s. s.place ≢ y in
          let here : Step = record { place = c.place; node = n } in
          let rest : List Step = here ∷ c.back in
          let apart = apart_rest c.front rest (subst (λ l. AreStepsApart l) c.whole w.apart) in
          record {
            next = c.next;
            back = c.back;
            enters = kept n c.next c.enters;
            path = c.after;
            apart = apart.1;
            avoids = λ k d below same. (apart.0 k d below).1 (sym same);
            short = All-tail Short here c.back (all_rest Short c.front rest (subst (λ l. All Short l) c.whole w.short));
            within = All-tail IsSo here c.back (all_rest IsSo c.front rest (subst (λ l. All IsSo l) c.whole w.within));
          }

-- ---- equal labels
-- a way that ends elsewhere has a step
long_front :
    (links : List Link) (i p : ℕ) (steps : List Step) (last : Step) → IsPath links i steps p → i ≢ p → 1 < length (steps ++ last ∷ [])
long_front links i p [] last h other = absurd (other h)
long_front links i p (s ∷ ss) last h other = omega (arith, length-append ss (last ∷ []))

-- a way to a ring that is linked with a node closes by the node's link with its start
closed :
    (links more : List Link) → AreKept links more → (n : Node) (i : ℕ) (IsSo : ℕ → Type 0) → IsLinked more n i → ¬ IsLinked links n i
    → ReachesNode links links n i IsSo → HasCycle more
closed links more kept n i IsSo back fresh w =
    let last : Step = record { place = w.place; node = n } in
    let ends : List Step = last ∷ [] in
    let other : i ≢ w.place = λ e. fresh (subst (λ z. IsLinked links n z) (sym e) w.leaves) in
    let home : IsPath more w.place ends i = (refl, kept n w.place w.leaves, (i, back, refl)) in
    let across : AreAcross w.front ends = λ k d below. All-cons (IsApartFrom _) last [] (w.avoids k d below) (All-nil (IsApartFrom _)) in
    path_cycle more i (w.front ++ ends)
    (path_joined more i w.place i w.front ends (path_more links more kept i w.place w.front w.path) home)
    (apart_joined w.front ends w.apart (All-nil (IsApartFrom last), tt) across)
    (long_front links i w.place w.front last w.path other)

-- a node that is linked with one ring takes a link with another of an equal label: a cycle
pub cycle_link :
    (links : List Link) (labels : List ℕ) → IsForest links labels → (n : Node) (head i label : ℕ)
    → IsLinked links n head → ¬ IsLinked links n i → IsAtPlace labels i label → IsAtPlace labels head label
    → HasCycle (with_link links n i)
cycle_link links labels forest n head i label linked fresh at head_at =
    closed links (with_link links n i) (kept_left links ((record { node = n; ring = i }) ∷ [])) n i (λ z. IsAtPlace labels z label)
    (link_new links n i) fresh
    (front_of links links (λ m z h. h) labels label n i head linked head_at (forest.joined i head label at head_at))

-- ---- different labels
module _ (links : List Link) (labels : List ℕ) (forest : IsForest links labels) where
  -- nodes of rings of different labels are different
  node_differs :
      (m n : Node) (x y a b : ℕ) → IsLinked links m x → IsLinked links n y → IsAtPlace labels x a → IsAtPlace labels y b → a ≢ b → m ≢ n
  node_differs m n x y a b h k at there other e =
      label_differs labels x y a b at there other (forest.one n x y (subst (λ (v : Node). IsLinked links v x) e h) k)

  -- a way within one label avoids the nodes of rings of another
  way_avoids :
      (n : Node) (head a b x y : ℕ) → IsLinked links n head → IsAtPlace labels head b → a ≢ b → (w : IsJoined links labels a x y)
      → All (AvoidsNode n) w.steps
  way_avoids n head a b x y linked there other w =
      λ k d below. node_differs _ n _ head a b (path_links links x y w.steps w.path k d below) linked (w.within k d below) there other

  -- a way within one label to a node, and from there a way within another label, where both labels become one
  module _ (more : List Link) (kept : AreKept links more) (new : List ℕ) (to a b : ℕ) (other : a ≢ b)
      (of_a : (z : ℕ) → IsAtPlace labels z a → IsAtPlace new z to) (of_b : (z : ℕ) → IsAtPlace labels z b → IsAtPlace new z to) where
    both_joined :
        (n : Node) (x y : ℕ) → IsAtPlace labels y b → ReachesNode links more n x (λ z. IsAtPlace labels z a)
        → LeavesNode links more n y (λ z. IsAtPlace labels z b) → IsJoined more new to x y
    both_joined n x y y_at f g =
        let at_to : Step → Type 0 = λ s. IsAtPlace new s.place to in
        let Short : Step → Type 0 = λ s. s.place ≢ y in
        let From : Step → Type 0 = λ s. IsAtPlace labels s.place a × IsLinked links s.node s.place in
        let To : Step → Type 0 = λ s. IsAtPlace labels s.place b × IsLinked links s.node s.place in
        let here : Step = record { place = f.place; node = n } in
        let rest : List Step = here ∷ g.back in
        let tells : (s t : Step) → From s → To t → IsApartFrom s t =
        λ s t h k.
        (ring_differs labels s.place t.place a b h.0 k.0 other, node_differs s.node t.node s.place t.place a b h.1 k.1 h.0 k.0 other) in
        let across : AreAcross f.front g.back = across_by From To tells f.front g.back
        (λ i d below. (f.within i d below, path_links links x f.place f.front f.path i d below))
        (λ i d below. (g.within i d below, path_links links g.next y g.back g.path i d below)) in
        record {
          steps = f.front ++ rest;
          path = path_joined more x f.place y f.front rest (path_more links more kept x f.place f.front f.path)
              (refl, f.leaves, (g.next, g.enters, path_more links more kept g.next y g.back g.path));
          apart = apart_joined f.front rest f.apart (
            (λ i d below. (ring_differs labels f.place _ a b f.so (g.within i d below) other, λ same. g.avoids i d below (sym same))),
            g.apart,
          )
              (λ i d below. All-cons (IsApartFrom _) here g.back (f.avoids i d below) (across i d below));
          short = All-append Short f.front rest
              (λ i d below. ring_differs labels _ y a b (f.within i d below) y_at other)
              (All-cons Short here g.back (ring_differs labels f.place y a b f.so y_at other) g.short);
          within = All-append at_to f.front rest
              (λ i d below. of_a _ (f.within i d below))
              (All-cons at_to here g.back (of_a f.place f.so) (λ i d below. of_b _ (g.within i d below)));
        }

-- a cycle that goes through the new link goes through it once, and round the rest all links are old
module _ (links : List Link) (labels : List ℕ) (forest : IsForest links labels) (n : Node) (head i from to : ℕ)
    (linked : IsLinked links n head) (at : IsAtPlace labels i from) (head_at : IsAtPlace labels head to) (other : from ≢ to) where
  -- two different rings that are linked with one node are so by old links, or have different labels and the new node
  abbrev AreOldOrDiffer : Node → ℕ → ℕ → Type 0
  AreOldOrDiffer m x y = (IsLinked links m x × IsLinked links m y) ⊎ ((n ≡ m) × (slice_get labels x ≢ slice_get labels y))

  -- a ring with an old link of the node has the label of the head
  label_at : (m : Node) (x : ℕ) → n ≡ m → IsLinked links m x → IsAtPlace labels x to
  label_at m x e h = forest.one n x head (subst (λ (v : Node). IsLinked links v x) (sym e) h) linked ∙ head_at

  at_new : (x : ℕ) → i ≡ x → IsAtPlace labels x from
  at_new x e = subst (λ z. IsAtPlace labels z from) e at

  old_or_differ :
      (m : Node) (x y : ℕ) → x ≢ y → IsLinked (with_link links n i) m x → IsLinked (with_link links n i) m y → AreOldOrDiffer m x y
  old_or_differ m x y apart h k = by (link_cases links n i m x h) (link_cases links n i m y k)
    where
      by : IsLinked links m x ⊎ IsNew n i m x → IsLinked links m y ⊎ IsNew n i m y → AreOldOrDiffer m x y
      by (inl old) (inl too) = inl (old, too)
      by (inl old) (inr new) = inr (new.0, λ e. label_differs labels y x from to (at_new y new.1) (label_at m x new.0 old) other (sym e))
      by (inr new) (inl old) = inr (new.0, label_differs labels x y from to (at_new x new.1) (label_at m y new.0 old) other)
      by (inr new) (inr again) = absurd (apart (sym new.1 ∙ again.1))

  -- rings have one label where a way of old links joins them
  round_label : (x y : ℕ) (steps : List Step) → IsRound links x steps y → slice_get labels x ≡ slice_get labels y
  round_label x y [] h = ap (λ z. slice_get labels z) h
  round_label x y (step ∷ steps) h = forest.one step.node x h.2.0 h.1 h.2.2 ∙ round_label h.2.0 y steps h.2.3

  -- a way that avoids the node has old links alone
  round_avoids :
      (x y : ℕ) (steps : List Step) → IsRound (with_link links n i) x steps y → All (AvoidsNode n) steps → IsRound links x steps y
  round_avoids x y [] h avoids = h
  round_avoids x y (step ∷ steps) h avoids =
      by (old_or_differ step.node x h.2.0 h.2.1 h.1 h.2.2) (round_avoids h.2.0 y steps h.2.3 (All-tail (AvoidsNode n) step steps avoids))
    where
      by : AreOldOrDiffer step.node x h.2.0 → IsRound links h.2.0 steps y → IsRound links x (step ∷ steps) y
      by (inl old) rest = (h.0, old.0, (h.2.0, h.2.1, old.1, rest))
      by (inr differ) rest = absurd (All-head (AvoidsNode n) step steps avoids (sym differ.0))

  -- a way with different nodes has old links alone or ends at a ring of another label
  round_cases :
      (x y : ℕ) (steps : List Step) → IsRound (with_link links n i) x steps y → AreStepsApart steps
      → IsRound links x steps y ⊎ (slice_get labels x ≢ slice_get labels y)
  round_cases x y [] h apart = inl h
  round_cases x y (step ∷ steps) h apart = by (old_or_differ step.node x h.2.0 h.2.1 h.1 h.2.2) (round_cases h.2.0 y steps h.2.3 apart.1)
    where
      avoids : n ≡ step.node → All (AvoidsNode n) steps
      avoids e = λ k d below same. (apart.0 k d below).1 (sym e ∙ sym same)

      by :
          AreOldOrDiffer step.node x h.2.0 → IsRound links h.2.0 steps y ⊎ (slice_get labels h.2.0 ≢ slice_get labels y)
          → IsRound links x (step ∷ steps) y ⊎ (slice_get labels x ≢ slice_get labels y)
      by (inl old) (inl rest) = inl (h.0, old.0, (h.2.0, h.2.1, old.1, rest))
      by (inl old) (inr differ) = inr (λ e. differ (sym (forest.one step.node x h.2.0 old.0 old.1) ∙ e))
      by (inr differ) rest =
          let same = round_label h.2.0 y steps (round_avoids h.2.0 y steps h.2.3 (avoids differ.0)) in
          inr (λ e. differ.1 (e ∙ sym same))

  abbrev AreDifferent : ℕ → Type 0
  AreDifferent x = slice_get labels x ≢ slice_get labels x

  no_cycle : ¬ HasCycle (with_link links n i)
  no_cycle c = by (round_cases c.start.place c.start.place (c.start ∷ c.second ∷ c.others) (cycle_round (with_link links n i) c) c.apart)
    where
      by : IsRound links c.start.place (c.start ∷ c.second ∷ c.others) c.start.place ⊎ AreDifferent c.start.place → ⊥
      by (inl round) = forest.none (round_cycle links (with_link links n i) c round)
      by (inr differ) = differ refl

  module _ (new : List ℕ) (into : ℕ) (m : AreMerged from to into labels new) where
    kept : AreKept links (with_link links n i)
    kept = kept_left links ((record { node = n; ring = i }) ∷ [])

    -- a way within one label stays one
    joined_still :
        (x y label was : ℕ) → ((z : ℕ) → IsAtPlace labels z was → IsAtPlace new z label) → IsJoined links labels was x y
        → IsJoined (with_link links n i) new label x y
    joined_still x y label was still w = record {
      steps = w.steps;
      path = path_more links (with_link links n i) kept x y w.steps w.path;
      apart = w.apart;
      short = w.short;
      within = λ k d below. still _ (w.within k d below);
    }

    -- from the new link's ring on
    from_way : (x y : ℕ) → IsAtPlace labels x from → IsAtPlace labels y to → IsJoined (with_link links n i) new into x y
    from_way x y x_at y_at =
        let w : IsJoined links labels from x i = forest.joined x i from x_at at in
        let avoids : All (AvoidsNode n) w.steps = way_avoids links labels forest n head from to x i linked head_at other w in
        both_joined links labels forest (with_link links n i) kept new into from to other m.first m.second n x y y_at
        (whole_front links (with_link links n i) kept labels from n x i (link_new links n i) at w avoids)
        (back_of links (with_link links n i) kept labels to n head y linked (forest.joined head y to head_at y_at))

    -- and up to it
    to_way : (x y : ℕ) → IsAtPlace labels x to → IsAtPlace labels y from → IsJoined (with_link links n i) new into x y
    to_way x y x_at y_at =
        let w : IsJoined links labels from i y = forest.joined i y from at y_at in
        let avoids : All (AvoidsNode n) w.steps = way_avoids links labels forest n head from to i y linked head_at other w in
        both_joined links labels forest (with_link links n i) kept new into to from (λ e. other (sym e)) m.second m.first n x y y_at
        (front_of links (with_link links n i) kept labels to n x head linked head_at (forest.joined x head to x_at head_at))
        (whole_back links (with_link links n i) kept labels from n i y (link_new links n i) w avoids)

    abbrev Was : ℕ → ℕ → Type 0
    Was x label = WasMerged from to into labels new x label

    -- rings of two old labels of which one has become the new one
    way_by : (x y label : ℕ) → label ≡ into → IsJoined (with_link links n i) new into x y → IsJoined (with_link links n i) new label x y
    way_by x y label e w = subst (λ l. IsJoined (with_link links n i) new l x y) (sym e) w

    all_joined : (x y label : ℕ) → IsAtPlace new x label → IsAtPlace new y label → IsJoined (with_link links n i) new label x y
    all_joined x y label h k = by (m.was x label h) (m.was y label k)
      where
        by : Was x label → Was y label → IsJoined (with_link links n i) new label x y
        by (inl a) (inl b) = way_by x y label a.1 (joined_still x y into from m.first (forest.joined x y from a.0 b.0))
        by (inl a) (inr (inl b)) = way_by x y label a.1 (from_way x y a.0 b.0)
        by (inl a) (inr (inr b)) = absurd (b.0 a.1)
        by (inr (inl a)) (inl b) = way_by x y label a.1 (to_way x y a.0 b.0)
        by (inr (inl a)) (inr (inl b)) = way_by x y label a.1 (joined_still x y into to m.second (forest.joined x y to a.0 b.0))
        by (inr (inl a)) (inr (inr b)) = absurd (b.0 a.1)
        by (inr (inr a)) (inl b) = absurd (a.0 b.1)
        by (inr (inr a)) (inr (inl b)) = absurd (a.0 b.1)
        by (inr (inr a)) (inr (inr b)) = joined_still x y label label a.2 (forest.joined x y label a.1 b.1)

    all_one :
        (v : Node) (x y : ℕ) → IsLinked (with_link links n i) v x → IsLinked (with_link links n i) v y → slice_get new x ≡ slice_get new y
    all_one v x y h k = by (link_cases links n i v x h) (link_cases links n i v y k)
      where
        by : IsLinked links v x ⊎ IsNew n i v x → IsLinked links v y ⊎ IsNew n i v y → slice_get new x ≡ slice_get new y
        by (inl old) (inl too) = m.same x y (forest.one v x y old too)
        by (inl old) (inr one) = m.second x (label_at v x one.0 old) ∙ sym (m.first y (at_new y one.1))
        by (inr one) (inl old) = m.first x (at_new x one.1) ∙ sym (m.second y (label_at v y one.0 old))
        by (inr one) (inr again) = ap (λ z. slice_get new z) (sym one.1 ∙ again.1)

    still_forest : IsForest (with_link links n i) new
    still_forest = record { joined = all_joined; one = all_one; none = no_cycle }

-- and with one of a different label: a forest in which the two labels are one
pub next_link :
    (links : List Link) (labels : List ℕ) → IsForest links labels → (n : Node) (head i from to : ℕ)
    → IsLinked links n head → IsAtPlace labels i from → IsAtPlace labels head to → from ≢ to
    → (new : List ℕ) (into : ℕ) → AreMerged from to into labels new → IsForest (with_link links n i) new
next_link links labels forest n head i from to linked at head_at other new into m =
    still_forest links labels forest n head i from to linked at head_at other new into m
