-- The order of links is a total order, in which equal links are one.
use Rattle.std.proofs.Common.{◌≡◌, ◌≢◌, ◌↔◌, ◌⊎◌, inl, inr, ℕ, ◌+◌, ◌<◌, ◌≤◌, true, Some, List, [], ◌∷◌, ◌++◌, length, slice_get, take, min}
use Rattle.std.proofs.Common.{length-take, ap, refl, sym, ◌∙◌, subst, subst₂, Ordering, Less, Equal, Greater, arith}
use Rattle.std.specs.Cmp.{Equal-is}
use Rattle.std.specs.List.{AllPairs, Contains, dedup}
use Rattle.std.specs.List.Sorted.{IsPermutation, IsSorted, IsStrictlySortedBy}
use Rattle.std.specs.Ordering.{eq_by_cmp, ordering_then, nat_cmp}
use Rattle.std.proofs.lemmas.Cmp.{eq_by_cmp_equiv, ranked, tied_itself}
use Rattle.std.proofs.lemmas.List.{get_or-take, take_more}
use Rattle.std.proofs.lemmas.Bool.{cases_lt}
use Rattle.std.proofs.lemmas.Option.{get_or_from_slice_get, slice_get-get_or, slice_get_within}
use Rattle.figure_laws.proofs.Lists.Places.{some_same}
use Rattle.std.proofs.lemmas.List.Elements.{All-from_recursion, Contains-push}
use Rattle.std.proofs.lemmas.List.Kept.{AllPairs-cons, Contains-dedup, Contains-from_dedup, IsStrictlySortedBy-dedup}
use Rattle.std.proofs.lemmas.List.Sorted.{Contains-permutation, IsPermutation-sym}
use Rattle.plane_exact.specs.NodePoints.{point_at}
use Rattle.plane_laws.specs.Orders.{compare_points}
use Rattle.plane_exact.specs.declared.node.Node.{Node}
use Rattle.plane_exact.proofs.Laws.{one_node}
use Rattle.plane_laws.proofs.Points.Order.{compare_points_total, compare_points_same, same_compare_points}
use Rattle.point_set.specs.Validity.{IsAtPlace}
use Rattle.ring_faults.specs.declared.link.Link.{Link}
use Rattle.ring_faults.proofs.NodesApart.{node_point}
use Rattle.ring_faults.specs.LinkOrders.{compare_links_total}
use Rattle.ring_faults.specs.Links.{compare_links}

-- ---- what the order says of two links
less_not_equal : ¬ (Less ≡ Equal)
less_not_equal e = cc

greater_not_less : ¬ (Greater ≡ Less)
greater_not_less e = cc

greater_not_equal : ¬ (Greater ≡ Equal)
greater_not_equal e = cc

-- an order and a further one are equal where both are
then_equal : (a b : Ordering) → ordering_then a b ≡ Equal → (a ≡ Equal) × (b ≡ Equal)
then_equal Less b e = absurd (less_not_equal e)
then_equal Equal b e = (refl, e)
then_equal Greater b e = absurd (greater_not_equal e)

equal_ring : (x y : ℕ) → nat_cmp x y ≡ Equal → x ≡ y
equal_ring x y e = ranked x y Equal (sym e)

-- links that compare as equal are one
pub same_link : (l m : Link) → compare_links l m ≡ Equal → l ≡ m
same_link l m e =
    let both = then_equal (compare_points (point_at l.node) (point_at m.node)) (nat_cmp l.ring m.ring) e in
    let node : l.node ≡ m.node = one_node l.node m.node (same_compare_points (point_at l.node) (point_at m.node) both.0) in
    let ring : l.ring ≡ m.ring = equal_ring l.ring m.ring both.1 in
    λ i. record { node = node i; ring = ring i }

-- a link isn't before itself
pub before_other : (l m : Link) → compare_links l m ≡ Less → l ≢ m
before_other l m e same = less_not_equal (sym e ∙ ap (compare_links l) (sym same) ∙ tied_itself compare_links_total l)

then_less : (a b : Ordering) → ordering_then a b ≡ Less → (a ≡ Less) ⊎ (a ≡ Equal)
then_less Less b e = inl refl
then_less Equal b e = inr refl
then_less Greater b e = absurd (greater_not_less e)

-- a node that stands between two that are one is that node
pub between : (l k m : Link) → compare_links l k ≡ Less → compare_links k m ≡ Less → l.node ≡ m.node → k.node ≡ m.node
between l k m e f same =
    by (then_less (compare_points (point_at l.node) (point_at k.node)) (nat_cmp l.ring k.ring) e)
    (then_less (compare_points (point_at k.node) (point_at m.node)) (nat_cmp k.ring m.ring) f)
  where
    one : (v w : Node) → compare_points (point_at v) (point_at w) ≡ Equal → v ≡ w
    one v w h = one_node v w (same_compare_points (point_at v) (point_at w) h)

    tied : compare_points (point_at l.node) (point_at m.node) ≡ Equal
    tied = compare_points_same (point_at l.node) (point_at m.node) (node_point l.node m.node same)

    by :
        (compare_points (point_at l.node) (point_at k.node) ≡ Less) ⊎ (compare_points (point_at l.node) (point_at k.node) ≡ Equal)
        → (compare_points (point_at k.node) (point_at m.node) ≡ Less) ⊎ (compare_points (point_at k.node) (point_at m.node) ≡ Equal)
        → k.node ≡ m.node
    by (inr h) g = sym (one l.node k.node h) ∙ same
    by (inl h) (inr g) = one k.node m.node g
    by (inl h) (inl g) =
        absurd (less_not_equal (sym (compare_points_total.trans (point_at l.node) (point_at k.node) (point_at m.node) h g) ∙ tied))

-- ---- sorted links, each once
abbrev pub kept : List Link → List Link
kept = dedup (eq_by_cmp compare_links)

AllPairs-from_strict : {K : Type 0} (c : K → K → Ordering) (ks : List K) → IsStrictlySortedBy c ks → AllPairs (λ x y. c x y ≡ Less) ks
unfolding IsStrictlySortedBy
AllPairs-from_strict c [] h = λ i j d l m. absurd (omega (arith, m))
AllPairs-from_strict c (k ∷ ks) h =
    AllPairs-cons (λ x y. c x y ≡ Less) k ks (All-from_recursion (λ y. c k y ≡ Less) ks h.0) (AllPairs-from_strict c ks h.1)

-- sorted links, each kept once, ascend
pub kept_ascends : (mid : List Link) → IsSorted compare_links mid → AllPairs (λ l m. compare_links l m ≡ Less) (kept mid)
kept_ascends mid h = AllPairs-from_strict compare_links (kept mid) (IsStrictlySortedBy-dedup compare_links_total (λ x y. refl) mid h)

equal_one : (x y : Link) → eq_by_cmp compare_links x y ≡ true → x ≡ y
equal_one x y e = same_link x y ((Equal-is (compare_links x y)).0 e)

-- and they are the same links
pub kept_same : (old mid : List Link) → IsPermutation old mid → (l : Link) → Contains old l ↔ Contains (kept mid) l
kept_same old mid p l = (
  λ h. Contains-dedup (eq_by_cmp_equiv compare_links_total) equal_one mid l (Contains-permutation old mid l p h),
  λ h. Contains-permutation mid old l (IsPermutation-sym old mid p) (Contains-from_dedup (eq_by_cmp compare_links) mid l h),
)

-- ---- a link in a sorted list and those before it
module _ (links : List Link) (up : AllPairs (λ l m. compare_links l m ≡ Less) links) where
  -- a link at an earlier place is before
  earlier_before : (k i : ℕ) (l m : Link) → k < i → IsAtPlace links k l → IsAtPlace links i m → compare_links l m ≡ Less
  earlier_before k i l m below l_is m_is =
      subst₂ (λ (x y : Link). compare_links x y ≡ Less) (get_or_from_slice_get links k l m l_is) (get_or_from_slice_get links i m m m_is)
      (up k i m below (slice_get_within links i m m_is))

  -- a link among those before a place stands at an earlier place
  place_of : (i : ℕ) (l : Link) → Contains (take i links) l → (k : ℕ) × (k < i) × IsAtPlace links k l
  place_of i l h =
      let below : h.0 < min i (length links) = subst (λ z. h.0 < z) (length-take i links) h.1 in
      let first : h.0 < i = omega arith in
      let second : h.0 < length links = omega arith in
      (h.0, first, slice_get-get_or links h.0 l second ∙ ap Some (sym (get_or-take i links h.0 l first) ∙ h.2))

  -- the link at a place isn't among those before it
  pub new_there : (i : ℕ) (m : Link) → IsAtPlace links i m → ¬ Contains (take i links) m
  new_there i m m_is h = let at = place_of i m h in before_other m m (earlier_before at.0 i m m at.1 at.2 m_is) refl

  -- the link before a place is among those before it
  pub old_before : (i : ℕ) (l : Link) → IsAtPlace links i l → Contains (take (i + 1) links) l
  old_before i l l_is =
      let below = slice_get_within links i l l_is in
      let e : take (i + 1) links ≡ take i links ++ l ∷ [] =
      take_more links i l below ∙ ap (λ x. take i links ++ x ∷ []) (get_or_from_slice_get links i l l l_is) in
      subst (λ (ls : List Link). Contains ls l) (sym e) (Contains-push (take i links) l)

  -- where the node of a link isn't that of the link before it, no link before it has that node
  pub fresh_there :
      (i : ℕ) (head m : Link) → IsAtPlace links i head → IsAtPlace links (i + 1) m → head.node ≢ m.node → (l : Link)
      → Contains (take (i + 1) links) l → l.node ≢ m.node
  fresh_there i head m head_is m_is other l h same = by (place_of (i + 1) l h)
    where
      by : (k : ℕ) × (k < i + 1) × IsAtPlace links k l → ⊥
      by at = at_place (cases_lt at.0 i)
        where
          at_place : (at.0 < i) ⊎ (i ≤ at.0) → ⊥
          at_place (inl below) =
              other (between l head m (earlier_before at.0 i l head below at.2 head_is)
              (earlier_before i (i + 1) head m (omega arith) head_is m_is) same)
          at_place (inr beyond) =
              let here : at.0 ≡ i = let under = at.1 in omega arith in
              other (ap (λ (x : Link). x.node) (some_same (sym head_is ∙ ap (λ z. slice_get links z) (sym here) ∙ at.2)) ∙ same)
