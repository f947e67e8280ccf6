-- Nodes beside the places of their sections: what one call of a table changes.
use Rattle.std.proofs.Common.{◌≡◌, ◌≢◌, ◌<◌, ◌∙◌, ℕ, Bool, true, false, cond, Option, Some, None, is_some, List, [], ◌∷◌, ◌++◌, length}
use Rattle.std.proofs.Common.{get_or, set, refl, sym, ap, subst, arith, Ordering, Less, Equal}
use Rattle.std.specs.BTreeMap.{insert_entry, is_at}
use Rattle.std.specs.List.{AllByRecursion}
use Rattle.std.specs.List.Sorted.{IsStrictlySortedBy}
use Rattle.std.specs.Map.{keys_of, lookup}
use Rattle.std.specs.Ordering.{match_ordering, is_eq}
use Rattle.std.specs.declared.cmp.Ordering.TheVariants.{Greater}
use Rattle.std.proofs.lemmas.Bool.{true≢false}
use Rattle.std.proofs.lemmas.Cmp.{on_total}
use Rattle.std.proofs.lemmas.List.{get_or_append_left, get_or_push, get_or-set_other, get_or-set_same, get_or_default, length-append}
use Rattle.std.proofs.lemmas.List.{length-set, set-get_or, append-nil}
use Rattle.std.proofs.lemmas.List.Elements.{All-from_recursion}
use Rattle.std.proofs.lemmas.List.Kept.{AllPairs-cons}
use Rattle.std.proofs.lemmas.Map.Entries.{lookup_at_gap}
use Rattle.plane_exact.specs.NodePoints.{point_at}
use Rattle.plane_exact.specs.declared.node.Node.{Node}
use Rattle.plane_laws.proofs.Points.Order.{compare_points_total}
use Rattle.fan_order.specs.declared.section.Section.{Section}
use Rattle.node_table.specs.Orders.{compare_nodes}
use Rattle.node_table.specs.Places.{Placed, listed, IsFree, AreOwnPlaces, AreKept, IsNew}
use Rattle.node_table.specs.Tables.{entry, with_sections, AreInOrder}
use Rattle.node_table.specs.declared.entry.Entry.{Entry}

-- lists of sections
abbrev Lists : Type 0
Lists = List (List Section)

-- the nodes with one more
abbrev put : Placed → Node → ℕ → Placed
put places n at = insert_entry compare_nodes places n at

-- by how the node compares with the first
abbrev put_by : Ordering → Node × ℕ → Placed → Node → ℕ → Placed
put_by o e places n at = match_ordering o ((n, at) ∷ e ∷ places) ((e.0, at) ∷ places) (e ∷ put places n at)

-- the entries with further sections, by how the node compares with the first
abbrev with_by : Ordering → Entry → List Entry → Node → List Section → List Entry
with_by o e entries n s =
    match_ordering o (entry n s ∷ e ∷ entries) (entry e.node (e.sections ++ s) ∷ entries) (e ∷ with_sections entries n s)

-- the place of a node, if it is there
abbrev place_of : Node → Placed → Option ℕ
place_of n places = lookup (is_at (compare_nodes n)) places

-- ---- the lists
-- the list of a place that none of the nodes has is set
pub listed_other :
    (places : Placed) (lists : Lists) (i : ℕ) (s : List Section) → IsFree i places
    → listed places (set lists i s) ≡ listed places lists
listed_other [] lists i s h = refl
listed_other (e ∷ places) lists i s h = λ j. entry e.0 (get_or-set_other lists i e.1 s [] h.0 j) ∷ listed_other places lists i s h.1 j

-- one list more behind
listed_more :
    (places : Placed) (lists : Lists) (s : List Section) → AreOwnPlaces places lists
    → listed places (lists ++ s ∷ []) ≡ listed places lists
listed_more [] lists s h = refl
listed_more (e ∷ places) lists s h =
    λ j. entry e.0 (get_or_append_left lists (s ∷ []) [] e.1 h.0 j) ∷ listed_more places lists s h.2 j

-- a new node with the last list
pub listed_new :
    (places : Placed) (lists : Lists) (n : Node) (s : List Section) → AreOwnPlaces places lists → IsNew n (listed places lists)
    → listed (put places n (length lists)) (lists ++ s ∷ []) ≡ with_sections (listed places lists) n s
listed_new [] lists n s h k = λ j. entry n (get_or_push lists s [] (length lists) refl j) ∷ []
listed_new (e ∷ places) lists n s h k = by_order (listed_new places lists n s h.2 k.1) (compare_nodes n e.0) k.0
  where
    by_order :
        listed (put places n (length lists)) (lists ++ s ∷ []) ≡ with_sections (listed places lists) n s → (o : Ordering) → is_eq o ≡ false
        → listed (put_by o e places n (length lists)) (lists ++ s ∷ [])
        ≡ with_by o (entry e.0 (get_or lists e.1 [])) (listed places lists) n s
    by_order r Less d = λ j. entry n (get_or_push lists s [] (length lists) refl j) ∷ listed_more (e ∷ places) lists s h j
    by_order r Equal d = absurd (true≢false d)
    by_order r Greater d = λ j. entry e.0 (get_or_append_left lists (s ∷ []) [] e.1 h.0 j) ∷ r j

-- ---- the places
-- places stay own behind a further list
own_more : (places : Placed) (lists : Lists) (s : List Section) → AreOwnPlaces places lists → AreOwnPlaces places (lists ++ s ∷ [])
own_more [] lists s h = tt
own_more (e ∷ places) lists s h =
    (let b = h.0 in let l = length-append lists (s ∷ []) in omega (arith, b, l), h.1, own_more places lists s h.2)

-- places stay own where one list is set
pub own_set : (places : Placed) (lists : Lists) (i : ℕ) (s : List Section) → AreOwnPlaces places lists → AreOwnPlaces places (set lists i s)
own_set [] lists i s h = tt
own_set (e ∷ places) lists i s h = (let b = h.0 in let l = length-set lists i s in omega (arith, b, l), h.1, own_set places lists i s h.2)

-- no node has the place behind the lists
free_behind : (places : Placed) (lists : Lists) → AreOwnPlaces places lists → IsFree (length lists) places
free_behind [] lists h = tt
free_behind (e ∷ places) lists h = (λ same. (let b = h.0 in omega (arith, b, same)), free_behind places lists h.2)

-- a place stays free where a node with another place is put in
free_put : (places : Placed) (n : Node) (k i : ℕ) → k ≢ i → IsFree i places → IsFree i (put places n k)
free_put [] n k i apart h = (apart, tt)
free_put (e ∷ places) n k i apart h = by_order (free_put places n k i apart h.1) (compare_nodes n e.0)
  where
    by_order :
        IsFree i (put places n k) → (o : Ordering)
        → IsFree i (put_by o e places n k)
    by_order r Less = (apart, h)
    by_order r Equal = (apart, h.1)
    by_order r Greater = (h.0, r)

-- places stay own where a node is put in with the place behind the lists
pub own_new :
    (places : Placed) (lists : Lists) (n : Node) (s : List Section) → AreOwnPlaces places lists
    → AreOwnPlaces (put places n (length lists)) (lists ++ s ∷ [])
own_new [] lists n s h = (let l = length-append lists (s ∷ []) in omega (arith, l), tt, tt)
own_new (e ∷ places) lists n s h = by_order (own_new places lists n s h.2) (compare_nodes n e.0)
  where
    last : length lists < length (lists ++ s ∷ [])
    last = let l = length-append lists (s ∷ []) in omega (arith, l)

    by_order :
        AreOwnPlaces (put places n (length lists)) (lists ++ s ∷ []) → (o : Ordering)
        → AreOwnPlaces (put_by o e places n (length lists)) (lists ++ s ∷ [])
    by_order r Less = (last, free_behind (e ∷ places) lists h, own_more (e ∷ places) lists s h)
    by_order r Equal = (last, free_behind places lists h.2, own_more places lists s h.2)
    by_order r Greater =
        ((own_more (e ∷ places) lists s h).0, free_put places n (length lists) e.1 (λ same. (let b = h.0 in omega (arith, b, same))) h.1, r)

-- ---- a node that is there
-- its place is there
pub place_there :
    (places : Placed) (lists : Lists) (n : Node) (at : ℕ) → AreOwnPlaces places lists → place_of n places ≡ Some at
    → at < length lists
place_there [] lists n at h found = cc
place_there (e ∷ places) lists n at h found = by_test (place_there places lists n at h.2) (is_at (compare_nodes n) e.0) found
  where
    by_test :
        (place_of n places ≡ Some at → at < length lists) → (b : Bool)
        → cond b (Some e.1) (place_of n places) ≡ Some at → at < length lists
    by_test r true same = let b = h.0 in let p : e.1 ≡ at = cc in omega (arith, b, p)
    by_test r false rest = r rest

-- and isn't a free one
place_apart : (places : Placed) (n : Node) (at i : ℕ) → IsFree i places → place_of n places ≡ Some at → at ≢ i
place_apart [] n at i h found = cc
place_apart (e ∷ places) n at i h found = by_test (place_apart places n at i h.1) (is_at (compare_nodes n) e.0) found
  where
    by_test : (place_of n places ≡ Some at → at ≢ i) → (b : Bool) → cond b (Some e.1) (place_of n places) ≡ Some at → at ≢ i
    by_test r true same = λ k. h.0 (let p : e.1 ≡ at = cc in p ∙ k)
    by_test r false rest = r rest

-- a node below the first of nodes that ascend isn't there
none_below :
    (places : Placed) (e : Node × ℕ) (n : Node) → IsStrictlySortedBy compare_nodes (keys_of (e ∷ places))
    → compare_nodes n e.0 ≡ Less → place_of n (e ∷ places) ≡ None
none_below places e n sorted below =
    lookup_at_gap (on_total point_at compare_points_total) n (e ∷ places) 0 sorted (λ j d before. absurd (omega arith))
    (λ d same. (let p : e ≡ d = cc in subst (λ (x : Node × ℕ). compare_nodes n x.0 ≡ Less) p below))

-- further sections at a node that is there
listed_there :
    (places : Placed) (lists : Lists) (n : Node) (at : ℕ) (more : List Section) → AreOwnPlaces places lists
    → IsStrictlySortedBy compare_nodes (keys_of places) → place_of n places ≡ Some at
    → listed places (set lists at (get_or lists at [] ++ more)) ≡ with_sections (listed places lists) n more
unfolding IsStrictlySortedBy
listed_there [] lists n at more h sorted found = cc
listed_there (e ∷ places) lists n at more h sorted found =
    by_order (listed_there places lists n at more h.2 sorted.1) (compare_nodes n e.0) refl found
  where
    by_order :
        (place_of n places ≡ Some at
        → listed places (set lists at (get_or lists at [] ++ more)) ≡ with_sections (listed places lists) n more)
        → (o : Ordering) → compare_nodes n e.0 ≡ o → cond (is_eq o) (Some e.1) (place_of n places) ≡ Some at
        → listed (e ∷ places) (set lists at (get_or lists at [] ++ more))
        ≡ with_by o (entry e.0 (get_or lists e.1 [])) (listed places lists) n more
    by_order r Less is rest = absurd (let none : place_of n (e ∷ places) ≡ None = none_below places e n sorted is in cc)
    by_order r Equal is same =
        let p : e.1 ≡ at = cc in
        let Longer : ℕ → Type 0 = λ a. get_or (set lists a (get_or lists a [] ++ more)) e.1 [] ≡ get_or lists e.1 [] ++ more in
        let here : Longer at = subst Longer p (get_or-set_same lists e.1 (get_or lists e.1 [] ++ more) [] h.0) in
        let free : IsFree at places = subst (λ (a : ℕ). IsFree a places) p h.1 in
        λ j. entry e.0 (here j) ∷ listed_other places lists at (get_or lists at [] ++ more) free j
    by_order r Greater is rest =
        let apart : e.1 ≢ at = λ k. place_apart places n at e.1 h.1 rest (sym k) in
        let before : get_or (set lists at (get_or lists at [] ++ more)) e.1 [] ≡ get_or lists e.1 [] =
        get_or-set_other lists at e.1 (get_or lists at [] ++ more) [] apart in
        λ j. entry e.0 (before j) ∷ r rest j

-- one list is replaced by a longer one
pub listed_pushed :
    (places : Placed) (lists : Lists) (n : Node) (at : ℕ) (more old new : List Section) → AreKept places lists
    → place_of n places ≡ Some at → old ≡ get_or lists at old → new ≡ old ++ more
    → listed places (set lists at new) ≡ with_sections (listed places lists) n more
listed_pushed places lists n at more old new kept found before after =
    let there : at < length lists = place_there places lists n at kept.own found in
    let longer : new ≡ get_or lists at [] ++ more =
    after ∙ ap (λ (z : List Section). z ++ more) (before ∙ get_or_default lists at old [] there) in
    ap (λ (z : List Section). listed places (set lists at z)) longer ∙ listed_there places lists n at more kept.own kept.ascending found

-- a node that is there, without further sections
pub listed_same :
    (places : Placed) (lists : Lists) (n : Node) → AreKept places lists → is_some (place_of n places) ≡ true
    → listed places lists ≡ with_sections (listed places lists) n []
listed_same places lists n kept found = by_place (place_of n places) refl found
  where
    by_place : (o : Option ℕ) → place_of n places ≡ o → is_some o ≡ true → listed places lists ≡ with_sections (listed places lists) n []
    by_place None is there = cc
    by_place (Some at) is there =
        let same : set lists at (get_or lists at [] ++ []) ≡ lists =
        ap (λ (z : List Section). set lists at z) (append-nil (get_or lists at [])) ∙ set-get_or lists at [] in
        ap (λ (z : Lists). listed places z) (sym same) ∙ listed_there places lists n at [] kept.own kept.ascending is

-- ---- a node that isn't there is new
pub new_from_none : (places : Placed) (lists : Lists) (n : Node) → is_some (place_of n places) ≡ false → IsNew n (listed places lists)
new_from_none [] lists n h = tt
new_from_none (e ∷ places) lists n h = by_test (new_from_none places lists n) (is_at (compare_nodes n) e.0) h
  where
    by_test :
        (is_some (place_of n places) ≡ false → IsNew n (listed places lists)) → (b : Bool)
        → is_some (cond b (Some e.1) (place_of n places)) ≡ false
        → (b ≡ false) × IsNew n (listed places lists)
    by_test r true none = absurd (true≢false none)
    by_test r false none = (refl, r none)

-- ---- nodes that ascend are in order
pub listed_in_order :
    (places : Placed) (lists : Lists) → IsStrictlySortedBy compare_nodes (keys_of places)
    → AreInOrder (listed places lists)
unfolding IsStrictlySortedBy
listed_in_order [] lists sorted = λ i j d below within. absurd (omega (arith, within))
listed_in_order (e ∷ places) lists sorted =
    AllPairs-cons (λ (d f : Entry). compare_nodes d.node f.node ≡ Less) (entry e.0 (get_or lists e.1 [])) (listed places lists)
    (All-from_recursion (λ (f : Entry). compare_nodes e.0 f.node ≡ Less) (listed places lists) (later places sorted.0))
    (listed_in_order places lists sorted.1)
  where
    later :
        (others : Placed) → AllByRecursion (λ m. compare_nodes e.0 m ≡ Less) (keys_of others)
        → AllByRecursion (λ (f : Entry). compare_nodes e.0 f.node ≡ Less) (listed others lists)
    later [] h = tt
    later (d ∷ others) h = (h.0, later others h.1)

-- ---- the first node is taken out
-- its place is own
pub own_first : (old new : Placed) (p : Node × ℕ) (lists : Lists) → old ≡ p ∷ new → AreOwnPlaces old lists → AreOwnPlaces (p ∷ new) lists
own_first old new p lists e h = subst (λ (z : Placed). AreOwnPlaces z lists) e h

-- it goes with its list, and another list stands at its place
pub first_taken :
    (old new : Placed) (n m : Node) (at : ℕ) (lists : Lists) (taken left d : List Section) → old ≡ (n, at) ∷ new → AreOwnPlaces old lists
    → m ≡ n → taken ≡ get_or lists at d → listed old lists ≡ entry m taken ∷ listed new (set lists at left)
first_taken old new n m at lists taken left d e h same t =
    let own = own_first old new (n, at) lists e h in
    let sections : get_or lists at [] ≡ taken = get_or_default lists at [] d own.0 ∙ sym t in
    let others : listed new lists ≡ listed new (set lists at left) = sym (listed_other new lists at left own.1) in
    (λ j. listed (e j) lists) ∙ (λ j. entry (sym same j) (sections j) ∷ others j)

-- no node, no entry
pub listed_none : (places : Placed) (lists : Lists) → ¬ (0 < length places) → listed places lists ≡ []
listed_none [] lists h = refl
listed_none (e ∷ places) lists h = absurd (h (omega arith))
