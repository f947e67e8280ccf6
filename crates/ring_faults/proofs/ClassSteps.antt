-- Rings that get a label one after another, and two classes that become one.
use Rattle.std.proofs.Common.{◌≡◌, ◌≢◌, ◌⊎◌, inl, inr, ℕ, ◌<◌, ◌≤◌, ◌+◌, Some, List, [], ◌∷◌, ◌++◌, length, map, take, set, get_or, ap, sym}
use Rattle.std.proofs.Common.{◌∙◌, subst, arith}
use Rattle.std.specs.List.{All, Contains, range_with_len}
use Rattle.std.proofs.lemmas.Bool.{cases_eq, cases_lt}
use Rattle.std.proofs.lemmas.List.{length-set, length-map, get_or-set_same, get_or-set_other, get_or_past, get_or-map, map-set, set_comm}
use Rattle.std.proofs.lemmas.List.{set-get_or, set-set, take_more, with_items_is}
use Rattle.std.proofs.lemmas.List.Elements.{Contains-get_or, Contains-append_left, Contains-append_right, Contains-append_cases}
use Rattle.std.proofs.lemmas.List.Elements.{Contains-push, Contains-push_cases, All-from_get_or}
use Rattle.std.proofs.lemmas.List.FromFn.{get_or-range_with_len, length-range_with_len}
use Rattle.std.proofs.lemmas.Option.{slice_get-get_or, slice_get_within, get_or_from_slice_get}
use Rattle.std.specs.Vec.{with_items}
use Rattle.std.specs.declared.alloc.Global.{Global}
use Rattle.std.specs.declared.vec.Vec.{Vec}
use Rattle.point_set.specs.Validity.{IsAtPlace}
use Rattle.ring_faults.specs.Classes.{lists_of, IsListed, AreClasses, ArePutUnder}
use Rattle.ring_faults.specs.Links.{IsRelabelled}
use Rattle.ring_faults.proofs.Labels.{one_label, own_label, WasLabel, was_label}

-- ---- rings that get a label
-- a written place
set_here : (xs : List ℕ) (i x : ℕ) → i < length xs → IsAtPlace (set xs i x) i x
set_here xs i x below =
    let there : i < length (set xs i x) = omega (arith, below, length-set xs i x) in
    slice_get-get_or (set xs i x) i x there ∙ ap Some (get_or-set_same xs i x x below)

-- and another
set_elsewhere : (xs : List ℕ) (i j x y : ℕ) → j ≢ i → IsAtPlace xs j y → IsAtPlace (set xs i x) j y
set_elsewhere xs i j x y other h =
    let below = slice_get_within xs j y h in
    let there : j < length (set xs i x) = omega (arith, below, length-set xs i x) in
    slice_get-get_or (set xs i x) j y there ∙ ap Some (get_or-set_other xs i j x y other ∙ get_or_from_slice_get xs j y y h)

-- the empty list has no rings
none_listed : (x : ℕ) → ¬ Contains [] x
none_listed x h = let below = h.1 in omega (arith, below)

-- one ring more
module _ (label : ℕ) (rings labels new : List ℕ) (last : ℕ) (below : last < length labels) (so : ArePutUnder label rings labels new) where
  -- it has the label
  last_put : IsAtPlace (set new last label) last label
  last_put = let e = so.length_same in set_here new last label (omega arith)

  -- and so have those before it
  more_put : (ring : ℕ) → Contains (rings ++ last ∷ []) ring → IsAtPlace (set new last label) ring label
  more_put ring h = by (cases_eq ring last) (Contains-push_cases rings last ring h)
    where
      by :
          (ring ≡ last) ⊎ (ring ≡ last → ⊥) → Contains rings ring ⊎ (last ≡ ring)
          → IsAtPlace (set new last label) ring label
      by (inl same) there = subst (λ z. IsAtPlace (set new last label) z label) (sym same) last_put
      by (inr other) (inl there) = set_elsewhere new last ring label label other (so.put ring there)
      by (inr other) (inr same) = absurd (other (sym same))

  -- and the others keep theirs
  more_kept : (ring old : ℕ) → ¬ Contains (rings ++ last ∷ []) ring → IsAtPlace labels ring old → IsAtPlace (set new last label) ring old
  more_kept ring old h at =
      set_elsewhere new last ring label old (λ same. h (subst (λ z. Contains (rings ++ last ∷ []) z) (sym same) (Contains-push rings last)))
      (so.kept ring old (λ there. h (Contains-append_left rings (last ∷ []) ring there)) at)

  -- so one ring more is put under the label
  put_more : ArePutUnder label (rings ++ last ∷ []) labels (set new last label)
  put_more = record { length_same = length-set new last label ∙ so.length_same; put = more_put; kept = more_kept }

-- the next ring of a list
pub put_next :
    (label : ℕ) (rings labels new : List ℕ) (i ring : ℕ) → i < length rings → ring ≡ get_or rings i ring → ring < length labels
    → ArePutUnder label (take i rings) labels new → ArePutUnder label (take (i + 1) rings) labels (set new ring label)
put_next label rings labels new i ring within is below so =
    subst (λ (some : List ℕ). ArePutUnder label some labels (set new ring label))
    (sym (take_more rings i ring within ∙ ap (λ (z : ℕ). take i rings ++ z ∷ []) (sym is)))
    (put_more label (take i rings) labels new ring below so)

-- ---- each ring in a class of its own
-- the list of a ring alone
abbrev pub alone : ℕ → List ℕ
alone ring = ring ∷ []

module _ (count : ℕ) where
  -- the label of a ring
  own_at : (ring : ℕ) → ring < count → get_or (range_with_len 0 count) ring 0 ≡ ring
  own_at ring below = let e = get_or-range_with_len 0 count ring 0 below in omega (arith, e)

  -- the list of a label
  own_lists_at : (ring : ℕ) → ring < count → get_or (map alone (range_with_len 0 count)) ring [] ≡ alone ring
  own_lists_at ring below =
      let within : ring < length (range_with_len 0 count) = omega (arith, length-range_with_len 0 count) in
      get_or-map alone (range_with_len 0 count) ring 0 [] within ∙ ap alone (own_at ring below)

  -- a ring is in its list
  alone_listed : (ring : ℕ) → ring < count → IsListed (map alone (range_with_len 0 count)) ring ring
  alone_listed ring below = subst (λ (some : List ℕ). Contains some ring) (sym (own_lists_at ring below)) (Contains-push [] ring)

  -- so it is in the list of its label
  own_whole : (ring label : ℕ) → IsAtPlace (range_with_len 0 count) ring label → IsListed (map alone (range_with_len 0 count)) label ring
  own_whole ring label h =
      let within = slice_get_within (range_with_len 0 count) ring label h in
      let below : ring < count = omega (arith, within, length-range_with_len 0 count) in
      subst (λ z. IsListed (map alone (range_with_len 0 count)) z ring) (own_label count ring label h) (alone_listed ring below)

  -- and in no other
  own_own : (ring label : ℕ) → IsListed (map alone (range_with_len 0 count)) label ring → IsAtPlace (range_with_len 0 count) ring label
  own_own ring label h = by (cases_lt label count)
    where
      within : label < count → label < length (range_with_len 0 count)
      within below = omega (arith, length-range_with_len 0 count)

      long : length (map alone (range_with_len 0 count)) ≡ count
      long = length-map (range_with_len 0 count) alone ∙ length-range_with_len 0 count

      same_of : Contains [] ring ⊎ (label ≡ ring) → label ≡ ring
      same_of (inl there) = absurd (none_listed ring there)
      same_of (inr same) = same

      by : (label < count) ⊎ (count ≤ label) → IsAtPlace (range_with_len 0 count) ring label
      by (inl below) =
          let there : Contains (alone label) ring = subst (λ (some : List ℕ). Contains some ring) (own_lists_at label below) h in
          let same : label ≡ ring = same_of (Contains-push_cases [] label ring there) in
          subst (λ z. IsAtPlace (range_with_len 0 count) z label) same
          (slice_get-get_or (range_with_len 0 count) label 0 (within below) ∙ ap Some (own_at label below))
      by (inr past) =
          absurd (none_listed ring (subst (λ (some : List ℕ). Contains some ring)
          (get_or_past (map alone (range_with_len 0 count)) label [] (omega (arith, long))) h))

  -- classes of one ring each
  pub own_classes : AreClasses (range_with_len 0 count) (map alone (range_with_len 0 count))
  own_classes = record {
    many = length-map (range_with_len 0 count) alone;
    whole = own_whole;
    own = own_own;
  }

-- ---- two classes become one
module _ (labels : List ℕ) (lists : List (List ℕ)) (so : AreClasses labels lists) where
  -- a label with a ring is the place of a list
  listed_within : (label ring : ℕ) → IsListed lists label ring → label < length lists
  listed_within label ring h = by (cases_lt label (length lists))
    where
      by : (label < length lists) ⊎ (length lists ≤ label) → label < length lists
      by (inl below) = below
      by (inr past) = absurd (none_listed ring (subst (λ (some : List ℕ). Contains some ring) (get_or_past lists label [] past) h))

  -- so a ring's label is the place of a list
  pub label_within : (ring label : ℕ) → IsAtPlace labels ring label → label < length labels
  label_within ring label h = let e = so.many in let k = listed_within label ring (so.whole ring label h) in omega (arith, e, k)

  -- the rings of a label are rings
  listed_rings : (label : ℕ) → All (λ ring. ring < length labels) (get_or lists label [])
  listed_rings label = All-from_get_or (λ ring. ring < length labels) (get_or lists label []) 0
      (λ i below. slice_get_within labels (get_or (get_or lists label []) i 0) label
      (so.own (get_or (get_or lists label []) i 0) label (Contains-get_or (get_or lists label []) i 0 below)))

  module _ (from to : ℕ) (other : from ≢ to) (from_below : from < length labels) (to_below : to < length labels) where
    -- what the lists become when those rings are put there
    abbrev joined_lists : List ℕ → List (List ℕ)
    joined_lists rings = set (set lists from []) to rings

    -- nothing changes where they are put back
    put_back : set (joined_lists (get_or lists to [])) from (get_or lists from []) ≡ lists
    put_back =
        ap (λ (some : List (List ℕ)). set some from (get_or lists from []))
        (set_comm lists from to [] (get_or lists to []) other ∙ ap (λ (some : List (List ℕ)). set some from []) (set-get_or lists to []))
        ∙ set-set lists from [] (get_or lists from []) ∙ set-get_or lists from []

    module _ (new : List ℕ) (put : ArePutUnder to (get_or lists from []) labels new) where
      -- one label stands in place of the other
      relabelled : IsRelabelled from to labels new
      relabelled = record {
        length_same = put.length_same;
        replaced = λ ring at. put.put ring (so.whole ring from at);
        kept = λ ring label apart at.
            put.kept ring label (λ listed. apart (one_label labels ring label from at (so.own ring from listed))) at;
      }

      -- the lists then
      abbrev after : List (List ℕ)
      after = joined_lists (get_or lists to [] ++ get_or lists from [])

      -- the list of the label that stays
      at_to : get_or after to [] ≡ get_or lists to [] ++ get_or lists from []
      at_to =
          let e = so.many in
          get_or-set_same (set lists from []) to (get_or lists to [] ++ get_or lists from []) []
          (omega (arith, length-set lists from []))

      -- that of the one that goes
      at_from : get_or after from [] ≡ []
      at_from =
          let e = so.many in
          get_or-set_other (set lists from []) to from (get_or lists to [] ++ get_or lists from []) [] other
          ∙ get_or-set_same lists from [] [] (omega arith)

      -- and those of the others
      at_other : (label : ℕ) → label ≢ from → label ≢ to → get_or after label [] ≡ get_or lists label []
      at_other label else nor =
          get_or-set_other (set lists from []) to label (get_or lists to [] ++ get_or lists from []) [] nor
          ∙ get_or-set_other lists from label [] [] else

      -- a list, and what is in it
      listed_by : (label ring : ℕ) (some : List ℕ) → get_or after label [] ≡ some → Contains some ring → IsListed after label ring
      listed_by label ring some e h = subst (λ (l : List ℕ). Contains l ring) (sym e) h

      -- each ring is in the list of its new label
      after_whole : (ring label : ℕ) → IsAtPlace new ring label → IsListed after label ring
      after_whole ring label h = by (was_label from to labels new relabelled ring label h) (cases_eq label to)
        where
          by : WasLabel from to labels new relabelled ring label → (label ≡ to) ⊎ (label ≡ to → ⊥) → IsListed after label ring
          by (inl was) at =
              subst (λ z. IsListed after z ring) (sym was.1) (listed_by to ring _ at_to
              (Contains-append_right (get_or lists to []) (get_or lists from []) ring (so.whole ring from was.0)))
          by (inr was) (inl same) =
              subst (λ z. IsListed after z ring) (sym same) (listed_by to ring _ at_to
              (Contains-append_left (get_or lists to []) (get_or lists from []) ring
              (so.whole ring to (was.0 ∙ ap Some same))))
          by (inr was) (inr nor) = listed_by label ring _ (at_other label was.1 nor) (so.whole ring label was.0)

      -- and in no other
      after_own : (ring label : ℕ) → IsListed after label ring → IsAtPlace new ring label
      after_own ring label h = by (cases_eq label to) (cases_eq label from)
        where
          in_to : Contains (get_or lists to []) ring ⊎ Contains (get_or lists from []) ring → IsAtPlace new ring to
          in_to (inl there) = relabelled.kept ring to (λ e. other (sym e)) (so.own ring to there)
          in_to (inr there) = put.put ring there

          by : (label ≡ to) ⊎ (label ≡ to → ⊥) → (label ≡ from) ⊎ (label ≡ from → ⊥) → IsAtPlace new ring label
          by (inl same) at =
              let there : IsListed after to ring = subst (λ z. IsListed after z ring) same h in
              subst (λ z. IsAtPlace new ring z) (sym same)
              (in_to (Contains-append_cases (get_or lists to []) (get_or lists from []) ring
              (subst (λ (l : List ℕ). Contains l ring) at_to there)))
          by (inr nor) (inl same) =
              let there : IsListed after from ring = subst (λ z. IsListed after z ring) same h in
              absurd (none_listed ring (subst (λ (l : List ℕ). Contains l ring) at_from there))
          by (inr nor) (inr else) =
              relabelled.kept ring label else
              (so.own ring label (subst (λ (l : List ℕ). Contains l ring) (at_other label else nor) h))

      -- so these are classes again
      joined_classes : AreClasses new after
      joined_classes =
          let long : length after ≡ length lists =
          length-set (set lists from []) to (get_or lists to [] ++ get_or lists from []) ∙ length-set lists from [] in
          record { many = long ∙ so.many ∙ sym put.length_same; whole = after_whole; own = λ ring label h. after_own ring label h }

-- ---- what the code reads and writes
-- a list that is read
list_at :
    (members : List (Vec ℕ Global)) (label : ℕ) (v : Vec ℕ Global) → label < length members → v ≡ get_or members label v
    → v.items ≡ get_or (lists_of members) label []
list_at members label v below is =
    ap (λ (w : Vec ℕ Global). w.items) is ∙ sym (get_or-map (λ (w : Vec ℕ Global). w.items) members label v [] below)

-- a list that is written
list_set :
    (members : List (Vec ℕ Global)) (label : ℕ) (v : Vec ℕ Global) (some : List ℕ) → v.items ≡ some
    → lists_of (set members label v) ≡ set (lists_of members) label some
list_set members label v some is =
    map-set (λ (w : Vec ℕ Global). w.items) members label v ∙ ap (λ (l : List ℕ). set (lists_of members) label l) is

-- one class's list is taken out, with an empty one in its place, and another's list is read
module _ (kept : Vec ℕ Global) (members : List (Vec ℕ Global)) (value : List ℕ) (view_is : kept.items ≡ value)
    (so : AreClasses kept.items (lists_of members)) (from to : ℕ) (from_within : from < length value) (to_within : to < length value)
    (other : from ≢ to) (fresh empty there first second : Vec ℕ Global) (fresh_is : fresh.items ≡ []) (empty_is : empty ≡ fresh)
    (there_is : there ≡ get_or members from there) (first_is : first ≡ there)
    (second_is : second ≡ get_or (set members from empty) to second) where
  -- both labels are places of lists
  from_below : from < length kept.items
  from_below = omega (arith, from_within, ap length view_is)

  -- the second one too
  to_below : to < length kept.items
  to_below = omega (arith, to_within, ap length view_is)

  -- there are as many lists as rings
  long : length members ≡ length kept.items
  long = sym (length-map members (λ (v : Vec ℕ Global). v.items)) ∙ so.many

  -- the one in its place is empty
  is_empty : empty.items ≡ []
  is_empty = ap (λ (v : Vec ℕ Global). v.items) empty_is ∙ fresh_is

  -- the list that is taken out
  first_list : first.items ≡ get_or (lists_of members) from []
  first_list =
      let below = from_below in
      ap (λ (v : Vec ℕ Global). v.items) first_is ∙ list_at members from there (omega (arith, below, long)) there_is

  -- the list that is read
  second_list : second.items ≡ get_or (lists_of members) to []
  second_list =
      let below = to_below in
      list_at (set members from empty) to second (omega (arith, below, long, length-set members from empty)) second_is
      ∙ ap (λ (l : List (List ℕ)). get_or l to []) (list_set members from empty [] is_empty)
      ∙ get_or-set_other (lists_of members) from to [] [] (λ e. other (sym e))

  -- what the lists are where another one is written in the second place
  written :
      (third : Vec ℕ Global) (some : List ℕ) → third.items ≡ some
      → lists_of (set (set members from empty) to third)
      ≡ joined_lists kept.items (lists_of members) so from to other from_below to_below some
  written third some is =
      list_set (set members from empty) to third some is
      ∙ ap (λ (l : List (List ℕ)). set l to some) (list_set members from empty [] is_empty)

  -- what is taken out are rings
  pub taken_rings :
      (rings labels : List ℕ) → rings ≡ first.items → labels ≡ kept.items → All (λ ring. ring < length labels) rings
  taken_rings rings labels rings_are labels_are =
      subst (λ (l : List ℕ). All (λ ring. ring < length l) rings) (sym labels_are)
      (subst (λ (l : List ℕ). All (λ ring. ring < length kept.items) l) (sym (rings_are ∙ first_list))
      (listed_rings kept.items (lists_of members) so from))

  -- where there is no memory, it is put back
  pub classes_again :
      (third : Vec ℕ Global) → third.items ≡ second.items
      → AreClasses kept.items (lists_of (set (set (set members from empty) to third) from first))
  classes_again third is =
      subst (λ (l : List (List ℕ)). AreClasses kept.items l)
      (sym (list_set (set (set members from empty) to third) from first (get_or (lists_of members) from []) first_list
      ∙ ap (λ (l : List (List ℕ)). set l from (get_or (lists_of members) from []))
      (written third (get_or (lists_of members) to []) (is ∙ second_list))
      ∙ put_back kept.items (lists_of members) so from to other from_below to_below))
      so

  -- else it goes to the other class
  module _ (rings labels new : List ℕ) (rings_are : rings ≡ first.items) (labels_are : labels ≡ kept.items)
      (put : ArePutUnder to rings labels new) where
    -- the rings of that class have the label
    put_first : ArePutUnder to (get_or (lists_of members) from []) kept.items new
    put_first =
        subst (λ (l : List ℕ). ArePutUnder to l kept.items new) (rings_are ∙ first_list)
        (subst (λ (l : List ℕ). ArePutUnder to rings l new) labels_are put)

    -- the labels that are kept then
    new_is : (with_items kept new).items ≡ new
    new_is = let all = put_first in with_items_is kept new (all.length_same ∙ sym kept.ok.0)

    -- one label stands in place of the other
    pub put_relabelled : IsRelabelled from to value (with_items kept new).items
    put_relabelled =
        subst (λ (l : List ℕ). IsRelabelled from to l (with_items kept new).items) view_is
        (subst (λ (l : List ℕ). IsRelabelled from to kept.items l) (sym new_is)
        (relabelled kept.items (lists_of members) so from to other from_below to_below new put_first))

    -- and the lists are those of the labels
    pub put_classes :
        (third : Vec ℕ Global) (some : List ℕ) → third.items ≡ second.items ++ some → some ≡ first.items
        → AreClasses (with_items kept new).items (lists_of (set (set members from empty) to third))
    put_classes third some is some_is =
        let lists = lists_of members in
        let joined : third.items ≡ get_or lists to [] ++ get_or lists from [] =
        is ∙ ap (λ (l : List ℕ). l ++ some) second_list ∙ ap (λ (l : List ℕ). get_or lists to [] ++ l) (some_is ∙ first_list) in
        subst (λ (l : List ℕ). AreClasses l (lists_of (set (set members from empty) to third))) (sym new_is)
        (subst (λ (l : List (List ℕ)). AreClasses new l) (sym (written third (get_or lists to [] ++ get_or lists from []) joined))
        (joined_classes kept.items lists so from to other from_below to_below new put_first))
