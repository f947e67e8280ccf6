-- A line that is put into an ascending list of distinct lines is among them, and so are all that were.
use Rattle.std.proofs.Common.{◌≡◌, ◌⊎◌, inl, inr, ℕ, zero, suc, List, [], ◌∷◌, ◌++◌, map, refl, sym, arith}
use Rattle.std.specs.List.{All, AllByRecursion, Contains}
use Rattle.std.specs.List.Sorted.{IsStrictlySortedBy}
use Rattle.std.specs.declared.cmp.Ordering.{Ordering}
use Rattle.std.specs.declared.cmp.Ordering.TheVariants.{Less, Equal, Greater}
use Rattle.std.specs.Ordering.{nat_cmp, match_ordering}
use Rattle.std.specs.Cmp.Lexicographic.{slice_cmp}
use Rattle.std.specs.BTreeSet.{insert_key}
use Rattle.std.proofs.lemmas.List.Elements.{All-map, All-push, All-weaker, Contains-append_right}
use Rattle.std.proofs.lemmas.Map.Lookups.{exact_bytes}
use Rattle.std.proofs.lemmas.Map.Views.{All-insert_key}
use Rattle.line_summary.specs.Summary.{AreDistinctOf}

-- ---- a list of one more line
contains_first : (first line : List ℕ) (others : List (List ℕ)) → first ≡ line → Contains (first ∷ others) line
contains_first first line others same = (0, omega arith, same)

contains_later : (first line : List ℕ) (others : List (List ℕ)) → Contains others line → Contains (first ∷ others) line
contains_later first line others h = Contains-append_right (first ∷ []) others line h

contains_cases : (first line : List ℕ) (others : List (List ℕ)) → Contains (first ∷ others) line → (first ≡ line) ⊎ Contains others line
contains_cases first line others (zero, within, at) = inl at
contains_cases first line others (suc place, within, at) = inr (place, omega (arith, within), at)

module _ {K : Type 0} (bytes : K → List ℕ) where
  -- the order of keys by their lines
  abbrev pub order : K → K → Ordering
  order x y = slice_cmp nat_cmp (bytes x) (bytes y)

  -- The keys ascend, their lines are among some, and those seen so far are among them.
  pub record AreDistinctSoFar (lines seen : List (List ℕ)) (keys : List K) : Type 0 where
    pub ascending : IsStrictlySortedBy order keys
    pub none_else : All (λ key. Contains lines (bytes key)) keys
    pub none_left : All (Contains (map bytes keys)) seen

  -- ---- a key put in
  -- the lines before are among those after
  kept_among :
      (line : List ℕ) (keys : List K) (key : K) → Contains (map bytes keys) line → Contains (map bytes (insert_key order keys key)) line
  kept_among line [] key h = contains_later (bytes key) line [] h
  kept_among line (first ∷ others) key h =
      go (order key first) (contains_cases (bytes first) line (map bytes others) h) (kept_among line others key)
    where
      go : (o : Ordering) → (bytes first ≡ line) ⊎ Contains (map bytes others) line
          → (Contains (map bytes others) line → Contains (map bytes (insert_key order others key)) line)
          → Contains (map bytes (match_ordering o (key ∷ first ∷ others) (first ∷ others) (first ∷ insert_key order others key))) line
      go Less cases kept = contains_later (bytes key) line (map bytes (first ∷ others)) h
      go Equal cases kept = h
      go Greater (inl same) kept = contains_first (bytes first) line (map bytes (insert_key order others key)) same
      go Greater (inr later) kept = contains_later (bytes first) line (map bytes (insert_key order others key)) (kept later)

  -- and the key's line is
  put_among : (keys : List K) (key : K) → Contains (map bytes (insert_key order keys key)) (bytes key)
  put_among [] key = contains_first (bytes key) (bytes key) [] refl
  put_among (first ∷ others) key = go (order key first) refl (put_among others key)
    where
      go : (o : Ordering) → order key first ≡ o → Contains (map bytes (insert_key order others key)) (bytes key)
          → Contains (map bytes (match_ordering o (key ∷ first ∷ others) (first ∷ others) (first ∷ insert_key order others key)))
          (bytes key)
      go Less is put = contains_first (bytes key) (bytes key) (map bytes (first ∷ others)) refl
      go Equal is put = contains_first (bytes first) (bytes key) (map bytes others) (sym (exact_bytes (bytes key) (bytes first) is))
      go Greater is put = contains_later (bytes first) (bytes key) (map bytes (insert_key order others key)) put

  -- ---- ascending keys are ascending lines
  above_all : (key : K) (keys : List K) → AllByRecursion (λ other. order key other ≡ Less) keys
      → AllByRecursion (λ line. slice_cmp nat_cmp (bytes key) line ≡ Less) (map bytes keys)
  above_all key [] h = h
  above_all key (first ∷ others) h = (h.0, above_all key others h.1)

  lines_ascend : (keys : List K) → IsStrictlySortedBy order keys → IsStrictlySortedBy (slice_cmp nat_cmp) (map bytes keys)
  unfolding IsStrictlySortedBy
  lines_ascend [] h = h
  lines_ascend (first ∷ others) h = (above_all first others h.0, lines_ascend others h.1)

  -- ---- the loop's steps
  -- one more line is seen
  pub one_more : (lines seen : List (List ℕ)) (keys : List K) (key : K) → Contains lines (bytes key)
      → IsStrictlySortedBy order (insert_key order keys key) → AreDistinctSoFar lines seen keys
      → AreDistinctSoFar lines (seen ++ bytes key ∷ []) (insert_key order keys key)
  one_more lines seen keys key there sorted h = record {
    ascending = sorted;
    none_else = All-insert_key order key (λ other. Contains lines (bytes other)) keys h.none_else there;
    none_left = All-push (Contains (map bytes (insert_key order keys key))) seen (bytes key)
        (All-weaker (Contains (map bytes keys)) (Contains (map bytes (insert_key order keys key)))
        (λ line. kept_among line keys key) seen h.none_left)
        (put_among keys key);
  }

  -- all are seen
  pub all_seen : (lines : List (List ℕ)) (keys : List K) → AreDistinctSoFar lines lines keys → AreDistinctOf lines (map bytes keys)
  all_seen lines keys h = record {
    ascending = lines_ascend keys h.ascending;
    none_else = All-map (Contains lines) bytes keys h.none_else;
    none_left = h.none_left;
  }
