-- Pairs of names and bytes, looked through from the front.
use Rattle.std.proofs.Common.{◌≡◌, ℕ, ◌+◌, ◌<◌, Bool, cond, List, [], map, length, drop, get_or, Some, sym, ap, subst, ◌∙◌, bytes_eq}
use Rattle.std.proofs.lemmas.List.{at_drop_more, get_or-map, length-map}
use Rattle.geosop_io.specs.Pairs.{bytes_of}

-- the pair at a place, where an item there stands for it
pub pair_at : {X : Type 0} (pair_of : X → List ℕ × List ℕ) (items read : List X) (pairs : List (List ℕ × List ℕ)) (i : ℕ) (item : X)
    → read ≡ items → map pair_of items ≡ pairs → i < length read → item ≡ get_or read i item
    → (i < length pairs) × (get_or pairs i ([], []) ≡ pair_of item)
pair_at pair_of items read pairs i item same view below is =
    subst (λ all. (i < length all) × (get_or all i ([], []) ≡ pair_of item)) (ap (map pair_of) same ∙ view) (
      subst (λ n. i < n) (sym (length-map read pair_of)) below,
      get_or-map pair_of read i item ([], []) below ∙ ap pair_of (sym is),
    )

-- what is found from a place on, by whether the pair there has the name
pub bytes_of-drop : (pairs : List (List ℕ × List ℕ)) (name : List ℕ) (i : ℕ) (pair : List ℕ × List ℕ) (key : List ℕ) (has : Bool)
    → (i < length pairs) × (get_or pairs i ([], []) ≡ pair) → key ≡ pair.0 → has ≡ bytes_eq key name
    → bytes_of (drop i pairs) name ≡ cond has (Some (get_or pairs i ([], [])).1) (bytes_of (drop (i + 1) pairs) name)
bytes_of-drop pairs name i pair key has here is test =
    at_drop_more (λ rest. bytes_of rest name) pairs i ([], []) here.0
    ∙ ap (λ b. cond b (Some (get_or pairs i ([], [])).1) (bytes_of (drop (i + 1) pairs) name))
    (ap (λ p. bytes_eq p.0 name) here.1 ∙ ap (λ k. bytes_eq k name) (sym is) ∙ sym test)
