-- Lists whose items are written, while what is seen of each stays.
use Rattle.std.proofs.Common.{◌≡◌, ℕ, ◌<◌, ◌≤◌, List, sym, subst, ap, ◌∙◌, length, get_or, map}
use Rattle.std.specs.List.{All}
use Rattle.std.proofs.Math.ListN.{get_or-map}
use Rattle.std.proofs.lemmas.List.{length-map}

-- as much is seen as there are items
pub seen_within : {X Y : Type 0} (f : X → Y) (xs : List X) (i : ℕ) → i < length xs → i < length (map f xs)
seen_within f xs i within = subst (λ n. i < n) (sym (length-map xs f)) within

-- and past the last item it is past the last of them
pub seen_past : {X Y : Type 0} (f : X → Y) (xs : List X) (i : ℕ) → length xs ≤ i → length (map f xs) ≤ i
seen_past f xs i past = subst (λ n. n ≤ i) (sym (length-map xs f)) past

-- what is seen of one item is at its place in what is seen of all
pub item_seen : {X Y : Type 0} (f : X → Y) (xs : List X) (ys : List Y) (i : ℕ) (d : X) → map f xs ≡ ys
    → f (get_or xs i d) ≡ get_or ys i (f d)
item_seen f xs ys i d same = sym (get_or-map f xs i d) ∙ ap (λ all. get_or all i (f d)) same

-- what holds of all that is seen holds of what is seen of one item
pub item_holds : {X Y : Type 0} (f : X → Y) (P : Y → Type 0) (xs : List X) (ys : List Y) (i : ℕ) (d : X) → map f xs ≡ ys → All P ys
    → i < length ys → P (f (get_or xs i d))
item_holds f P xs ys i d same h within =
    subst P (sym (item_seen f xs ys i d same)) (h i (f d) within)
