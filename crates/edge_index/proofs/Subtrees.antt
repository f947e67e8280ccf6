-- The places of the rows of a tree, subtree by subtree: each place of the list is in the subtree of the root once.
use Rattle.std.proofs.Common.{◌≡◌, ℕ, zero, suc, ◌+◌, ◌-◌, ◌*◌, ◌<◌, ◌≤◌, ◌⊎◌, inl, inr, List, [], ◌∷◌, ◌++◌, refl, sym, ap, subst, subst₂}
use Rattle.std.proofs.Common.{arith}
use Rattle.std.specs.List.{range_with_len}
use Rattle.std.specs.List.Sorted.{IsPermutation}
use Rattle.std.proofs.lemmas.Bool.{cases_lt}
use Rattle.std.proofs.lemmas.List.{append_assoc, append-nil}
use Rattle.std.proofs.lemmas.List.Sorted.{IsPermutation-refl, IsPermutation-cons, IsPermutation-append_comm, IsPermutation-trans}

-- the places of the subtree of a place, of a list of so many rows: the place itself, then those below its left and its right child
pub data Subtree (rows : ℕ) : ℕ → List ℕ → Type 0 where
  none : (place : ℕ) → rows ≤ place → Subtree rows place []
  some :
      (place : ℕ) (left right : List ℕ) → place < rows → Subtree rows (2 * place + 1) left → Subtree rows (2 * place + 2) right
      → Subtree rows place (place ∷ (left ++ right))

-- each place has a subtree
pub subtree : (rows room place : ℕ) → rows ≤ room + place → (places : List ℕ) × Subtree rows place places
subtree rows zero place h = ([], none place (omega arith))
subtree rows (suc room) place h = by_case (cases_lt place rows)
    (λ (within : place < rows). subtree rows room (2 * place + 1) (omega arith))
    (λ (within : place < rows). subtree rows room (2 * place + 2) (omega arith))
  where
    by_case :
        (place < rows) ⊎ (rows ≤ place) → (place < rows → (left : List ℕ) × Subtree rows (2 * place + 1) left)
        → (place < rows → (right : List ℕ) × Subtree rows (2 * place + 2) right) → (places : List ℕ) × Subtree rows place places
    by_case (inl within) left right =
        (place ∷ ((left within).0 ++ (right within).0), some place (left within).0 (right within).0 within (left within).1 (right within).1)
    by_case (inr past) left right = ([], none place past)

-- past the last row there is no subtree
pub subtree_past : {rows place : ℕ} {places : List ℕ} → Subtree rows place places → rows ≤ place → places ≡ []
subtree_past (none place past) h = refl
subtree_past (some place left right within l r) h = absurd (omega arith)

-- the places of the subtrees of neighbouring places, one after another: from a place on, so many subtrees
pub data Forest (rows : ℕ) : ℕ → ℕ → List ℕ → Type 0 where
  end : (place : ℕ) → Forest rows place zero []
  more :
      (place count : ℕ) (first others : List ℕ) → Subtree rows place first → Forest rows (suc place) count others
      → Forest rows place (suc count) (first ++ others)

-- two more subtrees at the end
forest_more :
    {rows place count : ℕ} {places : List ℕ} → Forest rows place count places → (next : ℕ) (left right : List ℕ) → next ≡ place + count
    → Subtree rows next left → Subtree rows (suc next) right → Forest rows place (suc (suc count)) (places ++ (left ++ right))
forest_more {rows} (end place) next left right e l r =
    let same : next ≡ place = omega arith in
    let first : Subtree rows place left = subst (λ (p : ℕ). Subtree rows p left) same l in
    let second : Subtree rows (suc place) right = subst (λ (p : ℕ). Subtree rows (suc p) right) same r in
    subst (λ (ps : List ℕ). Forest rows place (suc (suc zero)) (left ++ ps)) (append-nil right)
    (more place (suc zero) left (right ++ []) first (more (suc place) zero right [] second (end (suc (suc place)))))
forest_more {rows} (more place count first others tree forest) next left right e l r =
    let rest = forest_more forest next left right (omega arith) l r in
    subst (λ (ps : List ℕ). Forest rows place (suc (suc (suc count))) ps) (sym (append_assoc first others (left ++ right)))
    (more place (suc (suc count)) first (others ++ (left ++ right)) tree rest)

-- past the last row there is nothing
forest_past : {rows place count : ℕ} {places : List ℕ} → rows ≤ place → Forest rows place count places → places ≡ []
forest_past h (end place) = refl
forest_past h (more place count first others (none place' past) forest) = forest_past (omega arith) forest
forest_past h (more place count first others (some place' left right within l r) forest) = absurd (omega arith)

-- The subtrees of the places from a up to 2 * a have all places from a on: the children of a are the two places that follow 2 * a.
forest_places :
    {rows place count : ℕ} {places : List ℕ} (room : ℕ) → rows ≤ room + place → Forest rows place count places → count ≡ suc place
    → IsPermutation (range_with_len place (rows - place)) places
forest_places {rows} zero h (end place) e = absurd (omega arith)
forest_places {rows} zero h (more place count first others tree forest) e =
    let none_left : rows - place ≡ 0 = omega arith in
    rw (none_left, forest_past (omega arith) (more place count first others tree forest)) (IsPermutation-refl [])
forest_places {rows} (suc room) h (end place) e = absurd (omega arith)
forest_places {rows} (suc room) h (more place count first others (none place' past) forest) e =
    let none_left : rows - place ≡ 0 = omega arith in
    rw (none_left, forest_past (omega arith) forest) (IsPermutation-refl [])
forest_places {rows} (suc room) h (more place count first others (some place' left right within l r) forest) e =
    let l' : Subtree rows (suc place + count) left = subst (λ (p : ℕ). Subtree rows p left) (omega arith) l in
    let r' : Subtree rows (suc (suc place + count)) right = subst (λ (p : ℕ). Subtree rows p right) (omega arith) r in
    let below = forest_places room (omega arith) (forest_more forest (suc place + count) left right refl l' r') (ap (λ (n : ℕ). suc n) e) in
    let one_more : rows - place ≡ suc (rows - suc place) = omega arith in
    let next : suc place ≡ place + 1 = omega arith in
    let below_next : IsPermutation (range_with_len (place + 1) (rows - suc place)) (others ++ (left ++ right)) = subst
    (λ (p : ℕ). IsPermutation (range_with_len p (rows - suc place)) (others ++ (left ++ right))) next below in
    subst (λ (n : ℕ). IsPermutation (range_with_len place n) ((place ∷ (left ++ right)) ++ others)) (sym one_more)
    (IsPermutation-cons place _ _ (IsPermutation-trans _ _ _ below_next (IsPermutation-append_comm others (left ++ right))))

-- the subtree of the root has all places
pub root_places : (rows : ℕ) (places : List ℕ) → Subtree rows 0 places → IsPermutation (range_with_len 0 rows) places
root_places rows places tree =
    subst₂ (λ (n : ℕ) (ps : List ℕ). IsPermutation (range_with_len 0 n) ps) (omega arith) (append-nil places)
    (forest_places rows (omega arith) (more 0 zero places [] tree (end (suc zero))) refl)
