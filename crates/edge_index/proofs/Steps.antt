-- The steps of a walk: what is left after each.
use Rattle.std.proofs.Common.{◌≡◌, ℕ, ◌+◌, ◌*◌, ◌<◌, ◌≤◌, true, false, List, [], ◌∷◌, ◌++◌, refl, sym, ◌∙◌, ap, subst, arith}
use Rattle.std.specs.Prelude.{Option, Some, None}
use Rattle.std.proofs.lemmas.List.{append_assoc, append-nil}
use Rattle.edge_index.specs.Walks.{IsAfter}
use Rattle.edge_index.specs.Walks.IsAfter.{root, left, right}
use Rattle.edge_index.proofs.Visits.{View, Visit, visited}
use Rattle.edge_index.proofs.Visits.Visit.{apart, leaf, inner}

-- what a walk visits after the subtree of a place: the items that it finds there, and the number of its looks
pub data Rest (v : View) : ℕ → List ℕ → ℕ → Type 0 where
  finished : Rest v 0 [] 0
  beside :
      (place parent : ℕ) (items others : List ℕ) (looks more : ℕ) → place ≡ 2 * parent + 1 → Visit v (place + 1) items looks
      → Rest v parent others more → Rest v place (items ++ others) (looks + more)
  above : (place parent : ℕ) (items : List ℕ) (looks : ℕ) → place ≡ 2 * parent + 2 → Rest v parent items looks → Rest v place items looks

-- what is left where the row at a place comes next: its subtree, and what comes after it
pub record Pending (v : View) (place : ℕ) (items : List ℕ) (looks : ℕ) : Type 0 where
  pub below : List ℕ
  pub below_looks : ℕ
  pub visit : Visit v place below below_looks
  pub later : List ℕ
  pub later_looks : ℕ
  pub rest : Rest v place later later_looks
  pub items_are : items ≡ below ++ later
  pub looks_are : looks ≡ below_looks + later_looks

-- a subtree and what comes after it
pending :
    {v : View} {place below_looks later_looks : ℕ} {below later : List ℕ} → Visit v place below below_looks → Rest v place later later_looks
    → Pending v place (below ++ later) (below_looks + later_looks)
pending visit rest =
    record { below = _; below_looks = _; visit = visit; later = _; later_looks = _; rest = rest; items_are = refl; looks_are = refl }

-- what is left, by the row that comes next
abbrev pub IsLeft : View → Option ℕ → List ℕ → ℕ → Type 0
IsLeft v None items looks = (items ≡ []) × (looks ≡ 0)
IsLeft v (Some place) items looks = Pending v place items looks

-- the rest of a walk begins with the row that follows
after_rest :
    (v : View) → {place : ℕ} {next : Option ℕ} → IsAfter place next → {items : List ℕ} {looks : ℕ} → Rest v place items looks
    → IsLeft v next items looks
after_rest v root finished = (refl, refl)
after_rest v root (beside place parent items others looks more e visit rest) = absurd (omega (arith, e))
after_rest v root (above place parent items looks e rest) = absurd (omega (arith, e))
after_rest v (left place parent e) finished = absurd (omega (arith, e))
after_rest v (left place parent e) (beside place' parent' items others looks more e' visit rest) =
    pending visit (above (place + 1) parent' others more (omega arith) rest)
after_rest v (left place parent e) (above place' parent' items looks e' rest) = absurd (omega arith)
after_rest v (right place parent next e follows) finished = absurd (omega (arith, e))
after_rest v (right place parent next e follows) (beside place' parent' items others looks more e' visit rest) = absurd (omega arith)
after_rest v (right place parent next e follows) (above place' parent' items looks e' rest) =
    after_rest v follows (subst (λ (p : ℕ). Rest v p items looks) (omega arith) rest)

-- a walk that is under way: what it has found and how often it has looked, with what is left, is what the visit of the root says
pub record IsUnderway (v : View) (next : Option ℕ) (out : List ℕ) (begin used : ℕ) : Type 0 where
  pub all : List ℕ
  pub total : ℕ
  pub whole : Visit v 0 all total
  pub items : List ℕ
  pub looks : ℕ
  pub rest : IsLeft v next items looks
  pub found : all ≡ out ++ items
  pub steps : begin + total ≡ used + looks

-- a walk under way, by what is left of it
underway :
    (v : View) (next : Option ℕ) (out : List ℕ) (begin used : ℕ) (all items : List ℕ) (total looks : ℕ) → Visit v 0 all total
    → IsLeft v next items looks → all ≡ out ++ items → begin + total ≡ used + looks → IsUnderway v next out begin used
underway v next out begin used all items total looks whole rest found steps =
    record { all = all; total = total; whole = whole; items = items; looks = looks; rest = rest; found = found; steps = steps }

-- the beginning
pub underway_begin : (v : View) (begin : ℕ) → IsUnderway v (Some 0) [] begin begin
underway_begin v begin =
    let root = visited v (2 * v.inner + 1) 0 (omega arith) (omega arith) in
    underway v (Some 0) [] begin begin root.items (root.items ++ []) root.looks (root.looks + 0) root.visit (pending root.visit finished)
    (sym (append-nil root.items)) (omega arith)

-- a row that doesn't meet is passed, with its subtree
out_of : (v : View) {place looks : ℕ} {items : List ℕ} → Visit v place items looks → v.meets place ≡ false → (items ≡ []) × (looks ≡ 1)
out_of v (apart place within out) e = (refl, refl)
out_of v (leaf place within past in') e = cc
out_of v (inner place items others looks more opened in' l r) e = cc

-- a row that is done with one look: what it holds is found
one_look :
    (v : View) (place : ℕ) (next : Option ℕ) (here out : List ℕ) (begin used : ℕ) → IsAfter place next
    → (walk : IsUnderway v (Some place) out begin used) → (walk.rest.below ≡ here) × (walk.rest.below_looks ≡ 1)
    → IsUnderway v next (out ++ here) begin (used + 1)
one_look v place next here out begin used follows walk one =
    let p = walk.rest in
    let found = p.items_are ∙ ap (λ (xs : List ℕ). xs ++ p.later) one.0 in
    underway v next (out ++ here) begin (used + 1) walk.all p.later walk.total p.later_looks walk.whole (after_rest v follows p.rest)
    (walk.found ∙ ap (λ (xs : List ℕ). out ++ xs) found ∙ sym (append_assoc out here p.later))
    (omega (arith, walk.steps, p.looks_are, one.1))

pub underway_out :
    (v : View) (place : ℕ) (next : Option ℕ) (out : List ℕ) (begin used : ℕ) → v.meets place ≡ false → IsAfter place next
    → IsUnderway v (Some place) out begin used → IsUnderway v next out begin (used + 1)
underway_out v place next out begin used e follows walk =
    subst (λ (found : List ℕ). IsUnderway v next found begin (used + 1)) (append-nil out)
    (one_look v place next [] out begin used follows walk (out_of v walk.rest.visit e))

-- a leaf that meets is found
leaf_of :
    (v : View) {place looks : ℕ} {items : List ℕ} → Visit v place items looks → v.inner ≤ place → v.meets place ≡ true
    → (items ≡ v.item place ∷ []) × (looks ≡ 1)
leaf_of v (apart place within out) past e = cc
leaf_of v (leaf place within past in') past' e = (refl, refl)
leaf_of v (inner place items others looks more opened in' l r) past e = absurd (omega arith)

pub underway_leaf :
    (v : View) (place item : ℕ) (next : Option ℕ) (out : List ℕ) (begin used : ℕ) → v.inner ≤ place → v.meets place ≡ true
    → v.item place ≡ item → IsAfter place next → IsUnderway v (Some place) out begin used
    → IsUnderway v next (out ++ item ∷ []) begin (used + 1)
underway_leaf v place item next out begin used past e is follows walk =
    let one = leaf_of v walk.rest.visit past e in
    one_look v place next (item ∷ []) out begin used follows walk (one.0 ∙ ap (λ (i : ℕ). i ∷ []) is, one.1)

-- an inner row that meets is opened
opened_of :
    (v : View) {place looks : ℕ} {items later : List ℕ} {later_looks : ℕ} → Visit v place items looks → place < v.inner
    → v.meets place ≡ true → Rest v place later later_looks
    → (more : ℕ) × Pending v (2 * place + 1) (items ++ later) more × (looks + later_looks ≡ 1 + more)
opened_of v (apart place within out) opened e rest = cc
opened_of v (leaf place within past in') opened e rest = absurd (omega arith)
opened_of v {later = later} {later_looks = later_looks} (inner place items others looks more opened in' l r) opened' e rest =
    let right = subst (λ (p : ℕ). Visit v p others more) (omega arith) r in
    let after = pending l (beside (2 * place + 1) place others later more later_looks refl right rest) in (
      looks + (more + later_looks),
      subst (λ (xs : List ℕ). Pending v (2 * place + 1) xs (looks + (more + later_looks))) (sym (append_assoc items others later)) after,
      omega arith,
    )

pub underway_inner :
    (v : View) (place : ℕ) (out : List ℕ) (begin used : ℕ) → place < v.inner → v.meets place ≡ true
    → IsUnderway v (Some place) out begin used → IsUnderway v (Some (2 * place + 1)) out begin (used + 1)
underway_inner v place out begin used opened e walk =
    let p = walk.rest in
    let below = opened_of v p.visit opened e p.rest in
    underway v (Some (2 * place + 1)) out begin (used + 1) walk.all (p.below ++ p.later) walk.total below.0 walk.whole below.1
    (walk.found ∙ ap (λ (xs : List ℕ). out ++ xs) p.items_are) (omega (arith, walk.steps, p.looks_are, below.2))

-- the end
pub underway_end : (v : View) (out : List ℕ) (begin used : ℕ) → IsUnderway v None out begin used → (total : ℕ) × Visit v 0 out total
underway_end v out begin used walk = (
  walk.total,
  subst (λ (xs : List ℕ). Visit v 0 xs walk.total)
      (walk.found ∙ ap (λ (xs : List ℕ). out ++ xs) walk.rest.0 ∙ append-nil out) walk.whole,
)

-- a row that comes next is one of the tree, and the look at it is one of those left
place_of : (v : View) {place looks : ℕ} {items : List ℕ} → Visit v place items looks → (place < 2 * v.inner + 1) × (1 ≤ looks)
place_of v (apart place within out) = (within, omega arith)
place_of v (leaf place within past in') = (within, omega arith)
place_of v (inner place items others looks more opened in' l r) = (omega arith, omega arith)

pub underway_next :
    (v : View) (place : ℕ) (out : List ℕ) (begin used : ℕ) (walk : IsUnderway v (Some place) out begin used)
    → (place < 2 * v.inner + 1) × (used + 1 ≤ begin + walk.total)
underway_next v place out begin used walk =
    let p = walk.rest in
    let h = place_of v p.visit in
    (h.0, omega (arith, walk.steps, p.looks_are, h.1))
