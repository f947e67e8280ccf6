-- Two lists of cells with the same names, compared one by one.
use Rattle.std.proofs.Common.{◌≡◌, ◌⊎◌, inl, inr, ℕ, ◌+◌, ◌<◌, ◌≤◌, List, length, get_or, ap, sym, ◌∙◌, subst, arith}
use Rattle.std.specs.Prelude.{slice_get}
use Rattle.std.proofs.lemmas.Bool.{cases_lt}
use Rattle.std.proofs.lemmas.List.{length-map}
use Rattle.std.proofs.lemmas.Option.{slice_get_within}
use Rattle.point_set.specs.Validity.{IsAtPlace}
use Rattle.figure_laws.proofs.Lists.Places.{some_same}
use Rattle.union_locator.proofs.Laws.{image_at, item_read}
use Rattle.relate_prep.specs.Cells.{SeenCell, KnowTheSame, names_of}
use Rattle.relate_prep.specs.Sessions.{KnowTheSameEach}

-- the name of a cell
abbrev name_of : SeenCell → ℕ
name_of c = c.name

module _ (cells others : List SeenCell) (names : names_of cells ≡ names_of others) where
  -- There are as many of both.
  as_many : length cells ≡ length others
  as_many = sym (length-map cells name_of) ∙ ap length names ∙ length-map others name_of

  -- Two cells at one place have one name.
  same_name : (place : ℕ) (one other : SeenCell) → IsAtPlace cells place one → IsAtPlace others place other → one.name ≡ other.name
  same_name place one other is is' =
      some_same
      (sym (image_at name_of cells place one is) ∙ ap (λ (xs : List ℕ). slice_get xs place) names ∙ image_at name_of others place other is')

-- Both know the same of each cell below k.
abbrev pub KnowTheSameBelow : List SeenCell → List SeenCell → ℕ → Type 0
KnowTheSameBelow cells others k =
    (place : ℕ) (one other : SeenCell) → place < k → IsAtPlace cells place one → IsAtPlace others place other → KnowTheSame one other

module _ (cells others : List SeenCell) (k : ℕ) (h : KnowTheSameBelow cells others k) where
  -- One pair more.
  same_below_next : (one other : SeenCell) → IsAtPlace cells k one → IsAtPlace others k other → KnowTheSame one other
      → KnowTheSameBelow cells others (k + 1)
  same_below_next one other is is' known place c d below at at' = go (cases_lt place k)
    where
      go : (place < k) ⊎ (k ≤ place) → KnowTheSame c d
      go (inl l) = h place c d l at at'
      go (inr l) =
          let here : k ≡ place = omega (arith, l, below) in
          let one_is : one ≡ c = some_same (sym is ∙ ap (slice_get cells) here ∙ at) in
          let other_is : other ≡ d = some_same (sym is' ∙ ap (slice_get others) here ∙ at') in
          subst (λ (z : SeenCell). KnowTheSame c z) other_is (subst (λ (z : SeenCell). KnowTheSame z other) one_is known)

  -- Past the last cell these are all.
  pub same_each : length cells ≤ k → KnowTheSameEach cells others
  same_each past place one other is is' =
      h place one other (let within = slice_get_within cells place one is in omega (arith, within, past)) is is'

-- ---- a pass over two lists
-- Nothing has changed, and both know the same of each cell below k.
pub record AreComparedTo (cells others now other_now : List SeenCell) (k : ℕ) : Type 0 where
  pub same : now ≡ cells
  pub other_same : other_now ≡ others
  pub known : KnowTheSameBelow cells others k

module _ {cells others now other_now : List SeenCell} {k : ℕ} (names : names_of cells ≡ names_of others)
    (h : AreComparedTo cells others now other_now k) (below : k < length cells) where
  -- The two cells that are read at the next place.
  one_is : (d : SeenCell) → IsAtPlace cells k (get_or now k d)
  one_is d = item_read now cells k d h.same (omega (arith, below, ap length h.same))

  other_is : (e : SeenCell) → IsAtPlace others k (get_or other_now k e)
  other_is e = item_read other_now others k e h.other_same (omega (arith, below, as_many cells others names, ap length h.other_same))

  -- They have one name.
  pub name_there : (d e : SeenCell) → (get_or now k d).name ≡ (get_or other_now k e).name
  name_there d e = same_name cells others names k (get_or now k d) (get_or other_now k e) (one_is d) (other_is e)

  -- Once they are compared, both know the same one place further.
  pub known_next : (d e : SeenCell) → KnowTheSame (get_or now k d) (get_or other_now k e) → KnowTheSameBelow cells others (k + 1)
  known_next d e known = same_below_next cells others k h.known (get_or now k d) (get_or other_now k e) (one_is d) (other_is e) known
