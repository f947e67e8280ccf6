-- The order of faults: what is known after each test, and that a figure has one first fault.
use Rattle.std.proofs.Common.{◌≡◌, ◌⊎◌, inl, inr, ℕ, zero, suc, ◌+◌, ◌<◌, length, ap, refl, sym, ◌∙◌, subst, arith}
use Rattle.std.proofs.lemmas.Bool.{cases_eq, cases_order}
use Rattle.std.proofs.lemmas.Option.{slice_get_within}
use Rattle.point_set.specs.declared.figure.Area.{Area}
use Rattle.point_set.specs.declared.figure.Figure.{Figure}
use Rattle.point_set.specs.Validity.{Clause, IsAtPlace, SomeArea, Fails, rank_of, ComesBefore, IsFirstFault, IsValid, too_few_points}
use Rattle.point_set.specs.Validity.{ring_cross, rings_share_edge, hole_outside, holes_overlap, disconnected, elements_share_edge}
use Rattle.point_set.specs.Validity.{elements_overlap}
use Rattle.figure_laws.proofs.Lists.Places.{some_same}
use Rattle.geom_valid.specs.declared.kinds.InvalidKind.{InvalidKind}
use Rattle.geom_valid.specs.declared.kinds.InvalidKind.TheVariants as kind
use Rattle.geom_valid.specs.Faults.{clause_of, AreSoundBefore, IsSoundAt, IsSoundUpTo, IsFirstAt, IsFirstFaultOf}

-- ---- clauses and kinds by their order
abbrev clause_at : ℕ → Clause
clause_at zero = too_few_points
clause_at (suc zero) = ring_cross
clause_at (suc (suc zero)) = rings_share_edge
clause_at (suc (suc (suc zero))) = hole_outside
clause_at (suc (suc (suc (suc zero)))) = holes_overlap
clause_at (suc (suc (suc (suc (suc zero))))) = disconnected
clause_at (suc (suc (suc (suc (suc (suc zero)))))) = elements_share_edge
clause_at (suc (suc (suc (suc (suc (suc (suc more))))))) = elements_overlap

at_rank : (clause : Clause) → clause_at (rank_of clause) ≡ clause
at_rank too_few_points = refl
at_rank ring_cross = refl
at_rank rings_share_edge = refl
at_rank hole_outside = refl
at_rank holes_overlap = refl
at_rank disconnected = refl
at_rank elements_share_edge = refl
at_rank elements_overlap = refl

same_rank : (one other : Clause) → rank_of one ≡ rank_of other → one ≡ other
same_rank one other e = sym (at_rank one) ∙ ap clause_at e ∙ at_rank other

abbrev kind_at : Clause → InvalidKind
kind_at too_few_points = kind.TooFewPoints
kind_at ring_cross = kind.RingCross
kind_at rings_share_edge = kind.RingsShareEdge
kind_at hole_outside = kind.HoleOutside
kind_at holes_overlap = kind.HolesOverlap
kind_at disconnected = kind.Disconnected
kind_at elements_share_edge = kind.ElementsShareEdge
kind_at elements_overlap = kind.ElementsOverlap

at_clause : (which : InvalidKind) → kind_at (clause_of which) ≡ which
at_clause kind.TooFewPoints = refl
at_clause kind.RingCross = refl
at_clause kind.RingsShareEdge = refl
at_clause kind.HoleOutside = refl
at_clause kind.HolesOverlap = refl
at_clause kind.Disconnected = refl
at_clause kind.ElementsShareEdge = refl
at_clause kind.ElementsOverlap = refl

same_kind : (one other : InvalidKind) → clause_of one ≡ clause_of other → one ≡ other
same_kind one other e = sym (at_clause one) ∙ ap kind_at e ∙ at_clause other

-- ---- after each test
pub sound_at_first : (f : Figure) (place : ℕ) → IsSoundUpTo f place 0
sound_at_first f place clause below = absurd (omega (arith, below))

-- one more clause that the area at a place doesn't fail
pub sound_on : (f : Figure) (place rank : ℕ) (clause : Clause) → rank_of clause ≡ rank → ¬ Fails f place clause → IsSoundUpTo f place rank
    → IsSoundUpTo f place (suc rank)
sound_on f place rank clause here not before other below = by_rank (cases_eq (rank_of other) rank)
  where
    by_rank : (rank_of other ≡ rank) ⊎ (rank_of other ≡ rank → ⊥) → ¬ Fails f place other
    by_rank (inl same) = subst (λ c. ¬ Fails f place c) (same_rank clause other (here ∙ sym same)) not
    by_rank (inr apart) = before other (omega (arith, below, apart))

-- all eight are all clauses
pub sound_at_last : (f : Figure) (place : ℕ) → IsSoundUpTo f place 8 → IsSoundAt f place
sound_at_last f place all clause = all clause (low clause)
  where
    low : (c : Clause) → rank_of c < 8
    low too_few_points = omega arith
    low ring_cross = omega arith
    low rings_share_edge = omega arith
    low hole_outside = omega arith
    low holes_overlap = omega arith
    low disconnected = omega arith
    low elements_share_edge = omega arith
    low elements_overlap = omega arith

-- what is said of the area at a place
pub some_here :
    (f : Figure) (place : ℕ) (area : Area) (IsSo : Area → Type 0) → IsAtPlace f.areas place area → IsSo area → SomeArea f place IsSo
some_here f place area IsSo is so = record { area = area; area_is = is; is_so = so }

pub none_here :
    (f : Figure) (place : ℕ) (area : Area) (IsSo : Area → Type 0) → IsAtPlace f.areas place area → ¬ IsSo area → ¬ SomeArea f place IsSo
none_here f place area IsSo is not some = not (subst IsSo (some_same (sym some.area_is ∙ is)) some.is_so)

-- ---- over all areas
-- only a place of the list can fail
fails_within : (f : Figure) (place : ℕ) (clause : Clause) → Fails f place clause → place < length f.areas
fails_within f place too_few_points h = slice_get_within f.areas place h.area h.area_is
fails_within f place ring_cross h = slice_get_within f.areas place h.area h.area_is
fails_within f place rings_share_edge h = slice_get_within f.areas place h.area h.area_is
fails_within f place hole_outside h = slice_get_within f.areas place h.area h.area_is
fails_within f place holes_overlap h = slice_get_within f.areas place h.area h.area_is
fails_within f place disconnected h = slice_get_within f.areas place h.area h.area_is
fails_within f place elements_share_edge h = slice_get_within f.areas place h.area h.area_is
fails_within f place elements_overlap h = slice_get_within f.areas place h.area h.area_is

pub valid_from_sound : (f : Figure) (place : ℕ) → length f.areas < suc place → AreSoundBefore f place → IsValid f
valid_from_sound f place past sound at clause fails = sound at (omega (arith, fails_within f at clause fails, past)) clause fails

pub sound_before_on : (f : Figure) (place : ℕ) → AreSoundBefore f place → IsSoundAt f place → AreSoundBefore f (suc place)
sound_before_on f place before here at below = by_place (cases_eq at place)
  where
    by_place : (at ≡ place) ⊎ (at ≡ place → ⊥) → IsSoundAt f at
    by_place (inl same) = subst (IsSoundAt f) (sym same) here
    by_place (inr apart) = before at (omega (arith, below, apart))

-- ---- one first fault
one_first : (f : Figure) (place other : ℕ) (clause clause' : Clause) → IsFirstFault f place clause → IsFirstFault f other clause'
    → (place ≡ other) × (clause ≡ clause')
one_first f place other clause clause' h k = by_place (cases_order place other)
  where
    by_rank : place ≡ other → (rank_of clause ≡ rank_of clause') ⊎ ((rank_of clause < rank_of clause') ⊎ (rank_of clause' < rank_of clause))
        → (place ≡ other) × (clause ≡ clause')
    by_rank same (inl e) = (same, same_rank clause clause' e)
    by_rank same (inr (inl before)) = absurd (k.first place clause (inr (same, before)) h.fails)
    by_rank same (inr (inr after)) = absurd (h.first other clause' (inr (sym same, after)) k.fails)

    by_place : (place ≡ other) ⊎ ((place < other) ⊎ (other < place)) → (place ≡ other) × (clause ≡ clause')
    by_place (inl same) = by_rank same (cases_order (rank_of clause) (rank_of clause'))
    by_place (inr (inl before)) = absurd (k.first place clause (inl before) h.fails)
    by_place (inr (inr after)) = absurd (h.first other clause' (inl after) k.fails)

-- ---- the answers
-- a valid figure has no fault
pub no_fault : (f : Figure) (which : InvalidKind) (element : ℕ) → IsValid f → ¬ IsFirstFaultOf f which element
no_fault f which element valid h = valid h.place (clause_of which) h.is_first.fails

-- a fault that is answered is the first one
pub this_fault : (f : Figure) (which : InvalidKind) (element : ℕ) → IsFirstFaultOf f which element → (place : ℕ) (other : InvalidKind)
    → IsFirstFault f place (clause_of other) → (which ≡ other) × (element ≡ place + 1)
this_fault f which element h place other first =
    let both = one_first f h.place place (clause_of which) (clause_of other) h.is_first first in
    (same_kind which other both.1, h.counted ∙ ap (λ k. k + 1) both.0)
