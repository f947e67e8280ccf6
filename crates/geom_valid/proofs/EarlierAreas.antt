-- Areas of a figure and the earlier ones of their group.
use Rattle.std.proofs.Common.{◌≡◌, ◌⊎◌, inl, inr, Bool, true, false, ℕ, suc, ◌+◌, ◌<◌, ◌≤◌, List, [], ◌∷◌, ◌++◌, length, get_or, refl, sym}
use Rattle.std.proofs.Common.{◌∙◌, subst, subst₂, ap, arith}
use Rattle.std.specs.List.{Contains}
use Rattle.std.proofs.lemmas.Option.{none-some}
use Rattle.point_set.specs.declared.figure.Area.{Area}
use Rattle.point_set.specs.declared.figure.Figure.{Figure}
use Rattle.point_set.specs.Shape.{IsAreaShaped, positions_of_area}
use Rattle.point_set.specs.Validity.{IsAtPlace, Clause, Fails, rank_of, SomeArea, SomeEarlier, SomeRing, AreasShareSegment, AreasOverlap}
use Rattle.point_set.specs.Validity.{HasTooFewPoints, CrossesItself, RingsShareSegment, HasHoleOutside, HasHolesThatOverlap, HasTouchCycle}
use Rattle.point_set.specs.Validity.{too_few_points, ring_cross, rings_share_edge, hole_outside, holes_overlap, disconnected}
use Rattle.point_set.specs.Validity.{elements_share_edge, elements_overlap}
use Rattle.figure_laws.proofs.Lists.Places.{read_at, some_same}
use Rattle.geom_valid.specs.Faults.{AreFirstAreas, IsAreaSoundUpTo, IsFirstOfArea, IsSoundAt, IsSoundUpTo, IsTestedUpTo, clause_of}
use Rattle.geom_valid.specs.declared.kinds.InvalidKind.{InvalidKind}
use Rattle.area_locator.specs.Validity.{figure_of}
use Rattle.std.specs.Prelude.{IsTrue, ◌↔◌, Result, Ok}
use Rattle.std.proofs.lemmas.Bool.Decides.{not_from_Decides}
use Rattle.geom_valid.specs.Grounds.{IsSoundArea}
use Rattle.geom_valid.proofs.FirstFaults.{none_here, some_here, sound_at_first, sound_at_last, sound_on}
use Rattle.geom_valid.proofs.NearPlaces.{IsSoEarlier, length_pushed, none_earlier, pushed_at}
use Rattle.geom_valid.proofs.RingLists.{NoneBefore, no_ring}

-- ---- earlier areas
-- an earlier area that was read is that of the figure
first_at : (f : Figure) (place : ℕ) (areas : List Area) → AreFirstAreas f place areas → {before : ℕ} {other : Area} → before < place
    → other ≡ get_or areas before other → IsAtPlace f.areas before other
first_at f place areas first {before} {other} below is =
    first.each before other (read_at areas areas before other refl (omega (arith, below, first.count)) is)

-- where it is of the group of the area at a place and so beside it
pub earlier_at : (f : Figure) (place : ℕ) (areas : List Area) → AreFirstAreas f place areas → {before : ℕ} {own area other : Area}
    → before < place → other ≡ get_or areas before other → IsAtPlace f.areas place own → IsAtPlace f.areas place area
    → (IsSo : Area → Area → Type 0)
    → (own.group ≡ other.group) × IsSo area other → SomeEarlier f place IsSo
earlier_at f place areas first {before} {own} {area} {other} below is own_is area_is IsSo so = record {
  area = area;
  area_is = area_is;
  before = before;
  earlier = below;
  other = other;
  other_is = first_at f place areas first below is;
  same_group = ap (λ (a : Area). a.group) (some_same (sym area_is ∙ own_is)) ∙ so.0;
  is_so = so.1;
}

-- where it isn't so
pub not_earlier_at : (f : Figure) (place : ℕ) (areas : List Area) → AreFirstAreas f place areas → {before : ℕ} {other : Area}
    → before < place → other ≡ get_or areas before other → (IsSo : Area → Type 0) → ¬ IsSo other → ¬ IsSoEarlier IsSo f.areas place before
not_earlier_at f place areas first below is IsSo not so =
    not (subst IsSo (some_same (sym so.item_is ∙ first_at f place areas first below is)) so.is_so)

-- where none near the area at a place is so beside it, and those that could be are all near
pub no_earlier : (f : Figure) (place : ℕ) {own area : Area} → IsAtPlace f.areas place own → IsAtPlace f.areas place area
    → (IsSo : Area → Area → Type 0) → {near items : List ℕ} {last : ℕ} → items ≡ near → length items ≤ last
    → NoneBefore (IsSoEarlier (λ other. (own.group ≡ other.group) × IsSo area other) f.areas place) items last
    → ((k : ℕ) (other : Area) → IsAtPlace f.areas k other → IsSo area other → Contains near k) → ¬ SomeEarlier f place IsSo
no_earlier f place {own} {area} own_is area_is IsSo {near} {items} {last} same past none whole h =
    none_earlier (λ other. (own.group ≡ other.group) × IsSo area other) f.areas place items last past none
    (λ k so. subst (λ (ks : List ℕ). Contains ks k) (sym same) (whole k so.item so.item_is so.is_so.1)) h.before (record {
      earlier = h.earlier;
      item = h.other;
      item_is = h.other_is;
      is_so = (
        ap (λ (a : Area). a.group) (some_same (sym own_is ∙ h.area_is)) ∙ h.same_group,
        subst (λ a. IsSo a h.other) (some_same (sym h.area_is ∙ area_is)) h.is_so,
      );
    })

-- ---- the areas before a place
pub first_none : (f : Figure) (areas : List Area) → areas ≡ [] → AreFirstAreas f 0 areas
first_none f areas empty = record {
  count = ap length empty;
  each = λ before area is. absurd (none-some area (subst (λ (many : List Area). IsAtPlace many before area) empty is));
}

pub first_on : (f : Figure) (place : ℕ) (areas more : List Area) (area : Area) → AreFirstAreas f place areas → more ≡ areas ++ area ∷ []
    → IsAtPlace f.areas place area → AreFirstAreas f (place + 1) more
first_on f place areas more area before same at = record {
  count = ap length same ∙ length_pushed areas area ∙ ap (λ n. n + 1) before.count;
  each = λ k other is. by k other (pushed_at areas area k other (subst (λ (many : List Area). IsAtPlace many k other) same is));
}
  where
    by : (k : ℕ) (other : Area) → IsAtPlace areas k other ⊎ ((k ≡ length areas) × (area ≡ other)) → IsAtPlace f.areas k other
    by k other (inl is) = before.each k other is
    by k other (inr (last, same_area)) =
        subst₂ (λ (n : ℕ) (a : Area). IsAtPlace f.areas n a) (sym (last ∙ before.count)) same_area at

-- ---- the tests of an area one by one
pub untested : (area : Area) → IsAreaSoundUpTo area 0
untested area f place at = sound_at_first f place

-- what was read of an area fails none of the clauses so far, and a test of the next one says no
pub passed : {area read : Area} (clause : Clause) → read ≡ area → {IsSo : Area → Type 0}
    → ((f : Figure) (place : ℕ) → Fails f place clause → SomeArea f place IsSo) → {b : Bool} → (IsTrue b ↔ IsSo read) → b ≡ false
    → IsAreaSoundUpTo area (rank_of clause) → IsAreaSoundUpTo area (suc (rank_of clause))
passed {area} {read} clause same {IsSo} some {b} tells is before f place at =
    let none : ¬ IsSo area = subst (λ a. ¬ IsSo a) same (not_from_Decides b tells is) in
    sound_on f place (rank_of clause) clause refl (λ fails. none_here f place area IsSo at none (some f place fails)) (before f place at)

-- or it says yes
pub failed : {area read : Area} (which : InvalidKind) → read ≡ area → {IsSo : Area → Type 0}
    → ((f : Figure) (place : ℕ) → SomeArea f place IsSo → Fails f place (clause_of which)) → {b : Bool} → (IsTrue b ↔ IsSo read) → b ≡ true
    → IsAreaSoundUpTo area (rank_of (clause_of which)) → IsFirstOfArea area which
failed {area} {read} which same {IsSo} fails tells is before f place at = record {
  fails = fails f place (some_here f place area IsSo at (subst IsSo same (tells.0 is)));
  first = before f place at;
}

-- what was read is the area, and passed the tests, where the answer is no fault
pub was_sound : (area : Area) (rank : ℕ) {found : Result Area InvalidKind} {read : Area} → found ≡ Ok read → IsTestedUpTo area rank found
    → (read ≡ area) × IsAreaSoundUpTo area rank
was_sound area rank is tested = subst (λ (answer : Result Area InvalidKind). IsTestedUpTo area rank answer) is tested

-- an area that passed the test of a clause isn't so as the clause says: it would fail it as the only area of a figure
pub not_so : (area : Area) (rank : ℕ) → IsAreaSoundUpTo area rank → (clause : Clause) → rank_of clause < rank → (IsSo : Area → Type 0)
    → (SomeArea (figure_of area) 0 IsSo → Fails (figure_of area) 0 clause) → ¬ IsSo area
not_so area rank sound clause below IsSo fails so =
    sound (figure_of area) 0 refl clause below (fails (some_here (figure_of area) 0 area IsSo refl so))

-- it is sound where it passed all six
pub sound_from : (area : Area) → positions_of_area area ≤ 1048576 → IsAreaShaped area → IsAreaSoundUpTo area 6 → IsSoundArea area
sound_from area few shaped sound = record {
  few = few;
  clean = record {
    shaped = shaped;
    simple = no_ring CrossesItself area (not_so area 6 sound ring_cross (omega arith) (SomeRing CrossesItself) (λ h. h));
    unshared = not_so area 6 sound rings_share_edge (omega arith) RingsShareSegment (λ h. h);
    within = not_so area 6 sound hole_outside (omega arith) HasHoleOutside (λ h. h);
    unlapped = not_so area 6 sound holes_overlap (omega arith) HasHolesThatOverlap (λ h. h);
  };
  enough = no_ring HasTooFewPoints area (not_so area 6 sound too_few_points (omega arith) (SomeRing HasTooFewPoints) (λ h. h));
  joined = not_so area 6 sound disconnected (omega arith) HasTouchCycle (λ h. h);
}

-- ---- the tests beside the earlier areas of its group
pub after_elements_share :
    (f : Figure) (place : ℕ) → IsSoundUpTo f place 6 → ¬ SomeEarlier f place AreasShareSegment → IsSoundUpTo f place 7
after_elements_share f place before unshared = sound_on f place 6 elements_share_edge refl unshared before

pub after_elements_overlap : (f : Figure) (place : ℕ) → IsSoundUpTo f place 7 → ¬ SomeEarlier f place AreasOverlap → IsSoundAt f place
after_elements_overlap f place before unlapped = sound_at_last f place (sound_on f place 7 elements_overlap refl unlapped before)
