-- Figures of areas without holes.
use Rattle.std.proofs.Common.{◌≡◌, ◌≢◌, ◌⊎◌, inl, inr, ◌<◌, ℕ, zero, suc, List, [], ◌∷◌, refl, sym, ◌∙◌, subst, arith}
use Rattle.std.proofs.lemmas.List.Elements.{All-head, All-tail}
use Rattle.plane_laws.specs.Plane.{IsSamePoint}
use Rattle.plane_exact.specs.declared.point.Pt.{Pt}
use Rattle.point_set.specs.declared.figure.Area.{Area}
use Rattle.point_set.specs.declared.figure.Figure.{Figure}
use Rattle.point_set.specs.Location.{rings_of}
use Rattle.point_set.specs.Validity.{IsAtPlace, HasTooFewPoints, CrossesItself, SomeRing, Touch, HasTouchCycle, too_few_points, ring_cross}
use Rattle.point_set.specs.Validity.{rings_share_edge, hole_outside, holes_overlap, disconnected, elements_share_edge, elements_overlap}
use Rattle.point_set.specs.Validity.{IsValid}
use Rattle.figure_laws.proofs.Lists.Places.{some_same}

-- An area without holes whose shell has three positions or more and doesn't cross itself.
pub record IsBare (area : Area) : Type 0 where
  pub no_holes : area.holes ≡ []
  pub enough : ¬ HasTooFewPoints area.shell
  pub simple : ¬ CrossesItself area.shell

-- its one ring is its shell
only_ring : {area : Area} → IsBare area → (place : ℕ) (ring : List Pt) → IsAtPlace (rings_of area) place ring
    → (place ≡ 0) × (area.shell ≡ ring)
only_ring {area} bare zero ring is = (refl, some_same is)
only_ring {area} bare (suc place) ring is =
    let none = subst (λ (holes : List (List Pt)). IsAtPlace holes place ring) bare.no_holes is in cc

-- it has no hole at any place
no_hole : {area : Area} → IsBare area → (place : ℕ) (hole : List Pt) → IsAtPlace area.holes place hole → ⊥
no_hole bare place hole is = let none = subst (λ (holes : List (List Pt)). IsAtPlace holes place hole) bare.no_holes is in cc

-- what some ring of it is, its shell is
of_shell : (IsSo : List Pt → Type 0) {area : Area} → IsBare area → SomeRing IsSo area → IsSo area.shell
of_shell IsSo bare h = subst IsSo (sym (only_ring bare h.place h.ring h.ring_is).1) h.is_so

-- one ring doesn't touch in a cycle
no_cycle : {area : Area} → IsBare area → ¬ HasTouchCycle area
no_cycle bare h =
    let first = h.chain.0 in
    let second = h.chain.1 in
    let IsApart : Touch → Type 0 = λ other. (h.start.place ≢ other.place) × (¬ IsSamePoint h.start.point other.point) in
    (All-head IsApart h.second h.others h.apart.0).0
    ((only_ring bare h.start.place first.ring first.ring_is).0 ∙ sym (only_ring bare h.second.place second.ring second.ring_is).0)

-- No two areas at different places have one group.
abbrev pub HaveOwnGroups : List Area → Type 0
HaveOwnGroups areas =
    (place before : ℕ) (area other : Area) → before < place → IsAtPlace areas place area → IsAtPlace areas before other
    → area.group ≢ other.group

-- a figure of such areas in different groups is valid
pub bare_valid : (f : Figure) → ((place : ℕ) (area : Area) → IsAtPlace f.areas place area → IsBare area) → HaveOwnGroups f.areas → IsValid f
bare_valid f bare apart place too_few_points h =
    let bare' = bare place h.area h.area_is in bare'.enough (of_shell HasTooFewPoints bare' h.is_so)
bare_valid f bare apart place ring_cross h =
    let bare' = bare place h.area h.area_is in bare'.simple (of_shell CrossesItself bare' h.is_so)
bare_valid f bare apart place rings_share_edge h =
    let bare' = bare place h.area h.area_is in
    let last = (only_ring bare' h.is_so.j h.is_so.other h.is_so.other_is).0 in
    let earlier = h.is_so.earlier in
    omega (arith, last, earlier)
bare_valid f bare apart place hole_outside h = no_hole (bare place h.area h.area_is) h.is_so.i h.is_so.hole h.is_so.hole_is
bare_valid f bare apart place holes_overlap h = no_hole (bare place h.area h.area_is) h.is_so.i h.is_so.one h.is_so.one_is
bare_valid f bare apart place disconnected h = no_cycle (bare place h.area h.area_is) h.is_so
bare_valid f bare apart place elements_share_edge h = apart place h.before h.area h.other h.earlier h.area_is h.other_is h.same_group
bare_valid f bare apart place elements_overlap h = apart place h.before h.area h.other h.earlier h.area_is h.other_is h.same_group

-- of three positions among two some two are equal
among_two : (a b c one other : Pt) → (a ≡ one) ⊎ (a ≡ other) → (b ≡ one) ⊎ (b ≡ other) → (c ≡ one) ⊎ (c ≡ other)
    → (a ≡ b) ⊎ ((b ≡ c) ⊎ (a ≡ c))
among_two a b c one other (inl x) (inl y) z = inl (x ∙ sym y)
among_two a b c one other (inr x) (inr y) z = inl (x ∙ sym y)
among_two a b c one other (inl x) (inr y) (inl z) = inr (inr (x ∙ sym z))
among_two a b c one other (inr x) (inl y) (inr z) = inr (inr (x ∙ sym z))
among_two a b c one other (inl x) (inr y) (inr z) = inr (inl (y ∙ sym z))
among_two a b c one other (inr x) (inl y) (inl z) = inr (inl (y ∙ sym z))

-- so a ring whose first three positions differ has enough
pub enough_by_three : (a b c : Pt) (others : List Pt) → ¬ (a ≡ b) → ¬ (b ≡ c) → ¬ (a ≡ c) → ¬ HasTooFewPoints (a ∷ b ∷ c ∷ others)
enough_by_three a b c others first second third few =
    let IsOneOf : Pt → Type 0 = λ p. (p ≡ few.one) ⊎ (p ≡ few.other) in
    let after_a = All-tail IsOneOf a (b ∷ c ∷ others) few.two_at_most in
    let after_b = All-tail IsOneOf b (c ∷ others) after_a in
    elim (among_two a b c few.one few.other (All-head IsOneOf a (b ∷ c ∷ others) few.two_at_most) (All-head IsOneOf b (c ∷ others) after_a)
    (All-head IsOneOf c others after_b)) [ inl e ↦ first e | inr e ↦ elim e [ inl d ↦ second d | inr d ↦ third d ] ]
