-- A ring has fewer than three distinct positions exactly where its positions are the first and one other.
use Rattle.std.proofs.Common.{◌≡◌, ◌≢◌, ◌↔◌, ◌⊎◌, inl, inr, pos, List, [], ◌∷◌, length, refl, sym, ◌∙◌, subst, arith}
use Rattle.std.specs.List.{All, Contains}
use Rattle.std.proofs.lemmas.List.Elements.{All-nil, All-cons, All-head, All-tail, All-weaker, All-contains}
use Rattle.plane_exact.specs.declared.point.Pt.{Pt}
use Rattle.point_set.specs.Validity.{HasTooFewPoints}

-- no position at all
pub few_of_none : (ring : List Pt) → length ring ≡ 0 → HasTooFewPoints ring
few_of_none [] none =
    let origin : Pt = record { x = pos 0; y = pos 0 } in
    record { one = origin; other = origin; two_at_most = All-nil (λ p. (p ≡ origin) ⊎ (p ≡ origin)) }
few_of_none (p ∷ others) none = absurd (omega (arith, none))

-- one of two, for the first and for the others
among_two : (first : Pt) (others : List Pt) (one other : Pt) → (first ≡ one) ⊎ (first ≡ other) → All (λ p. (p ≡ one) ⊎ (p ≡ other)) others
    → HasTooFewPoints (first ∷ others)
among_two first others one other h all =
    record { one = one; other = other; two_at_most = All-cons (λ p. (p ≡ one) ⊎ (p ≡ other)) first others h all }

-- all positions are equal
pub few_of_one : (ring : List Pt) (first : Pt) (others : List Pt) → ring ≡ first ∷ others → All (λ p. p ≡ first) others
    → HasTooFewPoints ring
few_of_one ring first others is all =
    subst HasTooFewPoints (sym is)
    (among_two first others first first (inl refl)
    (All-weaker (λ p. p ≡ first) (λ p. (p ≡ first) ⊎ (p ≡ first)) (λ p e. inl e) others all))

-- two that differ are the two, in either order
swapped : (one other a b p : Pt) → a ≢ b → (a ≡ one) ⊎ (a ≡ other) → (b ≡ one) ⊎ (b ≡ other) → (p ≡ one) ⊎ (p ≡ other) → (p ≡ a) ⊎ (p ≡ b)
swapped one other a b p apart (inl x) (inl y) z = absurd (apart (x ∙ sym y))
swapped one other a b p apart (inl x) (inr y) (inl z) = inl (z ∙ sym x)
swapped one other a b p apart (inl x) (inr y) (inr z) = inr (z ∙ sym y)
swapped one other a b p apart (inr x) (inl y) (inl z) = inr (z ∙ sym y)
swapped one other a b p apart (inr x) (inl y) (inr z) = inl (z ∙ sym x)
swapped one other a b p apart (inr x) (inr y) z = absurd (apart (x ∙ sym y))

-- two positions differ
pub few_of_two : (ring : List Pt) (first : Pt) (others : List Pt) (second : Pt) → ring ≡ first ∷ others → Contains others second
    → second ≢ first
    → All (λ p. (p ≡ first) ⊎ (p ≡ second)) others ↔ HasTooFewPoints ring
few_of_two ring first others second is there apart = (
  λ all. subst HasTooFewPoints (sym is) (among_two first others first second (inl refl) all),
  λ few. back (subst HasTooFewPoints is few),
)
  where
    back : HasTooFewPoints (first ∷ others) → All (λ p. (p ≡ first) ⊎ (p ≡ second)) others
    back few =
        let IsOne : Pt → Type 0 = λ p. (p ≡ few.one) ⊎ (p ≡ few.other) in
        let head = All-head IsOne first others few.two_at_most in
        let tail = All-tail IsOne first others few.two_at_most in
        All-weaker IsOne (λ p. (p ≡ first) ⊎ (p ≡ second))
        (λ p h. swapped few.one few.other first second p (λ same. apart (sym same)) head (All-contains IsOne others second tail there) h)
        others
        tail
