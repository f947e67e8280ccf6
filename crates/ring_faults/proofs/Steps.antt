-- Steps of ways: what holds of the parts of a list of steps, and of two lists joined.
use Rattle.std.proofs.Common.{List, [], ◌∷◌, ◌++◌}
use Rattle.std.specs.List.{All}
use Rattle.std.proofs.lemmas.List.Elements.{All-nil, All-cons, All-head, All-tail, All-append}
use Rattle.ring_faults.specs.Links.{Step, IsApartFrom, AreStepsApart}

-- what holds of each item of a joined list holds of each item of its front
pub all_front : {X : Type 0} (P : X → Type 0) (xs ys : List X) → All P (xs ++ ys) → All P xs
all_front P [] ys h = All-nil P
all_front P (x ∷ xs) ys h = All-cons P x xs (All-head P x (xs ++ ys) h) (all_front P xs ys (All-tail P x (xs ++ ys) h))

-- and of each item of its rest
pub all_rest : {X : Type 0} (P : X → Type 0) (xs ys : List X) → All P (xs ++ ys) → All P ys
all_rest P [] ys h = h
all_rest P (x ∷ xs) ys h = all_rest P xs ys (All-tail P x (xs ++ ys) h)

-- each step of one list is apart from each of another
abbrev pub AreAcross : List Step → List Step → Type 0
AreAcross xs ys = All (λ x. All (IsApartFrom x) ys) xs

-- the front of steps that are apart
pub apart_front : (xs ys : List Step) → AreStepsApart (xs ++ ys) → AreStepsApart xs
apart_front [] ys h = tt
apart_front (x ∷ xs) ys h = (all_front (IsApartFrom x) xs ys h.0, apart_front xs ys h.1)

-- their rest
pub apart_rest : (xs ys : List Step) → AreStepsApart (xs ++ ys) → AreStepsApart ys
apart_rest [] ys h = h
apart_rest (x ∷ xs) ys h = apart_rest xs ys h.1

-- each step of the front from each of the rest
pub apart_across : (xs ys : List Step) → AreStepsApart (xs ++ ys) → AreAcross xs ys
apart_across [] ys h = All-nil (λ x. All (IsApartFrom x) ys)
apart_across (x ∷ xs) ys h = All-cons (λ z. All (IsApartFrom z) ys) x xs (all_rest (IsApartFrom x) xs ys h.0) (apart_across xs ys h.1)

-- and such lists joined
pub apart_joined : (xs ys : List Step) → AreStepsApart xs → AreStepsApart ys → AreAcross xs ys → AreStepsApart (xs ++ ys)
apart_joined [] ys h k across = k
apart_joined (x ∷ xs) ys h k across =
    let Across : Step → Type 0 = λ z. All (IsApartFrom z) ys in
    (All-append (IsApartFrom x) xs ys h.0 (All-head Across x xs across), apart_joined xs ys h.1 k (All-tail Across x xs across))

-- steps that are told apart by what holds of their rings and of their nodes
pub across_by :
    (P Q : Step → Type 0) → ((x y : Step) → P x → Q y → IsApartFrom x y) → (xs ys : List Step) → All P xs → All Q ys → AreAcross xs ys
across_by P Q tells xs ys h k = λ i d below j e under. tells _ _ (h i d below) (k j e under)
