-- Where points lie in a figure, share by share.
use Rattle.std.specs.Prelude.{ℕ, ◌+◌, ◌*◌, ◌/◌, ◌%◌, ◌<◌, min, List, take, drop, length, slice_index_or, IfOk, Result, Vec}
use Rattle.std.specs.List.{AllZip}
use Rattle.plane_exact.specs.Places.{point_of}
use Rattle.plane_exact.specs.declared.items.NoMemory.{NoMemory}
use Rattle.plane_exact.specs.declared.point.Pt.{Pt}
use Rattle.point_set.specs.Location.{IsKind}
use Rattle.point_set.specs.declared.dim_loc.DimLoc.{DimLoc}
use Rattle.point_set.specs.declared.figure.Figure.{Figure}
use Rattle.point_set.specs.declared.rule.Rule.TheVariants.{Mod2}

-- There are as many kinds as positions, and each is the kind of the position at its place in the figure under mod2.
abbrev pub AreKinds : Figure → List Pt → List DimLoc → Type 0
AreKinds f points kinds = AllZip (λ (p : Pt) (kind : DimLoc). IsKind f Mod2 (point_of p) kind) points kinds

-- The share at a place: three points, or what is left.
abbrev pub share_of : List Pt → ℕ → List Pt
share_of points place = take 3 (drop (place * 3) points)

-- How many shares so many points have.
abbrev pub shares_in : ℕ → ℕ
shares_in count = count / 3 + min 1 (count % 3)

-- Of each share, where its answer has kinds, they are those of its points.
abbrev pub AreKindsByShare : {A : Type 0} → Figure → List Pt → List (Result (Vec DimLoc A) NoMemory) → Type 0
AreKindsByShare {A} f points shares =
    (place : ℕ) (d : Result (Vec DimLoc A) NoMemory) → place < shares_in (length points)
    → IfOk (slice_index_or shares place d) (λ kinds. AreKinds f (share_of points place) kinds.items)
