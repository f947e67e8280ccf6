-- Classes of rings: each ring has a label, and for each label there is the list of its rings.
use Rattle.std.specs.Prelude.{◌≡◌, ℕ, List, [], Contains, length, map, get_or}
use Rattle.std.specs.declared.alloc.Global.{Global}
use Rattle.std.specs.declared.vec.Vec.{Vec}
use Rattle.point_set.specs.Validity.{IsAtPlace}

-- The lists of rings.
abbrev pub lists_of : List (Vec ℕ Global) → List (List ℕ)
lists_of members = map (λ v. v.items) members

-- A ring is in the list of a label.
abbrev pub IsListed : List (List ℕ) → ℕ → ℕ → Type 0
IsListed lists label ring = Contains (get_or lists label []) ring

-- Each ring is in the list of its label, and in no other.
pub record AreClasses (labels : List ℕ) (lists : List (List ℕ)) : Type 0 where
  pub many : length lists ≡ length labels
  pub whole : (ring label : ℕ) → IsAtPlace labels ring label → IsListed lists label ring
  pub own : (ring label : ℕ) → IsListed lists label ring → IsAtPlace labels ring label

-- The rings have got the label, and the others keep theirs.
pub record ArePutUnder (label : ℕ) (rings labels new : List ℕ) : Type 0 where
  pub length_same : length new ≡ length labels
  pub put : (ring : ℕ) → Contains rings ring → IsAtPlace new ring label
  pub kept : (ring old : ℕ) → ¬ Contains rings ring → IsAtPlace labels ring old → IsAtPlace new ring old
