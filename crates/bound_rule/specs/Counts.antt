-- How a table keeps line ends: for each position how many of them are there.
use Rattle.std.specs.Prelude.{ℕ, List, [], ◌∷◌, ◌++◌, replicate}
use Rattle.plane_exact.specs.declared.point.Pt.{Pt}

-- The line ends that are counted, each as often as its count says.
abbrev pub ends_in : List (Pt × ℕ) → List Pt
ends_in [] = []
ends_in (e ∷ counts) = replicate e.1 e.0 ++ ends_in counts
