-- Forests of links: ways over links, and labels of rings that are joined by ways, one label for each tree.
use Rattle.std.specs.Prelude.{◌≡◌, ◌≢◌, ℕ, List, [], ◌∷◌, ◌++◌, slice_get}
use Rattle.std.specs.List.{All}
use Rattle.plane_exact.specs.NodePoints.{point_at}
use Rattle.plane_laws.specs.Plane.{Point, IsSamePoint}
use Rattle.plane_exact.specs.declared.node.Node.{Node}
use Rattle.point_set.specs.declared.figure.Area.{Area}
use Rattle.point_set.specs.Validity.{IsAtPlace, IsOnRingAt}
use Rattle.ring_faults.specs.declared.link.Link.{Link}
use Rattle.ring_faults.specs.Links.{IsLinked, Step, AreStepsApart, HasCycle}

-- The links of an area: each link's node is on its ring, and each common point of two rings has its links.
pub record AreLinksOf (area : Area) (links : List Link) : Type 0 where
  pub sound : All (λ l. IsOnRingAt area l.ring (point_at l.node)) links
  pub whole :
      (i j : ℕ) → i ≢ j → (p : Point) → IsOnRingAt area i p → IsOnRingAt area j p
      → (n : Node) × IsSamePoint (point_at n) p × IsLinked links n i

-- A way from one ring to another by links. The steps are all its rings but the last.
abbrev pub IsPath : List Link → ℕ → List Step → ℕ → Type 0
IsPath links i [] j = i ≡ j
IsPath links i (step ∷ steps) j =
    (step.place ≡ i) × IsLinked links step.node i × ((k : ℕ) × IsLinked links step.node k × IsPath links k steps j)

-- A way over different rings and different nodes, all of whose rings but the last have one label.
pub record IsJoined (links : List Link) (labels : List ℕ) (label i j : ℕ) : Type 0 where
  pub steps : List Step
  pub path : IsPath links i steps j
  pub apart : AreStepsApart steps
  pub short : All (λ s. s.place ≢ j) steps
  pub within : All (λ s. IsAtPlace labels s.place label) steps

-- Labels of rings: those of one label are joined by a way within that label, those linked with one node have one label, and
-- there is no cycle.
pub record IsForest (links : List Link) (labels : List ℕ) : Type 0 where
  pub joined : (i j label : ℕ) → IsAtPlace labels i label → IsAtPlace labels j label → IsJoined links labels label i j
  pub one : (n : Node) (i j : ℕ) → IsLinked links n i → IsLinked links n j → slice_get labels i ≡ slice_get labels j
  pub none : ¬ HasCycle links

-- The links with one more at the end.
abbrev pub with_link : List Link → Node → ℕ → List Link
with_link links n i = links ++ (record { node = n; ring = i }) ∷ []
