-- What the steps of the loops over the rays of a node and over its sectors take in.
use Rattle.std.proofs.Common.{◌≡◌, ◌⊎◌, inl, inr, ℕ, ◌+◌, ◌<◌, ◌≤◌, List, length, refl, sym, subst, arith}
use Rattle.std.proofs.lemmas.Bool.{cases_lt}
use Rattle.im_matrix.specs.declared.Cell.{Cell}
use Rattle.im_matrix.specs.declared.Dim.{Dim}
use Rattle.im_matrix.specs.declared.Dim.TheVariants.{Empty, Zero, One, Two}
use Rattle.plane_laws.specs.Plane.{Point}
use Rattle.plane_laws.specs.Directions.{Direction}
use Rattle.plane_exact.specs.Orders.{direction_of}
use Rattle.plane_exact.specs.declared.dir.Dir.{Dir}
use Rattle.point_set.specs.declared.dim_loc.DimLoc.{DimLoc}
use Rattle.point_set.specs.declared.figure.Figure.{Figure}
use Rattle.point_set.specs.declared.rule.Rule.{Rule}
use Rattle.point_set.specs.Germ.{IsPairGerm}
use Rattle.point_set.specs.Relation.{IsInCell}
use Rattle.point_set.specs.Samples.{IsSampleAt}
use Rattle.point_set.specs.Sectors.{IsInSector, sectors_of}
use Rattle.point_set.specs.Validity.{IsAtPlace}
use Rattle.figure_laws.proofs.Points.Kinds.{one_part}
use Rattle.germ_laws.proofs.Rays.Places.{item_at}
use Rattle.ring_laws.proofs.Germs.Areas.{pair_germ_one}
use Rattle.cell_laws.proofs.Directions.Middles.{middle_in_sector, middle_of}
use Rattle.topo_pred.specs.declared.Progress.{Progress}
use Rattle.fan_order.specs.declared.section.Section.{Section}
use Rattle.fan_order.specs.Rays.{AreRaysOf}
use Rattle.fan_laws.proofs.Fans.Directions.{edge_directions}
use Rattle.fan_label.specs.Seen.{AreSeenAt}
use Rattle.relate_core.specs.Taking.{HasTakenIn, IsOne, IsSampleOf}
use Rattle.relate_core.proofs.Contributions.{IsAlongRay, IsWithinSector, sample_along, along_sample, sample_within, within_sample}
use Rattle.relate_core.proofs.Taking.{taken_alike, taken_together, taken_nothing}

-- ---- the rays of a node, or its sectors, one by one
-- a dimension of a cell that comes from one of the places before
pub record IsBefore (From : ℕ → Cell → Type 0) (dim : Dim) (n : ℕ) (c : Cell) (d : Dim) : Type 0 where
  pub is : d ≡ dim
  pub i : ℕ
  pub before : i < n
  pub from : From i c

module _ {From : ℕ → Cell → Type 0} {dim : Dim} {n : ℕ} where
  -- one place more, from which one cell comes
  before_more : (c : Cell) → From n c → ((e : Cell) → From n e → e ≡ c) → (p q r : Progress) → HasTakenIn (IsBefore From dim n) p q
      → HasTakenIn (IsOne c dim) q r → HasTakenIn (IsBefore From dim (n + 1)) p r
  before_more c own one p q r h k =
      taken_together (IsBefore From dim n) (IsOne c dim) (IsBefore From dim (n + 1)) earlier here either p q r h k
    where
      earlier : (e : Cell) (d : Dim) → IsBefore From dim n e d → IsBefore From dim (n + 1) e d
      earlier e d x = let before = x.before in record { is = x.is; i = x.i; before = omega (arith, before); from = x.from }

      here : (e : Cell) (d : Dim) → IsOne c dim e d → IsBefore From dim (n + 1) e d
      here e d x = record { is = x.1; i = n; before = omega arith; from = subst (From n) (sym x.0) own }

      either : (e : Cell) (d : Dim) → IsBefore From dim (n + 1) e d → IsBefore From dim n e d ⊎ IsOne c dim e d
      either e d x = by_place (cases_lt x.i n)
        where
          by_place : (x.i < n) ⊎ (n ≤ x.i) → IsBefore From dim n e d ⊎ IsOne c dim e d
          by_place (inl less) = inl (record { is = x.is; i = x.i; before = less; from = x.from })
          by_place (inr most) =
              let before = x.before in
              let same : x.i ≡ n = omega (arith, before, most) in
              inr (one e (subst (λ j. From j e) same x.from), x.is)

  -- past the last place all that come from any
  before_all : {Is : Cell → Type 0} {limit : ℕ} → limit ≤ n → ((i : ℕ) (c : Cell) → From i c → Is c)
      → ((c : Cell) → Is c → (i : ℕ) × (i < limit) × From i c) → {p q : Progress} → HasTakenIn (IsBefore From dim n) p q
      → HasTakenIn (λ c d. (d ≡ dim) × Is c) p q
  before_all {Is} past is of {p} {q} h =
      taken_alike (IsBefore From dim n) (λ c d. (d ≡ dim) × Is c) (λ c d x. (x.is, is x.i c x.from))
      (λ c d x. let k = of c x.1 in record { is = x.0; i = k.0; before = omega (arith, k.1, past); from = k.2 }) p q h

-- ---- wherever the node is seen
-- At each node with these sections, where the figures' parts are these, what comes from the places before has been taken in.
pub record AreTaken (From : Figure → Figure → Rule → Point → ℕ → Cell → Type 0) (dim : Dim) (at_a at_b : DimLoc)
    (sections : List Section) (n : ℕ) (p q : Progress) : Type 0 where
  pub taken : (a b : Figure) (rule : Rule) (v : Point) → AreSeenAt a b rule v at_a at_b sections
      → HasTakenIn (IsBefore (From a b rule v) dim n) p q

-- before the first place nothing
pub none_taken : {From : Figure → Figure → Rule → Point → ℕ → Cell → Type 0} {dim : Dim} {at_a at_b : DimLoc} {sections : List Section}
    (p : Progress) → AreTaken From dim at_a at_b sections 0 p p
none_taken {From} {dim} p = record {
  taken = λ a b rule v seen. taken_nothing (IsBefore (From a b rule v) dim 0) p (λ c d h. let below = h.before in omega (arith, below));
}

module _ {at_a at_b : DimLoc} {sections : List Section} {rays : List Dir} {n : ℕ} {p q : Progress} where
  -- one ray more, with the germ along it
  pub ray_taken : AreTaken (IsAlongRay rays) One at_a at_b sections n p q → n < length rays → {c e : Cell} → c ≡ e
      → ((a b : Figure) (rule : Rule) (v : Point) → AreSeenAt a b rule v at_a at_b sections → (ray : Dir) → IsAtPlace rays n ray
      → IsPairGerm a b rule v (direction_of ray) e) → {r : Progress} → HasTakenIn (IsOne c One) q r
      → AreTaken (IsAlongRay rays) One at_a at_b sections (n + 1) p r
  ray_taken h below {c} {e} same germ {r} k = record {
    taken = λ a b rule v seen.
        let at = item_at rays n below in
        let here = λ (ray : Dir) (is : IsAtPlace rays n ray). subst (IsPairGerm a b rule v (direction_of ray)) (sym same)
        (germ a b rule v seen ray is) in
        before_more c (record { ray = at.item; ray_is = at.is; germ = here at.item at.is })
        (λ f x. pair_germ_one a b rule v (direction_of x.ray) f c x.germ (here x.ray x.ray_is)) p q r (h.taken a b rule v seen) k;
  }

  -- past the last ray all samples of dimension One at the node have been taken in
  pub rays_all : AreTaken (IsAlongRay rays) One at_a at_b sections n p q → AreRaysOf sections rays → length rays ≤ n
      → (a b : Figure) (rule : Rule) (v : Point) → AreSeenAt a b rule v at_a at_b sections → HasTakenIn (IsSampleOf One a b rule v) p q
  rays_all h of past a b rule v seen =
      let are = edge_directions a b v sections rays seen.sections_a seen.sections_b of in
      before_all past (sample_along a b seen.valid rule v rays are) (along_sample a b seen.valid rule v rays are) (h.taken a b rule v seen)

  -- one sector more, with the germ along each of its directions
  pub sector_taken : AreTaken (IsWithinSector rays) Two at_a at_b sections n p q → n < sectors_of rays → {c e : Cell} → c ≡ e
      → ((a b : Figure) (rule : Rule) (v : Point) → AreSeenAt a b rule v at_a at_b sections → (d : Direction) → IsInSector rays n d
      → IsPairGerm a b rule v d e) → {r : Progress} → HasTakenIn (IsOne c Two) q r
      → AreTaken (IsWithinSector rays) Two at_a at_b sections (n + 1) p r
  sector_taken h below {c} {e} same germ {r} k = record {
    taken = λ a b rule v seen.
        let middle = middle_of rays n below in
        let within = middle_in_sector rays n middle.m middle.is in
        let here = λ (d : Direction) (is : IsInSector rays n d). subst (IsPairGerm a b rule v d) (sym same) (germ a b rule v seen d is) in
        before_more c (record { below = below; d = middle.m; within = within; germ = here middle.m within })
        (λ f x. pair_germ_one a b rule v x.d f c x.germ (here x.d x.within)) p q r (h.taken a b rule v seen) k;
  }

  -- past the last sector all of dimension Two
  pub sectors_all : AreTaken (IsWithinSector rays) Two at_a at_b sections n p q → AreRaysOf sections rays → sectors_of rays ≤ n
      → (a b : Figure) (rule : Rule) (v : Point) → AreSeenAt a b rule v at_a at_b sections → HasTakenIn (IsSampleOf Two a b rule v) p q
  sectors_all h of past a b rule v seen =
      let are = edge_directions a b v sections rays seen.sections_a seen.sections_b of in
      before_all past (sample_within a b seen.valid rule v rays are) (within_sample a b seen.valid rule v rays are)
      (h.taken a b rule v seen)

-- ---- the three kinds of samples at a node
-- dimension Zero of the node's own cell, or a sample along an edge direction
abbrev IsHereOrAlong : Figure → Figure → Rule → Point → Cell → Cell → Dim → Type 0
IsHereOrAlong a b rule v here = λ c d. IsOne here Zero c d ⊎ IsSampleOf One a b rule v c d

-- after the node itself, its rays and its sectors all samples at it have been taken in
pub taken_at : (a b : Figure) (rule : Rule) (v : Point) (here : Cell) → IsInCell a b rule here v → (p q r s : Progress)
    → HasTakenIn (IsOne here Zero) p q → HasTakenIn (IsSampleOf One a b rule v) q r → HasTakenIn (IsSampleOf Two a b rule v) r s
    → HasTakenIn (IsSampleAt a b rule v) p s
taken_at a b rule v here held p q r s h k l =
    taken_together (IsHereOrAlong a b rule v here) (IsSampleOf Two a b rule v) (IsSampleAt a b rule v) below_is two either p r s
    (taken_together (IsOne here Zero) (IsSampleOf One a b rule v) (IsHereOrAlong a b rule v here) (λ c d x. inl x) (λ c d x. inr x)
    (λ c d x. x) p q r h k) l
  where
    alone : (c : Cell) → IsInCell a b rule c v → c ≡ here
    alone c x = λ i. record { a = one_part x.in_a held.in_a i; b = one_part x.in_b held.in_b i }

    zero_is : (c : Cell) → c ≡ here → IsInCell a b rule c v
    zero_is c e = subst (λ z. IsInCell a b rule z v) (sym e) held

    below_is : (c : Cell) (d : Dim) → IsHereOrAlong a b rule v here c d → IsSampleAt a b rule v c d
    below_is c d (inl x) = subst (λ z. IsSampleAt a b rule v c z) (sym x.1) (zero_is c x.0)
    below_is c d (inr x) = subst (λ z. IsSampleAt a b rule v c z) (sym x.0) x.1

    two : (c : Cell) (d : Dim) → IsSampleOf Two a b rule v c d → IsSampleAt a b rule v c d
    two c d x = subst (λ z. IsSampleAt a b rule v c z) (sym x.0) x.1

    either : (c : Cell) (d : Dim) → IsSampleAt a b rule v c d → IsHereOrAlong a b rule v here c d ⊎ IsSampleOf Two a b rule v c d
    either c Empty x = absurd x
    either c Zero x = inl (inl (alone c x, refl))
    either c One x = inl (inr (refl, x))
    either c Two x = inr (refl, x)
