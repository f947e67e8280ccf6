-- What a test of two edges says of their places.
use Rattle.std.proofs.Common.{◌≡◌, ◌↔◌, ℕ, ◌<◌, ◌≤◌, Bool, List, IsTrue, ltb, sym, ◌∙◌, subst, subst₂, arith}
use Rattle.std.proofs.lemmas.Bool.Decides.{Decides-ltb}
use Rattle.point_set.specs.Validity.{IsAtPlace, ShareSegment}
use Rattle.figure_laws.proofs.Lists.Places.{some_same}
use Rattle.ring_faults.specs.declared.part.PartEdge.{PartEdge}
use Rattle.ring_faults.specs.declared.clash.Clash.{Clash}
use Rattle.ring_faults.specs.declared.clash.Clash.TheVariants.{Crossing, Sharing}
use Rattle.ring_faults.specs.Clashes.{ClashAt}
use Rattle.ring_faults.specs.Joints.{HasUnjoinedPoint}
use Rattle.ring_faults.specs.Parts.{segs_of}

-- two edges stand at two places
pub record AreAtPlaces (edges : List PartEdge) (i j : ℕ) (e f : PartEdge) : Type 0 where
  pub first : IsAtPlace edges i e
  pub second : IsAtPlace edges j f

module _ (edges : List PartEdge) (i j : ℕ) (e f : PartEdge) (there : AreAtPlaces edges i j e f) (clash : Clash) where
  -- they clash where they are found unjoined, and i is the earlier place
  pub crossing_at : clash ≡ Crossing → i < j → (b : Bool) → (IsTrue b ↔ HasUnjoinedPoint (segs_of edges) i j e.seg f.seg)
      → IsTrue b ↔ ClashAt clash edges i j
  crossing_at kind earlier b h = subst (λ (k : Clash). IsTrue b ↔ ClashAt k edges i j) (sym kind) (
    λ t. record { earlier = earlier; e = e; f = f; e_is = there.first; f_is = there.second; unjoined = h.0 t },
    λ c. h.1 (subst₂ (λ (x y : PartEdge). HasUnjoinedPoint (segs_of edges) i j x.seg y.seg) (some_same (sym c.e_is ∙ there.first))
        (some_same (sym c.f_is ∙ there.second)) c.unjoined),
  )

  -- they clash where they share a segment, and i is of the earlier part
  pub sharing_at : clash ≡ Sharing → e.part < f.part → (b : Bool) → (IsTrue b ↔ ShareSegment e.seg f.seg)
      → IsTrue b ↔ ClashAt clash edges i j
  sharing_at kind earlier b h = subst (λ (k : Clash). IsTrue b ↔ ClashAt k edges i j) (sym kind) (
    λ t. record { e = e; f = f; e_is = there.first; f_is = there.second; earlier = earlier; share = h.0 t },
    λ c. h.1 (subst₂ (λ (x y : PartEdge). ShareSegment x.seg y.seg) (some_same (sym c.e_is ∙ there.first))
        (some_same (sym c.f_is ∙ there.second)) c.share),
  )

  -- they don't where i isn't of the earlier part
  pub sharing_late : clash ≡ Sharing → f.part ≤ e.part → IsTrue (ltb e.part f.part) ↔ ClashAt clash edges i j
  sharing_late kind late = subst (λ (k : Clash). IsTrue (ltb e.part f.part) ↔ ClashAt k edges i j) (sym kind) (
    λ t. let less = (Decides-ltb e.part f.part).0 t in absurd (omega arith),
    λ c.
        let less : e.part < f.part = subst₂ (λ (x y : PartEdge). x.part < y.part) (some_same (sym c.e_is ∙ there.first))
        (some_same (sym c.f_is ∙ there.second)) c.earlier in
        absurd (omega arith),
  )
