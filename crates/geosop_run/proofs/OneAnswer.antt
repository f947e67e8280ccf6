-- A source has one answer: its figures, or one first refusal.
use Rattle.std.proofs.Common.{◌≡◌, ℕ, ◌+◌, List, [], ◌∷◌, ◌++◌, ◌⊎◌, inl, inr, refl, sym, ap, subst, ◌∙◌, arith, length}
use Rattle.std.proofs.lemmas.List.{append-nil}
use Rattle.im_matrix.specs.declared.Which.{Which}
use Rattle.im_matrix.specs.declared.Which.TheVariants.{A, B}
use Rattle.point_set.specs.declared.figure.Figure.{Figure}
use Rattle.wkt_text.specs.Faults.{FirstFault, IsOnlyWhite}
use Rattle.wkt_text.specs.declared.control.WktKind.{WktKind}
use Rattle.wkt_text.proofs.Laws.{one_reading, white_unread, one_fault}
use Rattle.geom_valid.specs.declared.kinds.InvalidKind.{InvalidKind}
use Rattle.geom_valid.specs.Faults.{IsFirstFaultOf}
use Rattle.geom_valid.proofs.Laws.{no_fault, this_fault}
use Rattle.geosop_run.specs.declared.status.Refusal.{Refusal}
use Rattle.geosop_run.specs.declared.status.Refusal.TheVariants as refusal
use Rattle.geosop_run.specs.Sources.{IsGeometryAt, AreGeometries, IsSource, IsFaultAt, IsInvalidAt, IsShapeFaultAt, IsRefusalOf, IsAdmitted}
use Rattle.geosop_run.specs.Sources.{IsFirstRefusal}

module _ (scale : ℕ) where
  module _ (bytes : List ℕ) where
    -- ---- two readings from one place: the one goes on where the other ends
    record GoesOn (fewer : List Figure) (at : ℕ) (more : List Figure) (end : ℕ) : Type 0 where
      others : List Figure
      joined : more ≡ fewer ++ others
      rest : AreGeometries scale bytes at others end

    one_geometry : (at : ℕ) (f g : Figure) (m n : ℕ) → IsGeometryAt scale bytes at f m → IsGeometryAt scale bytes at g n
        → (f ≡ g) × (m ≡ n)
    one_geometry at f g m n h k = one_reading scale bytes at f g m n h.reads k.reads

    longer : (f g : Figure) (fewer more : List Figure) (at end : ℕ) → f ≡ g → GoesOn fewer at more end
        → GoesOn (f ∷ fewer) at (g ∷ more) end
    longer f g fewer more at end e h = record { others = h.others; joined = (λ i. sym e i ∷ h.joined i); rest = h.rest }

    compared : (at : ℕ) (fs gs : List Figure) (m n : ℕ) → AreGeometries scale bytes at fs m → AreGeometries scale bytes at gs n
        → GoesOn fs m gs n ⊎ GoesOn gs n fs m
    compared at [] gs m n h k =
        inl (record { others = gs; joined = refl; rest = subst (λ (x : ℕ). AreGeometries scale bytes x gs n) h k })
    compared at (f ∷ fs) [] m n h k =
        inr (record { others = f ∷ fs; joined = refl; rest = subst (λ (x : ℕ). AreGeometries scale bytes x (f ∷ fs) m) k h })
    compared at (f ∷ fs) (g ∷ gs) m n h k =
        let same = one_geometry at f g h.middle k.middle h.first k.first in
        elim (compared h.middle fs gs m n h.rest (subst (λ (x : ℕ). AreGeometries scale bytes x gs n) (sym same.1) k.rest)) [
          | inl on ↦ inl (longer f g fs gs m n same.0 on)
          | inr on ↦ inr (longer g f gs fs n m (sym same.0) on)
        ]

    -- ---- where no geometry stands
    data Halts (at : ℕ) : Type 0 where
      blank : IsOnlyWhite bytes at → Halts at
      faulty : (kind : WktKind) (place : ℕ) → FirstFault scale bytes at kind place → Halts at
      invalid : (kind : InvalidKind) (element : ℕ) → IsInvalidAt scale bytes at kind element → Halts at

    nothing_stands : (at : ℕ) → Halts at → (f : Figure) (end : ℕ) → IsGeometryAt scale bytes at f end → ⊥
    nothing_stands at (blank white) f end h = white_unread scale bytes at f end white h.reads
    nothing_stands at (faulty kind place e) f end h = e.unread f end h.reads
    nothing_stands at (invalid kind element e) f end h =
        let same = one_reading scale bytes at e.figure f e.«end» end e.reads h.reads in
        no_fault f kind element h.valid (subst (λ (g : Figure). IsFirstFaultOf g kind element) same.0 e.fault)

    -- the other goes on with nothing
    ended : (fewer : List Figure) (at : ℕ) (more : List Figure) (end : ℕ) → Halts at → GoesOn fewer at more end
        → (at ≡ end) × (length fewer ≡ length more)
    ended fewer at more end halts on = by_rest on.others on.joined on.rest
      where
        by_rest : (others : List Figure) → more ≡ fewer ++ others → AreGeometries scale bytes at others end
            → (at ≡ end) × (length fewer ≡ length more)
        by_rest [] joined rest = (rest, sym (ap length (joined ∙ append-nil fewer)))
        by_rest (f ∷ others) joined rest = absurd (nothing_stands at halts f rest.middle rest.first)

    one_end : (fs gs : List Figure) (m n : ℕ) → AreGeometries scale bytes 0 fs m → Halts m → AreGeometries scale bytes 0 gs n
        → Halts n → (m ≡ n) × (length fs ≡ length gs)
    one_end fs gs m n h halts k stops = elim (compared 0 fs gs m n h k) [
      | inl on ↦ ended fs m gs n halts on
      | inr on ↦ (let e = ended gs n fs m stops on in (sym e.0, sym e.1))
    ]

    -- ---- one source halts in one way
    source_no_fault : (figures : List Figure) (number : ℕ) (kind : WktKind) (place : ℕ) → IsSource scale bytes figures
        → IsFaultAt scale bytes number kind place → ⊥
    source_no_fault figures number kind place s f =
        let e = one_end figures f.before s.«end» f.at s.geometries (blank s.blank) f.geometries (faulty kind place f.fault) in
        f.fault.some (subst (λ (x : ℕ). IsOnlyWhite bytes x) e.0 s.blank)

    source_no_shape_fault : (figures : List Figure) (number : ℕ) (kind : InvalidKind) (element : ℕ) → IsSource scale bytes figures
        → IsShapeFaultAt scale bytes number kind element → ⊥
    source_no_shape_fault figures number kind element s f =
        let e = one_end figures f.before s.«end» f.at s.geometries (blank s.blank) f.geometries (invalid kind element f.invalid) in
        white_unread scale bytes f.at f.invalid.figure f.invalid.«end» (subst (λ (x : ℕ). IsOnlyWhite bytes x) e.0 s.blank) f.invalid.reads

    text_no_shape_fault : (i j : ℕ) (kind : WktKind) (place : ℕ) (other : InvalidKind) (element : ℕ) → IsFaultAt scale bytes i kind place
        → IsShapeFaultAt scale bytes j other element → ⊥
    text_no_shape_fault i j kind place other element f g =
        let e = one_end f.before g.before f.at g.at f.geometries (faulty kind place f.fault) g.geometries
        (invalid other element g.invalid) in
        let moved = subst (λ (x : ℕ). FirstFault scale bytes x kind place) e.0 f.fault in
        moved.unread g.invalid.figure g.invalid.«end» g.invalid.reads

    -- what two faults of one source share
    record SameFault (K : Type 0) (i j : ℕ) (kind other : K) (place spot : ℕ) : Type 0 where
      number : i ≡ j
      same_kind : kind ≡ other
      same_place : place ≡ spot

    one_text_fault : (i j : ℕ) (kind other : WktKind) (place spot : ℕ) → IsFaultAt scale bytes i kind place
        → IsFaultAt scale bytes j other spot → SameFault WktKind i j kind other place spot
    one_text_fault i j kind other place spot f g =
        let e = one_end f.before g.before f.at g.at f.geometries (faulty kind place f.fault) g.geometries (faulty other spot g.fault) in
        let same = one_fault scale bytes g.at kind other place spot
        (subst (λ (x : ℕ). FirstFault scale bytes x kind place) e.0 f.fault) g.fault in
        record { number = f.counted ∙ ap (λ n. n + 1) e.1 ∙ sym g.counted; same_kind = same.0; same_place = same.1 }

    one_shape_fault : (i j : ℕ) (kind other : InvalidKind) (element spot : ℕ) → IsShapeFaultAt scale bytes i kind element
        → IsShapeFaultAt scale bytes j other spot → SameFault InvalidKind i j kind other element spot
    one_shape_fault i j kind other element spot f g =
        let e = one_end f.before g.before f.at g.at f.geometries (invalid kind element f.invalid) g.geometries
        (invalid other spot g.invalid) in
        let moved = subst (λ (x : ℕ). IsInvalidAt scale bytes x kind element) e.0 f.invalid in
        let last = g.invalid in
        let figure = one_reading scale bytes g.at moved.figure last.figure moved.«end» last.«end» moved.reads last.reads in
        let here = subst (λ (x : Figure). IsFirstFaultOf x kind element) figure.0 moved.fault in
        let same = this_fault last.figure kind element here last.fault.place other last.fault.is_first in
        record {
          number = f.counted ∙ ap (λ n. n + 1) e.1 ∙ sym g.counted;
          same_kind = same.0;
          same_place = same.1 ∙ sym last.fault.counted;
        }

  -- ---- refusals
  pub admitted_not_refused : (side : Which) (bytes : List ℕ) (figures : List Figure) (found : Refusal) → IsAdmitted scale bytes figures
      → IsRefusalOf scale side bytes found → ⊥
  admitted_not_refused side bytes figures (refusal.TooLong s) h k = omega (arith, h.short, k.1)
  admitted_not_refused side bytes figures (refusal.Text s number kind place) h k =
      source_no_fault bytes figures number kind place h.source k.2
  admitted_not_refused side bytes figures (refusal.Shape s number kind element) h k =
      source_no_shape_fault bytes figures number kind element h.source k.2

  pub one_refusal : (side : Which) (bytes : List ℕ) (found other : Refusal) → IsRefusalOf scale side bytes found
      → IsRefusalOf scale side bytes other → found ≡ other
  one_refusal side bytes (refusal.TooLong s) (refusal.TooLong t) h k = ap refusal.TooLong (h.0 ∙ sym k.0)
  one_refusal side bytes (refusal.TooLong s) (refusal.Text t j other spot) h k = absurd (omega (arith, h.1, k.1))
  one_refusal side bytes (refusal.TooLong s) (refusal.Shape t j other spot) h k = absurd (omega (arith, h.1, k.1))
  one_refusal side bytes (refusal.Text s i kind place) (refusal.TooLong t) h k = absurd (omega (arith, h.1, k.1))
  one_refusal side bytes (refusal.Text s i kind place) (refusal.Text t j other spot) h k =
      let e = one_text_fault bytes i j kind other place spot h.2 k.2 in
      (λ x. refusal.Text ((h.0 ∙ sym k.0) x) (e.number x) (e.same_kind x) (e.same_place x))
  one_refusal side bytes (refusal.Text s i kind place) (refusal.Shape t j other spot) h k =
      absurd (text_no_shape_fault bytes i j kind place other spot h.2 k.2)
  one_refusal side bytes (refusal.Shape s i kind element) (refusal.TooLong t) h k = absurd (omega (arith, h.1, k.1))
  one_refusal side bytes (refusal.Shape s i kind element) (refusal.Text t j other spot) h k =
      absurd (text_no_shape_fault bytes j i other spot kind element k.2 h.2)
  one_refusal side bytes (refusal.Shape s i kind element) (refusal.Shape t j other spot) h k =
      let e = one_shape_fault bytes i j kind other element spot h.2 k.2 in
      (λ x. refusal.Shape ((h.0 ∙ sym k.0) x) (e.number x) (e.same_kind x) (e.same_place x))

  pub both_admitted : (a b : List ℕ) (in_a in_b : List Figure) (found : Refusal) → IsAdmitted scale a in_a → IsAdmitted scale b in_b
      → IsFirstRefusal scale a b found → ⊥
  both_admitted a b in_a in_b found h k first = elim first [
    | inl of_a ↦ admitted_not_refused A a in_a found h of_a
    | inr after ↦ admitted_not_refused B b in_b found k after.second
  ]

  pub one_first_refusal : (a b : List ℕ) (found other : Refusal) → IsFirstRefusal scale a b found → IsFirstRefusal scale a b other
      → found ≡ other
  one_first_refusal a b found other h k = elim h [
    | inl of_a ↦ elim k [
      | inl of_a' ↦ one_refusal A a found other of_a of_a'
      | inr after' ↦ absurd (admitted_not_refused A a after'.figures found after'.admitted of_a)
    ]
    | inr after ↦ elim k [
      | inl of_a' ↦ absurd (admitted_not_refused A a after.figures other after.admitted of_a')
      | inr after' ↦ one_refusal B b found other after.second after'.second
    ]
  ]
