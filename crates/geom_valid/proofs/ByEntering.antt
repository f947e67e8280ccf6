-- The clauses on holes and on areas by what edges enter.
use Rattle.std.proofs.Common.{◌≡◌, ◌⊎◌, inl, inr, ℕ, suc, ◌<◌, Bool, true, false, List, length, refl, sym, subst, arith, ◌∙◌}
use Rattle.std.specs.Prelude.{IsTrue, ◌↔◌}
use Rattle.std.proofs.lemmas.Option.{slice_get_within}
use Rattle.im_matrix.specs.declared.Loc.{Loc}
use Rattle.plane_exact.specs.declared.point.Pt.{Pt}
use Rattle.point_set.specs.declared.figure.Area.{Area}
use Rattle.point_set.specs.Location.{rings_of}
use Rattle.point_set.specs.Rings.{edges_of}
use Rattle.point_set.specs.Validity.{IsAtPlace, CrossesItself, EdgesShareSegment, RingsShareSegment, HasHoleOutside, HasHolesThatOverlap}
use Rattle.point_set.specs.Validity.{AreasShareSegment}
use Rattle.figure_laws.proofs.Edges.Owners.{ring_edge}
use Rattle.figure_laws.proofs.Lists.Places.{some_same, all_at}
use Rattle.valid_laws.specs.Entering.{edges_in, Enters, IsSimpleRing, LeavesShell, AreBothInside}
use Rattle.valid_laws.proofs.Entering.RingParts.{ring_enters}
use Rattle.valid_laws.proofs.Clauses.OverAllPoints.{swapped}
use Rattle.geom_valid.specs.Grounds.{OverlapsEarlierHole, IsSoundArea}
use Rattle.geom_valid.proofs.NearPlaces.{IsSoEarlier}
use Rattle.geom_valid.proofs.RingLists.{no_ring_from, ring_shaped}

-- ---- two tests, of which the second is made where the first fails
pub by_first : {P Q R : Type 0} (b : Bool) → b ≡ true → (IsTrue b ↔ P) → (R ↔ (P ⊎ Q)) → IsTrue b ↔ R
by_first b is first law = (λ _. law.1 (inl (first.0 is)), λ _. is)

pub by_second : {P Q R : Type 0} (b d : Bool) → b ≡ false → (IsTrue b ↔ P) → (IsTrue d ↔ Q) → (R ↔ (P ⊎ Q)) → IsTrue d ↔ R
by_second {P} {Q} {R} b d is first second law = (λ yes. law.1 (inr (second.0 yes)), λ r. second.1 (right (law.0 r)))
  where
    right : P ⊎ Q → Q
    right (inl p) = absurd (apart (sym is ∙ first.1 p))
      where
        apart : ¬ (false ≡ true)
        apart e = cc
    right (inr q) = q

-- ---- common segments
-- two rings of an area have none
pub rings_unshared : (area : Area) → ¬ RingsShareSegment area → (i j : ℕ) → i < j → (one other : List Pt) → IsAtPlace (rings_of area) i one
    → IsAtPlace (rings_of area) j other → ¬ EdgesShareSegment (edges_of one) (edges_of other)
rings_unshared area unshared i j earlier one other one_is other_is share =
    unshared (record { i = i; j = j; earlier = earlier; one = one; other = other; one_is = one_is; other_is = other_is; share = share })

-- a ring of an area that shares none with another has none with the other
pub ring_unshared : (area other : Area) → ¬ AreasShareSegment area other → (k : ℕ) (ring : List Pt) → IsAtPlace (rings_of area) k ring
    → ¬ EdgesShareSegment (edges_of ring) (edges_in other)
ring_unshared area other unshared k ring is share =
    let place = ring_edge (rings_of area) k share.e
    (record { way = ring; way_is = is; here = record { place = share.i; is = share.e_is } }) in
    unshared (record { i = place.place; j = share.j; e = share.e; f = share.f; e_is = place.is; f_is = share.f_is; share = share.share })

-- ---- the holes of an area
pub hole_outside_at :
    (area : Area) (i : ℕ) (hole : List Pt) → IsAtPlace area.holes i hole → LeavesShell area.shell hole → HasHoleOutside area
hole_outside_at area i hole is leaves =
    record { i = i; hole = hole; hole_is = is; p = leaves.p; in_hole = leaves.in_hole; off_shell = leaves.off_shell }

pub no_hole_outside : (area : Area) → ((i : ℕ) (hole : List Pt) → IsAtPlace area.holes i hole → ¬ LeavesShell area.shell hole)
    → ¬ HasHoleOutside area
no_hole_outside area none h = none h.i h.hole h.hole_is (record { p = h.p; in_hole = h.in_hole; off_shell = h.off_shell })

pub holes_overlap_at : (area : Area) (place : ℕ) → OverlapsEarlierHole area.holes place → HasHolesThatOverlap area
holes_overlap_at area place h = record {
  i = h.before;
  j = place;
  earlier = h.earlier;
  one = h.one;
  other = h.other;
  one_is = h.one_is;
  other_is = h.other_is;
  p = h.both.p;
  in_one = h.both.in_one;
  in_other = h.both.in_other;
}

pub no_holes_overlap : (area : Area) → ((place : ℕ) → ¬ OverlapsEarlierHole area.holes place) → ¬ HasHolesThatOverlap area
no_holes_overlap area none h = none h.j (record {
  before = h.i;
  earlier = h.earlier;
  one = h.one;
  other = h.other;
  one_is = h.one_is;
  other_is = h.other_is;
  both = record { p = h.p; in_one = h.in_one; in_other = h.in_other };
})

-- the shell and a hole have no common segment
pub shell_unshared : (area : Area) → ¬ RingsShareSegment area → (shell : List Pt) → shell ≡ area.shell → (i : ℕ) (hole : List Pt)
    → IsAtPlace area.holes i hole → ¬ EdgesShareSegment (edges_of shell) (edges_of hole)
shell_unshared area unshared shell same i hole is =
    subst (λ s. ¬ EdgesShareSegment (edges_of s) (edges_of hole)) (sym same)
    (rings_unshared area unshared 0 (suc i) (omega arith) area.shell hole refl is)

-- nor have two holes
pub holes_unshared : (area : Area) → ¬ RingsShareSegment area → (i j : ℕ) → i < j → (one other : List Pt) → IsAtPlace area.holes i one
    → IsAtPlace area.holes j other → ¬ EdgesShareSegment (edges_of one) (edges_of other)
holes_unshared area unshared i j earlier one other one_is other_is =
    rings_unshared area unshared (suc i) (suc j) (omega (arith, earlier)) one other one_is other_is

-- where none of the earlier holes overlaps the one at a place
pub no_earlier_hole : (holes : List (List Pt)) (place : ℕ) (hole : List Pt) → IsAtPlace holes place hole
    → ((k : ℕ) → ¬ IsSoEarlier (λ one. AreBothInside one hole) holes place k) → ¬ OverlapsEarlierHole holes place
no_earlier_hole holes place hole is none h = none h.before (record {
  earlier = h.earlier;
  item = h.one;
  item_is = h.one_is;
  is_so = subst (λ other. AreBothInside h.one other) (some_same (sym h.other_is ∙ is)) h.both;
})

pub hole_within : (holes : List (List Pt)) (place : ℕ) → OverlapsEarlierHole holes place → place < length holes
hole_within holes place h = slice_get_within holes place h.other h.other_is

-- ---- the rings of a sound area
pub sound_ring : (area : Area) → IsSoundArea area → (k : ℕ) (ring : List Pt) → IsAtPlace (rings_of area) k ring → IsSimpleRing ring
sound_ring area sound k ring is =
    record {
      shaped = ring_shaped area sound.clean.shaped k ring is;
      simple = all_at (λ w. ¬ CrossesItself w)
          (rings_of area) k ring sound.clean.simple is;
    }

-- an area enters another's inside where its shell does, or a hole
pub enters_by_shell : (area other : Area) (part : Loc) → Enters (edges_of area.shell) other part → Enters (edges_in area) other part
enters_by_shell area other part h = (ring_enters area other part).1 (record { place = 0; ring = area.shell; ring_is = refl; is_so = h })

pub enters_by_hole :
    (area other : Area) (part : Loc) (i : ℕ) (hole : List Pt) → IsAtPlace area.holes i hole → Enters (edges_of hole) other part
    → Enters (edges_in area) other part
enters_by_hole area other part i hole is h =
    (ring_enters area other part).1 (record { place = suc i; ring = hole; ring_is = is; is_so = h })

-- and nowhere else
pub enters_none : (area other : Area) (part : Loc) → ¬ Enters (edges_of area.shell) other part
    → ((i : ℕ) (hole : List Pt) → IsAtPlace area.holes i hole → ¬ Enters (edges_of hole) other part) → ¬ Enters (edges_in area) other part
enters_none area other part shell holes h =
    no_ring_from (λ ring. Enters (edges_of ring) other part) area shell holes ((ring_enters area other part).0 h)

-- no common segment of two areas, the other way round
pub areas_swapped : (area other : Area) → ¬ AreasShareSegment area other → ¬ AreasShareSegment other area
areas_swapped area other unshared h = unshared (swapped h)
