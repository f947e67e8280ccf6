-- Edges that meet at joints alone: the edges of a ring that neither crosses nor touches itself.
use Rattle.std.proofs.Common.{◌≡◌, ◌+◌, ◌<◌, ℕ, zero, suc, List, [], ◌∷◌, length, refl, sym, subst, inl, inr, arith}
use Rattle.std.specs.List.{AllByRecursion}
use Rattle.plane_laws.specs.Plane.{Point, IsSamePoint}
use Rattle.plane_exact.specs.Places.{point_of}
use Rattle.plane_exact.specs.declared.point.Pt.{Pt}
use Rattle.plane_exact.specs.declared.point.Seg.{Seg}
use Rattle.point_set.specs.Rings.{edges_of}
use Rattle.point_set.specs.Validity.{IsAtPlace, IsOnEdge, IsJoint, CrossesItself}
use Rattle.figure_laws.proofs.Lists.Places.{some_same}

-- No point is on both edges.
abbrev pub IsOff : Seg → Seg → Type 0
IsOff e f = (p : Point) → IsOnEdge e p → IsOnEdge f p → ⊥

-- The edges have no common point but the one at a position.
abbrev pub MeetAt : Pt → Seg → Seg → Type 0
MeetAt q e f = (p : Point) → IsOnEdge e p → IsOnEdge f p → IsSamePoint (point_of q) p

-- Each edge meets the next one at its start alone, and none of the later ones.
abbrev pub IsSimpleWay : List Seg → Type 0
IsSimpleWay [] = Unit {0}
IsSimpleWay (e ∷ []) = Unit {0}
IsSimpleWay (e ∷ f ∷ fs) = MeetAt f.a e f × (AllByRecursion (IsOff e) fs × IsSimpleWay (f ∷ fs))

-- An edge meets the last of some edges at its own start alone, and none of the others.
abbrev pub IsClosedBy : Seg → List Seg → Type 0
IsClosedBy e [] = Unit {0}
IsClosedBy e (f ∷ []) = MeetAt e.a e f
IsClosedBy e (f ∷ g ∷ gs) = IsOff e f × IsClosedBy e (g ∷ gs)

-- The first edge meets the next one and the last one so, and the others are a simple way.
abbrev pub MeetAtJoints : List Seg → Type 0
MeetAtJoints [] = Unit {0}
MeetAtJoints (e ∷ []) = Unit {0}
MeetAtJoints (e ∷ f ∷ fs) = MeetAt f.a e f × (IsClosedBy e fs × IsSimpleWay (f ∷ fs))

-- an edge is off the one at a place where it is off all
off_at : (e : Seg) (fs : List Seg) → AllByRecursion (IsOff e) fs → (k : ℕ) (f : Seg) → IsAtPlace fs k f → IsOff e f
off_at e [] all k f is = cc
off_at e (g ∷ gs) all zero f is = subst (IsOff e) (some_same is) all.0
off_at e (g ∷ gs) all (suc k) f is = off_at e gs all.1 k f is

-- where two places of edges stand for one edge each, a common point is the start of the later one
starts_at : {e f g h : Seg} → g ≡ e → h ≡ f → MeetAt h.a g h → (p : Point) → IsOnEdge e p → IsOnEdge f p → IsSamePoint (point_of f.a) p
starts_at {e} {f} {g} {h} same same' meet =
    let HasMet : Seg → Seg → Type 0 = λ (s t : Seg). MeetAt t.a s t in
    subst (λ (t : Seg). HasMet e t) same' (subst (λ (s : Seg). HasMet s h) same meet)

-- a common point of two edges of a simple way is the joint of neighbours
way_meets : (es : List Seg) → IsSimpleWay es → (i j : ℕ) (e f : Seg) → i < j → IsAtPlace es i e → IsAtPlace es j f
    → (p : Point) → IsOnEdge e p → IsOnEdge f p → (j ≡ i + 1) × IsSamePoint (point_of f.a) p
way_meets [] way i j e f before is_e is_f p on_e on_f = cc
way_meets (g ∷ gs) way i zero e f before is_e is_f p on_e on_f = absurd (omega (arith, before))
way_meets (g ∷ []) way i (suc j) e f before is_e is_f p on_e on_f = cc
way_meets (g ∷ h ∷ hs) way zero (suc zero) e f before is_e is_f p on_e on_f =
    (refl, starts_at (some_same is_e) (some_same is_f) way.0 p on_e on_f)
way_meets (g ∷ h ∷ hs) way zero (suc (suc j)) e f before is_e is_f p on_e on_f =
    absurd (off_at g hs way.1.0 j f is_f p (subst (λ (s : Seg). IsOnEdge s p) (sym (some_same is_e)) on_e) on_f)
way_meets (g ∷ h ∷ hs) way (suc i) (suc j) e f before is_e is_f p on_e on_f =
    let later = way_meets (h ∷ hs) way.1.1 i j e f (omega (arith, before)) is_e is_f p on_e on_f in
    (omega (arith, later.0), later.1)

-- a common point with one of the edges that close an edge is the edge's start, and that edge is the last
closed_meets : (e : Seg) (fs : List Seg) → IsClosedBy e fs → (k : ℕ) (f : Seg) → IsAtPlace fs k f
    → (p : Point) → IsOnEdge e p → IsOnEdge f p
    → (k + 1 ≡ length fs) × IsSamePoint (point_of e.a) p
closed_meets e [] closed k f is p on_e on_f = cc
closed_meets e (g ∷ []) closed zero f is p on_e on_f = (refl, closed p on_e (subst (λ (s : Seg). IsOnEdge s p) (sym (some_same is)) on_f))
closed_meets e (g ∷ []) closed (suc k) f is p on_e on_f = cc
closed_meets e (g ∷ h ∷ hs) closed zero f is p on_e on_f =
    absurd (closed.0 p on_e (subst (λ (s : Seg). IsOnEdge s p) (sym (some_same is)) on_f))
closed_meets e (g ∷ h ∷ hs) closed (suc k) f is p on_e on_f =
    let later = closed_meets e (h ∷ hs) closed.1 k f is p on_e on_f in
    (omega (arith, later.0), later.1)

-- so a common point of two edges of a ring is their joint
ring_meets : (es : List Seg) → MeetAtJoints es → (i j : ℕ) (e f : Seg) → i < j → IsAtPlace es i e → IsAtPlace es j f
    → (p : Point) → IsOnEdge e p → IsOnEdge f p → IsJoint es i j e f p
ring_meets [] ring i j e f before is_e is_f p on_e on_f = cc
ring_meets (g ∷ gs) ring i zero e f before is_e is_f p on_e on_f = absurd (omega (arith, before))
ring_meets (g ∷ []) ring i (suc j) e f before is_e is_f p on_e on_f = cc
ring_meets (g ∷ h ∷ hs) ring zero (suc zero) e f before is_e is_f p on_e on_f =
    inl (refl, starts_at (some_same is_e) (some_same is_f) ring.0 p on_e on_f)
ring_meets (g ∷ h ∷ hs) ring zero (suc (suc j)) e f before is_e is_f p on_e on_f =
    let closed = closed_meets g hs ring.1.0 j f is_f p (subst (λ (s : Seg). IsOnEdge s p) (sym (some_same is_e)) on_e) on_f in
    inr (refl, omega (arith, closed.0), subst (λ (s : Seg). IsSamePoint (point_of s.a) p) (some_same is_e) closed.1)
ring_meets (g ∷ h ∷ hs) ring (suc i) (suc j) e f before is_e is_f p on_e on_f =
    let later = way_meets (h ∷ hs) ring.1.1 i j e f (omega (arith, before)) is_e is_f p on_e on_f in
    inl (omega (arith, later.0), later.1)

-- a ring whose edges meet at joints alone doesn't cross itself
pub simple_by_joints : (ring : List Pt) (edges : List Seg) → edges_of ring ≡ edges → MeetAtJoints edges → ¬ CrossesItself ring
simple_by_joints ring edges same joints x =
    x.unjoined (ring_meets (edges_of ring) (subst MeetAtJoints (sym same) joints) x.i x.j x.e x.f x.earlier x.e_is x.f_is x.p x.on_e x.on_f)
