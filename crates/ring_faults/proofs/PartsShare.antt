-- Parts have a common segment exactly where two of their edges clash so; and what that says of rings.
use Rattle.std.proofs.Common.{◌≡◌, ◌↔◌, ℕ, ◌<◌, Option, Some, None, List, map, ap, refl, sym, ◌∙◌, subst, subst₂, arith}
use Rattle.std.specs.Option.{option_map}
use Rattle.std.specs.Prelude.{slice_get}
use Rattle.std.proofs.lemmas.Option.{slice_get-map, none-some}
use Rattle.plane_exact.specs.declared.point.Pt.{Pt}
use Rattle.plane_exact.specs.declared.point.Seg.{Seg}
use Rattle.point_set.specs.declared.figure.Area.{Area}
use Rattle.point_set.specs.Location.{rings_of}
use Rattle.point_set.specs.Rings.{edges_of}
use Rattle.point_set.specs.Validity.{IsAtPlace, CrossesItself, ShareSegment, EdgesShareSegment, RingsShareSegment}
use Rattle.figure_laws.proofs.Lists.Least.{SomeItem}
use Rattle.figure_laws.proofs.Lists.Places.{some_same}
use Rattle.ring_faults.specs.declared.part.PartEdge.{PartEdge}
use Rattle.ring_faults.specs.declared.clash.Clash.TheVariants.{Crossing, Sharing}
use Rattle.ring_faults.specs.Clashes.{SomeClash}
use Rattle.ring_faults.specs.Joints.{HasUnjoinedPoint}
use Rattle.ring_faults.specs.Parts.{part_edge, of_part, edges_of_parts, segs_of}
use Rattle.ring_faults.proofs.PartEdges.{segs_of_part, seg_at, comes_from_part, stands_in_row}

-- ---- parts
-- edges of two parts have a common segment.
pub record PartsShareSegment (parts : List (List Seg)) : Type 0 where
  pub i : ℕ
  pub j : ℕ
  pub earlier : i < j
  pub one : List Seg
  pub other : List Seg
  pub one_is : IsAtPlace parts i one
  pub other_is : IsAtPlace parts j other
  pub share : EdgesShareSegment one other

-- two parts whose edges have one
parts_at : {parts : List (List Seg)} {i j : ℕ} {one other : List Seg} → i < j → IsAtPlace parts i one → IsAtPlace parts j other
    → EdgesShareSegment one other → PartsShareSegment parts
parts_at earlier one_is other_is share =
    record { i = _; j = _; earlier = earlier; one = _; other = _; one_is = one_is; other_is = other_is; share = share }

-- edges that stand at places of the row
share_at : (parts : List (List Seg)) (e f : Seg) (i j : ℕ) → i < j → ShareSegment e f
    → SomeItem (λ (edge : PartEdge). edge ≡ part_edge i e) (edges_of_parts 0 parts)
    → SomeItem (λ (edge : PartEdge). edge ≡ part_edge j f) (edges_of_parts 0 parts) → SomeClash Sharing (edges_of_parts 0 parts)
share_at parts e f i j earlier share one other =
    let edges = edges_of_parts 0 parts in
    record {
      i = one.place;
      j = other.place;
      clash_at = record {
        e = part_edge i e;
        f = part_edge j f;
        e_is = subst (λ (edge : PartEdge). IsAtPlace edges one.place edge) one.is_so one.item_is;
        f_is = subst (λ (edge : PartEdge). IsAtPlace edges other.place edge) other.is_so other.item_is;
        earlier = earlier;
        share = share;
      };
    }

-- two edges clash so exactly where two parts have a common segment
pub parts_share : (parts : List (List Seg)) → SomeClash Sharing (edges_of_parts 0 parts) ↔ PartsShareSegment parts
parts_share parts = (
  λ h.
      let c = h.clash_at in
      let one = comes_from_part parts 0 h.i c.e c.e_is in
      let other = comes_from_part parts 0 h.j c.f c.f_is in
      let less = c.earlier in let a = one.part_is in let b = other.part_is in
      parts_at (omega (arith, less, a, b)) one.segs_is other.segs_is
      (record { i = one.place; j = other.place; e = c.e.seg; f = c.f.seg; e_is = one.seg_is; f_is = other.seg_is; share = c.share }),
  λ h.
      let s = h.share in
      share_at parts s.e s.f h.i h.j h.earlier s.share
      (stands_in_row parts 0 h.i h.one s.i s.e h.i h.one_is s.e_is (omega arith))
      (stands_in_row parts 0 h.j h.other s.j s.f h.j h.other_is s.f_is (omega arith)),
)

-- ---- the rings of an area
-- where a ring's edges come from
pub record IsOfRing (rings : List (List Pt)) (i : ℕ) (edges : List Seg) : Type 0 where
  pub ring : List Pt
  pub ring_is : IsAtPlace rings i ring
  pub edges_is : edges_of ring ≡ edges

-- the edges at a place of the rings' edges are those of the ring at that place
pub ring_at : (rings : List (List Pt)) (i : ℕ) (edges : List Seg) → IsAtPlace (map edges_of rings) i edges → IsOfRing rings i edges
ring_at rings i edges h = by (slice_get rings i) refl (sym (slice_get-map edges_of rings i) ∙ h)
  where
    by : (o : Option (List Pt)) → slice_get rings i ≡ o → option_map edges_of o ≡ Some edges → IsOfRing rings i edges
    by None e f = absurd (none-some edges f)
    by (Some ring) e f = record { ring = ring; ring_is = e; edges_is = some_same f }

-- and back
pub edges_at : (rings : List (List Pt)) (i : ℕ) (ring : List Pt) → IsAtPlace rings i ring → IsAtPlace (map edges_of rings) i (edges_of ring)
edges_at rings i ring h = slice_get-map edges_of rings i ∙ ap (option_map edges_of) h

-- two rings of an area have a common segment exactly where these parts do
rings_as_parts : (area : Area) → PartsShareSegment (map edges_of (rings_of area)) ↔ RingsShareSegment area
rings_as_parts area = (
  λ h.
      let one = ring_at (rings_of area) h.i h.one h.one_is in
      let other = ring_at (rings_of area) h.j h.other h.other_is in
      let Shares : List Seg → List Seg → Type 0 = λ xs ys. EdgesShareSegment xs ys in
      let share = subst₂ Shares (sym one.edges_is) (sym other.edges_is) h.share in
      record { i = _; j = _; earlier = h.earlier; one = _; other = _; one_is = one.ring_is; other_is = other.ring_is; share = share },
  λ h. parts_at h.earlier (edges_at (rings_of area) h.i h.one h.one_is) (edges_at (rings_of area) h.j h.other h.other_is) h.share,
)

-- so two edges of two rings clash exactly where rings of the area have a common segment
pub rings_clash : (area : Area) → SomeClash Sharing (edges_of_parts 0 (map edges_of (rings_of area))) ↔ RingsShareSegment area
rings_clash area =
    let clash = parts_share (map edges_of (rings_of area)) in
    let rings = rings_as_parts area in
    (λ h. rings.0 (clash.0 h), λ h. clash.1 (rings.1 h))

-- ---- one ring
-- two edges of a ring clash so exactly where the ring crosses itself
pub ring_clash : (ring : List Pt) → SomeClash Crossing (of_part 0 (edges_of ring)) ↔ CrossesItself ring
ring_clash ring = (λ h. crosses h, λ h. clashes h)
  where
    segs_same : segs_of (of_part 0 (edges_of ring)) ≡ edges_of ring
    segs_same = segs_of_part 0 (edges_of ring)

    crosses : SomeClash Crossing (of_part 0 (edges_of ring)) → CrossesItself ring
    crosses h =
        let c = h.clash_at in
        let u : HasUnjoinedPoint (edges_of ring) h.i h.j c.e.seg c.f.seg =
        subst (λ (segs : List Seg). HasUnjoinedPoint segs h.i h.j c.e.seg c.f.seg) segs_same c.unjoined in
        record {
          i = h.i;
          j = h.j;
          earlier = c.earlier;
          e = c.e.seg;
          f = c.f.seg;
          e_is = subst (λ (segs : List Seg). IsAtPlace segs h.i c.e.seg) segs_same (seg_at (of_part 0 (edges_of ring)) h.i c.e c.e_is);
          f_is = subst (λ (segs : List Seg). IsAtPlace segs h.j c.f.seg) segs_same (seg_at (of_part 0 (edges_of ring)) h.j c.f c.f_is);
          p = u.p;
          on_e = u.on_e;
          on_f = u.on_f;
          unjoined = u.unjoined;
        }

    edge_at : (i : ℕ) (e : Seg) → IsAtPlace (edges_of ring) i e → IsAtPlace (of_part 0 (edges_of ring)) i (part_edge 0 e)
    edge_at i e is =
        slice_get-map (part_edge 0) (edges_of ring) i
        ∙ ap (option_map (part_edge 0)) is

    clashes : CrossesItself ring → SomeClash Crossing (of_part 0 (edges_of ring))
    clashes h =
        let u : HasUnjoinedPoint (edges_of ring) h.i h.j h.e h.f =
        record { p = h.p; on_e = h.on_e; on_f = h.on_f; unjoined = h.unjoined } in
        record {
          i = h.i;
          j = h.j;
          clash_at = record {
            earlier = h.earlier;
            e = part_edge 0 h.e;
            f = part_edge 0 h.f;
            e_is = edge_at h.i h.e h.e_is;
            f_is = edge_at h.j h.f h.f_is;
            unjoined = subst (λ (segs : List Seg). HasUnjoinedPoint segs h.i h.j h.e h.f) (sym segs_same) u;
          };
        }
