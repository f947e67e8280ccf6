use Rattle.std.proofs.Common.{◌≡◌, ℕ, suc, ◌+◌, ◌∷◌, [], ◌++◌, take, length, List, ap, sym, ◌∙◌, subst, arith}
use Rattle.std.proofs.lemmas.List.{length-take-le, take_more}
use Rattle.plane_exact.specs.declared.point.Pt.{Pt}
use Rattle.plane_exact.specs.declared.point.Seg.{Seg}
use Rattle.point_set.specs.declared.edge.Hand.{Hand}
use Rattle.point_set.specs.Edges.{IsAreaHand}
use Rattle.point_set.specs.Location.{rings_of}
use Rattle.point_set.specs.Rings.{edges_of}
use Rattle.point_set.specs.Validity.{CrossesItself, HasTooFewPoints, IsAtPlace}
use Rattle.figure_laws.proofs.Lists.Places.{all_at, read_at}
use Rattle.side_laws.proofs.Areas.Hands.{AreRingsClean, hole_hand}
use Rattle.ring_sides.specs.Rows.{AddsRings}
use Rattle.ring_sides.proofs.Rows.{ring_added}
use Rattle.ring_sides.proofs.edges.add_holes.Goals as goal

pub interior_side-requires-clause-enough : goal.interior_side-requires-clause-enough
interior_side-requires-clause-enough c =
    let at = read_at c.as_slice-hole-items.result.now c.args.area.now.holes c.loop-i.i c.hole-item.result
    c.as_slice-hole-items.ensures.items
    c.loop-i-test.true c.hole-item.is in
    all_at (λ (ring : List Pt). ¬ HasTooFewPoints ring) (rings_of c.args.area.now) (suc c.loop-i.i) c.hole-item.result c.requires.enough at

pub interior_side-requires-clause-simple : goal.interior_side-requires-clause-simple
interior_side-requires-clause-simple c =
    let at = read_at c.as_slice-hole-items.result.now c.args.area.now.holes c.loop-i.i c.hole-item.result
    c.as_slice-hole-items.ensures.items
    c.loop-i-test.true c.hole-item.is in
    all_at (λ (ring : List Pt). ¬ CrossesItself ring) (rings_of c.args.area.now) (suc c.loop-i.i) c.hole-item.result c.requires.simple at

pub loop-i-preserved : goal.loop-i-preserved
loop-i-preserved c =
    let area = c.args.area.now in
    let items = c.as_slice-hole-items.result.now in
    let hole = c.hole-item.result in
    let i = c.loop-i.i in
    let side = c.opposite-side.result in
    let at = read_at items area.holes i hole c.as_slice-hole-items.ensures.items c.loop-i-test.true c.hole-item.is in
    let clean : AreRingsClean area
    = record { shaped = c.requires.shaped; unshared = c.requires.unshared; within = c.requires.within; unlapped = c.requires.unlapped } in
    let hands : (k : ℕ) (e : Seg) → IsAtPlace (edges_of hole) k e → IsAreaHand area e side
    = λ k e is. subst (λ (h : Hand). IsAreaHand area e h) (sym c.opposite-side.ensures.other)
    (hole_hand area clean i hole at c.interior_side.result c.interior_side.ensures.side k e is) in
    let count : length (take i items) ≡ i = length-take-le i items (omega (arith, c.loop-i-test.true)) in
    let next = take_more items i hole c.loop-i-test.true ∙ ap (λ (h : List Pt). take i items ++ h ∷ []) (sym c.hole-item.is) in
    subst (λ (rings : List (List Pt)). AddsRings area c.args.place 1 rings c.args.rows.now c.add_edges.new.rows) (sym next)
    (ring_added area c.args.place 1 (take i items) hole (i + 1)
    (omega (arith, count)) side hands c.args.rows.now c.loop-i.rows c.add_edges.new.rows
    c.loop-i.invariant c.in_ok-add_edges.ensures.rows)
