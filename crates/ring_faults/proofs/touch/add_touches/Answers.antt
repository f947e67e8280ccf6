use Rattle.std.proofs.Common.{◌+◌, ◌<◌, ℕ, List, length, take, sym, ap, subst}
use Rattle.ring_faults.specs.declared.link.Link.{Link}
use Rattle.ring_faults.specs.Touches.{AddsTouches, IsAmong}
use Rattle.ring_faults.proofs.PartEdges.{contains_at, read_edge}
use Rattle.ring_faults.proofs.Touches.{adds_more, adds_same, unshared_parts}
use Rattle.ring_faults.proofs.touch.add_touches.Goals.{then-f-e+in_ok-add_touch, else-f-e}
use Rattle.ring_faults.proofs.touch.add_touches.Goals as goal

pub add_touch-requires-clause-unshared : goal.add_touch-requires-clause-unshared
add_touch-requires-clause-unshared c =
    let edges = c.args.edges.now in
    let f_is =
    read_edge edges c.as_slice-place-items.result.now c.args.places.now c.loop-place.place-index c.at-f.result.now
    c.as_slice-place-items.ensures.items c.loop-place-test.true c.requires.places c.at-f.ensures.item in
    unshared_parts edges c.requires.unshared c.args.e c.at-f.result.now c.requires.there _ f_is c.if-f-e.true

pub loop-place-preserved : goal.loop-place-preserved
loop-place-preserved c =
    let edges = c.args.edges.now in
    let e = c.args.e in
    let f = c.at-f.result.now in
    let places = c.args.places.now in
    let k = c.loop-place.place-index in
    let old = c.args.links.now.items in
    let same = c.as_slice-place-items.ensures.items in
    let below : k < length places = subst (λ (ps : List ℕ). k < length ps) same c.loop-place-test.true in
    let f_is = read_edge edges c.as_slice-place-items.result.now places k f same c.loop-place-test.true c.requires.places
    c.at-f.ensures.item in
    elim c.if-f-e.branch [
      | then-f-e+in_ok-add_touch w ↦
          subst (λ (new : List Link). AddsTouches edges e (IsAmong edges (take (k + 1) places)) old new)
          (sym (ap (λ v. v.items) w.links-is))
          (adds_more edges e places k f old c.loop-place.links.items w.add_touch.new.links.items below f_is c.loop-place.invariant
          (w.in_ok-add_touch.ensures.adds edges c.requires.there (contains_at edges _ f f_is)))
      | else-f-e w ↦
          subst (λ (new : List Link). AddsTouches edges e (IsAmong edges (take (k + 1) places)) old new)
          (sym (ap (λ v. v.items) w.links-is))
          (adds_same edges e places k f old c.loop-place.links.items below f_is c.loop-place.invariant w.if-f-e.false)
    ]
