use Rattle.std.proofs.Common.{List, length, refl, sym, subst, arith}
use Rattle.std.specs.List.{Contains}
use Rattle.std.proofs.lemmas.Option.{slice_get_read}
use Rattle.ring_faults.specs.declared.link.Link.{Link}
use Rattle.ring_faults.specs.declared.part.PartEdge.{PartEdge}
use Rattle.ring_faults.specs.Touches.{AreLinksOfParts}
use Rattle.ring_faults.proofs.NearPlaces.{near_within}
use Rattle.ring_faults.proofs.Touches.{IsBeforePlace, links_of_none, links_more, links_all}
use Rattle.ring_faults.proofs.touch.links_of.Goals as goal

pub add_touches-requires-clause-places : goal.add_touches-requires-clause-places
add_touches-requires-clause-places c =
    near_within c.at-e.result.now.seg c.in_ok-near.near.edges c.places_near.new.out c.in_ok-places_near.ensures.near

pub loop-i-init : goal.loop-i-init
loop-i-init c =
    let edges = c.in_ok-near.near.edges in
    subst (λ (links : List Link). AreLinksOfParts edges (IsBeforePlace edges 0) links) (sym c.new-links.ensures.items) (links_of_none edges)

pub loop-i-preserved : goal.loop-i-preserved
loop-i-preserved c =
    let edges = c.in_ok-near.near.edges in
    let i = c.loop-i.i in
    let e_is = slice_get_read edges (length edges) i c.at-e.result.now refl (omega arith) c.at-e.ensures.item in
    links_more edges i c.at-e.result.now c.places_near.new.out c.loop-i.links.items c.add_touches.new.links.items e_is
    c.in_ok-places_near.ensures.near c.loop-i.invariant c.in_ok-add_touches.ensures.adds

pub returns : goal.returns
returns c =
    record {
      links = subst (λ (edges : List PartEdge). AreLinksOfParts edges (λ e. Contains edges e) c.loop-i.links.items)
          c.in_ok-near.ensures.edges
          (links_all c.in_ok-near.near.edges c.loop-i.i c.loop-i.links.items (omega arith) c.loop-i.invariant);
    }
