use Rattle.std.proofs.Common.{◌↔◌, ◌+◌, IsTrue, List, length, add-one, ap, sym, ◌∙◌, subst}
use Rattle.std.proofs.lemmas.Bool.{false≢true}
use Rattle.std.proofs.lemmas.Result.{IfOk-weaker}
use Rattle.std.specs.List.{Contains}
use Rattle.point_set.specs.Validity.{HasTouchCycle}
use Rattle.ring_faults.specs.declared.clash.Clash.TheVariants.{Sharing}
use Rattle.ring_faults.specs.declared.link.Link.{Link}
use Rattle.ring_faults.specs.declared.part.PartEdge.{PartEdge}
use Rattle.ring_faults.specs.Clashes.{SomeClash}
use Rattle.ring_faults.specs.Links.{HasCycle}
use Rattle.ring_faults.specs.Touches.{AreLinksOfParts}
use Rattle.ring_faults.proofs.AreaLinks.{area_links, links_same, rings_below}
use Rattle.ring_faults.proofs.Cycles.{cycle}
use Rattle.ring_faults.proofs.LoneShells.{no_cycle}
use Rattle.ring_faults.proofs.PartEdges.{few_by_ring, sound_by_ring}
use Rattle.ring_faults.proofs.PartsShare.{rings_clash}
use Rattle.ring_faults.proofs.cycle.has_cycle.Goals as goal
use Rattle.ring_faults.proofs.cycle.has_cycle.Goals.{After-as_slice}
use Rattle.ring_faults.proofs.Forests.{AreLinksOf}

-- the links in their order are those of the area
links_sorted : (c : After-as_slice) → AreLinksOf c.args.area.now c.as_slice.result.now
links_sorted c =
    let area = c.args.area.now in
    let links = c.in_ok-links.links.items in
    let of =
    area_links area links
    (subst (λ (edges : List PartEdge). AreLinksOfParts edges (λ e. Contains edges e) links) c.in_ok-edges.ensures.edges
    c.in_ok-links.ensures.links) in
    subst (λ (ls : List Link). AreLinksOf area ls) (sym c.as_slice.ensures.value)
    (links_same area links c.sort_links.new.links.items of c.sort_links.ensures.same)

pub links_of-requires-clause-few : goal.links_of-requires-clause-few
links_of-requires-clause-few c = few_by_ring c.args.area.now _ c.in_ok-edges.ensures.edges c.requires.shaped c.requires.few

pub links_of-requires-clause-sound : goal.links_of-requires-clause-sound
links_of-requires-clause-sound c = sound_by_ring c.args.area.now _ c.in_ok-edges.ensures.edges c.requires.shaped

pub links_of-requires-clause-unshared : goal.links_of-requires-clause-unshared
links_of-requires-clause-unshared c = λ h.
    c.requires.unshared ((rings_clash c.args.area.now).0 (subst (SomeClash Sharing) c.in_ok-edges.ensures.edges h))

pub have_cycle-requires-clause-rings : goal.have_cycle-requires-clause-rings
have_cycle-requires-clause-rings c =
    let area = c.args.area.now in
    rings_below area c.as_slice.result.now (c.len-2.result + 1) (ap (λ n. n + 1) c.len-2.ensures.length ∙ add-one (length area.holes))
    (links_sorted (goal.at.have_cycle-requires-clause-rings c).After-as_slice)

pub returns-then-len-eq0 : goal.returns-then-len-eq0
returns-then-len-eq0 c = record {
  cycle = (λ t. absurd (false≢true t), λ cycle. absurd (no_cycle c.args.area.now (sym c.len.ensures.length ∙ c.if-len-eq0.true) cycle));
}

pub returns : goal.returns
returns c =
    let area = c.args.area.now in
    let all = c.as_slice.result.now in
    let both : HasTouchCycle area ↔ HasCycle all = cycle area all (links_sorted (goal.at.returns c).After-as_slice) in
    record {
      cycle = IfOk-weaker c.have_cycle.result (λ b. IsTrue b ↔ HasCycle all) (λ b. IsTrue b ↔ HasTouchCycle area)
          (λ b h. (λ t. both.1 (h.0 t), λ k. h.1 (both.0 k))) c.have_cycle.ensures.cycle;
    }
