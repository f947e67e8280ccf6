use Rattle.std.proofs.Common.{◌≡◌, ◌↔◌, ◌≤◌, IsTrue, List, length, sym, subst, rules}
use Rattle.std.proofs.lemmas.Result.{IfOk-weaker}
use Rattle.point_set.specs.Rings.{edges_of}
use Rattle.point_set.specs.Validity.{CrossesItself}
use Rattle.ring_faults.specs.declared.clash.Clash.TheVariants.{Crossing}
use Rattle.ring_faults.specs.declared.part.PartEdge.{PartEdge}
use Rattle.ring_faults.specs.Clashes.{SomeClash}
use Rattle.ring_faults.specs.Parts.{AreEdgesSound, of_part}
use Rattle.ring_faults.proofs.PartEdges.{few_of_ring, sound_ring, sound_part}
use Rattle.ring_faults.proofs.PartsShare.{ring_clash}
use Rattle.ring_faults.proofs.rings.crosses_itself.Goals as goal

pub some_clash-requires-clause-few : goal.some_clash-requires-clause-few
some_clash-requires-clause-few c =
    let ring = c.args.ring.now in
    let is : c.add_ring.new.edges ≡ of_part 0 (edges_of ring) = search rules in
    subst (λ (edges : List PartEdge). length edges ≤ 1048576) (sym is) (few_of_ring ring c.requires.shaped c.requires.few)

pub some_clash-requires-clause-sound : goal.some_clash-requires-clause-sound
some_clash-requires-clause-sound c =
    let ring = c.args.ring.now in
    let is : c.add_ring.new.edges ≡ of_part 0 (edges_of ring) = search rules in
    subst AreEdgesSound (sym is) (sound_part 0 (edges_of ring) (sound_ring ring c.requires.shaped))

pub returns : goal.returns
returns c =
    let ring = c.args.ring.now in
    let edges = c.add_ring.new.edges in
    let is : edges ≡ of_part 0 (edges_of ring) = search rules in
    let both = ring_clash ring in
    record {
      crosses = IfOk-weaker c.some_clash.result (λ b. IsTrue b ↔ SomeClash Crossing edges) (λ b. IsTrue b ↔ CrossesItself ring)
          (λ b h. (λ t. both.0 (subst (SomeClash Crossing) is (h.0 t)), λ k. h.1 (subst (SomeClash Crossing) (sym is) (both.1 k))))
          c.some_clash.ensures.clash;
    }
