use Rattle.std.proofs.Common.{◌↔◌, IsTrue, sym, subst}
use Rattle.std.proofs.lemmas.Result.{IfOk-weaker}
use Rattle.point_set.specs.Validity.{RingsShareSegment}
use Rattle.ring_faults.specs.declared.clash.Clash.TheVariants.{Sharing}
use Rattle.ring_faults.specs.Clashes.{SomeClash}
use Rattle.ring_faults.proofs.PartEdges.{few_by_ring, sound_by_ring}
use Rattle.ring_faults.proofs.PartsShare.{rings_clash}
use Rattle.ring_faults.proofs.rings.rings_share.Goals as goal

pub some_clash-requires-clause-few : goal.some_clash-requires-clause-few
some_clash-requires-clause-few c =
    few_by_ring c.args.area.now _ c.in_ok-edges_by_ring.ensures.edges c.requires.shaped c.requires.few

pub some_clash-requires-clause-sound : goal.some_clash-requires-clause-sound
some_clash-requires-clause-sound c = sound_by_ring c.args.area.now _ c.in_ok-edges_by_ring.ensures.edges c.requires.shaped

pub returns : goal.returns
returns c =
    let area = c.args.area.now in
    let is = c.in_ok-edges_by_ring.ensures.edges in
    let both = rings_clash area in
    record {
      share = IfOk-weaker c.some_clash.result _ (λ b. IsTrue b ↔ RingsShareSegment area)
          (λ b h. (λ t. both.0 (subst (SomeClash Sharing) is (h.0 t)), λ k. h.1 (subst (SomeClash Sharing) (sym is) (both.1 k))))
          c.some_clash.ensures.clash;
    }
