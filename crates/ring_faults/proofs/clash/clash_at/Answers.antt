use Rattle.std.proofs.Common.{length, refl, sym, ◌∙◌}
use Rattle.std.proofs.lemmas.List.{length-map}
use Rattle.std.proofs.lemmas.Option.{slice_get_read}
use Rattle.ring_faults.specs.declared.part.PartEdge.{PartEdge}
use Rattle.ring_faults.specs.Parts.{segs_of}
use Rattle.ring_faults.proofs.ClashTests.{AreAtPlaces, crossing_at, sharing_at, sharing_late}
use Rattle.ring_faults.proofs.clash.clash_at.Goals as goal
use Rattle.ring_faults.proofs.clash.clash_at.Goals.{After-at-f}

-- the two edges stand at their places
both_there : (c : After-at-f) → AreAtPlaces c.args.edges.now c.args.i c.args.j c.at-e.result.now c.at-f.result.now
both_there c =
    let edges = c.args.edges.now in
    record {
      first = slice_get_read edges (length edges) c.args.i c.at-e.result.now refl c.requires.i c.at-e.ensures.item;
      second = slice_get_read edges (length edges) c.args.j c.at-f.result.now refl c.requires.j c.at-f.ensures.item;
    }

pub returns-then-i-j : goal.returns-then-i-j
returns-then-i-j c = record {
  clash =
      crossing_at c.args.edges.now c.args.i c.args.j _ _ (both_there (goal.at.returns-then-i-j c).After-at-f) c.args.clash c.in-Crossing.is
      c.if-i-j.true c.are_unjoined.result
      (c.are_unjoined.ensures.unjoined (segs_of c.args.edges.now)
      (length-map c.args.edges.now (λ (x : PartEdge). x.seg) ∙ sym c.len.ensures.length));
}

pub returns-then-e-f : goal.returns-then-e-f
returns-then-e-f c = record {
  clash =
      sharing_at c.args.edges.now c.args.i c.args.j _ _ (both_there (goal.at.returns-then-e-f c).After-at-f) c.args.clash c.in-Sharing.is
      c.if-e-f.true c.share_segment.result c.share_segment.ensures.share;
}

pub returns-else-e-f : goal.returns-else-e-f
returns-else-e-f c = record {
  clash =
      sharing_late c.args.edges.now c.args.i c.args.j _ _ (both_there (goal.at.returns-else-e-f c).After-at-f) c.args.clash c.in-Sharing.is
      c.if-e-f.false;
}
