use Rattle.figure_laws.proofs.Valid.Pairs.{are_valid}
use Rattle.near_laws.proofs.laws.law_near.Goals as goal
use Rattle.near_laws.proofs.Beyond.Shown.{beyond_is_there}
use Rattle.box_laws.proofs.Boxes.Edges.{near_edges_meet}
use Rattle.near_laws.proofs.Decide.Near.{near_decide}
use Rattle.box_laws.proofs.Envelopes.Frames.{frame_holds}
use Rattle.near_laws.proofs.Far.Shows.{far_shows_no_more}

pub returns : goal.returns
returns c =
    let valid = are_valid c.figure.ensures.shaped c.figure.ensures.valid c.figure-2.ensures.shaped c.figure-2.ensures.valid in
    record {
      frame = frame_holds c.args.a.now valid.a_shaped c.args.rule;
      beyond = beyond_is_there c.args.a.now c.args.b.now valid c.args.rule;
      far = far_shows_no_more c.args.a.now c.args.b.now valid c.args.rule;
      decide = near_decide c.args.a.now c.args.b.now valid c.args.rule;
      edges = near_edges_meet c.args.a.now;
    }
