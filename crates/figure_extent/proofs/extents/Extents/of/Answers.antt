use Rattle.std.proofs.Common.{subst}
use Rattle.point_set.specs.Extents.{IsExtent, still_positions}
use Rattle.point_set.specs.declared.figure.Figure.{Figure}
use Rattle.figure_extent.specs.Kept.{SeenExtents, extent_under}
use Rattle.figure_extent.proofs.extents.Extents.of.Goals as goal

pub returns : goal.returns
returns c =
    let f = c.figure-figure.result.now in
    let kept : SeenExtents =
    record { areas = c.of_areas.result; lines = c.of_moving.result; points = c.joined.result; ends = c.of.result } in
    record {
      extents = λ rule.
          subst (λ (g : Figure). IsExtent g rule (extent_under rule kept)) c.figure-figure.ensures.same (record {
            areas = c.of_areas.ensures.envelope;
            lines = c.of_moving.ensures.envelope;
            points = c.joined.ensures.envelope f.points (still_positions f.lines) c.of_way.ensures.envelope c.of_still.ensures.envelope;
            ends = c.of.ensures.envelopes rule;
          });
    }
