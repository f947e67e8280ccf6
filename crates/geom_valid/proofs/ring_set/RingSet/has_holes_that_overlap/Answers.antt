use Rattle.std.proofs.Common.{◌≡◌, length, List, refl, sym, ◌∙◌, ap, subst₂, arith}
use Rattle.std.proofs.lemmas.Bool.{false≢true}
use Rattle.plane_exact.specs.declared.point.Pt.{Pt}
use Rattle.plane_exact.specs.declared.window.Window.{Window}
use Rattle.point_set.specs.declared.figure.Area.{Area}
use Rattle.geom_valid.specs.Boxes.{AreRound, IsRoundRing}
use Rattle.geom_valid.proofs.FewPositions.{few_holes}
use Rattle.geom_valid.proofs.ByEntering.{holes_overlap_at, no_holes_overlap, hole_within}
use Rattle.geom_valid.proofs.ring_set.RingSet.has_holes_that_overlap.Goals as goal

pub of-requires : goal.of-requires
of-requires c =
    let few = few_holes c.self.inside.area.now c.self.invariant.shaped c.self.invariant.few in
    let count = c.in_ok-ring_boxes.ensures.round.count in
    record { few = omega (arith, few, count, ap length c.as_slice.ensures.items) }

pub overlaps_earlier-requires-clause-boxes : goal.overlaps_earlier-requires-clause-boxes
overlaps_earlier-requires-clause-boxes c =
    let holes : c.as_slice.result.now ≡ c.args.self.now.holes = c.as_slice.ensures.items ∙ ap (λ (a : Area). a.holes) c.self.view_is in
    subst₂ (λ (hs : List (List Pt)) (bs : List Window). AreRound IsRoundRing hs bs) holes
    (sym c.in_ok-boxes.ensures.boxes) c.in_ok-ring_boxes.ensures.round

pub returns-then-branch : goal.returns-then-branch
returns-then-branch c =
    record {
      overlap = (
        λ _. holes_overlap_at c.args.self.now c.loop-place.place
            (c.in_ok-overlaps_earlier.ensures.overlap.0 c.if-branch.true),
        λ _. refl,
      );
    }

pub returns : goal.returns
returns c =
    let area = c.args.self.now in
    let own : c.self.inside.holes ≡ area.holes = c.self.invariant.holes_are ∙ ap (λ (a : Area). a.holes) c.self.view_is in
    let count = c.len-place-end.ensures.length ∙ ap (λ (xs : List (List Pt)). length xs) own in
    record {
      overlap = (
        λ e. absurd (false≢true e),
        λ h. absurd
            (no_holes_overlap area
            (λ place some. c.loop-place.invariant place
            (omega (arith, hole_within area.holes place some, count, c.loop-place-test.false)) some) h),
      );
    }
