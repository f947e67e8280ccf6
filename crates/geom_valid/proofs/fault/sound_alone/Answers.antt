use Rattle.std.proofs.Common.{refl, sym, ◌∙◌, subst}
use Rattle.point_set.specs.Validity.{disconnected, hole_outside, holes_overlap}
use Rattle.geom_valid.specs.Grounds.{IsSoundArea}
use Rattle.geom_valid.specs.declared.kinds.InvalidKind.TheVariants as kind
use Rattle.geom_valid.proofs.EarlierAreas.{failed, passed, sound_from, was_sound}
use Rattle.geom_valid.proofs.fault.sound_alone.Goals as goal

pub returns-then-branch-2 : goal.returns-then-branch-2
returns-then-branch-2 c =
    let edges = was_sound c.args.area.now 3 c.in-Ok.is c.in_ok-rings.ensures.tested in
    let within = passed hole_outside edges.0 (λ _ _ h. h) c.in_ok-has_hole_outside.ensures.outside c.if-branch.false edges.1 in
    record {
      tested = failed kind.HolesOverlap edges.0 (λ _ _ h. h) c.in_ok-has_holes_that_overlap.ensures.overlap c.if-branch-2.true within;
    }

pub returns-then-branch-3 : goal.returns-then-branch-3
returns-then-branch-3 c =
    let edges = was_sound c.args.area.now 3 c.in-Ok.is c.in_ok-rings.ensures.tested in
    let within = passed hole_outside edges.0 (λ _ _ h. h) c.in_ok-has_hole_outside.ensures.outside c.if-branch.false edges.1 in
    let unlapped = passed holes_overlap edges.0 (λ _ _ h. h) c.in_ok-has_holes_that_overlap.ensures.overlap c.if-branch-2.false within in
    record { tested = failed kind.Disconnected refl (λ _ _ h. h) c.in_ok-has_cycle.ensures.cycle c.if-branch-3.true unlapped }

pub of-requires : goal.of-requires
of-requires c =
    let edges = was_sound c.args.area.now 3 c.in-Ok.is c.in_ok-rings.ensures.tested in
    let within = passed hole_outside edges.0 (λ _ _ h. h) c.in_ok-has_hole_outside.ensures.outside c.if-branch.false edges.1 in
    let unlapped = passed holes_overlap edges.0 (λ _ _ h. h) c.in_ok-has_holes_that_overlap.ensures.overlap c.if-branch-2.false within in
    record {
      sound = subst IsSoundArea (sym edges.0) (sound_from c.args.area.now c.requires.few c.requires.shaped
          (passed disconnected refl (λ _ _ h. h) c.in_ok-has_cycle.ensures.cycle c.if-branch-3.false unlapped));
    }

pub returns : goal.returns
returns c =
    let edges = was_sound c.args.area.now 3 c.in-Ok.is c.in_ok-rings.ensures.tested in
    let within = passed hole_outside edges.0 (λ _ _ h. h) c.in_ok-has_hole_outside.ensures.outside c.if-branch.false edges.1 in
    let unlapped = passed holes_overlap edges.0 (λ _ _ h. h) c.in_ok-has_holes_that_overlap.ensures.overlap c.if-branch-2.false within in
    let joined = passed disconnected refl (λ _ _ h. h) c.in_ok-has_cycle.ensures.cycle c.if-branch-3.false unlapped in
    record { tested = (c.in_ok-of.ensures.area ∙ edges.0, joined) }
