use Rattle.valid_laws.proofs.Clauses.Laws.{elements_overlap}
use Rattle.geom_valid.proofs.ByEntering.{areas_swapped, by_first, by_second}
use Rattle.geom_valid.proofs.sound_area.SoundArea.overlaps.Goals as goal

pub enters-requires-else-branch : goal.enters-requires-else-branch
enters-requires-else-branch c = record { unshared = areas_swapped c.args.self.now c.args.other.now c.requires.unshared }

pub returns-then-branch : goal.returns-then-branch
returns-then-branch c =
    let clean = c.enters.ensures.clean in
    record {
      overlaps = by_first c.in_ok-enters.field-0 c.if-branch.true c.in_ok-enters.ensures.enters
          (elements_overlap c.args.self.now c.args.other.now clean.0 clean.1 c.requires.unshared);
    }

pub returns-in_ok-enters-2 : goal.returns-in_ok-enters-2
returns-in_ok-enters-2 c =
    let clean = c.enters.ensures.clean in
    record {
      overlaps = by_second c.in_ok-enters.field-0 c.in_ok-enters-2.field-0 c.if-branch.false c.in_ok-enters.ensures.enters
          c.in_ok-enters-2.ensures.enters (elements_overlap c.args.self.now c.args.other.now clean.0 clean.1 c.requires.unshared);
    }
