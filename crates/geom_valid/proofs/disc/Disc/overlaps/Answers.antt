use Rattle.valid_laws.proofs.Clauses.Laws.{holes_overlap}
use Rattle.geom_valid.proofs.ByEntering.{by_first, by_second}
use Rattle.geom_valid.proofs.disc.Disc.overlaps.Goals as goal

pub returns-then-branch : goal.returns-then-branch
returns-then-branch c =
    let simple = c.enters.ensures.simple in
    record {
      overlaps = by_first c.in_ok-enters.field-0 c.if-branch.true c.in_ok-enters.ensures.enters
          (holes_overlap c.args.self.now c.args.other.now simple.0 simple.1 c.requires.unshared);
    }

pub returns-in_ok-enters-2 : goal.returns-in_ok-enters-2
returns-in_ok-enters-2 c =
    let simple = c.enters.ensures.simple in
    record {
      overlaps = by_second c.in_ok-enters.field-0 c.in_ok-enters-2.field-0 c.if-branch.false c.in_ok-enters.ensures.enters
          c.in_ok-enters-2.ensures.enters (holes_overlap c.args.self.now c.args.other.now simple.0 simple.1 c.requires.unshared);
    }
