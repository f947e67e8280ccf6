use Rattle.valid_laws.proofs.Clauses.Laws.{hole_outside}
use Rattle.geom_valid.proofs.ByEntering.{by_first, by_second}
use Rattle.geom_valid.proofs.disc.Disc.leaves.Goals as goal

pub returns-then-branch : goal.returns-then-branch
returns-then-branch c =
    let simple = c.enters.ensures.simple in
    record {
      leaves = by_first c.in_ok-enters.field-0 c.if-branch.true c.in_ok-enters.ensures.enters
          (hole_outside c.args.shell.now c.args.self.now simple.1 simple.0 c.requires.unshared);
    }

pub returns-in_ok-enters-2 : goal.returns-in_ok-enters-2
returns-in_ok-enters-2 c =
    let simple = c.enters.ensures.simple in
    record {
      leaves = by_second c.in_ok-enters.field-0 c.in_ok-enters-2.field-0 c.if-branch.false c.in_ok-enters.ensures.enters
          c.in_ok-enters-2.ensures.enters (hole_outside c.args.shell.now c.args.self.now simple.1 simple.0 c.requires.unshared);
    }
