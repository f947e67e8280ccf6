use Rattle.topo_pred.proofs.NamesKnown.{intersects-known, disjoint-known, covers-known, covered_by-known, contains-known, within-known}
use Rattle.topo_pred.proofs.NamesKnown.{equals-known, contains_properly-known}
use Rattle.topo_pred.proofs.outlook.name_known.Goals as goal

pub returns-in-Intersects : goal.returns-in-Intersects
returns-in-Intersects c =
    record {
      known = rw (c.then_some.ensures, c.figures_meet.ensures.meets, c.in-Intersects.is)
          (intersects-known c.args.dim_a c.args.dim_b c.args.m.now);
    }

pub returns-in-Disjoint : goal.returns-in-Disjoint
returns-in-Disjoint c =
    record {
      known = rw (c.then_some-in-Disjoint.ensures, c.figures_meet-in-Disjoint.ensures.meets, c.in-Disjoint.is)
          (disjoint-known c.args.dim_a c.args.dim_b c.args.m.now);
    }

pub returns-in-Contains : goal.returns-in-Contains
returns-in-Contains c =
    record {
      known = rw (c.then_some-in-Contains.ensures, c.b_leaves_a.ensures.leaves, c.in-Contains.is)
          (contains-known c.args.dim_a c.args.dim_b c.args.m.now);
    }

pub returns-in-Within : goal.returns-in-Within
returns-in-Within c =
    record {
      known = rw (c.then_some-in-Within.ensures, c.a_leaves_b.ensures.leaves, c.in-Within.is)
          (within-known c.args.dim_a c.args.dim_b c.args.m.now);
    }

pub returns-in-Covers : goal.returns-in-Covers
returns-in-Covers c =
    record {
      known = rw (c.then_some-in-Covers.ensures, c.b_leaves_a-in-Covers.ensures.leaves, c.in-Covers.is)
          (covers-known c.args.dim_a c.args.dim_b c.args.m.now);
    }

pub returns-in-CoveredBy : goal.returns-in-CoveredBy
returns-in-CoveredBy c =
    record {
      known = rw (c.then_some-in-CoveredBy.ensures, c.a_leaves_b-in-CoveredBy.ensures.leaves, c.in-CoveredBy.is)
          (covered_by-known c.args.dim_a c.args.dim_b c.args.m.now);
    }

pub returns-in-Equals : goal.returns-in-Equals
returns-in-Equals c =
    record {
      known = rw (c.then_some-in-Equals.ensures, c.differ.ensures.differs, c.in-Equals.is)
          (equals-known c.args.dim_a c.args.dim_b c.args.m.now);
    }

pub returns-in-ContainsProperly : goal.returns-in-ContainsProperly
returns-in-ContainsProperly c =
    record {
      known = rw (c.then_some-in-ContainsProperly.ensures, c.b_leaves_interior.ensures.leaves, c.in-ContainsProperly.is)
          (contains_properly-known c.args.dim_a c.args.dim_b c.args.m.now);
    }

pub returns-in-Touches : goal.returns-in-Touches
returns-in-Touches c = record { known = rw c.in-Touches.is c.touches_known.ensures.known }

pub returns-in-Crosses : goal.returns-in-Crosses
returns-in-Crosses c = record { known = rw c.in-Crosses.is c.crosses_known.ensures.known }

pub returns-in-Overlaps : goal.returns-in-Overlaps
returns-in-Overlaps c = record { known = rw c.in-Overlaps.is c.overlaps_known.ensures.known }
