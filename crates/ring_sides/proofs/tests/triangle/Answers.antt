use Rattle.std.proofs.Common.{rules, ◌≡◌, List, sym, subst}
use Rattle.plane_exact.specs.declared.point.Pt.{Pt}
use Rattle.point_set.specs.Validity.{HasTooFewPoints, CrossesItself}
use Rattle.ring_sides.proofs.Triangle.{ring_of, corners_from, triangle_enough, triangle_simple}
use Rattle.ring_sides.proofs.tests.triangle.Goals as goal

pub returns-clause-enough : goal.returns-clause-enough
returns-clause-enough c =
    let positions : c.push-4.new.self ≡ ring_of c.args.a c.args.b c.args.c = search rules in
    subst (λ (ring : List Pt). ¬ HasTooFewPoints ring) (sym positions)
    (triangle_enough (corners_from c.args.a c.args.b c.args.c c.requires.broad))

pub returns-clause-simple : goal.returns-clause-simple
returns-clause-simple c =
    let positions : c.push-4.new.self ≡ ring_of c.args.a c.args.b c.args.c = search rules in
    subst (λ (ring : List Pt). ¬ CrossesItself ring) (sym positions)
    (triangle_simple (corners_from c.args.a c.args.b c.args.c c.requires.broad))
