use Rattle.std.proofs.Common.{◌≤◌, length, arith}
use Rattle.im_matrix.specs.Patterns.{pattern_text}
use Rattle.im_matrix.proofs.PatternTexts.{rest_is}
use Rattle.im_matrix.proofs.patterns.Pattern.of.Goals as goal

pub returns-clause-ok : goal.returns-clause-ok
returns-clause-ok c =
    let i = c.in_ok-interior.ensures.ok in
    let b = c.in_ok-boundary.ensures.ok in
    let e = c.in_ok-exterior.ensures.ok in
    let end : length c.args.text.now ≤ 9 = omega arith in
    rest_is c.args.text.now 0 _
    (i.interior, (i.boundary, (i.exterior, (b.interior, (b.boundary, (b.exterior, (e.interior, (e.boundary, (e.exterior, end)))))))))
