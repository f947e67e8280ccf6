use Rattle.std.proofs.Common.{◌≡◌, ◌∙◌, ◌∷◌, ◌&&◌, List, false, sym, subst}
use Rattle.plane_laws.specs.Plane.{Point}
use Rattle.plane_exact.specs.declared.point.Pt.{Pt}
use Rattle.point_set.specs.Lines.{is_at, is_at_some, is_still}
use Rattle.bound_rule.proofs.AtSpots.{still_line, moving_line}
use Rattle.bound_rule.proofs.spots.still_position.Goals as goal
use Rattle.bound_rule.proofs.spots.still_position.Goals.{After-are_all_at}

-- the line is its first position and the others
line_read : (c : After-are_all_at) → c.in_ok-first.first.now ∷ c.in_ok-first.others.now ≡ c.args.line.now
line_read c = sym (sym c.as_slice.ensures.items ∙ c.in_ok-first.ensures.cases.0)

pub returns-then-are_all_at : goal.returns-then-are_all_at
returns-then-are_all_at c =
    let line = line_read (goal.at.returns-then-are_all_at c).After-are_all_at in
    let still = still_line c.in_ok-first.first.now c.in_ok-first.others.now (sym c.are_all_at.ensures.still ∙ c.if-are_all_at.true) in
    record {
      position = subst (λ (l : List Pt). (p : Point) → (is_still l && is_at_some p l) ≡ is_at p c.in_ok-first.first.now) line still;
    }

pub returns-else-are_all_at : goal.returns-else-are_all_at
returns-else-are_all_at c =
    let line = line_read (goal.at.returns-else-are_all_at c).After-are_all_at in
    let moves = moving_line c.in_ok-first.first.now c.in_ok-first.others.now (sym c.are_all_at.ensures.still ∙ c.if-are_all_at.false) in
    record { position = subst (λ (l : List Pt). (p : Point) → (is_still l && is_at_some p l) ≡ false) line moves }
