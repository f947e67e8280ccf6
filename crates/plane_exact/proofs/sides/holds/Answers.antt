use Rattle.std.proofs.Common.{ℤ, ◌*ℤ◌, ◌≤◌, ◌≤ℤ◌, unsigned_abs, sym, ◌∙◌, subst₂}
use Rattle.std.proofs.lemmas.Bool.{false≢true}
use Rattle.plane_exact.specs.Limits.{limit}
use Rattle.plane_exact.specs.Nodes.{IsFraction}
use Rattle.whole_algebra.proofs.Computed.{narrow, wide}
use Rattle.plane_exact.proofs.Sizes.{plain_numerator, plain_product, abscissa_size, height_size}
use Rattle.plane_exact.proofs.sides.holds.Goals as goal

-- what is said of the numbers as they are read holds of the numbers, and the other way round
module _ (x w low high : ℤ) (f : IsFraction x w) (h : unsigned_abs low ≤ limit) (k : unsigned_abs high ≤ limit) where
  plain : ((narrow low *ℤ wide w) ≤ℤ wide x) × (wide x ≤ℤ (narrow high *ℤ wide w)) → ((low *ℤ w) ≤ℤ x) × (x ≤ℤ (high *ℤ w))
  plain both = (
    subst₂ ◌≤ℤ◌ (plain_product low x w h f) (plain_numerator x w f) both.0,
    subst₂ ◌≤ℤ◌ (plain_numerator x w f)
        (plain_product high x w k f) both.1,
  )

  as_read : (low *ℤ w) ≤ℤ x → x ≤ℤ (high *ℤ w) → ((narrow low *ℤ wide w) ≤ℤ wide x) × (wide x ≤ℤ (narrow high *ℤ wide w))
  as_read below above = (
    subst₂ ◌≤ℤ◌ (sym (plain_product low x w h f)) (sym (plain_numerator x w f)) below,
    subst₂ ◌≤ℤ◌ (sym (plain_numerator x w f))
        (sym (plain_product high x w k f)) above,
  )

pub returns-then-is_between : goal.returns-then-is_between
returns-then-is_between c =
    let n = c.args.n.now in
    let box = c.args.window.now in
    let across = plain n.x n.w box.low_x box.high_x n.across (abscissa_size _ c.requires.low) (abscissa_size _ c.requires.high)
    (c.is_between.ensures.between.0 c.if-is_between.true) in
    record {
      within = (
        λ t. let above = plain n.y n.w box.low_y box.high_y n.above (height_size _ c.requires.low) (height_size _ c.requires.high)
            (c.is_between-then-is_between.ensures.between.0 t) in
            record { left = across.0; right = across.1; bottom = above.0; top = above.1 },
        λ h. c.is_between-then-is_between.ensures.between.1
            (as_read n.y n.w box.low_y box.high_y n.above (height_size _ c.requires.low) (height_size _ c.requires.high) h.bottom h.top),
      );
    }

pub returns-else-is_between : goal.returns-else-is_between
returns-else-is_between c = record {
  within = (
    λ t. absurd (false≢true (sym c.if-is_between.false ∙ t)),
    λ h. c.is_between.ensures.between.1
        (as_read _ _ _ _ c.args.n.now.across (abscissa_size _ c.requires.low) (abscissa_size _ c.requires.high) h.left h.right),
  );
}
