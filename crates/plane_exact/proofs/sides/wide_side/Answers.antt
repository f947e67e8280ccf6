use Rattle.std.proofs.Common.{◌≡◌, ◌+◌, ◌*◌, ℤ, ◌-ℤ◌, ◌*ℤ◌, refl, ◌∙◌, ap}
use mir.Syntax.{w64, w128}
use Rattle.whole_algebra.proofs.Computed.{Computes, product, difference, stored, fits, narrow, wide, via}
use Rattle.plane_exact.specs.Limits.{spread, longest}
use Rattle.plane_exact.specs.NodePoints.{point_at}
use Rattle.plane_exact.specs.Places.{IsInLimit}
use Rattle.plane_exact.specs.Signs.{sign_of}
use Rattle.plane_exact.specs.declared.node.Node.{Node}
use Rattle.plane_exact.specs.declared.point.Pt.{Pt}
use Rattle.plane_exact.proofs.Sizes.{step, across, upward, gap, abscissa_size, height_size}
use Rattle.plane_exact.proofs.Positions.{turn-point}
use Rattle.plane_exact.proofs.sides.wide_side.Goals as goal

-- the four numbers that are multiplied
ahead : (a b : Pt) (r : ℤ) → IsInLimit a → IsInLimit b → r ≡ narrow (narrow b.x -ℤ narrow a.x) → Computes (wide r) (b.x -ℤ a.x) spread
ahead a b r h k e = stored w128 (via e (across a b h k)) refl

rising : (a b : Pt) (r : ℤ) → IsInLimit a → IsInLimit b → r ≡ narrow (narrow b.y -ℤ narrow a.y) → Computes (wide r) (b.y -ℤ a.y) spread
rising a b r h k e = stored w128 (via e (upward a b h k)) refl

right : (a : Pt) (n : Node) (r : ℤ) → IsInLimit a → r ≡ wide n.x -ℤ narrow a.x *ℤ wide n.w → Computes (wide r) (n.x -ℤ a.x *ℤ n.w) longest
right a n r h e = stored w128 (via e (gap n.x n.w a.x n.across (abscissa_size a h))) refl

up : (a : Pt) (n : Node) (r : ℤ) → IsInLimit a → r ≡ wide n.y -ℤ narrow a.y *ℤ wide n.w → Computes (wide r) (n.y -ℤ a.y *ℤ n.w) longest
up a n r h e = stored w128 (via e (gap n.y n.w a.y n.above (height_size a h))) refl

-- the cross product whose sign is the answer
cross :
    (a b : Pt) (n : Node) {r s u v : ℤ} → IsInLimit a → IsInLimit b → r ≡ narrow (narrow b.x -ℤ narrow a.x)
    → s ≡ narrow (narrow b.y -ℤ narrow a.y) → u ≡ wide n.y -ℤ narrow a.y *ℤ wide n.w → v ≡ wide n.x -ℤ narrow a.x *ℤ wide n.w
    → Computes (wide (wide r *ℤ wide u) -ℤ wide (wide s *ℤ wide v))
    ((b.x -ℤ a.x) *ℤ (n.y -ℤ a.y *ℤ n.w) -ℤ (b.y -ℤ a.y) *ℤ (n.x -ℤ a.x *ℤ n.w)) (spread * longest + spread * longest)
cross a b n h k er es eu ev =
    difference (stored w128 (product (ahead a b _ h k er) (up a n _ h eu)) refl)
    (stored w128 (product (rising a b _ h k es) (right a n _ h ev)) refl)

pub overflow_sub-b : goal.overflow_sub-b
overflow_sub-b c = fits w64 (step c.args.a.x c.args.b.x (abscissa_size c.args.a c.requires.a) (abscissa_size c.args.b c.requires.b)) refl

pub overflow_mul-from : goal.overflow_mul-from
overflow_mul-from c =
    fits w128
    (product (ahead c.args.a c.args.b _ c.requires.a c.requires.b c.from.ensures)
    (up c.args.a c.args.n.now _ c.requires.a c.beyond-up.ensures.distance)) refl

pub overflow_mul-from-2 : goal.overflow_mul-from-2
overflow_mul-from-2 c =
    fits w128
    (product (rising c.args.a c.args.b _ c.requires.a c.requires.b c.from-2.ensures)
    (right c.args.a c.args.n.now _ c.requires.a c.beyond-right.ensures.distance)) refl

pub overflow_sub-from : goal.overflow_sub-from
overflow_sub-from c =
    fits w128
    (cross c.args.a c.args.b c.args.n.now c.requires.a c.requires.b c.from.ensures c.from-2.ensures c.beyond-up.ensures.distance
    c.beyond-right.ensures.distance) refl

pub returns : goal.returns
returns c =
    let all = stored w128
    (cross c.args.a c.args.b c.args.n.now c.requires.a c.requires.b c.from.ensures c.from-2.ensures c.beyond-up.ensures.distance
    c.beyond-right.ensures.distance) refl in
    record { side = c.wide_sign.ensures.sign ∙ ap sign_of (all.is ∙ turn-point c.args.a c.args.b (point_at c.args.n.now)) }
