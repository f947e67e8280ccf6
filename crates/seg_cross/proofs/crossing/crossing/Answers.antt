use Rattle.std.proofs.Common.{◌≡◌, ◌≤◌, ℤ, ◌+ℤ◌, ◌*ℤ◌, unsigned_abs, refl, sym, ◌∙◌, subst₂}
use Rattle.plane_laws.specs.Plane.{Point, IsAt}
use mir.Syntax.{w128}
use Rattle.whole_algebra.proofs.Computed.{stored, fits, narrow, wide}
use Rattle.plane_exact.specs.Limits.{limit}
use Rattle.plane_exact.specs.NodePoints.{point_at}
use Rattle.plane_exact.specs.Nodes.{IsFraction}
use Rattle.plane_exact.proofs.Laws.{abscissa_size, height_size}
use Rattle.seg_cross.proofs.Means.{weights, mean_of, IsFraction-mean}
use Rattle.seg_cross.proofs.crossing.crossing.Goals as goal
use Rattle.seg_cross.proofs.crossing.crossing.Goals.{After-from-2}

pub overflow_add-from : goal.overflow_add-from
overflow_add-from c =
    fits w128 (weights _ _ c.args.first c.args.second c.from.ensures c.from-2.ensures c.requires.first_size c.requires.second_size) refl

-- the mean of two coordinates under the weights is a fraction over their sum
fraction :
    (c : After-from-2) (m a b : ℤ) → m ≡ narrow c.args.first *ℤ narrow a +ℤ narrow c.args.second *ℤ narrow b
    → unsigned_abs a ≤ limit → unsigned_abs b ≤ limit → IsFraction (wide m) (wide (wide c.from.result +ℤ wide c.from-2.result))
fraction c m a b is a_size b_size =
    let f = c.args.first in
    let s = c.args.second in
    let r = c.requires in
    subst₂ IsFraction (sym (mean_of m f a s b is r.first_size a_size r.second_size b_size))
    (sym (stored w128 (weights _ _ f s c.from.ensures c.from-2.ensures r.first_size r.second_size) refl).is)
    (IsFraction-mean f s a b r.first r.second r.first_size r.second_size a_size b_size r.some)

pub reduce-requires-clause-across : goal.reduce-requires-clause-across
reduce-requires-clause-across c =
    fraction (goal.at.reduce-requires-clause-across c).After-from-2 _ c.args.s.a.x c.args.s.b.x c.mean.ensures.sum
    (abscissa_size c.args.s.a c.requires.a) (abscissa_size c.args.s.b c.requires.b)

pub reduce-requires-clause-above : goal.reduce-requires-clause-above
reduce-requires-clause-above c =
    fraction (goal.at.reduce-requires-clause-above c).After-from-2 _ c.args.s.a.y c.args.s.b.y c.mean-2.ensures.sum
    (height_size c.args.s.a c.requires.a) (height_size c.args.s.b c.requires.b)

at_mean : (n : Point) (x y w x' y' w' : ℤ) → x ≡ x' → y ≡ y' → w ≡ w' → IsAt n x y w → IsAt n x' y' w'
at_mean n x y w x' y' w' ex ey ew at = record {
  across = (λ i. n.x *ℤ sym ew i) ∙ at.across ∙ (λ i. ex i *ℤ n.w);
  above = (λ i. n.y *ℤ sym ew i) ∙ at.above ∙ (λ i. ey i *ℤ n.w);
}

pub returns : goal.returns
returns c =
    let f = c.args.first in
    let s = c.args.second in
    let seg = c.args.s in
    let r = c.requires in
    record {
      mean = at_mean (point_at c.reduce.result) _ _ _ _ _ _
          (mean_of _ f seg.a.x s seg.b.x c.mean.ensures.sum r.first_size (abscissa_size seg.a r.a) r.second_size (abscissa_size seg.b r.b))
          (mean_of _ f seg.a.y s seg.b.y c.mean-2.ensures.sum r.first_size (height_size seg.a r.a) r.second_size (height_size seg.b r.b))
          (stored w128 (weights _ _ f s c.from.ensures c.from-2.ensures r.first_size r.second_size) refl).is
          c.reduce.ensures.same;
    }
