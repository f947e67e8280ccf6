use Rattle.std.proofs.Common.{◌≡◌, pos, ◌+ℤ◌, ◌*ℤ◌, to_z, of_z, w64, ap, refl, sym, ◌∙◌, subst₂}
use Rattle.std.specs.Int.{int_div_euclid}
use mir.Syntax.{w128}
use Rattle.whole_algebra.proofs.Computed.{Computes, product, stored, fits, narrow, wide}
use Rattle.plane_exact.specs.Limits.{limit, largest, heaviest}
use Rattle.plane_exact.specs.NodePoints.{point_at}
use Rattle.y_index.specs.Levels.{IsLevel}
use Rattle.y_index.proofs.Levels.{IsFloor-quotient, IsLevel-whole, IsLevel-between, height, weight, quotient, next}
use Rattle.y_index.proofs.level.level_between.Goals as goal
use Rattle.y_index.proofs.level.level_between.Goals.{then-floor-w, else-floor-w}

weight_of : (c : goal.After-div_euclid-floor) → Computes (wide c.parts-y.result.2) c.args.n.now.w heaviest
weight_of c = weight c.args.n.now.y c.args.n.now.w c.parts-y.result.2 c.args.n.now.above c.parts-y.ensures.w

pub overflow_mul-floor : goal.overflow_mul-floor
overflow_mul-floor c =
    fits w128
    (product (quotient c.args.n.now.y c.args.n.now.w c.parts-y.result.1 c.parts-y.result.2 c.div_euclid-floor.result c.args.n.now.above
    c.parts-y.ensures.y c.parts-y.ensures.w c.div_euclid-floor.ensures) (weight_of c)) refl

floor_of : (c : goal.Joined-floor-w) → Computes (wide c.div_euclid-floor.result) (int_div_euclid c.args.n.now.y c.args.n.now.w) limit
floor_of c = quotient c.args.n.now.y c.args.n.now.w c.parts-y.result.1 c.parts-y.result.2 c.div_euclid-floor.result c.args.n.now.above
    c.parts-y.ensures.y c.parts-y.ensures.w c.div_euclid-floor.ensures

height_of : (c : goal.Joined-floor-w) → Computes (wide c.parts-y.result.1) c.args.n.now.y largest
height_of c = height c.args.n.now.y c.args.n.now.w c.parts-y.result.1 c.args.n.now.above c.parts-y.ensures.y

times : (c : goal.Joined-floor-w) → Computes (wide c.div_euclid-floor.result *ℤ wide c.parts-y.result.2)
    (int_div_euclid c.args.n.now.y c.args.n.now.w *ℤ c.args.n.now.w) 18446726481523507200
times c = product (floor_of c) (weight c.args.n.now.y c.args.n.now.w c.parts-y.result.2 c.args.n.now.above c.parts-y.ensures.w)

pub overflow_cast-result : goal.overflow_cast-result
overflow_cast-result c = fits w64 (floor_of c) refl

pub overflow_cast-result-2 : goal.overflow_cast-result-2
overflow_cast-result-2 c = elim c.if-floor-w.branch [
  | then-floor-w w ↦ (let e = floor_of c in fits w64 (record { is = w.ceiling-is ∙ e.is; small = e.small }) refl)
  | else-floor-w w ↦ (let e = next c.div_euclid-floor.result (floor_of c) in
      fits w64 (record { is = w.ceiling-is ∙ e.is; small = e.small }) refl)
]

pub returns : goal.returns
returns c =
    let p = point_at c.args.n.now in
    let f = int_div_euclid c.args.n.now.y c.args.n.now.w in
    let e = floor_of c in
    let low : narrow (wide c.div_euclid-floor.result) ≡ f = (stored w64 e refl).is in
    elim c.if-floor-w.branch [
      | then-floor-w w ↦
          (let whole : f *ℤ c.args.n.now.w ≡ c.args.n.now.y = sym (stored w128 (times c) refl).is ∙ ap (to_z w128) w.if-floor-w.true
          ∙ (height_of c).is in
          record { level = subst₂ (IsLevel p) (sym low) (sym (ap narrow w.ceiling-is ∙ low)) (IsLevel-whole p f whole) })
      | else-floor-w w ↦
          (let high : narrow (wide (wide c.div_euclid-floor.result +ℤ pos 1)) ≡ f +ℤ pos 1 =
          (stored w64 (next c.div_euclid-floor.result e) refl).is in
          record {
            level = subst₂ (IsLevel p) (sym low) (sym (ap narrow w.ceiling-is ∙ high))
                (IsLevel-between p f (IsFloor-quotient c.args.n.now.y c.args.n.now.w c.args.n.now.above.heavy)
                (λ k. w.if-floor-w.false (ap (of_z w128) ((times c).is ∙ k ∙ sym c.parts-y.ensures.y))));
          })
    ]
