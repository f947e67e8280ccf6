use Rattle.std.proofs.Common.{◌≡◌, ℕ, Bool, ◌+◌, ◌<◌, length, drop, get_or, List, ◌∷◌, false, ap, sym, ◌∙◌, subst, arith, pos, add-one}
use Rattle.std.proofs.Math.Seq.{drop-cons}
use Rattle.plane_exact.specs.NodePoints.{point_at}
use Rattle.plane_laws.specs.Plane.{Point}
use Rattle.plane_exact.specs.declared.point.Pt.{Pt}
use Rattle.point_set.specs.Rings.{is_odd, is_on_edges, edges_after, differ}
use Rattle.point_set.specs.Location.{location_by}
use Rattle.area_locator.proofs.Touching.{IsSoFar, step_crosses, step_misses, found}
use Rattle.area_locator.proofs.ring.locate_after.Goals as goal
use Rattle.area_locator.proofs.ring.locate_after.Goals.{in-Crosses, in-Misses}

-- the positions that are left, with the present one first
so_far :
    (p : Point) (first : Pt) (others : List Pt) (last : Pt) (index : ℕ) (odd : Bool) (d : Pt) → index < length others
    → is_on_edges p (edges_after first others) ≡ is_on_edges p (edges_after last (drop index others))
    → is_odd p (edges_after first others) ≡ differ odd (is_odd p (edges_after last (drop index others)))
    → IsSoFar p first others last (get_or others index d ∷ drop (index + 1) others) odd
so_far p first others last index odd d below on is_it =
    let P : List Pt → Type 0 = λ left. IsSoFar p first others last left odd in
    subst P (drop-cons others index d below ∙ ap (λ n. get_or others index d ∷ drop n others) (sym (add-one index)))
    (record { on = on; odd_is = is_it })

-- the same count, as another term has it
with_odd :
    {p : Point} {first : Pt} {others : List Pt} {last : Pt} {rest : List Pt} {odd odd' : Bool} → odd ≡ odd'
    → IsSoFar p first others last rest odd → IsSoFar p first others last rest odd'
with_odd {p} {first} {others} {last} {rest} e = subst (λ z. IsSoFar p first others last rest z) e

pub returns-in-Holds : goal.returns-in-Holds
returns-in-Holds c =
    let s = so_far (point_at c.args.n.now) c.args.first c.args.others.now c.loop-p.last c.loop-p.p-index c.loop-p.odd
    (record { x = pos 0; y = pos 0 }) (omega arith) c.loop-p.invariant.on c.loop-p.invariant.odd in
    record {
      location = sym
          (ap (λ z. location_by z (is_odd (point_at c.args.n.now) (edges_after c.args.first c.args.others.now)) false)
          (found s (sym c.touch_between.ensures.touch ∙ c.in-Holds.is)));
    }

pub loop-p-preserved : goal.loop-p-preserved
loop-p-preserved c =
    let s = so_far (point_at c.args.n.now) c.args.first c.args.others.now c.loop-p.last c.loop-p.p-index c.loop-p.odd
    (record { x = pos 0; y = pos 0 }) (omega arith) c.loop-p.invariant.on c.loop-p.invariant.odd in
    elim c.match-touch_between.branch [
      | in-Crosses w ↦
          (let t = with_odd (sym w.odd-is) (step_crosses s (sym c.touch_between.ensures.touch ∙ w.in-Crosses.is)) in
          record { last = c.requires.others _ _ (omega arith); on = t.on; odd = t.odd_is })
      | in-Misses w ↦
          (let t = with_odd (sym w.odd-is) (step_misses s (sym c.touch_between.ensures.touch ∙ w.in-Misses.is)) in
          record { last = c.requires.others _ _ (omega arith); on = t.on; odd = t.odd_is })
    ]
