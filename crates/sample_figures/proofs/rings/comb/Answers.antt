use Rattle.std.proofs.Common.{◌≡◌, ℕ, suc, ◌-◌, ◌++◌, List, ap, sym, ◌∙◌, append_assoc, arith}
use Rattle.plane_exact.specs.declared.point.Pt.{Pt}
use Rattle.sample_figures.specs.Samples.{over_tooth, over_teeth}
use Rattle.sample_figures.proofs.rings.comb.Goals as goal

-- a tooth that is walked over is no more left
one_more : (height left count : ℕ) (ring new whole : List Pt) → count ≡ suc left → new ≡ ring ++ over_tooth height left
    → ring ++ over_teeth height count ≡ whole → new ++ over_teeth height left ≡ whole
one_more height left count ring new whole one added before =
    ap (λ way. way ++ over_teeth height left) added ∙ append_assoc ring (over_tooth height left) (over_teeth height left)
    ∙ ap (λ n. ring ++ over_teeth height n) (sym one) ∙ before

pub loop-tooth-preserved : goal.loop-tooth-preserved
loop-tooth-preserved c =
    one_more _ (c.loop-tooth.tooth - 1) c.loop-tooth.tooth c.loop-tooth.ring c.add_tooth.new.ring _ (omega arith)
    c.in_ok-add_tooth.ensures.added c.loop-tooth.invariant
