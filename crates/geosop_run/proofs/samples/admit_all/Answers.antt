-- The figures are taken from the end of their list, and those admitted are turned at the end.
use Rattle.std.proofs.Common.{◌∙◌, ◌++◌, ◌∷◌, [], Some, append-nil, ap, reverse}
use Rattle.std.proofs.lemmas.List.Elements.{All-pop}
use Rattle.geosop_run.specs.Sources.{IsSound}
use Rattle.geosop_run.proofs.Popped.{one_popped}
use Rattle.geosop_run.proofs.samples.admit_all.Goals as goal

pub loop-figure-init : goal.loop-figure-init
loop-figure-init c = record {
  order = ap (λ taken. c.args.figures ++ reverse taken) c.new-valids.ensures.empty ∙ append-nil c.args.figures;
  sound = c.requires.sound;
}

pub admit_sound-requires : goal.admit_sound-requires
admit_sound-requires c = record {
  sound =
      (All-pop IsSound c.loop-figure.figures c.pop.new.self (Some c.in-Some.figure) c.in-Some.ensures.last c.loop-figure.invariant.sound).1;
}

pub loop-figure-preserved : goal.loop-figure-preserved
loop-figure-preserved c = record {
  order =
      ap (λ taken. c.pop.new.self ++ reverse taken)
      (c.in_ok-push.ensures.ok ∙ ap (λ last. c.loop-figure.valids ++ last ∷ []) c.in_ok-admit_sound.ensures.same)
      ∙ one_popped c.pop.new.self c.loop-figure.valids c.loop-figure.figures c.args.figures c.in-Some.figure c.in-Some.ensures.last
      c.loop-figure.invariant.order;
  sound =
      (All-pop IsSound c.loop-figure.figures c.pop.new.self (Some c.in-Some.figure) c.in-Some.ensures.last c.loop-figure.invariant.sound).0;
}
