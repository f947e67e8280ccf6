use Rattle.std.proofs.Common.{List, [], ◌∷◌, ◌++◌, ap, refl, ◌∙◌, append_assoc, arith, rules}
use Rattle.fan_order.specs.declared.pass.Pass.{Pass}
use Rattle.fan_order.proofs.PassLists.{second, passes_of_section, passes_of_other}
use Rattle.fan_order.proofs.pass.add_passes.Goals as goal

pub returns-in-Some-clause-passes : goal.returns-in-Some-clause-passes
returns-in-Some-clause-passes c =
    let pass = c.in-Some.pass in
    let rays = c.args.rays.now in
    record {
      more = pass ∷ second rays pass ∷ [];
      are = passes_of_section c.args.which rays c.args.section.now pass c.requires.ascending c.in-Some.ensures.pass;
      few = omega arith;
      new_is =
          c.push_reserved-in-Some.ensures.items
          ∙ ap (λ (ps : List Pass). ps ++ second rays pass ∷ []) c.push_reserved.ensures.items
          ∙ append_assoc c.args.passes.now.items (pass ∷ []) (second rays pass ∷ []);
    }

pub returns-in_default-clause-passes : goal.returns-in_default-clause-passes
returns-in_default-clause-passes c = record {
  more = [];
  are = passes_of_other c.args.which _ c.args.section.now (c.in_default.ensures.none refl);
  few = omega arith;
  new_is = search rules;
}
