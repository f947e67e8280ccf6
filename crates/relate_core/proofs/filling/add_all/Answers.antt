use Rattle.std.proofs.Common.{◌++◌, [], ◌∷◌, List, take, ap, sym, ◌∙◌}
use Rattle.std.proofs.lemmas.List.{take_more}
use Rattle.fan_order.specs.declared.section.Section.{Section}
use Rattle.node_table.specs.Tables.{with_sections}
use Rattle.node_table.specs.declared.entry.Entry.{Entry}
use Rattle.relate_core.proofs.Entries.{more_sections}
use Rattle.relate_core.proofs.filling.add_all.Goals as goal

pub loop-section-preserved : goal.loop-section-preserved
loop-section-preserved c =
    let old = c.args.table.now in
    let n = c.args.n.now in
    let xs = c.args.sections.now in
    let k = c.loop-section.section-index in
    let item = c.section-item.result in
    record {
      is = c.in_ok-add.ensures.added ∙ ap (λ (t : List Entry). with_sections t n (item ∷ [])) c.loop-section.invariant.is
          ∙ more_sections old n (take k xs) (item ∷ [])
          ∙ ap (with_sections old n)
          (ap (λ (s : Section). take k xs ++ s ∷ []) c.section-item.is ∙ sym (take_more xs k item c.loop-section-test.true));
      in_order = c.in_ok-add.ensures.in_order;
    }
