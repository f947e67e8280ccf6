use Rattle.std.proofs.Common.{[], append-nil, refl, sym}
use Rattle.area_entry.proofs.Bends.{not_so}
use Rattle.area_entry.proofs.sections.add_row.Goals as goal

pub returns-then-not-on_segment-clause-sections : goal.returns-then-not-on_segment-clause-sections
returns-then-not-on_segment-clause-sections c = record {
  more = [];
  are = record {
    on = λ h. absurd (not_so c.on_segment.result c.on_segment.ensures.on c.if-not-on_segment.true h);
    off = λ _. refl;
  };
  new_is = sym (append-nil c.args.out.now);
}
