use Rattle.std.proofs.Common.{refl}
use Rattle.std.proofs.lemmas.Result.{IfOk-weaker}
use Rattle.area_entry.proofs.Bends.{not_so}
use Rattle.area_entry.proofs.Entries.{begins_there, unshared_rows, decided}
use Rattle.area_entry.proofs.entering.enters.Goals as goal

pub returns-then-begins_in : goal.returns-then-begins_in
returns-then-begins_in c = record {
  enters = λ way area segs simple clean are_rows unshared begins.
      let both = c.begins_in.ensures.begins.0 c.if-begins_in.true in
      (λ _. begins_there way area c.args.part c.args.ring.now segs c.args.first begins both.0 both.1, λ _. refl);
}

pub returns : goal.returns
returns c = record {
  enters =
      IfOk-weaker c.runs_into.result _ _
      (λ b decides way area segs simple clean are_rows unshared begins.
      decided way area c.args.part c.args.ring.now segs simple clean c.requires.part c.args.first begins
      (not_so c.begins_in.result c.begins_in.ensures.begins c.if-begins_in.false) b
      (decides area clean are_rows (unshared_rows way area c.args.part c.args.ring.now segs unshared)))
      c.runs_into.ensures.runs;
}
