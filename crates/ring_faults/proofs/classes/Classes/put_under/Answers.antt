use Rattle.ring_faults.proofs.ClassSteps.{taken_rings, classes_again, put_relabelled, put_classes}
use Rattle.ring_faults.proofs.classes.Classes.put_under.Goals as goal

pub relabel-requires : goal.relabel-requires
relabel-requires c = record {
  rings = taken_rings c.self.inside.labels c.self.inside.members.items c.args.self.now c.self.view_is c.self.invariant c.args.from c.args.to
      c.requires.from c.requires.to c.requires.apart c.new.result c.replace-rings.new.dest c.index_mut.result.now c.replace-rings.result
      c.index_mut-2.result.now c.new.ensures.items c.replace-rings.ensures.after c.index_mut.ensures.value c.replace-rings.ensures.value
      c.index_mut-2.ensures.value
      c.as_slice-in-Ok.result.now c.as_mut_slice.result.now c.as_slice-in-Ok.ensures.value c.as_mut_slice.ensures.value;
}

pub invariant_of-self : goal.invariant_of-self
invariant_of-self c =
    put_classes c.self.inside.labels c.self.inside.members.items c.args.self.now c.self.view_is c.self.invariant c.args.from c.args.to
    c.requires.from c.requires.to c.requires.apart c.new.result c.replace-rings.new.dest c.index_mut.result.now c.replace-rings.result
    c.index_mut-2.result.now c.new.ensures.items c.replace-rings.ensures.after c.index_mut.ensures.value c.replace-rings.ensures.value
    c.index_mut-2.ensures.value c.as_slice-in-Ok.result.now c.as_mut_slice.result.now c.relabel.new.labels c.as_slice-in-Ok.ensures.value
    c.as_mut_slice.ensures.value c.relabel.ensures.put
    c.extend_from_slice.new.self c.as_slice.result.now c.in-Ok.ensures.items c.as_slice.ensures.value

pub invariant_of-self-in-Err : goal.invariant_of-self-in-Err
invariant_of-self-in-Err c =
    classes_again c.self.inside.labels c.self.inside.members.items c.args.self.now c.self.view_is c.self.invariant c.args.from c.args.to
    c.requires.from c.requires.to c.requires.apart c.new.result c.replace-rings.new.dest c.index_mut.result.now c.replace-rings.result
    c.index_mut-2.result.now c.new.ensures.items c.replace-rings.ensures.after c.index_mut.ensures.value c.replace-rings.ensures.value
    c.index_mut-2.ensures.value c.extend_from_slice.new.self c.in-Err.ensures.items

pub returns-in-Ok-clause-put : goal.returns-in-Ok-clause-put
returns-in-Ok-clause-put c =
    put_relabelled c.self.inside.labels c.self.inside.members.items c.args.self.now c.self.view_is c.self.invariant c.args.from c.args.to
    c.requires.from c.requires.to c.requires.apart c.new.result c.replace-rings.new.dest c.index_mut.result.now c.replace-rings.result
    c.index_mut-2.result.now c.new.ensures.items c.replace-rings.ensures.after c.index_mut.ensures.value c.replace-rings.ensures.value
    c.index_mut-2.ensures.value c.as_slice-in-Ok.result.now c.as_mut_slice.result.now c.relabel.new.labels c.as_slice-in-Ok.ensures.value
    c.as_mut_slice.ensures.value c.relabel.ensures.put
