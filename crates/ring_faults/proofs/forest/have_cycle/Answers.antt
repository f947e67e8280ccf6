use Rattle.std.proofs.Common.{◌≡◌, ◌⊎◌, inl, inr, ◌+◌, ◌-◌, ◌<◌, ℕ, List, length, take, sym, ◌∙◌, ap, subst, refl, rules, arith}
use Rattle.std.proofs.lemmas.Bool.{false≢true}
use Rattle.std.proofs.lemmas.List.FromFn.{length-range_with_len}
use Rattle.std.proofs.lemmas.Option.{slice_get_read}
use Rattle.point_set.specs.Validity.{IsAtPlace}
use Rattle.ring_faults.specs.Links.{IsRelabelled, HasCycle}
use Rattle.ring_faults.proofs.ForestSteps.{one_forest, apart_forest, joined_forest, closed_cycle, before_there}
use Rattle.ring_faults.proofs.forest.have_cycle.Goals.{then-is_same_node+else-one-other+in_ok-join, else-is_same_node}
use Rattle.ring_faults.proofs.forest.have_cycle.Goals as goal
use Rattle.ring_faults.proofs.Forests.{IsForest}

pub loop-i-init : goal.loop-i-init
loop-i-init c =
    let e = c.in_ok-classes.ensures.labels in
    record {
      forest = subst (λ (labels : List ℕ). IsForest (take 1 c.args.links.now) labels) (sym e)
          (one_forest c.args.links.now (c.args.last + 1));
      count = ap length e ∙ length-range_with_len 0 (c.args.last + 1);
    }

pub returns-then-one-other : goal.returns-then-one-other
returns-then-one-other c =
    let links = c.args.links.now in
    let i = c.loop-i.i in
    let head = c.index-links-i.result in
    let link = c.index-links-i-in-loop-i.result in
    let next : i ≡ (i - 1) + 1 = before_there i c.loop-i.auto.i in
    let before : (i - 1) < length links = omega arith in
    let head_is : IsAtPlace links (i - 1) head = slice_get_read links (length links) (i - 1) head refl before c.index-links-i.is in
    let link_is : IsAtPlace links i link =
    slice_get_read links (length links) i link refl c.loop-i-test.true c.index-links-i-in-loop-i.is in
    let cycle : HasCycle links =
    closed_cycle links c.requires.ascending (i - 1) i next head link head_is link_is c.loop-i.classes c.label-other.result
    c.loop-i.invariant.forest (c.if-is_same_node.ensures.same.0 (search rules))
    (subst (λ (z : ℕ). IsAtPlace c.loop-i.classes link.ring z) c.if-one-other.true c.label-one.ensures.label)
    c.label-other.ensures.label in
    record { cycle = (λ _. cycle, λ _. search rules) }

pub loop-i-preserved : goal.loop-i-preserved
loop-i-preserved c =
    let links = c.args.links.now in
    let i = c.loop-i.i in
    let head = c.index-links-i.result in
    let link = c.index-links-i-in-loop-i.result in
    let labels = c.loop-i.classes in
    let next : i ≡ (i - 1) + 1 = before_there i c.loop-i.auto.i in
    let before : (i - 1) < length links = omega arith in
    let head_is : IsAtPlace links (i - 1) head = slice_get_read links (length links) (i - 1) head refl before c.index-links-i.is in
    let link_is : IsAtPlace links i link =
    slice_get_read links (length links) i link refl c.loop-i-test.true c.index-links-i-in-loop-i.is in
    elim c.if-is_same_node.branch [
      | then-is_same_node+else-one-other+in_ok-join w ↦
          let new = w.join.new.self in
          let one = w.label-one.result in
          let other = w.label-other.result in
          let joined : IsRelabelled one other labels new ⊎ IsRelabelled other one labels new = w.in_ok-join.ensures.joined in
          let count : length new ≡ length labels = elim joined [ inl r ↦ r.length_same | inr r ↦ r.length_same ] in
          record {
            forest = subst (λ (some : List ℕ). IsForest (take (i + 1) links) some) (sym w.classes-is)
                (joined_forest links c.requires.ascending (i - 1) i next head link head_is link_is labels new one other
                c.loop-i.invariant.forest (w.if-is_same_node.ensures.same.0 (search rules)) w.label-one.ensures.label
                w.label-other.ensures.label w.if-one-other.false joined);
            count = ap length w.classes-is ∙ count ∙ c.loop-i.invariant.count;
          }
      | else-is_same_node w ↦
          record {
            forest = subst (λ (some : List ℕ). IsForest (take (i + 1) links) some) (sym w.classes-is)
                (apart_forest links c.requires.ascending (i - 1) i next head link head_is link_is labels c.loop-i.invariant.forest
                (λ same. absurd (false≢true (w.if-is_same_node.ensures.same.1 same))));
            count = ap length w.classes-is ∙ c.loop-i.invariant.count;
          }
    ]
