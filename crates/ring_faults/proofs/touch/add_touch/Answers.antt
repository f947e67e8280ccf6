use Rattle.std.proofs.Common.{◌≡◌, ◌∷◌, ◌++◌, [], List, ap, sym, ◌∙◌, subst}
use Rattle.std.proofs.lemmas.Result.{on_ok_weaker}
use Rattle.ring_faults.specs.declared.link.Link.{Link}
use Rattle.ring_faults.specs.Touches.{AddsTouches}
use Rattle.ring_faults.proofs.Touches.{adds_off, adds_node, with_both}
use Rattle.ring_faults.proofs.touch.add_touch.Goals as goal

pub returns-in-Apart : goal.returns-in-Apart
returns-in-Apart c =
    record {
      adds = λ edges e_in f_in.
          adds_off edges c.args.e c.args.f c.args.links.now.items c.meet.result c.requires.unshared c.meet.ensures.exact c.in-Apart.is;
    }

pub returns-in_ok-push_link-in-At : goal.returns-in_ok-push_link-in-At
returns-in_ok-push_link-in-At c =
    let n = c.in-At.node in
    let old = c.args.links.now.items in
    let new = c.push_link-in-At.new.links.items in
    record {
      adds = on_ok_weaker c.push_link-in-At.result
          (λ second edges e_in f_in.
          let is : new ≡ with_both old n c.args.e.part c.args.f.part =
          second ∙ ap (λ (xs : List Link). xs ++ (record { node = n; ring = c.args.f.part }) ∷ []) c.in_ok-push_link-in-At.ensures.ok in
          subst (λ (links : List Link). AddsTouches edges c.args.e (λ other. other ≡ c.args.f) old links) (sym is)
          (adds_node edges c.args.e c.args.f old n e_in f_in c.in-At.ensures.exact)) c.push_link-in-At.ensures.ok;
    }
