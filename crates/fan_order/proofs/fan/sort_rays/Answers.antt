use Rattle.std.proofs.Common.{length, ◌≤◌, ◌≡◌, List, Less, ap, sym, ◌∙◌, subst, rules}
use Rattle.std.specs.List.{All, AllPairs, Any, Contains}
use Rattle.std.specs.List.Sorted.{IsPermutation}
use Rattle.smallvec.proofs.SmallVecLemmas.{items-with_items}
use Rattle.plane_exact.specs.declared.dir.Dir.{Dir}
use Rattle.plane_exact.specs.Orders.{compare_angles, IsSameDirection}
use Rattle.fan_order.proofs.Lists.{kept, kept_ascends, kept_only, kept_whole, kept_few}
use Rattle.fan_order.proofs.fan.sort_rays.Goals as goal

pub returns-clause-ascending : goal.returns-clause-ascending
returns-clause-ascending c =
    subst (λ (rays : List Dir). AllPairs (λ d e. compare_angles d e ≡ Less) rays)
    (sym (c.dedup.ensures.items ∙ ap kept (items-with_items c.args.rays.now c.sort_unstable.new.self (search rules))))
    (kept_ascends c.sort_unstable.new.self c.sort_unstable.ensures.sorted)

pub returns-clause-only : goal.returns-clause-only
returns-clause-only c =
    subst (λ (rays : List Dir). All (Contains c.args.rays.now.items) rays)
    (sym (c.dedup.ensures.items ∙ ap kept (items-with_items c.args.rays.now c.sort_unstable.new.self (search rules))))
    (kept_only c.args.rays.now.items c.sort_unstable.new.self
    (subst (λ (old : List Dir). IsPermutation old c.sort_unstable.new.self) c.deref_mut.ensures.value c.sort_unstable.ensures.permutation))

pub returns-clause-whole : goal.returns-clause-whole
returns-clause-whole c =
    subst (λ (rays : List Dir). All (λ d. Any (IsSameDirection d) rays) c.args.rays.now.items)
    (sym (c.dedup.ensures.items ∙ ap kept (items-with_items c.args.rays.now c.sort_unstable.new.self (search rules))))
    (kept_whole c.args.rays.now.items c.sort_unstable.new.self
    (subst (λ (old : List Dir). IsPermutation old c.sort_unstable.new.self) c.deref_mut.ensures.value c.sort_unstable.ensures.permutation))

pub returns-clause-few : goal.returns-clause-few
returns-clause-few c =
    subst (λ (rays : List Dir). length rays ≤ length c.args.rays.now.items)
    (sym (c.dedup.ensures.items ∙ ap kept (items-with_items c.args.rays.now c.sort_unstable.new.self (search rules))))
    (kept_few c.args.rays.now.items c.sort_unstable.new.self
    (subst (λ (old : List Dir). IsPermutation old c.sort_unstable.new.self) c.deref_mut.ensures.value c.sort_unstable.ensures.permutation))
