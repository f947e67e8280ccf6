use Rattle.std.proofs.Common.{◌≡◌, ◌↔◌, List, Less, sym, subst}
use Rattle.std.specs.List.{AllPairs, Contains}
use Rattle.std.proofs.lemmas.List.Filters.{dedup_is}
use Rattle.ring_faults.specs.declared.link.Link.{Link}
use Rattle.ring_faults.specs.Links.{compare_links}
use Rattle.ring_faults.proofs.LinkOrder.{kept_ascends, kept_same}
use Rattle.ring_faults.proofs.link.sort_links.Goals as goal

pub returns-clause-ascending : goal.returns-clause-ascending
returns-clause-ascending c =
    let is = dedup_is _ _ _ c.dedup.ensures.filtered in
    subst (λ (links : List Link). AllPairs (λ l m. compare_links l m ≡ Less) links) (sym is) (kept_ascends _ c.sort_unstable.ensures.sorted)

pub returns-clause-same : goal.returns-clause-same
returns-clause-same c =
    let is = dedup_is _ _ _ c.dedup.ensures.filtered in
    λ l. subst (λ (links : List Link). Contains c.args.links.now.items l ↔ Contains links l) (sym is)
    (kept_same _ _ c.sort_unstable.ensures.permutation l)
