use Rattle.std.proofs.Common.{◌≡◌, ◌≤◌, List, length, refl, sym, ap, ◌∙◌, subst, arith}
use Rattle.std.proofs.lemmas.Bool.{false≢true}
use Rattle.im_matrix.specs.declared.Which.{Which}
use Rattle.im_matrix.specs.declared.Which.TheVariants.{A, B}
use Rattle.plane_exact.specs.declared.dir.Dir.{Dir}
use Rattle.fan_order.specs.declared.section.Section.{Section}
use Rattle.fan_order.specs.declared.walk.Walk.{Walk}
use Rattle.fan_order.specs.Passes.{IsRound}
use Rattle.fan_order.specs.Rays.{IsRayOf, AreRaysOf}
use Rattle.fan_order.proofs.Lists.{rays_kept, short_kept, as_many}
use Rattle.fan_order.proofs.fan.Fan.gather.Goals as goal
use Rattle.fan_order.proofs.fan.Fan.gather.Goals.{After-sort_rays}

-- the rays once they are in order, said of lists that were read from others
rays_seen :
    (c : After-sort_rays) (given : List Section) (seen : List Dir) → given ≡ c.args.sections.now → seen ≡ c.sort_rays.new.rays.items
    → AreRaysOf given seen
rays_seen c given seen same also =
    subst (λ (ds : List Dir). AreRaysOf given ds) (sym also)
    (rays_kept given c.as_slice.result.now c.in_ok-rays.rays.items c.sort_rays.new.rays.items (c.as_slice.ensures.items ∙ sym same)
    c.in_ok-rays.ensures.rays c.sort_rays.ensures.ascending c.sort_rays.ensures.only c.sort_rays.ensures.whole)

-- few sections have few rays
few_seen :
    (c : After-sort_rays) (seen : List Dir) → length c.args.sections.now ≤ 8 → seen ≡ c.sort_rays.new.rays.items → length seen ≤ 8
few_seen c seen few also =
    let many =
    as_many (λ (s : Section) (ray : Dir). IsRayOf s.dir ray) c.as_slice.result.now c.in_ok-rays.rays.items c.in_ok-rays.ensures.rays in
    let given = ap length c.as_slice.ensures.items in
    let kept = c.sort_rays.ensures.few in
    let rays = ap length also in
    omega (arith, few, many, given, kept, rays)

-- what was found of a figure, said of the fan's own lists
round_of : (which : Which) (given sections : List Section) (seen rays : List Dir) (walk : Walk) → given ≡ sections → seen ≡ rays
    → IsRound which given seen walk → IsRound which sections rays walk
round_of which given sections seen rays walk same also round =
    subst (λ (ss : List Section). IsRound which ss rays walk) same (subst (λ (ds : List Dir). IsRound which given ds walk) also round)

pub returns-clause-rays : goal.returns-clause-rays
returns-clause-rays c = rays_seen (goal.at.returns-clause-rays c).After-sort_rays c.args.sections.now c.sort_rays.new.rays.items refl refl

pub round-requires : goal.round-requires
round-requires c = record {
  rays = rays_seen (goal.at.round-requires c).After-sort_rays _ _ c.as_slice-2.ensures.items c.as_slice-3.ensures;
}

pub round-requires-2 : goal.round-requires-2
round-requires-2 c = record {
  rays = rays_seen (goal.at.round-requires-2 c).After-sort_rays _ _ c.as_slice-4.ensures.items c.as_slice-5.ensures;
}

pub returns-in_err-a-clause-room : goal.returns-in_err-a-clause-room
returns-in_err-a-clause-room c = λ few.
    let rays = few_seen (goal.at.returns-in_err-a-clause-room c).After-sort_rays _ few c.as_slice-3.ensures in
    absurd (false≢true (c.in_err-a.ensures.room (omega (arith, few, ap length c.as_slice-2.ensures.items)) rays))

pub returns-in_err-b-clause-room : goal.returns-in_err-b-clause-room
returns-in_err-b-clause-room c = λ few.
    let rays = few_seen (goal.at.returns-in_err-b-clause-room c).After-sort_rays _ few c.as_slice-5.ensures in
    absurd (false≢true (c.in_err-b.ensures.room (omega (arith, few, ap length c.as_slice-4.ensures.items)) rays))

pub invariant_of-result : goal.invariant_of-result
invariant_of-result c =
    let rays = c.sort_rays.new.rays.items in
    let kept = c.in_ok-sections.sections.items in
    let same : kept ≡ c.args.sections.now = c.in_ok-sections.ensures.ok ∙ c.as_slice-6.ensures.items in
    record {
      is_fan = record {
        rays = rays_seen (goal.at.invariant_of-result c).After-sort_rays kept rays same refl;
        short = short_kept c.in_ok-rays.rays.items rays c.in_ok-rays.ensures.short c.sort_rays.ensures.only;
      };
      of_a =
          round_of A c.as_slice-2.result.now kept c.as_slice-3.result.now rays c.in_ok-a.a (c.as_slice-2.ensures.items ∙ sym same)
          c.as_slice-3.ensures c.in_ok-a.ensures.round;
      of_b =
          round_of B c.as_slice-4.result.now kept c.as_slice-5.result.now rays c.in_ok-b.b (c.as_slice-4.ensures.items ∙ sym same)
          c.as_slice-5.ensures c.in_ok-b.ensures.round;
    }
