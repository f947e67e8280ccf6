use Rattle.std.proofs.Common.{◌≡◌, ◌↔◌, ◌<◌, IsTrue, ltb, ℕ, ◌+◌, [], ◌∷◌, length, length-append, sym, ap, subst, ◌∙◌, arith}
use Rattle.std.proofs.lemmas.Bool.Decides.{Decides-ltb}
use Rattle.fan_order.proofs.Reaches.{AreOpened, farthest_next, flags_more}
use Rattle.fan_order.proofs.pass.open_at.Goals as goal

pub loop-until-preserved : goal.loop-until-preserved
loop-until-preserved c =
    let reach = c.args.reach.now in
    let n = c.loop-until.until-index in
    let l = c.loop-until.invariant in
    let pushed = c.push_reserved.ensures.items in
    let place : c.len.result ≡ n = c.len.ensures.value ∙ l.count in
    let far = farthest_next reach n c.loop-until.farthest c.max-farthest.result l.farthest c.max-farthest.ensures in
    let flag : IsTrue (ltb c.len.result c.max-farthest.result) ↔ (n < c.max-farthest.result) =
    subst (λ (m : ℕ). IsTrue (ltb c.len.result c.max-farthest.result) ↔ (m < c.max-farthest.result)) place
    (Decides-ltb c.len.result c.max-farthest.result) in
    record {
      count =
          let e = ap length pushed in
          let k = l.count in
          omega (arith, e, k, length-append c.loop-until.opened.items (ltb c.len.result c.max-farthest.result ∷ []));
      farthest = far;
      opened =
          subst (AreOpened reach (n + 1)) (sym pushed)
          (flags_more reach n c.max-farthest.result c.loop-until.opened.items (ltb c.len.result c.max-farthest.result) l.count l.opened
          far flag);
      room = let e = c.push_reserved.ensures.capacity in let k = l.room in omega (arith, e, k);
    }
