-- Each worker's list has the answers on its share, so what is joined of all of them has those on the list.
use Rattle.std.proofs.Common.{◌≡◌, ◌<◌, ℕ, [], length, get_or, rules}
use Rattle.std.specs.Prelude.{Ok, IfOk}
use Rattle.std.proofs.lemmas.Result.{IfOk-weaker}
use Rattle.pair_batch.proofs.Sharing.{answers_joined}
use Rattle.pair_batch.specs.Answers.{AreAnswersTo}
use Rattle.pair_batch.specs.Shares.{share_of, AreJoined}
use Rattle.pair_batch.proofs.batch.answers.Goals as goal

pub returns : goal.returns
returns g c =
    let made = c.in_ok-made.made.items in
    let a = c.args.prepared.now.figure in
    let list = c.args.list.now in
    let workers = c.args.threads in
    let count : length made ≡ workers = search rules in
    let each : (worker : ℕ) → worker < workers
    → IfOk (get_or made worker (Ok [])) (AreAnswersTo c.args.query a c.args.rule (share_of list workers worker))
    = λ worker below. let given = (c.in_ok-made.ensures.each worker (Ok []) below).1 in search rules in
    record {
      answers = IfOk-weaker c.joined.result (AreJoined made) (AreAnswersTo c.args.query a c.args.rule list)
          (λ all are. answers_joined c.args.query a c.args.rule list workers made all c.requires.some count each are)
          c.joined.ensures.joined;
    }
