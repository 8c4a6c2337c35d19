use Rattle.std.proofs.Common.{◌≡◌, ◌<◌, length, rules, arith}
use Rattle.replay_parts.proofs.ReadyLemmas.{none_named}
use Rattle.replay_parts.proofs.ready.Ready.take_least.Goals as goal

pub take_alone-requires-clause-alone : goal.take_alone-requires-clause-alone
take_alone-requires-clause-alone c =
    let keys = c.args.self.now.others.keys in
    let empty : length keys ≡ 0 = search rules in
    λ m. none_named m keys (λ some. omega (arith, some, empty))
