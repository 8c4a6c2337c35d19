use Rattle.std.proofs.Common.{◌≡◌, rules}
use Rattle.std.specs.Ordering.{is_lt}
use Rattle.asp_model.specs.Names.{name_cmp}
use Rattle.replay_parts.proofs.ReadyLemmas.{lesser_by}
use Rattle.replay_parts.proofs.ready.Ready.has_lesser.Goals as goal

pub returns-in-Some : goal.returns-in-Some
returns-in-Some c =
    let f = c.in-Some.other.now in
    let q = c.args.name.now in
    let e : c.lt.result ≡ is_lt (name_cmp f q) = search rules in
    record { lesser = lesser_by c.args.self.now f q c.lt.result e c.in-Some.ensures.member c.in-Some.ensures.least }
