use Rattle.std.proofs.Common.{◌<◌, rules, refl, arith}
use Rattle.replay_parts.specs.declared.ready.Ready.{Ready}
use Rattle.replay_parts.proofs.ReadyLemmas.{number_taken}
use Rattle.replay_parts.proofs.ready.Ready.take_number.Goals as goal

pub returns-in-Some-clause-least : goal.returns-in-Some-clause-least
returns-in-Some-clause-least c =
    let old : Ready = c.args.self.now in
    let new : Ready = record old { numbers = c.take_first.new.self } in
    let k = c.in-Some.number in
    let taken = c.in-Some.ensures.taken in
    let lt : k < old.ordered = search rules in
    let x = number_taken c.args.roster.now old new k c.requires.sound c.requires.ascending c.requires.first taken refl lt in
    (x.0, x.1, x.2, omega (arith, taken.2))
