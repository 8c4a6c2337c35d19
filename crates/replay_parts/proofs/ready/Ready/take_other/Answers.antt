use Rattle.std.proofs.Common.{refl, sym, arith}
use Rattle.replay_parts.specs.declared.ready.Ready.{Ready}
use Rattle.replay_parts.proofs.ReadyLemmas.{other_taken, unnamed_taken}
use Rattle.replay_parts.proofs.ready.Ready.take_other.Goals as goal

pub returns-in-Some-number-clause-least : goal.returns-in-Some-number-clause-least
returns-in-Some-number-clause-least c =
    let old : Ready = c.args.self.now in
    let new : Ready = record old { others = c.pop_first.new.self } in
    let n = c.in-Some.name in
    let left = other_taken c.args.roster.now old new n c.requires.ascending c.requires.first c.in-Some.ensures.member c.in-Some.ensures.least c.in-Some.ensures.updates refl in
    (n, sym c.in-Some-number.ensures.number, left, omega (arith, c.in-Some.ensures.len))

pub returns-in-Some-clause-least : goal.returns-in-Some-clause-least
returns-in-Some-clause-least c =
    let old : Ready = c.args.self.now in
    let new : Ready = record old { others = c.pop_first.new.self } in
    let n = c.in-Some.name in
    let left = other_taken c.args.roster.now old new n c.requires.ascending c.requires.first c.in-Some.ensures.member c.in-Some.ensures.least c.in-Some.ensures.updates refl in
    (unnamed_taken c.args.roster.now old new n (sym c.in-None-number.ensures.number) left, omega (arith, c.in-Some.ensures.len))
