use Rattle.std.proofs.Common.{refl}
use Rattle.replay_one.specs.declared.schedule.Schedule.{Schedule}
use Rattle.replay_one.proofs.ScheduleLemmas.{fewer_left, least_taken}
use Rattle.replay_one.proofs.schedule.Schedule.take_least.Goals as goal

pub returns : goal.returns
returns c =
    let old : Schedule = c.args.self.now in
    let new : Schedule = record old { ready = c.take_least.new.self } in
    record {
      taken = least_taken c.args.roster.now old new c.take_least.result c.take_least.ensures.least refl;
      fewer = fewer_left c.args.roster.now old new c.take_least.result c.take_least.ensures.least;
      ordered = c.take_least.ensures.ordered;
    }
