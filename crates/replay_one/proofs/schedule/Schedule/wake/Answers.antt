use Rattle.std.proofs.Common.{refl}
use Rattle.replay_one.specs.declared.schedule.Schedule.{Schedule}
use Rattle.replay_one.proofs.ScheduleLemmas.{woken_more}
use Rattle.replay_parts.proofs.ResultLemmas.{on_ok}
use Rattle.replay_one.proofs.schedule.Schedule.wake.Goals as goal

pub returns : goal.returns
returns c =
    let old : Schedule = c.args.self.now in
    let new : Schedule = record old { ready = c.add.new.self } in
    record {
      more = on_ok c.add.result _ _ (λ added. woken_more c.args.roster.now old new c.args.number added refl) c.add.ensures.added;
      ready = λ n has. on_ok c.add.result _ _ (λ added. added.here n has) c.add.ensures.added;
      ordered = on_ok c.add.result _ _ (λ added. added.ordered) c.add.ensures.added;
    }
