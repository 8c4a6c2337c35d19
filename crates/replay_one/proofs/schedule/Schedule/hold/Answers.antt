use Rattle.replay_one.specs.declared.schedule.Schedule.{Schedule}
use Rattle.replay_one.specs.declared.schedule.Watch.TheVariants as watch
use Rattle.replay_parts.proofs.ResultLemmas.{on_ok}
use Rattle.replay_one.proofs.ScheduleLemmas.{holds_now, watch_ready, watching}
use Rattle.replay_one.proofs.schedule.Schedule.hold.Goals as goal

pub returns : goal.returns
returns c =
    let old : Schedule = c.args.self.now in
    let new : Schedule = c.watch.new.self in
    let k = c.args.number in
    let w = watch.Holds c.args.to in
    record {
      watching = λ ns n has. on_ok c.watch.result _ _ (watching ns old new n k w has) c.watch.ensures.watch;
      sends = λ ns n m has target. on_ok c.watch.result _ _ (holds_now ns old new n m k c.args.to has target) c.watch.ensures.watch;
      ready = on_ok c.watch.result _ _ (watch_ready old new k w) c.watch.ensures.watch;
    }
