use Rattle.std.proofs.Common.{◌∙◌, ap}
use Rattle.asp_model.specs.Term.{has_text}
use Rattle.asp_model.specs.declared.services.Labels.{Labels}
use Rattle.replay_one.specs.declared.schedule.Schedule.{Schedule}
use Rattle.replay_one.specs.declared.schedule.Watch.TheVariants as watch
use Rattle.replay_parts.proofs.ResultLemmas.{on_ok}
use Rattle.replay_one.proofs.ScheduleLemmas.{serves_now, watch_ready, watching}
use Rattle.replay_one.proofs.schedule.Schedule.serve.Goals as goal

pub returns : goal.returns
returns c =
    let old : Schedule = c.args.self.now in
    let new : Schedule = c.watch.new.self in
    let k = c.args.number in
    let ls : Labels = c.in_ok-labels.labels in
    let w = watch.Asks ls in
    record {
      watching = λ ns n has. on_ok c.watch.result _ _ (watching ns old new n k w has) c.watch.ensures.watch;
      asks = λ ns n l has. on_ok c.watch.result _ _ (λ h. serves_now ns old new n k ls l has h ∙ ap (has_text l) c.in_ok-labels.ensures.labels) c.watch.ensures.watch;
      ready = on_ok c.watch.result _ _ (watch_ready old new k w) c.watch.ensures.watch;
    }
