use Rattle.std.proofs.Common.{◌≢◌, ◌∙◌, OnOk, Ok, Err, List, None, Some}
use Rattle.asp_model.specs.Names.{FutureShape, Name}
use Rattle.asp_model.specs.Shapes.{future_shape}
use Rattle.def_journals.specs.Journals.{number_of}
use Rattle.replay_one.specs.declared.schedule.Schedule.{Schedule}
use Rattle.replay_one.specs.Schedule.{IsMoreReady, noted_at, seen}
use Rattle.replay_one.proofs.ScheduleLemmas.{lifted, taken_out}
use Rattle.replay_one.proofs.schedule.Schedule.wake_noted.Goals as goal

no_future : (f : FutureShape) → None ≢ Some f
no_future f e = cc

pub returns-in-Some-clause-more : goal.returns-in-Some-clause-more
returns-in-Some-clause-more c =
    let ns : List Name = c.args.roster.now in
    let old : Schedule = c.args.self.now in
    let mid : Schedule = record old { awaiting = c.remove.new.self } in
    let new : Schedule = c.wake_all.new.self in
    let f = future_shape c.args.future.now in
    elim c.wake_all.result as (λ r. OnOk r (IsMoreReady (seen ns mid) None (seen ns new)) → OnOk r (IsMoreReady (seen ns old) (Some f) (seen ns new))) [
      | Ok x ↦ λ h. record { ready = h.ready; noted = λ g m d r. h.noted g m (no_future g) (lifted (number_of m ns) (noted_at old.awaiting.entries g) (noted_at mid.awaiting.entries g) (λ k e. taken_out old.awaiting mid.awaiting c.args.future.now g k c.in-Some.ensures.updates d ∙ e) r); asks = h.asks; sends = h.sends }
      | Err e ↦ λ h. h
    ] c.wake_all.ensures.more
