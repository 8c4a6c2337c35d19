use Rattle.std.proofs.Common.{◌≡◌, true, Some, None, List}
use Rattle.asp_model.specs.Names.{Name}
use Rattle.def_journals.specs.Journals.{number_of}
use Rattle.replay_one.specs.declared.schedule.Schedule.{Schedule}
use Rattle.replay_one.specs.declared.schedule.Watch.TheVariants as watch
use Rattle.replay_one.specs.Schedule.{IsMoreReady, ready_in, seen}
use Rattle.replay_one.proofs.ScheduleLemmas.{handed_by, woken_watch}
use Rattle.replay_one.proofs.schedule.Schedule.wake_server.Goals as goal

pub returns-clause-more : goal.returns-clause-more
returns-clause-more c =
    let ns : List Name = c.args.roster.now in
    let old : Schedule = record c.args.self.now { target = c.args.number } in
    let mid : Schedule = c.watch.new.self in
    let new : Schedule = c.wake.new.self in
    handed_by c.wake.result (IsMoreReady (seen ns mid) None (seen ns new)) (λ (n : Name). number_of n ns ≡ Some c.args.number) (λ n. ready_in (seen ns new) n ≡ true) _
    (λ more woken. woken_watch ns old mid new c.args.number watch.Nothing c.in_ok-watch.ensures.watch more woken) c.wake.ensures.more c.wake.ensures.ready
