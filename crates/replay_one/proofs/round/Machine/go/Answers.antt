use Rattle.std.proofs.Common.{◌≤◌, arith}
use Rattle.replay_parts.specs.declared.bounds.Bounds.{Bounds}
use Rattle.replay_one.specs.declared.round.Machine.{Machine}
use Rattle.replay_population.specs.declared.population.Population.{Population}
use Rattle.replay_one.proofs.RunLemmas.{known_after, ran_on, told_run}
use Rattle.replay_one.proofs.round.Machine.go.Goals as goal

pub returns-clause-gone : goal.returns-clause-gone
returns-clause-gone g c = λ program k n has h.
    let b : Bounds = c.args.bounds.now in
    let m : Machine = c.args.self.now in
    let p : Population = c.take_passed-known.new.self in
    let q : Population = c.run.new.self in
    let taken = c.in_ok-taken.taken in
    let r = ran_on b program k n c.args.number m p q c.at_once-alone.result c.count-count.result taken h has (c.take_passed-known.ensures.forgotten n has) (c.in_ok-taken.ensures.runs k n) (c.count-count.ensures.count m.population.roster n) c.in_ok-taken.ensures.roster c.in_ok-taken.ensures.passed (c.take_passed-known.ensures.none n has) in
    record {
      then = r.then;
      leads = r.leads;
      within = omega (arith, r.within, c.at_once-alone.ensures.within);
      has = r.has;
      but = r.but;
      passed = known_after b m.population k r.then n c.take_passed-known.result taken c.passed_after-passed.result h.run.passed (c.take_passed-known.ensures.told n has) r.leads c.passed_after-passed.ensures.first c.passed_after-passed.ensures.later;
    }

pub returns-clause-told : goal.returns-clause-told
returns-clause-told g c = λ program k n xs has h t.
    let b : Bounds = c.args.bounds.now in
    let m : Machine = c.args.self.now in
    let p : Population = c.take_passed-known.new.self in
    let q : Population = c.run.new.self in
    let taken = c.in_ok-taken.taken in
    let r = ran_on b program k n c.args.number m p q c.at_once-alone.result c.count-count.result taken h has (c.take_passed-known.ensures.forgotten n has) (c.in_ok-taken.ensures.runs k n) (c.count-count.ensures.count m.population.roster n) c.in_ok-taken.ensures.roster c.in_ok-taken.ensures.passed (c.take_passed-known.ensures.none n has) in
    told_run (g.N.Notes.tells c.args.notes.now) xs b k c.at_once-alone.result taken c.at_once-alone.ensures.lines r.within r.lines t
