use Rattle.std.proofs.Common.{◌≡◌, ◌++◌, List, subst, arith}
use Rattle.law_schedules.proofs.LeastLemmas.{none_is_ready}
use Rattle.asp_model.specs.Names.{Name}
use Rattle.asp_model.specs.Configuration.{Configuration}
use Rattle.asp_model.specs.Term.{Tree}
use Rattle.replay_parts.specs.declared.bounds.Bounds.{Bounds}
use Rattle.replay_population.specs.declared.population.Population.{Population}
use Rattle.replay_one.specs.declared.round.Machine.{Machine}
use Rattle.replay_one.specs.declared.schedule.Schedule.{Schedule}
use Rattle.replay_parts.specs.Bounds.{count_within, lists_within}
use Rattle.replay_one.specs.Round.{IsRunAt, IsRunLess, IsTried, seen_in}
use Rattle.replay_one.specs.Schedule.{Seen, noted_in, ready_in, seen}
use Rattle.replay_parts.proofs.RosterLemmas.{number_within}
use Rattle.replay_one.proofs.RunLemmas.{leads_nowhere, leads_on, told_next, unknown_round, woken_run}
use Rattle.replay_one.specs.Told.{AreToldIf, notes_by}
use Rattle.replay_one.proofs.round.Machine.round.Goals as goal

-- the machine with another schedule
abbrev begun : Machine → Schedule → Machine
begun m s = record m { schedule = s }

pub returns-in-Nobody-clause-round : goal.returns-in-Nobody-clause-round
returns-in-Nobody-clause-round g c = λ program k h.
    let b : Bounds = c.args.bounds.now in
    let s : Seen = seen_in c.args.self.now in
    (none_is_ready program (lists_within b) (count_within b) k (ready_in s) (noted_in s) h.reached h.scheduled (λ m there. c.in-Nobody.ensures.taken m), h.population)

pub returns-in-Unknown-clause-round : goal.returns-in-Unknown-clause-round
returns-in-Unknown-clause-round g c = λ program k h.
    let m : Machine = c.args.self.now in
    unknown_round c.args.bounds.now program k m.population (seen_in m) (seen m.population.roster c.take_least.new.self) h c.in-Unknown.ensures.taken

pub go-requires-clause-running : goal.go-requires-clause-running
go-requires-clause-running g c =
    let x = c.requires.running in
    let one = c.in-One.ensures.taken in
    (one.0, one.1, x.0, x.1, record { before = seen_in c.args.self.now; run = x.2; taken = one.2 })

pub wake-requires : goal.wake-requires
wake-requires g c =
    let x = c.requires.running in
    let program : Tree = x.0 in
    let k : Configuration = x.1 in
    let h = x.2 in
    let b : Bounds = c.args.bounds.now in
    let m : Machine = c.args.self.now in
    let one = c.in-One.ensures.taken in
    let n : Name = one.0 in
    let taken = c.in_ok-gone.gone.taken in
    let less : IsRunLess b (begun m c.take_least.new.self) n program k = record { before = seen_in m; run = h; taken = one.2 } in
    let r = c.in_ok-gone.ensures.gone program k n one.1 less in
    record { known = number_within c.go.new.self.population.roster n c.in-One.number r.has }

pub returns-then-taken-most-clause-round : goal.returns-then-taken-most-clause-round
returns-then-taken-most-clause-round g c = λ program k h.
    let b : Bounds = c.args.bounds.now in
    let m : Machine = c.args.self.now in
    let one = c.in-One.ensures.taken in
    let n : Name = one.0 in
    let taken = c.in_ok-gone.gone.taken in
    let less : IsRunLess b (begun m c.take_least.new.self) n program k = record { before = seen_in m; run = h; taken = one.2 } in
    let r = c.in_ok-gone.ensures.gone program k n one.1 less in
    let q : Population = c.go.new.self.population in
    record {
      some = omega (arith, c.requires.some, c.if-taken-most.true);
      within = r.within;
      then = r.then;
      leads = r.leads;
      run = woken_run b program r.then n q r.but.before (seen_in c.go.new.self) (seen q.roster c.wake.new.self) r.but.run r.but.taken c.in_ok-wake.ensures.more (c.in_ok-wake.ensures.ready n r.has);
    }

pub try_step-requires-clause-running : goal.try_step-requires-clause-running
try_step-requires-clause-running g c =
    let x = c.requires.running in
    let program : Tree = x.0 in
    let k : Configuration = x.1 in
    let h = x.2 in
    let b : Bounds = c.args.bounds.now in
    let m : Machine = c.args.self.now in
    let one = c.in-One.ensures.taken in
    let n : Name = one.0 in
    let taken = c.in_ok-gone.gone.taken in
    let less : IsRunLess b (begun m c.take_least.new.self) n program k = record { before = seen_in m; run = h; taken = one.2 } in
    let r = c.in_ok-gone.ensures.gone program k n one.1 less in
    (n, r.has, program, r.then, r.but)

pub try_step-requires-clause-passed : goal.try_step-requires-clause-passed
try_step-requires-clause-passed g c =
    let x = c.requires.running in
    let program : Tree = x.0 in
    let k : Configuration = x.1 in
    let h = x.2 in
    let b : Bounds = c.args.bounds.now in
    let m : Machine = c.args.self.now in
    let one = c.in-One.ensures.taken in
    let n : Name = one.0 in
    let taken = c.in_ok-gone.gone.taken in
    let less : IsRunLess b (begun m c.take_least.new.self) n program k = record { before = seen_in m; run = h; taken = one.2 } in
    let r = c.in_ok-gone.ensures.gone program k n one.1 less in
    (n, r.has, r.then, r.but.run.population, r.passed)

pub overflow_add-result : goal.overflow_add-result
overflow_add-result g c =
    let x = c.requires.running in
    let program : Tree = x.0 in
    let k : Configuration = x.1 in
    let h = x.2 in
    let b : Bounds = c.args.bounds.now in
    let m : Machine = c.args.self.now in
    let one = c.in-One.ensures.taken in
    let n : Name = one.0 in
    let taken = c.in_ok-gone.gone.taken in
    let less : IsRunLess b (begun m c.take_least.new.self) n program k = record { before = seen_in m; run = h; taken = one.2 } in
    let r = c.in_ok-gone.ensures.gone program k n one.1 less in
    omega (arith, r.within, c.if-taken-most.false, c.ranges.most.fits)

pub returns-then-branch-clause-round : goal.returns-then-branch-clause-round
returns-then-branch-clause-round g c = λ program k h.
    let b : Bounds = c.args.bounds.now in
    let m : Machine = c.args.self.now in
    let one = c.in-One.ensures.taken in
    let n : Name = one.0 in
    let taken = c.in_ok-gone.gone.taken in
    let less : IsRunLess b (begun m c.take_least.new.self) n program k = record { before = seen_in m; run = h; taken = one.2 } in
    let r = c.in_ok-gone.ensures.gone program k n one.1 less in
    let step = subst (λ t. IsTried b program r.then t c.try_step.new.self) c.if-branch.true (c.in_ok-try_step.ensures.tried program r.then n r.has r.but) in
    record {
      some = omega arith;
      within = omega (arith, r.within, c.if-taken-most.false);
      then = step.0;
      leads = leads_on b k r.then step.0 taken r.leads step.1;
      run = step.2;
    }

pub returns-then-taken-gt0-clause-round : goal.returns-then-taken-gt0-clause-round
returns-then-taken-gt0-clause-round g c = λ program k h.
    let b : Bounds = c.args.bounds.now in
    let m : Machine = c.args.self.now in
    let one = c.in-One.ensures.taken in
    let n : Name = one.0 in
    let taken = c.in_ok-gone.gone.taken in
    let less : IsRunLess b (begun m c.take_least.new.self) n program k = record { before = seen_in m; run = h; taken = one.2 } in
    let r = c.in_ok-gone.ensures.gone program k n one.1 less in
    let rests = subst (λ t. IsTried b program r.then t c.try_step.new.self) c.if-branch.false (c.in_ok-try_step.ensures.tried program r.then n r.has r.but) in
    record { some = c.if-taken-gt0.true; within = r.within; then = r.then; leads = r.leads; run = rests }

pub returns-clause-round : goal.returns-clause-round
returns-clause-round g c = λ program k h.
    let b : Bounds = c.args.bounds.now in
    let m : Machine = c.args.self.now in
    let one = c.in-One.ensures.taken in
    let n : Name = one.0 in
    let taken = c.in_ok-gone.gone.taken in
    let less : IsRunLess b (begun m c.take_least.new.self) n program k = record { before = seen_in m; run = h; taken = one.2 } in
    let r = c.in_ok-gone.ensures.gone program k n one.1 less in
    let rests = subst (λ t. IsTried b program r.then t c.try_step.new.self) c.if-branch.false (c.in_ok-try_step.ensures.tried program r.then n r.has r.but) in
    let none : taken ≡ 0 = omega (arith, c.if-taken-gt0.false) in
    subst (IsRunAt b c.try_step.new.self program) (leads_nowhere b k r.then taken r.leads none) rests

pub returns-then-taken-most-clause-told : goal.returns-then-taken-most-clause-told
returns-then-taken-most-clause-told g c = λ program k xs h t.
    let b : Bounds = c.args.bounds.now in
    let m : Machine = c.args.self.now in
    let one = c.in-One.ensures.taken in
    let n : Name = one.0 in
    let taken = c.in_ok-gone.gone.taken in
    let less : IsRunLess b (begun m c.take_least.new.self) n program k = record { before = seen_in m; run = h; taken = one.2 } in
    let r = c.in_ok-gone.ensures.gone program k n one.1 less in
    c.in_ok-gone.ensures.told program k n xs one.1 less t

pub returns-then-branch-clause-told : goal.returns-then-branch-clause-told
returns-then-branch-clause-told g c = λ program k xs h t.
    let b : Bounds = c.args.bounds.now in
    let m : Machine = c.args.self.now in
    let one = c.in-One.ensures.taken in
    let n : Name = one.0 in
    let taken = c.in_ok-gone.gone.taken in
    let less : IsRunLess b (begun m c.take_least.new.self) n program k = record { before = seen_in m; run = h; taken = one.2 } in
    let r = c.in_ok-gone.ensures.gone program k n one.1 less in
    let ys = xs ++ notes_by b taken k in
    let before = c.in_ok-gone.ensures.told program k n xs one.1 less t in
    let step = subst (AreToldIf (g.N.Notes.tells c.try_step.new.notes) ys b r.then) c.if-branch.true (c.in_ok-try_step.ensures.told program r.then n ys r.has r.but before) in
    told_next (g.N.Notes.tells c.try_step.new.notes) xs b k r.then taken r.leads step

pub returns-then-taken-gt0-clause-told : goal.returns-then-taken-gt0-clause-told
returns-then-taken-gt0-clause-told g c = λ program k xs h t.
    let b : Bounds = c.args.bounds.now in
    let m : Machine = c.args.self.now in
    let one = c.in-One.ensures.taken in
    let n : Name = one.0 in
    let taken = c.in_ok-gone.gone.taken in
    let less : IsRunLess b (begun m c.take_least.new.self) n program k = record { before = seen_in m; run = h; taken = one.2 } in
    let r = c.in_ok-gone.ensures.gone program k n one.1 less in
    let ys = xs ++ notes_by b taken k in
    let before = c.in_ok-gone.ensures.told program k n xs one.1 less t in
    subst (AreToldIf (g.N.Notes.tells c.try_step.new.notes) ys b r.then) c.if-branch.false (c.in_ok-try_step.ensures.told program r.then n ys r.has r.but before)

pub returns-clause-told : goal.returns-clause-told
returns-clause-told g c = λ program k xs h t.
    let b : Bounds = c.args.bounds.now in
    let m : Machine = c.args.self.now in
    let one = c.in-One.ensures.taken in
    let n : Name = one.0 in
    let taken = c.in_ok-gone.gone.taken in
    let less : IsRunLess b (begun m c.take_least.new.self) n program k = record { before = seen_in m; run = h; taken = one.2 } in
    let r = c.in_ok-gone.ensures.gone program k n one.1 less in
    subst (AreToldIf (g.N.Notes.tells c.try_step.new.notes) xs b r.then) c.if-branch.false (c.in_ok-try_step.ensures.told program r.then n xs r.has r.but t)
