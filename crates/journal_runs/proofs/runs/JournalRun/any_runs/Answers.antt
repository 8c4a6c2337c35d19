use Rattle.std.proofs.Common.{◌≡◌, ◌<◌, ◌≤◌, ◌∙◌, ℕ, List, Some, true, false, length, slice_get, refl, rules, sym, ap, subst, ⊎_elim, arith}
use Rattle.std.proofs.lemmas.Bool.{cases_lt}
use Rattle.asp_model.specs.History.{EntryShape}
use Rattle.asp_model.specs.Names.{Name}
use Rattle.asp_model.specs.Status.{is_running, status_of}
use Rattle.asp_model.specs.Term.{Tree}
use Rattle.def_journals.specs.Journals.{RunShape, number_of}
use Rattle.replay_parts.proofs.RosterLemmas.{number_within, one_name}
use Rattle.journal_runs.specs.declared.runs.JournalRun.{JournalRun}
use Rattle.journal_runs.specs.Runs.{IsRunOf}
use Rattle.journal_runs.proofs.RunFacts.{got_name, is_closed, number_at, run_sound, settled_run}
use Rattle.journal_runs.proofs.StandingLemmas.{runs_none, some_runs}
use Rattle.journal_runs.proofs.runs.JournalRun.any_runs.Goals as goal

pub overflow_cast-number-end : goal.overflow_cast-number-end
overflow_cast-number-end c = let few = c.len-number-end.ensures.sound.few in omega (arith, few, c.len-number-end.ensures.len)

within : (x y : JournalRun) (k len : ℕ) → y.population.roster ≡ x.population.roster → len ≡ length x.population.roster → k < len → k < length y.population.roster
within x y k len same is lt = let l : length y.population.roster ≡ length x.population.roster = ap length same in omega (arith, l, is, lt)

pub settled_runs-requires-clause-closed : goal.settled_runs-requires-clause-closed
settled_runs-requires-clause-closed c =
    let r = c.requires.run in
    let i = c.loop-number.invariant r.0 r.1 r.2 r.3 r.4 in
    (r.3.configuration, is_closed c.loop-number.self r.0 r.1 r.2 r.3 i.0)

pub settled_runs-requires-clause-known : goal.settled_runs-requires-clause-known
settled_runs-requires-clause-known c =
    let r = c.requires.run in
    let y : JournalRun = c.loop-number.self in
    let i = c.loop-number.invariant r.0 r.1 r.2 r.3 r.4 in
    let n = got_name y.population.roster c.loop-number.number (within c.args.self.now y c.loop-number.number c.len-number-end.result i.1 c.len-number-end.ensures.len c.loop-number-test.true) in
    (n.0, number_at y r.0 r.1 r.2 r.3 i.0 c.loop-number.number n.0 n.1)

pub loop-number-init : goal.loop-number-init
loop-number-init c = λ program budget entries s r. (r, refl, λ n k is lt. absurd (omega (arith, lt)))

pub loop-number-preserved : goal.loop-number-preserved
loop-number-preserved c = λ program budget entries s r.
    let x : JournalRun = c.args.self.now in
    let y : JournalRun = c.loop-number.self in
    let z : JournalRun = record y { population = c.settled_runs.new.population } in
    let number = c.loop-number.number in
    let i = c.loop-number.invariant program budget entries s r in
    let n = got_name y.population.roster number (within x y number c.len-number-end.result i.1 c.len-number-end.ensures.len c.loop-number-test.true) in
    let has = number_at y program budget entries s i.0 number n.0 n.1 in
    let no : c.in_ok-runs.runs ≡ false = search rules in
    let rests : is_running (status_of s.configuration n.0) ≡ false = sym (c.in_ok-runs.ensures.runs s.configuration n.0 i.0.population has) ∙ no in (
      settled_run y program budget entries s i.0 z (c.in_ok-runs.ensures.same s.configuration i.0.population) c.in_ok-runs.ensures.roster refl refl,
      c.in_ok-runs.ensures.roster ∙ i.1,
      λ m k is lt. ⊎_elim
          (λ less. i.2 m k is less)
          (λ le.
          let same : k ≡ number = omega (arith, le, lt) in
          let name : n.0 ≡ m = one_name x.population.roster n.0 m number (ap (λ (ns : List Name). number_of n.0 ns) (sym i.1) ∙ has) (is ∙ ap Some same) in
          subst (λ (w : Name). is_running (status_of s.configuration w) ≡ false) name rests)
          (cases_lt k number),
    )

pub returns-then-runs : goal.returns-then-runs
returns-then-runs c = record {
  runs = λ program budget entries s r.
      let x : JournalRun = c.args.self.now in
      let y : JournalRun = c.loop-number.self in
      let number = c.loop-number.number in
      let i = c.loop-number.invariant program budget entries s r in
      let n = got_name y.population.roster number (within x y number c.len-number-end.result i.1 c.len-number-end.ensures.len c.loop-number-test.true) in
      let yes : c.in_ok-runs.runs ≡ true = search rules in
      let can : is_running (status_of s.configuration n.0) ≡ true = sym (c.in_ok-runs.ensures.runs s.configuration n.0 i.0.population (number_at y program budget entries s i.0 number n.0 n.1)) ∙ yes in
      sym (some_runs s.configuration (run_sound program budget entries s r.lawful) n.0 can);
  same = λ program budget entries s r.
      let y : JournalRun = c.loop-number.self in
      let z : JournalRun = record y { population = c.settled_runs.new.population } in
      let i = c.loop-number.invariant program budget entries s r in
      settled_run y program budget entries s i.0 z (c.in_ok-runs.ensures.same s.configuration i.0.population) c.in_ok-runs.ensures.roster refl refl;
}

pub returns : goal.returns
returns c = record {
  runs = λ program budget entries s r.
      let x : JournalRun = c.args.self.now in
      let i = c.loop-number.invariant program budget entries s r in
      sym (runs_none x program budget entries s r (λ n k is. i.2 n k is (let w = number_within x.population.roster n k is in omega (arith, w, c.len-number-end.ensures.len, c.loop-number-test.false))));
  same = λ program budget entries s r. (c.loop-number.invariant program budget entries s r).0;
}
