use Rattle.std.proofs.Common.{◌≡◌, ◌<◌, ◌≤◌, ◌+◌, ◌-◌, ◌++◌, ◌∙◌, ℕ, List, Option, Some, None, Bool, true, false, refl, rules, sym, ap, subst, arith}
use Rattle.asp_model.specs.Configuration.{Configuration}
use Rattle.asp_model.specs.History.{Committed, EntryShape}
use Rattle.asp_model.specs.Names.{Name}
use Rattle.asp_model.specs.Term.{Tree}
use Rattle.def_journals.specs.Journals.{RunShape, entered, newcomers, reduced}
use Rattle.replay_population.specs.declared.population.Population.{Population}
use Rattle.journal_runs.specs.declared.runs.JournalRun.{JournalRun}
use Rattle.journal_runs.specs.Grants.{IsGranted}
use Rattle.journal_runs.specs.Reducing.{IsReduced}
use Rattle.journal_runs.specs.Runs.{IsRedone, IsRunOf, grant_at}
use Rattle.journal_runs.proofs.EntryLemmas.{commit_fits, commit_redone, in_commit, long_commit, refused, stuck_commit, unnamed_commit}
use Rattle.journal_runs.proofs.ReduceLemmas.{reduced_none, reduced_some}
use Rattle.journal_runs.proofs.RunFacts.{got_name, is_reducing, past_name}
use Rattle.journal_runs.proofs.runs.JournalRun.commit.Goals as goal

pub reduce-requires : goal.reduce-requires
reduce-requires c =
    let r = c.requires.run in
    let n = got_name c.args.self.now.population.roster c.args.number (search rules) in
    record { reducing = (r.0, r.3.configuration, n.0, is_reducing c.args.self.now r.0 r.1 r.2 r.3 r.4 c.args.number n.0 n.1) }

pub returns-then-number-len : goal.returns-then-number-len
returns-then-number-len c = record {
  committed = λ program budget entries s r.
      let x = c.args.self.now in
      refused x x program budget entries s r (Committed c.args.number c.args.reductions) (unnamed_commit x x program budget entries s r c.args.number c.args.reductions (past_name x.population.roster c.args.number (search rules)));
}

pub returns-in_default : goal.returns-in_default
returns-in_default c = record {
  committed = λ program budget entries s r.
      let x = c.args.self.now in
      refused x x program budget entries s r (Committed c.args.number c.args.reductions) (in_commit x x program budget entries s r c.args.number c.args.reductions (sym (c.grant_of.ensures.grant ∙ ap (λ (g : List (Option ℕ)). grant_at g c.args.number) c.deref.ensures.value) ∙ c.in_default.is));
}

pub returns-then-reductions-grant : goal.returns-then-reductions-grant
returns-then-reductions-grant c = record {
  committed = λ program budget entries s r.
      let x = c.args.self.now in
      let n = got_name x.population.roster c.args.number (search rules) in
      refused x x program budget entries s r (Committed c.args.number c.args.reductions) (long_commit x x program budget entries s r c.args.number c.args.reductions n.0 c.in-Some.grant n.1 (sym (c.grant_of.ensures.grant ∙ ap (λ (g : List (Option ℕ)). grant_at g c.args.number) c.deref.ensures.value) ∙ c.in-Some.is) (search rules));
}

pub returns-then-not-reduced : goal.returns-then-not-reduced
returns-then-not-reduced c = record {
  committed = λ program budget entries s r.
      let x = c.args.self.now in
      let n = got_name x.population.roster c.args.number (search rules) in
      let no : c.in_ok-reduced.reduced ≡ false = search rules in
      let none = reduced_none c.reduce.new.population program x.population.roster s.configuration (reduced c.args.reductions n.0 s.configuration) (subst (IsReduced c.reduce.new.population program x.population.roster s.configuration (reduced c.args.reductions n.0 s.configuration)) no (c.in_ok-reduced.ensures.reduced program s.configuration n.0 (is_reducing x program budget entries s r c.args.number n.0 n.1))) in
      refused x (record { population = c.reduce.new.population; grants = x.grants; left = x.left }) program budget entries s r (Committed c.args.number c.args.reductions) (stuck_commit x x program budget entries s r c.args.number c.args.reductions n.0 c.in-Some.grant n.1 (sym (c.grant_of.ensures.grant ∙ ap (λ (g : List (Option ℕ)). grant_at g c.args.number) c.deref.ensures.value) ∙ c.in-Some.is) (search rules) none);
}

pub returns : goal.returns
returns c = record {
  committed = λ program budget entries s r.
      let x = c.args.self.now in
      let n = got_name x.population.roster c.args.number (search rules) in
      let yes : c.in_ok-reduced.reduced ≡ true = search rules in
      let d = reduced_some c.reduce.new.population program x.population.roster s.configuration (reduced c.args.reductions n.0 s.configuration) (subst (IsReduced c.reduce.new.population program x.population.roster s.configuration (reduced c.args.reductions n.0 s.configuration)) yes (c.in_ok-reduced.ensures.reduced program s.configuration n.0 (is_reducing x program budget entries s r c.args.number n.0 n.1))) in
      commit_redone x (record { population = c.reduce.new.population; grants = c.set_grant.new.grants; left = x.left + (c.in-Some.grant - c.args.reductions) }) program budget entries s r c.args.number c.args.reductions n.0 c.in-Some.grant d.0 n.1 (sym (c.grant_of.ensures.grant ∙ ap (λ (g : List (Option ℕ)). grant_at g c.args.number) c.deref.ensures.value) ∙ c.in-Some.is) (search rules) d.1 d.2.population d.3 c.in_ok-set_grant.ensures.granted refl;
}

pub overflow_add-self : goal.overflow_add-self
overflow_add-self c =
    let r = c.requires.run in
    let fits = commit_fits c.args.self.now c.args.self.now r.0 r.1 r.2 r.3 r.4 c.args.number c.in-Some.grant (sym (c.grant_of.ensures.grant ∙ ap (λ (g : List (Option ℕ)). grant_at g c.args.number) c.deref.ensures.value) ∙ c.in-Some.is) in
    omega (arith, fits)
