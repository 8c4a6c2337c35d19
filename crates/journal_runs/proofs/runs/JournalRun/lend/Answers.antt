use Rattle.std.proofs.Common.{◌≡◌, ◌<◌, ◌-◌, ◌∙◌, ℕ, true, false, min, refl, rules, sym, ap, subst, ⊎_elim, arith}
use Rattle.asp_model.specs.History.{Lent}
use Rattle.asp_model.specs.Status.{is_running, status_of}
use Rattle.def_journals.specs.Journals.{granted}
use Rattle.journal_runs.specs.Grants.{IsFree}
use Rattle.journal_runs.proofs.EntryLemmas.{lend_redone, out_lent, refused, resting_lent, spent_lent, unnamed_lent}
use Rattle.journal_runs.proofs.RunFacts.{is_closed, number_at}
use Rattle.journal_runs.proofs.runs.JournalRun.lend.Goals as goal

pub settled_runs-requires-clause-closed : goal.settled_runs-requires-clause-closed
settled_runs-requires-clause-closed c = let r = c.requires.run in (r.3.configuration, is_closed c.args.self.now r.0 r.1 r.2 r.3 r.4)

pub settled_runs-requires-clause-known : goal.settled_runs-requires-clause-known
settled_runs-requires-clause-known c =
    let r = c.requires.run in
    let yes : c.is_in-free.result ≡ true = search rules in
    let f = subst (IsFree c.args.self.now c.args.number) yes c.is_in-free.ensures.free in
    (f.0, number_at c.args.self.now r.0 r.1 r.2 r.3 r.4 c.args.number f.0 f.1)

pub returns-then-self-eq0 : goal.returns-then-self-eq0
returns-then-self-eq0 c = record {
  lent = λ program budget entries s r. refused c.args.self.now c.args.self.now program budget entries s r (Lent c.args.number) (spent_lent c.args.self.now c.args.self.now program budget entries s r c.args.number (search rules));
}

pub returns-then-not-free : goal.returns-then-not-free
returns-then-not-free c = record {
  lent = λ program budget entries s r.
      let x = c.args.self.now in
      let no : c.is_in-free.result ≡ false = search rules in
      let f = subst (IsFree x c.args.number) no c.is_in-free.ensures.free in
      refused x x program budget entries s r (Lent c.args.number) (⊎_elim (λ none. unnamed_lent x x program budget entries s r c.args.number none) (λ out. out_lent x x program budget entries s r c.args.number out.0 out.1) f);
}

pub returns-then-not-runs : goal.returns-then-not-runs
returns-then-not-runs c = record {
  lent = λ program budget entries s r.
      let x = c.args.self.now in
      let yes : c.is_in-free.result ≡ true = search rules in
      let f = subst (IsFree x c.args.number) yes c.is_in-free.ensures.free in
      let no : c.in_ok-runs.runs ≡ false = search rules in
      let rests : is_running (status_of s.configuration f.0) ≡ false = sym (c.in_ok-runs.ensures.runs s.configuration f.0 r.population (number_at x program budget entries s r c.args.number f.0 f.1)) ∙ no in
      refused x (record x { population = c.settled_runs.new.population }) program budget entries s r (Lent c.args.number) (resting_lent x x program budget entries s r c.args.number f.0 f.1 rests);
}

pub returns : goal.returns
returns c = record {
  lent = λ program budget entries s r.
      let x = c.args.self.now in
      let yes : c.is_in-free.result ≡ true = search rules in
      let f = subst (IsFree x c.args.number) yes c.is_in-free.ensures.free in
      let runs : c.in_ok-runs.runs ≡ true = search rules in
      let can : is_running (status_of s.configuration f.0) ≡ true = sym (c.in_ok-runs.ensures.runs s.configuration f.0 r.population (number_at x program budget entries s r c.args.number f.0 f.1)) ∙ runs in
      let same : x.left ≡ s.left = r.left in
      let grant : c.min-grant.result ≡ granted s = omega (arith, c.min-grant.ensures, same) in
      lend_redone x (record { population = c.settled_runs.new.population; grants = c.set_grant.new.grants; left = x.left - c.min-grant.result }) program budget entries s r c.args.number f.0 f.1 f.2 can (omega (arith, c.if-self-eq0.false))
      (c.in_ok-runs.ensures.same s.configuration r.population) c.in_ok-runs.ensures.roster c.min-grant.result grant c.in_ok-set_grant.ensures.granted refl;
}
