use Rattle.std.proofs.Common.{◌≡◌, ◌≤◌, ◌<◌, ◌∙◌, ℕ, List, Option, length, slice_get, Some, None, rules, refl, sym, ap, inl, inr, arith}
use Rattle.journal_runs.specs.Runs.{grant_at}
use Rattle.journal_runs.proofs.RunFacts.{got_name, past_name}
use Rattle.journal_runs.proofs.runs.JournalRun.is_in.Goals as goal

pub returns-then-number-len : goal.returns-then-number-len
returns-then-number-len c = record { free = inl (past_name c.args.self.now.population.roster c.args.number (search rules)) }

pub returns-in-Some : goal.returns-in-Some
returns-in-Some c = record { free = inr (_, sym (c.grant_of.ensures.grant ∙ ap (λ (g : List (Option ℕ)). grant_at g c.args.number) c.deref.ensures.value) ∙ c.in-Some.is) }

pub returns-in-None : goal.returns-in-None
returns-in-None c =
    let n = got_name c.args.self.now.population.roster c.args.number (search rules) in
    record { free = (n.0, n.1, sym (c.grant_of.ensures.grant ∙ ap (λ (g : List (Option ℕ)). grant_at g c.args.number) c.deref.ensures.value) ∙ c.in-None.is) }
