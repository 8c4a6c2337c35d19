use Rattle.std.proofs.Common.{◌≡◌, ◌≤◌, ◌^◌, ℕ, List, Option, Some, None, IfOk, length, sym, ap, subst}
use Rattle.journal_runs.specs.declared.standing.Standing.TheVariants as standing
use Rattle.journal_runs.specs.Grants.{IsLeastOut}
use Rattle.journal_runs.proofs.StandingLemmas.{stands_out}
use Rattle.journal_runs.proofs.runs.JournalRun.standing.Goals as goal

pub first_out-requires : goal.first_out-requires
first_out-requires c =
    let r = c.requires.run in
    record { few = subst (λ (g : List (Option ℕ)). length g ≤ 2 ^ 32) (sym c.deref.ensures.value) r.4.few }

pub at_home-requires-clause-home : goal.at_home-requires-clause-home
at_home-requires-clause-home c =
    subst (λ (g : List (Option ℕ)). IsLeastOut g None) c.deref.ensures.value (subst (IsLeastOut c.deref.result.now) c.in-None.is c.first_out.ensures.first)

pub returns-in-Some : goal.returns-in-Some
returns-in-Some c = record {
  standing = λ program budget entries s r. stands_out c.args.self.now program budget entries s r c.in-Some.number (subst (λ (g : List (Option ℕ)). IsLeastOut g (Some c.in-Some.number)) c.deref.ensures.value (subst (IsLeastOut c.deref.result.now) c.in-Some.is c.first_out.ensures.first));
  same = λ program budget entries s r. r;
}
