-- What a run has that has redone a journal.
use Rattle.std.proofs.Common.{◌≡◌, ◌≤◌, ◌<◌, ◌+◌, ◌^◌, ◌++◌, ◌∷◌, [], ℕ, zero, suc, List, Option, Some, None, is_some, length, slice_get, refl, sym, ap, subst, ◌∙◌, arith}
use Rattle.std.specs.FinMap.{find}
use Rattle.asp_model.specs.Names.{Name, name_cmp}
use Rattle.asp_model.specs.Term.{Tree, locations}
use Rattle.asp_model.specs.Configuration.{Configuration}
use Rattle.asp_model.specs.History.{EntryShape, program_history}
use Rattle.asp_model.specs.Step.{name_at}
use Rattle.def_journals.specs.Journals.{RunShape, entered, number_of, run_of, start_of}
use Rattle.law_chases.proofs.FutureLemmas.{no_some}
use Rattle.law_steps.specs.Closed.{IsClosed}
use Rattle.law_steps.specs.Reached.{IsReached, IsThere}
use Rattle.law_steps.specs.Sound.{IsSound}
use Rattle.law_steps.proofs.ClosedLaws.{reached_are_closed}
use Rattle.law_steps.proofs.WholeLemmas.{reached_are_sound, start_is_sound}
use Rattle.law_journals.specs.Budgets.{granted_in, spent_in}
use Rattle.law_journals.specs.Numbered.{AreNumbered}
use Rattle.law_journals.proofs.BudgetLemmas.{budgets_are_kept}
use Rattle.law_journals.proofs.GrowingLemmas.{entries_go_on}
use Rattle.law_journals.proofs.JournalLemmas.{journals_reach}
use Rattle.law_journals.proofs.NumberLemmas.{histories_are_numbered, start_is_first}
use Rattle.replay_population.specs.declared.population.Population.{Population}
use Rattle.replay_population.specs.Population.{IsClosedPopulation, IsPopulation}
use Rattle.replay_population.specs.Reached.{IsReachedPopulation}
use Rattle.replay_parts.specs.Roster.{IsRoster}
use Rattle.replay_parts.proofs.RosterLemmas.{number_named}
use Rattle.journal_runs.specs.declared.runs.JournalRun.{JournalRun}
use Rattle.journal_runs.specs.Runs.{IsRunOf, grant_at}
use Rattle.journal_runs.specs.Stepping.{IsReducing}

-- the model's lists of names are read as all lists are
pub name_got : (ns : List Name) (k : ℕ) → name_at ns k ≡ slice_get ns k
name_got [] k = refl
name_got (n ∷ ns) zero = refl
name_got (n ∷ ns) (suc k) = name_got ns k

module _ (program : Tree) (budget : ℕ) (entries : List EntryShape) (s : RunShape) (lawful : run_of (program_history program budget entries) ≡ Some s) where
  pub run_reached : IsReached program s.configuration
  run_reached = journals_reach program budget entries s lawful

  pub run_sound : IsSound s.configuration
  run_sound = reached_are_sound program s.configuration run_reached

  pub run_numbered : AreNumbered s
  run_numbered = histories_are_numbered (program_history program budget entries) s (start_is_first program) lawful

  -- what is left and what is granted is a part of the budget
  pub run_within : s.left + granted_in s.out ≤ budget
  run_within =
      let kept = budgets_are_kept (program_history program budget entries) s (start_is_sound program) lawful in
      let none : spent_in (start_of program).configuration ≡ 0 = refl in
      omega (arith, kept, none)

  -- with one entry more
  pub run_goes_on : (x : EntryShape) (t : RunShape) → entered x s ≡ Some t → run_of (program_history program budget (entries ++ x ∷ [])) ≡ Some t
  run_goes_on x t e = entries_go_on (program_history program budget entries) x s lawful ∙ e

module _ (x : JournalRun) (program : Tree) (budget : ℕ) (entries : List EntryShape) (s : RunShape) (r : IsRunOf x program budget entries s) where
  pub is_reached : IsReachedPopulation x.population program s.configuration
  is_reached = record { bare = r.bare; reached = run_reached program budget entries s r.lawful; population = r.population }

  pub is_closed : IsClosedPopulation x.population s.configuration
  is_closed = record { closed = reached_are_closed program s.configuration r.bare (run_reached program budget entries s r.lawful); population = r.population }

  -- a name of the roster is one of the run
  pub named_at : (k : ℕ) (n : Name) → slice_get x.population.roster k ≡ Some n → name_at s.names k ≡ Some n
  named_at k n is = name_got s.names k ∙ ap (λ (ns : List Name). slice_get ns k) (sym r.names) ∙ is

  pub unnamed_at : (k : ℕ) → slice_get x.population.roster k ≡ None → name_at s.names k ≡ None
  unnamed_at k is = name_got s.names k ∙ ap (λ (ns : List Name). slice_get ns k) (sym r.names) ∙ is

  pub number_at : (k : ℕ) (n : Name) → slice_get x.population.roster k ≡ Some n → number_of n x.population.roster ≡ Some k
  number_at k n is = r.population.roster.numbers k n is

  -- who has a number is there
  pub number_there : (n : Name) (k : ℕ) → number_of n x.population.roster ≡ Some k → IsThere s.configuration n
  number_there n k is = (run_numbered program budget entries s r.lawful).there k n (named_at k n (number_named x.population.roster n k is))

  -- and who is there has one
  pub there_number : (n : Name) → IsThere s.configuration n → (k : ℕ) × (number_of n x.population.roster ≡ Some k)
  there_number n there =
      let k = (run_numbered program budget entries s r.lawful).numbered n there in
      (k.0, number_at k.0 n (ap (λ (ns : List Name). slice_get ns k.0) r.names ∙ sym (name_got s.names k.0) ∙ k.1))

  pub is_reducing : (number : ℕ) (n : Name) → slice_get x.population.roster number ≡ Some n → IsReducing x.population program s.configuration number n
  is_reducing number n is = record { reached = is_reached; named = number_at number n is; there = number_there }

  -- a run that is as it was but for how its activities have settled
  pub settled_run : (y : JournalRun) → IsPopulation y.population s.configuration → y.population.roster ≡ x.population.roster → y.grants ≡ x.grants → y.left ≡ x.left → IsRunOf y program budget entries s
  settled_run y pop roster grants left = record {
    bare = r.bare;
    small = r.small;
    lawful = r.lawful;
    population = pop;
    names = roster ∙ r.names;
    left = left ∙ r.left;
    grants = λ k. ap (λ g. grant_at g.items k) grants ∙ r.grants k;
    few = subst (λ (g : List (Option ℕ)). length g ≤ 2 ^ 32) (ap (λ g. g.items) (sym grants)) r.few;
  }

-- Names by numbers

pub past_name : (ns : List Name) (k : ℕ) → length ns ≤ k → slice_get ns k ≡ None
past_name [] k h = refl
past_name (n ∷ ns) zero h = absurd (omega (arith, h))
past_name (n ∷ ns) (suc k) h = past_name ns k (omega (arith, h))

pub got_name : (ns : List Name) (k : ℕ) → k < length ns → (n : Name) × (slice_get ns k ≡ Some n)
got_name [] k h = absurd (omega (arith, h))
got_name (n ∷ ns) zero h = (n, refl)
got_name (n ∷ ns) (suc k) h = got_name ns k (omega (arith, h))
