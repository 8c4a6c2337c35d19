-- A run that went on, told of where it began.
use Rattle.std.proofs.Common.{◌≡◌, ◌∙◌, ℕ, [], Result, Ok, Err, IfOk, Some, subst, ap}
use Rattle.asp_model.specs.History.{BeginsWith, FirstShape, HistoryShape}
use Rattle.asp_model.specs.Outcome.{outcome_of}
use Rattle.asp_model.specs.Term.{Tree, locations}
use Rattle.def_journals.specs.Journals.{run_of}
use Rattle.law_journals.specs.Budgets.{most_in}
use Rattle.law_core.specs.Outcomes.{IsBudgeted}
use Rattle.law_frozen.specs.Frozen.{thawed_first}
use Rattle.law_checkpoints.specs.Saved.{IsSavedAt, frozen_at}
use Rattle.law_checkpoints.proofs.ResumeLemmas.{resumed_are_one_run}
use Rattle.core_thaws.specs.Thawed.{resumed_history}
use Rattle.asp_core.specs.declared.cores.Core.{Core}
use Rattle.asp_core.specs.Cores.{entries_of, history_of}
use Rattle.run_ends.specs.declared.ends.RunEnd.{RunEnd}
use Rattle.asp_core.specs.EndOfRun.{IsEndOfHistory}
use Rattle.run_resumes.specs.Resumed.{IsEndOfOneRun, IsResumedEnd, history_since}

-- a later history has the start of the one with which it begins
since : (h k : HistoryShape) (program : Tree) (x : FirstShape) (budget : ℕ) → BeginsWith h k
    → k ≡ resumed_history program x budget → h ≡ history_since program x budget h.entries
since h k program x budget begins is =
    let term : h.program ≡ program = begins.program ∙ ap (λ (q : HistoryShape). q.program) is in
    let first : h.first ≡ Some x = begins.first ∙ ap (λ (q : HistoryShape). q.first) is in
    let most : h.budget ≡ budget = begins.budget ∙ ap (λ (q : HistoryShape). q.budget) is in
    λ i. record { program = term i; first = first i; budget = most i; entries = h.entries }

pub core_since : {P E : Type 0} (r : Result (Core P) E) (k : HistoryShape) (program : Tree) (x : FirstShape) (budget : ℕ)
    → IfOk r (λ c. BeginsWith (history_of c) k) → k ≡ resumed_history program x budget
    → IfOk r (λ c. history_of c ≡ history_since program x budget (entries_of c))
core_since (Ok c) k program x budget begins is = since (history_of c) k program x budget begins is
core_since (Err e) k program x budget begins is = tt

pub resumed_end : {E : Type 0} (r : Result RunEnd E) (h : HistoryShape) (program : Tree) (x : FirstShape) (budget : ℕ)
    → h ≡ history_since program x budget h.entries → IfOk r (IsEndOfHistory h)
    → IfOk r (IsResumedEnd program x budget)
resumed_end (Ok q) h program x budget same end = record {
  journal = h.entries;
  run = end.run;
  lawful = subst (λ (g : HistoryShape). run_of g ≡ Some end.run) same end.lawful;
  end = end.end;
  outcome = end.outcome;
  budgeted = subst (λ (g : HistoryShape). IsBudgeted (most_in g) (outcome_of end.run.configuration)) same end.budgeted;
}
resumed_end (Err e) h program x budget same end = tt

-- where a run of the program was saved
pub one_end : {E : Type 0} (r : Result RunEnd E) (program : Tree) (x : FirstShape) (budget : ℕ) → locations program ≡ []
    → IsSavedAt program x → IfOk r (IsResumedEnd program (thawed_first (frozen_at x)) budget)
    → IfOk r (IsEndOfOneRun program x budget)
one_end (Ok q) program x budget bare saved end =
    record { end = end; one = resumed_are_one_run program x budget end.journal end.run bare saved end.lawful }
one_end (Err e) program x budget bare saved end = tt
