-- What is left of a core whose verdict is there.
use Rattle.std.specs.Prelude.{◌||◌, string_bytes}
use Rattle.std.proofs.Common.{◌+◌, arith, ◌≡◌, ℕ, Bool, true, false, List, [], Some, None, is_some, map, Result, Ok, Err, IfOk, refl, sym, ap, subst, ◌∙◌}
use Rattle.std.proofs.lemmas.Bool.{true≢false}
use Rattle.std.specs.List.{concat}
use Rattle.std.specs.declared.alloc.Global.{Global}
use Rattle.std.specs.declared.string.String.{String}
use Rattle.asp_model.specs.History.{BeginsWith, FirstShape, HistoryShape, program_history}
use Rattle.asp_model.specs.Marked.{Marked, plain}
use Rattle.asp_model.specs.Outcome.{OutcomeShape, outcome_of}
use Rattle.asp_model.specs.Shapes.{outcome_shape}
use Rattle.asp_model.specs.Status.{Blocked, Budget, End, VerdictShape}
use Rattle.asp_model.specs.Status as status
use Rattle.asp_model.specs.Term.{Tree, locations}
use Rattle.def_journals.specs.Journals.{RunShape, run_of, start_of}
use Rattle.def_journals.specs.Owed.{goes_on, is_any, next_owed}
use Rattle.def_paths.specs.Outcomes.{whole_outcome_of}
use Rattle.law_core.specs.Outcomes.{IsBudgeted}
use Rattle.law_core.proofs.OutcomeLemmas.{journals_end, verdicts_spend}
use Rattle.law_journals.specs.Budgets.{most_in, spent_in}
use Rattle.law_steps.proofs.NameLemmas.{is_there}
use Rattle.law_chases.proofs.FutureLemmas.{no_some}
use Rattle.law_frozen.specs.Frozen.{frozen_of}
use Rattle.law_traces.specs.Standings.{Ended, standing_of}
use Rattle.law_traces.proofs.StandingLemmas.{verdicts_are_ends}
use Rattle.checkpoint_text.specs.Lines.{checkpoint_text}
use Rattle.checkpoint_runs.specs.Saved.{program_text}
use Rattle.asp_core.specs.declared.cores.Core.{Core}
use Rattle.asp_core.specs.Calls.{verdict_of}
use Rattle.asp_core.specs.Cores.{history_of}
use Rattle.asp_core.specs.Over.{IsOver}
use Rattle.run_ends.specs.declared.ends.RunEnd.{RunEnd}
use Rattle.run_ends.specs.Ends.{IsEndOf}
use Rattle.run_resumes.specs.Resumed.{history_since}
use Rattle.run_saves.specs.declared.saved.Saved.{Saved}
use Rattle.run_saves.specs.declared.saved.Saved.TheVariants as saved
use Rattle.run_saves.specs.Saved.{IsEndedAt, IsLeftAt, IsLeftSince, IsSavedRun, IsStoppedAt, is_budget}

-- the history of a later core of the same program
pub later_program : (later earlier : HistoryShape) (program : Tree) (budget : ℕ) → BeginsWith later earlier
    → earlier ≡ program_history program budget [] → later ≡ program_history program budget later.entries
later_program later earlier program budget h e =
    let p : later.program ≡ program = h.program ∙ ap (λ (x : HistoryShape). x.program) e in
    let f : later.first ≡ None = h.first ∙ ap (λ (x : HistoryShape). x.first) e in
    let b : later.budget ≡ budget = h.budget ∙ ap (λ (x : HistoryShape). x.budget) e in
    λ i. record { program = p i; first = f i; budget = b i; entries = later.entries }

-- a verdict that is told is that of the configuration
told_own : (b : Bool) (w v : VerdictShape) → elim b [ true ↦ None | false ↦ Some w ] ≡ Some v → elim b [ true ↦ None | false ↦ Some w ] ≡ Some w
told_own true w v h = no_some h
told_own false w v h = refl

budget_of : (v : VerdictShape) → is_budget (Some v) ≡ true → v ≡ Budget
budget_of End h = absurd (true≢false (sym h))
budget_of Blocked h = absurd (true≢false (sym h))
budget_of Budget h = refl

module _ {P : Type 0} (x : Core P) (over : IsOver x) where
  pub told : verdict_of x over.run ≡ Some (status.verdict_of over.run.configuration)
  told =
      let v = is_there (verdict_of x over.run) (over.told over.run over.is) in
      told_own (is_any over.run.out || (is_some (next_owed over.run x.edges.holders.holders x.edges.holders.answers) || goes_on over.run)) (status.verdict_of over.run.configuration) v.0 v.1

  ended : standing_of over.run ≡ Ended (status.verdict_of over.run.configuration)
  ended = verdicts_are_ends over.run x.edges.holders.holders x.edges.holders.answers (status.verdict_of over.run.configuration) told

  spends : IsBudgeted (most_in (history_of x)) (outcome_of over.run.configuration)
  spends =
      (verdicts_spend (history_of x) over.run x.edges.holders.holders x.edges.holders.answers
      (status.verdict_of over.run.configuration) over.is.stand.core.first.sound over.is.stand.core.run told).1

  pub end_is : (r : RunEnd) → IsEndOf r (whole_outcome_of over.run.configuration)
      → outcome_shape r.outcome ≡ outcome_of over.run.configuration → is_budget (verdict_of x over.run) ≡ false
      → IsEndedAt (history_of x) r
  end_is r end outcome not = (
    record {
      run = over.run;
      lawful = over.is.stand.core.run;
      end = end;
      outcome = outcome;
      budgeted = spends;
    },
    sym (ap is_budget told) ∙ not,
  )

  pub stopped_is : (program : Marked) (pieces : List (String Global)) → is_budget (verdict_of x over.run) ≡ true
      → concat (map string_bytes pieces)
      ≡ checkpoint_text (program_text program) (frozen_of over.run.names over.run.configuration)
      → IsStoppedAt (history_of x) program pieces
  stopped_is program pieces is text = record {
    run = over.run;
    lawful = over.is.stand.core.run;
    ended = ended;
    stopped = budget_of (status.verdict_of over.run.configuration) (sym (ap is_budget told) ∙ is);
    text = text;
    budgeted = spends;
  }

-- Runs that began with their program

module _ (program : Marked) (budget : ℕ) (h : HistoryShape)
    (is : h ≡ program_history (plain program) budget h.entries) where
  lawful : (s : RunShape) → run_of h ≡ Some s → run_of (program_history (plain program) budget h.entries) ≡ Some s
  lawful s run = ap run_of (sym is) ∙ run

  budgeted : (o : OutcomeShape) → IsBudgeted (most_in h) o → IsBudgeted budget o
  budgeted o b =
      let none : spent_in (start_of (plain program)).configuration + budget ≡ budget = omega arith in
      subst (λ n. IsBudgeted n o) none (subst (λ (g : HistoryShape). IsBudgeted (most_in g) o) is b)

  own_left : (r : Saved) → locations (plain program) ≡ [] → IsLeftAt h program r → IsSavedRun program budget r
  own_left (saved.Stopped pieces) bare s = record {
    journal = h.entries;
    ended = record { run = s.run; lawful = lawful s.run s.lawful; ended = s.ended };
    stopped = s.stopped;
    text = s.text;
    replayed = journals_end (plain program) budget h.entries s.run bare (lawful s.run s.lawful);
    budgeted = budgeted (outcome_of s.run.configuration) s.budgeted;
  }
  own_left (saved.Ended end) bare e = (
    record {
      journal = h.entries;
      run = e.0.run;
      lawful = lawful e.0.run e.0.lawful;
      end = e.0.end;
      outcome = e.0.outcome;
      replayed = journals_end (plain program) budget h.entries e.0.run bare (lawful e.0.run e.0.lawful);
      budgeted = budgeted (outcome_of e.0.run.configuration) e.0.budgeted;
    },
    e.1,
  )

  pub own_run : {E : Type 0} (r : Result Saved E) → locations (plain program) ≡ [] → IfOk r (IsLeftAt h program)
      → IfOk r (IsSavedRun program budget)
  own_run (Ok r) bare left = own_left r bare left
  own_run (Err e) bare left = tt

-- Runs that went on

module _ (program : Marked) (x : FirstShape) (budget : ℕ) (h : HistoryShape)
    (is : h ≡ history_since (plain program) x budget h.entries) where
  since : (s : RunShape) → run_of h ≡ Some s → run_of (history_since (plain program) x budget h.entries) ≡ Some s
  since s run = ap run_of (sym is) ∙ run

  with_first : (o : OutcomeShape) → IsBudgeted (most_in h) o → IsBudgeted (spent_in x.configuration + budget) o
  with_first o b = subst (λ (g : HistoryShape). IsBudgeted (most_in g) o) is b

  left_then : (r : Saved) → IsLeftAt h program r → IsLeftSince program x budget r
  left_then (saved.Stopped pieces) s = record {
    journal = h.entries;
    run = s.run;
    lawful = since s.run s.lawful;
    ended = s.ended;
    stopped = s.stopped;
    text = s.text;
    budgeted = with_first (outcome_of s.run.configuration) s.budgeted;
  }
  left_then (saved.Ended end) e = (
    record {
      journal = h.entries;
      run = e.0.run;
      lawful = since e.0.run e.0.lawful;
      end = e.0.end;
      outcome = e.0.outcome;
      budgeted = with_first (outcome_of e.0.run.configuration) e.0.budgeted;
    },
    e.1,
  )

  pub run_since : {E : Type 0} (r : Result Saved E) → IfOk r (IsLeftAt h program)
      → IfOk r (IsLeftSince program x budget)
  run_since (Ok r) left = left_then r left
  run_since (Err e) left = tt
