-- The trace of a core whose verdict is there.
use Rattle.std.specs.Prelude.{◌||◌, string_bytes}
use Rattle.std.proofs.Common.{◌+◌, arith, ◌≡◌, ◌≤◌, ℕ, Bool, true, false, List, [], Option, Some, None, is_some, map, refl, sym, ap, subst, ◌∙◌}
use Rattle.std.specs.List.{concat, list_all}
use Rattle.asp_model.specs.declared.limits.TheConstants.{MOST_REDUCTIONS}
use Rattle.asp_model.specs.declared.journal.Entry.{Entry}
use Rattle.asp_model.specs.History.{BeginsWith, ChoiceShape, EntryShape, HistoryShape, program_history}
use Rattle.asp_model.specs.Shapes.{entry_shape, outcome_shape}
use Rattle.asp_model.specs.Outcome.{outcome_of}
use Rattle.asp_model.specs.Status.{VerdictShape}
use Rattle.asp_model.specs.Status as status
use Rattle.asp_model.specs.Term.{Tree, locations}
use Rattle.def_journals.specs.Edges.{HoldersShape}
use Rattle.def_journals.specs.Journals.{RunShape, run_of, start_of}
use Rattle.def_journals.specs.Owed.{goes_on, is_any, next_owed, verdict_told}
use Rattle.law_core.specs.Outcomes.{IsBudgeted}
use Rattle.law_core.proofs.OutcomeLemmas.{journals_end, verdicts_spend}
use Rattle.law_journals.specs.Budgets.{spent_in}
use Rattle.law_steps.proofs.WholeLemmas.{start_is_sound}
use Rattle.law_chases.proofs.FutureLemmas.{no_some, none_true}
use Rattle.asp_core.specs.declared.cores.Core.{Core}
use Rattle.asp_core.specs.Cores.{entries_of}
use Rattle.asp_core.specs.Over.{IsOver}
use Rattle.law_traces.specs.Standings.{Ended, standing_of}
use Rattle.law_traces.proofs.StandingLemmas.{verdicts_are_ends}
use Rattle.law_traces.proofs.LineLemmas.{journals_have_lines}
use Rattle.trace_text.specs.Traces.{Reads, has_numbers, read_trace, trace_of}
use Rattle.trace_text.proofs.ReadLemmas.{trace_is_read}
use Rattle.run_traces.specs.declared.traced.Traced.{Traced}
use Rattle.run_traces.specs.Traced.{IsOfProgram, IsTracedRun}

-- the history of a later core of the same program
pub later_program : (later earlier : HistoryShape) (program : Tree) (budget : ℕ) → BeginsWith later earlier → earlier ≡ program_history program budget [] → later ≡ program_history program budget later.entries
later_program later earlier program budget h e =
    let p : later.program ≡ program = h.program ∙ ap (λ (x : HistoryShape). x.program) e in
    let f : later.first ≡ None = h.first ∙ ap (λ (x : HistoryShape). x.first) e in
    let b : later.budget ≡ budget = h.budget ∙ ap (λ (x : HistoryShape). x.budget) e in
    λ i. record { program = p i; first = f i; budget = b i; entries = later.entries }

told_some : (s : RunShape) (h : HoldersShape) (answers : List ChoiceShape) (o : Option VerdictShape) → verdict_told s h answers ≡ o → is_some o ≡ true → (v : VerdictShape) × (verdict_told s h answers ≡ Some v)
told_some s h answers None is some = none_true some
told_some s h answers (Some v) is some = (v, is)

told_own : (b : Bool) (w v : VerdictShape) → elim b [ true ↦ None | false ↦ Some w ] ≡ Some v → elim b [ true ↦ None | false ↦ Some w ] ≡ Some w
told_own true w v h = no_some h
told_own false w v h = refl

module _ {P : Type 0} (x : Core P) (over : IsOver x) (program : Tree) (budget : ℕ) (of : IsOfProgram program budget x) where
  pub lawful : run_of (program_history program budget (entries_of x)) ≡ Some over.run
  lawful = ap run_of (sym of) ∙ over.is.stand.core.run

  ended : (v : VerdictShape) → verdict_told over.run x.edges.holders.holders x.edges.holders.answers ≡ Some v → standing_of over.run ≡ Ended (status.verdict_of over.run.configuration)
  ended v told =
      let own = told_own (is_any over.run.out || (is_some (next_owed over.run x.edges.holders.holders x.edges.holders.answers) || goes_on over.run)) (status.verdict_of over.run.configuration) v told in
      verdicts_are_ends over.run x.edges.holders.holders x.edges.holders.answers (status.verdict_of over.run.configuration) own

  bare : locations program ≡ []
  bare = sym (ap (λ (h : HistoryShape). locations h.program) of) ∙ over.is.bare

  spends : (v : VerdictShape) → verdict_told over.run x.edges.holders.holders x.edges.holders.answers ≡ Some v → IsBudgeted budget (outcome_of over.run.configuration)
  spends v told =
      let none : spent_in (start_of program).configuration + budget ≡ budget = omega arith in
      subst (λ b. IsBudgeted b (outcome_of over.run.configuration)) none
      (verdicts_spend (program_history program budget (entries_of x)) over.run x.edges.holders.holders x.edges.holders.answers v (start_is_sound program) lawful told).1

  reads : (journal : List Entry) → map entry_shape journal ≡ entries_of x → budget ≤ MOST_REDUCTIONS → list_all has_numbers (map entry_shape journal) ≡ true → read_trace (trace_of (entries_of x)) ≡ Reads (entries_of x)
  reads journal same small fit = trace_is_read (entries_of x) (journals_have_lines program budget (entries_of x) over.run lawful small (subst (λ (es : List EntryShape). list_all has_numbers es ≡ true) same fit))

  pub is_traced : (t : Traced) (journal : List Entry) → map entry_shape journal ≡ entries_of x → budget ≤ MOST_REDUCTIONS → list_all has_numbers (map entry_shape journal) ≡ true
      → concat (map string_bytes t.pieces.items) ≡ trace_of (map entry_shape journal) → outcome_shape t.end.outcome ≡ outcome_of over.run.configuration → IsTracedRun program budget t
  is_traced t journal same small fit text outcome =
      let told = told_some over.run x.edges.holders.holders x.edges.holders.answers (verdict_told over.run x.edges.holders.holders x.edges.holders.answers) refl (over.told over.run over.is) in
      record {
        journal = entries_of x;
        ended = record { run = over.run; lawful = lawful; ended = ended told.0 told.1 };
        text = text ∙ ap trace_of same;
        read = reads journal same small fit;
        outcome = outcome;
        replayed = journals_end program budget (entries_of x) over.run bare lawful;
        budgeted = spends told.0 told.1;
      }
