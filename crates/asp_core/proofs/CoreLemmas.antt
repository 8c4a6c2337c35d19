-- A core with one entry more, and one that is spent.
use Rattle.std.proofs.Common.{◌≡◌, ◌∙◌, ◌∷◌, [], true, false, sym, ap, subst}
use Rattle.std.specs.Arc.{arc_value}
use Rattle.asp_model.specs.History.{BeginsWith, EntryShape, HistoryShape, with_entry}
use Rattle.asp_model.specs.Term.{locations}
use Rattle.asp_model.proofs.HistoryLemmas.{begins_with_itself}
use Rattle.def_journals.specs.Edges.{homes_in}
use Rattle.def_journals.specs.Journals.{RunShape, first_in}
use Rattle.law_chases.proofs.FutureLemmas.{none_true}
use Rattle.core_edges.specs.Labels.{AreByLabels}
use Rattle.core_state.specs.Cores.{program_of}
use Rattle.asp_core.specs.declared.cores.Core.{Core}
use Rattle.asp_core.specs.Calls.{HasEntered, HasGoneOn}
use Rattle.asp_core.specs.Cores.{IsKept, IsRun, code_of, entries_of, first_homes, history_of}
use Rattle.asp_core.specs.Runs.{Stand}
use Rattle.asp_core.proofs.StandLemmas.{bounded}

-- so begins what goes on by one entry, and what stays
pub begins_before : (later earlier : HistoryShape) (e : EntryShape) → later ≡ with_entry earlier e → BeginsWith later earlier
begins_before later earlier e is = record { program = ap (λ h. h.program) is; first = ap (λ h. h.first) is; budget = ap (λ h. h.budget) is; rest = e ∷ []; entries = ap (λ h. h.entries) is }

pub begins_same : (later earlier : HistoryShape) → later ≡ earlier → BeginsWith later earlier
begins_same later earlier is = subst (λ h. BeginsWith h earlier) (sym is) (begins_with_itself earlier)

module _ {P : Type 0} where
  pub spent_kept : (x : Core P) → x.spent ≡ true → IsKept x
  spent_kept x spent = λ fresh. none_true (sym fresh ∙ spent)

  pub run_kept : (x : Core P) (s : RunShape) → IsRun x s → IsKept x
  run_kept x s run = λ fresh. (s, run)

  pub same_history : (old new : Core P) → new.code ≡ old.code → new.first.shape ≡ old.first.shape → new.budget ≡ old.budget → entries_of new ≡ entries_of old → history_of new ≡ history_of old
  same_history old new code first budget entries = λ i. record { program = program_of (arc_value (code i)); first = first i; budget = budget i; entries = entries i }

  -- it began in the same place
  pub homes_same : (old new : Core P) → new.code ≡ old.code → new.first.shape ≡ old.first.shape → first_homes new ≡ first_homes old
  homes_same old new code first = λ i. homes_in (first_in (record { program = program_of (arc_value (code i)); first = first i; budget = 0; entries = [] })).configuration

  module _ (old new : Core P) (e : EntryShape) (t : RunShape) (code : new.code ≡ old.code) (first : new.first.shape ≡ old.first.shape) (budget : new.budget ≡ old.budget) (fresh : new.spent ≡ false)
      (st : Stand (with_entry (history_of old) e) (code_of old) t new.state new.edges.holders) (labels : AreByLabels (first_homes old) t.configuration new.edges) (bare : locations (program_of (code_of old)) ≡ []) where
    pub entered : HasEntered old e new
    entered = λ i. record { program = program_of (arc_value (code i)); first = first i; budget = budget i; entries = st.core.entries i }

    stands : Stand (history_of new) (code_of new) t new.state new.edges.holders
    stands =
        subst (λ h. Stand h (code_of new) t new.state new.edges.holders) (sym entered)
        (subst (λ k. Stand (with_entry (history_of old) e) k t new.state new.edges.holders) (ap arc_value (sym code)) st)

    pub runs : IsRun new t
    runs = record { fresh = fresh; bare = ap (λ k. locations (program_of (arc_value k))) code ∙ bare; stand = stands; labels = subst (λ hs. AreByLabels hs t.configuration new.edges) (sym (homes_same old new code first)) labels }

    pub has_gone_on : HasGoneOn old e new
    has_gone_on = record {
      entered = entered;
      after = t;
      run = runs;
      bounded = bounded (history_of new) (code_of new) t new.state new.edges.holders stands;
    }
