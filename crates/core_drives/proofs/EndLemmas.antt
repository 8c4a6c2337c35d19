-- What a list of steps leads to.
use Rattle.std.proofs.Common.{◌≡◌, ◌∙◌, ◌+◌, ◌<◌, ℕ, Bool, true, false, List, [], ◌∷◌, Option, Some, None, drop, get_or, length, map, refl, sym, ap, subst}
use Rattle.std.proofs.lemmas.List.{drop_more}
use Rattle.asp_model.specs.History.{EntryShape, HistoryShape, program_history, with_entry}
use Rattle.asp_model.specs.Term.{Tree}
use Rattle.law_paths.specs.Correct.{IsAlone}
use Rattle.def_journals.specs.Journals.{RunShape, run_of}
use Rattle.law_journals.proofs.JournalLemmas.{journals_reach}
use Rattle.law_paths.proofs.ReplayLemmas.{narrow_runs_are_alone}
use Rattle.law_core.specs.Outcomes.{IsReplayedEnd}
use Rattle.law_core.proofs.OutcomeLemmas.{journals_end}
use Rattle.asp_core.specs.declared.cores.Core.{Core}
use Rattle.asp_core.specs.Cores.{IsRun, history_of}
use Rattle.core_drives.specs.Driven.{IsDriven}
use Rattle.core_drives.specs.declared.steps.Step.{Step}
use Rattle.core_drives.specs.Steps.{Commits, ComesIn, Delivers, Enters, IsStepped, Lead, Lends, Runs, StepShape, entered_if, nobody, ran_after, step_shape}

-- Steps keep what entries keep

module _ {A : Type 0} (get : HistoryShape → A) (kept : (e : EntryShape) (h : HistoryShape) → get (with_entry h e) ≡ get h) where
  if_kept : (b : Bool) (e : EntryShape) (h : HistoryShape) → get (entered_if b e h) ≡ get h
  if_kept true e h = kept e h
  if_kept false e h = refl

  in_kept : (s : RunShape) (k : ℕ) (b : Bool) (g : Option ℕ) (old new : HistoryShape) → ComesIn s k b g old new → get new ≡ get old
  in_kept s k b None old new is = ap get is
  in_kept s k b (Some g) old new is = ap get is.5 ∙ kept _ old

  step_kept : (s : RunShape) (x : StepShape) (ran : ℕ → Bool) (old new : HistoryShape) → Enters s x ran old new → get new ≡ get old
  step_kept s (Lends k) ran old new is = ap get is ∙ if_kept _ _ old
  step_kept s (Runs k) ran old new is = ap get is
  step_kept s (Commits k) ran old new is = in_kept s k _ _ old new is
  step_kept s (Delivers d) ran old new is = ap get is ∙ if_kept _ _ old

  lead_kept : (xs : List StepShape) (ran : ℕ → Bool) (old new : HistoryShape) → Lead xs ran old new → get new ≡ get old
  lead_kept [] ran old new is = ap get is
  lead_kept (x ∷ xs) ran old new is = lead_kept xs (ran_after x ran) is.0 new is.2 ∙ step_kept is.1.run x ran old is.0 is.1.enters

pub lead_program : (xs : List StepShape) (ran : ℕ → Bool) (old new : HistoryShape) → Lead xs ran old new → new.program ≡ old.program
lead_program xs ran old new is = lead_kept (λ (h : HistoryShape). h.program) (λ e h. refl) xs ran old new is

-- one step, and those that are left
pub lead_more : (xs : List Step) (i : ℕ) (x : Step) (ran : ℕ → Bool) (old mid new : HistoryShape) → i < length xs → x ≡ get_or xs i x → IsStepped (step_shape x) ran old mid → Lead (map step_shape (drop (i + 1) xs)) (ran_after (step_shape x) ran) mid new
    → Lead (map step_shape (drop i xs)) ran old new
lead_more xs i x ran old mid new within is stepped rest =
    subst (λ q. Lead (map step_shape q) ran old new) (sym (drop_more xs i x within ∙ ap (λ y. y ∷ drop (i + 1) xs) (sym is))) (mid, stepped, rest)

module _ {P : Type 0} where
  pub driven_so : (program : Tree) (budget : ℕ) (steps : List StepShape) (x : Core P) (s : RunShape) → Lead steps nobody (program_history program budget []) (history_of x) → IsRun x s → (history_of x).program ≡ program → IsDriven program budget steps x
  driven_so program budget steps x s leads is same =
      let h : HistoryShape = history_of x in
      let start : h.first ≡ None = lead_kept (λ (q : HistoryShape). q.first) (λ e q. refl) steps nobody (program_history program budget []) h leads in
      let lawful : run_of (program_history h.program h.budget h.entries) ≡ Some s = subst (λ o. run_of (record h { first = o }) ≡ Some s) start is.stand.core.run in
      record {
        leads = leads;
        run = s;
        is = is;
        replayed = subst (λ p. IsReplayedEnd p s.configuration) same (journals_end h.program h.budget h.entries s is.bare lawful);
        alone = λ stuck narrow. subst (λ p. IsAlone p s.configuration) same
            (narrow_runs_are_alone h.program s.configuration is.bare (journals_reach h.program h.budget h.entries s lawful) stuck narrow);
      }
