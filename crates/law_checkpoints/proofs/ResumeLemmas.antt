-- A run that went on from where it was saved tells what one run of its program tells.
use Rattle.std.specs.Prelude.{◌≡◌, ℕ, suc, ◌≤◌, [], List, Option, Some}
use Rattle.std.proofs.Common.{refl, sym, ap, subst, ◌∙◌, arith, ⊎_elim}
use Rattle.std.specs.FinMap.{find}
use Rattle.asp_model.specs.Names.{Name, name_cmp}
use Rattle.asp_model.specs.Term.{Tree, locations}
use Rattle.asp_model.specs.Store.{Store}
use Rattle.asp_model.specs.Configuration.{Activity, Configuration, log_of}
use Rattle.asp_model.specs.History.{EntryShape, FirstShape, HistoryShape}
use Rattle.asp_model.specs.Step.{ListsShape, step, with_effect}
use Rattle.asp_model.specs.Replay.{CountsShape, lists_of, counts_of, count_in, total, replay, Fits}
use Rattle.def_journals.specs.Deliveries.{with_store}
use Rattle.def_journals.specs.Journals.{RunShape, all_entered, run_from}
use Rattle.def_paths.specs.Outcomes.{OutcomesAgree, WholeOutcome, whole_outcome_of, report_lines_to}
use Rattle.law_steps.specs.Reached.{IsReached, Move, Steps, Edges, Needs, Makes}
use Rattle.law_steps.specs.Sound.{IsSound}
use Rattle.law_steps.proofs.CommuteLemmas.{took}
use Rattle.law_steps.proofs.DeliveryLemmas.{same_face, edge_done, need_done}
use Rattle.law_steps.proofs.ListLemmas.{IsPrefix, prefix_both, prefix_same, grown_by, count_own}
use Rattle.law_steps.proofs.MergeLemmas.{test_of_prefix}
use Rattle.law_steps.proofs.NameLemmas.{name_case}
use Rattle.law_steps.proofs.SoundLemmas.{at_name, own_after, other_after}
use Rattle.law_steps.proofs.StepLemmas.{step_taken}
use Rattle.law_steps.proofs.WholeLemmas.{right_of, moves_keep_sound}
use Rattle.law_journals.proofs.BudgetLemmas.{budgets_are_kept}
use Rattle.law_journals.proofs.JournalLemmas.{entries_keep}
use Rattle.law_paths.proofs.ReplayLemmas.{reached_are_replayed}
use Rattle.law_frozen.specs.Same.{SamePending, ShowsSame}
use Rattle.law_frozen.specs.Frozen.{thawed, thawed_first}
use Rattle.law_frozen.proofs.FrozenLemmas.{thawed_same}
use Rattle.law_frozen.proofs.ShowLemmas.{same_shows_same}
use Rattle.law_frozen.proofs.ThawLemmas.{thawed_are_first}
use Rattle.law_checkpoints.specs.Resumed.{AddsTo, ResumedAreOneRun, TellsReplay}
use Rattle.law_checkpoints.specs.Saved.{IsSavedAt, frozen_at}
use Rattle.law_checkpoints.proofs.AgainLemmas.{runs_are_saved_again}

-- What shows the same as a configuration that is reached

-- the replay of given logs and counts
record Told (program : Tree) (o : WholeOutcome) (lists : ListsShape) (counts : CountsShape) : Type 0 where
  fits : Fits program lists counts
  outcomes : OutcomesAgree o (whole_outcome_of (replay program lists counts))
  reports : (depth : Option ℕ) → report_lines_to depth o ≡ report_lines_to depth (whole_outcome_of (replay program lists counts))

told_same : (program : Tree) (c d : Configuration) → ShowsSame c d → Told program (whole_outcome_of c) (lists_of c) (counts_of c) → Told program (whole_outcome_of d) (lists_of d) (counts_of d)
told_same program c d s h = subst (λ k. Told program (whole_outcome_of d) (lists_of d) k) s.counts
    (subst (λ l. Told program (whole_outcome_of d) l (counts_of c)) s.logs
    (subst (λ o. Told program o (lists_of c) (counts_of c)) s.outcomes h))

tells_replay : (program : Tree) (c d : Configuration) → locations program ≡ [] → IsReached program c → SamePending c d → TellsReplay program d
tells_replay program c d closed reached same =
    let r = reached_are_replayed program c closed reached in
    let t = told_same program c d (same_shows_same c d same) (record { fits = r.fits; outcomes = r.outcomes; reports = r.reports }) in
    record { fits = t.fits; outcomes = t.outcomes; reports = t.reports }

-- What moves add

record Adds (c d : Configuration) : Type 0 where
  sound : IsSound d
  logs : (m : Name) → IsPrefix (log_of c m) (log_of d m)
  counts : (m : Name) → (at_name c m).reductions ≤ (at_name d m).reductions

step_adds : (lists : Option ListsShape) (n : Name) (c d e : Configuration) → Adds c d → step lists d n ≡ Some e → Adds c e
step_adds lists n c d e h is =
    let x = step_taken lists d n e is in
    let t = took lists d n x.0 (right_of d h.sound).sound x.1 in
    record {
      sound = moves_keep_sound (Steps lists n) d e h.sound is;
      logs = subst (λ z. (m : Name) → IsPrefix (log_of c m) (log_of z m)) x.2 (λ m. prefix_both _ _ _ (h.logs m) (grown_by x.0.logged d m));
      counts = subst (λ z. (m : Name) → (at_name c m).reductions ≤ (at_name z m).reductions) x.2 (λ m. ⊎_elim
          (λ p.
          let own : (at_name (with_effect n x.0 d) m).reductions ≡ suc (at_name d n).reductions = ap (λ k. (at_name (with_effect n x.0 d) k).reductions) p ∙ ap (λ f. f.reductions) (own_after d n x.0 t) ∙ t.facts.counted in
          let was : (at_name d m).reductions ≡ (at_name d n).reductions = ap (λ k. (at_name d k).reductions) p in
          let le : (at_name c m).reductions ≤ (at_name d m).reductions = h.counts m in
          omega (arith, own, was, le))
          (λ apart.
          let other : (at_name (with_effect n x.0 d) m).reductions ≡ (at_name d m).reductions = ap (λ f. f.reductions) (other_after d n m x.0 t apart) in
          let le : (at_name c m).reductions ≤ (at_name d m).reductions = h.counts m in
          omega (arith, other, le))
          (name_case m n));
    }

store_adds : (c d : Configuration) (n : Name) (a : Activity) (u : Store) (e : Configuration) → Adds c d → IsSound e → find name_cmp n d.activities ≡ Some a → e ≡ with_store d n a u → Adds c e
store_adds c d n a u e h sound at is = record {
  sound = sound;
  logs = λ m. prefix_both _ _ _ (h.logs m) (prefix_same (log_of d m) (log_of e m) (ap (λ z. log_of z m) (sym is)));
  counts = λ m.
      let same : (at_name e m).reductions ≡ (at_name d m).reductions = ap (λ z. (at_name z m).reductions) is ∙ ap (λ f. f.reductions) (same_face d n a u at m) in
      let le : (at_name c m).reductions ≤ (at_name d m).reductions = h.counts m in
      omega (arith, same, le);
}

move_adds : (c : Configuration) (move : Move) (d e : Configuration) → Adds c d → Makes move d e → Adds c e
move_adds c (Steps lists n) d e h is = step_adds lists n c d e h is
move_adds c (Edges f to) d e h is = let x = edge_done d f to e is in store_adds c d to x.receiver _ e h (moves_keep_sound (Edges f to) d e h.sound is) x.at x.result
move_adds c (Needs f to place) d e h is = let x = need_done d f to place e is in store_adds c d to x.receiver _ e h (moves_keep_sound (Needs f to place) d e h.sound is) x.at x.result

-- The law

module _ (program : Tree) (x : FirstShape) (budget : ℕ) (entries : List EntryShape) (t : RunShape) (saved : IsSavedAt program x) (e : all_entered entries (run_from (thawed_first (frozen_at x)) budget) ≡ Some t) where
  abbrev now : Configuration
  now = thawed (frozen_at x)

  abbrev history : HistoryShape
  history = record { program = program; first = Some (thawed_first (frozen_at x)); budget = budget; entries = entries }

  same : SamePending x.configuration now
  same = thawed_same x saved.first

  sound : IsSound now
  sound = (thawed_are_first x saved.first).sound

  first_counts : counts_of x.configuration ≡ counts_of now
  first_counts = (same_shows_same x.configuration now same).counts

  added : Adds now t.configuration
  added = entries_keep (Adds now) (λ move c d. move_adds now move c d) entries (run_from (thawed_first (frozen_at x)) budget) t e (record {
    sound = sound;
    logs = λ m. prefix_same (log_of now m) (log_of now m) refl;
    counts = λ m. omega arith;
  })

  adds_to : AddsTo x.configuration t.configuration
  adds_to = record {
    logs = λ m. test_of_prefix (log_of x.configuration m) (log_of t.configuration m) (prefix_both _ _ _ (prefix_same (log_of x.configuration m) (log_of now m) (same.logs m)) (added.logs m));
    counts = λ m.
        let was : count_in (counts_of x.configuration) m ≡ (at_name now m).reductions = ap (λ k. count_in k m) first_counts ∙ count_own now m in
        let is : count_in (counts_of t.configuration) m ≡ (at_name t.configuration m).reductions = count_own t.configuration m in
        let le : (at_name now m).reductions ≤ (at_name t.configuration m).reductions = added.counts m in
        omega (arith, was, is, le);
  }

pub resumed_are_one_run : ResumedAreOneRun
resumed_are_one_run program x budget entries t closed saved e =
    let again = runs_are_saved_again program x budget entries t saved e in
    let kept = budgets_are_kept (history program x budget entries t saved e) t (sound program x budget entries t saved e) e in
    let was : total (counts_of x.configuration) ≡ total (counts_of (thawed (frozen_at x))) = ap total (first_counts program x budget entries t saved e) in
    record {
      tells = tells_replay program again.other t.configuration closed again.saved.reached again.same;
      adds = adds_to program x budget entries t saved e;
      spends = omega (arith, kept, was);
    }
