-- Each point of each run is within one of the ends of a family that is complete by classes.
use Rattle.std.specs.Prelude.{◌≡◌, ℕ, true, List, [], ◌∷◌, ◌++◌, Option, Some, None, length, is_some}
use Rattle.std.proofs.Common.{refl, sym, subst, ◌∙◌, ⊎_elim}
use Rattle.std.specs.FinMap.{find}
use Rattle.law_steps.specs.Systems.{Run}
use Rattle.law_steps.proofs.SystemCounts.{run_both}
use Rattle.law_steps.proofs.SystemJoins.{Rest, stopped_end}
use Rattle.asp_model.specs.Names.{Name, Text, name_cmp}
use Rattle.asp_model.specs.Term.{Tree}
use Rattle.asp_model.specs.Configuration.{Configuration, start}
use Rattle.asp_model.specs.Intent.{Effect}
use Rattle.asp_model.specs.Step.{with_effect, step}
use Rattle.law_steps.specs.Reached.{IsReached, RunsTo, Steps}
use Rattle.law_steps.proofs.StepLemmas.{Takes, step_taken}
use Rattle.law_steps.proofs.CommuteLemmas.{took}
use Rattle.law_steps.proofs.ListLemmas.{IsPrefix, prefix_both}
use Rattle.law_steps.proofs.ReachedLemmas.{reached_right, start_is_reached, moves_go_on}
use Rattle.law_steps.proofs.JoinLemmas.{NobodySteps}
use Rattle.law_families.specs.Families.{ComesBehind}
use Rattle.law_families.proofs.TurnLemmas.{behind}
use Rattle.law_classes.specs.Alike.{AsksInClass}
use Rattle.law_classes.specs.Runs.{view, ClassLogs, Entry, entry_of, with_entry, IsTurn, first_state}
use Rattle.law_classes.specs.Families.{ClassEnd, state_of, IsInside, IsClassEnd, Has, cut_logs, IsComplete}
use Rattle.law_classes.proofs.AlikeLemmas.{takes_alike}
use Rattle.law_classes.proofs.EntryLemmas.{grown_entry, entries_both, turn_in}
use Rattle.law_classes.proofs.StateLemmas.{view_alike, entry_alike, system}
use Rattle.law_classes.proofs.RunLemmas.{grown_run, relist, asks_run, later, held, still_state, still_at, good_start, cut_inside, cut_full}

-- a run under the lists of an end leads to what the configuration shows
pub record Within (K : Text → ℕ) (program : Tree) (all : List ClassEnd) (c : Configuration) : Type 0 where
  pub end : ClassEnd
  pub has : Has all end
  pub names : List Name
  pub logs : ClassLogs
  pub run : Run (system K program end.1) (first_state K program) names (view K c, logs)

module _ (K : Text → ℕ) (program : Tree) (all : List ClassEnd) (whole : IsComplete K program all) (c : Configuration) (n : Name) (e : Effect) (reached : IsReached program c) (can : Takes None c n e) (w : Within K program all c) where
  abbrev after : Configuration
  after = with_effect n e c

  abbrev lists : ClassLogs
  lists = w.end.1

  abbrev entry : Option Entry
  entry = entry_of K c n e

  end_is : IsClassEnd K program w.end
  end_is = whole.ended w.end w.has

  still : NobodySteps w.end.0
  still = still_at program w.end.0 end_is.reached end_is.stuck

  rest : Rest (system K program lists) end_is.names (state_of K w.end) w.names (view K c, w.logs)
  rest = stopped_end (system K program lists) end_is.names w.names (first_state K program) (state_of K w.end) (view K c, w.logs) (good_start K program) end_is.run w.run (λ q v s. absurd (still_state K program lists w.end.0 w.end.1 end_is.reached still q v s))

  there : is_some (find name_cmp n c.activities) ≡ true
  there = (took None c n e (reached_right program c reached).sound can).there

  asks : AsksInClass K c n
  asks = asks_run K program lists rest.labels c w.logs w.end.0 w.end.1 n reached there (end_is.asks n) rest.run

  inside : IsInside w.logs lists
  inside q κ = grown_run K program lists rest.labels (view K c, w.logs) (state_of K w.end) rest.run q κ

  -- one step more, under any lists in which it is next
  one_step : (others : ClassLogs) → IsTurn others w.logs entry → Run (system K program others) (first_state K program) w.names (view K c, w.logs) → Run (system K program others) (first_state K program) (w.names ++ n ∷ []) (view K after, with_entry entry w.logs)
  one_step others turn run = run_both (system K program others) w.names (n ∷ []) (first_state K program) (view K c, w.logs) (view K after, with_entry entry w.logs) run
      ((view K after, with_entry entry w.logs), record { at = c; effect = e; reached = reached; is = refl; intends = can.intends; may = can.may; turn = turn; asks = asks; then = refl; enters = refl }, refl)

  same_end : IsTurn lists w.logs entry → Within K program all after
  same_end turn = record { end = w.end; has = w.has; names = w.names ++ n ∷ []; logs = with_entry entry w.logs; run = one_step lists turn w.run }

  instead : (z : Entry) → entry ≡ Some z → ComesBehind (lists z.0 z.1) (length (w.logs z.0 z.1)) z.2 → Within K program all after
  instead z is behind =
      let k = length (w.logs z.0 z.1) in
      let cut = cut_logs lists z.0 z.1 k in
      let x = whole.closed w.end z.0 z.1 k z.2 w.has behind in
      let f = x.0 in
      let inside_cut = cut_inside lists w.logs z.0 z.1 inside in
      let run_cut = (relist K program lists cut w.names (first_state K program) (view K c, w.logs) w.run inside_cut).0 in
      let y = stopped_end (system K program cut) x.1.names w.names (first_state K program) (state_of K f) (view K c, w.logs) (good_start K program) x.1.run run_cut (λ p v s. absurd (x.1.rests p v s)) in
      let full = cut_full lists w.logs z.0 z.1 inside in
      let h = held K program cut y.labels c w.logs (state_of K f) n e z reached can asks is inside_cut full y.run in
      let back = view_alike K h.at f.0 h.is in
      let t = takes_alike K program h.at f.0 n h.effect h.reached x.1.reached back h.asks h.takes in
      let offered : entry_of K f.0 n t.effect ≡ Some z = sym (entry_alike K h.at f.0 n h.effect back t) ∙ h.entry in
      let v = x.2 (n, (t.effect, t.takes.intends, offered)) in
      let more = entries_both z w.logs f.1 (full ∙ sym h.full) (λ p μ. grown_run K program cut y.labels (view K c, w.logs) (state_of K f) y.run p μ) in
      let inside_v : IsInside (with_entry entry w.logs) v.0.1 = λ p μ. prefix_both _ _ _ (subst (λ o. IsPrefix (with_entry o w.logs p μ) (with_entry (Some z) f.1 p μ)) (sym is) (more p μ)) (v.2 p μ) in
      let before : IsInside w.logs v.0.1 = λ p μ. prefix_both _ _ _ (grown_entry entry w.logs p μ) (inside_v p μ) in
      record {
        end = v.0;
        has = v.1;
        names = w.names ++ n ∷ [];
        logs = with_entry entry w.logs;
        run = one_step v.0.1 (turn_in v.0.1 w.logs entry inside_v) (relist K program lists v.0.1 w.names (first_state K program) (view K c, w.logs) w.run before).0;
      }

  pub step_on : Within K program all after
  step_on = by_entry entry refl
    where
      by_entry : (o : Option Entry) → entry ≡ o → Within K program all after
      by_entry None is = same_end (subst (IsTurn lists w.logs) (sym is) tt)
      by_entry (Some z) is =
          let t = later K program lists rest.labels c w.logs w.end.0 w.end.1 n e z reached end_is.reached can asks still is rest.run in
          ⊎_elim
          (λ at. same_end (subst (IsTurn lists w.logs) (sym is) at))
          (instead z is)
          (behind (lists z.0 z.1) (length (w.logs z.0 z.1)) t.0 z.2 t.2 t.1)

one_more : (K : Text → ℕ) (program : Tree) (all : List ClassEnd) → IsComplete K program all → (c d : Configuration) (n : Name) → IsReached program c → Within K program all c → step None c n ≡ Some d → Within K program all d
one_more K program all whole c d n reached w st =
    let x = step_taken None c n d st in
    subst (Within K program all) x.2 (step_on K program all whole c n x.0 reached x.1 w)

within_run : (K : Text → ℕ) (program : Tree) (all : List ClassEnd) → IsComplete K program all → (ns : List Name) (c d : Configuration) → IsReached program c → Within K program all c → RunsTo None c ns d → Within K program all d × IsReached program d
within_run K program all whole [] c d reached w run = (subst (Within K program all) run w, subst (IsReached program) run reached)
within_run K program all whole (n ∷ ns) c d reached w run = within_run K program all whole ns run.0 d (moves_go_on program c run.0 (Steps None n) reached run.1) (one_more K program all whole c run.0 n reached w run.1) run.2

-- each point of each run
pub within_end : (K : Text → ℕ) (program : Tree) (all : List ClassEnd) → IsComplete K program all → (ns : List Name) (c : Configuration) → RunsTo None (start program) ns c → Within K program all c × IsReached program c
within_end K program all whole ns c run = within_run K program all whole ns (start program) c (start_is_reached program) (record { end = whole.one; has = whole.has; names = []; logs = λ q κ. []; run = refl }) run
