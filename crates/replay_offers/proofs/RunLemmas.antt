-- Runs without logs, and what they show.
use Rattle.std.proofs.Common.{◌≡◌, ◌≤◌, ℕ, zero, suc, Bool, true, false, List, [], ◌∷◌, ◌++◌, map, Option, Some, None, refl, sym, ap, subst, ◌∙◌}
use Rattle.std.specs.Prelude.{cond}
use Rattle.std.specs.List.{list_any}
use Rattle.asp_model.specs.declared.limits.TheConstants.{MOST_REDUCTIONS}
use Rattle.asp_model.specs.Names.{Name}
use Rattle.asp_model.specs.Term.{Tree}
use Rattle.asp_model.specs.Configuration.{Activity, Configuration, start, log_of}
use Rattle.asp_model.specs.Outcome.{ActivityReportShape, OutcomeShape, activity_report, counts_in, lists_in, outcome_of}
use Rattle.asp_model.specs.Replay.{CountsShape, counts_of, least_step, lists_of, replay, steps_from, total}
use Rattle.asp_model.specs.Status.{Blocked, Budget, End, IsStuck, is_awaiting, is_running, statuses_of, verdict_of}
use Rattle.asp_model.specs.Step.{ListsShape}
use Rattle.law_steps.specs.Reached.{IsReached, RunsTo}
use Rattle.law_steps.proofs.ReachedLemmas.{leads_on, runs_go_on, start_is_reached}
use Rattle.law_steps.proofs.ReplayLemmas.{least_picks, replays_are_runs, runs_replay}
use Rattle.law_steps.proofs.StepLemmas.{listed_is_free}
use Rattle.law_families.specs.Families.{IsEndedRun}
use Rattle.outcome_search.specs.Ends.{IsReplayableEnd}
use Rattle.replay_offers.specs.Replays.{IsFreeRun}
use Rattle.step_ends.proofs.ReportLemmas.{map_map}

abbrev tried : Option Configuration → ℕ → Option ListsShape → (Name → ℕ) → Configuration → Configuration
tried o k lists count c = elim o [ None ↦ c | Some d ↦ steps_from k lists count d ]

-- steps under logs or without them are a run without logs
pub free_steps : (lists : Option ListsShape) (count : Name → ℕ) (k : ℕ) (c : Configuration) → (ns : List Name) × RunsTo None c ns (steps_from k lists count c)
free_steps lists count zero c = ([], refl)
free_steps lists count (suc k) c = elim (least_step lists count c c.activities) as (λ o. least_step lists count c c.activities ≡ o → (ns : List Name) × RunsTo None c ns (tried o k lists count c)) [
  | None ↦ λ p. ([], refl)
  | Some d ↦ λ p.
      let x = least_picks lists count c d c.activities p in
      let r = free_steps lists count k d in
      (x.0.0 ∷ r.0, (d, listed_is_free lists c x.0.0 d x.2, r.1))
] refl

-- one part behind the other
pub free_both : (program : Tree) (lists : Option ListsShape) (count then : Name → ℕ) (k j : ℕ)
    → (ns : List Name) × RunsTo None (start program) ns (steps_from j None then (steps_from k lists count (start program)))
free_both program lists count then k j =
    let a = free_steps lists count k (start program) in
    let b = free_steps None then j (steps_from k lists count (start program)) in
    (a.0 ++ b.0, leads_on _ a.0 b.0 (start program) (steps_from k lists count (start program)) (steps_from j None then (steps_from k lists count (start program))) a.1 b.1)

pub lists_shown : (c : Configuration) → lists_in (outcome_of c) ≡ lists_of c
lists_shown c = map_map (λ (r : ActivityReportShape). (r.name, r.senders)) (activity_report c) c.activities

pub counts_shown : (c : Configuration) → counts_in (outcome_of c) ≡ counts_of c
counts_shown c = map_map (λ (r : ActivityReportShape). (r.name, r.count)) (activity_report c) c.activities

-- who is not out of budget is stuck
stuck_unless : (c : Configuration) → (verdict_of c ≡ Budget → ⊥) → IsStuck c
stuck_unless c h = elim (list_any is_running (statuses_of c)) as (λ b. list_any is_running (statuses_of c) ≡ b → b ≡ false) [
  | true ↦ λ e. absurd (h (ap (λ (b : Bool). cond b Budget (cond (list_any is_awaiting (statuses_of c)) Blocked End)) e))
  | false ↦ λ e. refl
] refl

pub end_shown : (program : Tree) (o : OutcomeShape) (ls : ListsShape) (cs : CountsShape) → IsFreeRun program o → (o.verdict ≡ Budget → ⊥) → ls ≡ lists_in o → cs ≡ counts_in o → total cs ≤ MOST_REDUCTIONS → IsReplayableEnd program (ls, cs)
end_shown program o ls cs f going l k within =
    let c : Configuration = f.end in
    let lists : ls ≡ lists_of c = l ∙ ap lists_in f.outcome ∙ lists_shown c in
    let counts : cs ≡ counts_of c = k ∙ ap counts_in f.outcome ∙ counts_shown c in
    let r = runs_replay program f.names c f.run in
    let stuck : IsStuck c = stuck_unless c (λ e. going (ap (λ (p : OutcomeShape). p.verdict) f.outcome ∙ e)) in
    let own : IsEndedRun program (lists_of c, counts_of c) = (r.0, subst IsStuck (sym r.1) stuck) in
    let same : (ls, cs) ≡ (lists_of c, counts_of c) = (λ i. (lists i, counts i)) in
    (subst (IsEndedRun program) (sym same) own, within)

-- Logs and counts that fit

pub replay_is_reached : (program : Tree) (lists : ListsShape) (counts : CountsShape) → IsReached program (replay program lists counts)
replay_is_reached program lists counts =
    let r = replays_are_runs program lists counts in
    runs_go_on program (Some lists) r.0 (start program) (replay program lists counts) (start_is_reached program) r.1

pub names_alike : (c : Configuration) (es : List (Name × Activity)) → map (λ x. x.0) (map {B = Name × _} (λ x. (x.0, log_of c x.0)) es) ≡ map (λ x. x.0) (map {B = Name × ℕ} (λ x. (x.0, x.1.reductions)) es)
names_alike c [] = refl
names_alike c (x ∷ es) = ap (λ (ns : List Name). x.0 ∷ ns) (names_alike c es)
