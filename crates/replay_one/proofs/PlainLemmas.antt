-- What the run of one thread leaves, told of its outcome.
use Rattle.std.proofs.Common.{◌≡◌, ◌≤◌, [], ℕ, Bool, true, false, cond, sym, ap, subst, ◌∙◌, ⊎_elim, None}
use Rattle.std.specs.List.{list_any}
use Rattle.asp_model.specs.Term.{Tree, locations}
use Rattle.asp_model.specs.Configuration.{Configuration, start}
use Rattle.asp_model.specs.Status.{End, Blocked, Budget, IsStuck, is_awaiting, statuses_of, verdict_of}
use Rattle.asp_model.specs.Replay.{CountsShape, Fits, counts_of, lists_of, plain_run, replay, total}
use Rattle.asp_model.specs.Outcome.{ActivityReportShape, OutcomeShape, activity_report, counts_in, lists_in, outcome_of}
use Rattle.asp_model.specs.Step.{ListsShape}
use Rattle.asp_model.specs.Names.{Name, main_name}
use Rattle.law_chases.proofs.FutureLemmas.{no_some}
use Rattle.law_steps.proofs.ReachedLemmas.{start_is_reached}
use Rattle.law_steps.proofs.ReplayLemmas.{plain_runs_replay}
use Rattle.law_steps.proofs.SpendLemmas.{plain_runs_spend}
use Rattle.law_schedules.proofs.LeastLemmas.{main_is_ready, main_is_watched}
use Rattle.replay_parts.specs.declared.bounds.Bounds.{Bounds}
use Rattle.replay_one.specs.declared.round.Machine.{Machine}
use Rattle.replay_parts.specs.Bounds.{IsNumbered, count_within, lists_within}
use Rattle.replay_one.specs.Correct.{IsReplayed, IsSpent}
use Rattle.replay_population.specs.declared.population.Population.{Population}
use Rattle.replay_population.specs.Population.{IsPopulation, passed_in}
use Rattle.replay_population.specs.Reached.{IsReachedPopulation}
use Rattle.replay_one.specs.Schedule.{noted_in, ready_in, watches_in}
use Rattle.replay_one.specs.Round.{IsRunAt, seen_in}
use Rattle.step_ends.proofs.ReportLemmas.{map_map}

-- What an outcome shows

lists_shown : (c : Configuration) → lists_in (outcome_of c) ≡ lists_of c
lists_shown c = map_map (λ (r : ActivityReportShape). (r.name, r.senders)) (activity_report c) c.activities

counts_shown : (c : Configuration) → counts_in (outcome_of c) ≡ counts_of c
counts_shown c = map_map (λ (r : ActivityReportShape). (r.name, r.count)) (activity_report c) c.activities

-- the machine at the start
pub begins_run : (b : Bounds) (m : Machine) (program copied : Tree) → copied ≡ program → locations program ≡ [] → IsPopulation m.population (start copied) → IsNumbered b m.population.roster → ready_in (seen_in m) main_name ≡ true → ((n : Name) → passed_in m.population n ≡ None) → IsRunAt b m program (start program)
begins_run b m program copied same bare population numbered ready none = record {
  bare = bare;
  reached = start_is_reached program;
  population = subst (λ t. IsPopulation m.population (start t)) same population;
  numbered = numbered;
  scheduled = main_is_ready program (lists_within b) (count_within b) (ready_in (seen_in m)) (noted_in (seen_in m)) ready;
  watched = main_is_watched program (count_within b) (watches_in (seen_in m)) (ready_in (seen_in m)) ready;
  passed = λ n k is. no_some (sym (none n) ∙ is);
}

module _ (n : ℕ) (program : Tree) (o : OutcomeShape) (e : o ≡ outcome_of (plain_run n program)) where
  pub plain_replays : IsReplayed program o
  plain_replays =
      let c : Configuration = plain_run n program in
      let r = plain_runs_replay n program in
      let lists = lists_shown c in
      let counts = counts_shown c in
      let fits : Fits program (lists_in (outcome_of c)) (counts_in (outcome_of c)) = subst (λ (k : CountsShape). Fits program (lists_in (outcome_of c)) k) (sym counts) (subst (λ (l : ListsShape). Fits program l (counts_of c)) (sym lists) r.0) in
      let same : outcome_of (replay program (lists_in (outcome_of c)) (counts_in (outcome_of c))) ≡ outcome_of c = (λ i. outcome_of (replay program (lists i) (counts i))) ∙ ap outcome_of r.1 in
      let right : IsReplayed program (outcome_of c) = record { fits = fits; outcome = same } in
      subst (IsReplayed program) (sym e) right

  pub plain_within : total (counts_in o) ≤ n
  plain_within = subst (λ (q : OutcomeShape). total (counts_in q) ≤ n) (sym e) (subst (λ (k : CountsShape). total k ≤ n) (sym (counts_shown (plain_run n program))) (plain_runs_spend n program).0)

  not_budget : (b : Bool) → cond false Budget (cond b Blocked End) ≡ Budget → ⊥
  not_budget true q = cc
  not_budget false q = cc

  stuck_ends : (c : Configuration) → IsStuck c → verdict_of c ≡ Budget → ⊥
  stuck_ends c h q = not_budget (list_any is_awaiting (statuses_of c)) (sym (ap (λ b. cond b Budget (cond (list_any is_awaiting (statuses_of c)) Blocked End)) h) ∙ q)

  pub plain_spent : IsSpent n o
  plain_spent =
      let c : Configuration = plain_run n program in
      let here : IsSpent n (outcome_of c) = λ q. ⊎_elim (λ stuck. absurd (stuck_ends c stuck q)) (λ all. ap total (counts_shown c) ∙ all) (plain_runs_spend n program).1 in
      subst (IsSpent n) (sym e) here

-- the population of a run that was told where its activities stand
pub placed : (p q : Population) (program : Tree) (c : Configuration) → IsReachedPopulation p program c → ((c : Configuration) → IsPopulation p c → IsPopulation q c) → IsReachedPopulation q program c
placed p q program c h same = record { bare = h.bare; reached = h.reached; population = same c h.population }
