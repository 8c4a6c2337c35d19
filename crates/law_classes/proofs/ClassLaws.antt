-- The laws of families that are complete by classes.
use Rattle.std.specs.Prelude.{◌≡◌, ◌≤◌, ℕ, suc, List, [], ◌∷◌, ◌++◌, Option, Some, None, length, map}
use Rattle.std.proofs.Common.{refl, sym, ap, subst, ◌∙◌, arith, length-append}
use Rattle.asp_model.specs.Names.{Name, Text}
use Rattle.asp_model.specs.Term.{Tree}
use Rattle.asp_model.specs.Configuration.{Activity, Configuration, start}
use Rattle.asp_model.specs.Step.{step}
use Rattle.asp_model.specs.Status.{IsStuck}
use Rattle.asp_model.specs.Replay.{counts_of, total, replay}
use Rattle.def_paths.specs.Outcomes.{EndShape, end_of}
use Rattle.law_steps.specs.Reached.{IsReached, RunsTo}
use Rattle.law_steps.proofs.ReachedLemmas.{leads_on, runs_go_on}
use Rattle.law_steps.proofs.ReplayLemmas.{replays_are_runs}
use Rattle.law_steps.proofs.LinkedLemmas.{stuck_is_still}
use Rattle.law_steps.proofs.SpendLemmas.{counts_sum}
use Rattle.law_steps.proofs.SystemJoins.{stopped_end}
use Rattle.law_steps.proofs.JoinLemmas.{NobodySteps}
use Rattle.law_services.specs.Correct.{unlogged_end}
use Rattle.law_families.proofs.CutLemmas.{free_run}
use Rattle.law_classes.specs.Alike.{AreAlike, AsksInClass}
use Rattle.law_classes.specs.Runs.{view, first_state}
use Rattle.law_classes.specs.Families.{ClassEnd, state_of}
use Rattle.law_classes.specs.Complete.{RunsLeadOn, StuckRunsAreAlike, RunsEnd, FittingAreWithin}
use Rattle.law_classes.proofs.AlikeLemmas.{alike_steps, alike_back}
use Rattle.law_classes.proofs.OutcomeLemmas.{alike_outcomes}
use Rattle.law_classes.proofs.StateLemmas.{view_alike, asks_alike, system}
use Rattle.law_classes.proofs.RunLemmas.{real_run, still_state, still_at, good_start}
use Rattle.law_classes.proofs.WithinLemmas.{within_end}

pub runs_lead_on : RunsLeadOn
runs_lead_on K program all ns c whole run =
    let x = within_end K program all whole ns c run in
    let w = x.0 in
    let e = whole.ended w.end w.has in
    let z = stopped_end (system K program w.end.1) e.names w.names (first_state K program) (state_of K w.end) (view K c, w.logs) (good_start K program) e.run w.run (λ q v s. absurd (still_state K program w.end.1 w.end.0 w.end.1 e.reached (still_at program w.end.0 e.reached e.stuck) q v s)) in
    let r = real_run K program w.end.1 z.labels c w.logs (state_of K w.end) x.1 z.run in
    record { end = w.end; has = w.has; more = z.labels; last = r.0; run = r.1; alike = view_alike K r.0 w.end.0 r.2 }

-- a run that leads on from where nobody steps has no steps
nothing_more : (c : Configuration) (ns : List Name) (d : Configuration) → NobodySteps c → RunsTo None c ns d → c ≡ d
nothing_more c [] d none run = run
nothing_more c (n ∷ ns) d none run = absurd (none n run.0 run.1)

pub stuck_runs_are_alike : StuckRunsAreAlike
stuck_runs_are_alike K program all ns c whole run stuck =
    let reached = (within_end K program all whole ns c run).1 in
    let x = runs_lead_on K program all ns c whole run in
    let e = whole.ended x.end x.has in
    let alike : AreAlike K c x.end.0 = subst (λ d. AreAlike K d x.end.0) (sym (nothing_more c x.more x.last (still_at program c reached stuck) x.run)) x.alike in
    (x.end, x.has, alike, alike_outcomes K program c x.end.0 reached e.reached alike e.asks)

-- Reductions

abbrev count_shown : EndShape → Name × ℕ
count_shown e = (e.report.name, e.report.count)

counts_shown : (c : Configuration) (es : List (Name × Activity)) → map count_shown (map unlogged_end (map (end_of c) es)) ≡ map (λ x. (x.0, x.1.reductions)) es
counts_shown c [] = refl
counts_shown c (e ∷ es) = ap (λ l. (e.0, e.1.reductions) ∷ l) (counts_shown c es)

-- what is alike with a stuck end is stuck
stuck_alike : (K : Text → ℕ) (program : Tree) (c x : Configuration) → IsReached program c → IsReached program x → AreAlike K c x → ((n : Name) → AsksInClass K x n) → IsStuck x → IsStuck c
stuck_alike K program c x reached end alike asks stuck = (stuck_is_still program c reached).1 (λ n. by_step n (step None c n) refl)
  where
    by_step : (n : Name) (o : Option Configuration) → step None c n ≡ o → step None c n ≡ None
    by_step n None is = is
    by_step n (Some d) is =
        let y = alike_steps K program c x d n reached end alike (asks_alike K x c n (alike_back K c x alike) (asks n)) is in
        absurd (still_at program x end stuck n y.0 y.1)

pub runs_end : RunsEnd
runs_end K program all ns c whole run =
    let reached = (within_end K program all whole ns c run).1 in
    let x = runs_lead_on K program all ns c whole run in
    let e = whole.ended x.end x.has in
    let last = runs_go_on program None x.more c x.last reached x.run in
    let same : counts_of x.last ≡ counts_of x.end.0 = sym (counts_shown x.last x.last.activities) ∙ ap (λ o. map count_shown o.ends) (alike_outcomes K program x.last x.end.0 last e.reached x.alike e.asks) ∙ counts_shown x.end.0 x.end.0.activities in
    let a = counts_sum program None ns c run in
    let b = counts_sum program None (ns ++ x.more) x.last (leads_on (λ m a b. step None a m ≡ Some b) ns x.more (start program) c x.last run x.run) in
    let t : total (counts_of x.last) ≡ total (counts_of x.end.0) = ap total same in
    (x.end, x.has, omega (arith, a, b, t, length-append ns x.more), λ free. by_more x.end x.last x.more x.run (stuck_alike K program x.last x.end.0 last e.reached x.alike e.asks e.stuck) a b t free)
  where
    by_more : (end : ClassEnd) (d : Configuration) (ms : List Name) → RunsTo None c ms d → IsStuck d → total (counts_of c) ≡ length ns → total (counts_of d) ≡ length (ns ++ ms) → total (counts_of d) ≡ total (counts_of end.0) → (IsStuck c → ⊥) → suc (total (counts_of c)) ≤ total (counts_of end.0)
    by_more end d [] same stuck a b t free = absurd (free (subst IsStuck (sym same) stuck))
    by_more end d (m ∷ ms) more stuck a b t free = omega (arith, a, b, t, length-append ns (m ∷ ms))

pub fitting_are_within : FittingAreWithin
fitting_are_within K program all lists counts whole fits =
    let r = replays_are_runs program lists counts in
    let c = replay program lists counts in
    let run = free_run lists r.0 (start program) c r.1 in
    (runs_end K program all r.0 c whole run, stuck_runs_are_alike K program all r.0 c whole run)
