-- The reports of runs are read as the lists and counts of the runs.
use Rattle.std.specs.Prelude.{◌≡◌, ◌≤◌, ◌||◌, true, List, [], ◌∷◌, Option, None, Some}
use Rattle.std.specs.List.{starts_with}
use Rattle.std.proofs.Common.{sym, ap, subst, ◌∙◌, arith}
use Rattle.asp_model.specs.declared.limits.TheConstants.{MOST_REDUCTIONS}
use Rattle.asp_model.specs.Names.{Name}
use Rattle.asp_model.specs.Term.{Tree}
use Rattle.asp_model.specs.Configuration.{Configuration, start}
use Rattle.asp_model.specs.Step.{ListsShape, same_reception}
use Rattle.asp_model.specs.Status.{IsStuck}
use Rattle.asp_model.specs.Replay.{CountsShape, total, lists_of, counts_of, log_in, AreCompatible, plain_run, replay, Fits}
use Rattle.asp_model.specs.Outcome.{outcome_of, lists_in, counts_in}
use Rattle.asp_model.specs.WellFormed.{IsWellFormed}
use Rattle.asp_model.specs.ReadReport.{Reads}
use Rattle.def_paths.specs.Outcomes.{WholeOutcome, whole_outcome_of, reported}
use Rattle.law_reports.specs.Depths.{report_to}
use Rattle.law_reports.proofs.DepthLemmas.{depths_are_read}
use Rattle.law_steps.specs.Reached.{RunsTo}
use Rattle.law_steps.specs.Joins.{IsOneSenderEnd, is_narrow}
use Rattle.law_steps.proofs.SenderLemmas.{one_sender_ends}
use Rattle.law_steps.proofs.StepLemmas.{listed_is_free}
use Rattle.law_steps.proofs.ListLemmas.{prefix_same}
use Rattle.law_steps.proofs.MergeLemmas.{test_of_prefix}
use Rattle.law_steps.proofs.JoinLaws.{stuck_runs_agree}
use Rattle.law_steps.proofs.ReachedLemmas.{start_is_reached, runs_go_on}
use Rattle.law_steps.proofs.ReplayLemmas.{runs_replay, plain_runs_replay, plain_runs_are_runs, replays_are_runs}
use Rattle.law_steps.proofs.SpendLemmas.{counts_sum, plain_runs_spend}
use Rattle.law_outcomes.specs.Outcomes.{IsShown, ReportsOfRunsAreRead, ReportsShowReplays, RunsShowReplays, PlainRunsShowReplays, ReplayReportsAreRead, EndReportsAgree, NarrowReportsAreAll}
use Rattle.law_outcomes.specs.Texts.{HasPrintableTexts}
use Rattle.law_outcomes.proofs.LabelLemmas.{labels_are_printable}
use Rattle.law_outcomes.proofs.OutcomeLemmas.{reported_is, outcome_lists, outcome_counts, outcomes_are_well_formed}

pub reports_of_runs_are_read : ReportsOfRunsAreRead
reports_of_runs_are_read depth program c s =
    let o : WholeOutcome = whole_outcome_of c in
    let same : reported o ≡ outcome_of c = reported_is c in
    depths_are_read depth o (subst IsWellFormed (sym same) (outcomes_are_well_formed program c s)) (labels_are_printable program c s.texts s.reached)
    ∙ (λ i. Reads (lists_in (same i)) (counts_in (same i)))
    ∙ (λ i. Reads (outcome_lists c i) (outcome_counts c i))

pub reports_show_replays : ReportsShowReplays
reports_show_replays depth program c s r = record {
  lists = lists_of c;
  counts = counts_of c;
  read = reports_of_runs_are_read depth program c s;
  fits = r.0;
  outcome = ap whole_outcome_of r.1;
}

run_shown : (program : Tree) (lists : Option ListsShape) (names : List Name) (c : Configuration) → HasPrintableTexts program → RunsTo lists (start program) names c → total (counts_of c) ≤ MOST_REDUCTIONS → IsShown program c
run_shown program lists names c texts run within = record { texts = texts; reached = runs_go_on program lists names (start program) c (start_is_reached program) run; within = within }

pub runs_show_replays : RunsShowReplays
runs_show_replays depth program names c texts run within =
    let shown = run_shown program None names c texts run (omega (arith, within, counts_sum program None names c run)) in
    reports_show_replays depth program c shown (runs_replay program names c run)

pub plain_runs_show_replays : PlainRunsShowReplays
plain_runs_show_replays depth n program texts within =
    let c = plain_run n program in
    let r = plain_runs_are_runs n program in
    let shown = run_shown program None r.0 c texts r.1 (omega (arith, within, (plain_runs_spend n program).0)) in
    reports_show_replays depth program c shown (plain_runs_replay n program)

pub replay_reports_are_read : ReplayReportsAreRead
replay_reports_are_read depth program lists counts texts fits within =
    let c = replay program lists counts in
    let r = replays_are_runs program lists counts in
    let few : total (counts_of c) ≤ MOST_REDUCTIONS = subst (λ k. total k ≤ MOST_REDUCTIONS) (sym fits.reached) within in
    reports_of_runs_are_read depth program c (run_shown program (Some lists) r.0 c texts r.1 few) ∙ (λ i. Reads (fits.used_up i) (fits.reached i))

-- Two ended runs with equal lists

-- a run under lists is one without
free_run : (lists : Option ListsShape) (names : List Name) (c d : Configuration) → RunsTo lists c names d → RunsTo None c names d
free_run lists [] c d run = run
free_run lists (n ∷ names) c d run = (run.0, listed_is_free lists c n run.0 run.1, free_run lists names run.0 d run.2)

equal_compatible : (lists others : ListsShape) → lists ≡ others → AreCompatible lists others
equal_compatible lists others e n =
    let begins = test_of_prefix (log_in others n) (log_in lists n) (prefix_same (log_in others n) (log_in lists n) (ap (λ (l : ListsShape). log_in l n) (sym e))) in
    ap (λ b. b || starts_with same_reception (log_in others n) (log_in lists n)) begins

stuck_replays_agree : (program : Tree) (lists : ListsShape) (counts others : CountsShape) → Fits program lists counts → Fits program lists others
    → IsStuck (replay program lists counts) → IsStuck (replay program lists others) → replay program lists counts ≡ replay program lists others
stuck_replays_agree program lists counts others fits fits_too stuck stuck_too =
    let c = replay program lists counts in
    let d = replay program lists others in
    let r = replays_are_runs program lists counts in
    let s = replays_are_runs program lists others in
    stuck_runs_agree program c d (record {
      names = r.0;
      others = s.0;
      run = free_run (Some lists) r.0 (start program) c r.1;
      other = free_run (Some lists) s.0 (start program) d s.1;
      compatible = equal_compatible (lists_of c) (lists_of d) (fits.used_up ∙ sym fits_too.used_up);
    }) stuck stuck_too

pub end_reports_agree : EndReportsAgree
end_reports_agree depth program lists report other r s =
    r.same ∙ ap (λ c. report_to depth (whole_outcome_of c)) (stuck_replays_agree program lists r.counts s.counts r.fits s.fits r.stuck s.stuck) ∙ sym s.same

pub narrow_reports_are_all : NarrowReportsAreAll
narrow_reports_are_all depth program lists others report other r narrow s =
    let c = replay program lists r.counts in
    let d = replay program others s.counts in
    let x = replays_are_runs program lists r.counts in
    let y = replays_are_runs program others s.counts in
    let end : IsOneSenderEnd program c = record {
      names = x.0;
      run = free_run (Some lists) x.0 (start program) c x.1;
      stuck = r.stuck;
      one = λ m. subst (λ l. is_narrow (log_in l m) ≡ true) (sym r.fits.used_up) (narrow m);
    } in
    s.same ∙ ap (λ z. report_to depth (whole_outcome_of z)) (one_sender_ends program c d y.0 end (free_run (Some others) y.0 (start program) d y.1) s.stuck) ∙ sym r.same
