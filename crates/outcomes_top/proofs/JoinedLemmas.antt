-- What a complete family says of a run by `asp`.
use Rattle.std.proofs.Common.{◌≡◌, ◌<◌, ℕ, Bool, true, false, List, Option, inl, inr, refl, sym, ap, subst, ◌∙◌, arith}
use Rattle.std.specs.Prelude.{cond}
use Rattle.std.specs.List.{list_any}
use Rattle.asp_model.specs.Term.{Tree}
use Rattle.asp_model.specs.Configuration.{Configuration}
use Rattle.asp_model.specs.Outcome.{ActivityReportShape, exit_status, is_faulted, outcome_of}
use Rattle.asp_model.specs.Replay.{Fits, replay, total}
use Rattle.asp_model.specs.Status.{Blocked, Budget, End, IsStuck, VerdictShape, is_awaiting, is_running, statuses_of, verdict_of}
use Rattle.asp_model.specs.Marked.{plain}
use Rattle.command_line.specs.Settings.{SettingsShape}
use Rattle.command_line.specs.Task.{Runs}
use Rattle.def_paths.specs.Outcomes.{whole_outcome_of}
use Rattle.law_families.specs.Complete.{IsWithinLongest}
use Rattle.law_families.specs.Families.{Has, IsComplete, RunLogs}
use Rattle.law_families.proofs.FamilyLaws.{fitting_are_within}
use Rattle.replay_classes.proofs.CompleteLemmas.{fitting_are_alike}
use Rattle.asp_top.specs.Correct.{Answers, end_of, report_at}
use Rattle.asp_top.specs.Ended.{IsEnded}
use Rattle.asp_top.specs.Seen.{Outside}
use Rattle.outcomes_top.specs.Families.{AreAll, longest_of}
use Rattle.outcomes_top.specs.Joined.{EndedRunsAreAlike, EndedRunsAreFound, LooksAs, SpentRunsAreShort}
use Rattle.outcomes_top.proofs.AlikeLemmas.{look_alike}
use Rattle.outcomes_top.proofs.FamilyLemmas.{is_within_longest}

-- status 5 is that of a run which can go on

low : (n : ℕ) (b : Bool) → n ≡ 5 → n ≡ cond b 1 0 → ⊥
low n true e h = omega (arith, e, h)
low n false e h = omega (arith, e, h)

spent_verdict : (n : ℕ) (v : VerdictShape) (activities : List ActivityReportShape) → n ≡ 5 → n ≡ exit_status (record { verdict = v; activities = activities }) → v ≡ Budget
spent_verdict n End activities e h = absurd (low n (list_any (λ a. is_faulted a.status) activities) e h)
spent_verdict n Blocked activities e h = absurd (omega (arith, e, h))
spent_verdict n Budget activities e h = refl

not_budget : (b : Bool) → cond b Blocked End ≡ Budget → ⊥
not_budget true q = cc
not_budget false q = cc

pub free_verdict : (c : Configuration) → verdict_of c ≡ Budget → IsStuck c → ⊥
free_verdict c q h = not_budget (list_any is_awaiting (statuses_of c)) (sym (ap (λ (b : Bool). cond b Budget (cond (list_any is_awaiting (statuses_of c)) Blocked End)) h) ∙ q)

-- a run that cannot go on is stuck
pub stuck_unless : (c : Configuration) → (verdict_of c ≡ Budget → ⊥) → IsStuck c
stuck_unless c h = elim (list_any is_running (statuses_of c)) as (λ b. list_any is_running (statuses_of c) ≡ b → b ≡ false) [
  | true ↦ λ r. absurd (h (ap (λ (b : Bool). cond b Budget (cond (list_any is_awaiting (statuses_of c)) Blocked End)) r))
  | false ↦ λ r. refl
] refl

five : (v : VerdictShape) (activities : List ActivityReportShape) → v ≡ Budget → exit_status (record { verdict = v; activities = activities }) ≡ 5
five End activities e = absurd cc
five Blocked activities e = absurd cc
five Budget activities e = refl

not_five : (status : ℕ) → IsEnded status → status ≡ 5 → ⊥
not_five status (inl h) e = omega (arith, h, e)
not_five status (inr (inl h)) e = omega (arith, h, e)
not_five status (inr (inr h)) e = omega (arith, h, e)

-- and others are those of stuck runs
stuck_at : (c : Configuration) (status : ℕ) → status ≡ exit_status (outcome_of c) → IsEnded status → IsStuck c
stuck_at c status e h = elim (list_any is_running (statuses_of c)) as (λ b. list_any is_running (statuses_of c) ≡ b → b ≡ false) [
  | true ↦ λ r. absurd (not_five status h (e ∙ five (verdict_of c) (outcome_of c).activities (ap (λ (b : Bool). cond b Budget (cond (list_any is_awaiting (statuses_of c)) Blocked End)) r)))
  | false ↦ λ r. refl
] refl

-- what a run of the program leaves: its logs and counts fit, and its report is that of their replay
module _ (o : Outside) (file : List ℕ) (settings : SettingsShape) (depth : Option ℕ) (report : List ℕ) (status : ℕ) (program : Tree)
    (a : Answers o (Runs file settings depth) report status) (same : plain a.0.program ≡ program) where
  abbrev left : Configuration
  left = replay program a.0.lists a.0.counts

  fits : Fits program a.0.lists a.0.counts
  fits = subst (λ (t : Tree). Fits t a.0.lists a.0.counts) same a.0.fits

  written : report ≡ report_at depth left
  written = a.1.0 ∙ ap (λ (t : Tree). report_at depth (replay t a.0.lists a.0.counts)) same

  stuck : IsEnded status → IsStuck left
  stuck ended = subst (λ (t : Tree). IsStuck (replay t a.0.lists a.0.counts)) same (stuck_at (end_of a.0) status a.1.1 ended)

  pub found : (ends : List RunLogs) → IsEnded status → IsComplete program ends → (x : RunLogs) × Has ends x × (report ≡ report_at depth (replay program x.0 x.1))
  found ends ended complete = ((a.0.lists, a.0.counts), (fitting_are_within program ends a.0.lists a.0.counts complete fits).1 (stuck ended), written)

  pub alike : (by_classes : Bool) (ends : List RunLogs) → IsEnded status → AreAll by_classes program ends → (x : RunLogs) × Has ends x × LooksAs depth (replay program x.0 x.1) report
  alike false ends ended complete = let x = found ends ended complete in (x.0, x.1, record { other = replay program x.0.0 x.0.1; is = x.2; seen = refl })
  alike true ends ended complete =
      let x = (fitting_are_alike program ends a.0.lists a.0.counts complete fits).1 (stuck ended) in
      (x.0, x.1, record { other = left; is = written; seen = look_alike depth (whole_outcome_of left) (whole_outcome_of (replay program x.0.0 x.0.1)) x.2 })

  within : (by_classes : Bool) (ends : List RunLogs) → AreAll by_classes program ends → IsWithinLongest ends program a.0.lists a.0.counts
  within false ends complete = (fitting_are_within program ends a.0.lists a.0.counts complete fits).0
  within true ends complete = (fitting_are_alike program ends a.0.lists a.0.counts complete fits).0

  pub short : (by_classes : Bool) (ends : List RunLogs) → status ≡ 5 → AreAll by_classes program ends → settings.budget < longest_of ends
  short by_classes ends five complete =
      let verdict : verdict_of (end_of a.0) ≡ Budget = spent_verdict status (verdict_of (end_of a.0)) (outcome_of (end_of a.0)).activities five a.1.1 in
      let free : IsStuck left → ⊥ = subst (λ (t : Tree). IsStuck (replay t a.0.lists a.0.counts) → ⊥) same (free_verdict (end_of a.0) verdict) in
      let w : IsWithinLongest ends program a.0.lists a.0.counts = within by_classes ends complete in
      let spent : total a.0.counts ≡ settings.budget = a.3.1 verdict in
      omega (arith, spent, w.3 free, is_within_longest 0 ends w.0 w.1)

pub ended_runs_are_found : EndedRunsAreFound
ended_runs_are_found o file settings depth report status program ends a ended same complete = found o file settings depth report status program a same ends ended complete

pub ended_runs_are_alike : EndedRunsAreAlike
ended_runs_are_alike o file settings depth report status program by_classes ends a ended same complete = alike o file settings depth report status program a same by_classes ends ended complete

pub spent_runs_are_short : SpentRunsAreShort
spent_runs_are_short o file settings depth report program by_classes ends a same complete = short o file settings depth report 5 program a same by_classes ends refl complete
