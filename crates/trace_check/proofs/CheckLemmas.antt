-- What is accepted and what is refused.
use Rattle.std.proofs.Common.{◌≡◌, ◌+◌, ◌≤◌, ◌++◌, ◌∷◌, ◌&&◌, [], ℕ, zero, suc, nat_lt, Bool, true, false, List, Option, Some, None, length, map, slice_get, take, refl, sym, ap, subst, ◌∙◌, arith}
use Rattle.std.specs.Prelude.{cond, min}
use Rattle.std.specs.List.{list_any}
use Rattle.std.proofs.lemmas.Simd.{map-map}
use Rattle.asp_model.specs.Configuration.{Configuration}
use Rattle.asp_model.specs.Status.{VerdictShape, Blocked, Budget, End, is_awaiting, is_running, statuses_of, verdict_of}
use Rattle.asp_model.specs.Replay.{counts_of, total}
use Rattle.asp_model.specs.History.{EntryShape, program_history}
use Rattle.asp_model.specs.Term.{Tree}
use Rattle.def_journals.specs.Journals.{RunShape, all_entered, entered, begun, run_of, start_of}
use Rattle.law_chases.proofs.FutureLemmas.{no_some, none_true, some_is}
use Rattle.law_core.specs.Outcomes.{IsBudgeted}
use Rattle.law_core.proofs.OutcomeLemmas.{journals_end}
use Rattle.law_journals.specs.Budgets.{granted_in, spent_in}
use Rattle.law_journals.proofs.BudgetLemmas.{budgets_are_kept}
use Rattle.law_steps.proofs.WholeLemmas.{start_is_sound}
use Rattle.law_journals.proofs.GrowingLemmas.{all_then, entered_then}
use Rattle.law_traces.specs.Standings.{Ended, IsEndedJournal, Out, StandingShape, Unfinished, standing_of, standing_by, least_out}
use Rattle.def_journals.specs.Owed.{goes_on}
use Rattle.journal_runs.specs.declared.runs.JournalRun.{JournalRun}
use Rattle.journal_runs.specs.declared.standing.Standing.{Standing}
use Rattle.journal_runs.specs.declared.standing.Standing.TheVariants as standing
use Rattle.journal_runs.specs.Runs.{IsRedone, IsRunOf, IsStanding}
use Rattle.trace_check.specs.declared.error.TraceStop.{TraceStop}
use Rattle.trace_check.specs.declared.error.TraceStop.TheVariants as stop
use Rattle.asp_model.specs.Outcome.{ActivityReportShape, activity_report, counts_in, outcome_of}
use Rattle.asp_model.specs.Shapes.{outcome_shape}
use Rattle.def_paths.specs.Outcomes.{whole_outcome_of}
use Rattle.run_ends.specs.Ends.{IsEndOf}
use Rattle.run_ends.specs.declared.ends.RunEnd.{RunEnd}
use Rattle.trace_check.specs.Checks.{EndedAreAccepted, IsCheckedEnd, IsOpen, IsStop, IsUnlawfulAt}

-- Entries and the one behind them

taken_more : {A : Type 0} (xs : List A) (k : ℕ) (x : A) → slice_get xs k ≡ Some x → take (suc k) xs ≡ take k xs ++ x ∷ []
taken_more [] k x h = no_some h
taken_more (y ∷ ys) zero x h = ap (λ z. z ∷ []) (some_is h)
taken_more (y ∷ ys) (suc k) x h = ap (λ zs. y ∷ zs) (taken_more ys k x h)

split_at : {A : Type 0} (xs : List A) (k : ℕ) (x : A) → slice_get xs k ≡ Some x → (ys : List A) × (xs ≡ take k xs ++ x ∷ ys)
split_at [] k x h = no_some h
split_at (y ∷ ys) zero x h = (ys, ap (λ z. z ∷ ys) (some_is h))
split_at (y ∷ ys) (suc k) x h = let r = split_at ys k x h in (r.0, ap (λ zs. y ∷ zs) r.1)

pub redone_more : {A : Type 0} (xs : List A) (k : ℕ) (x : A) → slice_get xs k ≡ Some x → take k xs ++ x ∷ [] ≡ take (k + 1) xs
redone_more xs k x h = let e : suc k ≡ k + 1 = omega arith in subst (λ n. take k xs ++ x ∷ [] ≡ take n xs) e (sym (taken_more xs k x h))

-- Laws

-- a refused entry stands in no lawful journal
refused_none : (program : Tree) (budget : ℕ) (entries : List EntryShape) (k : ℕ) (run : RunShape) → IsUnlawfulAt program budget entries k → run_of (program_history program budget entries) ≡ Some run → ⊥
refused_none program budget entries k run u lawful =
    let r = split_at entries k u.entry u.at in
    let first : RunShape = begun program budget in
    let none : all_entered (take k entries ++ u.entry ∷ r.0) first ≡ None =
    entered_then (take k entries) (u.entry ∷ r.0) first
    ∙ ap (all_then (u.entry ∷ r.0)) u.lawful
    ∙ ap (λ (o : Option RunShape). elim o [ None ↦ None | Some t ↦ all_entered r.0 t ]) u.refused in
    no_some (sym none ∙ ap (λ es. all_entered es first) (sym r.1) ∙ lawful)

open_not : (v : VerdictShape) (s : StandingShape) → s ≡ Ended v → IsOpen s → ⊥
open_not v s e h = subst IsOpen e h

pub ended_are_accepted : EndedAreAccepted
ended_are_accepted program budget entries (stop.Unlawful k) ended h = absurd (refused_none program budget entries h.0 ended.run h.2 ended.lawful)
ended_are_accepted program budget entries stop.Unfinished ended h =
    let same : h.run ≡ ended.run = some_is (sym h.lawful ∙ ended.lawful) in
    absurd (open_not (verdict_of ended.run.configuration) (standing_of ended.run) ended.ended (subst (λ s. IsOpen (standing_of s)) same h.stands))
ended_are_accepted program budget entries stop.Memory ended h = refl

-- Standings

pub out_open : (x : StandingShape) (k : ℕ) → IsStanding x (standing.Out k) → IsOpen x
out_open (Out j) k h = tt
out_open Unfinished k h = absurd h
out_open (Ended v) k h = absurd h

pub unfinished_open : (x : StandingShape) → IsStanding x standing.Unfinished → IsOpen x
unfinished_open (Out j) h = absurd h
unfinished_open Unfinished h = tt
unfinished_open (Ended v) h = absurd h

-- who has ended, has with the verdict of the configuration
pub ended_so : (s : RunShape) → IsStanding (standing_of s) standing.Ended → standing_of s ≡ Ended (verdict_of s.configuration)
ended_so s h = by (least_out s.out) h
  where
    by_going : (b : Bool) → IsStanding (elim b [ true ↦ Unfinished | false ↦ Ended (verdict_of s.configuration) ]) standing.Ended → elim b [ true ↦ Unfinished | false ↦ Ended (verdict_of s.configuration) ] ≡ Ended (verdict_of s.configuration)
    by_going true h = absurd h
    by_going false h = refl

    by : (o : Option ℕ) → IsStanding (standing_by o s) standing.Ended → standing_by o s ≡ Ended (verdict_of s.configuration)
    by (Some k) h = absurd h
    by None h = by_going (goes_on s) h

-- The entries that were redone

-- one more was, or cannot be
pub redone_so : (x : JournalRun) (program : Tree) (budget : ℕ) (entries : List EntryShape) (o : Option RunShape) → IsRedone x program budget entries o true → (s : RunShape) × IsRunOf x program budget entries s
redone_so x program budget entries (Some s) h = (s, h)
redone_so x program budget entries None h = absurd h

pub refused_so : (x : JournalRun) (program : Tree) (budget : ℕ) (entries : List EntryShape) (o : Option RunShape) → IsRedone x program budget entries o false → o ≡ None
refused_so x program budget entries (Some s) h = absurd h
refused_so x program budget entries None h = refl

-- Lists

pub got_mapped : {A B : Type 0} (f : A → B) (xs : List A) (k : ℕ) (x : A) → slice_get xs k ≡ Some x → slice_get (map f xs) k ≡ Some (f x)
got_mapped f [] k x h = no_some h
got_mapped f (y ∷ ys) zero x h = ap (λ z. Some (f z)) (some_is h)
got_mapped f (y ∷ ys) (suc k) x h = got_mapped f ys k x h

pub take_past : {A : Type 0} (xs : List A) (k : ℕ) → length xs ≤ k → take k xs ≡ xs
take_past [] zero h = refl
take_past [] (suc k) h = refl
take_past (x ∷ xs) zero h = absurd (omega (arith, h))
take_past (x ∷ xs) (suc k) h = ap (λ ys. x ∷ ys) (take_past xs k (omega (arith, h)))

-- Budgets

-- the lesser of a number and another, where there is one
abbrev lesser : ℕ → Option ℕ → Option ℕ
lesser k o = elim o [ None ↦ Some k | Some j ↦ Some (min k j) ]

-- nobody is out where there is no least number
nobody : (out : List (ℕ × ℕ)) → least_out out ≡ None → granted_in out ≡ 0
nobody [] h = refl
nobody (x ∷ xs) h = by (least_out xs) h
  where
    by : (o : Option ℕ) → lesser x.0 o ≡ None → granted_in (x ∷ xs) ≡ 0
    by None e = no_some (sym e)
    by (Some k) e = no_some (sym e)

-- where a run has ended, nobody is out, and it does not go on
at_rest : (s : RunShape) (v : VerdictShape) → standing_of s ≡ Ended v → (least_out s.out ≡ None) × (goes_on s ≡ false)
at_rest s v h = by (least_out s.out) refl h
  where
    by_going : (b : Bool) → goes_on s ≡ b → elim b [ true ↦ Unfinished | false ↦ Ended (verdict_of s.configuration) ] ≡ Ended v → goes_on s ≡ false
    by_going true e g = absurd (subst IsOpen g tt)
    by_going false e g = e

    by : (o : Option ℕ) → least_out s.out ≡ o → standing_by o s ≡ Ended v → (least_out s.out ≡ None) × (goes_on s ≡ false)
    by (Some k) e g = absurd (subst IsOpen g tt)
    by None e g = (e, by_going (goes_on s) refl g)

abbrev is_budget : VerdictShape → Bool
is_budget Budget = true
is_budget v = false

verdict_runs : (b a : Bool) → cond b Budget (cond a Blocked End) ≡ Budget → b ≡ true
verdict_runs true a h = refl
verdict_runs false true h = none_true (ap is_budget h)
verdict_runs false false h = none_true (ap is_budget h)

nothing_left : (left : ℕ) (b : Bool) → b ≡ true → (nat_lt 0 left && b) ≡ false → left ≡ 0
nothing_left left b runs none = by (nat_lt 0 left) refl (ap (λ x. nat_lt 0 left && x) (sym runs) ∙ none)
  where
    by : (x : Bool) → nat_lt 0 left ≡ x → (x && true) ≡ false → left ≡ 0
    by true is h = none_true (sym h)
    by false is h = grind (arith, is)

shown_counts : (c : Configuration) → counts_in (outcome_of c) ≡ counts_of c
shown_counts c = map-map (λ (r : ActivityReportShape). (r.name, r.count)) (activity_report c) c.activities

-- the counts of an ended journal keep within its budget
spends : (program : Tree) (budget : ℕ) (entries : List EntryShape) (s : RunShape) → run_of (program_history program budget entries) ≡ Some s → standing_of s ≡ Ended (verdict_of s.configuration) → IsBudgeted budget (outcome_of s.configuration)
spends program budget entries s lawful ended =
    let c = s.configuration in
    let none : spent_in (start_of program).configuration ≡ 0 = refl in
    let kept = budgets_are_kept (program_history program budget entries) s (start_is_sound program) lawful in
    let rest = at_rest s (verdict_of c) ended in
    let out = nobody s.out rest.0 in
    let sums : total (counts_in (outcome_of c)) ≡ total (counts_of c) = ap total (shown_counts c) in
    record {
      within = omega (arith, none, kept, sums);
      spent = λ is.
          let runs : list_any is_running (statuses_of c) ≡ true = verdict_runs (list_any is_running (statuses_of c)) (list_any is_awaiting (statuses_of c)) is in
          let left = nothing_left s.left (list_any is_running (statuses_of c)) runs rest.1 in
          omega (arith, none, kept, sums, out, left);
    }

-- The end

pub checked_end : (x : JournalRun) (program : Tree) (budget : ℕ) (entries : List EntryShape) (s : RunShape) → IsRunOf x program budget entries s → IsStanding (standing_of s) standing.Ended → (e : RunEnd) → IsEndOf e (whole_outcome_of s.configuration) → outcome_shape e.outcome ≡ outcome_of s.configuration → IsCheckedEnd program budget entries e
checked_end x program budget entries s r h e end outcome = record {
  ended = record { run = s; lawful = r.lawful; ended = ended_so s h };
  end = end;
  outcome = outcome;
  replayed = journals_end program budget entries s r.bare r.lawful;
  budgeted = spends program budget entries s r.lawful (ended_so s h);
}

pub open_stop : (x : JournalRun) (program : Tree) (budget : ℕ) (entries : List EntryShape) (s : RunShape) → IsRunOf x program budget entries s → IsOpen (standing_of s) → IsStop program budget entries stop.Unfinished
open_stop x program budget entries s r h = record { run = s; lawful = r.lawful; stands = h }
