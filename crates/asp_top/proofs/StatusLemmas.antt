-- What the statuses of a call say.
use Rattle.std.proofs.Common.{◌≡◌, ℕ, ◌≤◌, List, Bool, true, false, refl, sym, ap, subst, ◌∙◌, ◌⊎◌, inl, inr, arith}
use Rattle.std.specs.Prelude.{cond, nat_eq, ◌||◌, Some}
use Rattle.std.specs.List.{list_any}
use Rattle.asp_model.specs.Configuration.{Configuration}
use Rattle.asp_model.specs.Status.{VerdictShape, End, Blocked, Budget, IsStuck, is_awaiting, is_running, statuses_of, verdict_of}
use Rattle.asp_model.specs.Outcome.{ActivityReportShape, outcome_of, exit_status, is_faulted}
use Rattle.command_line.specs.Task.{TaskShape, Runs, Checks, Rules, Journals, Saves, Resumes, SavesAgain, Replays, Compares, Traces, Makes, task_of}
use Rattle.asp_top.specs.Comparisons.{Said, Same, Differ, Unended, status_said}
use Rattle.asp_top.specs.Seen.{Call, Outside, IsUntouched, Takes}
use Rattle.asp_top.specs.Resumes.{stop_of}
use Rattle.asp_top.specs.Correct.{Answers, IsReported, IsSaid, ReplaysOf, Reports, end_of}
use Rattle.asp_top.specs.Refusals.{Refusal, Usage, Unread, LongProgram, NoProgram, Unchecked, LongReport, NoReport, Diverges, LongTrace, NoTrace, Unlawful, Unfinished, LongCheckpoint, OtherCheckpoint, NoCheckpoint, Overspent, NoMemory, status_of_refusal}
use Rattle.asp_top.specs.Endings.{IsAnswer, Ends, Written, Refused, Unheard, Unwritten}
use Rattle.asp_top.specs.Ended.{IsEnded}
use Rattle.asp_top.specs.Statuses.{IsEnd, IsBlocked, GoesOn, OfAnswers, HasEnded, HasBlocked, HasSpent, Says, SaysEnd, SaysBlocked, SaysBudget, AreEnded}

-- a number is not two
pub clash : (n k m : ℕ) → n ≡ k → n ≡ m → nat_eq k k ≡ true → nat_eq k m ≡ false → ⊥
clash n k m e h y d = let no : true ≡ false = sym y ∙ ap (nat_eq k) (sym e ∙ h) ∙ d in absurd cc

-- Statuses of outcomes

abbrev pub IsLow : ℕ → Type 0
IsLow n = (n ≡ 0) ⊎ (n ≡ 1)

one_or_zero : (b : Bool) → IsLow (cond b 1 0)
one_or_zero true = inr refl
one_or_zero false = inl refl

low_at : (v : VerdictShape) (activities : List ActivityReportShape) → v ≡ End → IsLow (exit_status (record { verdict = v; activities = activities }))
low_at End activities e = one_or_zero (list_any (λ a. is_faulted a.status) activities)
low_at Blocked activities e = absurd cc
low_at Budget activities e = absurd cc

four_at : (v : VerdictShape) (activities : List ActivityReportShape) → v ≡ Blocked → exit_status (record { verdict = v; activities = activities }) ≡ 4
four_at End activities e = absurd cc
four_at Blocked activities e = refl
four_at Budget activities e = absurd cc

five_at : (v : VerdictShape) (activities : List ActivityReportShape) → v ≡ Budget → exit_status (record { verdict = v; activities = activities }) ≡ 5
five_at End activities e = absurd cc
five_at Blocked activities e = absurd cc
five_at Budget activities e = refl

low_status : (c : Configuration) → verdict_of c ≡ End → IsLow (exit_status (outcome_of c))
low_status c e = low_at (verdict_of c) (outcome_of c).activities e

four_status : (c : Configuration) → verdict_of c ≡ Blocked → exit_status (outcome_of c) ≡ 4
four_status c e = four_at (verdict_of c) (outcome_of c).activities e

pub five_status : (c : Configuration) → verdict_of c ≡ Budget → exit_status (outcome_of c) ≡ 5
five_status c e = five_at (verdict_of c) (outcome_of c).activities e

-- how a replay stops
pub data Stops (c : Configuration) : Type 0 where
  Ended : IsEnd c → Stops c
  Waiting : IsBlocked c → Stops c
  Going : GoesOn c → Stops c

stops_if : (c : Configuration) (running awaiting : Bool) → list_any is_running (statuses_of c) ≡ running → list_any is_awaiting (statuses_of c) ≡ awaiting → Stops c
stops_if c true w h g =
    Going (record {
      verdict = ap (λ (b : Bool). cond b Budget (cond (list_any is_awaiting (statuses_of c)) Blocked End)) h;
      free = λ (s : list_any is_running (statuses_of c) ≡ false). let no : true ≡ false = sym h ∙ s in absurd cc;
    })
stops_if c false true h g =
    Waiting (record {
      verdict = ap (λ (b : Bool). cond b Budget (cond (list_any is_awaiting (statuses_of c)) Blocked End)) h ∙ ap (λ (b : Bool). cond b Blocked End) g;
      stuck = h;
      some_awaits = g;
    })
stops_if c false false h g =
    Ended (record {
      verdict = ap (λ (b : Bool). cond b Budget (cond (list_any is_awaiting (statuses_of c)) Blocked End)) h ∙ ap (λ (b : Bool). cond b Blocked End) g;
      stuck = h;
      none_awaits = g;
    })

pub stops : (c : Configuration) → Stops c
stops c = stops_if c (list_any is_running (statuses_of c)) (list_any is_awaiting (statuses_of c)) refl refl

-- a status that is not 0 or 1
not_low : (n k : ℕ) → n ≡ k → 2 ≤ k → IsLow n → ⊥
not_low n k e h (inl l) = omega (arith, e, h, l)
not_low n k e h (inr l) = omega (arith, e, h, l)

low_of : (n m : ℕ) → n ≡ m → IsLow n → IsLow m
low_of n m e (inl h) = inl (sym e ∙ h)
low_of n m e (inr h) = inr (sym e ∙ h)

module _ (c : Configuration) (status : ℕ) (e : status ≡ exit_status (outcome_of c)) where
  end_at : IsLow status → Stops c → IsEnd c
  end_at h (Ended s) = s
  end_at h (Waiting s) = absurd (not_low status 4 (e ∙ four_status c s.verdict) (omega arith) h)
  end_at h (Going s) = absurd (not_low status 5 (e ∙ five_status c s.verdict) (omega arith) h)

  blocked_at : status ≡ 4 → Stops c → IsBlocked c
  blocked_at h (Ended s) = absurd (not_low (exit_status (outcome_of c)) 4 (sym e ∙ h) (omega arith) (low_status c s.verdict))
  blocked_at h (Waiting s) = s
  blocked_at h (Going s) = absurd (clash status 4 5 h (e ∙ five_status c s.verdict) refl refl)

  going_at : status ≡ 5 → Stops c → GoesOn c
  going_at h (Ended s) = absurd (not_low (exit_status (outcome_of c)) 5 (sym e ∙ h) (omega arith) (low_status c s.verdict))
  going_at h (Waiting s) = absurd (clash status 5 4 h (e ∙ four_status c s.verdict) refl refl)
  going_at h (Going s) = s

  low_reported : IsLow (exit_status (outcome_of c)) → IsReported status
  low_reported (inl h) = inl (e ∙ h)
  low_reported (inr h) = inr (inl (e ∙ h))

  reported_at : Stops c → IsReported status
  reported_at (Ended s) = low_reported (low_status c s.verdict)
  reported_at (Waiting s) = inr (inr (inl (e ∙ four_status c s.verdict)))
  reported_at (Going s) = inr (inr (inr (e ∙ five_status c s.verdict)))

-- with status 5 it can go on
pub budget_at : (c : Configuration) (status : ℕ) → status ≡ exit_status (outcome_of c) → status ≡ 5 → verdict_of c ≡ Budget
budget_at c status e h = (going_at c status e h (stops c)).verdict

-- where a replay has ended, it is stuck
pub stuck_at : (c : Configuration) (status : ℕ) → status ≡ exit_status (outcome_of c) → IsEnded status → IsStuck c
stuck_at c status e h = stuck_by c status e h (stops c)
  where
    not_five : (status : ℕ) → IsEnded status → status ≡ 5 → ⊥
    not_five status (inl h) f = clash status 0 5 h f refl refl
    not_five status (inr (inl h)) f = clash status 1 5 h f refl refl
    not_five status (inr (inr h)) f = clash status 4 5 h f refl refl

    stuck_by : (c : Configuration) (status : ℕ) → status ≡ exit_status (outcome_of c) → IsEnded status → Stops c → IsStuck c
    stuck_by c status e h (Ended s) = s.stuck
    stuck_by c status e h (Waiting s) = s.stuck
    stuck_by c status e h (Going s) = absurd (not_five status h (e ∙ five_status c s.verdict))

-- What is said of two replays

said_reported : (said : Said) (status : ℕ) → status ≡ status_said said → IsReported status
said_reported Same status e = inl e
said_reported (Differ n) status e = inl e
said_reported Unended status e = inr (inr (inr e))

said_low : (said : Said) (status : ℕ) → status ≡ status_said said → IsLow status → status ≡ 0
said_low Same status e h = e
said_low (Differ n) status e h = e
said_low Unended status e (inl h) = h
said_low Unended status e (inr h) = absurd (clash status 1 5 h e refl refl)

module _ {o : Outside} {file name other : List ℕ} (r : ReplaysOf o file name other) where
  said_stuck : (said : Said) (status : ℕ) → IsSaid r said → status ≡ status_said said → status ≡ 0 → AreEnded r
  said_stuck Same status h e low = h.0.stuck
  said_stuck (Differ n) status h e low = h.stuck
  said_stuck Unended status h e low = absurd (clash status 0 5 low e refl refl)

  said_going : (said : Said) (status : ℕ) → IsSaid r said → status ≡ status_said said → status ≡ 5 → IsSaid r Unended
  said_going Same status h e five = absurd (clash status 0 5 e five refl refl)
  said_going (Differ n) status h e five = absurd (clash status 0 5 e five refl refl)
  said_going Unended status h e five = h

not_four : (said : Said) (status : ℕ) → status ≡ status_said said → status ≡ 4 → ⊥
not_four Same status e h = clash status 0 4 e h refl refl
not_four (Differ n) status e h = clash status 0 4 e h refl refl
not_four Unended status e h = clash status 5 4 e h refl refl

-- Answers

pub answers_reported : (o : Outside) (task : TaskShape) (text : List ℕ) (status : ℕ) → Answers o task text status → IsReported status
answers_reported o (Runs file settings depth) text status a = reported_at (end_of a.0) status a.1.1 (stops (end_of a.0))
answers_reported o (Checks file) text status a = inl a.3
answers_reported o (Rules file settings) text status a = reported_at (end_of a.0) status a.1.1 (stops (end_of a.0))
answers_reported o (Journals file settings) text status a = reported_at (end_of a.0) status a.1.1 (stops (end_of a.0))
answers_reported o (Saves file settings) text status a = reported_at (end_of a.0) status a.1.1 (stops (end_of a.0))
answers_reported o (Resumes file name settings depth) text status a = reported_at (stop_of a.0) status a.1.1 (stops (stop_of a.0))
answers_reported o (SavesAgain file name settings) text status a = reported_at (stop_of a.0) status a.1.1 (stops (stop_of a.0))
answers_reported o (Replays file name depth) text status a = reported_at (end_of a.0) status a.1.1 (stops (end_of a.0))
answers_reported o (Compares file name other) text status a = said_reported a.1 status a.4
answers_reported o (Traces file name budget depth) text status a = reported_at (end_of a.0) status a.1.1 (stops (end_of a.0))
answers_reported o (Makes pairs settings) text status a = reported_at (end_of a.0) status a.1.1 (stops (end_of a.0))

has_ended : (o : Outside) (task : TaskShape) (text : List ℕ) (status : ℕ) (a : Answers o task text status) → IsLow status → HasEnded o task text status a
has_ended o (Runs file settings depth) text status a h = end_at (end_of a.0) status a.1.1 h (stops (end_of a.0))
has_ended o (Checks file) text status a h = a.3
has_ended o (Rules file settings) text status a h = end_at (end_of a.0) status a.1.1 h (stops (end_of a.0))
has_ended o (Journals file settings) text status a h = end_at (end_of a.0) status a.1.1 h (stops (end_of a.0))
has_ended o (Saves file settings) text status a h = end_at (end_of a.0) status a.1.1 h (stops (end_of a.0))
has_ended o (Resumes file name settings depth) text status a h = end_at (stop_of a.0) status a.1.1 h (stops (stop_of a.0))
has_ended o (SavesAgain file name settings) text status a h = end_at (stop_of a.0) status a.1.1 h (stops (stop_of a.0))
has_ended o (Replays file name depth) text status a h = end_at (end_of a.0) status a.1.1 h (stops (end_of a.0))
has_ended o (Compares file name other) text status a h =
    let low = said_low a.1 status a.4 h in (low, said_stuck a.0 a.1 status a.2 a.4 low)
has_ended o (Traces file name budget depth) text status a h = end_at (end_of a.0) status a.1.1 h (stops (end_of a.0))
has_ended o (Makes pairs settings) text status a h = end_at (end_of a.0) status a.1.1 h (stops (end_of a.0))

has_blocked : (o : Outside) (task : TaskShape) (text : List ℕ) (status : ℕ) (a : Answers o task text status) → status ≡ 4 → HasBlocked o task text status a
has_blocked o (Runs file settings depth) text status a h = blocked_at (end_of a.0) status a.1.1 h (stops (end_of a.0))
has_blocked o (Checks file) text status a h = clash status 0 4 a.3 h refl refl
has_blocked o (Rules file settings) text status a h = blocked_at (end_of a.0) status a.1.1 h (stops (end_of a.0))
has_blocked o (Journals file settings) text status a h = blocked_at (end_of a.0) status a.1.1 h (stops (end_of a.0))
has_blocked o (Saves file settings) text status a h = blocked_at (end_of a.0) status a.1.1 h (stops (end_of a.0))
has_blocked o (Resumes file name settings depth) text status a h = blocked_at (stop_of a.0) status a.1.1 h (stops (stop_of a.0))
has_blocked o (SavesAgain file name settings) text status a h = blocked_at (stop_of a.0) status a.1.1 h (stops (stop_of a.0))
has_blocked o (Replays file name depth) text status a h = blocked_at (end_of a.0) status a.1.1 h (stops (end_of a.0))
has_blocked o (Compares file name other) text status a h = not_four a.1 status a.4 h
has_blocked o (Traces file name budget depth) text status a h = blocked_at (end_of a.0) status a.1.1 h (stops (end_of a.0))
has_blocked o (Makes pairs settings) text status a h = blocked_at (end_of a.0) status a.1.1 h (stops (end_of a.0))

has_spent : (o : Outside) (task : TaskShape) (text : List ℕ) (status : ℕ) (a : Answers o task text status) → status ≡ 5 → HasSpent o task text status a
has_spent o (Runs file settings depth) text status a h = let g = going_at (end_of a.0) status a.1.1 h (stops (end_of a.0)) in (g, a.3.1 g.verdict)
has_spent o (Checks file) text status a h = clash status 0 5 a.3 h refl refl
has_spent o (Rules file settings) text status a h = let g = going_at (end_of a.0) status a.1.1 h (stops (end_of a.0)) in (g, a.3.1 g.verdict)
has_spent o (Journals file settings) text status a h = let g = going_at (end_of a.0) status a.1.1 h (stops (end_of a.0)) in (g, a.2.1 g.verdict)
has_spent o (Saves file settings) text status a h = let g = going_at (end_of a.0) status a.1.1 h (stops (end_of a.0)) in (g, a.2.1 g.verdict)
has_spent o (Resumes file name settings depth) text status a h = let g = going_at (stop_of a.0) status a.1.1 h (stops (stop_of a.0)) in (g, a.2.spent g.verdict)
has_spent o (SavesAgain file name settings) text status a h = let g = going_at (stop_of a.0) status a.1.1 h (stops (stop_of a.0)) in (g, a.2.spent g.verdict)
has_spent o (Replays file name depth) text status a h = going_at (end_of a.0) status a.1.1 h (stops (end_of a.0))
has_spent o (Compares file name other) text status a h = said_going a.0 a.1 status a.2 a.4 h
has_spent o (Traces file name budget depth) text status a h = let g = going_at (end_of a.0) status a.1.1 h (stops (end_of a.0)) in (g, a.3.1 g.verdict)
has_spent o (Makes pairs settings) text status a h = let g = going_at (end_of a.0) status a.1.1 h (stops (end_of a.0)) in (g, a.2.1 g.verdict)

-- Endings with the status of an answer

abbrev is_report_status : ℕ → Bool
is_report_status n = nat_eq n 0 || (nat_eq n 1 || (nat_eq n 4 || nat_eq n 5))

report_status : (n : ℕ) → IsReported n → is_report_status n ≡ true
report_status n (inl e) = ap is_report_status e
report_status n (inr (inl e)) = ap is_report_status e
report_status n (inr (inr (inl e))) = ap is_report_status e
report_status n (inr (inr (inr e))) = ap is_report_status e

pub no_report : (n k : ℕ) → n ≡ k → IsReported n → is_report_status k ≡ false → ⊥
no_report n k e h d = let no : true ≡ false = sym (report_status n h) ∙ ap is_report_status e ∙ d in absurd cc

-- no refusal has the status of an answer
not_refused : (r : Refusal) (n : ℕ) → n ≡ status_of_refusal r → IsReported n → ⊥
not_refused Usage n e h = no_report n 2 e h refl
not_refused (Unread name) n e h = no_report n 6 e h refl
not_refused LongProgram n e h = no_report n 3 e h refl
not_refused (NoProgram fault) n e h = no_report n 3 e h refl
not_refused (Unchecked fault) n e h = no_report n 3 e h refl
not_refused (LongReport which) n e h = no_report n 9 e h refl
not_refused (NoReport which line) n e h = no_report n 9 e h refl
not_refused (Diverges which activity) n e h = no_report n 9 e h refl
not_refused LongTrace n e h = no_report n 10 e h refl
not_refused (NoTrace line) n e h = no_report n 10 e h refl
not_refused (Unlawful entry) n e h = no_report n 10 e h refl
not_refused Unfinished n e h = no_report n 10 e h refl
not_refused LongCheckpoint n e h = no_report n 11 e h refl
not_refused OtherCheckpoint n e h = no_report n 11 e h refl
not_refused NoCheckpoint n e h = no_report n 11 e h refl
not_refused Overspent n e h = no_report n 11 e h refl
not_refused NoMemory n e h = no_report n 8 e h refl

record WasWritten (c : Call) (status : ℕ) : Type 0 where
  pub text : List ℕ
  pub answered : IsAnswer c text status
  pub takes : Takes c.out text
  pub still : IsUntouched c.err

written : (c : Call) (status : ℕ) → Ends c status → IsReported status → WasWritten c status
written c status (Written text a took still) h = record { text = text; answered = a; takes = took; still = still }
written c status (Refused r holds u t e) h = absurd (not_refused r status e h)
written c status (Unheard r holds u t e) h = absurd (no_report status 7 e h refl)
written c status (Unwritten text other a took told e) h = absurd (no_report status 7 e h refl)

-- words ask for one task
pub same_task : (words : List (List ℕ)) (a b : TaskShape) → task_of words ≡ Some a → task_of words ≡ Some b → a ≡ b
same_task words a b h g = let e : Some a ≡ Some b = sym h ∙ g in cc

pub reports : {c : Call} {status : ℕ} → Ends c status → Reports c status
reports {c} {status} ends task asked h =
    let w = written c status ends h in
    let same = same_task c.words w.answered.task task w.answered.asked asked in
    (w.text, subst (λ (t : TaskShape). Answers c.outside t w.text status) same w.answered.answer, w.takes, w.still)

says : (P : OfAnswers) (c : Call) (status : ℕ) → ((o : Outside) (task : TaskShape) (text : List ℕ) (a : Answers o task text status) → P o task text status a) → WasWritten c status → Says P c status
says P c status p w = record {
  task = w.answered.task;
  asked = w.answered.asked;
  text = w.text;
  answer = w.answered.answer;
  written = w.takes;
  says = p c.outside w.answered.task w.text w.answered.answer;
}

low_is_reported : (n : ℕ) → IsLow n → IsReported n
low_is_reported n (inl e) = inl e
low_is_reported n (inr e) = inr (inl e)

pub ended : {c : Call} {status : ℕ} → Ends c status → IsLow status → SaysEnd c status
ended {c} {status} ends h = says HasEnded c status (λ o task text a. has_ended o task text status a h) (written c status ends (low_is_reported status h))

pub blocked : {c : Call} {status : ℕ} → Ends c status → status ≡ 4 → SaysBlocked c status
blocked {c} {status} ends h = says HasBlocked c status (λ o task text a. has_blocked o task text status a h) (written c status ends (inr (inr (inl h))))

pub spent : {c : Call} {status : ℕ} → Ends c status → status ≡ 5 → SaysBudget c status
spent {c} {status} ends h = says HasSpent c status (λ o task text a. has_spent o task text status a h) (written c status ends (inr (inr (inr h))))
