-- The causes of single statuses.
use Rattle.std.proofs.Common.{◌≡◌, ℕ, List, None, false, refl, sym, subst, ◌∙◌, ◌⊎◌, inl, inr}
use Rattle.std.specs.Prelude.{nat_eq}
use Rattle.command_line.specs.Task.{task_of}
use Rattle.asp_top.specs.Seen.{Call, SomeReadFails, Fails}
use Rattle.asp_top.specs.Correct.{IsReported}
use Rattle.asp_top.specs.Refusals.{Refusal, Usage, Unread, LongProgram, NoProgram, Unchecked, LongReport, NoReport, Diverges, LongTrace, NoTrace, Unlawful, Unfinished, LongCheckpoint, OtherCheckpoint, NoCheckpoint, Overspent, NoMemory, status_of_refusal}
use Rattle.asp_top.specs.Endings.{Ends, Written, Refused, Unheard, Unwritten, IsCause, OfWords, OfMemory, OfTask, OfProgram, OfReport, OfTrace, OfCheckpoint}
use Rattle.asp_top.specs.Programs.{place_of}
use Rattle.asp_top.specs.Statuses.{IsUnfit, IsNotReplayed, IsNotResumed, IsNotTraced}
use Rattle.asp_top.proofs.StatusLemmas.{answers_reported, clash, no_report}

usage_cause : (c : Call) → IsCause c Usage → task_of c.words ≡ None
usage_cause c (OfWords u n) = n
usage_cause c (OfMemory u) = absurd cc
usage_cause c (OfTask other o h) = absurd h

unread_cause : (c : Call) (name : List ℕ) → IsCause c (Unread name) → SomeReadFails c.outside
unread_cause c name (OfWords u n) = absurd cc
unread_cause c name (OfMemory u) = absurd cc
unread_cause c name (OfTask task o (OfProgram n fails)) = (0, name, fails)
unread_cause c name (OfTask task o (OfReport which program comes fails)) = (place_of which, name, fails)
unread_cause c name (OfTask task o (OfTrace budget program comes fails)) = (1, name, fails)
unread_cause c name (OfTask task o (OfCheckpoint budget program comes fails)) = (1, name, fails)

usage_of : (c : Call) (r : Refusal) → status_of_refusal r ≡ 2 → IsCause c r → task_of c.words ≡ None
usage_of c Usage e h = usage_cause c h
usage_of c (Unread name) e h = absurd cc
usage_of c LongProgram e h = absurd cc
usage_of c (NoProgram fault) e h = absurd cc
usage_of c (Unchecked fault) e h = absurd cc
usage_of c (LongReport which) e h = absurd cc
usage_of c (NoReport which line) e h = absurd cc
usage_of c (Diverges which activity) e h = absurd cc
usage_of c LongTrace e h = absurd cc
usage_of c (NoTrace line) e h = absurd cc
usage_of c (Unlawful entry) e h = absurd cc
usage_of c Unfinished e h = absurd cc
usage_of c LongCheckpoint e h = absurd cc
usage_of c OtherCheckpoint e h = absurd cc
usage_of c NoCheckpoint e h = absurd cc
usage_of c Overspent e h = absurd cc
usage_of c NoMemory e h = absurd cc

unfit_of : (c : Call) (r : Refusal) → status_of_refusal r ≡ 3 → IsCause c r → IsUnfit c
unfit_of c Usage e h = absurd cc
unfit_of c (Unread name) e h = absurd cc
unfit_of c LongProgram e h = inl h
unfit_of c (NoProgram fault) e h = inr (inl (fault, h))
unfit_of c (Unchecked fault) e h = inr (inr (fault, h))
unfit_of c (LongReport which) e h = absurd cc
unfit_of c (NoReport which line) e h = absurd cc
unfit_of c (Diverges which activity) e h = absurd cc
unfit_of c LongTrace e h = absurd cc
unfit_of c (NoTrace line) e h = absurd cc
unfit_of c (Unlawful entry) e h = absurd cc
unfit_of c Unfinished e h = absurd cc
unfit_of c LongCheckpoint e h = absurd cc
unfit_of c OtherCheckpoint e h = absurd cc
unfit_of c NoCheckpoint e h = absurd cc
unfit_of c Overspent e h = absurd cc
unfit_of c NoMemory e h = absurd cc

unread_of : (c : Call) (r : Refusal) → status_of_refusal r ≡ 6 → IsCause c r → SomeReadFails c.outside
unread_of c Usage e h = absurd cc
unread_of c (Unread name) e h = unread_cause c name h
unread_of c LongProgram e h = absurd cc
unread_of c (NoProgram fault) e h = absurd cc
unread_of c (Unchecked fault) e h = absurd cc
unread_of c (LongReport which) e h = absurd cc
unread_of c (NoReport which line) e h = absurd cc
unread_of c (Diverges which activity) e h = absurd cc
unread_of c LongTrace e h = absurd cc
unread_of c (NoTrace line) e h = absurd cc
unread_of c (Unlawful entry) e h = absurd cc
unread_of c Unfinished e h = absurd cc
unread_of c LongCheckpoint e h = absurd cc
unread_of c OtherCheckpoint e h = absurd cc
unread_of c NoCheckpoint e h = absurd cc
unread_of c Overspent e h = absurd cc
unread_of c NoMemory e h = absurd cc

unreplayed_of : (c : Call) (r : Refusal) → status_of_refusal r ≡ 9 → IsCause c r → IsNotReplayed c
unreplayed_of c Usage e h = absurd cc
unreplayed_of c (Unread name) e h = absurd cc
unreplayed_of c LongProgram e h = absurd cc
unreplayed_of c (NoProgram fault) e h = absurd cc
unreplayed_of c (Unchecked fault) e h = absurd cc
unreplayed_of c (LongReport which) e h = (which, inl h)
unreplayed_of c (NoReport which line) e h = (which, inr (inl (line, h)))
unreplayed_of c (Diverges which activity) e h = (which, inr (inr (activity, h)))
unreplayed_of c LongTrace e h = absurd cc
unreplayed_of c (NoTrace line) e h = absurd cc
unreplayed_of c (Unlawful entry) e h = absurd cc
unreplayed_of c Unfinished e h = absurd cc
unreplayed_of c LongCheckpoint e h = absurd cc
unreplayed_of c OtherCheckpoint e h = absurd cc
unreplayed_of c NoCheckpoint e h = absurd cc
unreplayed_of c Overspent e h = absurd cc
unreplayed_of c NoMemory e h = absurd cc

untraced_of : (c : Call) (r : Refusal) → status_of_refusal r ≡ 10 → IsCause c r → IsNotTraced c
untraced_of c Usage e h = absurd cc
untraced_of c (Unread name) e h = absurd cc
untraced_of c LongProgram e h = absurd cc
untraced_of c (NoProgram fault) e h = absurd cc
untraced_of c (Unchecked fault) e h = absurd cc
untraced_of c (LongReport which) e h = absurd cc
untraced_of c (NoReport which line) e h = absurd cc
untraced_of c (Diverges which activity) e h = absurd cc
untraced_of c LongTrace e h = inl h
untraced_of c (NoTrace line) e h = inr (inl (line, h))
untraced_of c (Unlawful entry) e h = inr (inr (inl (entry, h)))
untraced_of c Unfinished e h = inr (inr (inr h))
untraced_of c LongCheckpoint e h = absurd cc
untraced_of c OtherCheckpoint e h = absurd cc
untraced_of c NoCheckpoint e h = absurd cc
untraced_of c Overspent e h = absurd cc
untraced_of c NoMemory e h = absurd cc

unresumed_of : (c : Call) (r : Refusal) → status_of_refusal r ≡ 11 → IsCause c r → IsNotResumed c
unresumed_of c Usage e h = absurd cc
unresumed_of c (Unread name) e h = absurd cc
unresumed_of c LongProgram e h = absurd cc
unresumed_of c (NoProgram fault) e h = absurd cc
unresumed_of c (Unchecked fault) e h = absurd cc
unresumed_of c (LongReport which) e h = absurd cc
unresumed_of c (NoReport which line) e h = absurd cc
unresumed_of c (Diverges which activity) e h = absurd cc
unresumed_of c LongTrace e h = absurd cc
unresumed_of c (NoTrace line) e h = absurd cc
unresumed_of c (Unlawful entry) e h = absurd cc
unresumed_of c Unfinished e h = absurd cc
unresumed_of c LongCheckpoint e h = inl h
unresumed_of c OtherCheckpoint e h = inr (inl h)
unresumed_of c NoCheckpoint e h = inr (inr (inl h))
unresumed_of c Overspent e h = inr (inr (inr h))
unresumed_of c NoMemory e h = absurd cc

not_seven : (r : Refusal) → status_of_refusal r ≡ 7 → ⊥
not_seven Usage e = cc
not_seven (Unread name) e = cc
not_seven LongProgram e = cc
not_seven (NoProgram fault) e = cc
not_seven (Unchecked fault) e = cc
not_seven (LongReport which) e = cc
not_seven (NoReport which line) e = cc
not_seven (Diverges which activity) e = cc
not_seven LongTrace e = cc
not_seven (NoTrace line) e = cc
not_seven (Unlawful entry) e = cc
not_seven Unfinished e = cc
not_seven LongCheckpoint e = cc
not_seven OtherCheckpoint e = cc
not_seven NoCheckpoint e = cc
not_seven Overspent e = cc
not_seven NoMemory e = cc

record HasCause (c : Call) (k : ℕ) : Type 0 where
  pub refusal : Refusal
  pub holds : IsCause c refusal
  pub status : status_of_refusal refusal ≡ k

-- a status that is neither that of an answer nor 7 is that of a refusal
cause : (c : Call) (status k : ℕ) → Ends c status → status ≡ k → (IsReported k → ⊥) → nat_eq 7 k ≡ false → HasCause c k
cause c status k (Written text a took still) h none d = absurd (none (subst IsReported h (answers_reported c.outside a.task text status a.answer)))
cause c status k (Refused r holds u t e) h none d = record { refusal = r; holds = holds; status = sym e ∙ h }
cause c status k (Unheard r holds u t e) h none d = absurd (clash status 7 k e h refl d)
cause c status k (Unwritten text other a took told e) h none d = absurd (clash status 7 k e h refl d)

pub usage_only : {c : Call} {status : ℕ} → Ends c status → status ≡ 2 → task_of c.words ≡ None
usage_only {c} {status} ends h = let x = cause c status 2 ends h (λ r. no_report 2 2 refl r refl) refl in usage_of c x.refusal x.status x.holds

pub program_only : {c : Call} {status : ℕ} → Ends c status → status ≡ 3 → IsUnfit c
program_only {c} {status} ends h = let x = cause c status 3 ends h (λ r. no_report 3 3 refl r refl) refl in unfit_of c x.refusal x.status x.holds

pub read_fault_only : {c : Call} {status : ℕ} → Ends c status → status ≡ 6 → SomeReadFails c.outside
read_fault_only {c} {status} ends h = let x = cause c status 6 ends h (λ r. no_report 6 6 refl r refl) refl in unread_of c x.refusal x.status x.holds

pub replay_only : {c : Call} {status : ℕ} → Ends c status → status ≡ 9 → IsNotReplayed c
replay_only {c} {status} ends h = let x = cause c status 9 ends h (λ r. no_report 9 9 refl r refl) refl in unreplayed_of c x.refusal x.status x.holds

pub trace_only : {c : Call} {status : ℕ} → Ends c status → status ≡ 10 → IsNotTraced c
trace_only {c} {status} ends h = let x = cause c status 10 ends h (λ r. no_report 10 10 refl r refl) refl in untraced_of c x.refusal x.status x.holds

pub resume_only : {c : Call} {status : ℕ} → Ends c status → status ≡ 11 → IsNotResumed c
resume_only {c} {status} ends h = let x = cause c status 11 ends h (λ r. no_report 11 11 refl r refl) refl in unresumed_of c x.refusal x.status x.holds

pub write_fault_only : {c : Call} {status : ℕ} → Ends c status → status ≡ 7 → Fails c.out ⊎ Fails c.err
write_fault_only {c} {status} (Written text a took still) h = absurd (no_report status 7 h (answers_reported c.outside a.task text status a.answer) refl)
write_fault_only (Refused r holds u t e) h = absurd (not_seven r (sym e ∙ h))
write_fault_only (Unheard r holds u t e) h = inr t.0
write_fault_only (Unwritten text other a took told e) h = inl took.0
