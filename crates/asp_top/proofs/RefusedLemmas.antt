-- Reports that are refused.
use Rattle.std.proofs.Common.{◌≡◌, ℕ, ◌<◌, ◌≤◌, List, Some, None, length, refl, sym, ap, subst, ◌∙◌, ◌⊎◌, inl, inr, arith}
use Rattle.asp_model.specs.declared.limits.TheConstants.{MOST_REPORT_BYTES}
use Rattle.asp_model.specs.Marked.{Marked}
use Rattle.asp_model.specs.ReadReport.{read_report}
use Rattle.command_line.specs.Task.{TaskShape, Runs, Checks, Rules, Journals, Saves, Resumes, SavesAgain, Replays, Compares, Traces, Makes, task_of}
use Rattle.asp_top.specs.declared.stop.Which.{Which}
use Rattle.asp_top.specs.declared.stop.Which.TheVariants.{First, Second}
use Rattle.asp_top.specs.Seen.{Call, Outside, IsLong, IsUntouched, Takes}
use Rattle.asp_top.specs.Programs.{IsFile, HasProgram, HasReplay, NamesCheckpoint, NamesReport, NamesTrace, place_of}
use Rattle.asp_top.specs.Correct.{Answers}
use Rattle.asp_top.specs.Refusals.{Refusal, Usage, Unread, LongProgram, NoProgram, Unchecked, LongReport, NoReport, Diverges, LongTrace, NoTrace, Unlawful, Unfinished, LongCheckpoint, OtherCheckpoint, NoCheckpoint, Overspent, NoMemory, status_of_refusal, message_of}
use Rattle.asp_top.specs.Endings.{Ends, Written, Refused, Unheard, Unwritten, IsCause, OfWords, OfMemory, OfTask, ComesTo, HoldsFor, IsBehind}
use Rattle.asp_top.specs.Statuses.{CouldNot}
use Rattle.asp_top.specs.Expected.{Has, AsksNoReplay, IsOfFirst, IsRefusedBefore, IsRefusedFor, RefusesReport, RefusesProgram, RefusesReports}
use Rattle.asp_top.proofs.StatusLemmas.{same_task}
use Rattle.asp_top.proofs.ExpectedLemmas.{has_named, long_if, same_file, unread_for}

-- a task names one file for each of its reports
one_name : (task : TaskShape) (which : Which) (name other : List ℕ) → NamesReport task which name → NamesReport task which other → name ≡ other
one_name (Runs file settings depth) which name other h g = absurd h
one_name (Checks file) which name other h g = absurd h
one_name (Rules file settings) which name other h g = absurd h
one_name (Journals file settings) which name other h g = absurd h
one_name (Saves file settings) which name other h g = absurd h
one_name (Resumes file checkpoint settings depth) which name other h g = absurd h
one_name (SavesAgain file checkpoint settings) which name other h g = absurd h
one_name (Replays file report depth) First name other h g = sym h ∙ g
one_name (Replays file report depth) Second name other h g = absurd h
one_name (Compares file report second) First name other h g = sym h ∙ g
one_name (Compares file report second) Second name other h g = sym h ∙ g
one_name (Traces file trace budget depth) which name other h g = absurd h
one_name (Makes pairs settings) which name other h g = absurd h

-- a task that names a report names no trace
pub no_trace : (task : TaskShape) (which : Which) (name other : List ℕ) (budget : ℕ) → NamesReport task which name → NamesTrace task other budget → ⊥
no_trace (Runs file settings depth) which name other budget h g = h
no_trace (Checks file) which name other budget h g = h
no_trace (Rules file settings) which name other budget h g = h
no_trace (Journals file settings) which name other budget h g = h
no_trace (Saves file settings) which name other budget h g = h
no_trace (Resumes file checkpoint settings depth) which name other budget h g = h
no_trace (SavesAgain file checkpoint settings) which name other budget h g = h
no_trace (Replays file report depth) which name other budget h g = g
no_trace (Compares file report second) which name other budget h g = g
no_trace (Traces file trace most depth) which name other budget h g = h
no_trace (Makes pairs settings) which name other budget h g = h

-- nor does it name a checkpoint
pub no_checkpoint : (task : TaskShape) (which : Which) (name other : List ℕ) (budget : ℕ) → NamesReport task which name → NamesCheckpoint task other budget → ⊥
no_checkpoint (Runs file settings depth) which name other budget h g = h
no_checkpoint (Checks file) which name other budget h g = h
no_checkpoint (Rules file settings) which name other budget h g = h
no_checkpoint (Journals file settings) which name other budget h g = h
no_checkpoint (Saves file settings) which name other budget h g = h
no_checkpoint (Resumes file checkpoint settings depth) which name other budget h g = h
no_checkpoint (SavesAgain file checkpoint settings) which name other budget h g = h
no_checkpoint (Replays file report depth) which name other budget h g = g
no_checkpoint (Compares file report second) which name other budget h g = g
no_checkpoint (Traces file trace most depth) which name other budget h g = h
no_checkpoint (Makes pairs settings) which name other budget h g = h

-- where a task is answered, each report that it names fits its program
replays_at : (o : Outside) (task : TaskShape) (text : List ℕ) (status : ℕ) → Answers o task text status → (which : Which) (name : List ℕ) → NamesReport task which name
    → (program : Marked) × HasProgram o task program × HasReplay o (place_of which) name program
replays_at o (Runs file settings depth) text status a which name n = absurd n
replays_at o (Checks file) text status a which name n = absurd n
replays_at o (Rules file settings) text status a which name n = absurd n
replays_at o (Journals file settings) text status a which name n = absurd n
replays_at o (Saves file settings) text status a which name n = absurd n
replays_at o (Resumes file checkpoint settings depth) text status a which name n = absurd n
replays_at o (SavesAgain file checkpoint settings) text status a which name n = absurd n
replays_at o (Replays file report depth) text status a First name n = (
  a.0.program,
  a.0.given,
  subst (λ (l : List ℕ). HasReplay o 1 l a.0.program) n (record { lists = a.0.lists; counts = a.0.counts; old = a.2; fits = a.0.fits }),
)
replays_at o (Replays file report depth) text status a Second name n = absurd n
replays_at o (Compares file report other) text status a First name n = (a.0.program, a.0.given, subst (λ (l : List ℕ). HasReplay o 1 l a.0.program) n a.0.first)
replays_at o (Compares file report other) text status a Second name n = (a.0.program, a.0.given, subst (λ (l : List ℕ). HasReplay o 2 l a.0.program) n a.0.second)
replays_at o (Traces file trace budget depth) text status a which name n = absurd n
replays_at o (Makes pairs settings) text status a which name n = absurd n

-- the one of two reports that is meant is this one, comes before it, or behind it
data Turn (which one : Which) : Type 0 where
  Here : one ≡ which → Turn which one
  Before : which ≡ Second → one ≡ First → Turn which one
  Behind : which ≡ First → one ≡ Second → Turn which one

turn : (which one : Which) → Turn which one
turn First First = Here refl
turn First Second = Behind refl refl
turn Second First = Before refl refl
turn Second Second = Here refl

module _ (c : Call) (a : AsksNoReplay c) where
  abbrev End : ℕ → Type 0
  End status = RefusesReport c a status ⊎ RefusesProgram c status ⊎ CouldNot c status

  never_replays : (program : Marked) → HasProgram c.outside a.task program → HasReplay c.outside (place_of a.which) a.name program → ⊥
  never_replays program given h =
      let r = h.old in
      let same : r.bytes ≡ a.report = same_file c.outside (place_of a.which) a.name MOST_REPORT_BYTES a.report r.bytes a.had r.file in
      elim a.unfit [
        | inl long ↦ let short : length a.report ≤ MOST_REPORT_BYTES = subst (λ (l : List ℕ). length l ≤ MOST_REPORT_BYTES) same r.file.within in omega (arith, long, short)
        | inr none ↦ none program given (record { lists = h.lists; counts = h.counts; reads = ap read_report (sym same) ∙ r.reads; fits = h.fits })
      ]

  -- its cause is one of this report's, or of the one before it
  abbrev IsCaused : Marked → Refusal → Type 0
  IsCaused program r = IsRefusedFor program a.which a.report r ⊎ IsRefusedBefore c.outside a.task a.which r

  here : (name : List ℕ) → NamesReport a.task a.which name → Has c.outside (place_of a.which) name a.report
  here name n = has_named c.outside (place_of a.which) a.name name a.report (one_name a.task a.which a.name name a.named n) a.had

  told_as : (name other : List ℕ) → NamesReport a.task a.which name → IsFile c.outside (place_of a.which) name MOST_REPORT_BYTES other → other ≡ a.report
  told_as name other n f = same_file c.outside (place_of a.which) name MOST_REPORT_BYTES a.report other (here name n) f

  refused_by : (r : Refusal) (program : Marked) → HasProgram c.outside a.task program → IsCaused program r → IsUntouched c.out → Takes c.err (message_of r) → (status : ℕ) → status ≡ 9 → End status
  refused_by r program given cause u t status e = inl (record { program = program; given = given; refusal = r; cause = cause; told = t; untouched = u; answered = e })

  -- where another one is refused, it is the one before this one: the one behind it comes where this one fits
  fits_first : (one : Which) (name : List ℕ) (program : Marked) → ComesTo c.outside a.task one name program → a.which ≡ First → one ≡ Second → ⊥
  fits_first one name program comes this other =
      let b : IsBehind c.outside a.task program Second = subst (λ (w : Which). IsBehind c.outside a.task program w) other comes.behind in
      let named : NamesReport a.task First a.name = subst (λ (w : Which). NamesReport a.task w a.name) this a.named in
      let same : b.0 ≡ a.name = one_name a.task First b.0 a.name b.1 named in
      let fits : HasReplay c.outside 1 a.name program = subst (λ (l : List ℕ). HasReplay c.outside 1 l program) same b.2 in
      never_replays program comes.given (subst (λ (w : Which). HasReplay c.outside (place_of w) a.name program) (sym this) fits)

  caused_by : (R : Which → Refusal) (one : Which) (name : List ℕ) (program : Marked) → ComesTo c.outside a.task one name program → HoldsFor c.outside a.task (R one) → IsOfFirst (R First)
      → (one ≡ a.which → IsRefusedFor program a.which a.report (R one)) → Turn a.which one → IsCaused program (R one)
  caused_by R one name program comes h first this (Here e) = inl (this e)
  caused_by R one name program comes h first this (Before e d) =
      inr (subst (λ (w : Which). IsRefusedBefore c.outside a.task w (R one)) (sym e) (subst (λ (w : Which). IsOfFirst (R w)) (sym d) first, h))
  caused_by R one name program comes h first this (Behind e d) = absurd (fits_first one name program comes e d)

  -- the refusals that a task may hold, each with what was taken
  no_replay_end : (r : Refusal) (status : ℕ) → HoldsFor c.outside a.task r → IsUntouched c.out → Takes c.err (message_of r) → status ≡ status_of_refusal r → End status
  no_replay_end Usage status h u t e = absurd h
  no_replay_end (Unread name) status h u t e = inr (inr (inl (e, unread_for c.outside a.task name h)))
  no_replay_end LongProgram status h u t e = inr (inl (e, inl (OfTask a.task a.asked h)))
  no_replay_end (NoProgram fault) status h u t e = inr (inl (e, inr (inl (fault, OfTask a.task a.asked h))))
  no_replay_end (Unchecked fault) status h u t e = inr (inl (e, inr (inr (fault, OfTask a.task a.asked h))))
  no_replay_end (LongReport one) status h u t e =
      let this : one ≡ a.which → IsRefusedFor h.program a.which a.report (LongReport one) = λ s.
      let named = subst (λ (w : Which). NamesReport a.task w h.name) s h.comes.named in
      (s, long_if c.outside (place_of a.which) h.name a.report MOST_REPORT_BYTES (here h.name named) (subst (λ (w : Which). IsLong c.outside (place_of w) h.name MOST_REPORT_BYTES) s h.long)) in
      refused_by (LongReport one) h.program h.comes.given (caused_by (λ w. LongReport w) one h.name h.program h.comes h tt this (turn a.which one)) u t status e
  no_replay_end (NoReport one line) status h u t e =
      let this : one ≡ a.which → IsRefusedFor h.program a.which a.report (NoReport one line) = λ s.
      let named = subst (λ (w : Which). NamesReport a.task w h.name) s h.comes.named in
      let file = subst (λ (w : Which). IsFile c.outside (place_of w) h.name MOST_REPORT_BYTES h.bytes) s h.file in
      (s, ap read_report (sym (told_as h.name h.bytes named file)) ∙ h.reads) in
      refused_by (NoReport one line) h.program h.comes.given (caused_by (λ w. NoReport w line) one h.name h.program h.comes h tt this (turn a.which one)) u t status e
  no_replay_end (Diverges one activity) status h u t e =
      let this : one ≡ a.which → IsRefusedFor h.program a.which a.report (Diverges one activity) = λ s.
      let named = subst (λ (w : Which). NamesReport a.task w h.name) s h.comes.named in
      let file = subst (λ (w : Which). IsFile c.outside (place_of w) h.name MOST_REPORT_BYTES h.old.bytes) s h.old.file in
      (s, h.lists, h.counts, ap read_report (sym (told_as h.name h.old.bytes named file)) ∙ h.old.reads, h.least) in
      refused_by (Diverges one activity) h.program h.comes.given (caused_by (λ w. Diverges w activity) one h.name h.program h.comes h tt this (turn a.which one)) u t status e
  no_replay_end LongTrace status h u t e = absurd (no_trace a.task a.which a.name h.name h.budget a.named h.comes.named)
  no_replay_end (NoTrace line) status h u t e = absurd (no_trace a.task a.which a.name h.name h.budget a.named h.comes.named)
  no_replay_end (Unlawful entry) status h u t e = absurd (no_trace a.task a.which a.name h.name h.budget a.named h.comes.named)
  no_replay_end Unfinished status h u t e = absurd (no_trace a.task a.which a.name h.name h.budget a.named h.comes.named)
  no_replay_end LongCheckpoint status h u t e = absurd (no_checkpoint a.task a.which a.name h.name h.budget a.named h.comes.named)
  no_replay_end OtherCheckpoint status h u t e = absurd (no_checkpoint a.task a.which a.name h.name h.budget a.named h.comes.named)
  no_replay_end NoCheckpoint status h u t e = absurd (no_checkpoint a.task a.which a.name h.name h.budget a.named h.comes.named)
  no_replay_end Overspent status h u t e = absurd (no_checkpoint a.task a.which a.name h.name h.budget a.named h.comes.named)
  no_replay_end NoMemory status h u t e = inr (inr (inr (inr e)))

  no_replay_refused : (r : Refusal) (status : ℕ) → IsCause c r → IsUntouched c.out → Takes c.err (message_of r) → status ≡ status_of_refusal r → End status
  no_replay_refused r status (OfWords x n) u t e = let no : None ≡ Some a.task = sym n ∙ a.asked in absurd cc
  no_replay_refused r status (OfMemory x) u t e = inr (inr (inr (inr (e ∙ ap status_of_refusal x))))
  no_replay_refused r status (OfTask task asked h) u t e =
      no_replay_end r status (subst (λ (k : TaskShape). HoldsFor c.outside k r) (same_task c.words task a.task asked a.asked) h) u t e

  refused_report : (status : ℕ) → Ends c status → End status
  refused_report status (Written text w took still) =
      let answer : Answers c.outside a.task text status = subst (λ (t : TaskShape). Answers c.outside t text status) (same_task c.words w.task a.task w.asked a.asked) w.answer in
      let g = replays_at c.outside a.task text status answer a.which a.name a.named in
      absurd (never_replays g.0 g.1 g.2)
  refused_report status (Refused r h u t e) = no_replay_refused r status h u t e
  refused_report status (Unheard r h u t e) = inr (inr (inr (inl (e, inr t.0))))
  refused_report status (Unwritten text other w took told e) = inr (inr (inr (inl (e, inl took.0))))

pub refuses_report : {c : Call} {status : ℕ} → Ends c status → RefusesReports c status
refuses_report {c} {status} ends a = refused_report c a status ends
