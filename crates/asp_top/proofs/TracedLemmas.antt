-- What is read of a trace, and why there is nothing of it.
use Rattle.std.proofs.Common.{◌≡◌, ◌⊎◌, ℕ, suc, ◌<◌, ◌≤◌, List, Option, Some, None, Result, Ok, Err, length, refl, sym, ap, subst, ◌∙◌, inl, inr, arith}
use Rattle.asp_model.specs.declared.limits.TheConstants.{MOST_TRACE_BYTES}
use Rattle.asp_model.specs.History.{EntryShape}
use Rattle.asp_model.specs.Marked.{Marked, plain}
use Rattle.asp_model.specs.Term.{Tree}
use Rattle.asp_edge.specs.Told.{SourceTells}
use Rattle.law_traces.specs.Standings.{IsEndedJournal}
use Rattle.trace_text.specs.declared.error.TraceError.{TraceError}
use Rattle.trace_text.specs.declared.error.TraceError.TheVariants as trace
use Rattle.trace_text.specs.Progress.{TellsOf}
use Rattle.trace_text.specs.Traces.{read_trace}
use Rattle.trace_check.specs.declared.error.TraceStop.{TraceStop}
use Rattle.trace_check.specs.declared.error.TraceStop.TheVariants as checked
use Rattle.trace_check.specs.Checks.{IsStop, IsUnfinished, IsUnlawfulAt}
use Rattle.command_line.specs.Task.{TaskShape, Runs, Checks, Rules, Journals, Saves, Resumes, SavesAgain, Replays, Compares, Traces, Makes, task_of}
use Rattle.asp_top.specs.declared.stop.Stop.{Stop}
use Rattle.asp_top.specs.declared.stop.Which.{Which}
use Rattle.asp_top.specs.Seen.{Call, Outside, IsUntouched, Takes, outside_between}
use Rattle.asp_top.specs.Programs.{IsFile, IsInFile, HasProgram, HasTrace, NamesCheckpoint, NamesTrace, AsksInTurn}
use Rattle.asp_top.specs.Correct.{Answers}
use Rattle.asp_top.specs.Refusals.{Refusal, Usage, Unread, LongProgram, NoProgram, Unchecked, LongReport, NoReport, Diverges, LongTrace, NoTrace, Unlawful, Unfinished, LongCheckpoint, OtherCheckpoint, NoCheckpoint, Overspent, NoMemory, status_of_refusal, message_of}
use Rattle.asp_top.specs.Endings.{Ends, Written, Refused, Unheard, Unwritten, IsCause, OfWords, OfMemory, OfTask, OfTrace, ComesToTrace, HoldsFor}
use Rattle.asp_top.specs.Statuses.{CouldNot}
use Rattle.asp_top.specs.Expected.{AsksNoTrace, IsUntracedFor, RefusesProgram, RefusesTrace, RefusesTraces}
use Rattle.asp_top.specs.Stops.{AsksOnce, checked_stop, trace_stop}
use Rattle.asp_top.specs.Traced.{RefusedInRun, RefusedInTrace, StopsInRun, StopsInTrace}
use Rattle.asp_top.proofs.AskLemmas.{fails_later, long_later}
use Rattle.asp_top.proofs.PrepareLemmas.{file_later}
use Rattle.asp_top.proofs.StatusLemmas.{same_task}
use Rattle.asp_top.proofs.ExpectedLemmas.{has_named, long_if, same_file, unread_for}
use Rattle.asp_top.proofs.RefusedLemmas.{no_trace}

-- Stops

pub text_refused : (o : Outside) (name bytes : List ℕ) (e : TraceError) → IsFile o 0 name MOST_TRACE_BYTES bytes → TellsOf (read_trace bytes) e → StopsInTrace o name (trace_stop e)
text_refused o name bytes (trace.BadLine line) file h = (bytes, file, h)
text_refused o name bytes trace.Memory file h = tt

pub trace_stops : (o : Outside) (place : ℕ) (name : List ℕ) (program : Tree) (budget : ℕ) (r : Refusal) → RefusedInTrace o place name r → RefusedInRun o place name program budget r
trace_stops o place name program budget Usage h = h
trace_stops o place name program budget (Unread other) h = h
trace_stops o place name program budget LongProgram h = h
trace_stops o place name program budget (NoProgram fault) h = h
trace_stops o place name program budget (Unchecked fault) h = h
trace_stops o place name program budget (LongReport which) h = h
trace_stops o place name program budget (NoReport which line) h = h
trace_stops o place name program budget (Diverges which activity) h = h
trace_stops o place name program budget LongTrace h = h
trace_stops o place name program budget (NoTrace line) h = h
trace_stops o place name program budget (Unlawful entry) h = absurd h
trace_stops o place name program budget Unfinished h = absurd h
trace_stops o place name program budget LongCheckpoint h = h
trace_stops o place name program budget OtherCheckpoint h = h
trace_stops o place name program budget NoCheckpoint h = h
trace_stops o place name program budget Overspent h = h
trace_stops o place name program budget NoMemory h = h

pub run_stops : (o : Outside) (name : List ℕ) (program : Tree) (budget : ℕ) (entries : List EntryShape) → HasTrace o 0 name entries → (s : TraceStop) → IsStop program budget entries s → StopsInRun o name program budget (checked_stop s)
run_stops o name program budget entries old (checked.Unlawful k) h = (entries, old, h.0, h.1, h.2)
run_stops o name program budget entries old checked.Unfinished h = (entries, old, h)
run_stops o name program budget entries old checked.Memory h = tt

-- a trace that is read behind a program

module _ {S : Type 0} (told : S → SourceTells) (first middle last : S) (file : List ℕ) (names : List (List ℕ))
    (one : AsksOnce (outside_between told first middle) file) (two : AsksInTurn (outside_between told middle last) names) (same : (told middle).content ≡ (told first).content) where
  abbrev behind : Outside
  behind = outside_between told middle last

  abbrev whole : Outside
  whole = outside_between told first last

  pub trace_later : (place : ℕ) (name : List ℕ) (entries : List EntryShape) → HasTrace behind place name entries → HasTrace whole (suc place) name entries
  trace_later place name entries h = record { bytes = h.bytes; file = file_later told first middle last file names one two same place name MOST_TRACE_BYTES h.bytes h.file; reads = h.reads }

  pub untraced_later : (place : ℕ) (name : List ℕ) (program : Tree) (budget : ℕ) → (told first).faults ≤ (told middle).faults
      → (r : Refusal) → RefusedInRun behind place name program budget r → RefusedInRun whole (suc place) name program budget r
  untraced_later place name program budget later Usage h = absurd h
  untraced_later place name program budget later (Unread other) h = (h.0, fails_later told first middle last file names one two place other later h.1)
  untraced_later place name program budget later LongProgram h = absurd h
  untraced_later place name program budget later (NoProgram fault) h = absurd h
  untraced_later place name program budget later (Unchecked fault) h = absurd h
  untraced_later place name program budget later (LongReport which) h = absurd h
  untraced_later place name program budget later (NoReport which line) h = absurd h
  untraced_later place name program budget later (Diverges which activity) h = absurd h
  untraced_later place name program budget later LongTrace h = long_later told first middle last file names one two place name MOST_TRACE_BYTES same h
  untraced_later place name program budget later (NoTrace line) h = (h.0, file_later told first middle last file names one two same place name MOST_TRACE_BYTES h.0 h.1, h.2)
  untraced_later place name program budget later (Unlawful entry) h = (h.0, trace_later place name h.0 h.1, h.2, h.3, h.4)
  untraced_later place name program budget later Unfinished h = (h.0, trace_later place name h.0 h.1, h.2)
  untraced_later place name program budget later LongCheckpoint h = absurd h
  untraced_later place name program budget later OtherCheckpoint h = absurd h
  untraced_later place name program budget later NoCheckpoint h = absurd h
  untraced_later place name program budget later Overspent h = absurd h
  untraced_later place name program budget later NoMemory h = tt

-- why there is nothing of the trace of a task

module _ (o : Outside) (file name : List ℕ) (budget : ℕ) (depth : Option ℕ) (program : Marked) (given : IsInFile o file program) where
  abbrev task : TaskShape
  task = Traces file name budget depth

  comes : ComesToTrace o task name budget program
  comes = record { given = given; named = (refl, refl) }

  pub untraced : (r : Refusal) → RefusedInRun o 1 name (plain program) budget r → HoldsFor o task r
  untraced Usage h = absurd h
  untraced (Unread other) h = OfTrace budget program (subst (λ (n : List ℕ). ComesToTrace o task n budget program) h.0 comes) h.1
  untraced LongProgram h = absurd h
  untraced (NoProgram fault) h = absurd h
  untraced (Unchecked fault) h = absurd h
  untraced (LongReport which) h = absurd h
  untraced (NoReport which line) h = absurd h
  untraced (Diverges which activity) h = absurd h
  untraced LongTrace h = record { program = program; name = name; budget = budget; comes = comes; long = h }
  untraced (NoTrace line) h = record { program = program; name = name; budget = budget; comes = comes; bytes = h.0; file = h.1; reads = h.2 }
  untraced (Unlawful entry) h = record { program = program; name = name; budget = budget; comes = comes; entries = h.0; old = h.1; number = h.2; is = h.3; unlawful = h.4 }
  untraced Unfinished h = record { program = program; name = name; budget = budget; comes = comes; entries = h.0; old = h.1; unfinished = h.2 }
  untraced LongCheckpoint h = absurd h
  untraced OtherCheckpoint h = absurd h
  untraced NoCheckpoint h = absurd h
  untraced Overspent h = absurd h
  untraced NoMemory h = tt

-- Traces that are refused

-- a task names one trace
one_trace : (task : TaskShape) (name other : List ℕ) (budget most : ℕ) → NamesTrace task name budget → NamesTrace task other most → (other ≡ name) × (most ≡ budget)
one_trace (Runs file settings depth) name other budget most h g = absurd h
one_trace (Checks file) name other budget most h g = absurd h
one_trace (Rules file settings) name other budget most h g = absurd h
one_trace (Journals file settings) name other budget most h g = absurd h
one_trace (Saves file settings) name other budget most h g = absurd h
one_trace (Resumes file checkpoint settings depth) name other budget most h g = absurd h
one_trace (SavesAgain file checkpoint settings) name other budget most h g = absurd h
one_trace (Replays file report depth) name other budget most h g = absurd h
one_trace (Compares file report second) name other budget most h g = absurd h
one_trace (Traces file trace limit depth) name other budget most h g = (sym g.0 ∙ h.0, sym g.1 ∙ h.1)
one_trace (Makes pairs settings) name other budget most h g = absurd h

-- a task that names a trace names no checkpoint
pub none_of_both : (task : TaskShape) (name other : List ℕ) (budget most : ℕ) → NamesTrace task name budget → NamesCheckpoint task other most → ⊥
none_of_both (Runs file settings depth) name other budget most h g = h
none_of_both (Checks file) name other budget most h g = h
none_of_both (Rules file settings) name other budget most h g = h
none_of_both (Journals file settings) name other budget most h g = h
none_of_both (Saves file settings) name other budget most h g = h
none_of_both (Resumes file checkpoint settings depth) name other budget most h g = h
none_of_both (SavesAgain file checkpoint settings) name other budget most h g = h
none_of_both (Replays file report depth) name other budget most h g = h
none_of_both (Compares file report second) name other budget most h g = h
none_of_both (Traces file trace limit depth) name other budget most h g = g
none_of_both (Makes pairs settings) name other budget most h g = h

-- where a task is answered, the trace that it names is one of its program that has ended
record TracedAt (o : Outside) (task : TaskShape) (name : List ℕ) (budget : ℕ) : Type 0 where
  pub program : Marked
  pub given : HasProgram o task program
  pub entries : List EntryShape
  pub old : HasTrace o 1 name entries
  pub journal : IsEndedJournal (plain program) budget entries

traced_at : (o : Outside) (task : TaskShape) (text : List ℕ) (status : ℕ) → Answers o task text status → (name : List ℕ) (budget : ℕ) → NamesTrace task name budget → TracedAt o task name budget
traced_at o (Runs file settings depth) text status a name budget n = absurd n
traced_at o (Checks file) text status a name budget n = absurd n
traced_at o (Rules file settings) text status a name budget n = absurd n
traced_at o (Journals file settings) text status a name budget n = absurd n
traced_at o (Saves file settings) text status a name budget n = absurd n
traced_at o (Resumes file checkpoint settings depth) text status a name budget n = absurd n
traced_at o (SavesAgain file checkpoint settings) text status a name budget n = absurd n
traced_at o (Replays file report depth) text status a name budget n = absurd n
traced_at o (Compares file report other) text status a name budget n = absurd n
traced_at o (Traces file trace most depth) text status a name budget n = record {
  program = a.0.program;
  given = a.0.given;
  entries = a.4.entries;
  old = subst (λ (l : List ℕ). HasTrace o 1 l a.4.entries) n.0 a.4.old;
  journal = subst (λ (b : ℕ). IsEndedJournal (plain a.0.program) b a.4.entries) n.1 a.4.lawful.journal;
}
traced_at o (Makes pairs settings) text status a name budget n = absurd n

module _ (c : Call) (a : AsksNoTrace c) where
  abbrev End : ℕ → Type 0
  End status = RefusesTrace c a status ⊎ RefusesProgram c status ⊎ CouldNot c status

  never_traced : TracedAt c.outside a.task a.name a.budget → ⊥
  never_traced t =
      let same : t.old.bytes ≡ a.trace = same_file c.outside 1 a.name MOST_TRACE_BYTES a.trace t.old.bytes a.had t.old.file in
      elim a.unfit [
        | inl long ↦ let short : length a.trace ≤ MOST_TRACE_BYTES = subst (λ (l : List ℕ). length l ≤ MOST_TRACE_BYTES) same t.old.file.within in omega (arith, long, short)
        | inr none ↦ none t.program t.given (record { entries = t.entries; reads = ap read_trace (sym same) ∙ t.old.reads; journal = t.journal })
      ]

  told_as : (name other : List ℕ) → name ≡ a.name → IsFile c.outside 1 name MOST_TRACE_BYTES other → other ≡ a.trace
  told_as name other n f = same_file c.outside 1 name MOST_TRACE_BYTES a.trace other (has_named c.outside 1 a.name name a.trace (sym n) a.had) f

  named : (name : List ℕ) (budget : ℕ) → NamesTrace a.task name budget → (name ≡ a.name) × (budget ≡ a.budget)
  named name budget n = one_trace a.task a.name name a.budget budget a.named n

  refused_by : (r : Refusal) (program : Marked) → HasProgram c.outside a.task program → IsUntracedFor (plain program) a.budget a.trace r → IsUntouched c.out → Takes c.err (message_of r) → (status : ℕ) → status ≡ 10 → End status
  refused_by r program given cause u t status e = inl (record { program = program; given = given; refusal = r; cause = cause; told = t; untouched = u; answered = e })

  no_trace_end : (r : Refusal) (status : ℕ) → HoldsFor c.outside a.task r → IsUntouched c.out → Takes c.err (message_of r) → status ≡ status_of_refusal r → End status
  no_trace_end Usage status h u t e = absurd h
  no_trace_end (Unread name) status h u t e = inr (inr (inl (e, unread_for c.outside a.task name h)))
  no_trace_end LongProgram status h u t e = inr (inl (e, inl (OfTask a.task a.asked h)))
  no_trace_end (NoProgram fault) status h u t e = inr (inl (e, inr (inl (fault, OfTask a.task a.asked h))))
  no_trace_end (Unchecked fault) status h u t e = inr (inl (e, inr (inr (fault, OfTask a.task a.asked h))))
  no_trace_end (LongReport which) status h u t e = absurd (no_trace a.task which h.name a.name a.budget h.comes.named a.named)
  no_trace_end (NoReport which line) status h u t e = absurd (no_trace a.task which h.name a.name a.budget h.comes.named a.named)
  no_trace_end (Diverges which activity) status h u t e = absurd (no_trace a.task which h.name a.name a.budget h.comes.named a.named)
  no_trace_end LongTrace status h u t e =
      let n = named h.name h.budget h.comes.named in
      refused_by LongTrace h.program h.comes.given (long_if c.outside 1 h.name a.trace MOST_TRACE_BYTES (has_named c.outside 1 a.name h.name a.trace (sym n.0) a.had) h.long) u t status e
  no_trace_end (NoTrace line) status h u t e =
      let n = named h.name h.budget h.comes.named in
      refused_by (NoTrace line) h.program h.comes.given (ap read_trace (sym (told_as h.name h.bytes n.0 h.file)) ∙ h.reads) u t status e
  no_trace_end (Unlawful entry) status h u t e =
      let n = named h.name h.budget h.comes.named in
      let read = ap read_trace (sym (told_as h.name h.old.bytes n.0 h.old.file)) ∙ h.old.reads in
      let unlawful = subst (λ (b : ℕ). IsUnlawfulAt (plain h.program) b h.entries h.number) n.1 h.unlawful in
      refused_by (Unlawful entry) h.program h.comes.given (h.entries, read, h.number, h.is, unlawful) u t status e
  no_trace_end Unfinished status h u t e =
      let n = named h.name h.budget h.comes.named in
      let read = ap read_trace (sym (told_as h.name h.old.bytes n.0 h.old.file)) ∙ h.old.reads in
      let unfinished = subst (λ (b : ℕ). IsUnfinished (plain h.program) b h.entries) n.1 h.unfinished in
      refused_by Unfinished h.program h.comes.given (h.entries, read, unfinished) u t status e
  no_trace_end LongCheckpoint status h u t e = absurd (none_of_both a.task a.name h.name a.budget h.budget a.named h.comes.named)
  no_trace_end OtherCheckpoint status h u t e = absurd (none_of_both a.task a.name h.name a.budget h.budget a.named h.comes.named)
  no_trace_end NoCheckpoint status h u t e = absurd (none_of_both a.task a.name h.name a.budget h.budget a.named h.comes.named)
  no_trace_end Overspent status h u t e = absurd (none_of_both a.task a.name h.name a.budget h.budget a.named h.comes.named)
  no_trace_end NoMemory status h u t e = inr (inr (inr (inr e)))

  no_trace_refused : (r : Refusal) (status : ℕ) → IsCause c r → IsUntouched c.out → Takes c.err (message_of r) → status ≡ status_of_refusal r → End status
  no_trace_refused r status (OfWords x n) u t e = let no : None ≡ Some a.task = sym n ∙ a.asked in absurd cc
  no_trace_refused r status (OfMemory x) u t e = inr (inr (inr (inr (e ∙ ap status_of_refusal x))))
  no_trace_refused r status (OfTask task asked h) u t e =
      no_trace_end r status (subst (λ (k : TaskShape). HoldsFor c.outside k r) (same_task c.words task a.task asked a.asked) h) u t e

  refused_trace : (status : ℕ) → Ends c status → End status
  refused_trace status (Written text w took still) =
      let answer : Answers c.outside a.task text status = subst (λ (t : TaskShape). Answers c.outside t text status) (same_task c.words w.task a.task w.asked a.asked) w.answer in
      absurd (never_traced (traced_at c.outside a.task text status answer a.name a.budget a.named))
  refused_trace status (Refused r h u t e) = no_trace_refused r status h u t e
  refused_trace status (Unheard r h u t e) = inr (inr (inr (inl (e, inr t.0))))
  refused_trace status (Unwritten text other w took told e) = inr (inr (inr (inl (e, inl took.0))))

pub refuses_trace : {c : Call} {status : ℕ} → Ends c status → RefusesTraces c status
refuses_trace {c} {status} ends a = refused_trace c a status ends
