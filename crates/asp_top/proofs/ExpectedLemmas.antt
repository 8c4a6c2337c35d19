-- Which status is to come.
use Rattle.std.proofs.Common.{◌≡◌, ℕ, ◌+◌, ◌<◌, ◌≤◌, List, Option, Some, None, Ok, Err, length, refl, sym, ap, subst, ◌∙◌, ◌⊎◌, inl, inr, arith}
use Rattle.asp_model.specs.declared.limits.TheConstants.{MOST_CHECKPOINT_BYTES, MOST_PROGRAM_BYTES, MOST_REDUCTIONS, MOST_REPORT_BYTES, MOST_TRACE_BYTES}
use Rattle.asp_model.specs.History.{EntryShape}
use Rattle.asp_model.specs.Marked.{Marked, plain}
use Rattle.asp_model.specs.Term.{Tree}
use Rattle.asp_model.specs.Step.{ListsShape}
use Rattle.asp_model.specs.Replay.{CountsShape, Fits}
use Rattle.asp_model.specs.ReadReport.{read_report, Reads, BadLine}
use Rattle.syntax_grammar.specs.Programs.{IsProgramText}
use Rattle.asp_check.specs.Faults.{IsChecked}
use Rattle.asp_edge.specs.Causes.{IsContent}
use Rattle.asp_edge.specs.declared.edge.ReadError.TheVariants.{TooLong}
use Rattle.trace_text.specs.Traces as Trace
use Rattle.trace_text.specs.Traces.{read_trace}
use Rattle.trace_check.specs.declared.error.TraceStop.{TraceStop}
use Rattle.trace_check.specs.declared.error.TraceStop.TheVariants as checked
use Rattle.trace_check.specs.Checks.{IsStop, IsUnfinished, IsUnlawfulAt}
use Rattle.trace_check.proofs.CheckLemmas.{ended_are_accepted}
use Rattle.law_frozen.specs.Frozen.{FrozenShape, thawed}
use Rattle.checkpoint_text.specs.Reading as reading
use Rattle.checkpoint_text.specs.Reading.{read_checkpoint}
use Rattle.law_program_files.specs.Programs.{printed}
use Rattle.run_files.specs.declared.stop.FileStop.{FileStop}
use Rattle.run_files.specs.declared.stop.FileStop.TheVariants as why
use Rattle.law_journals.specs.Budgets.{spent_in}
use Rattle.run_files.specs.Files.{HasRoom, IsReadAs, IsUsable, StopsFile}
use Rattle.command_line.specs.Task.{TaskShape, Runs, Checks, Rules, Journals, Saves, Resumes, SavesAgain, Replays, Compares, Traces, Makes, task_of}
use Rattle.asp_top.specs.Seen.{Call, Outside, SomeReadFails, IsLong, IsLongContent}
use Rattle.asp_top.specs.Programs.{IsFile, IsText, IsProgramOf, HasProgram, HasReport, HasTrace, NamesProgram, place_of}
use Rattle.asp_top.specs.Correct.{Answers, IsReported}
use Rattle.asp_top.specs.Refusals.{Refusal, Usage, Unread, LongProgram, NoProgram, Unchecked, LongReport, NoReport, Diverges, LongTrace, NoTrace, Unlawful, Unfinished, LongCheckpoint, OtherCheckpoint, NoCheckpoint, Overspent, NoMemory, status_of_refusal}
use Rattle.asp_top.specs.Endings.{Ends, Written, Refused, Unheard, Unwritten, IsCause, OfWords, OfMemory, OfTask, HasNoResume, HoldsFor, IsUnread, OfProgram, OfReport, OfTrace, OfCheckpoint}
use Rattle.asp_top.specs.Statuses.{CouldNot}
use Rattle.asp_top.specs.Expected.{Has, HasShort, HasText, IsCheckpointOf, IsTraceOf, MayReplayAt, MayAnswer, AsksUnfit, Completes, RefusesProgram, RefusesPrograms, IsUsageEnd}
use Rattle.asp_top.proofs.AskLemmas.{one_answer}
use Rattle.asp_top.proofs.StatusLemmas.{answers_reported, same_task}

-- a file that could not be read is a read that failed
pub unread_for : (o : Outside) (task : TaskShape) (name : List ℕ) → IsUnread o task name → SomeReadFails o
unread_for o task name (OfProgram n fails) = (0, name, fails)
unread_for o task name (OfReport which program comes fails) = (place_of which, name, fails)
unread_for o task name (OfTrace budget program comes fails) = (1, name, fails)
unread_for o task name (OfCheckpoint budget program comes fails) = (1, name, fails)

-- What the source has is one text

pub long_if : (o : Outside) (place : ℕ) (name bytes : List ℕ) (most : ℕ) → Has o place name bytes → IsLong o place name most → most < length bytes
long_if o place name bytes most (inl e) l = subst (IsLongContent most) e l.content
long_if o place name bytes most (inr g) l =
    let no : Ok bytes ≡ Err (TooLong l.taken) = one_answer o place name name (Ok bytes) (Err (TooLong l.taken)) g l.gave in absurd cc

too_long : (o : Outside) (place : ℕ) (name bytes : List ℕ) (most : ℕ) → Has o place name bytes → length bytes ≤ most → IsLong o place name most → ⊥
too_long o place name bytes most e h l = let beyond : most < length bytes = long_if o place name bytes most e l in omega (arith, beyond, h)

pub same_file : (o : Outside) (place : ℕ) (name : List ℕ) (most : ℕ) (bytes other : List ℕ) → Has o place name bytes → IsFile o place name most other → other ≡ bytes
same_file o place name most bytes other (inl e) f = subst (λ (c : Option (List ℕ)). IsContent c other) e f.told
same_file o place name most bytes other (inr g) f =
    let e : Ok other ≡ Ok bytes = one_answer o place name name (Ok other) (Ok bytes) f.gave g in cc

same_text : (o : Outside) (task : TaskShape) (bytes other : List ℕ) → HasText o task bytes → IsText o task other → other ≡ bytes
same_text o (Runs file settings depth) bytes other e f = same_file o 0 file MOST_PROGRAM_BYTES bytes other e.0 f
same_text o (Checks file) bytes other e f = same_file o 0 file MOST_PROGRAM_BYTES bytes other e.0 f
same_text o (Rules file settings) bytes other e f = same_file o 0 file MOST_PROGRAM_BYTES bytes other e.0 f
same_text o (Journals file settings) bytes other e f = same_file o 0 file MOST_PROGRAM_BYTES bytes other e.0 f
same_text o (Saves file settings) bytes other e f = same_file o 0 file MOST_PROGRAM_BYTES bytes other e.0 f
same_text o (Resumes file name settings depth) bytes other e f = same_file o 0 file MOST_PROGRAM_BYTES bytes other e.0 f
same_text o (SavesAgain file name settings) bytes other e f = same_file o 0 file MOST_PROGRAM_BYTES bytes other e.0 f
same_text o (Replays file name depth) bytes other e f = same_file o 0 file MOST_PROGRAM_BYTES bytes other e.0 f
same_text o (Compares file name other) bytes found e f = same_file o 0 file MOST_PROGRAM_BYTES bytes found e.0 f
same_text o (Traces file name budget depth) bytes other e f = same_file o 0 file MOST_PROGRAM_BYTES bytes other e.0 f
same_text o (Makes pairs settings) bytes other e f = f ∙ sym e

pub has_named : (o : Outside) (place : ℕ) (file name bytes : List ℕ) → file ≡ name → Has o place file bytes → Has o place name bytes
has_named o place file name bytes n h = subst (λ (l : List ℕ). Has o place l bytes) n h

-- A program that a call may answer

-- no file of the program is too long
program_fits : (o : Outside) (task : TaskShape) (bytes name : List ℕ) → HasText o task bytes → NamesProgram task name → IsLong o 0 name MOST_PROGRAM_BYTES → ⊥
program_fits o (Runs file settings depth) bytes name e n l = too_long o 0 name bytes MOST_PROGRAM_BYTES (has_named o 0 file name bytes n e.0) e.1 l
program_fits o (Checks file) bytes name e n l = too_long o 0 name bytes MOST_PROGRAM_BYTES (has_named o 0 file name bytes n e.0) e.1 l
program_fits o (Rules file settings) bytes name e n l = too_long o 0 name bytes MOST_PROGRAM_BYTES (has_named o 0 file name bytes n e.0) e.1 l
program_fits o (Journals file settings) bytes name e n l = too_long o 0 name bytes MOST_PROGRAM_BYTES (has_named o 0 file name bytes n e.0) e.1 l
program_fits o (Saves file settings) bytes name e n l = too_long o 0 name bytes MOST_PROGRAM_BYTES (has_named o 0 file name bytes n e.0) e.1 l
program_fits o (Resumes file checkpoint settings depth) bytes name e n l = too_long o 0 name bytes MOST_PROGRAM_BYTES (has_named o 0 file name bytes n e.0) e.1 l
program_fits o (SavesAgain file checkpoint settings) bytes name e n l = too_long o 0 name bytes MOST_PROGRAM_BYTES (has_named o 0 file name bytes n e.0) e.1 l
program_fits o (Replays file report depth) bytes name e n l = too_long o 0 name bytes MOST_PROGRAM_BYTES (has_named o 0 file name bytes n e.0) e.1 l
program_fits o (Compares file report other) bytes name e n l = too_long o 0 name bytes MOST_PROGRAM_BYTES (has_named o 0 file name bytes n e.0) e.1 l
program_fits o (Traces file trace budget depth) bytes name e n l = too_long o 0 name bytes MOST_PROGRAM_BYTES (has_named o 0 file name bytes n e.0) e.1 l
program_fits o (Makes pairs settings) bytes name e n l = n

one_reading : (program : Marked) (lists others : ListsShape) (counts more : CountsShape) → Reads lists counts ≡ Reads others more → Fits (plain program) lists counts → Fits (plain program) others more
one_reading program lists others counts more e fits =
    let l : lists ≡ others = cc in
    let c : counts ≡ more = cc in
    subst (λ (x : ListsShape). Fits (plain program) x more) l (subst (λ (x : CountsShape). Fits (plain program) lists x) c fits)

-- a report that fits the program, and is short enough, is refused for nothing
module _ (o : Outside) (place : ℕ) (name : List ℕ) (program : Marked) (m : MayReplayAt o place name program) where
  report_fits : IsLong o place name MOST_REPORT_BYTES → ⊥
  report_fits l = too_long o place name m.0 MOST_REPORT_BYTES m.1.0 m.1.1 l

  report_reads : (bytes : List ℕ) (line : ℕ) → IsFile o place name MOST_REPORT_BYTES bytes → read_report bytes ≡ BadLine line → ⊥
  report_reads bytes line f e =
      let same : bytes ≡ m.0 = same_file o place name MOST_REPORT_BYTES m.0 bytes m.1.0 f in
      let no : Reads m.2.lists m.2.counts ≡ BadLine line = sym m.2.reads ∙ ap read_report (sym same) ∙ e in
      absurd cc

  report_replays : (lists : ListsShape) (counts : CountsShape) → HasReport o place name lists counts → (Fits (plain program) lists counts → ⊥) → ⊥
  report_replays lists counts r unfit =
      let same : r.bytes ≡ m.0 = same_file o place name MOST_REPORT_BYTES m.0 r.bytes m.1.0 r.file in
      let e : Reads m.2.lists m.2.counts ≡ Reads lists counts = sym m.2.reads ∙ ap read_report (sym same) ∙ r.reads in
      unfit (one_reading program m.2.lists lists m.2.counts counts e m.2.fits)

-- a trace of the program that has ended, and is short enough, is refused for nothing
module _ (o : Outside) (name : List ℕ) (program : Tree) (budget : ℕ) (bytes : List ℕ) (had : HasShort o 1 name MOST_TRACE_BYTES bytes) (of : IsTraceOf program budget bytes) where
  pub trace_is_short : IsLong o 1 name MOST_TRACE_BYTES → ⊥
  trace_is_short l = too_long o 1 name bytes MOST_TRACE_BYTES had.0 had.1 l

  pub trace_reads : (other : List ℕ) (line : ℕ) → IsFile o 1 name MOST_TRACE_BYTES other → read_trace other ≡ Trace.BadLine line → ⊥
  trace_reads other line f e =
      let same : other ≡ bytes = same_file o 1 name MOST_TRACE_BYTES bytes other had.0 f in
      let no : Trace.Reads of.entries ≡ Trace.BadLine line = sym of.reads ∙ ap read_trace (sym same) ∙ e in
      absurd cc

  same_entries : (entries : List EntryShape) → HasTrace o 1 name entries → of.entries ≡ entries
  same_entries entries h =
      let same : h.bytes ≡ bytes = same_file o 1 name MOST_TRACE_BYTES bytes h.bytes had.0 h.file in
      let e : Trace.Reads of.entries ≡ Trace.Reads entries = sym of.reads ∙ ap read_trace (sym same) ∙ h.reads in cc

  stopped : (s : TraceStop) → IsStop program budget of.entries s → s ≡ checked.Memory
  stopped s h = ended_are_accepted program budget of.entries s of.journal h

  pub trace_is_lawful : (entries : List EntryShape) (number : ℕ) → HasTrace o 1 name entries → IsUnlawfulAt program budget entries number → ⊥
  trace_is_lawful entries number h u =
      let mine = subst (λ (es : List EntryShape). IsUnlawfulAt program budget es number) (sym (same_entries entries h)) u in
      let no : checked.Unlawful (number + 1) ≡ checked.Memory = stopped (checked.Unlawful (number + 1)) (number, refl, mine) in
      absurd cc

  pub trace_has_ended : (entries : List EntryShape) → HasTrace o 1 name entries → IsUnfinished program budget entries → ⊥
  trace_has_ended entries h u =
      let mine = subst (λ (es : List EntryShape). IsUnfinished program budget es) (sym (same_entries entries h)) u in
      let no : checked.Unfinished ≡ checked.Memory = stopped checked.Unfinished mine in
      absurd cc

-- where a run goes on from the bytes, it does not stop there but for want of memory
one_frozen : (program : Marked) (bytes : List ℕ) (f g : FrozenShape) → IsReadAs program bytes f → read_checkpoint (printed program) bytes ≡ reading.Reads g → g ≡ f
one_frozen program bytes f g h e = let same : reading.Reads g ≡ reading.Reads f = sym e ∙ h.reads in cc

pub never_stops : (program : Marked) (bytes : List ℕ) (budget : ℕ) (f : FrozenShape) → IsReadAs program bytes f → HasRoom f budget → (stop : FileStop) → StopsFile program bytes budget stop → stop ≡ why.Memory
never_stops program bytes budget f h room why.OtherProgram s = let no : reading.Reads f ≡ reading.OtherProgram = sym h.reads ∙ s in absurd cc
never_stops program bytes budget f h room why.Malformed (inl s) = let no : reading.Reads f ≡ reading.Malformed = sym h.reads ∙ s in absurd cc
never_stops program bytes budget f h room why.Malformed (inr s) = absurd (subst (λ (g : FrozenShape). IsUsable g → ⊥) (one_frozen program bytes f s.0 h s.1) s.2 h.usable)
never_stops program bytes budget f h room why.TooMany s =
    let more : MOST_REDUCTIONS < spent_in (thawed f) + budget = subst (λ (g : FrozenShape). MOST_REDUCTIONS < spent_in (thawed g) + budget) (one_frozen program bytes f s.0 h s.1.reads) s.2 in
    let few : spent_in (thawed f) + budget ≤ MOST_REDUCTIONS = room in
    absurd (omega (arith, more, few))
never_stops program bytes budget f h room why.Memory s = refl

pub not_other : why.OtherProgram ≡ why.Memory → ⊥
not_other e = cc

pub not_malformed : why.Malformed ≡ why.Memory → ⊥
not_malformed e = cc

pub not_many : why.TooMany ≡ why.Memory → ⊥
not_many e = cc

-- a checkpoint from which a run goes on, and which is short enough, is refused for nothing
module _ (o : Outside) (name : List ℕ) (program : Marked) (budget : ℕ) (bytes : List ℕ) (had : HasShort o 1 name MOST_CHECKPOINT_BYTES bytes) (of : IsCheckpointOf program budget bytes) where
  checkpoint_is_short : IsLong o 1 name MOST_CHECKPOINT_BYTES → ⊥
  checkpoint_is_short l = too_long o 1 name bytes MOST_CHECKPOINT_BYTES had.0 had.1 l

  run_goes_on : (other : List ℕ) (stop : FileStop) → (stop ≡ why.Memory → ⊥) → IsFile o 1 name MOST_CHECKPOINT_BYTES other → StopsFile program other budget stop → ⊥
  run_goes_on other stop not file s =
      let same : other ≡ bytes = same_file o 1 name MOST_CHECKPOINT_BYTES bytes other had.0 file in
      not (never_stops program bytes budget of.0 of.1 of.2 stop (subst (λ (b : List ℕ). StopsFile program b budget stop) same s))

module _ (c : Call) (m : MayAnswer c) where
  reads_as : (other : List ℕ) → IsText c.outside m.task other → IsProgramText other m.program
  reads_as other t = subst (λ (l : List ℕ). IsProgramText l m.program) (sym (same_text c.outside m.task m.bytes other m.had t)) m.is.is_read

  same_program : (program : Marked) → HasProgram c.outside m.task program → program ≡ m.program
  same_program program h = h.is.only m.program (reads_as h.bytes h.text)

  resumes_so : (stop : FileStop) → (stop ≡ why.Memory → ⊥) → HasNoResume c.outside m.task stop → ⊥
  resumes_so stop not h =
      let t = m.resumes h.name h.budget h.comes.named in
      run_goes_on c.outside h.name m.program h.budget t.0 t.1 t.2 h.bytes stop not h.file
      (subst (λ (p : Marked). StopsFile p h.bytes h.budget stop) (same_program h.program h.comes.given) h.stops)

  nothing_holds : (r : Refusal) (status : ℕ) → HoldsFor c.outside m.task r → status ≡ status_of_refusal r → status ≡ 8
  nothing_holds Usage status h e = absurd h
  nothing_holds (Unread name) status (OfProgram n fails) e = absurd (m.read (0, name, fails))
  nothing_holds (Unread name) status (OfReport which program comes fails) e = absurd (m.read (place_of which, name, fails))
  nothing_holds (Unread name) status (OfTrace budget program comes fails) e = absurd (m.read (1, name, fails))
  nothing_holds (Unread name) status (OfCheckpoint budget program comes fails) e = absurd (m.read (1, name, fails))
  nothing_holds LongProgram status h e = absurd (program_fits c.outside m.task m.bytes h.name m.had h.named h.long)
  nothing_holds (NoProgram fault) status h e = absurd (h.2.none m.program (reads_as h.0 h.1))
  nothing_holds (Unchecked fault) status h e = absurd (h.2.none m.program (reads_as h.0 h.1) m.is.checked)
  nothing_holds (LongReport which) status h e = absurd (report_fits c.outside (place_of which) h.name m.program (m.replays which h.name h.comes.named) h.long)
  nothing_holds (NoReport which line) status h e = absurd (report_reads c.outside (place_of which) h.name m.program (m.replays which h.name h.comes.named) h.bytes line h.file h.reads)
  nothing_holds (Diverges which activity) status h e =
      absurd (report_replays c.outside (place_of which) h.name m.program (m.replays which h.name h.comes.named) h.lists h.counts h.old
      (subst (λ (p : Marked). Fits (plain p) h.lists h.counts → ⊥) (same_program h.program h.comes.given) h.unfit))
  nothing_holds LongTrace status h e = let t = m.traces h.name h.budget h.comes.named in absurd (trace_is_short c.outside h.name (plain m.program) h.budget t.0 t.1 t.2 h.long)
  nothing_holds (NoTrace line) status h e = let t = m.traces h.name h.budget h.comes.named in absurd (trace_reads c.outside h.name (plain m.program) h.budget t.0 t.1 t.2 h.bytes line h.file h.reads)
  nothing_holds (Unlawful entry) status h e =
      let t = m.traces h.name h.budget h.comes.named in
      absurd (trace_is_lawful c.outside h.name (plain m.program) h.budget t.0 t.1 t.2 h.entries h.number h.old
      (subst (λ (p : Marked). IsUnlawfulAt (plain p) h.budget h.entries h.number) (same_program h.program h.comes.given) h.unlawful))
  nothing_holds Unfinished status h e =
      let t = m.traces h.name h.budget h.comes.named in
      absurd (trace_has_ended c.outside h.name (plain m.program) h.budget t.0 t.1 t.2 h.entries h.old
      (subst (λ (p : Marked). IsUnfinished (plain p) h.budget h.entries) (same_program h.program h.comes.given) h.unfinished))
  nothing_holds LongCheckpoint status h e =
      let t = m.resumes h.name h.budget h.comes.named in absurd (checkpoint_is_short c.outside h.name m.program h.budget t.0 t.1 t.2 h.long)
  nothing_holds OtherCheckpoint status h e = absurd (resumes_so why.OtherProgram not_other h)
  nothing_holds NoCheckpoint status h e = absurd (resumes_so why.Malformed not_malformed h)
  nothing_holds Overspent status h e = absurd (resumes_so why.TooMany not_many h)
  nothing_holds NoMemory status h e = e

  refused_only : (r : Refusal) (status : ℕ) → IsCause c r → status ≡ status_of_refusal r → status ≡ 8
  refused_only r status (OfWords u n) e = let no : None ≡ Some m.task = sym n ∙ m.asked in absurd cc
  refused_only r status (OfMemory u) e = e ∙ ap status_of_refusal u
  refused_only r status (OfTask task asked h) e = nothing_holds r status (subst (λ (t : TaskShape). HoldsFor c.outside t r) (same_task c.words task m.task asked m.asked) h) e

  completes_by : (status : ℕ) → Ends c status → IsReported status ⊎ (status ≡ 8)
  completes_by status (Written text a took still) = inl (answers_reported c.outside a.task text status a.answer)
  completes_by status (Refused r h u t e) = inr (refused_only r status h e)
  completes_by status (Unheard r h u t e) = absurd (m.err_takes t.0)
  completes_by status (Unwritten text other a took told e) = absurd (m.out_takes took.0)

pub completes : {c : Call} {status : ℕ} → Ends c status → Completes c status
completes {c} {status} ends m = completes_by c m status ends

-- Words that are refused

usage_end : (c : Call) (r : Refusal) (status : ℕ) → task_of c.words ≡ None → IsCause c r → status ≡ status_of_refusal r → IsUsageEnd status
usage_end c r status none (OfWords u n) e = inl (e ∙ ap status_of_refusal u)
usage_end c r status none (OfMemory u) e = inr (inr (e ∙ ap status_of_refusal u))
usage_end c r status none (OfTask task o h) e = let no : None ≡ Some task = sym none ∙ o in absurd cc

pub refuses_words : {c : Call} {status : ℕ} → Ends c status → task_of c.words ≡ None → IsUsageEnd status
refuses_words (Written text a took still) none = let no : None ≡ Some a.task = sym none ∙ a.asked in absurd cc
refuses_words {c} {status} (Refused r h u t e) none = usage_end c r status none h e
refuses_words (Unheard r holds u t e) none = inr (inl e)
refuses_words (Unwritten text other a took told e) none = inr (inl e)

-- Programs that are refused

-- the program that was answered for
given_in : (o : Outside) (task : TaskShape) (text : List ℕ) (status : ℕ) → Answers o task text status → (program : Marked) × HasProgram o task program
given_in o (Runs file settings depth) text status a = (a.0.program, a.0.given)
given_in o (Checks file) text status a = (a.0, a.1)
given_in o (Rules file settings) text status a = (a.0.program, a.0.given)
given_in o (Journals file settings) text status a = (a.0.program, a.0.given)
given_in o (Saves file settings) text status a = (a.0.program, a.0.given)
given_in o (Resumes file name settings depth) text status a = (a.0.program, a.0.given)
given_in o (SavesAgain file name settings) text status a = (a.0.program, a.0.given)
given_in o (Replays file name depth) text status a = (a.0.program, a.0.given)
given_in o (Compares file name other) text status a = (a.0.program, a.0.given)
given_in o (Traces file name budget depth) text status a = (a.0.program, a.0.given)
given_in o (Makes pairs settings) text status a = (a.0.program, a.0.given)

-- a file whose bytes are too long, or no checked program, is none
not_given : (o : Outside) (file bytes other : List ℕ) (program : Marked) → Has o 0 file bytes → (MOST_PROGRAM_BYTES < length bytes) ⊎ ((program : Marked) → IsProgramText bytes program → IsChecked program → ⊥)
    → IsFile o 0 file MOST_PROGRAM_BYTES other → IsProgramOf other program → ⊥
not_given o file bytes other program had (inl long) f is =
    let same : other ≡ bytes = same_file o 0 file MOST_PROGRAM_BYTES bytes other had f in
    let short : length bytes ≤ MOST_PROGRAM_BYTES = subst (λ (l : List ℕ). length l ≤ MOST_PROGRAM_BYTES) same f.within in
    omega (arith, long, short)
not_given o file bytes other program had (inr none) f is =
    let same : other ≡ bytes = same_file o 0 file MOST_PROGRAM_BYTES bytes other had f in
    none program (subst (λ (l : List ℕ). IsProgramText l program) same is.is_read) is.checked

module _ (c : Call) (a : AsksUnfit c) where
  never_has : (task : TaskShape) → NamesProgram task a.name → (program : Marked) → HasProgram c.outside task program → ⊥
  never_has (Runs file settings depth) n program h = not_given c.outside file a.bytes h.bytes program (has_named c.outside 0 a.name file a.bytes (sym n) a.had) a.unfit h.text h.is
  never_has (Checks file) n program h = not_given c.outside file a.bytes h.bytes program (has_named c.outside 0 a.name file a.bytes (sym n) a.had) a.unfit h.text h.is
  never_has (Rules file settings) n program h = not_given c.outside file a.bytes h.bytes program (has_named c.outside 0 a.name file a.bytes (sym n) a.had) a.unfit h.text h.is
  never_has (Journals file settings) n program h = not_given c.outside file a.bytes h.bytes program (has_named c.outside 0 a.name file a.bytes (sym n) a.had) a.unfit h.text h.is
  never_has (Saves file settings) n program h = not_given c.outside file a.bytes h.bytes program (has_named c.outside 0 a.name file a.bytes (sym n) a.had) a.unfit h.text h.is
  never_has (Resumes file checkpoint settings depth) n program h = not_given c.outside file a.bytes h.bytes program (has_named c.outside 0 a.name file a.bytes (sym n) a.had) a.unfit h.text h.is
  never_has (SavesAgain file checkpoint settings) n program h = not_given c.outside file a.bytes h.bytes program (has_named c.outside 0 a.name file a.bytes (sym n) a.had) a.unfit h.text h.is
  never_has (Replays file report depth) n program h = not_given c.outside file a.bytes h.bytes program (has_named c.outside 0 a.name file a.bytes (sym n) a.had) a.unfit h.text h.is
  never_has (Compares file report other) n program h = not_given c.outside file a.bytes h.bytes program (has_named c.outside 0 a.name file a.bytes (sym n) a.had) a.unfit h.text h.is
  never_has (Traces file trace budget depth) n program h = not_given c.outside file a.bytes h.bytes program (has_named c.outside 0 a.name file a.bytes (sym n) a.had) a.unfit h.text h.is
  never_has (Makes pairs settings) n program h = n

  unfit_end : (r : Refusal) (status : ℕ) → HoldsFor c.outside a.task r → status ≡ status_of_refusal r → RefusesProgram c status ⊎ CouldNot c status
  unfit_end Usage status h e = absurd h
  unfit_end (Unread name) status h e = inr (inl (e, unread_for c.outside a.task name h))
  unfit_end LongProgram status h e = inl (e, inl (OfTask a.task a.asked h))
  unfit_end (NoProgram fault) status h e = inl (e, inr (inl (fault, OfTask a.task a.asked h)))
  unfit_end (Unchecked fault) status h e = inl (e, inr (inr (fault, OfTask a.task a.asked h)))
  unfit_end (LongReport which) status h e = absurd (never_has a.task a.named h.program h.comes.given)
  unfit_end (NoReport which line) status h e = absurd (never_has a.task a.named h.program h.comes.given)
  unfit_end (Diverges which activity) status h e = absurd (never_has a.task a.named h.program h.comes.given)
  unfit_end LongTrace status h e = absurd (never_has a.task a.named h.program h.comes.given)
  unfit_end (NoTrace line) status h e = absurd (never_has a.task a.named h.program h.comes.given)
  unfit_end (Unlawful entry) status h e = absurd (never_has a.task a.named h.program h.comes.given)
  unfit_end Unfinished status h e = absurd (never_has a.task a.named h.program h.comes.given)
  unfit_end LongCheckpoint status h e = absurd (never_has a.task a.named h.program h.comes.given)
  unfit_end OtherCheckpoint status h e = absurd (never_has a.task a.named h.program h.comes.given)
  unfit_end NoCheckpoint status h e = absurd (never_has a.task a.named h.program h.comes.given)
  unfit_end Overspent status h e = absurd (never_has a.task a.named h.program h.comes.given)
  unfit_end NoMemory status h e = inr (inr (inr e))

  unfit_refused : (r : Refusal) (status : ℕ) → IsCause c r → status ≡ status_of_refusal r → RefusesProgram c status ⊎ CouldNot c status
  unfit_refused r status (OfWords u n) e = let no : None ≡ Some a.task = sym n ∙ a.asked in absurd cc
  unfit_refused r status (OfMemory u) e = inr (inr (inr (e ∙ ap status_of_refusal u)))
  unfit_refused r status (OfTask task asked h) e = unfit_end r status (subst (λ (t : TaskShape). HoldsFor c.outside t r) (same_task c.words task a.task asked a.asked) h) e

  refused_program : (status : ℕ) → Ends c status → RefusesProgram c status ⊎ CouldNot c status
  refused_program status (Written text w took still) =
      let g = given_in c.outside a.task text status (subst (λ (t : TaskShape). Answers c.outside t text status) (same_task c.words w.task a.task w.asked a.asked) w.answer) in
      absurd (never_has a.task a.named g.0 g.1)
  refused_program status (Refused r h u t e) = unfit_refused r status h e
  refused_program status (Unheard r h u t e) = inr (inr (inl (e, inr t.0)))
  refused_program status (Unwritten text other w took told e) = inr (inr (inl (e, inl took.0)))

pub refuses_program : {c : Call} {status : ℕ} → Ends c status → RefusesPrograms c status
refuses_program {c} {status} ends a = refused_program c a status ends
