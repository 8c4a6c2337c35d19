-- What is read of a checkpoint, runs that go on from it, and why there is nothing of it.
use Rattle.std.proofs.Common.{◌≡◌, ◌⊎◌, ℕ, ◌≤◌, List, [], ◌∷◌, Option, Some, None, false, map, length, sym, ap, subst, ◌∙◌, inl, inr, arith}
use Rattle.std.specs.Prelude.{string_bytes}
use Rattle.std.specs.List.{concat}
use Rattle.std.specs.declared.alloc.Global.{Global}
use Rattle.std.specs.declared.string.String.{String}
use Rattle.std.proofs.lemmas.Bool.{true≢false}
use Rattle.asp_model.specs.declared.limits.TheConstants.{MOST_CHECKPOINT_BYTES, MOST_PROGRAM_BYTES}
use Rattle.asp_model.specs.Marked.{Marked, plain}
use Rattle.asp_model.specs.Outcome.{exit_status, outcome_of}
use Rattle.asp_model.specs.ReadReport.{read_report}
use Rattle.asp_model.specs.Shapes.{outcome_shape}
use Rattle.asp_model.specs.Status.{VerdictShape, verdict_of}
use Rattle.asp_edge.specs.Told.{SourceTells}
use Rattle.def_journals.specs.Journals.{RunShape}
use Rattle.def_paths.specs.Outcomes.{whole_outcome_of}
use Rattle.law_frozen.specs.Frozen.{FrozenShape}
use Rattle.law_program_files.specs.Programs.{IsFileOf}
use Rattle.law_reports.specs.Depths.{report_to}
use Rattle.run_ends.specs.declared.ends.RunEnd.{RunEnd}
use Rattle.run_saves.specs.declared.saved.Saved.{Saved}
use Rattle.run_saves.specs.declared.saved.Saved.TheVariants as saves
use Rattle.run_saves.specs.Saved.{is_budget}
use Rattle.run_files.specs.declared.stop.FileStop.{FileStop}
use Rattle.run_files.specs.declared.stop.FileStop.TheVariants as why
use Rattle.run_files.specs.Files.{HasRoom, IsReadAs, StopsFile}
use Rattle.run_files.specs.Resumed.{IsLeftOfFile, IsOneRun, IsResumedFile, IsStoppedFile}
use Rattle.command_line.specs.Settings.{SettingsShape}
use Rattle.command_line.specs.Task.{TaskShape, Runs, Checks, Rules, Journals, Saves, Resumes, SavesAgain, Replays, Compares, Traces, Makes}
use Rattle.asp_top.specs.Seen.{Call, Outside, IsUntouched, Takes, outside_between}
use Rattle.asp_top.specs.Programs.{AsksInTurn, IsFile, IsInFile, IsText, HasProgram, NamesCheckpoint, NamesProgram}
use Rattle.asp_top.specs.Resumes.{ReportsBoth}
use Rattle.asp_top.specs.Correct.{Answers}
use Rattle.asp_top.specs.Refusals.{Refusal, Usage, Unread, LongProgram, NoProgram, Unchecked, LongReport, NoReport, Diverges, LongTrace, NoTrace, Unlawful, Unfinished, LongCheckpoint, OtherCheckpoint, NoCheckpoint, Overspent, NoMemory, status_of_refusal, message_of}
use Rattle.asp_top.specs.Endings.{Ends, Written, Refused, Unheard, Unwritten, IsCause, OfWords, OfMemory, OfTask, OfCheckpoint, ComesToCheckpoint, HasNoResume, HoldsFor}
use Rattle.asp_top.specs.Statuses.{CouldNot}
use Rattle.asp_top.specs.Expected.{AsksNoResume, IsUnresumedFor, RefusesCheckpoint, RefusesCheckpoints, RefusesProgram}
use Rattle.asp_top.specs.Stops.{AsksOnce, file_stop, refusal_of}
use Rattle.asp_top.specs.declared.prepare.Prepared.{Prepared}
use Rattle.asp_top.specs.Ready.{text_in}
use Rattle.asp_top.specs.Resumed.{IsLeftOf, IsStoppedAt, RefusedBoth, RefusedGiven, RefusedInCheckpoint, RefusedInResume, StopsBoth}
use Rattle.asp_top.proofs.AskLemmas.{fails_later, long_later}
use Rattle.asp_top.proofs.PrepareLemmas.{file_later}
use Rattle.asp_top.proofs.StopLemmas.{no_program}
use Rattle.asp_top.proofs.StatusLemmas.{five_status, same_task}
use Rattle.asp_top.proofs.ExpectedLemmas.{has_named, long_if, same_file, unread_for}
use Rattle.asp_top.proofs.RefusedLemmas.{no_checkpoint}
use Rattle.asp_top.proofs.TracedLemmas.{none_of_both}

-- Stops

-- a checkpoint that is read behind a program

module _ {S : Type 0} (told : S → SourceTells) (first middle last : S) (file checkpoint : List ℕ)
    (one : AsksOnce (outside_between told first middle) file) (two : AsksInTurn (outside_between told middle last) (checkpoint ∷ [])) (same : (told middle).content ≡ (told first).content) where
  abbrev behind : Outside
  behind = outside_between told middle last

  abbrev whole : Outside
  whole = outside_between told first last

  pub unread_later : (told first).faults ≤ (told middle).faults → (r : Refusal) → RefusedInCheckpoint behind 0 checkpoint r → RefusedInCheckpoint whole 1 checkpoint r
  unread_later later Usage h = absurd h
  unread_later later (Unread other) h = (h.0, fails_later told first middle last file (checkpoint ∷ []) one two 0 other later h.1)
  unread_later later LongProgram h = absurd h
  unread_later later (NoProgram fault) h = absurd h
  unread_later later (Unchecked fault) h = absurd h
  unread_later later (LongReport which) h = absurd h
  unread_later later (NoReport which line) h = absurd h
  unread_later later (Diverges which activity) h = absurd h
  unread_later later LongTrace h = absurd h
  unread_later later (NoTrace line) h = absurd h
  unread_later later (Unlawful entry) h = absurd h
  unread_later later Unfinished h = absurd h
  unread_later later LongCheckpoint h = long_later told first middle last file (checkpoint ∷ []) one two 0 checkpoint MOST_CHECKPOINT_BYTES same h
  unread_later later OtherCheckpoint h = absurd h
  unread_later later NoCheckpoint h = absurd h
  unread_later later Overspent h = absurd h
  unread_later later NoMemory h = tt

  pub bytes_later : (bytes : List ℕ) → IsFile behind 0 checkpoint MOST_CHECKPOINT_BYTES bytes → IsFile whole 1 checkpoint MOST_CHECKPOINT_BYTES bytes
  bytes_later bytes f = file_later told first middle last file (checkpoint ∷ []) one two same 0 checkpoint MOST_CHECKPOINT_BYTES bytes f

module _ (o : Outside) (checkpoint : List ℕ) (program : Marked) (budget : ℕ) where
  checkpoint_stops : (r : Refusal) → RefusedInCheckpoint o 1 checkpoint r → RefusedInResume o checkpoint program budget r
  checkpoint_stops Usage h = h
  checkpoint_stops (Unread other) h = h
  checkpoint_stops LongProgram h = h
  checkpoint_stops (NoProgram fault) h = h
  checkpoint_stops (Unchecked fault) h = h
  checkpoint_stops (LongReport which) h = h
  checkpoint_stops (NoReport which line) h = h
  checkpoint_stops (Diverges which activity) h = h
  checkpoint_stops LongTrace h = h
  checkpoint_stops (NoTrace line) h = h
  checkpoint_stops (Unlawful entry) h = h
  checkpoint_stops Unfinished h = h
  checkpoint_stops LongCheckpoint h = h
  checkpoint_stops OtherCheckpoint h = absurd h
  checkpoint_stops NoCheckpoint h = absurd h
  checkpoint_stops Overspent h = absurd h
  checkpoint_stops NoMemory h = h

  file_stops : (bytes : List ℕ) → IsFile o 1 checkpoint MOST_CHECKPOINT_BYTES bytes → (s : FileStop) → StopsFile program bytes budget s → RefusedInResume o checkpoint program budget (refusal_of (file_stop s))
  file_stops bytes file why.OtherProgram h = (bytes, file, h)
  file_stops bytes file why.Malformed h = (bytes, file, h)
  file_stops bytes file why.TooMany h = (bytes, file, h)
  file_stops bytes file why.Memory h = tt

-- where one of both is not there, no run goes on
pub given_stops : (o : Outside) (file checkpoint : List ℕ) (budget : ℕ) (r : Refusal) → RefusedGiven o file checkpoint r → RefusedBoth o file checkpoint budget r
given_stops o file checkpoint budget r (inl h) = inl h
given_stops o file checkpoint budget r (inr h) = inr (h.0, h.1, checkpoint_stops o checkpoint h.0 budget r h.2)

pub run_stops : (o : Outside) (file checkpoint : List ℕ) (budget : ℕ) (program : Marked) (bytes : List ℕ) → IsInFile o file program → IsFile o 1 checkpoint MOST_CHECKPOINT_BYTES bytes
    → (s : FileStop) → StopsFile program bytes budget s → StopsBoth o file checkpoint budget (file_stop s)
run_stops o file checkpoint budget program bytes given is s h = inr (program, given, file_stops o checkpoint program budget bytes is s h)

-- why there is nothing of the checkpoint of a task

module _ (o : Outside) (task : TaskShape) (file name : List ℕ) (budget : ℕ) (text : (bytes : List ℕ) → IsFile o 0 file MOST_PROGRAM_BYTES bytes → IsText o task bytes)
    (named : NamesProgram task file) (names : NamesCheckpoint task name budget) where
  module _ (program : Marked) (comes : ComesToCheckpoint o task name budget program) where
    stopped_so : (s : FileStop) → IsStoppedAt o name program budget s → HasNoResume o task s
    stopped_so s h = record { program = program; name = name; budget = budget; comes = comes; bytes = h.0; file = h.1; stops = h.2 }

    unresumed : (r : Refusal) → RefusedInResume o name program budget r → HoldsFor o task r
    unresumed Usage h = absurd h
    unresumed (Unread other) h = OfCheckpoint budget program (subst (λ (n : List ℕ). ComesToCheckpoint o task n budget program) h.0 comes) h.1
    unresumed LongProgram h = absurd h
    unresumed (NoProgram fault) h = absurd h
    unresumed (Unchecked fault) h = absurd h
    unresumed (LongReport which) h = absurd h
    unresumed (NoReport which line) h = absurd h
    unresumed (Diverges which activity) h = absurd h
    unresumed LongTrace h = absurd h
    unresumed (NoTrace line) h = absurd h
    unresumed (Unlawful entry) h = absurd h
    unresumed Unfinished h = absurd h
    unresumed LongCheckpoint h = record { program = program; name = name; budget = budget; comes = comes; long = h }
    unresumed OtherCheckpoint h = stopped_so why.OtherProgram h
    unresumed NoCheckpoint h = stopped_so why.Malformed h
    unresumed Overspent h = stopped_so why.TooMany h
    unresumed NoMemory h = tt

  pub both_refused : ((program : Marked) → IsInFile o file program → HasProgram o task program) → (r : Refusal) → RefusedBoth o file name budget r → HoldsFor o task r
  both_refused program r (inl h) = no_program o task file named text r h
  both_refused program r (inr h) = unresumed h.0 (record { given = program h.0 h.1; named = names }) r h.2

-- Answers

-- the report of the end of a run that went on, which is one run with what was saved
both_reported : (program : Marked) (f : FrozenShape) (budget : ℕ) (t : RunShape) (depth : Option ℕ) (text : List ℕ) (status : ℕ) → IsOneRun program f budget t
    → text ≡ report_to depth (whole_outcome_of t.configuration) → status ≡ exit_status (outcome_of t.configuration) → ReportsBoth (plain program) f t.configuration depth text status
both_reported program f budget t depth text status h e s = record {
  read = ap read_report e ∙ (h.reports depth).read;
  fits = h.one.tells.fits;
  same = e ∙ (h.reports depth).same;
  answered = s ∙ (h.reports depth).status;
  adds = h.one.adds;
}

-- what a run has written that went on
module _ (o : Outside) (file name : List ℕ) (settings : SettingsShape) (program : Marked) (bytes : List ℕ) (given : IsInFile o file program)
    (is : IsFile o 1 name MOST_CHECKPOINT_BYTES bytes) where
  pub resumed_is : (depth : Option ℕ) (end : RunEnd) (text : List ℕ) (status : ℕ) → (h : IsResumedFile program bytes settings.budget end)
      → text ≡ report_to depth (whole_outcome_of h.end.run.configuration) → status ≡ exit_status (outcome_shape end.outcome) → Answers o (Resumes file name settings depth) text status
  resumed_is depth end text status h e s =
      let t : RunShape = h.end.run in
      let told : status ≡ exit_status (outcome_of t.configuration) = s ∙ ap exit_status h.end.outcome in (
        record { program = program; given = given; bytes = bytes; file = is; frozen = h.frozen; read = h.read; room = h.within; entries = h.end.journal; run = t; lawful = h.end.lawful },
        ((e, λ saved. both_reported program h.frozen settings.budget t depth text status (h.one given.bytes given.is.is_read saved) e told), told),
        h.end.budgeted,
      )

  -- where its budget ran out, and it is saved
  pub stopped_again_is : (pieces : List (String Global)) (text : List ℕ) (status : ℕ) → (h : IsStoppedFile program bytes settings.budget pieces) → text ≡ concat (map string_bytes pieces) → status ≡ 5
      → Answers o (SavesAgain file name settings) text status
  stopped_again_is pieces text status h e s =
      let t : RunShape = h.stop.run in (
        record { program = program; given = given; bytes = bytes; file = is; frozen = h.frozen; read = h.read; room = h.within; entries = h.stop.journal; run = t; lawful = h.stop.lawful },
        (
          inl (
            h.stop.stopped,
            record {
              ended = h.stop.ended;
              written = e ∙ h.stop.text;
              again = λ saved. subst (IsFileOf program) (sym e) (h.again given.bytes given.is.is_read saved);
            },
          ),
          s ∙ sym (five_status t.configuration h.stop.stopped),
        ),
        h.stop.budgeted,
      )

  -- and where it did not
  pub kept_again_is : (end : RunEnd) (text : List ℕ) (status : ℕ) → (h : IsResumedFile program bytes settings.budget end) → is_budget (Some (verdict_of h.end.run.configuration)) ≡ false
      → text ≡ report_to None (whole_outcome_of h.end.run.configuration) → status ≡ exit_status (outcome_shape end.outcome) → Answers o (SavesAgain file name settings) text status
  kept_again_is end text status h not e s =
      let t : RunShape = h.end.run in
      let told : status ≡ exit_status (outcome_of t.configuration) = s ∙ ap exit_status h.end.outcome in (
        record { program = program; given = given; bytes = bytes; file = is; frozen = h.frozen; read = h.read; room = h.within; entries = h.end.journal; run = t; lawful = h.end.lawful },
        (
          inr (
            (λ v. true≢false (ap (λ (w : VerdictShape). is_budget (Some w)) (sym v) ∙ not)),
            (e, λ saved. both_reported program h.frozen settings.budget t None text status (h.one given.bytes given.is.is_read saved) e told),
          ),
          told,
        ),
        h.end.budgeted,
      )

  -- either way
  pub left_again_is : (saved : Saved) (p : Prepared) → IsLeftOfFile program bytes settings.budget saved → IsLeftOf saved p → Answers o (SavesAgain file name settings) (text_in p) p.status
  left_again_is (saves.Stopped pieces) p h left = stopped_again_is pieces.items (text_in p) p.status h left.0 left.1
  left_again_is (saves.Ended end) p h left = kept_again_is end (text_in p) p.status h.0 h.1 (left.0 _ h.0.end.end) left.1

-- Checkpoints that are refused

-- a task names one checkpoint
one_checkpoint : (task : TaskShape) (name other : List ℕ) (budget most : ℕ) → NamesCheckpoint task name budget → NamesCheckpoint task other most → (other ≡ name) × (most ≡ budget)
one_checkpoint (Runs file settings depth) name other budget most h g = absurd h
one_checkpoint (Checks file) name other budget most h g = absurd h
one_checkpoint (Rules file settings) name other budget most h g = absurd h
one_checkpoint (Journals file settings) name other budget most h g = absurd h
one_checkpoint (Saves file settings) name other budget most h g = absurd h
one_checkpoint (Resumes file checkpoint settings depth) name other budget most h g = (sym g.0 ∙ h.0, sym g.1 ∙ h.1)
one_checkpoint (SavesAgain file checkpoint settings) name other budget most h g = (sym g.0 ∙ h.0, sym g.1 ∙ h.1)
one_checkpoint (Replays file report depth) name other budget most h g = absurd h
one_checkpoint (Compares file report second) name other budget most h g = absurd h
one_checkpoint (Traces file trace limit depth) name other budget most h g = absurd h
one_checkpoint (Makes pairs settings) name other budget most h g = absurd h

-- where a task is answered, a run of its program went on from the checkpoint that it names
record ResumedAt (o : Outside) (task : TaskShape) (name : List ℕ) (budget : ℕ) : Type 0 where
  pub program : Marked
  pub given : HasProgram o task program
  pub bytes : List ℕ
  pub file : IsFile o 1 name MOST_CHECKPOINT_BYTES bytes
  pub frozen : FrozenShape
  pub read : IsReadAs program bytes frozen
  pub room : HasRoom frozen budget

resumed_at : (o : Outside) (task : TaskShape) (text : List ℕ) (status : ℕ) → Answers o task text status → (name : List ℕ) (budget : ℕ) → NamesCheckpoint task name budget → ResumedAt o task name budget
resumed_at o (Runs file settings depth) text status a name budget n = absurd n
resumed_at o (Checks file) text status a name budget n = absurd n
resumed_at o (Rules file settings) text status a name budget n = absurd n
resumed_at o (Journals file settings) text status a name budget n = absurd n
resumed_at o (Saves file settings) text status a name budget n = absurd n
resumed_at o (Resumes file checkpoint settings depth) text status a name budget n = record {
  program = a.0.program;
  given = a.0.given;
  bytes = a.0.bytes;
  file = subst (λ (l : List ℕ). IsFile o 1 l MOST_CHECKPOINT_BYTES a.0.bytes) n.0 a.0.file;
  frozen = a.0.frozen;
  read = a.0.read;
  room = subst (λ (b : ℕ). HasRoom a.0.frozen b) n.1 a.0.room;
}
resumed_at o (SavesAgain file checkpoint settings) text status a name budget n = record {
  program = a.0.program;
  given = a.0.given;
  bytes = a.0.bytes;
  file = subst (λ (l : List ℕ). IsFile o 1 l MOST_CHECKPOINT_BYTES a.0.bytes) n.0 a.0.file;
  frozen = a.0.frozen;
  read = a.0.read;
  room = subst (λ (b : ℕ). HasRoom a.0.frozen b) n.1 a.0.room;
}
resumed_at o (Replays file report depth) text status a name budget n = absurd n
resumed_at o (Compares file report other) text status a name budget n = absurd n
resumed_at o (Traces file trace most depth) text status a name budget n = absurd n
resumed_at o (Makes pairs settings) text status a name budget n = absurd n

module _ (c : Call) (a : AsksNoResume c) where
  abbrev End : ℕ → Type 0
  End status = RefusesCheckpoint c a status ⊎ RefusesProgram c status ⊎ CouldNot c status

  never_resumed : ResumedAt c.outside a.task a.name a.budget → ⊥
  never_resumed t =
      let same : t.bytes ≡ a.checkpoint = same_file c.outside 1 a.name MOST_CHECKPOINT_BYTES a.checkpoint t.bytes a.had t.file in
      elim a.unfit [
        | inl long ↦ let short : length a.checkpoint ≤ MOST_CHECKPOINT_BYTES = subst (λ (l : List ℕ). length l ≤ MOST_CHECKPOINT_BYTES) same t.file.within in omega (arith, long, short)
        | inr none ↦ none t.program t.given (t.frozen, subst (λ (l : List ℕ). IsReadAs t.program l t.frozen) same t.read, t.room)
      ]

  told_as : (name other : List ℕ) → name ≡ a.name → IsFile c.outside 1 name MOST_CHECKPOINT_BYTES other → other ≡ a.checkpoint
  told_as name other n f = same_file c.outside 1 name MOST_CHECKPOINT_BYTES a.checkpoint other (has_named c.outside 1 a.name name a.checkpoint (sym n) a.had) f

  named : (name : List ℕ) (budget : ℕ) → NamesCheckpoint a.task name budget → (name ≡ a.name) × (budget ≡ a.budget)
  named name budget n = one_checkpoint a.task a.name name a.budget budget a.named n

  refused_by : (r : Refusal) (program : Marked) → HasProgram c.outside a.task program → IsUnresumedFor program a.budget a.checkpoint r → IsUntouched c.out → Takes c.err (message_of r) → (status : ℕ) → status ≡ 11 → End status
  refused_by r program given cause u t status e = inl (record { program = program; given = given; refusal = r; cause = cause; told = t; untouched = u; answered = e })

  stops_so : (s : FileStop) → (h : HasNoResume c.outside a.task s) → StopsFile h.program a.checkpoint a.budget s
  stops_so s h =
      let n = named h.name h.budget h.comes.named in
      let bytes = subst (λ (l : List ℕ). StopsFile h.program l h.budget s) (told_as h.name h.bytes n.0 h.file) h.stops in
      subst (λ (b : ℕ). StopsFile h.program a.checkpoint b s) n.1 bytes

  no_resume_end : (r : Refusal) (status : ℕ) → HoldsFor c.outside a.task r → IsUntouched c.out → Takes c.err (message_of r) → status ≡ status_of_refusal r → End status
  no_resume_end Usage status h u t e = absurd h
  no_resume_end (Unread name) status h u t e = inr (inr (inl (e, unread_for c.outside a.task name h)))
  no_resume_end LongProgram status h u t e = inr (inl (e, inl (OfTask a.task a.asked h)))
  no_resume_end (NoProgram fault) status h u t e = inr (inl (e, inr (inl (fault, OfTask a.task a.asked h))))
  no_resume_end (Unchecked fault) status h u t e = inr (inl (e, inr (inr (fault, OfTask a.task a.asked h))))
  no_resume_end (LongReport which) status h u t e = absurd (no_checkpoint a.task which h.name a.name a.budget h.comes.named a.named)
  no_resume_end (NoReport which line) status h u t e = absurd (no_checkpoint a.task which h.name a.name a.budget h.comes.named a.named)
  no_resume_end (Diverges which activity) status h u t e = absurd (no_checkpoint a.task which h.name a.name a.budget h.comes.named a.named)
  no_resume_end LongTrace status h u t e = absurd (none_of_both a.task h.name a.name h.budget a.budget h.comes.named a.named)
  no_resume_end (NoTrace line) status h u t e = absurd (none_of_both a.task h.name a.name h.budget a.budget h.comes.named a.named)
  no_resume_end (Unlawful entry) status h u t e = absurd (none_of_both a.task h.name a.name h.budget a.budget h.comes.named a.named)
  no_resume_end Unfinished status h u t e = absurd (none_of_both a.task h.name a.name h.budget a.budget h.comes.named a.named)
  no_resume_end LongCheckpoint status h u t e =
      let n = named h.name h.budget h.comes.named in
      refused_by LongCheckpoint h.program h.comes.given (long_if c.outside 1 h.name a.checkpoint MOST_CHECKPOINT_BYTES (has_named c.outside 1 a.name h.name a.checkpoint (sym n.0) a.had) h.long) u t status e
  no_resume_end OtherCheckpoint status h u t e = refused_by OtherCheckpoint h.program h.comes.given (stops_so why.OtherProgram h) u t status e
  no_resume_end NoCheckpoint status h u t e = refused_by NoCheckpoint h.program h.comes.given (stops_so why.Malformed h) u t status e
  no_resume_end Overspent status h u t e = refused_by Overspent h.program h.comes.given (stops_so why.TooMany h) u t status e
  no_resume_end NoMemory status h u t e = inr (inr (inr (inr e)))

  no_resume_refused : (r : Refusal) (status : ℕ) → IsCause c r → IsUntouched c.out → Takes c.err (message_of r) → status ≡ status_of_refusal r → End status
  no_resume_refused r status (OfWords x n) u t e = let no : None ≡ Some a.task = sym n ∙ a.asked in absurd cc
  no_resume_refused r status (OfMemory x) u t e = inr (inr (inr (inr (e ∙ ap status_of_refusal x))))
  no_resume_refused r status (OfTask task asked h) u t e =
      no_resume_end r status (subst (λ (k : TaskShape). HoldsFor c.outside k r) (same_task c.words task a.task asked a.asked) h) u t e

  refused_resume : (status : ℕ) → Ends c status → End status
  refused_resume status (Written text w took still) =
      let answer : Answers c.outside a.task text status = subst (λ (t : TaskShape). Answers c.outside t text status) (same_task c.words w.task a.task w.asked a.asked) w.answer in
      absurd (never_resumed (resumed_at c.outside a.task text status answer a.name a.budget a.named))
  refused_resume status (Refused r h u t e) = no_resume_refused r status h u t e
  refused_resume status (Unheard r h u t e) = inr (inr (inr (inl (e, inr t.0))))
  refused_resume status (Unwritten text other w took told e) = inr (inr (inr (inl (e, inl took.0))))

pub refuses_checkpoint : {c : Call} {status : ℕ} → Ends c status → RefusesCheckpoints c status
refuses_checkpoint {c} {status} ends a = refused_resume c a status ends
