-- From the causes of single functions to those of a task.
use Rattle.std.proofs.Common.{◌≡◌, ℕ, suc, ◌≤◌, List, ◌∷◌, Option, Some, true, map, Result, Ok, Err, refl, sym, subst}
use Rattle.std.specs.Prelude.{IfErr}
use Rattle.std.specs.FinMap.{is_sorted}
use Rattle.std.specs.declared.alloc.Global.{Global}
use Rattle.std.specs.declared.string.String.{String}
use Rattle.asp_model.specs.declared.limits.TheConstants.{MOST_PROGRAM_BYTES, MOST_REDUCTIONS, MOST_REPORT_BYTES}
use Rattle.asp_model.specs.declared.outcome.Lists.{Lists}
use Rattle.asp_model.specs.declared.outcome.Counts.{Counts}
use Rattle.asp_model.specs.Names.{name_cmp}
use Rattle.asp_model.specs.Marked.{Marked, plain}
use Rattle.asp_model.specs.Shapes.{lists_shape, counts_shape}
use Rattle.asp_model.specs.Step.{ListsShape}
use Rattle.asp_model.specs.Replay.{CountsShape, total}
use Rattle.asp_model.specs.ReadReport.{read_report, Reads}
use Rattle.asp_edge.specs.Told.{SourceTells}
use Rattle.asp_edge.specs.Causes.{IsContent}
use Rattle.sender_log.specs.declared.error.LogError.{LogError}
use Rattle.sender_log.specs.declared.error.LogError.TheVariants as log
use Rattle.sender_log.specs.Answers.{TellsOf}
use Rattle.replay_one.specs.declared.replays.ReplayStop.{ReplayStop}
use Rattle.replay_one.specs.declared.replays.ReplayStop.TheVariants as replays
use Rattle.replay_one.specs.Correct.{IsStop}
use Rattle.replay_one.proofs.DifferenceLemmas.{replayable_by}
use Rattle.load_gen.specs.Generated.{generated}
use Rattle.command_line.specs.Settings.{SettingsShape}
use Rattle.command_line.specs.Task.{TaskShape, Replays, Compares, Makes, task_of}
use Rattle.asp_top.specs.declared.stop.Stop.{Stop}
use Rattle.asp_top.specs.declared.stop.Which.{Which}
use Rattle.asp_top.specs.declared.stop.Which.TheVariants.{First, Second}
use Rattle.asp_top.specs.Seen.{Outside, bytes_of, outside_between}
use Rattle.asp_top.specs.Refusals.{Refusal, Usage, Unread, LongProgram, NoProgram, Unchecked, LongReport, NoReport, Diverges, LongTrace, NoTrace, Unlawful, Unfinished, LongCheckpoint, OtherCheckpoint, NoCheckpoint, Overspent, NoMemory}
use Rattle.asp_top.specs.Programs.{IsFile, IsInFile, HasReplay, HasReport, AsksInTurn, place_of}
use Rattle.asp_top.specs.Endings.{ComesTo, HasBadLine, HasDivergence, HasLongReport, HoldsFor, OfReport, OfTask}
use Rattle.asp_top.specs.Stops.{AsksOnce, RefusedAt, StopsTask, StopsWords, log_stop, replay_stop}
use Rattle.asp_top.specs.Replayed.{IsReplayable, RefusedInReplay, RefusedInReport, StopsInReplay, StopsInReport}
use Rattle.asp_top.proofs.AskLemmas.{gave_first, gave_later, fails_later, long_later, in_turn_then}

pub task_refused : {T : Type 0} (words : List (String Global)) (o : Outside) (task : TaskShape) (r : Result T Stop) → task_of (bytes_of words) ≡ Some task → IfErr r (StopsTask o task) → IfErr r (StopsWords words o)
task_refused words o task (Ok x) asked h = tt
task_refused words o task (Err s) asked h = OfTask task asked h

-- the generated program

pub made_stops : (o : Outside) (pairs : ℕ) (settings : SettingsShape) (bytes : List ℕ) → bytes ≡ generated pairs → (r : Refusal) → RefusedAt bytes r → HoldsFor o (Makes pairs settings) r
made_stops o pairs settings bytes e Usage h = absurd h
made_stops o pairs settings bytes e (Unread name) h = absurd h
made_stops o pairs settings bytes e LongProgram h = absurd h
made_stops o pairs settings bytes e (NoProgram fault) h = (bytes, e, h)
made_stops o pairs settings bytes e (Unchecked fault) h = (bytes, e, h)
made_stops o pairs settings bytes e (LongReport which) h = absurd h
made_stops o pairs settings bytes e (NoReport which line) h = absurd h
made_stops o pairs settings bytes e (Diverges which activity) h = absurd h
made_stops o pairs settings bytes e LongTrace h = absurd h
made_stops o pairs settings bytes e (NoTrace line) h = absurd h
made_stops o pairs settings bytes e (Unlawful entry) h = absurd h
made_stops o pairs settings bytes e Unfinished h = absurd h
made_stops o pairs settings bytes e LongCheckpoint h = absurd h
made_stops o pairs settings bytes e OtherCheckpoint h = absurd h
made_stops o pairs settings bytes e NoCheckpoint h = absurd h
made_stops o pairs settings bytes e Overspent h = absurd h
made_stops o pairs settings bytes e NoMemory h = tt

-- reports

pub report_is_replayable : (o : Outside) (name bytes : List ℕ) (log : Lists × Counts) → IsFile o 0 name MOST_REPORT_BYTES bytes → read_report bytes ≡ Reads (lists_shape log.0) (counts_shape log.1)
    → map (λ x. x.0) (lists_shape log.0) ≡ map (λ x. x.0) (counts_shape log.1) → is_sorted name_cmp (counts_shape log.1) ≡ true → total (counts_shape log.1) ≤ MOST_REDUCTIONS → IsReplayable o name log
report_is_replayable o name bytes log file reads same ascending within = record {
  old = record { bytes = bytes; file = file; reads = reads };
  replayable = replayable_by (lists_shape log.0) (counts_shape log.1) same ascending within;
}

pub report_refused : (o : Outside) (which : Which) (name bytes : List ℕ) (e : LogError) → IsFile o 0 name MOST_REPORT_BYTES bytes → TellsOf (read_report bytes) e → StopsInReport o which name (log_stop which e)
report_refused o which name bytes (log.BadLine line) file h = (refl, bytes, file, h)
report_refused o which name bytes log.Memory file h = tt

-- and their replays

pub report_stops : (o : Outside) (place : ℕ) (which : Which) (name : List ℕ) (program : Marked) (r : Refusal) → RefusedInReport o place which name r → RefusedInReplay o place which name program r
report_stops o place which name program Usage h = h
report_stops o place which name program (Unread other) h = h
report_stops o place which name program LongProgram h = h
report_stops o place which name program (NoProgram fault) h = h
report_stops o place which name program (Unchecked fault) h = h
report_stops o place which name program (LongReport one) h = h
report_stops o place which name program (NoReport one line) h = h
report_stops o place which name program (Diverges one activity) h = absurd h
report_stops o place which name program LongTrace h = h
report_stops o place which name program (NoTrace line) h = h
report_stops o place which name program (Unlawful entry) h = h
report_stops o place which name program Unfinished h = h
report_stops o place which name program LongCheckpoint h = h
report_stops o place which name program OtherCheckpoint h = h
report_stops o place which name program NoCheckpoint h = h
report_stops o place which name program Overspent h = h
report_stops o place which name program NoMemory h = h

replay_stops : (o : Outside) (which : Which) (name : List ℕ) (program : Marked) (lists : ListsShape) (counts : CountsShape) → HasReport o 0 name lists counts → (s : ReplayStop) → IsStop (plain program) lists counts s
    → StopsInReplay o which name program (replay_stop which s)
replay_stops o which name program lists counts old (replays.Diverged activity) h = (refl, record { lists = lists; counts = counts; old = old; least = h.0; unfit = h.1 })
replay_stops o which name program lists counts old replays.Memory h = tt

pub stops_there : (o : Outside) (which : Which) (name : List ℕ) (program : Marked) (lists : ListsShape) (counts : CountsShape) → HasReport o 0 name lists counts → (s : ReplayStop) (stop : Stop) → stop ≡ replay_stop which s → IsStop (plain program) lists counts s
    → StopsInReplay o which name program stop
stops_there o which name program lists counts old s stop e h = subst (StopsInReplay o which name program) (sym e) (replay_stops o which name program lists counts old s h)

-- reads of one source: of one file, and then of others

module _ {S : Type 0} (told : S → SourceTells) (first middle last : S) (file : List ℕ) (names : List (List ℕ))
    (one : AsksOnce (outside_between told first middle) file) (two : AsksInTurn (outside_between told middle last) names) where
  abbrev before : Outside
  before = outside_between told first middle

  abbrev behind : Outside
  behind = outside_between told middle last

  abbrev whole : Outside
  whole = outside_between told first last

  pub file_stays : (most : ℕ) (bytes : List ℕ) → IsFile before 0 file most bytes → IsFile whole 0 file most bytes
  file_stays most bytes f = record { gave = gave_first told first middle last file names one two 0 file (Ok bytes) f.gave; told = f.told; within = f.within }

  pub program_stays : (program : Marked) → IsInFile before file program → IsInFile whole file program
  program_stays program h = record { bytes = h.bytes; text = file_stays MOST_PROGRAM_BYTES h.bytes h.text; is = h.is }

  abbrev pub replay_stays : (program : Marked) → HasReplay before 0 file program → HasReplay whole 0 file program
  replay_stays program h = record {
    lists = h.lists;
    counts = h.counts;
    old = record { bytes = h.old.bytes; file = file_stays MOST_REPORT_BYTES h.old.bytes h.old.file; reads = h.old.reads };
    fits = h.fits;
  }

  pub reads_on : (most : ℕ) (bytes : List ℕ) → IsFile before 0 file most bytes → AsksInTurn whole (file ∷ names)
  reads_on most bytes f = in_turn_then told first middle last file names one two bytes f.gave

  module _ (same : (told middle).content ≡ (told first).content) where
    pub file_later : (place : ℕ) (name : List ℕ) (most : ℕ) (bytes : List ℕ) → IsFile behind place name most bytes → IsFile whole (suc place) name most bytes
    file_later place name most bytes f = record {
      gave = gave_later told first middle last file names one two place name (Ok bytes) f.gave;
      told = subst (λ (k : List ℕ → Option (List ℕ)). IsContent (k name) bytes) same f.told;
      within = f.within;
    }

    pub report_later : (place : ℕ) (name : List ℕ) (lists : ListsShape) (counts : CountsShape) → HasReport behind place name lists counts → HasReport whole (suc place) name lists counts
    report_later place name lists counts h = record { bytes = h.bytes; file = file_later place name MOST_REPORT_BYTES h.bytes h.file; reads = h.reads }

    abbrev pub replay_later : (place : ℕ) (name : List ℕ) (program : Marked) → HasReplay behind place name program → HasReplay whole (suc place) name program
    replay_later place name program h = record { lists = h.lists; counts = h.counts; old = report_later place name h.lists h.counts h.old; fits = h.fits }

    pub refused_later : (place : ℕ) (which : Which) (name : List ℕ) (program : Marked) → (told first).faults ≤ (told middle).faults
        → (r : Refusal) → RefusedInReplay behind place which name program r → RefusedInReplay whole (suc place) which name program r
    refused_later place which name program later Usage h = absurd h
    refused_later place which name program later (Unread other) h = (h.0, fails_later told first middle last file names one two place other later h.1)
    refused_later place which name program later LongProgram h = absurd h
    refused_later place which name program later (NoProgram fault) h = absurd h
    refused_later place which name program later (Unchecked fault) h = absurd h
    refused_later place which name program later (LongReport other) h = (h.0, long_later told first middle last file names one two place name MOST_REPORT_BYTES same h.1)
    refused_later place which name program later (NoReport other line) h = (h.0, h.1, file_later place name MOST_REPORT_BYTES h.1 h.2, h.3)
    refused_later place which name program later (Diverges other activity) h = (
      h.0,
      record { lists = h.1.lists; counts = h.1.counts; old = report_later place name h.1.lists h.1.counts h.1.old; least = h.1.least; unfit = h.1.unfit },
    )
    refused_later place which name program later LongTrace h = absurd h
    refused_later place which name program later (NoTrace line) h = absurd h
    refused_later place which name program later (Unlawful entry) h = absurd h
    refused_later place which name program later Unfinished h = absurd h
    refused_later place which name program later LongCheckpoint h = absurd h
    refused_later place which name program later OtherCheckpoint h = absurd h
    refused_later place which name program later NoCheckpoint h = absurd h
    refused_later place which name program later Overspent h = absurd h
    refused_later place which name program later NoMemory h = tt

-- why there is nothing of one of the reports of a task

pub refused_there : (o : Outside) (task : TaskShape) (which : Which) (name : List ℕ) (program : Marked) → ComesTo o task which name program
    → (r : Refusal) → RefusedInReplay o (place_of which) which name program r → HoldsFor o task r
refused_there o task which name program comes Usage h = absurd h
refused_there o task which name program comes (Unread other) h = OfReport which program (subst (λ (n : List ℕ). ComesTo o task which n program) h.0 comes) h.1
refused_there o task which name program comes LongProgram h = absurd h
refused_there o task which name program comes (NoProgram fault) h = absurd h
refused_there o task which name program comes (Unchecked fault) h = absurd h
refused_there o task which name program comes (LongReport one) h =
    subst (λ (w : Which). HasLongReport o task w) (sym h.0) (record { program = program; name = name; comes = comes; long = h.1 })
refused_there o task which name program comes (NoReport one line) h =
    subst (λ (w : Which). HasBadLine o task w line) (sym h.0) (record { program = program; name = name; comes = comes; bytes = h.1; file = h.2; reads = h.3 })
refused_there o task which name program comes (Diverges one activity) h =
    subst (λ (w : Which). HasDivergence o task w activity) (sym h.0)
    (record { program = program; name = name; comes = comes; lists = h.1.lists; counts = h.1.counts; old = h.1.old; least = h.1.least; unfit = h.1.unfit })
refused_there o task which name program comes LongTrace h = absurd h
refused_there o task which name program comes (NoTrace line) h = absurd h
refused_there o task which name program comes (Unlawful entry) h = absurd h
refused_there o task which name program comes Unfinished h = absurd h
refused_there o task which name program comes LongCheckpoint h = absurd h
refused_there o task which name program comes OtherCheckpoint h = absurd h
refused_there o task which name program comes NoCheckpoint h = absurd h
refused_there o task which name program comes Overspent h = absurd h
refused_there o task which name program comes NoMemory h = tt

pub replay_refused : (o : Outside) (file report : List ℕ) (depth : Option ℕ) (program : Marked) → IsInFile o file program
    → (r : Refusal) → RefusedInReplay o 1 First report program r → HoldsFor o (Replays file report depth) r
replay_refused o file report depth program given r h =
    refused_there o (Replays file report depth) First report program (record { given = given; named = refl; behind = tt }) r h

pub first_refused : (o : Outside) (file report other : List ℕ) (program : Marked) → IsInFile o file program
    → (r : Refusal) → RefusedInReplay o 1 First report program r → HoldsFor o (Compares file report other) r
first_refused o file report other program given r h =
    refused_there o (Compares file report other) First report program (record { given = given; named = refl; behind = tt }) r h

pub second_refused : (o : Outside) (file report other : List ℕ) (program : Marked) → IsInFile o file program → HasReplay o 1 report program
    → (r : Refusal) → RefusedInReplay o 2 Second other program r → HoldsFor o (Compares file report other) r
second_refused o file report other program given first r h =
    refused_there o (Compares file report other) Second other program (record { given = given; named = refl; behind = (report, refl, first) }) r h
