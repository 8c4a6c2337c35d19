-- What a run and a replay have written, from the end of the run and the outcome of the replay.
use Rattle.std.specs.Prelude.{IfOk, Result, Ok, Err, map, string_bytes}
use Rattle.std.specs.List.{concat}
use Rattle.std.specs.declared.alloc.Global.{Global}
use Rattle.std.specs.declared.string.String.{String}
use Rattle.std.proofs.lemmas.Bool.{true≢false}
use Rattle.std.proofs.Common.{◌≡◌, ◌≤◌, ℕ, false, List, Option, Some, None, ◌++◌, inl, inr, refl, sym, ap, subst, ◌∙◌, arith}
use Rattle.asp_model.specs.declared.limits.TheConstants.{MOST_REDUCTIONS}
use Rattle.asp_model.specs.Configuration.{Configuration}
use Rattle.asp_model.specs.Term.{Tree}
use Rattle.asp_model.specs.Marked.{Marked, plain}
use Rattle.asp_model.specs.Step.{ListsShape}
use Rattle.asp_model.specs.Status.{Budget, VerdictShape, verdict_of}
use Rattle.asp_model.specs.Replay.{CountsShape, replay}
use Rattle.asp_model.specs.Outcome.{OutcomeShape, outcome_of, counts_in, lists_in, exit_status}
use Rattle.asp_model.specs.Report.{text_of}
use Rattle.asp_model.specs.ReadReport.{read_report, Reads}
use Rattle.asp_model.specs.Shapes.{outcome_shape, tree_of}
use Rattle.asp_check.specs.declared.checked.Checked.{Checked}
use Rattle.def_paths.specs.Outcomes.{WholeOutcome, whole_outcome_of, reported}
use Rattle.law_reports.specs.Depths.{report_to}
use Rattle.law_outcomes.proofs.ReportLaws.{replay_reports_are_read}
use Rattle.law_outcomes.proofs.ProgramLaws.{program_texts_are_printable, programs_have_no_places}
use Rattle.law_outcomes.proofs.OutcomeLemmas.{reported_is}
use Rattle.run_ends.specs.declared.ends.RunEnd.{RunEnd}
use Rattle.run_ends.specs.Ends.{IsEndOf}
use Rattle.determinacy.specs.Rulings.{ruled}
use Rattle.run_report.specs.Rulings.{ruled_report, ruling_lines}
use Rattle.run_report.specs.Summary.{summary_of}
use Rattle.run_report.proofs.PassedLemmas.{rulings_are_passed_over}
use Rattle.asp_core.specs.EndOfRun.{IsEndOfRun}
use Rattle.run_traces.specs.declared.traced.Traced.{Traced}
use Rattle.run_traces.specs.Traced.{IsTracedRun}
use Rattle.run_saves.specs.declared.saved.Saved.{Saved}
use Rattle.run_saves.specs.declared.saved.Saved.TheVariants as saves
use Rattle.run_saves.specs.Saved.{IsSavedRun, IsStoppedRun, is_budget}
use Rattle.asp_model.specs.History.{EntryShape}
use Rattle.trace_text.specs.Traces as Trace
use Rattle.trace_text.specs.Traces.{read_trace, trace_of}
use Rattle.trace_check.specs.Checks.{IsCheckedEnd}
use Rattle.load_gen.specs.Generated.{generated}
use Rattle.command_line.specs.Settings.{IsSettings, SettingsShape}
use Rattle.command_line.specs.Task.{Runs, Rules, Journals, Saves, Replays, Compares, Traces, Makes}
use Rattle.asp_top.specs.Seen.{Outside}
use Rattle.asp_top.specs.Programs.{IsProgramOf, IsInFile, HasReplay, HasTrace}
use Rattle.asp_top.specs.Comparisons.{Said, IsSo, status_said, text_said}
use Rattle.asp_top.specs.Correct.{Answers, IsWithin}
use Rattle.asp_top.specs.declared.prepare.Prepared.{Prepared}
use Rattle.asp_top.specs.Stops.{program_in}
use Rattle.asp_top.specs.Ready.{text_in}
use Rattle.asp_top.specs.Resumed.{IsLeftOf}
use Rattle.asp_top.proofs.RulingLemmas.{only_end}
use Rattle.asp_top.proofs.StatusLemmas.{five_status}

-- what the end of a run says of the replay under the lists and counts that it shows

module _ (c : Checked) (budget : ℕ) (end : RunEnd) (h : IsEndOfRun (tree_of c.program.root) budget end) where
  abbrev program : Tree
  program = tree_of c.program.root

  abbrev ended : Configuration
  ended = h.run.configuration

  abbrev lists : ListsShape
  lists = lists_in (outcome_of ended)

  abbrev counts : CountsShape
  counts = counts_in (outcome_of ended)

  abbrev replayed : Configuration
  replayed = replay program lists counts

  -- the report of the end is that of the replay
  same_report : (depth : Option ℕ) → report_to depth (whole_outcome_of ended) ≡ report_to depth (whole_outcome_of replayed)
  same_report depth = ap text_of (sym (h.replayed.reports depth))

  reads : (depth : Option ℕ) (bytes : List ℕ) → IsProgramOf bytes (program_in c) → budget ≤ MOST_REDUCTIONS → read_report (report_to depth (whole_outcome_of replayed)) ≡ Reads lists counts
  reads depth bytes is small =
      replay_reports_are_read depth program lists counts (program_texts_are_printable bytes (program_in c) is.is_read) h.replayed.fits (omega (arith, h.budgeted.within, small))

  within : IsWithin budget counts replayed
  within = (h.budgeted.within, λ (v : verdict_of replayed ≡ Budget). h.budgeted.spent (sym (ap (λ (x : OutcomeShape). x.verdict) h.replayed.outcome) ∙ v))

  -- so does its outcome
  same_outcome : outcome_shape end.outcome ≡ outcome_of replayed
  same_outcome = h.outcome ∙ sym h.replayed.outcome

  -- and the ruling on it
  same_reported : reported (whole_outcome_of ended) ≡ reported (whole_outcome_of replayed)
  same_reported = reported_is ended ∙ sym h.replayed.outcome ∙ sym (reported_is replayed)

  same_ruled : ruled_report (whole_outcome_of ended) ≡ ruled_report (whole_outcome_of replayed)
  same_ruled = λ i. text_of (sym (h.replayed.reports None) i ++ ruling_lines (ruled (same_reported i)))

-- what a run has written

module _ (c : Checked) (settings : SettingsShape) (end : RunEnd) (h : IsEndOfRun (tree_of c.program.root) settings.budget end) where
  abbrev now : Configuration
  now = h.run.configuration

  abbrev again : Configuration
  again = replayed c settings.budget end h

  abbrev reads_so : (depth : Option ℕ) (bytes : List ℕ) → IsProgramOf bytes (program_in c) → IsSettings settings → read_report (report_to depth (whole_outcome_of again)) ≡ Reads (lists_in (outcome_of now)) (counts_in (outcome_of now))
  reads_so depth bytes is s = reads c settings.budget end h depth bytes is s.budget

  pub run_is : (o : Outside) (file : List ℕ) (depth : Option ℕ) (text : List ℕ) (status : ℕ) → IsInFile o file (program_in c) → IsSettings settings
      → text ≡ report_to depth (whole_outcome_of now) → status ≡ exit_status (outcome_shape end.outcome) → Answers o (Runs file settings depth) text status
  run_is o file depth text status given s e is =
      let told : text ≡ report_to depth (whole_outcome_of again) = e ∙ same_report c settings.budget end h depth in (
        record { program = program_in c; given = given; lists = lists_in (outcome_of now); counts = counts_in (outcome_of now); fits = h.replayed.fits },
        (told, is ∙ ap exit_status (same_outcome c settings.budget end h)),
        ap read_report told ∙ reads_so depth given.bytes given.is s,
        within c settings.budget end h,
      )

  pub ruled_is : (o : Outside) (file : List ℕ) (text : List ℕ) (status : ℕ) → IsInFile o file (program_in c) → IsSettings settings
      → text ≡ ruled_report (whole_outcome_of now) → status ≡ exit_status (outcome_shape end.outcome) → Answers o (Rules file settings) text status
  ruled_is o file text status given s e is =
      let lists = lists_in (outcome_of now) in
      let counts = counts_in (outcome_of now) in
      let told : text ≡ ruled_report (whole_outcome_of again) = e ∙ same_ruled c settings.budget end h in (
        record { program = program_in c; given = given; lists = lists; counts = counts; fits = h.replayed.fits },
        (told, is ∙ ap exit_status (same_outcome c settings.budget end h)),
        ap read_report told ∙ rulings_are_passed_over (whole_outcome_of again) lists counts (reads_so None given.bytes given.is s),
        within c settings.budget end h,
        only_end (tree_of c.program.root) lists counts (programs_have_no_places given.bytes (program_in c) given.is.is_read),
      )

  -- and one whose budget did not run out, where it would be saved
  pub kept_is : (o : Outside) (file : List ℕ) (text : List ℕ) (status : ℕ) → is_budget (Some (verdict_of now)) ≡ false → IsInFile o file (program_in c) → IsSettings settings
      → text ≡ report_to None (whole_outcome_of now) → status ≡ exit_status (outcome_shape end.outcome) → Answers o (Saves file settings) text status
  kept_is o file text status not given s e is =
      let told : text ≡ report_to None (whole_outcome_of again) = e ∙ same_report c settings.budget end h None in
      let same : verdict_of again ≡ verdict_of now = ap (λ (x : OutcomeShape). x.verdict) h.replayed.outcome in (
        record { program = program_in c; given = given; lists = lists_in (outcome_of now); counts = counts_in (outcome_of now); fits = h.replayed.fits },
        (
          inr (
            (λ v. true≢false (ap (λ (w : VerdictShape). is_budget (Some w)) (sym v ∙ same) ∙ not)),
            told,
            ap read_report told ∙ reads_so None given.bytes given.is s,
          ),
          is ∙ ap exit_status (same_outcome c settings.budget end h),
        ),
        within c settings.budget end h,
      )

  pub made_is : (o : Outside) (pairs : ℕ) (bytes : List ℕ) (text : List ℕ) (status : ℕ) → bytes ≡ generated pairs → IsProgramOf bytes (program_in c)
      → text ≡ summary_of pairs (outcome_shape end.outcome) → status ≡ exit_status (outcome_shape end.outcome) → Answers o (Makes pairs settings) text status
  made_is o pairs bytes text status made is e s = (
    record { program = program_in c; given = record { bytes = bytes; text = made; is = is }; lists = lists_in (outcome_of now); counts = counts_in (outcome_of now); fits = h.replayed.fits },
    (e ∙ ap (summary_of pairs) (same_outcome c settings.budget end h), s ∙ ap exit_status (same_outcome c settings.budget end h)),
    within c settings.budget end h,
  )

-- what is written of a trace that was checked
pub trace_is : (o : Outside) (file name : List ℕ) (budget : ℕ) (depth : Option ℕ) (c : Checked) (entries : List EntryShape) (end : RunEnd) (text : List ℕ) (status : ℕ) → IsInFile o file (program_in c) → budget ≤ MOST_REDUCTIONS
    → HasTrace o 1 name entries → (h : IsCheckedEnd (tree_of c.program.root) budget entries end) → text ≡ report_to depth (whole_outcome_of h.ended.run.configuration) → status ≡ exit_status (outcome_shape end.outcome)
    → Answers o (Traces file name budget depth) text status
trace_is o file name budget depth c entries end text status given small old h e is =
    let ran : IsEndOfRun (tree_of c.program.root) budget end = record { journal = entries; run = h.ended.run; lawful = h.ended.lawful; end = h.end; outcome = h.outcome; replayed = h.replayed; budgeted = h.budgeted } in
    let now : Configuration = h.ended.run.configuration in
    let told : text ≡ report_to depth (whole_outcome_of (replayed c budget end ran)) = e ∙ same_report c budget end ran depth in (
      record { program = program_in c; given = given; lists = lists_in (outcome_of now); counts = counts_in (outcome_of now); fits = h.replayed.fits },
      (told, is ∙ ap exit_status (same_outcome c budget end ran)),
      ap read_report told ∙ reads c budget end ran depth given.bytes given.is small,
      within c budget end ran,
      record { entries = entries; old = old; lawful = record { journal = h.ended; agrees = h.replayed.agrees; outcome = sym h.replayed.outcome; reports = same_report c budget end ran } },
    )

-- equal texts are read alike
read_alike : (text other : List ℕ) (entries : List EntryShape) → text ≡ other → read_trace other ≡ Trace.Reads entries → read_trace text ≡ Trace.Reads entries
read_alike text other entries e h = subst (λ (t : List ℕ). read_trace t ≡ Trace.Reads entries) (sym e) h

pub journal_is : (o : Outside) (file : List ℕ) (c : Checked) (settings : SettingsShape) (traced : Traced) (text : List ℕ) (status : ℕ) → IsTracedRun (tree_of c.program.root) settings.budget traced → IsInFile o file (program_in c)
    → text ≡ concat (map string_bytes traced.pieces.items) → status ≡ exit_status (outcome_shape traced.end.outcome) → Answers o (Journals file settings) text status
journal_is o file c settings traced text status h given e is =
    let program : Tree = tree_of c.program.root in
    let ended : Configuration = h.ended.run.configuration in
    let replayed : Configuration = replay program (lists_in (outcome_of ended)) (counts_in (outcome_of ended)) in (
      record { program = program_in c; given = given; lists = lists_in (outcome_of ended); counts = counts_in (outcome_of ended); fits = h.replayed.fits },
      (
        record {
          entries = h.journal;
          lawful = record { journal = h.ended; agrees = h.replayed.agrees; outcome = sym h.replayed.outcome; reports = λ depth. ap text_of (sym (h.replayed.reports depth)) };
          written = e ∙ h.text;
          read = read_alike text (trace_of h.journal) h.journal (e ∙ h.text) h.read;
        },
        is ∙ ap exit_status (h.outcome ∙ sym h.replayed.outcome),
      ),
      (h.budgeted.within, λ (v : verdict_of replayed ≡ Budget). h.budgeted.spent (sym (ap (λ (x : OutcomeShape). x.verdict) h.replayed.outcome) ∙ v)),
    )

-- what a run has written whose budget ran out
pub stopped_is : (o : Outside) (file : List ℕ) (c : Checked) (settings : SettingsShape) (pieces : List (String Global)) (text : List ℕ) (status : ℕ) → IsStoppedRun (program_in c) settings.budget pieces
    → IsInFile o file (program_in c) → text ≡ concat (map string_bytes pieces) → status ≡ 5 → Answers o (Saves file settings) text status
stopped_is o file c settings pieces text status h given e is =
    let ended : Configuration = h.ended.run.configuration in
    let replayed : Configuration = replay (tree_of c.program.root) (lists_in (outcome_of ended)) (counts_in (outcome_of ended)) in
    let verdict : verdict_of replayed ≡ Budget = ap (λ (x : OutcomeShape). x.verdict) h.replayed.outcome ∙ h.stopped in (
      record { program = program_in c; given = given; lists = lists_in (outcome_of ended); counts = counts_in (outcome_of ended); fits = h.replayed.fits },
      (
        inl (
          verdict,
          record {
            entries = h.journal;
            lawful = record { journal = h.ended; agrees = h.replayed.agrees; outcome = sym h.replayed.outcome; reports = λ depth. ap text_of (sym (h.replayed.reports depth)) };
            written = e ∙ h.text;
          },
        ),
        is ∙ sym (five_status replayed verdict),
      ),
      (h.budgeted.within, λ (v : verdict_of replayed ≡ Budget). h.budgeted.spent (sym (ap (λ (x : OutcomeShape). x.verdict) h.replayed.outcome) ∙ v)),
    )

-- what is left of a run whose budget ran out
pub stopped_left : (saved : Saved) (p : Prepared) → saved ≡ saves.Stopped p.pieces → p.status ≡ 5 → IsLeftOf saved p
stopped_left saved p e s = subst (λ (x : Saved). IsLeftOf x p) (sym e) (refl, s)

-- and of one that ended in another way
pub ended_left : {E : Type 0} (end : RunEnd) (r : Result Prepared E) → ((o : WholeOutcome) → IsEndOf end o → IfOk r (λ p. text_in p ≡ report_to None o)) → IfOk r (λ p. p.status ≡ exit_status (outcome_shape end.outcome)) → IfOk r (IsLeftOf (saves.Ended end))
ended_left end (Ok p) h s = (h, s)
ended_left end (Err e) h s = tt

-- what is left of a run that is saved
pub left_is : (o : Outside) (file : List ℕ) (c : Checked) (settings : SettingsShape) (saved : Saved) (p : Prepared) → IsSavedRun (program_in c) settings.budget saved → IsInFile o file (program_in c) → IsSettings settings
    → IsLeftOf saved p → Answers o (Saves file settings) (text_in p) p.status
left_is o file c settings (saves.Stopped pieces) p h given s left = stopped_is o file c settings pieces.items (text_in p) p.status h given left.0 left.1
left_is o file c settings (saves.Ended end) p h given s left = kept_is c settings end h.0 o file (text_in p) p.status h.1 given s (left.0 _ h.0.end) left.1

pub replay_is : (o : Outside) (file name : List ℕ) (depth : Option ℕ) (program : Marked) (outcome : OutcomeShape) (text : List ℕ) (status : ℕ) → IsInFile o file program → (h : HasReplay o 1 name program)
    → outcome ≡ outcome_of (replay (plain program) h.lists h.counts) → text ≡ report_to depth (whole_outcome_of (replay (plain program) h.lists h.counts)) → status ≡ exit_status outcome
    → Answers o (Replays file name depth) text status
replay_is o file name depth program outcome text status given h is e s = (
  record { program = program; given = given; lists = h.lists; counts = h.counts; fits = h.fits },
  (e, s ∙ ap exit_status is),
  h.old,
)

pub compare_is : (o : Outside) (file name other : List ℕ) (program : Marked) (text : List ℕ) (status : ℕ) (said : Said) → IsInFile o file program → (h : HasReplay o 1 name program) (g : HasReplay o 2 other program)
    → IsSo said (plain program) h.lists h.counts g.lists g.counts → text ≡ text_said said → status ≡ status_said said → Answers o (Compares file name other) text status
compare_is o file name other program text status said given h g so e s = (record { program = program; given = given; first = h; second = g }, said, so, e, s)
