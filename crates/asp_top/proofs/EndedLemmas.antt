-- Two calls that ended, what a comparison says, and traces of journals.
use Rattle.std.proofs.Common.{◌≡◌, ◌∙◌, List, [], ◌∷◌, ℕ, Bool, true, false, Option, Some, refl, ap, sym, subst, inl, inr}
use Rattle.std.specs.Prelude.{◌↔◌, nat_eq}
use Rattle.asp_model.specs.History.{EntryShape, program_history}
use Rattle.asp_model.specs.Outcome.{exit_status, outcome_of}
use Rattle.asp_model.specs.Term.{Tree}
use Rattle.asp_model.specs.Marked.{plain}
use Rattle.asp_model.specs.Step.{ListsShape}
use Rattle.def_journals.specs.Journals.{RunShape, run_of}
use Rattle.law_chases.proofs.FutureLemmas.{some_is}
use Rattle.trace_text.specs.Traces as Trace
use Rattle.trace_text.specs.Traces.{read_trace}
use Rattle.command_line.specs.Settings.{SettingsShape}
use Rattle.command_line.specs.Task.{TaskShape, Runs, Traces}
use Rattle.asp_model.specs.Marked.{Marked}
use Rattle.asp_model.specs.Status.{Budget, verdict_of}
use Rattle.asp_model.specs.Configuration.{Configuration}
use Rattle.law_program_files.specs.Programs.{IsFileOf, printed}
use Rattle.law_checkpoint_texts.proofs.FileLemmas.{runs_are_files}
use Rattle.law_outcomes.specs.Outcomes.{IsEndReport}
use Rattle.law_outcomes.proofs.ReportLaws.{end_reports_agree, narrow_reports_are_all}
use Rattle.law_services.specs.Services.{AreServedAlike, IsServedAlike}
use Rattle.replay_services.specs.Compares.{AreStuck}
use Rattle.asp_model.specs.Names.{Name}
use Rattle.asp_model.specs.Replay.{CountsShape}
use Rattle.asp_top.specs.Seen.{Outside}
use Rattle.asp_top.specs.Comparisons.{Said, Same, Differ, Unended, IsSo, ShowAlike, text_said}
use Rattle.asp_top.specs.Correct.{Answers, IsCheckpoint, IsLeft, ReplayOf, end_of, report_at}
use Rattle.asp_top.specs.Ended.{IsEnded, ComparisonsAreExact, EndedRunsPrintTheSame, JournalsAreAccepted, OneSenderPrintsTheSame, SavesAreResumed}
use Rattle.asp_top.proofs.StatusLemmas.{budget_at, stuck_at}

-- the report of a run that has ended
end_report : (o : Outside) (file : List ℕ) (settings : SettingsShape) (depth : Option ℕ) (report : List ℕ) (status : ℕ) (a : Answers o (Runs file settings depth) report status) → IsEnded status → IsEndReport depth (plain a.0.program) a.0.lists report
end_report o file settings depth report status a h = record {
  counts = a.0.counts;
  read = a.2;
  fits = a.0.fits;
  same = a.1.0;
  stuck = stuck_at (end_of a.0) status a.1.1 h;
}

pub ended_runs_print_the_same : EndedRunsPrintTheSame
ended_runs_print_the_same o p file name settings others depth report other status code a b ended stopped same lists =
    let first : IsEndReport depth (plain b.0.program) b.0.lists report =
    subst (λ (t : Tree). IsEndReport depth t b.0.lists report) same (subst (λ (l : ListsShape). IsEndReport depth (plain a.0.program) l report) lists (end_report o file settings depth report status a ended)) in
    end_reports_agree depth (plain b.0.program) b.0.lists report other first (end_report p name others depth other code b stopped)

pub one_sender_prints_the_same : OneSenderPrintsTheSame
one_sender_prints_the_same o p file name settings others depth report other status code a b ended stopped same narrow =
    let first : IsEndReport depth (plain b.0.program) a.0.lists report =
    subst (λ (t : Tree). IsEndReport depth t a.0.lists report) same (end_report o file settings depth report status a ended) in
    sym (narrow_reports_are_all depth (plain b.0.program) a.0.lists b.0.lists report other first narrow (end_report p name others depth other code b stopped))

-- What a comparison says

-- the first letter of `same`
abbrev begins_as_same : List ℕ → Bool
begins_as_same [] = false
begins_as_same (x ∷ xs) = nat_eq x 115

other_text : (text : List ℕ) (said : Said) → text ≡ text_said said → text ≡ text_said Same → begins_as_same (text_said said) ≡ false → ⊥
other_text text said e h other = let no : true ≡ false = sym (ap begins_as_same h) ∙ ap begins_as_same e ∙ other in absurd cc

module _ (program : Tree) (lists : ListsShape) (counts : CountsShape) (others : ListsShape) (other_counts : CountsShape) where
  abbrev AreAlike : Type 0
  AreAlike = AreStuck program lists counts others other_counts × AreServedAlike program lists counts others other_counts

  abbrev Exactly : List ℕ → Type 0
  Exactly text = ((text ≡ text_said Same) ↔ AreAlike) × (text ≡ text_said Same → ShowAlike program lists counts others other_counts)

  served_at : (n : Name) → AreServedAlike program lists counts others other_counts → IsServedAlike program lists counts others other_counts n
  served_at n h = record { unpolled = h.unpolled n; unpolled_too = h.unpolled_too n; arrivals = h.arrivals n }

  -- nothing else is written where no service can tell
  never : (said : Said) (text : List ℕ) → text ≡ text_said said → begins_as_same (text_said said) ≡ false → (AreAlike → ⊥) → Exactly text
  never said text e other unlike = ((λ h. absurd (other_text text said e h other), λ a. absurd (unlike a)), λ h. absurd (other_text text said e h other))

  exactly : (said : Said) (text : List ℕ) → IsSo said program lists counts others other_counts → text ≡ text_said said → Exactly text
  exactly Same text so e = ((λ h. (so.0.stuck, so.0.served), λ a. e), λ h. so.1)
  exactly (Differ n) text so e = never (Differ n) text e refl (λ a. so.told (served_at n a.1))
  exactly Unended text (inl free) e = never Unended text e refl (λ a. free a.0.0)
  exactly Unended text (inr free) e = never Unended text e refl (λ a. free a.0.1)

pub comparisons_are_exact : ComparisonsAreExact
comparisons_are_exact o file name other text status a =
    exactly (plain a.0.program) a.0.first.lists a.0.first.counts a.0.second.lists a.0.second.counts a.1 text a.2 a.3

-- Traces of journals

same_run : (program other : Tree) (budget : ℕ) (es fs : List EntryShape) (r s : RunShape) → other ≡ program → fs ≡ es → run_of (program_history program budget es) ≡ Some r → run_of (program_history other budget fs) ≡ Some s → s ≡ r
same_run program other budget es fs r s p e h g = some_is (sym g ∙ (λ i. run_of (program_history (p i) budget (e i))) ∙ h)

pub journals_are_accepted : JournalsAreAccepted
journals_are_accepted o file settings text status a = (
  record { entries = a.1.0.entries; reads = a.1.0.read; journal = a.1.0.lawful.journal },
  λ p other name depth report code b program bytes.
      let mine = a.1.0 in
      let its = b.4 in
      let read : Trace.Reads its.entries ≡ Trace.Reads mine.entries = sym its.old.reads ∙ ap read_trace bytes ∙ mine.read in
      let entries : its.entries ≡ mine.entries = cc in
      let run : its.lawful.journal.run ≡ mine.lawful.journal.run =
      same_run (plain a.0.program) (plain b.0.program) settings.budget mine.entries its.entries mine.lawful.journal.run its.lawful.journal.run program entries mine.lawful.journal.lawful its.lawful.journal.lawful in (
        b.1.0 ∙ sym (its.lawful.reports depth) ∙ ap (λ (s : RunShape). report_at depth s.configuration) run ∙ mine.lawful.reports depth,
        b.1.1 ∙ ap exit_status (sym its.lawful.outcome ∙ ap (λ (s : RunShape). outcome_of s.configuration) run ∙ mine.lawful.outcome) ∙ sym a.1.1,
      ),
)

-- Checkpoints that are written

checkpoint_is_file : (program : Marked) (budget : ℕ) (c : Configuration) (text : List ℕ) → IsCheckpoint program budget c text → IsFileOf program text
checkpoint_is_file program budget c text h =
    let run = h.lawful.journal.run in
    subst (IsFileOf program) (sym h.written) (runs_are_files (printed program) (plain program) budget h.entries run h.lawful.journal.lawful)

left_is_file : {o : Outside} {task : TaskShape} (r : ReplayOf o task) (budget : ℕ) (text : List ℕ) → IsLeft r budget text → verdict_of (end_of r) ≡ Budget → IsFileOf r.program text
left_is_file r budget text (inl h) v = checkpoint_is_file r.program budget (end_of r) text h.1
left_is_file r budget text (inr h) v = absurd (h.0 v)

pub saves_are_resumed : SavesAreResumed
saves_are_resumed o file settings text status a five =
    let saved = left_is_file a.0 settings.budget text a.1.0 (budget_at (end_of a.0) status a.1.1 five) in (
      saved,
      λ p other name later depth report code b program bytes.
          let same = subst (λ (m : Marked). IsFileOf m text) (sym program) saved in
          b.1.0.1 (subst (IsFileOf b.0.program) (sym bytes) same),
    )
