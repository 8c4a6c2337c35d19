-- What was read, in one read and in two, and why it was not.
use Rattle.std.proofs.Common.{◌≡◌, ℕ, ◌≤◌, List, [], ◌∷◌, ◌++◌, Ok, Option, Some, None, refl, sym, ap, subst, ◌∙◌, append_assoc, arith, inl, inr}
use Rattle.asp_model.specs.declared.term.Program.{Program}
use Rattle.asp_model.specs.Marked.{Marked}
use Rattle.asp_model.specs.Replay.{CountsShape}
use Rattle.asp_model.specs.Shapes.{marked_of}
use Rattle.asp_model.specs.Step.{ListsShape}
use Rattle.asp_model.specs.Term.{Tree}
use Rattle.asp_check.specs.declared.checked.Checked.{Checked}
use Rattle.asp_check.specs.Faults.{IsChecked}
use Rattle.asp_edge.specs.Told.{Asks, SourceTells}
use Rattle.asp_edge.specs.Causes.{Rose}
use Rattle.explain.specs.declared.findings.Fault.{Fault}
use Rattle.explain.specs.Found.{IsFound}
use Rattle.replay_one.specs.Correct.{IsStop}
use Rattle.replay_one.specs.declared.replays.ReplayStop.{ReplayStop}
use Rattle.replay_one.specs.declared.replays.ReplayStop.TheVariants as replays
use Rattle.sender_log.specs.Answers.{TellsOf}
use Rattle.sender_log.specs.declared.error.LogError.{LogError}
use Rattle.sender_log.specs.declared.error.LogError.TheVariants as log
use Rattle.asp_model.specs.ReadReport.{read_report}
use Rattle.syntax_grammar.specs.Programs.{IsProgramText}
use Rattle.run_waits.specs.declared.cuts.CutStop.TheVariants as run
use Rattle.run_waits.specs.Reports.{IsReportStop}
use Rattle.run_waits.specs.declared.cuts.reports.CutReportStop.{CutReportStop}
use Rattle.run_waits.specs.declared.cuts.reports.CutReportStop.TheVariants as cuts
use Rattle.asp_explain.specs.declared.stop.Stop.{Stop}
use Rattle.asp_explain.specs.declared.stop.Which.{Which}
use Rattle.asp_explain.specs.Refusals.{Diverges, LargePicture, LongReport, NoActivity, NoCount, NoMemory, NoReport, Refusal, TooLong, Unread, Usage, cut_refusal, log_stop, refusal_of, replay_stop, status_of}
use Rattle.asp_explain.specs.Seen.{Asked, Outside, outside_between}
use Rattle.asp_explain.specs.Given.{HasFault, IsProgramOf, IsToldWith, StopsAtReport, StopsCut, StopsReplay, program_in}

-- The program

pub program_is : (bytes : List ℕ) (p : Program) (c : Checked) → IsProgramText bytes (marked_of p.root) → ((n : Marked) → IsProgramText bytes n → marked_of p.root ≡ n) → (c.program ≡ p) × IsChecked (marked_of p.root) → IsProgramOf bytes (program_in c)
program_is bytes p c h one k =
    let same : marked_of p.root ≡ program_in c = ap (λ (q : Program). marked_of q.root) (sym k.0) in
    subst (IsProgramOf bytes) same (record { is_read = h; only = one; checked = k.1 })

-- what is told of bytes with a fault has status 3
pub faulty_status : (file bytes text : List ℕ) (status : ℕ) → HasFault bytes → IsToldWith file bytes text status → status ≡ 3
faulty_status file bytes text status faulty t = t.status_is ∙ by_fault t.fault t.told.found
  where
    by_fault : (f : Option Fault) → IsFound bytes f → status_of f ≡ 3
    by_fault None h = absurd (faulty h.program h.is_read h.checked)
    by_fault (Some x) h = refl

-- Reports

pub report_refused : (o : Outside) (which : Which) (name bytes : List ℕ) (e : LogError) → Asked o ((name, Ok bytes) ∷ []) → TellsOf (read_report bytes) e → StopsAtReport o [] which name (refusal_of (log_stop which e))
report_refused o which name bytes (log.BadLine line) asked h = (refl, bytes, asked, h)
report_refused o which name bytes log.Memory asked h = tt

pub replay_stops : (program : Tree) (lists : ListsShape) (counts : CountsShape) (which : Which) (s : ReplayStop) → IsStop program lists counts s → StopsReplay program lists counts which (refusal_of (replay_stop which s))
replay_stops program lists counts which (replays.Diverged activity) h = (refl, h.0, h.1)
replay_stops program lists counts which replays.Memory h = tt

pub cut_stops : (program : Tree) (lists : ListsShape) (counts : CountsShape) (activity : List ℕ) (k : ℕ) (s : CutReportStop) → IsReportStop program lists counts activity k s → StopsCut program lists counts activity k (cut_refusal activity k s)
cut_stops program lists counts activity k cuts.NoName h = (refl, refl, inl h)
cut_stops program lists counts activity k (cuts.NoCut run.Beyond) h = (refl, refl, inr h)
cut_stops program lists counts activity k (cuts.NoCut (run.Diverged m)) h = (refl, h.2.0, h.2.1)
cut_stops program lists counts activity k (cuts.NoCut run.Memory) h = tt
cut_stops program lists counts activity k cuts.Memory h = tt

-- Two reads

-- a count that rose after it had not fallen
rose_later : (a b c : ℕ) → a ≤ b → Rose b c → Rose a c
rose_later a b c h r = omega (arith, h, r)

module _ {S : Type 0} (told : S → SourceTells) (first middle last : S) where
  pub asked_then : (asks more : Asks) → Asked (outside_between told first middle) asks → Asked (outside_between told middle last) more → Asked (outside_between told first last) (asks ++ more)
  asked_then asks more h g = g ∙ ap (λ (l : Asks). l ++ more) h ∙ append_assoc (told first).asked asks more

  pub report_stops : (asks : Asks) (which : Which) (name : List ℕ) (r : Refusal) → Asked (outside_between told first middle) asks → (told first).faults ≤ (told middle).faults
      → StopsAtReport (outside_between told middle last) [] which name r → StopsAtReport (outside_between told first last) asks which name r
  report_stops asks which name Usage h later s = absurd s
  report_stops asks which name (Unread other) h later s = (s.0, asked_then asks _ h s.1, rose_later (told first).faults (told middle).faults (told last).faults later s.2)
  report_stops asks which name TooLong h later s = absurd s
  report_stops asks which name (LongReport one) h later s = (s.0, s.1, asked_then asks _ h s.2, s.3)
  report_stops asks which name (NoReport one line) h later s = (s.0, s.1, asked_then asks _ h s.2, s.3)
  report_stops asks which name (Diverges one activity) h later s = absurd s
  report_stops asks which name (NoActivity other) h later s = absurd s
  report_stops asks which name (NoCount activity k) h later s = absurd s
  report_stops asks which name LargePicture h later s = absurd s
  report_stops asks which name NoMemory h later s = tt
