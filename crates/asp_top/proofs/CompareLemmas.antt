-- What is said of two reports, and why there is nothing to say.
use Rattle.std.proofs.Common.{◌≡◌, ◌⊎◌, ℕ, ◌≤◌, List, [], ◌∷◌, Option, Result, Ok, Err, inl, inr}
use Rattle.std.specs.Prelude.{IfOk, IfErr}
use Rattle.asp_model.specs.declared.limits.TheConstants.{MOST_PROGRAM_BYTES, MOST_REPORT_BYTES}
use Rattle.asp_model.specs.Marked.{Marked, plain}
use Rattle.asp_model.specs.Step.{ListsShape}
use Rattle.asp_model.specs.Replay.{CountsShape}
use Rattle.asp_edge.specs.Told.{SourceTells}
use Rattle.replay_services.specs.declared.compares.Comparison.{Comparison}
use Rattle.replay_services.specs.declared.compares.Comparison.TheVariants as comparison
use Rattle.replay_services.specs.declared.replays.ServicesRun.{ServicesRun}
use Rattle.replay_services.specs.Compares.{Tells}
use Rattle.replay_services.proofs.ReportLemmas.{same_runs_show_alike}
use Rattle.command_line.specs.Task.{Compares}
use Rattle.asp_top.specs.declared.prepare.Prepared.{Prepared}
use Rattle.asp_top.specs.declared.stop.Stop.{Stop}
use Rattle.asp_top.specs.declared.stop.Which.TheVariants.{First, Second}
use Rattle.asp_top.specs.Seen.{Outside, outside_between}
use Rattle.asp_top.specs.Programs.{IsInFile, HasReplay, AsksInTurn}
use Rattle.asp_top.specs.Comparisons.{IsSo, status_said, text_said}
use Rattle.asp_top.specs.Refusals.{Refusal}
use Rattle.asp_top.specs.Endings.{HoldsFor}
use Rattle.asp_top.specs.Stops.{AsksOnce, StopsTask, refusal_of}
use Rattle.asp_top.specs.Ready.{IsReady, text_in}
use Rattle.asp_top.specs.Replayed.{IsComparedIn, IsServicesIn, RefusedInBoth, RefusedInReplay, StopsInBoth, said_of}
use Rattle.asp_top.proofs.OutcomeLemmas.{compare_is}
use Rattle.asp_top.proofs.PrepareLemmas.{first_refused, program_stays, reads_on, refused_later, replay_later, replay_stays, second_refused}

-- what a comparison tells is so
pub so_told : (found : Comparison) (program : Marked) (lists others : ListsShape) (counts other_counts : CountsShape) → Tells found (plain program) lists counts others other_counts
    → IsSo (said_of found) (plain program) lists counts others other_counts
so_told comparison.Same program lists others counts other_counts h = (h, λ depth. same_runs_show_alike (plain program) lists counts others other_counts depth h)
so_told (comparison.Differ n) program lists others counts other_counts h = h
so_told comparison.Unended program lists others counts other_counts h = h

-- two reports of one program, of which the second comes after the first
module _ {S : Type 0} (told : S → SourceTells) (first middle last : S) (report other : List ℕ)
    (one : AsksOnce (outside_between told first middle) report) (two : AsksInTurn (outside_between told middle last) (other ∷ [])) (program : Marked)
    (same : (told middle).content ≡ (told first).content) where
  abbrev whole : Outside
  whole = outside_between told first last

  pub compared : (run next : ServicesRun) (found : Comparison) (p : Prepared) → (r : IsServicesIn (outside_between told first middle) report program run) → (s : IsServicesIn (outside_between told middle last) other program next)
      → Tells found (plain program) r.fitting.lists r.fitting.counts s.fitting.lists s.fitting.counts → text_in p ≡ text_said (said_of found) → p.status ≡ status_said (said_of found)
      → IsComparedIn whole report other program p
  compared run next found p r s tells e d = record {
    first = replay_stays told first middle last report (other ∷ []) one two program r.fitting;
    second = replay_later told first middle last report (other ∷ []) one two same 0 other program s.fitting;
    said = said_of found;
    so = so_told found program r.fitting.lists s.fitting.lists r.fitting.counts s.fitting.counts tells;
    text = e;
    status = d;
  }

  pub refused_second : (told first).faults ≤ (told middle).faults → HasReplay (outside_between told first middle) 0 report program → (r : Refusal) → RefusedInReplay (outside_between told middle last) 0 Second other program r
      → RefusedInBoth whole report other program r
  refused_second later h r refused = inr (
    replay_stays told first middle last report (other ∷ []) one two program h,
    refused_later told first middle last report (other ∷ []) one two same 0 Second other program later r refused,
  )

-- a program, and then two reports of it
module _ {S : Type 0} (told : S → SourceTells) (first middle last : S) (file report other : List ℕ)
    (one : AsksOnce (outside_between told first middle) file) (two : AsksInTurn (outside_between told middle last) (report ∷ other ∷ [])) (program : Marked)
    (given : IsInFile (outside_between told first middle) file program) where
  abbrev all : Outside
  all = outside_between told first last

  stays : IsInFile all file program
  stays = program_stays told first middle last file (report ∷ other ∷ []) one two program given

  pub compare_reads : AsksInTurn all (file ∷ report ∷ other ∷ [])
  compare_reads = reads_on told first middle last file (report ∷ other ∷ []) one two MOST_PROGRAM_BYTES given.bytes given.text

  module _ (same : (told middle).content ≡ (told first).content) where
    ready : (p : Prepared) → IsComparedIn (outside_between told middle last) report other program p → IsReady all (Compares file report other) p
    ready p h = compare_is all file report other program (text_in p) p.status h.said stays (replay_later told first middle last file (report ∷ other ∷ []) one two same 0 report program h.first)
        (replay_later told first middle last file (report ∷ other ∷ []) one two same 1 other program h.second) h.so h.text h.status

    pub compare_ready : (r : Result Prepared Stop) → IfOk r (IsComparedIn (outside_between told middle last) report other program) → IfOk r (IsReady all (Compares file report other))
    compare_ready (Ok p) h = ready p h
    compare_ready (Err s) h = tt

    refused : (told first).faults ≤ (told middle).faults → (r : Refusal) → RefusedInBoth (outside_between told middle last) report other program r → HoldsFor all (Compares file report other) r
    refused later r (inl h) = first_refused all file report other program stays r (refused_later told first middle last file (report ∷ other ∷ []) one two same 0 First report program later r h)
    refused later r (inr h) =
        second_refused all file report other program stays (replay_later told first middle last file (report ∷ other ∷ []) one two same 0 report program h.0)
        r (refused_later told first middle last file (report ∷ other ∷ []) one two same 1 Second other program later r h.1)

    pub compare_stops : (told first).faults ≤ (told middle).faults → (r : Result Prepared Stop) → IfErr r (StopsInBoth (outside_between told middle last) report other program) → IfErr r (StopsTask all (Compares file report other))
    compare_stops later (Ok p) h = tt
    compare_stops later (Err s) h = refused later (refusal_of s) h
