-- The reports of runs that went on from files.
use Rattle.std.proofs.Common.{◌≡◌, ℕ, ◌+◌, ◌≤◌, List, [], ◌∷◌, map, Option, refl, sym, ap, ◌∙◌, arith}
use Rattle.asp_model.specs.declared.limits.TheConstants.{MOST_REDUCTIONS}
use Rattle.asp_model.specs.Names.{FutureShape}
use Rattle.asp_model.specs.Term.{Tree}
use Rattle.asp_model.specs.Marked.{plain}
use Rattle.asp_model.specs.Chase.{Chase}
use Rattle.asp_model.specs.Configuration.{Configuration}
use Rattle.asp_model.specs.Outcome.{outcome_of, exit_status}
use Rattle.asp_model.specs.Replay.{counts_of, lists_of, total}
use Rattle.asp_model.specs.Report.{text_of}
use Rattle.asp_model.specs.ReadReport.{read_report}
use Rattle.def_paths.specs.Agree.{Pairs, no_pair, pair}
use Rattle.def_paths.specs.Outcomes.{EndShape, EndsAgree, OutcomesAgree, reported, whole_outcome_of}
use Rattle.law_journals.specs.Budgets.{granted_in}
use Rattle.law_frozen.specs.Frozen.{thawed}
use Rattle.law_outcomes.specs.Texts.{HasPrintableTexts}
use Rattle.law_outcomes.proofs.OutcomeLemmas.{reported_is}
use Rattle.law_outcomes.proofs.ProgramLaws.{program_texts_are_printable}
use Rattle.law_outcomes.proofs.ReportLaws.{replay_reports_are_read}
use Rattle.law_checkpoints.specs.Resumed.{TellsReplay, replayed}
use Rattle.law_program_files.specs.Reports.{FilesReportReplays, ReportsReplay}
use Rattle.law_program_files.proofs.ProgramLaws.{programs_are_resumed}

-- outcomes that agree report the same

same_reports : (k l : FutureShape → Chase) (xs ys : List EndShape) → Pairs (EndsAgree k l) xs ys
    → map (λ (e : EndShape). e.report) xs ≡ map (λ (e : EndShape). e.report) ys
same_reports k l _ _ no_pair = refl
same_reports k l _ _ (pair {xs = xs} {ys = ys} x more) = λ i. x.0 i ∷ same_reports k l xs ys more i

same_outcome : (c d : Configuration) → OutcomesAgree (whole_outcome_of c) (whole_outcome_of d)
    → outcome_of c ≡ outcome_of d
same_outcome c d h =
    let reports = same_reports _ _ (whole_outcome_of c).ends (whole_outcome_of d).ends h.ends in
    let both : reported (whole_outcome_of c) ≡ reported (whole_outcome_of d) =
    λ i. record { verdict = h.verdict i; activities = reports i } in
    sym (reported_is c) ∙ both ∙ reported_is d

told : (program : Tree) (depth : Option ℕ) (d : Configuration) → HasPrintableTexts program → TellsReplay program d
    → total (counts_of d) ≤ MOST_REDUCTIONS → ReportsReplay program depth d
told program depth d texts h few =
    let same = ap text_of (h.reports depth) in
    record {
      read = ap read_report same ∙ replay_reports_are_read depth program (lists_of d) (counts_of d) texts h.fits few;
      same = same;
      status = ap exit_status (same_outcome d (replayed program d) h.outcomes);
    }

pub files_report_replays : FilesReportReplays
files_report_replays bytes saved program f budget entries t depth p checked file e few goes =
    let one = (programs_are_resumed bytes saved program f p checked file e).one budget entries t goes in
    let now : ℕ = total (counts_of t.configuration) in
    let before : ℕ = total (counts_of (thawed f)) in
    let kept : now + (t.left + granted_in t.out) ≡ before + budget = one.spends in
    let within : before + budget ≤ MOST_REDUCTIONS = few in
    told (plain program) depth t.configuration (program_texts_are_printable bytes program p) one.tells
    (omega (arith, kept, within))
