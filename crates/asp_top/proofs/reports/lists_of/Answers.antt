use Rattle.std.proofs.Common.{◌≡◌, ◌≤◌, rules, length, refl, ap, sym, subst, List, ℕ, ◌∙◌}
use Rattle.asp_model.specs.declared.limits.TheConstants.{MOST_REPORT_BYTES}
use Rattle.asp_model.specs.ReadReport.{read_report}
use Rattle.asp_top.specs.Seen.{outside_between}
use Rattle.sender_log.specs.Answers.{TellsOf}
use Rattle.asp_top.specs.Programs.{IsFile}
use Rattle.asp_top.specs.Replayed.{StopsInReport}
use Rattle.asp_top.proofs.AskLemmas.{first_file, first_fails, first_long}
use Rattle.asp_top.proofs.PrepareLemmas.{report_is_replayable, report_refused}
use Rattle.asp_top.proofs.reports.lists_of.Goals as goal

pub returns-in-Ok-read_report-clause-log : goal.returns-in-Ok-read_report-clause-log
returns-in-Ok-read_report-clause-log g c =
    let o = outside_between g.S.Source.told c.args.source.now c.read.new.self in
    let bytes = c.in-Ok.bytes.items in
    let read = c.in-Ok-read_report.ensures in
    let short : length bytes ≤ MOST_REPORT_BYTES = search rules in
    let file : IsFile o 0 c.args.name.now MOST_REPORT_BYTES bytes = first_file o c.args.name.now MOST_REPORT_BYTES bytes c.in-Ok.ensures.asked c.in-Ok.ensures.bytes short in
    let same : bytes ≡ c.deref.result.now = search rules in
    report_is_replayable o c.args.name.now bytes c.in-Ok-read_report.log file (ap read_report same ∙ read.ok) read.same read.ascending read.within

pub returns-in-Ok-clause-stop : goal.returns-in-Ok-clause-stop
returns-in-Ok-clause-stop g c =
    let o = outside_between g.S.Source.told c.args.source.now c.read.new.self in
    let bytes = c.in-Ok.bytes.items in
    let e = c.in-Err.error in
    let short : length bytes ≤ MOST_REPORT_BYTES = search rules in
    let file : IsFile o 0 c.args.name.now MOST_REPORT_BYTES bytes = first_file o c.args.name.now MOST_REPORT_BYTES bytes c.in-Ok.ensures.asked c.in-Ok.ensures.bytes short in
    let same : c.deref.result.now ≡ bytes = search rules in
    subst (StopsInReport o c.args.which c.args.name.now) (sym c.of_log.ensures)
    (report_refused o c.args.which c.args.name.now bytes e file (subst (λ (l : List ℕ). TellsOf (read_report l) e) same c.in-Err.ensures.bad_line))

pub returns-in-Err-Failed-clause-stop : goal.returns-in-Err-Failed-clause-stop
returns-in-Err-Failed-clause-stop g c =
    let o = outside_between g.S.Source.told c.args.source.now c.read.new.self in
    (refl, first_fails o c.args.name.now c.in-Err-Failed.field-0 c.in-Err-Failed.field-0-is c.in-Err-Failed.ensures.asked c.in-Err-Failed.ensures.cause)

pub returns-in-Err-TooLong-clause-stop : goal.returns-in-Err-TooLong-clause-stop
returns-in-Err-TooLong-clause-stop g c =
    let o = outside_between g.S.Source.told c.args.source.now c.read.new.self in
    (refl, first_long o c.args.name.now MOST_REPORT_BYTES c.in-Err-TooLong.field-0 _ c.in-Err-TooLong.field-0-is c.in-Err-TooLong.ensures.asked c.in-Err-TooLong.ensures.long)
