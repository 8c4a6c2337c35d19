use Rattle.std.proofs.Common.{◌≡◌, ◌≤◌, rules, length, refl, ap, subst, List, ℕ, ◌∙◌}
use Rattle.asp_model.specs.declared.limits.TheConstants.{MOST_REPORT_BYTES}
use Rattle.asp_model.specs.ReadReport.{BadLine, read_report}
use Rattle.asp_top.specs.Seen.{outside_between}
use Rattle.sender_log.specs.Answers.{TellsOf}
use Rattle.asp_top.specs.Programs.{IsFile}
use Rattle.asp_top.proofs.AskLemmas.{first_file, first_fails, first_long}
use Rattle.asp_top.proofs.PrepareLemmas.{report_is_replayable}
use Rattle.outcomes_top.proofs.given.logs_in.Goals as goal

pub returns-in-Ok-read_report-clause-log : goal.returns-in-Ok-read_report-clause-log
returns-in-Ok-read_report-clause-log g c =
    let o = outside_between g.S.Source.told c.args.source.now c.read.new.self in
    let bytes = c.in-Ok.bytes.items in
    let read = c.in-Ok-read_report.ensures in
    let short : length bytes ≤ MOST_REPORT_BYTES = search rules in
    let file : IsFile o 0 c.args.name.now MOST_REPORT_BYTES bytes = first_file o c.args.name.now MOST_REPORT_BYTES bytes c.in-Ok.ensures.asked c.in-Ok.ensures.bytes short in
    let same : bytes ≡ c.deref.result.now = search rules in
    report_is_replayable o c.args.name.now bytes c.in-Ok-read_report.log file (ap read_report same ∙ read.ok) read.same read.ascending read.within

pub returns-in-Err-BadLine-clause-halt : goal.returns-in-Err-BadLine-clause-halt
returns-in-Err-BadLine-clause-halt g c = λ program.
    let o = outside_between g.S.Source.told c.args.source.now c.read.new.self in
    let bytes = c.in-Ok.bytes.items in
    let short : length bytes ≤ MOST_REPORT_BYTES = search rules in
    let file : IsFile o 0 c.args.name.now MOST_REPORT_BYTES bytes = first_file o c.args.name.now MOST_REPORT_BYTES bytes c.in-Ok.ensures.asked c.in-Ok.ensures.bytes short in
    let same : c.deref.result.now ≡ bytes = search rules in
    let told : read_report c.deref.result.now ≡ BadLine c.in-Err-BadLine.line = subst (TellsOf (read_report c.deref.result.now)) c.in-Err-BadLine.field-0-is c.in-Err-BadLine.ensures.bad_line in
    (refl, (bytes, file, subst (λ (l : List ℕ). read_report l ≡ BadLine c.in-Err-BadLine.line) same told))

pub returns-in-Err-Failed-clause-halt : goal.returns-in-Err-Failed-clause-halt
returns-in-Err-Failed-clause-halt g c = λ program.
    let o = outside_between g.S.Source.told c.args.source.now c.read.new.self in
    (refl, first_fails o c.args.name.now c.in-Err-Failed.field-0 c.in-Err-Failed.field-0-is c.in-Err-Failed.ensures.asked c.in-Err-Failed.ensures.cause)

pub returns-in-Err-TooLong-clause-halt : goal.returns-in-Err-TooLong-clause-halt
returns-in-Err-TooLong-clause-halt g c = λ program.
    let o = outside_between g.S.Source.told c.args.source.now c.read.new.self in
    (refl, first_long o c.args.name.now MOST_REPORT_BYTES c.in-Err-TooLong.field-0 _ c.in-Err-TooLong.field-0-is c.in-Err-TooLong.ensures.asked c.in-Err-TooLong.ensures.long)
