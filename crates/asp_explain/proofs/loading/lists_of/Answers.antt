use Rattle.std.proofs.Common.{◌≡◌, rules, ap, sym, subst, ◌∙◌, List, [], ℕ}
use Rattle.asp_model.specs.ReadReport.{read_report}
use Rattle.asp_model.specs.Shapes.{counts_shape, lists_shape}
use Rattle.replay_one.proofs.DifferenceLemmas.{replayable_by}
use Rattle.sender_log.specs.Answers.{TellsOf}
use Rattle.asp_explain.specs.declared.stop.Stop.{Stop}
use Rattle.asp_explain.specs.Given.{StopsAtReport}
use Rattle.asp_explain.specs.Refusals.{refusal_of}
use Rattle.asp_explain.specs.Seen.{outside_between}
use Rattle.asp_explain.proofs.GivenLemmas.{report_refused}
use Rattle.asp_explain.proofs.loading.lists_of.Goals as goal

pub returns-in-Ok-read_report-clause-log : goal.returns-in-Ok-read_report-clause-log
returns-in-Ok-read_report-clause-log g c =
    let bytes = c.in-Ok.bytes.items in
    let read = c.in-Ok-read_report.ensures in
    let log = c.in-Ok-read_report.log in
    let same : bytes ≡ c.deref.result.now = search rules in
    record {
      bytes = bytes;
      asked = c.in-Ok.ensures.asked;
      reads = ap read_report same ∙ read.ok;
      replayable = replayable_by (lists_shape log.0) (counts_shape log.1) read.same read.ascending read.within;
    }

pub returns-in-Ok-clause-stop : goal.returns-in-Ok-clause-stop
returns-in-Ok-clause-stop g c =
    let o = outside_between g.S.Source.told c.args.source.now c.read.new.self in
    let bytes = c.in-Ok.bytes.items in
    let e = c.in-Err.error in
    let same : c.deref.result.now ≡ bytes = search rules in
    subst (λ (s : Stop). StopsAtReport o [] c.args.which c.args.name.now (refusal_of s)) (sym c.of_log.ensures)
    (report_refused o c.args.which c.args.name.now bytes e c.in-Ok.ensures.asked (subst (λ (l : List ℕ). TellsOf (read_report l) e) same c.in-Err.ensures.bad_line))
