use Rattle.std.proofs.Common.{refl}
use Rattle.command_line.specs.Shapes.{settings_shape}
use Rattle.command_line.specs.Task.{Resumes}
use Rattle.asp_top.specs.Seen.{outside_between}
use Rattle.asp_top.specs.Stops.{StopsTask, program_in, refusal_of}
use Rattle.asp_top.specs.Ready.{text_in}
use Rattle.asp_top.proofs.StopLemmas.{stops_if}
use Rattle.asp_top.proofs.ResumedLemmas.{both_refused, resumed_is}
use Rattle.asp_top.proofs.resuming.prepare_resume.Goals as goal

pub returns-clause-answer : goal.returns-clause-answer
returns-clause-answer g c =
    let o = outside_between g.S.Source.told c.args.source.now c.resume_run.new.source in
    let ran = c.in_ok-end.ensures.ran in
    let told = c.in_ok-report.ensures in
    let p = c.in_ok-report.field-0 in
    resumed_is o c.args.file.now c.args.checkpoint.now (settings_shape c.args.settings) (program_in ran.both.program) ran.both.checkpoint.items ran.given.program ran.given.bytes c.args.depth c.in_ok-end.end (text_in p) p.status ran.run
    (told.text _ ran.run.end.end) told.status

pub returns-in_err-end-clause-stop : goal.returns-in_err-end-clause-stop
returns-in_err-end-clause-stop g c =
    let o = outside_between g.S.Source.told c.args.source.now c.resume_run.new.source in
    let task = Resumes c.args.file.now c.args.checkpoint.now (settings_shape c.args.settings) c.args.depth in
    let stop = c.in_err-end.field-0.0 in
    stops_if (StopsTask o task) c.from_residual.result stop c.from_residual.ensures.1
    (both_refused o task c.args.file.now c.args.checkpoint.now c.args.settings.budget (λ bytes f. f) refl (refl, refl) (λ program h. h) (refusal_of stop) c.in_err-end.ensures.stop)
