use Rattle.std.proofs.Common.{refl}
use Rattle.command_line.specs.Shapes.{settings_shape}
use Rattle.command_line.specs.Task.{Rules}
use Rattle.asp_top.specs.Seen.{outside_between}
use Rattle.asp_top.specs.Stops.{StopsTask, refusal_of}
use Rattle.asp_top.specs.Ready.{text_in}
use Rattle.asp_top.proofs.StopLemmas.{no_program, stops_if}
use Rattle.asp_top.proofs.OutcomeLemmas.{ruled_is}
use Rattle.asp_top.proofs.prepare.prepare_ruled.Goals as goal

pub returns-clause-answer : goal.returns-clause-answer
returns-clause-answer g c =
    let o = outside_between g.S.Source.told c.args.source.now c.run_file.new.source in
    let ran = c.in_ok-end.ensures.ran in
    let told = c.in_ok-report.ensures in
    let p = c.in_ok-report.field-0 in
    ruled_is ran.checked (settings_shape c.args.settings) c.in_ok-end.end ran.run o c.args.file.now (text_in p) p.status ran.given c.requires.within (told.text _ ran.run.end) told.status

pub returns-in_err-end-clause-stop : goal.returns-in_err-end-clause-stop
returns-in_err-end-clause-stop g c =
    let o = outside_between g.S.Source.told c.args.source.now c.run_file.new.source in
    let task = Rules c.args.file.now (settings_shape c.args.settings) in
    let stop = c.in_err-end.field-0.0 in
    stops_if (StopsTask o task) c.from_residual.result stop c.from_residual.ensures.1
    (no_program o task c.args.file.now refl (λ bytes f. f) (refusal_of stop) c.in_err-end.ensures.stop)
