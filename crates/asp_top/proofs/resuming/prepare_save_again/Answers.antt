use Rattle.std.proofs.Common.{refl}
use Rattle.command_line.specs.Shapes.{settings_shape}
use Rattle.command_line.specs.Task.{SavesAgain}
use Rattle.asp_top.specs.Seen.{outside_between}
use Rattle.asp_top.specs.Stops.{StopsTask, program_in, refusal_of}
use Rattle.asp_top.proofs.StopLemmas.{stops_if}
use Rattle.asp_top.proofs.ResumedLemmas.{both_refused, left_again_is}
use Rattle.asp_top.proofs.resuming.prepare_save_again.Goals as goal

pub returns-clause-answer : goal.returns-clause-answer
returns-clause-answer g c =
    let o = outside_between g.S.Source.told c.args.source.now c.save_again.new.source in
    let ran = c.in_ok-saved.ensures.ran in
    left_again_is o c.args.file.now c.args.checkpoint.now (settings_shape c.args.settings) (program_in ran.both.program) ran.both.checkpoint.items ran.given.program ran.given.bytes c.in_ok-saved.saved c.in_ok-left_for.field-0 ran.run
    c.in_ok-left_for.ensures.left

pub returns-in_err-saved-clause-stop : goal.returns-in_err-saved-clause-stop
returns-in_err-saved-clause-stop g c =
    let o = outside_between g.S.Source.told c.args.source.now c.save_again.new.source in
    let task = SavesAgain c.args.file.now c.args.checkpoint.now (settings_shape c.args.settings) in
    let stop = c.in_err-saved.field-0.0 in
    stops_if (StopsTask o task) c.from_residual.result stop c.from_residual.ensures.1
    (both_refused o task c.args.file.now c.args.checkpoint.now c.args.settings.budget (λ bytes f. f) refl (refl, refl) (λ program h. h) (refusal_of stop) c.in_err-saved.ensures.stop)
