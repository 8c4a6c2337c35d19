use Rattle.std.proofs.Common.{refl}
use Rattle.command_line.specs.Shapes.{settings_shape}
use Rattle.command_line.specs.Task.{Saves}
use Rattle.asp_top.specs.Seen.{outside_between}
use Rattle.asp_top.specs.Stops.{StopsTask, refusal_of}
use Rattle.asp_top.proofs.StopLemmas.{no_program, stops_if}
use Rattle.asp_top.proofs.OutcomeLemmas.{left_is}
use Rattle.asp_top.proofs.saving.prepare_save.Goals as goal

pub returns-clause-answer : goal.returns-clause-answer
returns-clause-answer g c =
    let o = outside_between g.S.Source.told c.args.source.now c.save_file.new.source in
    let ran = c.in_ok-saved.ensures.ran in
    left_is o c.args.file.now ran.checked (settings_shape c.args.settings) c.in_ok-saved.saved c.in_ok-left_for.field-0 ran.run ran.given c.requires.within c.in_ok-left_for.ensures.left

pub returns-in_err-saved-clause-stop : goal.returns-in_err-saved-clause-stop
returns-in_err-saved-clause-stop g c =
    let o = outside_between g.S.Source.told c.args.source.now c.save_file.new.source in
    let task = Saves c.args.file.now (settings_shape c.args.settings) in
    let stop = c.in_err-saved.field-0.0 in
    stops_if (StopsTask o task) c.from_residual.result stop c.from_residual.ensures.1
    (no_program o task c.args.file.now refl (λ bytes f. f) (refusal_of stop) c.in_err-saved.ensures.stop)
