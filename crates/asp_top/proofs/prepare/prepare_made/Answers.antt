use Rattle.std.proofs.Common.{◌≡◌, ◌∙◌}
use Rattle.load_gen.specs.Generated.{generated}
use Rattle.command_line.specs.Shapes.{settings_shape}
use Rattle.command_line.specs.Task.{Makes}
use Rattle.asp_top.specs.Stops.{StopsTask, refusal_of}
use Rattle.asp_top.specs.Ready.{text_in}
use Rattle.asp_top.proofs.StopLemmas.{stops_if}
use Rattle.asp_top.proofs.PrepareLemmas.{made_stops}
use Rattle.asp_top.proofs.OutcomeLemmas.{made_is}
use Rattle.asp_top.proofs.prepare.prepare_made.Goals as goal

pub returns-in_err-program-clause-stop : goal.returns-in_err-program-clause-stop
returns-in_err-program-clause-stop g c = λ o.
    let made : c.as_bytes.result.now ≡ generated c.args.pairs = c.as_bytes.ensures.value ∙ c.in_ok-text.ensures.program in
    let settings = settings_shape c.args.settings in
    let stop = c.in_err-program.field-0.0 in
    stops_if (StopsTask o (Makes c.args.pairs settings)) c.from_residual-in_err-program.result stop c.from_residual-in_err-program.ensures.1
    (made_stops o c.args.pairs settings c.as_bytes.result.now made (refusal_of stop) c.in_err-program.ensures.stop)

pub returns-clause-answer : goal.returns-clause-answer
returns-clause-answer g c = λ o.
    let made : c.as_bytes.result.now ≡ generated c.args.pairs = c.as_bytes.ensures.value ∙ c.in_ok-text.ensures.program in
    let ran = c.in_ok-end.ensures.end in
    let told = c.in_ok-summary_for.ensures in
    let p = c.in_ok-summary_for.field-0 in
    made_is c.in_ok-program.program (settings_shape c.args.settings) c.in_ok-end.end ran o c.args.pairs c.as_bytes.result.now (text_in p) p.status made c.in_ok-program.ensures.checked told.text told.status
