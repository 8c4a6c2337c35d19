use Rattle.std.proofs.Common.{refl}
use Rattle.command_line.specs.Shapes.{settings_shape}
use Rattle.command_line.specs.Task.{Journals}
use Rattle.asp_top.specs.Seen.{outside_between}
use Rattle.asp_top.specs.Stops.{StopsTask, refusal_of}
use Rattle.asp_top.specs.Ready.{text_of_all}
use Rattle.asp_top.proofs.StopLemmas.{no_program, stops_if}
use Rattle.asp_top.proofs.OutcomeLemmas.{journal_is}
use Rattle.asp_top.proofs.prepare.prepare_journal.Goals as goal

pub returns-clause-answer : goal.returns-clause-answer
returns-clause-answer g c =
    let o = outside_between g.S.Source.told c.args.source.now c.trace_file.new.source in
    let ran = c.in_ok-traced.ensures.ran in
    journal_is o c.args.file.now ran.checked (settings_shape c.args.settings) c.in_ok-traced.traced (text_of_all c.in_ok-traced.traced.pieces.items) c.exit_number-status.result ran.run ran.given refl c.exit_number-status.ensures.status

pub returns-in_err-traced-clause-stop : goal.returns-in_err-traced-clause-stop
returns-in_err-traced-clause-stop g c =
    let o = outside_between g.S.Source.told c.args.source.now c.trace_file.new.source in
    let task = Journals c.args.file.now (settings_shape c.args.settings) in
    let stop = c.in_err-traced.field-0.0 in
    stops_if (StopsTask o task) c.from_residual.result stop c.from_residual.ensures.1
    (no_program o task c.args.file.now refl (λ bytes f. f) (refusal_of stop) c.in_err-traced.ensures.stop)
