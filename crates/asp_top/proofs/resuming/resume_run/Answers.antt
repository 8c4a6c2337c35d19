use Rattle.asp_top.specs.Seen.{outside_between}
use Rattle.asp_top.specs.Resumed.{StopsBoth}
use Rattle.asp_top.specs.Stops.{file_stop, program_in, refusal_of}
use Rattle.asp_top.proofs.StopLemmas.{stops_if}
use Rattle.asp_top.proofs.ResumedLemmas.{given_stops, run_stops}
use Rattle.asp_top.proofs.resuming.resume_run.Goals as goal

pub returns-clause-ran : goal.returns-clause-ran
returns-clause-ran g c = record { both = c.in_ok-given.given; given = c.in_ok-given.ensures.given; run = c.in_ok-end.ensures.resumed }

pub returns-in_err-given-clause-stop : goal.returns-in_err-given-clause-stop
returns-in_err-given-clause-stop g c =
    let o = outside_between g.S.Source.told c.args.source.now c.read_both.new.source in
    let stop = c.in_err-given.field-0.0 in
    stops_if (StopsBoth o c.args.file.now c.args.checkpoint.now c.args.settings.budget) c.from_residual.result stop c.from_residual.ensures.1
    (given_stops o c.args.file.now c.args.checkpoint.now c.args.settings.budget (refusal_of stop) c.in_err-given.ensures.stop)

pub returns-in_err-end-clause-stop : goal.returns-in_err-end-clause-stop
returns-in_err-end-clause-stop g c =
    let o = outside_between g.S.Source.told c.args.source.now c.read_both.new.source in
    let stop = c.in_err-end.field-0.0 in
    let both = c.in_ok-given.given in
    let is = c.in_ok-given.ensures.given in
    stops_if (StopsBoth o c.args.file.now c.args.checkpoint.now c.args.settings.budget) c.from_residual-in_err-end.result (file_stop stop) c.from_residual-in_err-end.ensures.1
    (run_stops o c.args.file.now c.args.checkpoint.now c.args.settings.budget (program_in both.program) both.checkpoint.items is.program is.bytes stop c.in_err-end.ensures.stop)
