use Rattle.std.proofs.Common.{[], ◌∷◌}
use Rattle.asp_model.specs.declared.limits.TheConstants.{MOST_PROGRAM_BYTES}
use Rattle.asp_model.specs.Shapes.{outcome_shape}
use Rattle.command_line.specs.Task.{Replays}
use Rattle.asp_top.specs.Seen.{outside_between}
use Rattle.asp_top.specs.Stops.{StopsTask, program_in, refusal_of}
use Rattle.asp_top.specs.Ready.{text_in}
use Rattle.asp_top.specs.declared.stop.Which.TheVariants.{First}
use Rattle.asp_top.proofs.StopLemmas.{no_program, stops_if}
use Rattle.asp_top.proofs.PrepareLemmas.{program_stays, reads_on, refused_later, replay_later, replay_refused}
use Rattle.asp_top.proofs.AskLemmas.{in_turn_once}
use Rattle.asp_top.proofs.OutcomeLemmas.{replay_is}
use Rattle.asp_top.proofs.prepare.prepare_replay.Goals as goal

pub returns-in_err-end-clause-stop : goal.returns-in_err-end-clause-stop
returns-in_err-end-clause-stop g c =
    let told = g.S.Source.told in
    let first = c.args.source.now in
    let middle = c.program_of.new.source in
    let last = c.end_in-end.new.source in
    let file = c.args.file.now in
    let report = c.args.report.now in
    let one = c.in_ok-checked.ensures.asked in
    let two = in_turn_once (outside_between told middle last) report [] c.end_in-end.ensures.asked in
    let o = outside_between told first last in
    let program = program_in c.in_ok-checked.checked in
    let given = program_stays told first middle last file (report ∷ []) one two program c.in_ok-checked.ensures.program in
    let stop = c.in_err-end.field-0.0 in
    stops_if (StopsTask o (Replays file report c.args.depth)) c.from_residual-in_err-end.result stop c.from_residual-in_err-end.ensures.1
    (replay_refused o file report c.args.depth program given (refusal_of stop)
    (refused_later told first middle last file (report ∷ []) one two c.in_ok-checked.ensures.same 0 First report program c.in_ok-checked.ensures.later (refusal_of stop) c.in_err-end.ensures.stop))

pub returns-clause-answer : goal.returns-clause-answer
returns-clause-answer g c =
    let told = g.S.Source.told in
    let first = c.args.source.now in
    let middle = c.program_of.new.source in
    let last = c.end_in-end.new.source in
    let file = c.args.file.now in
    let report = c.args.report.now in
    let one = c.in_ok-checked.ensures.asked in
    let two = in_turn_once (outside_between told middle last) report [] c.end_in-end.ensures.asked in
    let program = program_in c.in_ok-checked.checked in
    let given = program_stays told first middle last file (report ∷ []) one two program c.in_ok-checked.ensures.program in
    let played = c.in_ok-end.ensures.end in
    let fitting = replay_later told first middle last file (report ∷ []) one two c.in_ok-checked.ensures.same 0 report program played.fitting in
    let written = c.in_ok-report_for.ensures in
    let p = c.in_ok-report_for.field-0 in
    replay_is (outside_between told first last) file report c.args.depth program (outcome_shape c.in_ok-end.field-0.outcome) (text_in p) p.status given fitting played.outcome (written.text _ played.end) written.status

pub returns-in_err-checked-clause-reads : goal.returns-in_err-checked-clause-reads
returns-in_err-checked-clause-reads g c =
    in_turn_once (outside_between g.S.Source.told c.args.source.now c.program_of.new.source) c.args.file.now (c.args.report.now ∷ []) c.program_of.ensures.asked

pub returns-in_err-end-clause-reads : goal.returns-in_err-end-clause-reads
returns-in_err-end-clause-reads g c =
    let told = g.S.Source.told in
    let middle = c.program_of.new.source in
    let last = c.end_in-end.new.source in
    let two = in_turn_once (outside_between told middle last) c.args.report.now [] c.end_in-end.ensures.asked in
    let text = c.in_ok-checked.ensures.program.text in
    reads_on told c.args.source.now middle last c.args.file.now (c.args.report.now ∷ []) c.in_ok-checked.ensures.asked two MOST_PROGRAM_BYTES _ text

pub returns-in_err-report_for-clause-reads : goal.returns-in_err-report_for-clause-reads
returns-in_err-report_for-clause-reads g c =
    let told = g.S.Source.told in
    let middle = c.program_of.new.source in
    let last = c.end_in-end.new.source in
    let two = in_turn_once (outside_between told middle last) c.args.report.now [] c.end_in-end.ensures.asked in
    let text = c.in_ok-checked.ensures.program.text in
    reads_on told c.args.source.now middle last c.args.file.now (c.args.report.now ∷ []) c.in_ok-checked.ensures.asked two MOST_PROGRAM_BYTES _ text

pub returns-clause-reads : goal.returns-clause-reads
returns-clause-reads g c =
    let told = g.S.Source.told in
    let middle = c.program_of.new.source in
    let last = c.end_in-end.new.source in
    let two = in_turn_once (outside_between told middle last) c.args.report.now [] c.end_in-end.ensures.asked in
    let text = c.in_ok-checked.ensures.program.text in
    reads_on told c.args.source.now middle last c.args.file.now (c.args.report.now ∷ []) c.in_ok-checked.ensures.asked two MOST_PROGRAM_BYTES _ text
