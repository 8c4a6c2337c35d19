use Rattle.std.proofs.Common.{[], ◌∷◌}
use Rattle.asp_model.specs.declared.limits.TheConstants.{MOST_PROGRAM_BYTES}
use Rattle.asp_model.specs.Marked.{plain}
use Rattle.command_line.specs.Task.{Traces}
use Rattle.asp_top.specs.Seen.{outside_between}
use Rattle.asp_top.specs.Stops.{StopsTask, program_in, refusal_of}
use Rattle.asp_top.specs.Ready.{text_in}
use Rattle.asp_top.proofs.StopLemmas.{stops_if}
use Rattle.asp_top.proofs.PrepareLemmas.{program_stays, reads_on}
use Rattle.asp_top.proofs.TracedLemmas.{trace_later, untraced, untraced_later}
use Rattle.asp_top.proofs.AskLemmas.{in_turn_once}
use Rattle.asp_top.proofs.OutcomeLemmas.{trace_is}
use Rattle.asp_top.proofs.prepare.prepare_trace.Goals as goal

pub returns-in_err-ended-clause-stop : goal.returns-in_err-ended-clause-stop
returns-in_err-ended-clause-stop g c =
    let told = g.S.Source.told in
    let first = c.args.source.now in
    let middle = c.program_of.new.source in
    let last = c.traced_in-ended.new.source in
    let file = c.args.file.now in
    let trace = c.args.trace.now in
    let one = c.in_ok-checked.ensures.asked in
    let two = in_turn_once (outside_between told middle last) trace [] c.traced_in-ended.ensures.asked in
    let o = outside_between told first last in
    let program = program_in c.in_ok-checked.checked in
    let given = program_stays told first middle last file (trace ∷ []) one two program c.in_ok-checked.ensures.program in
    let stop = c.in_err-ended.field-0.0 in
    stops_if (StopsTask o (Traces file trace c.args.budget c.args.depth)) c.from_residual-in_err-ended.result stop c.from_residual-in_err-ended.ensures.1
    (untraced o file trace c.args.budget c.args.depth program given (refusal_of stop)
    (untraced_later told first middle last file (trace ∷ []) one two c.in_ok-checked.ensures.same 0 trace (plain program) c.args.budget c.in_ok-checked.ensures.later (refusal_of stop) c.in_err-ended.ensures.stop))

pub returns-clause-answer : goal.returns-clause-answer
returns-clause-answer g c =
    let told = g.S.Source.told in
    let first = c.args.source.now in
    let middle = c.program_of.new.source in
    let last = c.traced_in-ended.new.source in
    let file = c.args.file.now in
    let trace = c.args.trace.now in
    let one = c.in_ok-checked.ensures.asked in
    let two = in_turn_once (outside_between told middle last) trace [] c.traced_in-ended.ensures.asked in
    let given = program_stays told first middle last file (trace ∷ []) one two (program_in c.in_ok-checked.checked) c.in_ok-checked.ensures.program in
    let ended = c.in_ok-ended.ensures.end in
    let old = trace_later told first middle last file (trace ∷ []) one two c.in_ok-checked.ensures.same 0 trace ended.entries ended.old in
    let written = c.in_ok-report_for.ensures in
    let p = c.in_ok-report_for.field-0 in
    trace_is (outside_between told first last) file trace c.args.budget c.args.depth c.in_ok-checked.checked ended.entries c.in_ok-ended.field-0 (text_in p) p.status given c.requires.within old ended.checked (written.text _ ended.checked.end) written.status

pub returns-in_err-checked-clause-reads : goal.returns-in_err-checked-clause-reads
returns-in_err-checked-clause-reads g c =
    in_turn_once (outside_between g.S.Source.told c.args.source.now c.program_of.new.source) c.args.file.now (c.args.trace.now ∷ []) c.program_of.ensures.asked

pub returns-in_err-ended-clause-reads : goal.returns-in_err-ended-clause-reads
returns-in_err-ended-clause-reads g c =
    let told = g.S.Source.told in
    let middle = c.program_of.new.source in
    let last = c.traced_in-ended.new.source in
    let two = in_turn_once (outside_between told middle last) c.args.trace.now [] c.traced_in-ended.ensures.asked in
    let text = c.in_ok-checked.ensures.program.text in
    reads_on told c.args.source.now middle last c.args.file.now (c.args.trace.now ∷ []) c.in_ok-checked.ensures.asked two MOST_PROGRAM_BYTES _ text

pub returns-in_err-report_for-clause-reads : goal.returns-in_err-report_for-clause-reads
returns-in_err-report_for-clause-reads g c =
    let told = g.S.Source.told in
    let middle = c.program_of.new.source in
    let last = c.traced_in-ended.new.source in
    let two = in_turn_once (outside_between told middle last) c.args.trace.now [] c.traced_in-ended.ensures.asked in
    let text = c.in_ok-checked.ensures.program.text in
    reads_on told c.args.source.now middle last c.args.file.now (c.args.trace.now ∷ []) c.in_ok-checked.ensures.asked two MOST_PROGRAM_BYTES _ text

pub returns-clause-reads : goal.returns-clause-reads
returns-clause-reads g c =
    let told = g.S.Source.told in
    let middle = c.program_of.new.source in
    let last = c.traced_in-ended.new.source in
    let two = in_turn_once (outside_between told middle last) c.args.trace.now [] c.traced_in-ended.ensures.asked in
    let text = c.in_ok-checked.ensures.program.text in
    reads_on told c.args.source.now middle last c.args.file.now (c.args.trace.now ∷ []) c.in_ok-checked.ensures.asked two MOST_PROGRAM_BYTES _ text
