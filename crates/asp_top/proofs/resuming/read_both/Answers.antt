use Rattle.std.proofs.Common.{[], ◌∷◌, inl, inr}
use Rattle.asp_model.specs.declared.limits.TheConstants.{MOST_PROGRAM_BYTES}
use Rattle.asp_top.specs.Seen.{outside_between}
use Rattle.asp_top.specs.Resumed.{StopsGiven}
use Rattle.asp_top.specs.Stops.{program_in, refusal_of}
use Rattle.asp_top.proofs.AskLemmas.{in_turn_once}
use Rattle.asp_top.proofs.PrepareLemmas.{program_stays, reads_on}
use Rattle.asp_top.proofs.StopLemmas.{stops_if}
use Rattle.asp_top.proofs.ResumedLemmas.{bytes_later, unread_later}
use Rattle.asp_top.proofs.resuming.read_both.Goals as goal

pub returns-in_err-program-clause-stop : goal.returns-in_err-program-clause-stop
returns-in_err-program-clause-stop g c =
    let o = outside_between g.S.Source.told c.args.source.now c.program_of.new.source in
    stops_if (StopsGiven o c.args.file.now c.args.checkpoint.now) c.from_residual.result c.in_err-program.field-0.0 c.from_residual.ensures.1 (inl c.in_err-program.ensures.stop)

pub returns-in_err-checkpoint-clause-stop : goal.returns-in_err-checkpoint-clause-stop
returns-in_err-checkpoint-clause-stop g c =
    let told = g.S.Source.told in
    let first = c.args.source.now in
    let middle = c.program_of.new.source in
    let last = c.checkpoint_of.new.source in
    let file = c.args.file.now in
    let name = c.args.checkpoint.now in
    let one = c.in_ok-program.ensures.asked in
    let two = in_turn_once (outside_between told middle last) name [] c.checkpoint_of.ensures.asked in
    let program = program_in c.in_ok-program.program in
    let given = program_stays told first middle last file (name ∷ []) one two program c.in_ok-program.ensures.program in
    let stop = c.in_err-checkpoint.field-0.0 in
    stops_if (StopsGiven (outside_between told first last) file name) c.from_residual-in_err-checkpoint.result stop c.from_residual-in_err-checkpoint.ensures.1
    (inr (program, given, unread_later told first middle last file name one two c.in_ok-program.ensures.same c.in_ok-program.ensures.later (refusal_of stop) c.in_err-checkpoint.ensures.stop))

pub returns-clause-given : goal.returns-clause-given
returns-clause-given g c =
    let told = g.S.Source.told in
    let first = c.args.source.now in
    let middle = c.program_of.new.source in
    let last = c.checkpoint_of.new.source in
    let file = c.args.file.now in
    let name = c.args.checkpoint.now in
    let one = c.in_ok-program.ensures.asked in
    let two = in_turn_once (outside_between told middle last) name [] c.checkpoint_of.ensures.asked in
    record {
      program = program_stays told first middle last file (name ∷ []) one two (program_in c.in_ok-program.program) c.in_ok-program.ensures.program;
      bytes = bytes_later told first middle last file name one two c.in_ok-program.ensures.same c.in_ok-checkpoint.checkpoint.items c.in_ok-checkpoint.ensures.file;
    }

pub returns-in_err-program-clause-reads : goal.returns-in_err-program-clause-reads
returns-in_err-program-clause-reads g c =
    in_turn_once (outside_between g.S.Source.told c.args.source.now c.program_of.new.source) c.args.file.now (c.args.checkpoint.now ∷ []) c.program_of.ensures.asked

pub returns-in_err-checkpoint-clause-reads : goal.returns-in_err-checkpoint-clause-reads
returns-in_err-checkpoint-clause-reads g c =
    let told = g.S.Source.told in
    let middle = c.program_of.new.source in
    let last = c.checkpoint_of.new.source in
    let two = in_turn_once (outside_between told middle last) c.args.checkpoint.now [] c.checkpoint_of.ensures.asked in
    reads_on told c.args.source.now middle last c.args.file.now (c.args.checkpoint.now ∷ []) c.in_ok-program.ensures.asked two MOST_PROGRAM_BYTES _ c.in_ok-program.ensures.program.text

pub returns-clause-reads : goal.returns-clause-reads
returns-clause-reads g c =
    let told = g.S.Source.told in
    let middle = c.program_of.new.source in
    let last = c.checkpoint_of.new.source in
    let two = in_turn_once (outside_between told middle last) c.args.checkpoint.now [] c.checkpoint_of.ensures.asked in
    reads_on told c.args.source.now middle last c.args.file.now (c.args.checkpoint.now ∷ []) c.in_ok-program.ensures.asked two MOST_PROGRAM_BYTES _ c.in_ok-program.ensures.program.text
