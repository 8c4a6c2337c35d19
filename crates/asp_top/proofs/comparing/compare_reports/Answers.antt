use Rattle.std.proofs.Common.{[], ◌∷◌, inl}
use Rattle.asp_model.specs.declared.limits.TheConstants.{MOST_REPORT_BYTES}
use Rattle.asp_top.specs.Seen.{outside_between}
use Rattle.asp_top.specs.Stops.{program_in, refusal_of}
use Rattle.asp_top.specs.Replayed.{StopsInBoth}
use Rattle.asp_top.proofs.StopLemmas.{stops_if}
use Rattle.asp_top.proofs.AskLemmas.{in_turn_once}
use Rattle.asp_top.proofs.PrepareLemmas.{reads_on}
use Rattle.asp_top.proofs.CompareLemmas.{compared, refused_second}
use Rattle.asp_top.proofs.comparing.compare_reports.Goals as goal

pub returns-in_err-first-clause-stop : goal.returns-in_err-first-clause-stop
returns-in_err-first-clause-stop g c =
    let o = outside_between g.S.Source.told c.args.source.now c.services_in.new.source in
    let stop = c.in_err-first.field-0.0 in
    stops_if (StopsInBoth o c.args.report.now c.args.other.now (program_in c.args.program.now)) c.from_residual.result stop c.from_residual.ensures.1
    (inl c.in_err-first.ensures.stop)

pub returns-in_err-second-clause-stop : goal.returns-in_err-second-clause-stop
returns-in_err-second-clause-stop g c =
    let told = g.S.Source.told in
    let first = c.args.source.now in
    let middle = c.services_in.new.source in
    let last = c.services_in-2.new.source in
    let o = outside_between told first last in
    let program = program_in c.args.program.now in
    let stop = c.in_err-second.field-0.0 in
    let one = c.in_ok-first.ensures.asked in
    let two = in_turn_once (outside_between told middle last) c.args.other.now [] c.services_in-2.ensures.asked in
    stops_if (StopsInBoth o c.args.report.now c.args.other.now program) c.from_residual-in_err-second.result stop c.from_residual-in_err-second.ensures.1
    (refused_second told first middle last c.args.report.now c.args.other.now one two program c.in_ok-first.ensures.same c.in_ok-first.ensures.later c.in_ok-first.ensures.run.fitting (refusal_of stop) c.in_err-second.ensures.stop)

pub returns-clause-answer : goal.returns-clause-answer
returns-clause-answer g c =
    let told = g.S.Source.told in
    let first = c.args.source.now in
    let middle = c.services_in.new.source in
    let last = c.services_in-2.new.source in
    let program = program_in c.args.program.now in
    let one = c.in_ok-first.ensures.asked in
    let two = in_turn_once (outside_between told middle last) c.args.other.now [] c.in_ok-second.ensures.asked in
    let r = c.in_ok-first.ensures.run in
    let s = c.in_ok-second.ensures.run in
    let told_so = c.compare.ensures.tells _ r.fitting.lists s.fitting.lists r.fitting.counts s.fitting.counts r.run s.run in
    compared told first middle last c.args.report.now c.args.other.now one two program c.in_ok-first.ensures.same c.in_ok-first.first c.in_ok-second.second c.compare.result c.in_ok-text_for.field-0 r s told_so
    c.in_ok-text_for.ensures.text c.in_ok-text_for.ensures.status

pub returns-in_err-first-clause-reads : goal.returns-in_err-first-clause-reads
returns-in_err-first-clause-reads g c =
    in_turn_once (outside_between g.S.Source.told c.args.source.now c.services_in.new.source) c.args.report.now (c.args.other.now ∷ []) c.services_in.ensures.asked

pub returns-clause-reads : goal.returns-clause-reads
returns-clause-reads g c =
    let told = g.S.Source.told in
    let middle = c.services_in.new.source in
    let last = c.services_in-2.new.source in
    let two = in_turn_once (outside_between told middle last) c.args.other.now [] c.services_in-2.ensures.asked in
    reads_on told c.args.source.now middle last c.args.report.now (c.args.other.now ∷ []) c.in_ok-first.ensures.asked two MOST_REPORT_BYTES _ c.in_ok-first.ensures.run.fitting.old.file
