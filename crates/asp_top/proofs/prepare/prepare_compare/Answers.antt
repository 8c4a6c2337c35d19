use Rattle.std.proofs.Common.{[], ◌∷◌}
use Rattle.asp_top.proofs.AskLemmas.{in_turn_once}
use Rattle.asp_top.proofs.CompareLemmas.{compare_ready, compare_stops, compare_reads}
use Rattle.asp_top.specs.Seen.{outside_between}
use Rattle.asp_top.specs.Stops.{program_in}
use Rattle.asp_top.proofs.prepare.prepare_compare.Goals as goal

pub returns-clause-answer : goal.returns-clause-answer
returns-clause-answer g c =
    compare_ready g.S.Source.told c.args.source.now c.program_of.new.source c.compare_reports-compared.new.source c.args.file.now c.args.report.now c.args.other.now c.in_ok-checked.ensures.asked c.compare_reports-compared.ensures.reads
    (program_in c.in_ok-checked.checked) c.in_ok-checked.ensures.program c.in_ok-checked.ensures.same c.compare_reports-compared.result c.compare_reports-compared.ensures.answer

pub returns-clause-stop : goal.returns-clause-stop
returns-clause-stop g c =
    compare_stops g.S.Source.told c.args.source.now c.program_of.new.source c.compare_reports-compared.new.source c.args.file.now c.args.report.now c.args.other.now c.in_ok-checked.ensures.asked c.compare_reports-compared.ensures.reads
    (program_in c.in_ok-checked.checked) c.in_ok-checked.ensures.program c.in_ok-checked.ensures.same c.in_ok-checked.ensures.later c.compare_reports-compared.result c.compare_reports-compared.ensures.stop

pub returns-in_err-checked-clause-reads : goal.returns-in_err-checked-clause-reads
returns-in_err-checked-clause-reads g c =
    in_turn_once (outside_between g.S.Source.told c.args.source.now c.program_of.new.source) c.args.file.now (c.args.report.now ∷ c.args.other.now ∷ []) c.program_of.ensures.asked

pub returns-clause-reads : goal.returns-clause-reads
returns-clause-reads g c =
    compare_reads g.S.Source.told c.args.source.now c.program_of.new.source c.compare_reports-compared.new.source c.args.file.now c.args.report.now c.args.other.now c.in_ok-checked.ensures.asked c.compare_reports-compared.ensures.reads
    (program_in c.in_ok-checked.checked) c.in_ok-checked.ensures.program
