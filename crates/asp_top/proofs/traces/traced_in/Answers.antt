use Rattle.std.proofs.Common.{List, map, subst}
use Rattle.asp_model.specs.declared.journal.Entry.{Entry}
use Rattle.asp_model.specs.Shapes.{entry_shape, tree_of}
use Rattle.trace_check.specs.Checks.{IsCheckedEnd, IsStop}
use Rattle.asp_top.specs.Seen.{outside_between}
use Rattle.asp_top.specs.Stops.{checked_stop, refusal_of}
use Rattle.asp_top.specs.Traced.{StopsInRun}
use Rattle.asp_top.proofs.StopLemmas.{stops_if}
use Rattle.asp_top.proofs.TracedLemmas.{run_stops, trace_stops}
use Rattle.asp_top.proofs.traces.traced_in.Goals as goal

pub returns-in_err-entries-clause-stop : goal.returns-in_err-entries-clause-stop
returns-in_err-entries-clause-stop g c =
    let o = outside_between g.S.Source.told c.args.source.now c.entries_of.new.source in
    let term = tree_of c.args.program.now.program.root in
    let stop = c.in_err-entries.field-0.0 in
    stops_if (StopsInRun o c.args.name.now term c.args.budget) c.from_residual.result stop c.from_residual.ensures.1
    (trace_stops o 0 c.args.name.now term c.args.budget (refusal_of stop) c.in_err-entries.ensures.stop)

pub returns-in_err-check_trace-clause-stop : goal.returns-in_err-check_trace-clause-stop
returns-in_err-check_trace-clause-stop g c =
    let o = outside_between g.S.Source.told c.args.source.now c.entries_of.new.source in
    let term = tree_of c.args.program.now.program.root in
    let stop = c.in_err-check_trace.field-0.0 in
    let own = subst (λ (es : List Entry). IsStop term c.args.budget (map entry_shape es) stop) c.deref.ensures.value c.in_err-check_trace.ensures.stop in
    stops_if (StopsInRun o c.args.name.now term c.args.budget) c.from_residual-in_err-check_trace.result (checked_stop stop) c.from_residual-in_err-check_trace.ensures.1
    (run_stops o c.args.name.now term c.args.budget (map entry_shape c.in_ok-entries.entries.items) c.in_ok-entries.ensures.entries stop own)

pub returns-clause-end : goal.returns-clause-end
returns-clause-end g c = record {
  entries = map entry_shape c.in_ok-entries.entries.items;
  old = c.in_ok-entries.ensures.entries;
  checked = subst (λ (es : List Entry). IsCheckedEnd (tree_of c.args.program.now.program.root) c.args.budget (map entry_shape es) c.in_ok-check_trace.field-0) c.deref.ensures.value c.in_ok-check_trace.ensures.checked;
}
