use Rattle.std.proofs.Common.{◌≤◌, ap, sym, subst}
use Rattle.asp_model.specs.History.{HistoryShape}
use Rattle.asp_model.specs.Shapes.{tree_of}
use Rattle.asp_model.specs.declared.limits.TheConstants.{MOST_REDUCTIONS}
use Rattle.asp_core.specs.Cores.{history_of}
use Rattle.run_traces.proofs.TraceLemmas.{later_program}
use Rattle.run_traces.proofs.traced.run_traced.Goals as goal

pub written-requires-clause-within : goal.written-requires-clause-within
written-requires-clause-within g c =
    let same = later_program (history_of c.in_ok-core-2.core) (history_of c.in_ok-core.core) (tree_of c.args.program.now.program.root) c.args.settings.budget c.in_ok-core-2.ensures.begins c.in_ok-core.ensures.history in
    subst (λ n. n ≤ MOST_REDUCTIONS) (sym (ap (λ (h : HistoryShape). h.budget) same)) c.requires.within

pub returns : goal.returns
returns g c = record {
  traced = c.written.ensures.traced (tree_of c.args.program.now.program.root) c.args.settings.budget
      (later_program (history_of c.in_ok-core-2.core) (history_of c.in_ok-core.core) (tree_of c.args.program.now.program.root) c.args.settings.budget c.in_ok-core-2.ensures.begins c.in_ok-core.ensures.history);
}
