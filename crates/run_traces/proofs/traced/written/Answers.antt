use Rattle.std.proofs.Common.{◌≤◌, ap, subst}
use Rattle.asp_model.specs.History.{HistoryShape}
use Rattle.asp_model.specs.declared.limits.TheConstants.{MOST_REDUCTIONS}
use Rattle.run_traces.proofs.TraceLemmas.{is_traced}
use Rattle.run_traces.proofs.traced.written.Goals as goal

pub returns-in_ok-end-in-Ok : goal.returns-in_ok-end-in-Ok
returns-in_ok-end-in-Ok g c = record {
  traced = λ program budget of.
      let over = c.requires.over in
      let small : budget ≤ MOST_REDUCTIONS = subst (λ n. n ≤ MOST_REDUCTIONS) (ap (λ (h : HistoryShape). h.budget) of) c.requires.within in
      is_traced c.args.core over program budget of _ c.journal.result.now c.journal.ensures.entries small c.in-Ok.ensures.numbers c.in-Ok.ensures.text (c.in_ok-end-in-Ok.ensures.outcome over.run over.is);
}
