use Rattle.std.proofs.Common.{◌≡◌, ◌∙◌, List, ap, subst, sym}
use Rattle.code_table.specs.declared.code.Node.{Node}
use Rattle.def_paths.specs.Snapshots.{snapshot_of}
use Rattle.run_ends.specs.Ends.{IsSnapshotOf}
use Rattle.step_activity.specs.Actors.{IsClosedFor, Stands, code_of, log_in}
use Rattle.step_ends.proofs.outcome.end_of.Goals as goal

pub status_of-requires-clause-closed : goal.status_of-requires-clause-closed
status_of-requires-clause-closed c =
    let h : IsClosedFor c.as_mut-here.result.now = subst IsClosedFor (sym c.as_mut-here.ensures.value) c.requires.closed in
    record { activity = h.activity; received = h.received; stands = c.in_ok-settle.ensures.stands h.activity h.received h.stands; closed = h.closed; arguments = h.arguments }

pub returns : goal.returns
returns c = record {
  end = λ a rs h.
      let settled = c.in_ok-settle.ensures.stands a rs (subst (λ x. Stands x a rs) (sym c.as_mut-here.ensures.value) h) in
      let status = c.in_ok-status.ensures.status a rs c.args.name settled in
      let stands = subst (λ x. Stands x a rs) (sym c.into_inner.ensures) settled in
      let same : code_of c.into_inner.result ≡ code_of c.args.actor.value = ap code_of c.into_inner.ensures ∙ c.settle.ensures.code ∙ ap code_of c.as_mut-here.ensures.value in
      let log : log_in c.into_inner.result ≡ log_in c.args.actor.value = ap log_in c.into_inner.ensures ∙ c.settle.ensures.log ∙ ap log_in c.as_mut-here.ensures.value in (
        c.into_end.ensures.report a rs stands ∙ (λ i. record { name = c.args.name; count = a.reductions; status = status i; senders = log i; lines = a.lines }),
        subst (λ (k : List Node). IsSnapshotOf k c.into_end.result.1 (snapshot_of a)) same (c.into_end.ensures.state a rs stands),
      );
}
